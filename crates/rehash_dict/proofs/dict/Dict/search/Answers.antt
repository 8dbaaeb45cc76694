use Rattle.std.proofs.Common.{◌≡◌, inl, inr, ◌<◌, ◌%◌, ◌++◌, ◌∷◌, [], ◌∙◌, ℕ, List, length, Some, sym, ap, subst, refl, arith, append_assoc, append-nil}
use Rattle.std.proofs.lemmas.Bool.{cases_eq}
use Rattle.rev_cursor.specs.Span.{times}
use Rattle.rehash_dict.specs.Tables.{bucket}
use Rattle.rehash_dict.specs.Placed.{IsSize}
use Rattle.rehash_dict.specs.Chains.{chain_left}
use Rattle.rehash_dict.specs.Sides.{last_of, side_rows}
use Rattle.rehash_dict.specs.Steps.{table_rows, IsOther}
use Rattle.rehash_dict.proofs.Counts.{times-append, times_past}
use Rattle.rehash_dict.proofs.Edited.{side_table, side_size, spot_found}
use Rattle.rehash_dict.proofs.dict.Dict.search.Goals as goal

pub bucket_of-requires-clause-size : goal.bucket_of-requires-clause-size
bucket_of-requires-clause-size g c = subst IsSize (sym c.buckets-buckets.ensures) (side_size c.args.side c.self.inside.chains c.self.invariant.kept.stand)

pub loop-at-init : goal.loop-at-init
loop-at-init g c = record { row = refl; last = refl; none = λ at h. absurd (omega arith) }

last-append : (xs : List ℕ) (x : ℕ) → Some x ≡ last_of (xs ++ x ∷ [])
last-append [] x = refl
last-append (y ∷ []) x = refl
last-append (y ∷ z ∷ zs) x = last-append (z ∷ zs) x

pub loop-at-preserved : goal.loop-at-preserved
loop-at-preserved g c = record {
  row = append_assoc c.loop-at.yielded (c.in-Some.at ∷ []) _ ∙ ap (λ r. c.loop-at.yielded ++ r) (sym c.in-Some.ensures.steps) ∙ c.loop-at.invariant.row;
  last = last-append c.loop-at.yielded c.in-Some.at;
  none = λ at h. elim (cases_eq c.in-Some.at at) [
    | inl here ↦ subst (IsOther (g.B.BlockStore.blocks c.args.store.now) c.args.self.now c.args.hash c.args.key.now) here c.if-has_key.ensures
    | inr other ↦ c.loop-at.invariant.none at (omega (arith, h, times-append at c.loop-at.yielded (c.in-Some.at ∷ []), times_past at c.in-Some.at [] other))
  ];
}

pub returns-then-has_key-clause-found : goal.returns-then-has_key-clause-found
returns-then-has_key-clause-found g c =
    let rows : side_rows c.args.side c.self.inside.chains ≡ table_rows c.args.side c.args.self.now =
    side_table c.args.side c.self.inside.chains c.self.inside.position c.self.inside.seed c.self.inside.top c.args.self.now c.self.view_is in
    let some : 0 < length (table_rows c.args.side c.args.self.now) = omega (arith, c.if-buckets-eq0.false, c.buckets-buckets.ensures, ap length rows) in
    let whole : bucket (table_rows c.args.side c.args.self.now) (c.args.hash % length (table_rows c.args.side c.args.self.now)) ≡ chain_left c.into_iter-at-iterator.result
    = ap (λ rs. bucket rs (c.args.hash % length rs)) (sym rows) ∙ ap (bucket (side_rows c.args.side c.self.inside.chains))
    (ap (λ n. c.args.hash % n) (sym c.buckets-buckets.ensures) ∙ sym c.bucket_of.ensures) ∙ sym c.chain-at-items.ensures
    ∙ ap chain_left (sym c.into_iter-at-iterator.ensures.into_iter_gives) in
    spot_found (g.B.BlockStore.blocks c.args.store.now) c.args.self.now c.args.side c.args.hash c.in-Some.at c.args.key.now c.loop-at.before c.loop-at.yielded (chain_left c.next.new.self) some
    (whole ∙ sym c.loop-at.invariant.row ∙ ap (λ r. c.loop-at.yielded ++ r) c.in-Some.ensures.steps) c.loop-at.invariant.last c.if-has_key.ensures

pub returns-clause-none : goal.returns-clause-none
returns-clause-none g c at h =
    let rows : side_rows c.args.side c.self.inside.chains ≡ table_rows c.args.side c.args.self.now =
    side_table c.args.side c.self.inside.chains c.self.inside.position c.self.inside.seed c.self.inside.top c.args.self.now c.self.view_is in
    let whole : bucket (table_rows c.args.side c.args.self.now) (c.args.hash % length (table_rows c.args.side c.args.self.now)) ≡ chain_left c.into_iter-at-iterator.result
    = ap (λ rs. bucket rs (c.args.hash % length rs)) (sym rows) ∙ ap (bucket (side_rows c.args.side c.self.inside.chains))
    (ap (λ n. c.args.hash % n) (sym c.buckets-buckets.ensures) ∙ sym c.bucket_of.ensures) ∙ sym c.chain-at-items.ensures
    ∙ ap chain_left (sym c.into_iter-at-iterator.ensures.into_iter_gives) in
    let all : bucket (table_rows c.args.side c.args.self.now) (c.args.hash % length (table_rows c.args.side c.args.self.now)) ≡ c.loop-at.yielded
    = whole ∙ sym c.loop-at.invariant.row ∙ ap (λ r. c.loop-at.yielded ++ r) c.in-None.ensures.steps.0 ∙ append-nil c.loop-at.yielded in
    c.loop-at.invariant.none at (subst (λ r. 0 < times at r) all h)
