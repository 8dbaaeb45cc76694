use Rattle.std.proofs.Common.{◌≡◌, ℕ, ◌+◌, ◌*◌, ◌/◌, ◌<◌, List, Result, Err, length, get_or, sym, ap, subst, ◌∙◌, refl, arith, rules}
use Rattle.std.specs.Prelude.{MatchOption}
use Rattle.blocks.specs.Blocks.{no_step}
use Rattle.blocks.proofs.Change.{changes_same, changes_then}
use Rattle.blocks.proofs.Serve.{served_then}
use Rattle.listpack.specs.Pack.{IsAt, texts}
use Rattle.object_codec.specs.Forms.{IsLeast}
use Rattle.object_codec.specs.declared.limits.Limits.{Limits}
use Rattle.plain_world.specs.Worlds.{HashOf}
use Rattle.hash_object.specs.Fields.{fields, form_of}
use Rattle.hash_object.specs.Maps.{FitsFields}
use Rattle.rdb_grammar.specs.declared.fault.LoadKind.{LoadKind}
use Rattle.rdb_grammar.specs.Format.{next_found}
use Rattle.rdb_grammar.specs.Payloads.{Pair, paired, all_in, with_pair}
use Rattle.rdb_reader.proofs.Paired.{no_pair, at_place, pairs_of, odd_pairs}
use Rattle.rdb_reader.proofs.Unpacked.{put_one, put_all, breaks_on, makes_as}
use Rattle.rdb_reader.proofs.pairs.set_pairs.Goals as goal

pub loop-init : goal.loop-init
loop-init g c =
    let list = texts c.args.pack.now.bytes.now in
    let many = c.len-count.ensures in
    let even : length list ≡ 2 * (length list / 2) = omega (arith, many, c.if-count-eq1.false) in
    record {
      place = search rules;
      turns = (pairs_of (length list / 2) list even, refl);
      sound = c.requires;
      settings = record { limits = refl; seed = refl };
      form = λ least. least;
      changes = changes_same _ _ c.requires.owned;
      served = no_step;
    }

pub pair_at-pair-requires : goal.pair_at-pair-requires
pair_at-pair-requires g c =
    let bytes = c.args.pack.now.bytes.now in
    let i = c.loop.counter in
    let many = c.len-count.ensures in
    (2 * i, at_place bytes i c.loop.next c.in-Some.place c.in-Some.is c.loop.invariant.place, omega (arith, many, c.loop-test.true))

pub loop-preserved : goal.loop-preserved
loop-preserved g c =
    let blocks = g.B.BlockStore.blocks in
    let bytes = c.args.pack.now.bytes.now in
    let list = texts bytes in
    let i = c.loop.counter in
    let inv = c.loop.invariant in
    let first = HashOf (fields (blocks c.args.store.now) c.args.fields.now) in
    let made = HashOf (fields (blocks c.loop.store) c.loop.fields) in
    let more = HashOf (fields (blocks c.set_pair.new.store) c.set_pair.new.fields) in
    let at = at_place bytes i c.loop.next c.in-Some.place c.in-Some.is inv.place in
    let many = c.len-count.ensures in
    let p = inv.turns.0 in
    let twice : 2 * i + 2 ≡ 2 * (i + 1) = omega arith in
    let inside : i < length p.pairs = omega (arith, p.many, many, c.loop-test.true) in
    let each = p.each i (omega (arith, many, c.loop-test.true)) in
    let field = c.text-field.ensures ∙ c.pair_at-pair.ensures.first (2 * i) at ∙ each.0 in
    let value = c.text-value.ensures ∙ c.pair_at-pair.ensures.second (2 * i) at ∙ each.1 in
    let is : (c.text-field.result.now, c.text-value.result.now) ≡ get_or p.pairs i no_pair = λ k. (field k, value k) in
    record {
      place = subst (λ (k : ℕ). MatchOption c.pair_at-pair.result.next (k ≡ length list) (λ at. IsAt bytes k at)) twice (c.pair_at-pair.ensures.next (2 * i) at);
      turns = (p, put_one with_pair first p.pairs i no_pair made more inside inv.turns.1 (ap (λ (q : Pair). with_pair made q) (sym is) ∙ c.in-Ok.ensures.makes));
      sound = c.set_pair.ensures.sound;
      settings = record { limits = c.set_pair.ensures.settings.limits ∙ inv.settings.limits; seed = c.set_pair.ensures.settings.seed ∙ inv.settings.seed };
      form = λ least.
          subst
          (λ (limits : Limits). IsLeast (FitsFields limits (fields (blocks c.loop.store) c.loop.fields)) (form_of c.loop.fields)
          → IsLeast (FitsFields limits (fields (blocks c.set_pair.new.store) c.set_pair.new.fields)) (form_of c.set_pair.new.fields)) inv.settings.limits c.in-Ok.ensures.form
          (inv.form least);
      changes = changes_then _ _ _ _ _ _ inv.changes c.set_pair.ensures.changes;
      served = served_then _ _ _ inv.served c.set_pair.ensures.served;
    }

pub returns-in-Err-clause-makes : goal.returns-in-Err-clause-makes
returns-in-Err-clause-makes g c =
    let blocks = g.B.BlockStore.blocks in
    let bytes = c.args.pack.now.bytes.now in
    let list = texts bytes in
    let i = c.loop.counter in
    let inv = c.loop.invariant in
    let first = HashOf (fields (blocks c.args.store.now) c.args.fields.now) in
    let made = HashOf (fields (blocks c.loop.store) c.loop.fields) in
    let more = HashOf (fields (blocks c.set_pair.new.store) c.set_pair.new.fields) in
    let at = at_place bytes i c.loop.next c.in-Some.place c.in-Some.is inv.place in
    let many = c.len-count.ensures in
    let p = inv.turns.0 in
    let twice : 2 * i + 2 ≡ 2 * (i + 1) = omega arith in
    let inside : i < length p.pairs = omega (arith, p.many, many, c.loop-test.true) in
    let each = p.each i (omega (arith, many, c.loop-test.true)) in
    let field = c.text-field.ensures ∙ c.pair_at-pair.ensures.first (2 * i) at ∙ each.0 in
    let value = c.text-value.ensures ∙ c.pair_at-pair.ensures.second (2 * i) at ∙ each.1 in
    let is : (c.text-field.result.now, c.text-value.result.now) ≡ get_or p.pairs i no_pair = λ k. (field k, value k) in
    makes_as (next_found (paired list) (all_in with_pair first)) (all_in with_pair first p.pairs) c.args.at more (Err c.in-Err.fault)
    (ap (λ (q : Result (List Pair) LoadKind). next_found q (all_in with_pair first)) p.are)
    (breaks_on with_pair first p.pairs i no_pair (c.text-field.result.now, c.text-value.result.now) made more more c.args.at inside is inv.turns.1 c.in-Err.fault c.in-Err.ensures.makes)

pub returns-in-Err-clause-settings : goal.returns-in-Err-clause-settings
returns-in-Err-clause-settings g c = record { limits = c.set_pair.ensures.settings.limits ∙ c.loop.invariant.settings.limits; seed = c.set_pair.ensures.settings.seed ∙ c.loop.invariant.settings.seed }

pub returns-in-Err-clause-changes : goal.returns-in-Err-clause-changes
returns-in-Err-clause-changes g c = changes_then _ _ _ _ _ _ c.loop.invariant.changes c.set_pair.ensures.changes

pub returns-clause-makes : goal.returns-clause-makes
returns-clause-makes g c =
    let blocks = g.B.BlockStore.blocks in
    let list = texts c.args.pack.now.bytes.now in
    let inv = c.loop.invariant in
    let first = HashOf (fields (blocks c.args.store.now) c.args.fields.now) in
    let made = HashOf (fields (blocks c.loop.store) c.loop.fields) in
    let many = c.len-count.ensures in
    let p = inv.turns.0 in
    ap (λ (q : Result (List Pair) LoadKind). next_found q (all_in with_pair first)) p.are
    ∙ put_all with_pair first p.pairs c.loop.counter made (omega (arith, p.many, many, c.loop-test.false)) inv.turns.1

pub returns-then-count-eq1-clause-makes : goal.returns-then-count-eq1-clause-makes
returns-then-count-eq1-clause-makes g c =
    let list = texts c.args.pack.now.bytes.now in
    let many = c.len-count.ensures in
    let odd : length list ≡ 2 * (length list / 2) + 1 = omega (arith, many, c.if-count-eq1.true) in
    rw c.no_payload.ensures (
      ap (λ (q : Result (List Pair) LoadKind). next_found q (all_in with_pair (HashOf (fields (g.B.BlockStore.blocks c.args.store.now) c.args.fields.now))))
          (odd_pairs (length list / 2) list odd),
      refl,
    )

pub set_pair-requires : goal.set_pair-requires
set_pair-requires g c = c.loop.invariant.sound

pub returns-then-count-eq1-clause-sound : goal.returns-then-count-eq1-clause-sound
returns-then-count-eq1-clause-sound g c = c.requires

pub returns-then-count-eq1-clause-settings : goal.returns-then-count-eq1-clause-settings
returns-then-count-eq1-clause-settings g c = record { limits = refl; seed = refl }

pub returns-then-count-eq1-clause-form : goal.returns-then-count-eq1-clause-form
returns-then-count-eq1-clause-form g c = tt

pub returns-then-count-eq1-clause-changes : goal.returns-then-count-eq1-clause-changes
returns-then-count-eq1-clause-changes g c = changes_same _ _ c.requires.owned

pub returns-then-count-eq1-clause-served : goal.returns-then-count-eq1-clause-served
returns-then-count-eq1-clause-served g c = no_step

pub returns-in-Err-clause-sound : goal.returns-in-Err-clause-sound
returns-in-Err-clause-sound g c = c.set_pair.ensures.sound

pub returns-in-Err-clause-form : goal.returns-in-Err-clause-form
returns-in-Err-clause-form g c = tt

pub returns-in-Err-clause-served : goal.returns-in-Err-clause-served
returns-in-Err-clause-served g c = served_then _ _ _ c.loop.invariant.served c.set_pair.ensures.served

pub returns-clause-sound : goal.returns-clause-sound
returns-clause-sound g c = c.loop.invariant.sound

pub returns-clause-settings : goal.returns-clause-settings
returns-clause-settings g c = c.loop.invariant.settings

pub returns-clause-form : goal.returns-clause-form
returns-clause-form g c = c.loop.invariant.form

pub returns-clause-changes : goal.returns-clause-changes
returns-clause-changes g c = c.loop.invariant.changes

pub returns-clause-served : goal.returns-clause-served
returns-clause-served g c = c.loop.invariant.served
