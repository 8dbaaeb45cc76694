-- Entries taken out from the front.
use Rattle.std.proofs.Common.{◌≡◌, ◌∙◌, ℕ, zero, suc, ◌+◌, ◌<◌, ◌≤◌, List, [], ◌∷◌, ◌++◌, length, drop, refl, sym, ap, subst, arith, length-append, length-drop}
use Rattle.std.specs.Prelude.{true, Result, Ok, Err, OnErr}
use Rattle.std.specs.List.{AllByRecursion}
use Rattle.blocks.specs.Blocks.{Blocks, Changes}
use Rattle.blocks.proofs.Change.{changes_same, changes_then}
use Rattle.stream_node.specs.declared.id.Id.{Id}
use Rattle.stream_node.specs.Entry.{Stored}
use Rattle.stream_node.specs.Ids.{IsId, id_number}
use Rattle.rax_packed.proofs.Entries.{all-append, all_front, all_back}
use Rattle.stream_object.specs.declared.stream.Stream.{Stream as Log}
use Rattle.stream_object.specs.Parts.{Part, stored_in, plain, live_of, live_in, entries_in}
use Rattle.stream_object.specs.Found.{IsNear, Exchanges}
use Rattle.stream_object.specs.Node.{IsAt}
use Rattle.stream_object.specs.Tail.{IsKept}
use Rattle.stream_object.specs.Streams.{nodes, entries, refs, AreUpto, IsStream, IsChanged, TakesOut, stream_of, dropping}
use Rattle.stream_object.proofs.Parts.{parts_are, its_own, refs_are}
use Rattle.stream_object.proofs.Marking.{live_append, live_one_in_marking}
use Rattle.stream_object.proofs.Grows.{entries_append}
use Rattle.stream_object.proofs.Clears.{none_below}
use Rattle.stream_object.proofs.Tails.{IsLeft, kept_beside}

drop_front : {X : Type 0} (xs ys : List X) → drop (length xs) (xs ++ ys) ≡ ys
drop_front [] ys = refl
drop_front (x ∷ xs) ys = drop_front xs ys

drop_none : (X : Type 0) (n : ℕ) → drop {A = X} n [] ≡ []
drop_none X zero = refl
drop_none X (suc n) = refl

pub drop_more : {X : Type 0} (a b : ℕ) (xs : List X) → drop b (drop a xs) ≡ drop (a + b) xs
drop_more zero b xs = let n : b ≡ zero + b = omega arith in ap (λ k. drop k xs) n
drop_more {X} (suc a) b [] = drop_none X b ∙ sym (drop_none X (suc a + b))
drop_more (suc a) b (x ∷ xs) = let n : suc a + b ≡ suc (a + b) = omega arith in drop_more a b xs ∙ sym (ap (λ k. drop k (x ∷ xs)) n)

-- the stream with these nodes
pub dropped : (m after : Blocks) (old new : Log) (n : ℕ) (ps : List Part) → IsStream m old → Exchanges m after old.tree new.tree ps → entries_in ps ≡ drop n (entries m old)
    → AreUpto old.last ps → IsKept ps new.tail → new.len + n ≡ old.len → new.last ≡ old.last → new.deleted ≡ old.deleted → new.added ≡ old.added → new.groups ≡ old.groups
    → IsChanged m after old new (dropping (stream_of m old) n)
dropped m after old new n ps is ex left upto kept len last deleted added groups =
    let now = parts_are after new.tree ps ex.parts in
    let seen : entries after new ≡ drop n (entries m old) = ap entries_in now ∙ left in
    record {
      is_stream = record {
        parts = its_own after new.tree ps ex.parts;
        counted = omega (arith, len, is.counted, ap length seen, length-drop n (entries m old));
        fits = subst IsId (sym last) is.fits;
        upto = subst (λ qs. AreUpto new.last qs) (sym now) (subst (λ i. AreUpto i ps) (sym last) upto);
        kept = subst (λ qs. IsKept qs new.tail) (sym now) kept;
      };
      value_is = λ i. record { entries = seen i; last = ((last i).ms, (last i).seq); deleted = ((deleted i).ms, (deleted i).seq); added = added i; groups = groups i };
      changes = ex.changes;
    }

-- the first node among all
module _ (m : Blocks) (old : Log) (low : Id) (p : Part) (a : low.ms ≡ 0) (b : low.seq ≡ 0) (is : IsStream m old) (n : IsNear true (nodes m old) low p) where
  pub none_before : n.before ≡ []
  none_before = none_below low a b n.before n.passes

  pub first_split : entries m old ≡ live_in p ++ entries_in n.after
  first_split = ap entries_in n.place ∙ entries_append n.before (p ∷ n.after) ∙ ap (λ qs. entries_in qs ++ (live_in p ++ entries_in n.after)) none_before

  upto_after : AreUpto old.last (n.before ++ n.after)
  upto_after =
      let U : Part → Type 0 = λ x. AllByRecursion (λ f. id_number f.id ≤ id_number old.last) (stored_in x) in
      let split = subst (AreUpto old.last) n.place is.upto in
      all-append U n.before n.after (all_front U n.before (p ∷ n.after) split) (all_back U n.before (p ∷ n.after) split).1

  -- all of it goes
  pub node_dropped : (after : Blocks) (new : Log) (count : ℕ) → count ≡ length (live_in p) → Exchanges m after old.tree new.tree (n.before ++ n.after) → IsLeft old.tail new.tail p.key
      → new.len + count ≡ old.len → new.last ≡ old.last → new.deleted ≡ old.deleted → new.added ≡ old.added → new.groups ≡ old.groups
      → IsChanged m after old new (dropping (stream_of m old) count)
  node_dropped after new count all ex left =
      dropped m after old new count (n.before ++ n.after) is ex
      (entries_append n.before n.after ∙ ap (λ qs. entries_in qs ++ entries_in n.after) none_before
      ∙ sym (ap (drop count) first_split ∙ ap (λ k. drop k (live_in p ++ entries_in n.after)) all ∙ drop_front (live_in p) (entries_in n.after)))
      upto_after (kept_beside (nodes m old) (n.before ++ n.after) n.before n.before n.after p p.key old.tail new.tail refl n.place refl is.kept left)

  -- its first entry goes
  pub first_dropped : (after : Blocks) (new : Log) (index : ℕ) (e : Stored) (at : IsAt (stored_in p) index e) → live_of at.before ≡ []
      → TakesOut m after old.tree new.tree n.before n.after (live_of (at.before ++ at.after)) → IsLeft old.tail new.tail p.key → new.len + 1 ≡ old.len → new.last ≡ old.last
      → new.deleted ≡ old.deleted → new.added ≡ old.added → new.groups ≡ old.groups
      → IsChanged m after old new (dropping (stream_of m old) 1)
  first_dropped after new index e at none t left =
      let here : live_in p ≡ plain e ∷ live_of at.after = ap live_of at.place ∙ live_append at.before (e ∷ at.after) ∙ ap (λ xs. xs ++ live_of (e ∷ at.after)) none
      ∙ live_append (e ∷ []) at.after ∙ ap (λ xs. xs ++ live_of at.after) (live_one_in_marking e at.live) in
      let rest : live_of (at.before ++ at.after) ≡ live_of at.after = live_append at.before at.after ∙ ap (λ xs. xs ++ live_of at.after) none in
      dropped m after old new 1 t.parts is t.exchanges
      (t.entries_are ∙ (λ i. entries_in (none_before i) ++ (rest i ++ entries_in n.after)) ∙ sym (ap (drop 1) (first_split ∙ ap (λ xs. xs ++ entries_in n.after) here)))
      (t.upto old.last is.upto) (kept_beside (nodes m old) t.parts n.before t.front n.after p p.key old.tail new.tail refl n.place t.stays is.kept left)

  pub node_within : length (live_in p) ≤ old.len
  node_within = omega (arith, is.counted, ap length first_split, length-append (live_in p) (entries_in n.after))

-- nothing was taken out yet
pub dropped_none : (m : Blocks) (s : Log) → IsStream m s → IsChanged m m s s (dropping (stream_of m s) 0)
dropped_none m s is = record { is_stream = is; value_is = refl; changes = subst (λ rs. Changes m m rs rs) (sym (refs_are m s.tree (nodes m s) is.parts)) (changes_same m _ is.parts.owned) }

pub dropped_then : (a b c : Blocks) (old mid new : Log) (j k n : ℕ) → n ≡ j + k → IsChanged a b old mid (dropping (stream_of a old) j)
    → IsChanged b c mid new (dropping (stream_of b mid) k) → IsChanged a c old new (dropping (stream_of a old) n)
dropped_then a b c old mid new j k n sum x y = record {
  is_stream = y.is_stream;
  value_is = y.value_is ∙ ap (λ s. dropping s k) x.value_is ∙ ap (λ es. record (stream_of a old) { entries = es }) (drop_more j k (entries a old) ∙ ap (λ i. drop i (entries a old)) (sym sum));
  changes = changes_then a b c (refs a old) (refs b mid) (refs c new) x.changes y.changes;
}

-- entries stand in some node
pub some_node : (m : Blocks) (s : Log) → IsStream m s → 0 < s.len → nodes m s ≡ [] → ⊥
some_node m s is some none = omega (arith, some, is.counted, ap (λ ps. length (entries_in ps)) none)

-- what is told of a refusal
pub told_err : {A E P : Type 0} (r : Result A E) → P → OnErr r P
told_err (Ok x) p = tt
told_err (Err e) p = p
