-- Nodes, how the tree names them, and what becomes of them where some give way to others.
use Rattle.std.proofs.Common.{◌≡◌, ◌∙◌, ℕ, ◌+◌, ◌<◌, ◌≤◌, List, [], ◌∷◌, ◌++◌, length, map, Option, Some, unwrap_or, refl, sym, ap, subst, arith}
use Rattle.std.proofs.lemmas.List.{append-nil, map-append}
use Rattle.std.specs.List.{AllByRecursion, filter}
use Rattle.std.specs.Option.{option_map}
use Rattle.std.proofs.lemmas.Bool.{cond-true}
use Rattle.std.specs.Ordering.{is_lt, is_gt, is_ne, is_eq}
use Rattle.std.specs.declared.cmp.Ordering.TheVariants.{Less, Equal, Greater}
use Rattle.blocks.specs.declared.BlockRef.{BlockRef}
use Rattle.blocks.specs.Blocks.{Blocks, times, IsIn, Changes, bytes_at}
use Rattle.blocks.proofs.Times.{times-append}
use Rattle.blocks.proofs.Refs.{ref_eq_refl}
use Rattle.blocks.proofs.Change.{one, one_if, live_once, changes_beside, changes_owned, owned_others}
use Rattle.stream_node.specs.declared.id.Id.{Id}
use Rattle.stream_node.specs.Entry.{Stored}
use Rattle.stream_node.specs.Ids.{IsId, id_number, id_key}
use Rattle.stream_node.proofs.Ids.{id_laws, cmp_less, cmp_greater}
use Rattle.rax_packed.specs.declared.tree.PackedTree.{PackedTree}
use Rattle.rax_packed.specs.Trees.{Entry}
use Rattle.rax_packed.specs.Packed.{order, value_at, with_entry, without}
use Rattle.rax_packed.specs.Maps as rax
use Rattle.rax_packed.proofs.Keys.{order_same}
use Rattle.rax_packed.proofs.Entries.{All, all-append, all_front, all_back, value_at_parts, with_entry_parts, without_parts, drops}
use Rattle.rax_packed.proofs.Splits.{one_entry}
use Rattle.stream_object.specs.Parts.{Part, part, stored_in, live_of, IsPart, EndsBefore, Rising, entry_of, part_of, refs_of, parts_of, all_refs, HasParts}
use Rattle.stream_object.specs.Found.{Exchanges}

-- a node has an entry between its key and the next node's
pub between : (es : List Stored) (k n : ℕ) → 0 < length (live_of es) → AllByRecursion (λ e. k ≤ id_number e.id) es → AllByRecursion (λ e. id_number e.id < n) es → k < n
between [] k n some low high = absurd (omega arith)
between (e ∷ es) k n some low high = omega (arith, low.0, high.0)

pub keys_rise : (m : Blocks) (p q : Part) → IsPart m p → EndsBefore p q → id_number p.key < id_number q.key
keys_rise m p q is ends = between (stored_in p) (id_number p.key) (id_number q.key) is.is_node.some is.is_node.from ends

pub order_less : (p q : Part) → IsId p.key → IsId q.key → id_number p.key < id_number q.key → order (id_key p.key) (id_key q.key) ≡ Less
order_less p q a b less = id_laws.bytes p.key q.key a b ∙ cmp_less (id_number p.key) (id_number q.key) less

pub order_greater : (p q : Part) → IsId p.key → IsId q.key → id_number q.key < id_number p.key → order (id_key p.key) (id_key q.key) ≡ Greater
order_greater p q a b less = id_laws.bytes p.key q.key a b ∙ cmp_greater (id_number p.key) (id_number q.key) less

-- rising nodes, in two parts
pub rising_front : (before after : List Part) → Rising (before ++ after) → Rising before
rising_front [] after r = tt
rising_front (p ∷ before) after r = (all_front (EndsBefore p) before after r.0, rising_front before after r.1)

pub rising_back : (before after : List Part) → Rising (before ++ after) → Rising after
rising_back [] after r = r
rising_back (p ∷ before) after r = rising_back before after r.1

pub rising_without : (before after : List Part) (p : Part) → Rising (before ++ p ∷ after) → Rising (before ++ after)
rising_without [] after p r = r.1
rising_without (q ∷ before) after p r =
    (all-append (EndsBefore q) before after (all_front (EndsBefore q) before (p ∷ after) r.0) (all_back (EndsBefore q) before (p ∷ after) r.0).1, rising_without before after p r.1)

module _ (m : Blocks) (p : Part) where
  -- nodes before another one have lower keys
  less_before : (before after : List Part) → IsId p.key → AllByRecursion (IsPart m) before → Rising (before ++ p ∷ after) → All Less (id_key p.key) (map entry_of before)
  less_before [] after id each r = tt
  less_before (q ∷ before) after id each r =
      (order_less q p each.0.id id (keys_rise m q p each.0 (all_back (EndsBefore q) before (p ∷ after) r.0).0), less_before before after id each.1 r.1)

  greater_after : (after : List Part) → IsPart m p → AllByRecursion (IsPart m) after → AllByRecursion (EndsBefore p) after → All Greater (id_key p.key) (map entry_of after)
  greater_after [] is each r = tt
  greater_after (q ∷ after) is each r = (order_greater q p each.0.id is.id (keys_rise m p q is r.0), greater_after after is each.1 r.1)

one_with : (key : List ℕ) (was value : BlockRef) → with_entry (record { key = key; value = was } ∷ []) key value ≡ record { key = key; value = value } ∷ []
unfolding with_entry
one_with key was value =
    let e : Entry = record { key = key; value = was } in
    let new : Entry = record { key = key; value = value } in
    ap (λ es. es ++ new ∷ filter (λ x. is_gt (order x.key key)) (e ∷ [])) (drops is_lt Equal key (e ∷ []) refl (order_same key, tt))
    ∙ ap (λ es. [] ++ new ∷ es) (drops is_gt Equal key (e ∷ []) refl (order_same key, tt))

one_without : (key : List ℕ) (was : BlockRef) → without (record { key = key; value = was } ∷ []) key ≡ []
unfolding without
one_without key was = drops is_ne Equal key (record { key = key; value = was } ∷ []) refl (order_same key, tt)

one_value : (key : List ℕ) (was : BlockRef) → value_at (record { key = key; value = was } ∷ []) key ≡ Some was
unfolding value_at
one_value key was = ap (option_map (λ (e : Entry). e.value)) (cond-true _ _ _ (ap is_eq (order_same key)))

-- what the tree says at the key of one node among others
module _ (m : Blocks) (before after : List Part) (p : Part) (is : IsPart m p) (front : AllByRecursion (IsPart m) before) (back : AllByRecursion (IsPart m) after)
    (rising : Rising (before ++ p ∷ after)) where
  less : All Less (id_key p.key) (map entry_of before)
  less = less_before m p before after is.id front rising

  greater : All Greater (id_key p.key) (map entry_of after)
  greater = greater_after m p after is back (rising_back before (p ∷ after) rising).0

  joined : (q : List Part) → map entry_of (before ++ (q ++ after)) ≡ map entry_of before ++ (map entry_of q ++ map entry_of after)
  joined q = map-append entry_of before (q ++ after) ∙ ap (λ xs. map entry_of before ++ xs) (map-append entry_of q after)

  pub value_there : value_at (map entry_of (before ++ p ∷ after)) (id_key p.key) ≡ Some p.at
  value_there =
      ap (λ es. value_at es (id_key p.key)) (joined (p ∷ []))
      ∙ value_at_parts (id_key p.key) (map entry_of before) (entry_of p ∷ []) (map entry_of after) less greater ∙ one_value (id_key p.key) p.at

  pub with_there : (at : BlockRef) (bytes : List ℕ) → with_entry (map entry_of (before ++ p ∷ after)) (id_key p.key) at ≡ map entry_of (before ++ part p.key at bytes ∷ after)
  with_there at bytes =
      ap (λ es. with_entry es (id_key p.key) at) (joined (p ∷ []))
      ∙ with_entry_parts (id_key p.key) (map entry_of before) (entry_of p ∷ []) (map entry_of after) less greater at
      ∙ ap (λ es. map entry_of before ++ (es ++ map entry_of after)) (one_with (id_key p.key) p.at at) ∙ sym (joined (part p.key at bytes ∷ []))

  pub without_there : without (map entry_of (before ++ p ∷ after)) (id_key p.key) ≡ map entry_of (before ++ after)
  without_there =
      ap (λ es. without es (id_key p.key)) (joined (p ∷ []))
      ∙ without_parts (id_key p.key) (map entry_of before) (entry_of p ∷ []) (map entry_of after) less greater
      ∙ ap (λ es. map entry_of before ++ (es ++ map entry_of after)) (one_without (id_key p.key) p.at) ∙ sym (joined [])

-- a node behind all others
pub with_last : (m : Blocks) (ps : List Part) (key : Id) (at : BlockRef) (bytes : List ℕ) → IsId key → AllByRecursion (IsPart m) ps → Rising (ps ++ part key at bytes ∷ [])
    → with_entry (map entry_of ps) (id_key key) at ≡ map entry_of (ps ++ part key at bytes ∷ [])
with_last m ps key at bytes id each rising =
    let whole : map entry_of ps ≡ map entry_of ps ++ ([] ++ []) = sym (append-nil (map entry_of ps)) in
    ap (λ es. with_entry es (id_key key) at) whole
    ∙ with_entry_parts (id_key key) (map entry_of ps) [] [] (less_before m (part key at bytes) ps [] id each rising) tt at
    ∙ ap (λ es. map entry_of ps ++ (es ++ [])) (one_entry (id_key key) at) ∙ sym (map-append entry_of ps (part key at bytes ∷ []))

-- nodes are read as they are
read_back : (m : Blocks) (ps : List Part) → AllByRecursion (IsPart m) ps → map (part_of m) (map entry_of ps) ≡ ps
read_back m [] each = refl
read_back m (p ∷ ps) each =
    let bytes : bytes_at m p.at ≡ p.bytes = ap (λ (o : Option (List ℕ)). unwrap_or o []) each.0.block in
    λ i. part (id_laws.back p.key each.0.id i) p.at (bytes i) ∷ read_back m ps each.1 i

pub parts_are : (m : Blocks) (tree : PackedTree) (ps : List Part) → HasParts m tree ps → parts_of m tree ≡ ps
unfolding parts_of
parts_are m tree ps h = ap (map (part_of m)) h.named ∙ read_back m ps h.each

values_are : (ps : List Part) → map (λ (e : Entry). e.value) (map entry_of ps) ≡ refs_of ps
values_are [] = refl
values_are (p ∷ ps) = ap (λ rs. p.at ∷ rs) (values_are ps)

pub refs_are : (m : Blocks) (tree : PackedTree) (ps : List Part) → HasParts m tree ps → all_refs m tree ≡ rax.refs_of m tree ++ refs_of ps
unfolding all_refs
refs_are m tree ps h = ap (λ es. rax.refs_of m tree ++ map (λ (e : Entry). e.value) es) h.named ∙ ap (λ rs. rax.refs_of m tree ++ rs) (values_are ps)

pub its_own : (m : Blocks) (tree : PackedTree) (ps : List Part) → HasParts m tree ps → HasParts m tree (parts_of m tree)
its_own m tree ps h = subst (HasParts m tree) (sym (parts_are m tree ps h)) h

pub times_refs : (r : BlockRef) (xs ys : List Part) → times r (refs_of (xs ++ ys)) ≡ times r (refs_of xs) + times r (refs_of ys)
times_refs r xs ys = ap (times r) (map-append (λ (p : Part). p.at) xs ys) ∙ times-append r (refs_of xs) (refs_of ys)

-- nodes over a store that keeps their blocks
pub parts_stay : (a b : Blocks) (ps : List Part) → ((r : BlockRef) → IsIn r (refs_of ps) → b r ≡ a r) → AllByRecursion (IsPart a) ps → AllByRecursion (IsPart b) ps
parts_stay a b [] same each = tt
parts_stay a b (p ∷ ps) same each =
    let here : one p.at p.at ≡ 1 = ap one_if (ref_eq_refl p.at) in (
      record { id = each.0.id; block = same p.at (omega (arith, here)) ∙ each.0.block; is_node = each.0.is_node },
      parts_stay a b ps
          (λ r isin. same r (omega (arith, isin))) each.1,
    )

-- some nodes among others give way to others
module _ (m after : Blocks) (old new : PackedTree) (before gone come behind : List Part) (h : HasParts m old (before ++ (gone ++ behind)))
    (changes : Changes m after (rax.refs_of m old ++ refs_of gone) (rax.refs_of after new ++ refs_of come)) where
  beside : BlockRef → ℕ
  beside r = times r (refs_of before) + times r (refs_of behind)

  counted_old : (r : BlockRef) → times r (rax.refs_of m old ++ refs_of (before ++ (gone ++ behind))) ≡ times r (rax.refs_of m old ++ refs_of gone) + beside r
  unfolding beside
  counted_old r =
      omega (
        arith,
        times-append r (rax.refs_of m old) (refs_of (before ++ (gone ++ behind))),
        times-append r (rax.refs_of m old) (refs_of gone),
        times_refs r before (gone ++ behind),
        times_refs r gone behind,
      )

  counted_new : (r : BlockRef) → times r (rax.refs_of after new ++ refs_of (before ++ (come ++ behind))) ≡ times r (rax.refs_of after new ++ refs_of come) + beside r
  unfolding beside
  counted_new r =
      omega (
        arith,
        times-append r (rax.refs_of after new) (refs_of (before ++ (come ++ behind))),
        times-append r (rax.refs_of after new) (refs_of come),
        times_refs r before
            (come ++ behind),
        times_refs r come behind,
      )

  whole : Changes m after (rax.refs_of m old ++ refs_of (before ++ (gone ++ behind))) (rax.refs_of after new ++ refs_of (before ++ (come ++ behind)))
  whole = changes_beside m after (rax.refs_of m old ++ refs_of gone) (rax.refs_of after new ++ refs_of come) (rax.refs_of m old ++ refs_of (before ++ (gone ++ behind)))
      (rax.refs_of after new ++ refs_of (before ++ (come ++ behind))) changes h.owned beside counted_old counted_new

  kept : (r : BlockRef) → 0 < beside r → after r ≡ m r
  kept r isin =
      owned_others m after (rax.refs_of m old ++ refs_of gone) (rax.refs_of after new ++ refs_of come) (rax.refs_of m old ++ refs_of (before ++ (gone ++ behind))) h.owned changes r
      (omega (arith, isin, counted_old r)) (omega (arith, isin, counted_old r, h.owned r, live_once m r))

  pub exchanged : rax.IsSound after new → rax.entries_of after new ≡ map entry_of (before ++ (come ++ behind)) → AllByRecursion (IsPart after) come → Rising (before ++ (come ++ behind))
      → Exchanges m after old new (before ++ (come ++ behind))
  unfolding beside
  exchanged sound named each rising =
      let front = parts_stay m after before (λ r isin. kept r (omega (arith, isin))) (all_front (IsPart m) before (gone ++ behind) h.each) in
      let back = parts_stay m after behind (λ r isin. kept r (omega (arith, isin))) (all_back (IsPart m) gone behind (all_back (IsPart m) before (gone ++ behind) h.each)) in
      let now : HasParts after new (before ++ (come ++ behind)) = record {
        stands = sound;
        named = named;
        each = all-append (IsPart after) before (come ++ behind) front (all-append (IsPart after) come behind each back);
        rising = rising;
        owned = changes_owned m after (rax.refs_of m old ++ refs_of (before ++ (gone ++ behind))) (rax.refs_of after new ++ refs_of (before ++ (come ++ behind))) whole;
      } in
      record {
        parts = now;
        changes = subst (λ xs. Changes m after xs (all_refs after new)) (sym (refs_are m old (before ++ (gone ++ behind)) h))
            (subst (Changes m after (rax.refs_of m old ++ refs_of (before ++ (gone ++ behind)))) (sym (refs_are after new (before ++ (come ++ behind)) now)) whole);
      }

-- a tree of nothing
pub blank : (m : Blocks) (tree : PackedTree) → rax.IsSound m tree → rax.entries_of m tree ≡ [] → rax.refs_of m tree ≡ [] → HasParts m tree []
blank m tree sound none no_refs = record { stands = sound; named = none; each = tt; rising = tt; owned = λ r. omega (arith, ap (times r) (ap (λ rs. rs ++ []) no_refs)) }
