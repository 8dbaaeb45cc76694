-- A node that comes, goes, or gets other bytes: one call on the store and one on the tree after another.
use Rattle.std.proofs.Common.{◌≡◌, ◌∙◌, ℕ, List, [], ◌∷◌, ◌++◌, map, Some, None, IsSome, is_some, refl, sym, ap, subst, arith}
use Rattle.std.proofs.lemmas.List.{append-nil, map-append}
use Rattle.std.specs.List.{AllByRecursion}
use Rattle.blocks.specs.declared.BlockRef.{BlockRef}
use Rattle.blocks.specs.Blocks.{Blocks, with_block, times, IsIn, Changes, Owned}
use Rattle.blocks.proofs.Refs.{ref_eq_refl, with_block_same}
use Rattle.blocks.proofs.Times.{times-append}
use Rattle.blocks.proofs.Change.{one, one_if, live_once, live_is_in_change, counts_ended, counts_written, changes_counted, changes_beside, changes_owned, changes_then, owned_others}
use Rattle.stream_node.specs.declared.id.Id.{Id}
use Rattle.stream_node.specs.Ids.{IsId, id_key}
use Rattle.rax_packed.specs.declared.tree.PackedTree.{PackedTree}
use Rattle.rax_packed.specs.Laws.{Stays}
use Rattle.rax_packed.specs.Packed.{with_entry, without, value_at}
use Rattle.rax_packed.specs.Maps as rax
use Rattle.rax_packed.proofs.Depends.{packed_laws_hold}
use Rattle.rax_packed.proofs.Entries.{all_front, all_back}
use Rattle.stream_object.specs.Parts.{Part, part, IsNodeOf, IsPart, Rising, entry_of, refs_of, HasParts}
use Rattle.stream_object.specs.Block.{Holds, IsPut}
use Rattle.stream_object.specs.Found.{Stands, Exchanges}
use Rattle.stream_object.proofs.Parts.{rising_without, exchanged, times_refs, value_there, with_there, without_there, with_last}

-- what others own stays
pub outside : (a b : Blocks) (xs ys zs : List BlockRef) → Owned (xs ++ zs) a → Changes a b xs ys → (r : BlockRef) → IsIn r zs → b r ≡ a r
outside a b xs ys zs own c r isin =
    owned_others a b xs ys (xs ++ zs) own c r (omega (arith, isin, times-append r xs zs)) (omega (arith, isin, own r, times-append r xs zs, live_once a r))

pub counts_itself : (r : BlockRef) → one r r ≡ 1
counts_itself r = ap one_if (ref_eq_refl r)

-- the tree stays where others change their blocks
pub tree_stays : (a b : Blocks) (tree : PackedTree) (xs ys : List BlockRef) → Owned (rax.refs_of a tree ++ xs) a → Changes a b xs ys → Stays a b tree
tree_stays a b tree xs ys own c = packed_laws_hold.others a b tree xs ys own c

-- a block is given back that was owned beside the tree's and some others
pub was_live : (m mid : Blocks) (tree : PackedTree) (old others : List BlockRef) (was : BlockRef) → Changes m mid old (was ∷ (rax.refs_of mid tree ++ others)) → IsSome (mid was)
was_live m mid tree old others was c = live_is_in_change mid was (omega (arith, changes_owned m mid old (was ∷ (rax.refs_of mid tree ++ others)) c was, counts_itself was))

module _ (m mid after : Blocks) (tree : PackedTree) (old others : List BlockRef) (was : BlockRef) (c : Changes m mid old (was ∷ (rax.refs_of mid tree ++ others)))
    (is : after ≡ with_block mid was None) where
  own_mid : Owned (was ∷ (rax.refs_of mid tree ++ others)) mid
  own_mid = changes_owned m mid old (was ∷ (rax.refs_of mid tree ++ others)) c

  only : Changes mid after (was ∷ []) []
  only = changes_counted mid after (was ∷ []) [] (λ r. omega (arith, own_mid r)) (counts_ended mid after was (was ∷ []) [] (was_live m mid tree old others was c) is (λ r. omega arith))

  still : Stays mid after tree
  still = tree_stays mid after tree (was ∷ []) [] (λ r. omega (arith, own_mid r, times-append r (rax.refs_of mid tree) (was ∷ []), times-append r (rax.refs_of mid tree) others)) only

  pub ended_tree : rax.IsSound mid tree → rax.IsSound after tree
  ended_tree = still.sound

  pub ended_entries : rax.entries_of after tree ≡ rax.entries_of mid tree
  ended_entries = still.entries_are

  pub ended_block : (r : BlockRef) → IsIn r others → after r ≡ mid r
  ended_block r isin = outside mid after (was ∷ []) [] others (λ q. omega (arith, own_mid q, times-append q (rax.refs_of mid tree) others)) only r isin

  pub ended_changes : Changes m after old (rax.refs_of after tree ++ others)
  ended_changes =
      let last : Changes mid after (was ∷ (rax.refs_of mid tree ++ others)) (rax.refs_of mid tree ++ others) =
      changes_beside mid after (was ∷ []) [] (was ∷ (rax.refs_of mid tree ++ others)) (rax.refs_of mid tree ++ others) only own_mid (λ r. times r (rax.refs_of mid tree ++ others))
      (λ r. omega arith) (λ r. omega arith) in
      subst (λ rs. Changes m after old (rs ++ others)) (sym still.refs_are) (changes_then m mid after old (was ∷ (rax.refs_of mid tree ++ others)) (rax.refs_of mid tree ++ others) c last)

-- the tree changes beside some others' blocks
pub beside_tree : (a b : Blocks) (old new : PackedTree) (xs : List BlockRef) → Owned (rax.refs_of a old ++ xs) a → Changes a b (rax.refs_of a old) (rax.refs_of b new)
    → Changes a b (rax.refs_of a old ++ xs) (rax.refs_of b new ++ xs)
beside_tree a b old new xs own c =
    changes_beside a b (rax.refs_of a old) (rax.refs_of b new) (rax.refs_of a old ++ xs) (rax.refs_of b new ++ xs) c own (λ r. times r xs) (λ r. times-append r (rax.refs_of a old) xs)
    (λ r. times-append r (rax.refs_of b new) xs)

-- the same references in another order
reordered : (a b : Blocks) (xs ys us vs : List BlockRef) → Owned xs a → Changes a b xs ys → ((r : BlockRef) → times r us ≡ times r xs) → ((r : BlockRef) → times r vs ≡ times r ys) → Changes a b us vs
reordered a b xs ys us vs own c old new = changes_beside a b xs ys us vs c (λ r. omega (arith, own r, old r)) (λ r. 0) (λ r. omega (arith, old r)) (λ r. omega (arith, new r))

-- a block is placed beside the tree
module _ (m mid : Blocks) (tree : PackedTree) (xs : List BlockRef) (at : BlockRef) (bytes : List ℕ) (own : Owned (rax.refs_of m tree ++ xs) m) (sound : rax.IsSound m tree)
    (is : mid ≡ with_block m at (Some bytes)) (c : Changes m mid [] (at ∷ [])) where
  before_tree : Stays m mid tree
  before_tree = tree_stays m mid tree [] (at ∷ []) (λ r. omega (arith, sound.owned r, times-append r (rax.refs_of m tree) [])) c

  pub placed_tree : rax.IsSound mid tree
  placed_tree = before_tree.sound sound

  pub placed_entries : rax.entries_of mid tree ≡ rax.entries_of m tree
  placed_entries = before_tree.entries_are

  pub placed_block : mid at ≡ Some bytes
  placed_block = ap (λ (b : Blocks). b at) is ∙ with_block_same m at (Some bytes)

  pub placed_changes : Changes m mid (rax.refs_of m tree ++ xs) (rax.refs_of mid tree ++ (at ∷ xs))
  placed_changes =
      subst (λ rs. Changes m mid (rax.refs_of m tree ++ xs) (rs ++ (at ∷ xs))) (sym before_tree.refs_are)
      (changes_beside m mid [] (at ∷ []) (rax.refs_of m tree ++ xs) (rax.refs_of m tree ++ (at ∷ xs)) c own (λ r. times r (rax.refs_of m tree ++ xs)) (λ r. omega arith)
      (λ r. omega (arith, times-append r (rax.refs_of m tree) (at ∷ xs), times-append r (rax.refs_of m tree) xs)))

-- a node comes behind all others
module _ (m mid after : Blocks) (old new : PackedTree) (ps : List Part) (key : Id) (at : BlockRef) (bytes : List ℕ) (h : HasParts m old ps) (id : IsId key) (is : IsPut m mid at bytes)
    (c : Changes m mid [] (at ∷ [])) where
  own_tree : Owned (rax.refs_of m old ++ []) m
  own_tree r = omega (arith, h.stands.owned r, times-append r (rax.refs_of m old) [])

  pub comes_tree : rax.IsSound mid old
  comes_tree = placed_tree m mid old [] at bytes own_tree h.stands is c

  first : Changes m mid (rax.refs_of m old ++ []) (rax.refs_of mid old ++ (at ∷ []))
  first = placed_changes m mid old [] at bytes own_tree h.stands is c

  pub comes : rax.IsSound after new → rax.entries_of after new ≡ with_entry (rax.entries_of mid old) (id_key key) at → Changes mid after (rax.refs_of mid old) (rax.refs_of after new)
      → IsNodeOf key bytes → Rising (ps ++ part key at bytes ∷ []) → Exchanges m after old new (ps ++ part key at bytes ∷ [])
  comes sound inserted changes is_node rising =
      let own = changes_owned m mid (rax.refs_of m old ++ []) (rax.refs_of mid old ++ (at ∷ [])) first in
      let second = beside_tree mid after old new (at ∷ []) own changes in
      let core = changes_then m mid after (rax.refs_of m old ++ []) (rax.refs_of mid old ++ (at ∷ [])) (rax.refs_of after new ++ (at ∷ [])) first second in
      let held : Holds after at bytes = outside mid after (rax.refs_of mid old) (rax.refs_of after new) (at ∷ []) own changes at (omega (arith, counts_itself at))
      ∙ placed_block m mid old [] at bytes own_tree h.stands is c in
      let before : HasParts m old (ps ++ ([] ++ [])) = subst (HasParts m old) (sym (append-nil ps)) h in
      let named = inserted ∙ ap (λ es. with_entry es (id_key key) at) (placed_entries m mid old [] at bytes own_tree h.stands is c ∙ h.named) ∙ with_last m ps key at bytes id h.each rising in
      exchanged m after old new ps [] (part key at bytes ∷ []) [] before core sound named (record { id = id; block = held; is_node = is_node }, tt) rising

-- one node among the others
module _ (m : Blocks) (old : PackedTree) (ps : List Part) (key : Id) (was : BlockRef) (h : HasParts m old ps) (s : Stands ps key was) where
  here : Part
  here = part key was s.bytes

  parts : HasParts m old (s.before ++ part key was s.bytes ∷ s.after)
  parts = subst (HasParts m old) s.place h

  front : AllByRecursion (IsPart m) s.before
  front = all_front (IsPart m) s.before (part key was s.bytes ∷ s.after) parts.each

  back : IsPart m (part key was s.bytes) × AllByRecursion (IsPart m) s.after
  back = all_back (IsPart m) s.before (part key was s.bytes ∷ s.after) parts.each

  pub stands_id : IsId key
  stands_id = back.0.id

  pub stands_block : Holds m was s.bytes
  stands_block = back.0.block

  pub stands_node : IsNodeOf key s.bytes
  stands_node = back.0.is_node

  pub stands_value : value_at (rax.entries_of m old) (id_key key) ≡ Some was
  stands_value = ap (λ es. value_at es (id_key key)) parts.named ∙ value_there m s.before s.after (part key was s.bytes) back.0 front back.1 parts.rising

  own_was : Owned (rax.refs_of m old ++ (was ∷ [])) m
  own_was r =
      omega (
        arith,
        parts.owned r,
        times-append r (rax.refs_of m old) (was ∷ []),
        times-append r (rax.refs_of m old) (refs_of (s.before ++ part key was s.bytes ∷ s.after)),
        times_refs r s.before (part key was s.bytes ∷ s.after),
      )

  -- it goes
  module _ (mid after : Blocks) (new : PackedTree) (sound : rax.IsSound mid new) (removed : rax.entries_of mid new ≡ without (rax.entries_of m old) (id_key key))
      (c : Changes m mid (rax.refs_of m old) (rax.refs_of mid new)) where
    leaves : Changes m mid (rax.refs_of m old ++ (was ∷ [])) (was ∷ (rax.refs_of mid new ++ []))
    leaves =
        reordered m mid (rax.refs_of m old ++ (was ∷ [])) (rax.refs_of mid new ++ (was ∷ [])) (rax.refs_of m old ++ (was ∷ [])) (was ∷ (rax.refs_of mid new ++ [])) own_was
        (beside_tree m mid old new (was ∷ []) own_was c) (λ r. refl)
        (λ r. omega (arith, times-append r (rax.refs_of mid new) [], times-append r (rax.refs_of mid new) (was ∷ [])))

    pub goes_live : IsSome (mid was)
    goes_live = was_live m mid new (rax.refs_of m old ++ (was ∷ [])) [] was leaves

    pub goes : after ≡ with_block mid was None → Exchanges m after old new (s.before ++ s.after)
    goes is =
        exchanged m after old new s.before (part key was s.bytes ∷ []) [] s.after parts (ended_changes m mid after new (rax.refs_of m old ++ (was ∷ [])) [] was leaves is)
        (ended_tree m mid after new (rax.refs_of m old ++ (was ∷ [])) [] was leaves is sound)
        (ended_entries m mid after new (rax.refs_of m old ++ (was ∷ [])) [] was leaves is ∙ removed ∙ ap (λ es. without es (id_key key)) parts.named
        ∙ without_there m s.before s.after (part key was s.bytes) back.0 front back.1 parts.rising)
        tt (rising_without s.before s.after (part key was s.bytes) parts.rising)

  -- it gets other bytes
  module _ (mid later after : Blocks) (new : PackedTree) (at : BlockRef) (bytes : List ℕ) (is : IsPut m mid at bytes) (c : Changes m mid [] (at ∷ [])) where
    pub set_tree : rax.IsSound mid old
    set_tree = placed_tree m mid old (was ∷ []) at bytes own_was h.stands is c

    pub set_value : value_at (rax.entries_of mid old) (id_key key) ≡ Some was
    set_value = ap (λ es. value_at es (id_key key)) (placed_entries m mid old (was ∷ []) at bytes own_was h.stands is c) ∙ stands_value

    placing : Changes m mid (rax.refs_of m old ++ (was ∷ [])) (rax.refs_of mid old ++ (at ∷ (was ∷ [])))
    placing = placed_changes m mid old (was ∷ []) at bytes own_was h.stands is c

    module _ (sound : rax.IsSound later new) (set : rax.entries_of later new ≡ with_entry (rax.entries_of mid old) (id_key key) at)
        (change : Changes mid later (rax.refs_of mid old) (rax.refs_of later new)) where
      own_placed : Owned (rax.refs_of mid old ++ (at ∷ (was ∷ []))) mid
      own_placed = changes_owned m mid (rax.refs_of m old ++ (was ∷ [])) (rax.refs_of mid old ++ (at ∷ (was ∷ []))) placing

      setting : Changes m later (rax.refs_of m old ++ (was ∷ [])) (was ∷ (rax.refs_of later new ++ (at ∷ [])))
      setting =
          reordered m later (rax.refs_of m old ++ (was ∷ [])) (rax.refs_of later new ++ (at ∷ (was ∷ []))) (rax.refs_of m old ++ (was ∷ [])) (was ∷ (rax.refs_of later new ++ (at ∷ []))) own_was
          (changes_then m mid later (rax.refs_of m old ++ (was ∷ [])) (rax.refs_of mid old ++ (at ∷ (was ∷ []))) (rax.refs_of later new ++ (at ∷ (was ∷ []))) placing
          (beside_tree mid later old new (at ∷ (was ∷ [])) own_placed change))
          (λ r. refl) (λ r. omega (arith, times-append r (rax.refs_of later new) (at ∷ []), times-append r (rax.refs_of later new) (at ∷ (was ∷ []))))

      pub set_live : IsSome (later was)
      set_live = was_live m later new (rax.refs_of m old ++ (was ∷ [])) (at ∷ []) was setting

      pub becomes : after ≡ with_block later was None → IsNodeOf key bytes → Rising (s.before ++ part key at bytes ∷ s.after) → Exchanges m after old new (s.before ++ part key at bytes ∷ s.after)
      becomes gone is_node rising =
          let mine : IsIn at (at ∷ []) = omega (arith, counts_itself at) in
          let held : Holds after at bytes =
          ended_block m later after new (rax.refs_of m old ++ (was ∷ [])) (at ∷ []) was setting gone at mine
          ∙ outside mid later (rax.refs_of mid old) (rax.refs_of later new) (at ∷ (was ∷ [])) own_placed change at (omega (arith, counts_itself at))
          ∙ placed_block m mid old (was ∷ []) at bytes own_was h.stands is c in
          exchanged m after old new s.before (part key was s.bytes ∷ []) (part key at bytes ∷ []) s.after parts
          (ended_changes m later after new (rax.refs_of m old ++ (was ∷ [])) (at ∷ []) was setting gone)
          (ended_tree m later after new (rax.refs_of m old ++ (was ∷ [])) (at ∷ []) was setting gone sound)
          (ended_entries m later after new (rax.refs_of m old ++ (was ∷ [])) (at ∷ []) was setting gone ∙ set
          ∙ ap (λ es. with_entry es (id_key key) at) (placed_entries m mid old (was ∷ []) at bytes own_was h.stands is c ∙ parts.named)
          ∙ with_there m s.before s.after (part key was s.bytes) back.0 front back.1 parts.rising at bytes)
          (record { id = stands_id; block = held; is_node = is_node }, tt) rising

  -- it gets other bytes in its block
  module _ (after : Blocks) (bytes : List ℕ) (is : IsPut m after was bytes) where
    written : Changes m after (was ∷ []) (was ∷ [])
    written =
        changes_counted m after (was ∷ []) (was ∷ []) (λ r. omega (arith, own_was r, times-append r (rax.refs_of m old) (was ∷ [])))
        (counts_written m after was bytes (was ∷ []) (was ∷ []) (ap is_some stands_block) is (omega (arith, counts_itself was)) (λ r. refl))

    settled : Stays m after old
    settled = tree_stays m after old (was ∷ []) (was ∷ []) own_was written

    named : rax.entries_of after old ≡ map entry_of (s.before ++ part key was bytes ∷ s.after)
    named =
        settled.entries_are ∙ parts.named ∙ map-append entry_of s.before (part key was s.bytes ∷ s.after)
        ∙ sym (map-append entry_of s.before (part key was bytes ∷ s.after))

    over : Changes m after (rax.refs_of m old ++ (was ∷ [])) (rax.refs_of after old ++ (was ∷ []))
    over =
        subst (λ rs. Changes m after (rax.refs_of m old ++ (was ∷ [])) (rs ++ (was ∷ []))) (sym settled.refs_are)
        (changes_beside m after (was ∷ []) (was ∷ []) (rax.refs_of m old ++ (was ∷ [])) (rax.refs_of m old ++ (was ∷ [])) written own_was (λ r. times r (rax.refs_of m old))
        (λ r. omega (arith, times-append r (rax.refs_of m old) (was ∷ []))) (λ r. omega (arith, times-append r (rax.refs_of m old) (was ∷ []))))

    pub rewritten : IsNodeOf key bytes → Rising (s.before ++ part key was bytes ∷ s.after) → Exchanges m after old old (s.before ++ part key was bytes ∷ s.after)
    rewritten is_node rising =
        let held : Holds after was bytes = ap (λ (b : Blocks). b was) is ∙ with_block_same m was (Some bytes) in
        exchanged m after old old s.before (part key was s.bytes ∷ []) (part key was bytes ∷ []) s.after parts over (settled.sound h.stands) named
        (record { id = stands_id; block = held; is_node = is_node }, tt) rising
