-- A dictionary of key blocks alone, in which one element's block moved.
use Rattle.std.proofs.Common.{◌≡◌, ◌≢◌, ℕ, ◌+◌, [], ◌∷◌, Some, is_some, sym, ap, ◌∙◌, arith, inl, inr}
use Rattle.std.proofs.lemmas.Bool.{cases_eq}
use Rattle.blocks.specs.declared.BlockRef.{BlockRef}
use Rattle.blocks.specs.Blocks.{Blocks, times, IsOut, Changes, Owned}
use Rattle.blocks.proofs.Refs.{cases_ref}
use Rattle.blocks.proofs.Change.{one_if, Counts, changes_counted, counts_changed, owned_others}
use Rattle.collection_walk.proofs.Lists.{same_some}
use Rattle.rehash_dict.specs.Table.{Table, Element, item}
use Rattle.rehash_dict.specs.Keyed.{Keyed, key_tables}
use Rattle.rehash_dict.specs.Steps.{Holds, Renames}
use Rattle.rehash_dict.specs.MapOf.{key_refs, own_of}
use Rattle.rehash_dict.proofs.MapOf.{refs_changed, key_refs_owned}
use Rattle.collection_walk.proofs.Named.{names_key, key_within}

module _ {V : Type 0} (m n : Blocks) (old new : Table V) (at : ℕ) (key ref : BlockRef) (value : V) (k : Keyed m old) (h : Holds old at key value) (same : n ref ≡ m key)
    (p : Changes m n (key ∷ []) (ref ∷ [])) (r : Renames old new at ref) where
  abbrev pub element : Element V
  element = record { key = key; hash = h.hash; value = value }

  pub renamed : r.element ≡ element
  renamed = same_some (item old at) r.element element r.found h.found

  pub bytes_kept : n ref ≡ m r.element.key
  bytes_kept = same ∙ ap (λ (e : Element V). m e.key) (sym renamed)

  pub other_kept : (other : ℕ) (e : Element V) → other ≢ at → item old other ≡ Some e → n e.key ≡ m e.key
  other_kept other e apart there = owned_others m n (key ∷ []) (ref ∷ []) (key_refs old) (key_refs_owned m old k) p e.key (names_key old other e there) out
    where
      out : IsOut e.key (key ∷ [])
      out = elim (cases_ref key e.key) [
        | inl one' ↦ absurd (apart (k.apart other at e element there h.found (ap m (sym one'))))
        | inr two ↦ omega (arith, ap one_if two)
      ]

  pub moved_keyed : Keyed n new × (key_tables n new ≡ key_tables m old)
  moved_keyed = r.keyed m n k bytes_kept other_kept

  refs_moved : (q : BlockRef) → times q (key_refs new) + times q (key ∷ []) ≡ times q (key_refs old) + times q (ref ∷ [])
  refs_moved q =
      let both = refs_changed (λ _. []) old new at (Some (record r.element { key = ref })) r.updates q in
      let was : times q (own_of (λ (_ : V). []) (item old at)) ≡ times q (key ∷ []) = ap (λ o. times q (own_of (λ (_ : V). []) o)) h.found in
      omega (arith, both, was)

  key_owned : Owned (key ∷ []) m
  key_owned q = omega (arith, key_within old at element h.found q, key_refs_owned m old k q)

  pub moved_changes : Changes m n (key_refs old) (key_refs new)
  moved_changes = changes_counted m n (key_refs old) (key_refs new) (key_refs_owned m old k) (record {
    balance = λ q. omega (arith, counts.balance q, refs_moved q);
    kept = λ q out_old out_new. counts.kept q (omega (arith, key_within old at element h.found q, out_old)) (omega (arith, refs_moved q, key_within old at element h.found q, out_old, out_new));
  })
    where
      counts : Counts m n (key ∷ []) (ref ∷ [])
      counts = counts_changed m n (key ∷ []) (ref ∷ []) key_owned p

  -- an element stands at each item number at which one stood
  pub items_stand : (i : ℕ) → is_some (item new i) ≡ is_some (item old i)
  items_stand i = elim (cases_eq i at) [
    | inl here ↦ ap (λ j. is_some (item new j)) here ∙ ap is_some r.updates.changed ∙ sym (ap (λ j. is_some (item old j)) here ∙ ap is_some r.found)
    | inr other ↦ ap is_some (r.updates.others i other)
  ]
