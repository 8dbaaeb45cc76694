-- A set whose blocks move means what it meant.
use Rattle.std.proofs.Common.{◌≡◌, ◌≢◌, ◌⊎◌, ℕ, ◌+◌, ◌<◌, ◌≤◌, [], ◌∷◌, unwrap_or, refl, sym, ap, ◌∙◌, subst, arith, inl, inr}
use Rattle.blocks.specs.declared.BlockRef.{BlockRef}
use Rattle.blocks.specs.Blocks.{Blocks, bytes_at, Changes}
use Rattle.blocks.proofs.Change.{changes_same, changes_then}
use Rattle.object_codec.specs.declared.limits.Limits.{Limits}
use Rattle.collection_walk.proofs.Renamed.{bytes_kept, other_kept, moved_keyed, moved_changes, items_stand}
use Rattle.rehash_dict.specs.Keyed.{Keyed}
use Rattle.rehash_dict.specs.Steps.{Holds, Renames}
use Rattle.rehash_dict.specs.MapOf.{key_refs}
use Rattle.rehash_dict.proofs.MapOf.{map_of_renames, key_refs_owned}
use Rattle.set_object.specs.declared.members.Packed.{Packed}
use Rattle.set_object.specs.declared.members.Body.TheVariants.{Numbers, Pack}
use Rattle.set_object.specs.Members.{IsBody, IsNumbers, IsMemberPack, members_of}
use Rattle.set_object.specs.Relocation.{IsRelocatedTable}
use Rattle.set_object.proofs.Hashing.{Dict}

pub settled_same : (m : Blocks) (t : Dict) (stays : ℕ → Type 0) → Keyed m t → IsRelocatedTable m m t t stays
settled_same m t stays k = record {
  keyed = k;
  content_is = refl;
  tables_are = refl;
  changes = changes_same m (key_refs t) (key_refs_owned m t k);
  seed = refl;
  top = refl;
  same_items = λ at. refl;
  others = λ at h. refl;
}

-- ---- one member's block

module _ (m n : Blocks) (old new : Dict) (at : ℕ) (key ref : BlockRef) (k : Keyed m old) (h : Holds old at key tt) (same : n ref ≡ m key) (p : Changes m n (key ∷ []) (ref ∷ []))
    (r : Renames old new at ref) where
  pub item_settled : IsRelocatedTable m n old new (λ i. i ≢ at)
  item_settled =
      let moved = moved_keyed m n old new at key ref tt k h same p r in
      record {
        keyed = moved.0;
        content_is = map_of_renames m n (λ (v : Unit {0}). v) old new at ref k moved.0 r (bytes_kept m n old new at key ref tt k h same p r) (other_kept m n old new at key ref tt k h same p r);
        tables_are = moved.1;
        changes = moved_changes m n old new at key ref tt k h same p r;
        seed = r.seed;
        top = r.top;
        same_items = items_stand m n old new at key ref tt k h same p r;
        others = λ i other. r.updates.others i other;
      }

-- ---- one after the other

pub settled_more : (a b c : Blocks) (t u v : Dict) (start k : ℕ) → start ≤ k → IsRelocatedTable a b t u (λ i. (i < start) ⊎ (k ≤ i)) → IsRelocatedTable b c u v (λ i. i ≢ k)
    → IsRelocatedTable a c t v (λ i. (i < start) ⊎ (k + 1 ≤ i))
settled_more a b c t u v start k low p q = record {
  keyed = q.keyed;
  content_is = q.content_is ∙ p.content_is;
  tables_are = q.tables_are ∙ p.tables_are;
  changes = changes_then a b c (key_refs t) (key_refs u) (key_refs v) p.changes q.changes;
  seed = q.seed ∙ p.seed;
  top = q.top ∙ p.top;
  same_items = λ i. q.same_items i ∙ p.same_items i;
  others = λ i h. elim h [
    | inl before' ↦ q.others i (λ same. omega (arith, before', low, same)) ∙ p.others i (inl before')
    | inr behind ↦ q.others i (λ same. omega (arith, behind, same)) ∙ p.others i (inr (omega (arith, behind)))
  ];
}

-- ---- packed forms

-- the block of a packed form was named anew
module _ (m n : Blocks) (limits : Limits) (seed : ℕ) (old new : Packed) (same : n new.at ≡ m old.at) (len : new.len ≡ old.len) where
  bytes_same : bytes_at n new.at ≡ bytes_at m old.at
  bytes_same = ap (λ o. unwrap_or o []) same

  pub numbers_moved : IsBody m limits seed (Numbers old) → IsBody n limits seed (Numbers new)
  numbers_moved is = subst (λ k. IsNumbers limits k (bytes_at n new.at)) (sym len) (subst (IsNumbers limits old.len) (sym bytes_same) is)

  pub numbers_mean : members_of n (Numbers new) ≡ members_of m (Numbers old)
  numbers_mean = ap (λ o. members_of (λ _. o) (Numbers old)) same

  pub pack_moved : IsBody m limits seed (Pack old) → IsBody n limits seed (Pack new)
  pack_moved is = subst (λ k. IsMemberPack limits k (bytes_at n new.at)) (sym len) (subst (IsMemberPack limits old.len) (sym bytes_same) is)

  pub pack_mean : members_of n (Pack new) ≡ members_of m (Pack old)
  pack_mean = ap (λ o. members_of (λ _. o) (Pack old)) same

pub settled_weaker : (a b : Blocks) (t u : Dict) (stays fewer : ℕ → Type 0) → ((i : ℕ) → fewer i → stays i) → IsRelocatedTable a b t u stays → IsRelocatedTable a b t u fewer
settled_weaker a b t u stays fewer weaker p = record {
  keyed = p.keyed;
  content_is = p.content_is;
  tables_are = p.tables_are;
  changes = p.changes;
  seed = p.seed;
  top = p.top;
  same_items = p.same_items;
  others = λ i h. p.others i (weaker i h);
}
