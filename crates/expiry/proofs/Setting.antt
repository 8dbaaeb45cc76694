-- What becomes of deadlines where a key gets one.
use Rattle.std.proofs.Common.{◌≡◌, ℕ, List, [], Some, IsSome, unwrap_or, refl, ap, ◌∙◌, subst}
use Rattle.std.specs.FinMap.{insert}
use Rattle.blocks.specs.declared.BlockRef.{BlockRef}
use Rattle.blocks.specs.Blocks.{Blocks, bytes_at}
use Rattle.rehash_dict.specs.Table.{Table}
use Rattle.rehash_dict.specs.Keyed.{hash_of, key_of, Lacks, Keyed, key_tables}
use Rattle.rehash_dict.specs.Steps.{Adds}
use Rattle.rehash_dict.specs.MapOf.{content}
use Rattle.rehash_dict.specs.Grown.{Grown}
use Rattle.rehash_dict.proofs.Growing.{grown_insert, grown_same}
use Rattle.rehash_dict.proofs.MapOf.{map_of_adds, map_of_swaps}
use Rattle.expiry.specs.Changes.{Sets}
use Rattle.expiry.specs.Changes.Sets.{changes, joins}

pub read : (m : Blocks) (key : BlockRef) (bytes : List ℕ) → m key ≡ Some bytes → bytes_at m key ≡ bytes
read m key bytes h = ap (λ o. unwrap_or o []) h

module _ (m : Blocks) (t new : Table ℕ) (key : BlockRef) (deadline : ℕ) where
  -- the key has none
  module _ (hash at : ℕ) (keyed : Keyed m t) (live : IsSome (m key)) (is : hash ≡ hash_of t.seed (bytes_at m key)) (lacks : Lacks m t (bytes_at m key))
      (adds : Adds t new at (record { key = key; hash = hash; value = deadline })) where
    added : Adds t new at (record { key = key; hash = hash_of t.seed (bytes_at m key); value = deadline })
    added = subst (λ h. Adds t new at (record { key = key; hash = h; value = deadline })) is adds

    pub keyed_joined : Keyed m new
    keyed_joined = (added.keyed m keyed live refl lacks).0

    pub joined : Sets m t new key deadline
    joined = joins at lacks added (added.keyed m keyed live refl lacks).1

  pub moments_set : Keyed m t → Keyed m new → IsSome (m key) → Sets m t new key deadline → content m new ≡ insert (content m t) (bytes_at m key) deadline
  moments_set k l live (changes at was stands swaps tables) =
      map_of_swaps m (λ v. v) t new k at was deadline l swaps
      ∙ ap (λ q. insert (content m t) q deadline) (ap (key_of m) stands.found ∙ read m stands.element.key (bytes_at m key) stands.bytes)
  moments_set k l live (joins at lacks adds tables) = map_of_adds m (λ v. v) t new k at _ l live adds

  pub grown_set : Keyed m t → Sets m t new key deadline → Grown (hash_of t.seed) (key_tables m t) (key_tables m new)
  grown_set k (changes at was stands swaps tables) = grown_same (hash_of t.seed) (key_tables m t) (key_tables m new) tables
  grown_set k (joins at lacks adds tables) = grown_insert m t new (bytes_at m key) k lacks tables
