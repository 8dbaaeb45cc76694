-- A set whose members are copied.
use Rattle.std.proofs.Common.{◌≡◌, ℕ, suc, ◌<◌, false, List, [], ◌∷◌, length, take, Some, None, IsSome, unwrap_or, flat_map, get_or, refl, sym, ap, ◌∙◌, subst, arith}
use Rattle.std.proofs.lemmas.List.{take_all}
use Rattle.std.specs.FinMap.{insert}
use Rattle.blocks.specs.declared.BlockRef.{BlockRef}
use Rattle.blocks.specs.Blocks.{Blocks, bytes_at, with_block, Changes}
use Rattle.blocks.proofs.Change.{owned_others, changes_same}
use Rattle.rehash_dict.specs.Table.{Element, item}
use Rattle.rehash_dict.specs.Keyed.{Keyed, hash_of, key_of}
use Rattle.rehash_dict.specs.MapOf.{content, key_refs}
use Rattle.rehash_dict.proofs.Keys.{keyed_frame, live_bytes}
use Rattle.rehash_dict.proofs.Fresh.{placed_bytes}
use Rattle.rehash_dict.proofs.MapOf.{key_refs_owned}
use Rattle.rehash_dict.proofs.Growing.{grown_same}
use Rattle.set_object.specs.declared.members.Packed.{Packed}
use Rattle.set_object.specs.declared.members.Body.TheVariants.{Empty, Numbers, Pack}
use Rattle.set_object.specs.declared.members.Members.{Members}
use Rattle.set_object.specs.Strings.{set_of, has}
use Rattle.set_object.specs.Hashed.{IsHashed, no_members}
use Rattle.set_object.specs.Members.{IsMembers, IsBody, IsPlacedBody, members, members_of, key_in, no_tables}
use Rattle.set_object.proofs.Sets.{among, has_among, once_before, set_more}
use Rattle.set_object.proofs.Hashing.{Dict}
use Rattle.set_object.proofs.Listed.{table_listed, table_once, keys_len}
use Rattle.set_object.proofs.Ranks.{key_there}
use Rattle.collection_walk.proofs.Ranks.{rank, rank_next, rank_past, rank_below, rank_all}
use Rattle.collection_walk.proofs.Named.{names_key}
use Rattle.set_object.proofs.Settling.{numbers_moved, numbers_mean, pack_moved, pack_mean}

-- the members of a dictionary before an item number
abbrev pub keys_before : Blocks → Dict → ℕ → List (List ℕ)
keys_before m t at = take (rank t.items at) (flat_map (key_in m) t.items)

module _ (m mid : Blocks) (seed : ℕ) (t u : Dict) (at : ℕ) (k : Keyed m t) (p : IsHashed m mid (no_members seed) u (set_of (keys_before m t at))) where
  key_kept : (i : ℕ) (e : Element (Unit {0})) → item t i ≡ Some e → mid e.key ≡ m e.key
  key_kept i e there = owned_others m mid [] (key_refs u) (key_refs t) (key_refs_owned m t k) p.changes e.key (names_key t i e there) refl

  pub source_keyed : Keyed mid t
  source_keyed = (keyed_frame m mid t k key_kept).0

  module _ (e : Element (Unit {0})) (there : item t at ≡ Some e) where
    abbrev keys : List (List ℕ)
    keys = flat_map (key_in m) t.items

    key_is : key_of mid (item t at) ≡ get_or keys (rank t.items at) []
    key_is = ap (key_of mid) there ∙ ap (λ o. unwrap_or o []) (key_kept at e there) ∙ sym (key_there m t.items at e there)

    inside : rank t.items at < length keys
    inside = omega (arith, rank_below t.items at e there, keys_len m t.items)

    pub next_absent : has (content mid u) (key_of mid (item t at)) ≡ false
    next_absent =
        ap (λ s. has s (key_of mid (item t at))) p.members_are ∙ has_among (keys_before m t at) (key_of mid (item t at)) ∙ ap (λ (q : List ℕ). among q (keys_before m t at)) key_is
        ∙ once_before keys (rank t.items at) (table_once m t k) inside

    pub next_put : insert (content mid u) (key_of mid (item t at)) tt ≡ set_of (keys_before m t (suc at))
    next_put =
        ap (λ s. insert s (key_of mid (item t at)) tt) p.members_are ∙ ap (λ q. insert (set_of (keys_before m t at)) q tt) key_is ∙ sym (set_more keys (rank t.items at) inside)
        ∙ ap (λ n. set_of (take n keys)) (sym (rank_next t.items at e there))

  pub vacant_same : item t at ≡ None → set_of (keys_before m t at) ≡ set_of (keys_before m t (suc at))
  vacant_same none = ap (λ n. set_of (take n (flat_map (key_in m) t.items))) (sym (rank_past t.items at none))

pub all_copied : (m : Blocks) (t : Dict) (at : ℕ) → ((i : ℕ) → IsSome (item t i) → i < at) → set_of (keys_before m t at) ≡ content m t
all_copied m t at below =
    ap set_of (take_all (rank t.items at) (flat_map (key_in m) t.items) (omega (arith, rank_all t.items at below, keys_len m t.items))) ∙ sym (table_listed m t)

-- the bytes of a packed form were placed once more
module _ (m n : Blocks) (s : Members) (p : Packed) (at : BlockRef) (sound : IsMembers m s) (placed : n ≡ with_block m at (Some (bytes_at m p.at))) (changes : Changes m n [] (at ∷ [])) where
  abbrev pub copy : Packed
  copy = record { at = at; len = p.len }

  same_block : IsSome (m p.at) → n at ≡ m p.at
  same_block live = placed_bytes m n at (bytes_at m p.at) placed ∙ sym (live_bytes m p.at live)

  pub numbers_copied : s.body ≡ Numbers p → IsSome (m p.at) → IsPlacedBody m n s (Numbers copy) (members m s)
  numbers_copied is live = record {
    sound = numbers_moved m n s.limits s.seed p copy (same_block live) refl (subst (IsBody m s.limits s.seed) is sound.body);
    members_are = numbers_mean m n s.limits s.seed p copy (same_block live) refl ∙ ap (members_of m) (sym is);
    changes = changes;
    grown = grown_same (hash_of s.seed) no_tables no_tables refl;
  }

  pub pack_copied : s.body ≡ Pack p → IsSome (m p.at) → IsPlacedBody m n s (Pack copy) (members m s)
  pack_copied is live = record {
    sound = pack_moved m n s.limits s.seed p copy (same_block live) refl (subst (IsBody m s.limits s.seed) is sound.body);
    members_are = pack_mean m n s.limits s.seed p copy (same_block live) refl ∙ ap (members_of m) (sym is);
    changes = changes;
    grown = grown_same (hash_of s.seed) no_tables no_tables refl;
  }

pub empty_copied : (m : Blocks) (s : Members) → s.body ≡ Empty → IsPlacedBody m m s Empty (members m s)
empty_copied m s is = record {
  sound = tt;
  members_are = ap (members_of m) (sym is);
  changes = changes_same m [] (λ r. omega arith);
  grown = grown_same (hash_of s.seed) no_tables no_tables refl;
}
