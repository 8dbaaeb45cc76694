-- A dictionary of member blocks, into which a member is put, and out of which one is taken.
use Rattle.std.proofs.Common.{◌≡◌, ◌≢◌, ℕ, ◌+◌, true, false, List, [], ◌∷◌, Some, None, IsSome, is_some, unwrap_or, flat_map, refl, sym, ap, ◌∙◌, subst, arith, inl, inr}
use Rattle.std.specs.FinMap.{insert, remove, empty}
use Rattle.blocks.specs.declared.BlockRef.{BlockRef}
use Rattle.blocks.specs.Blocks.{Blocks, ref_eq, times, with_block, bytes_at, Changes}
use Rattle.blocks.proofs.Refs.{apart_live, with_block_other, cases_ref}
use Rattle.blocks.proofs.Change.{one, changes_beside, changes_counted, changes_then, changes_same, counts_ended}
use Rattle.rehash_dict.specs.Table.{Element, Table, item}
use Rattle.rehash_dict.specs.Keyed.{Keyed, Lacks, hash_of, key_tables}
use Rattle.rehash_dict.specs.Steps.{Adds, Removes}
use Rattle.rehash_dict.specs.Grown.{Grown}
use Rattle.rehash_dict.specs.MapOf.{content, key_refs, own_of}
use Rattle.rehash_dict.proofs.Keys.{keyed_frame}
use Rattle.rehash_dict.proofs.Fresh.{keyed_fresh, lacks_placed, placed_bytes}
use Rattle.rehash_dict.proofs.MapOf.{cases_key, map_of_stands, map_of_frame, refs_changed, key_refs_owned}
use Rattle.rehash_dict.proofs.Growing.{grown_then, grown_same}
use Rattle.set_object.specs.Strings.{Strings, has, set_of}
use Rattle.set_object.specs.Hashed.{IsHashed, no_members}
use Rattle.set_object.proofs.Sets.{set_nil}

abbrev pub Dict : Type 0
Dict = Table (Unit {0})

-- what the set lacks no element has
pub lacks_member : (m : Blocks) (t : Dict) (q : List ℕ) → Keyed m t → has (content m t) q ≡ false → Lacks m t q
lacks_member m t q k none = elim (cases_key m t q k) [
  | inl s ↦ absurd (never (ap is_some (map_of_stands m (λ v. v) t s.at s.element q k s.found s.bytes)))
  | inr lacks ↦ lacks
]
  where
    never : has (content m t) q ≡ true → ⊥
    never some = cc

-- the set is the same where the key blocks keep their bytes
pub content_kept : (m n : Blocks) (t : Dict) → Keyed m t → ((at : ℕ) (e : Element (Unit {0})) → item t at ≡ Some e → n e.key ≡ m e.key) → content n t ≡ content m t
content_kept m n t k keeps = map_of_frame m n (λ v. v) (λ v. v) t k (keyed_frame m n t k keeps).0 (λ at e there. (keeps at e there, refl))

-- ---- a member's block was placed

module _ (m n : Blocks) (at : BlockRef) (member : List ℕ) (old : Dict) (k : Keyed m old) (fresh : m at ≡ None) (placed : n ≡ with_block m at (Some member)) where
  key_kept : (i : ℕ) (e : Element (Unit {0})) → item old i ≡ Some e → n e.key ≡ m e.key
  key_kept i e h = (λ j. placed j e.key) ∙ with_block_other m at e.key (Some member) (apart_live m e.key at (k.live i e h) fresh)

  pub put_keyed : Keyed n old
  put_keyed = (keyed_fresh m n at (Some member) old k fresh placed).0

  pub put_lacks : has (content m old) member ≡ false → Lacks n old (bytes_at n at)
  put_lacks none = lacks_placed m n at member old k fresh placed (lacks_member m old member k none)

  pub put_hashed : (new : Dict) (i : ℕ) (e : Element (Unit {0})) → e.key ≡ at → Adds old new i e → Keyed n new → Changes m n [] (at ∷ [])
      → content n new ≡ insert (content n old) (bytes_at n at) tt → Grown (hash_of old.seed) (key_tables n old) (key_tables n new) → IsHashed m n old new (insert (content m old) member tt)
  put_hashed new i e key adds keyed p is grown = record {
    keyed = keyed;
    seed = adds.seed;
    members_are = is ∙ ap (λ q. insert (content n old) q tt) (ap (λ o. unwrap_or o []) (placed_bytes m n at member placed)) ∙ ap (λ s. insert s member tt) (content_kept m n old k key_kept);
    changes = changes_beside m n [] (at ∷ []) (key_refs old) (key_refs new) p (key_refs_owned m old k) (λ r. times r (key_refs old)) (λ r. omega arith) more;
    grown = subst (λ t. Grown (hash_of old.seed) t (key_tables n new)) (keyed_fresh m n at (Some member) old k fresh placed).1 grown;
  }
    where
      more : (r : BlockRef) → times r (key_refs new) ≡ times r (at ∷ []) + times r (key_refs old)
      more r =
          let both = refs_changed (λ _. []) old new i (Some e) adds.updates r in
          let none : times r (own_of (λ (_ : Unit {0}). []) (item old i)) ≡ 0 = ap (λ o. times r (own_of (λ (_ : Unit {0}). []) o)) adds.vacant in
          let named : times r (e.key ∷ []) ≡ times r (at ∷ []) = ap (λ (q : BlockRef). times r (q ∷ [])) key in
          omega (arith, both, none, named)

-- ---- a member was taken out, and its block given back

module _ (m n : Blocks) (old mid new : Dict) (member : List ℕ) (ref : BlockRef) (k : Keyed m old) (r : Removes m old mid member ref tt) (l : Keyed m mid) (given : n ≡ with_block m ref None) where
  other_key : (i : ℕ) (e : Element (Unit {0})) → item mid i ≡ Some e → ref_eq e.key ref ≡ false
  other_key i e h = elim (cases_ref e.key ref) [
    | inl same ↦ absurd (never same)
    | inr other ↦ other
  ]
    where
      apart : i ≢ r.at
      apart same = let none : item mid i ≡ None = ap (item mid) same ∙ r.updates.changed in cc

      never : e.key ≡ ref → ⊥
      never same = apart (k.apart i r.at e (record { key = ref; hash = r.hash; value = tt }) (sym (r.updates.others i apart) ∙ h) r.found (ap m same))

  taken_kept : (i : ℕ) (e : Element (Unit {0})) → item mid i ≡ Some e → n e.key ≡ m e.key
  taken_kept i e h = (λ j. given j e.key) ∙ with_block_other m ref e.key None (other_key i e h)

  pub taken_keyed : Keyed n mid
  taken_keyed = (keyed_frame m n mid l taken_kept).0

  pub taken_hashed : content m mid ≡ remove (content m old) member → Grown (hash_of old.seed) (key_tables m old) (key_tables m mid)
      → Keyed n new → new.items ≡ mid.items → new.seed ≡ mid.seed → content n new ≡ content n mid → Grown (hash_of mid.seed) (key_tables n mid) (key_tables n new)
      → IsHashed m n old new (remove (content m old) member)
  taken_hashed is grown keyed items seed same shrunk = record {
    keyed = keyed;
    seed = seed ∙ r.seed;
    members_are = same ∙ content_kept m n mid l taken_kept ∙ is;
    changes = changes_counted m n (key_refs old) (key_refs new) (key_refs_owned m old k) (counts_ended m n ref (key_refs old) (key_refs new) live given fewer);
    grown = grown_then (hash_of old.seed) (key_tables m old) (key_tables m mid) (key_tables n new) grown
        (subst (λ t. Grown (hash_of old.seed) t (key_tables n new)) (keyed_frame m n mid l taken_kept).1
        (subst (λ s. Grown (hash_of s) (key_tables n mid) (key_tables n new)) r.seed shrunk));
  }
    where
      live : IsSome (m ref)
      live = subst (λ o. IsSome o) (sym r.bytes) refl

      fewer : (q : BlockRef) → times q (key_refs new) + one q ref ≡ times q (key_refs old)
      fewer q =
          let both = refs_changed (λ _. []) old mid r.at None r.updates q in
          let was : times q (own_of (λ (_ : Unit {0}). []) (item old r.at)) ≡ times q (ref ∷ []) = ap (λ o. times q (own_of (λ (_ : Unit {0}). []) o)) r.found in
          let same_refs : times q (key_refs new) ≡ times q (key_refs mid) = ap (λ xs. times q (flat_map (own_of (λ (_ : Unit {0}). [])) xs)) items in
          omega (arith, both, was, same_refs)

-- one after the other
pub hashed_then : (a b c : Blocks) (t u v : Dict) (s w : Strings) → IsHashed a b t u s → IsHashed b c u v w → IsHashed a c t v w
hashed_then a b c t u v s w p q = record {
  keyed = q.keyed;
  seed = q.seed ∙ p.seed;
  members_are = q.members_are;
  changes = changes_then a b c (key_refs t) (key_refs u) (key_refs v) p.changes q.changes;
  grown = grown_then (hash_of t.seed) (key_tables a t) (key_tables b u) (key_tables c v) p.grown (subst (λ n. Grown (hash_of n) (key_tables b u) (key_tables c v)) p.seed q.grown);
}

-- what changes no reference changes nothing
pub all_same : (m n : Blocks) → Changes m n [] [] → n ≡ m
all_same m n p = λ i r. p.kept r refl refl i

-- a new dictionary
pub new_is : (t : Dict) (seed : ℕ) → t.items ≡ [] → t.older ≡ [] → t.newer ≡ [] → t.position ≡ 0 → t.seed ≡ seed → t.top ≡ 0 → t ≡ no_members seed
new_is t seed items older newer position seed_is top = λ i. record { items = items i; older = older i; newer = newer i; position = position i; seed = seed_is i; top = top i }

pub new_hashed : (m : Blocks) (t : Dict) (seed : ℕ) → t ≡ no_members seed → Keyed m t → content m t ≡ empty → IsHashed m m (no_members seed) t (set_of [])
new_hashed m t seed is keyed none = record {
  keyed = keyed;
  seed = ap (λ (d : Dict). d.seed) is;
  members_are = none ∙ sym set_nil;
  changes = subst (λ (d : Dict). Changes m m [] (key_refs d)) (sym is) (changes_same m [] (λ r. omega arith));
  grown = grown_same (hash_of seed) _ _ (ap (key_tables m) is);
}
