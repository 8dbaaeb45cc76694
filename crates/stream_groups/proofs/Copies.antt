-- What is copied place by place is the same.
use Rattle.std.proofs.Common.{◌≡◌, ℕ, List, [], ◌∷◌, refl, ap}
use Rattle.std.specs.List.{AllZip}
use Rattle.std.specs.Vec.{vec_len}
use Rattle.std.specs.FinMap.{from_sorted}
use Rattle.stream_groups.specs.Seen.{seen, seen_entries}
use Rattle.stream_groups.specs.declared.entries.Handed.{Handed}
use Rattle.stream_groups.specs.Groups.{Id, id_cmp, name_cmp}
use Rattle.stream_groups.specs.Kept.{Name, bytes_of, named, pending_of, pendings_of}
use Rattle.stream_groups.specs.Consumers as consumers
use Rattle.stream_groups.specs.Consumers.{listed, names_of}

-- Bytes that were copied are the same.
same_bytes : (xs ys : List ℕ) → AllZip (λ x y. y ≡ x) xs ys → ys ≡ xs
same_bytes [] [] h = refl
same_bytes [] (y ∷ ys) h = absurd h
same_bytes (x ∷ xs) [] h = absurd h
same_bytes (x ∷ xs) (y ∷ ys) h = λ i. h.0 i ∷ same_bytes xs ys h.1 i

-- Names that were copied are the same names.
pub same_listed : (xs ys : List consumers.Name) → AllZip (λ x y. y.value ≡ x.value) xs ys → listed ys ≡ listed xs
same_listed [] [] h = refl
same_listed [] (y ∷ ys) h = absurd h
same_listed (x ∷ xs) [] h = absurd h
same_listed (x ∷ xs) (y ∷ ys) h = λ i. ((h.0 i).items, tt) ∷ same_listed xs ys h.1 i

pub same_names : (xs ys : List consumers.Name) → AllZip (λ x y. y.value ≡ x.value) xs ys → names_of ys ≡ names_of xs
unfolding names_of
same_names xs ys h = ap from_sorted (same_listed xs ys h)

-- a copy of a pending entry
abbrev pub IsHandedCopy : Id × Handed → Id × Handed → Type 0
IsHandedCopy p q = ((q.0.0 ≡ p.0.0) × (q.0.1 ≡ p.0.1)) × (pending_of q.1 ≡ pending_of p.1)

same_handed : (es fs : List (Id × Handed)) → AllZip IsHandedCopy es fs → seen_entries (λ id. id) pending_of fs ≡ seen_entries (λ id. id) pending_of es
same_handed [] [] h = refl
same_handed [] (f ∷ fs) h = absurd h
same_handed (e ∷ es) [] h = absurd h
same_handed (e ∷ es) (f ∷ fs) h = λ i. ((h.0.0.0 i, h.0.0.1 i), h.0.1 i) ∷ same_handed es fs h.1 i

-- Pending entries that were copied are the same.
pub same_pendings : (es fs : List (Id × Handed)) → AllZip IsHandedCopy es fs → pendings_of fs ≡ pendings_of es
unfolding seen
same_pendings es fs h = ap (from_sorted {R = id_cmp}) (same_handed es fs h)

-- a copy of what is kept under a name
abbrev pub IsNamedCopy : {X : Type 0} → Name × X → Name × X → Type 0
IsNamedCopy p q = (AllZip (λ x y. y ≡ x) p.0.items q.0.items × (vec_len q.0 ≡ vec_len p.0)) × (q.1 ≡ p.1)

same_entries_named : {X : Type 0} (es fs : List (Name × X)) → AllZip IsNamedCopy es fs → seen_entries bytes_of (λ (x : X). x) fs ≡ seen_entries bytes_of (λ x. x) es
same_entries_named [] [] h = refl
same_entries_named [] (f ∷ fs) h = absurd h
same_entries_named (e ∷ es) [] h = absurd h
same_entries_named (e ∷ es) (f ∷ fs) h = λ i. (same_bytes e.0.items f.0.items h.0.0.0 i, h.0.1 i) ∷ same_entries_named es fs h.1 i

-- What is copied under the same names is the same.
pub same_under_names : {X : Type 0} (es fs : List (Name × X)) → AllZip IsNamedCopy es fs → named (λ (x : X). x) fs ≡ named (λ x. x) es
unfolding seen
same_under_names es fs h = ap (from_sorted {R = name_cmp}) (same_entries_named es fs h)
