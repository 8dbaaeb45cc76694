-- Parts that are written one behind the other.
use Rattle.std.proofs.Common.{◌≡◌, ℕ, ◌+◌, List, [], ◌∷◌, ◌++◌, take, sym, ap, subst, ◌∙◌, append_assoc}
use Rattle.std.specs.Prelude.{flat_map, Some, slice_get}
use Rattle.std.proofs.lemmas.List.{append-nil, take_more}
use Rattle.std.proofs.lemmas.List.Concat.{flat_map-append}
use Rattle.std.proofs.lemmas.Option.{slice_get_within, get_or_from_slice_get}
use Rattle.outside.specs.Files.{ShelfSeen}
use Rattle.rdb_parts.specs.declared.pen.Pen.{Pen}
use Rattle.rdb_parts.specs.Pens.{Adds}
use Rattle.rdb_parts.proofs.Penned.{adds_then}

-- one more of the parts that are written one behind the other
pub adds_one : {A : Type 0} (o m n : ShelfSeen) (b c d : Pen) (word_of : A → List ℕ) (head : List ℕ) (xs : List A) (x : A) → Adds o m b c (head ++ flat_map word_of xs) → Adds m n c d (word_of x)
    → Adds o n b d (head ++ flat_map word_of (xs ++ x ∷ []))
adds_one o m n b c d word_of head xs x p q =
    let more : flat_map word_of (xs ++ x ∷ []) ≡ flat_map word_of xs ++ word_of x = flat_map-append word_of xs (x ∷ []) ∙ ap (λ l. flat_map word_of xs ++ l) (append-nil (word_of x)) in
    subst (Adds o n b d) (append_assoc head (flat_map word_of xs) (word_of x) ∙ ap (λ l. head ++ l) (sym more)) (adds_then o m n b c d (head ++ flat_map word_of xs) (word_of x) p q)

-- before the first one
pub adds_head : {A : Type 0} (o m : ShelfSeen) (b c : Pen) (word_of : A → List ℕ) (head : List ℕ) → Adds o m b c head → Adds o m b c (head ++ flat_map word_of [])
adds_head o m b c word_of head p = subst (Adds o m b c) (sym (append-nil head)) p

-- the first ones, and one more
pub take_one : {A : Type 0} (xs : List A) (i : ℕ) (x : A) → slice_get xs i ≡ Some x → take (i + 1) xs ≡ take i xs ++ x ∷ []
take_one xs i x is = take_more xs i x (slice_get_within xs i x is) ∙ ap (λ y. take i xs ++ y ∷ []) (get_or_from_slice_get xs i x x is)
