-- Lists that are gone over one by one.
use Rattle.std.proofs.Common.{◌≡◌, ℕ, ◌+◌, ◌<◌, List, [], ◌∷◌, ◌++◌, map, take, length, get_or, sym, ap, ◌∙◌}
use Rattle.std.proofs.lemmas.List.{take_more, map_push}

-- one more of them
pub one_more : {A B : Type 0} (f : A → B) (xs : List A) (i : ℕ) (x : A) (olds news : List B) → i < length xs → x ≡ get_or xs i x → news ≡ olds ++ f x ∷ [] → olds ≡ map f (take i xs)
    → news ≡ map f (take (i + 1) xs)
one_more f xs i x olds news inside is pushed so_far =
    pushed ∙ ap (λ l. l ++ f x ∷ []) so_far ∙ sym (map_push f (take i xs) x) ∙ ap (λ y. map f (take i xs ++ y ∷ [])) is ∙ sym (ap (map f) (take_more xs i x inside))
