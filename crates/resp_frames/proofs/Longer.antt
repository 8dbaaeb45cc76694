-- Lengths, part by part.
use Rattle.std.proofs.Common.{◌≡◌, ℕ, ◌+◌, ◌<◌, ◌%◌, ◌^◌, List, [], ◌∷◌, ◌++◌, length, take, get_or, refl, sym, ap, ◌∙◌, length-append}
use Rattle.std.specs.Prelude.{flat_map}
use Rattle.std.proofs.Math.Nat.{mod-add-mod}
use Rattle.resp_frames.proofs.Putting.{parts_next}

-- a part more is as much longer, modulo 2^64
pub longer : {X : Type 0} (f : X → List ℕ) (xs : List X) (i : ℕ) (x : X) → i < length xs → x ≡ get_or xs i x → (n k sum : ℕ) → n ≡ length (flat_map f (take i xs)) % 2 ^ 64 → k ≡ length (f x)
    → sum ≡ (n + k) % 2 ^ 64 → sum ≡ length (flat_map f (take (i + 1) xs)) % 2 ^ 64
longer f xs i x h is n k sum before own added =
    let all : length (flat_map f (take (i + 1) xs)) ≡ length (flat_map f (take i xs)) + length (f x) =
    ap (λ (l : List ℕ). length l) (sym (parts_next f xs i x h is)) ∙ length-append (flat_map f (take i xs)) (f x) in
    added ∙ ap (λ m. (m + k) % 2 ^ 64) before ∙ mod-add-mod (length (flat_map f (take i xs))) (2 ^ 64) k ∙ ap (λ m. (length (flat_map f (take i xs)) + m) % 2 ^ 64) own
    ∙ ap (λ m. m % 2 ^ 64) (sym all)
