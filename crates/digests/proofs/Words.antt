-- The words of a padded message.
use Rattle.std.proofs.Common.{◌≡◌, ◌∙◌, ap, sym, refl, ℕ, ◌-◌, ◌*◌, ◌/◌, ◌%◌, ◌<◌, ◌≤◌, List, [], ◌∷◌, ◌++◌, length, take, drop, set, replicate, arith, length-drop, length-append}
use Rattle.std.proofs.lemmas.List.{drop-append-le}
use Rattle.std.proofs.lemmas.Grind.{common_steps}
use Rattle.byteorder.specs.Endian.{little_number}
use Rattle.byteorder.specs.Numbers.{little_from-append}
use Rattle.digests.specs.Siphash.{padded, word_at}

-- eight bytes with the tail in front and the last one set
pub last_at : (tail : List ℕ) (v : ℕ) → length tail < 8 → set (tail ++ drop (length tail) (0 ∷ 0 ∷ 0 ∷ 0 ∷ 0 ∷ 0 ∷ 0 ∷ 0 ∷ [])) 7 v ≡ tail ++ replicate (7 - length tail) 0 ++ v ∷ []
last_at [] v h = refl
last_at (a ∷ []) v h = refl
last_at (a ∷ b ∷ []) v h = refl
last_at (a ∷ b ∷ c ∷ []) v h = refl
last_at (a ∷ b ∷ c ∷ d ∷ []) v h = refl
last_at (a ∷ b ∷ c ∷ d ∷ e ∷ []) v h = refl
last_at (a ∷ b ∷ c ∷ d ∷ e ∷ f ∷ []) v h = refl
last_at (a ∷ b ∷ c ∷ d ∷ e ∷ f ∷ g ∷ []) v h = refl
last_at (a ∷ b ∷ c ∷ d ∷ e ∷ f ∷ g ∷ i ∷ rest) v h = absurd (omega arith)

-- what lies behind the message's whole words
pub drop_padded : (bytes : List ℕ) (n : ℕ) → 8 * n ≤ length bytes → drop (8 * n) (padded bytes) ≡ drop (8 * n) bytes ++ replicate (7 - length bytes % 8) 0 ++ (length bytes % 256) ∷ []
unfolding padded
drop_padded bytes n h =
    let zeros : List ℕ = replicate (7 - length bytes % 8) 0 in
    let within : 8 * n ≤ length (bytes ++ zeros) = omega (arith, h, length-append bytes zeros) in
    drop-append-le (8 * n) (bytes ++ zeros) (length bytes % 256 ∷ []) within
    ∙ ap (λ (xs : List ℕ). xs ++ (length bytes % 256) ∷ []) (drop-append-le (8 * n) bytes zeros h)

-- a whole word of the message is one of the padded message
pub word_in_in_words : (bytes : List ℕ) (n : ℕ) → n < length bytes / 8 → little_number 8 (drop (8 * n) bytes) ≡ word_at (padded bytes) n
word_in_in_words bytes n h =
    let zeros : List ℕ = replicate (7 - length bytes % 8) 0 in
    let start : 8 * n ≤ length bytes = omega arith in
    let long : 8 ≤ length (drop (8 * n) bytes) = omega (arith, length-drop (8 * n) bytes) in
    let longer : 8 ≤ length (drop (8 * n) bytes ++ zeros) = omega (arith, long, length-append (drop (8 * n) bytes) zeros) in
    sym (little_from-append 8 (drop (8 * n) bytes) zeros long)
    ∙ (sym (little_from-append 8 (drop (8 * n) bytes ++ zeros) (length bytes % 256 ∷ []) longer)
    ∙ ap (λ (xs : List ℕ). little_number 8 xs) (sym (drop_padded bytes n start)))

-- the last word
pub word_last_in_words : (bytes last : List ℕ) → last ≡ drop (8 * (length bytes / 8)) bytes ++ replicate (7 - length (drop (8 * (length bytes / 8)) bytes)) 0 ++ (length bytes % 256) ∷ []
    → little_number 8 last ≡ word_at (padded bytes) (length bytes / 8)
word_last_in_words bytes last is =
    let start : 8 * (length bytes / 8) ≤ length bytes = omega arith in
    let left : length (drop (8 * (length bytes / 8)) bytes) ≡ length bytes % 8 = omega (arith, length-drop (8 * (length bytes / 8)) bytes) in
    ap (λ (xs : List ℕ). little_number 8 xs)
    (is ∙ (ap (λ (k : ℕ). drop (8 * (length bytes / 8)) bytes ++ replicate (7 - k) 0 ++ (length bytes % 256) ∷ []) left ∙ sym (drop_padded bytes (length bytes / 8) start)))

-- all that is left, as a slice to the end
pub take-rest : (xs : List ℕ) (a : ℕ) → take (length xs - a) (drop a xs) ≡ drop a xs
take-rest xs a = grind (arith, common_steps)
