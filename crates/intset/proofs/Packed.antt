-- Lists of numbers that stand packed in bytes.
use Rattle.std.proofs.Common.{◌≡◌, inl, inr, ℕ, zero, suc, ◌+◌, ◌*◌, ◌-◌, ◌<◌, ◌≤◌, List, [], ◌∷◌, ◌++◌, length, take, drop, get_or, refl, sym, ap, ◌∙◌, arith, Some}
use Rattle.std.proofs.Math.Nat.{mul-le-mul_left, mul-le-mul_right}
use Rattle.std.proofs.lemmas.List.{take_all, length-drop, drop-drop, drop-append-le}
use Rattle.std.specs.Prelude.{ℤ, slice_get}
use Rattle.byteorder.specs.Numbers.{little_from-append}
use Rattle.intset.specs.Intset.{packed_numbers, first_number, numbers_of, width_of, count_of, IsWidth}

pub length_packed_in_packed : (width count : ℕ) (packed : List ℕ) → length (packed_numbers width count packed) ≡ count
length_packed_in_packed width zero packed = refl
length_packed_in_packed width (suc count) packed = let e = length_packed_in_packed width count (drop width packed) in omega (arith, e)

-- the number at a place stands where its width says
pub get_or_packed : (width count : ℕ) (packed : List ℕ) (k : ℕ) (d : ℤ) → k < count → get_or (packed_numbers width count packed) k d ≡ first_number width (drop (width * k) packed)
get_or_packed width zero packed k d h = absurd (omega arith)
get_or_packed width (suc count) packed zero d h = let e : width * 0 ≡ 0 = omega arith in rw e refl
get_or_packed width (suc count) packed (suc k) d h =
    let e : width * suc k ≡ width + width * k = omega arith in
    get_or_packed width count (drop width packed) k d (omega arith)
    ∙ ap (first_number width) (drop-drop (width * k) width packed)
    ∙ ap (λ m. first_number width (drop m packed)) (sym e)

pub slice_get_packed : (width count : ℕ) (packed : List ℕ) (k : ℕ) → k < count → slice_get (packed_numbers width count packed) k ≡ Some (first_number width (drop (width * k) packed))
slice_get_packed width zero packed k h = absurd (omega arith)
slice_get_packed width (suc count) packed zero h = let e : width * 0 ≡ 0 = omega arith in rw e refl
slice_get_packed width (suc count) packed (suc k) h =
    let e : width * suc k ≡ width + width * k = omega arith in
    slice_get_packed width count (drop width packed) k (omega arith)
    ∙ ap (λ bytes. Some (first_number width bytes)) (drop-drop (width * k) width packed)
    ∙ ap (λ m. Some (first_number width (drop m packed))) (sym e)

-- packed numbers one behind the other
pub packed_append : (width m n : ℕ) (xs ys : List ℕ) → length xs ≡ width * m → packed_numbers width (m + n) (xs ++ ys) ≡ packed_numbers width m xs ++ packed_numbers width n ys
unfolding first_number
packed_append width zero n [] ys h = let e : 0 + n ≡ n = omega arith in rw e refl
packed_append width zero n (x ∷ xs) ys h = absurd (omega arith)
packed_append width (suc m) n xs ys h =
    let e : suc m + n ≡ suc (m + n) = omega arith in
    let fits : width ≤ length xs = omega arith in
    let rest : length (drop width xs) ≡ width * m = length-drop width xs ∙ omega arith in
    let first = little_from-append width xs ys fits in
    let cut = drop-append-le width xs ys fits in
    let more = packed_append width m n (drop width xs) ys rest in
    rw (e, cut, more, first) refl

-- a number that there is has room among the bytes
pub packed_room : (width index count : ℕ) → index < count → width * index + width ≤ width * count
packed_room width index count h =
    let e : width * suc index ≤ width * count = mul-le-mul_left width (omega arith) in
    omega (arith, e)

-- the bytes from a place on, as a slice of them
pub rest_is : (n : ℕ) (bytes : List ℕ) → take (length bytes - n) (drop n bytes) ≡ drop n bytes
rest_is n bytes = take_all (length bytes - n) (drop n bytes) (let e = length-drop n bytes in omega (arith, e))

pub numbers_of_is : (bytes : List ℕ) → numbers_of bytes ≡ packed_numbers (width_of bytes) (count_of bytes) (drop 8 bytes)
unfolding numbers_of
numbers_of_is bytes = refl

-- a width is at most eight
pub width_high : (width : ℕ) → IsWidth width → width ≤ 8
width_high width sized = elim sized [ inl e ↦ omega arith | inr more ↦ elim more [ inl e ↦ omega arith | inr e ↦ omega arith ] ]

-- so many numbers take few bytes
pub packed_small : (width count : ℕ) → IsWidth width → width * count ≤ 8 * count
packed_small width count sized = mul-le-mul_right count (width_high width sized)
