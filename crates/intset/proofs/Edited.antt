-- What an edit of the bytes means for the numbers.
use Rattle.std.proofs.Common.{◌≡◌, ℕ, suc, ◌+◌, ◌*◌, ◌-◌, ◌^◌, ◌<◌, ◌≤◌, List, [], ◌∷◌, ◌++◌, length, take, drop, refl, sym, ap, ◌∙◌, arith, length-append, append_assoc, length-take}
use Rattle.std.proofs.Math.Nat.{mul-le-mul_left}
use Rattle.std.proofs.lemmas.List.{take_all, take_more, get_or-drop, length-take-le, length-drop, drop-drop, drop_at, drop-append-le, take-append-le, take-append-drop, drop-take}
use Rattle.std.specs.Prelude.{ℤ, Some, slice_get, slice_index}
use Rattle.std.specs.List.{insert, remove}
use Rattle.byteorder.specs.Endian.{little_bytes, little_number}
use Rattle.byteorder.specs.Numbers.{little_from-append, little_from-take, little_number-reads_back, length-bytes_low_first}
use Rattle.intset.specs.Intset.{packed_numbers, first_number, numbers_of, width_of, count_of, IsWidth, HasWidth, HasLength, IsRising, IsIntset, width_for}
use Rattle.intset.specs.Places.{IsEdited, IsCopied}
use Rattle.intset.proofs.Packed.{packed_append, length_packed_in_packed, numbers_of_is, width_high, slice_get_packed}
use Rattle.intset.proofs.Written.{first_number_fits}
use Rattle.std.proofs.lemmas.Option.{slice_get_within, get_or_from_slice_get}
use Rattle.std.proofs.lemmas.List.Edits.{insert_end}

-- the bytes are a head of that width and count, and then packed bytes
pub record IsHeaded (bytes : List ℕ) (width count : ℕ) (packed : List ℕ) : Type 0 where
  pub width_is : width_of bytes ≡ width
  pub count_is : count_of bytes ≡ count
  pub rest : drop 8 bytes ≡ packed
  pub long : length bytes ≡ 8 + length packed

-- a count in the middle of the head
headed : (head packed : List ℕ) (count : ℕ) → length head ≡ 4 → count < 2 ^ 32 → IsHeaded (head ++ (little_bytes 4 count ++ packed)) (width_of head) count packed
unfolding width_of count_of
headed head packed count four fits =
    let at_count = drop_at head (little_bytes 4 count ++ packed) 4 four in
    let told = length-bytes_low_first 0 4 count in
    let at_packed = drop_at (little_bytes 4 count) packed 4 told in
    record {
      width_is = little_from-append 4 head (little_bytes 4 count ++ packed) (omega arith);
      count_is = rw at_count (little_number-reads_back 4 count packed fits);
      rest = sym (drop-drop 4 4 (head ++ (little_bytes 4 count ++ packed))) ∙ ap (drop 4) at_count ∙ at_packed;
      long = omega (arith, length-append head (little_bytes 4 count ++ packed), length-append (little_bytes 4 count) packed);
    }

-- the first bytes, where they are at least four, tell the width of the whole
width_of_take : (n : ℕ) (bytes : List ℕ) → 4 ≤ n → width_of (take n bytes) ≡ width_of bytes
unfolding width_of
width_of_take n bytes h = little_from-take 0 4 n bytes h

-- bytes put behind at least four others leave the told width
width_of_append : (xs ys : List ℕ) → 4 ≤ length xs → width_of (xs ++ ys) ≡ width_of xs
unfolding width_of
width_of_append xs ys h = little_from-append 4 xs ys h

-- bytes of which those from a place behind the head on have changed, and the count
pub recounted : (old tail : List ℕ) (m count : ℕ) → 8 + m ≤ length old → count < 2 ^ 32
    → IsHeaded (take 4 (take (8 + m) old ++ tail) ++ (little_bytes 4 count ++ drop 8 (take (8 + m) old ++ tail))) (width_of old) count (take m (drop 8 old) ++ tail)
recounted old tail m count within fits =
    let front = length-take (8 + m) old in
    let edited = take (8 + m) old ++ tail in
    let whole = length-append (take (8 + m) old) tail in
    let head = length-take 4 edited in
    let inner : drop 8 edited ≡ take m (drop 8 old) ++ tail = drop-append-le 8 (take (8 + m) old) tail (omega arith) ∙ ap (λ xs. xs ++ tail) (drop-take 8 m old) in
    let base = headed (take 4 edited) (drop 8 edited) count (omega arith) fits in
    record {
      width_is = base.width_is ∙ width_of_take 4 edited (omega arith) ∙ width_of_append (take (8 + m) old) tail (omega arith) ∙ width_of_take (8 + m) old (omega arith);
      count_is = base.count_is;
      rest = base.rest ∙ inner;
      long = base.long ∙ ap (λ xs. 8 + length xs) inner;
    }

-- the list up to a place and from it on
pub take_drop_at : {X : Type 0} (xs ys : List X) (n : ℕ) → length xs ≡ n → take n (xs ++ ys) ≡ xs
take_drop_at xs ys n e = take-append-le n xs ys (omega arith) ∙ take_all n xs (omega arith)

-- packed numbers, cut at a place
packed_cut : (width count place : ℕ) (packed : List ℕ) → length packed ≡ width * count → place ≤ count
    → packed_numbers width count packed ≡ packed_numbers width place (take (width * place) packed) ++ packed_numbers width (count - place) (drop (width * place) packed)
packed_cut width count place packed long within =
    let low : width * place ≤ width * count = mul-le-mul_left width within in
    let front : length (take (width * place) packed) ≡ width * place = length-take-le (width * place) packed (omega arith) in
    let whole : count ≡ place + (count - place) = omega arith in
    ap (λ n. packed_numbers width n packed) whole
    ∙ ap (λ bytes. packed_numbers width (place + (count - place)) bytes) (sym (take-append-drop (width * place) packed))
    ∙ packed_append width place (count - place) (take (width * place) packed) (drop (width * place) packed) front

-- a number put in among packed numbers
packed_insert : (width count place : ℕ) (packed piece : List ℕ) (n : ℤ) → length packed ≡ width * count → place ≤ count → length piece ≡ width
    → ((rest : List ℕ) → first_number width (piece ++ rest) ≡ n)
    → packed_numbers width (count + 1) (take (width * place) packed ++ (piece ++ drop (width * place) packed)) ≡ insert (packed_numbers width count packed) place n
packed_insert width count place packed piece n long within sized reads =
    let low : width * place ≤ width * count = mul-le-mul_left width within in
    let front : length (take (width * place) packed) ≡ width * place = length-take-le (width * place) packed (omega arith) in
    let before = packed_numbers width place (take (width * place) packed) in
    let after = packed_numbers width (count - place) (drop (width * place) packed) in
    let whole : count + 1 ≡ place + suc (count - place) = omega arith in
    let many : length before ≡ place = length_packed_in_packed width place (take (width * place) packed) in
    let rest : drop width (piece ++ drop (width * place) packed) ≡ drop (width * place) packed = drop_at piece (drop (width * place) packed) width sized in
    let new : packed_numbers width (count + 1) (take (width * place) packed ++ (piece ++ drop (width * place) packed)) ≡ before ++ n ∷ after =
    ap (λ m. packed_numbers width m (take (width * place) packed ++ (piece ++ drop (width * place) packed))) whole
    ∙ packed_append width place (suc (count - place)) (take (width * place) packed) (piece ++ drop (width * place) packed) front
    ∙ ap (λ x. before ++ x ∷ packed_numbers width (count - place) (drop width (piece ++ drop (width * place) packed))) (reads (drop (width * place) packed))
    ∙ ap (λ bytes. before ++ n ∷ packed_numbers width (count - place) bytes) rest in
    let old : insert (packed_numbers width count packed) place n ≡ before ++ n ∷ after =
    ap (λ xs. insert xs place n) (packed_cut width count place packed long within)
    ∙ ap (λ xs. xs ++ n ∷ drop place (before ++ after)) (take_drop_at before after place many)
    ∙ ap (λ xs. before ++ n ∷ xs) (drop_at before after place many) in
    new ∙ sym old

-- a number taken out from among packed numbers
packed_remove : (width count place : ℕ) (packed : List ℕ) → length packed ≡ width * count → place < count
    → packed_numbers width (count - 1) (take (width * place) packed ++ drop (width * place + width) packed) ≡ remove (packed_numbers width count packed) place
packed_remove width count place packed long within =
    let low : width * place ≤ width * count = mul-le-mul_left width (omega arith) in
    let front : length (take (width * place) packed) ≡ width * place = length-take-le (width * place) packed (omega arith) in
    let before = packed_numbers width place (take (width * place) packed) in
    let after = packed_numbers width (count - 1 - place) (drop (width * place + width) packed) in
    let gone = first_number width (drop (width * place) packed) in
    let many : length before ≡ place = length_packed_in_packed width place (take (width * place) packed) in
    let whole : count - 1 ≡ place + (count - 1 - place) = omega arith in
    let one : count - place ≡ suc (count - 1 - place) = omega arith in
    let new : packed_numbers width (count - 1) (take (width * place) packed ++ drop (width * place + width) packed) ≡ before ++ after =
    ap (λ m. packed_numbers width m (take (width * place) packed ++ drop (width * place + width) packed)) whole
    ∙ packed_append width place (count - 1 - place) (take (width * place) packed) (drop (width * place + width) packed) front in
    let cut : packed_numbers width count packed ≡ before ++ gone ∷ after =
    packed_cut width count place packed long (omega arith)
    ∙ ap (λ m. before ++ packed_numbers width m (drop (width * place) packed)) one
    ∙ ap (λ bytes. before ++ gone ∷ packed_numbers width (count - 1 - place) bytes) (drop-drop width (width * place) packed) in
    let longer : length (before ++ gone ∷ []) ≡ suc place = omega (arith, length-append before (gone ∷ [])) in
    let old : remove (packed_numbers width count packed) place ≡ before ++ after =
    ap (λ xs. remove xs place) cut
    ∙ ap (λ xs. xs ++ drop (suc place) (before ++ gone ∷ after)) (take_drop_at before (gone ∷ after) place many)
    ∙ ap (λ xs. before ++ drop (suc place) xs) (sym (append_assoc before (gone ∷ []) after))
    ∙ ap (λ xs. before ++ xs) (drop_at (before ++ gone ∷ []) after (suc place) longer) in
    new ∙ sym old

-- what putting a number in makes of the bytes
pub put_edits : (old new piece : List ℕ) (width place : ℕ) (n : ℤ) → HasWidth old → HasLength old → width ≡ width_of old → place ≤ count_of old → count_of old < 2 ^ 29
    → length piece ≡ width → ((rest : List ℕ) → first_number width (piece ++ rest) ≡ n)
    → (middle : List ℕ) → middle ≡ take (8 + width * place) old ++ (piece ++ drop (8 + width * place) old)
    → new ≡ take 4 middle ++ (little_bytes 4 (count_of old + 1) ++ drop 8 middle)
    → IsEdited old new (insert (numbers_of old) place n)
put_edits old new piece width place n has long told within room sized reads middle is_middle is_new =
    let count = count_of old in
    let packed = drop 8 old in
    let length_packed : length packed ≡ width * count = rw told (omega (arith, length-drop 8 old)) in
    let low : width * place ≤ width * count = mul-le-mul_left width within in
    let tail = piece ++ drop (8 + width * place) old in
    let base = recounted old tail (width * place) (count + 1) (omega (arith, length-drop 8 old)) (omega arith) in
    let is : new ≡ take 4 (take (8 + width * place) old ++ tail) ++ (little_bytes 4 (count + 1) ++ drop 8 (take (8 + width * place) old ++ tail)) =
    is_new ∙ ap (λ bytes. take 4 bytes ++ (little_bytes 4 (count + 1) ++ drop 8 bytes)) is_middle in
    let head : IsHeaded new (width_of old) (count + 1) (take (width * place) packed ++ tail) = rw is base in
    let tail_is : tail ≡ piece ++ drop (width * place) packed = ap (λ bytes. piece ++ bytes) (sym (drop-drop (width * place) 8 old)) in
    let inserted = packed_insert width count place packed piece n length_packed within sized reads in
    let old_numbers : numbers_of old ≡ packed_numbers width count packed = numbers_of_is old ∙ ap (λ w. packed_numbers w count packed) (sym told) in
    let new_numbers : numbers_of new ≡ insert (numbers_of old) place n =
    numbers_of_is new
    ∙ ap (λ w. packed_numbers w (count_of new) (drop 8 new)) (head.width_is ∙ sym told)
    ∙ ap (λ m. packed_numbers width m (drop 8 new)) head.count_is
    ∙ ap (λ bytes. packed_numbers width (count + 1) bytes) (head.rest ∙ ap (λ bytes. take (width * place) packed ++ bytes) tail_is)
    ∙ inserted ∙ ap (λ xs. insert xs place n) (sym old_numbers) in
    let step : width * (count + 1) ≡ width * count + width = omega arith in
    let grown : length new ≡ 8 + (width * place + (width + (length old - (8 + width * place)))) =
    head.long ∙ omega (
      arith,
      length-append (take (width * place) packed) tail,
      length-take-le (width * place) packed (omega arith),
      length-append piece (drop (8 + width * place) old),
      length-drop
          (8 + width * place) old,
      sized,
    ) in
    let whole : length new ≡ 8 + width_of new * count_of new = rw (head.width_is, head.count_is, ← told) (omega (arith, length-drop 8 old)) in
    record {
      kept = head.width_is;
      sized = record { told = omega arith; width = rw head.width_is has.width };
      long = whole;
      numbers_now = new_numbers;
    }

-- what taking a number out makes of the bytes
pub cut_edits : (old new : List ℕ) (width place : ℕ) → HasWidth old → HasLength old → width ≡ width_of old → place < count_of old → count_of old < 2 ^ 29
    → (middle : List ℕ) → middle ≡ take (8 + width * place) old ++ drop (8 + width * place + width) old
    → new ≡ take 4 middle ++ (little_bytes 4 (count_of old - 1) ++ drop 8 middle)
    → IsEdited old new (remove (numbers_of old) place)
cut_edits old new width place has long told within room middle is_middle is_new =
    let count = count_of old in
    let packed = drop 8 old in
    let length_packed : length packed ≡ width * count = rw told (omega (arith, length-drop 8 old)) in
    let low : width * (place + 1) ≤ width * count = mul-le-mul_left width (omega arith) in
    let tail = drop (8 + width * place + width) old in
    let base = recounted old tail (width * place) (count - 1) (omega (arith, length-drop 8 old)) (omega arith) in
    let is : new ≡ take 4 (take (8 + width * place) old ++ tail) ++ (little_bytes 4 (count - 1) ++ drop 8 (take (8 + width * place) old ++ tail)) =
    is_new ∙ ap (λ bytes. take 4 bytes ++ (little_bytes 4 (count - 1) ++ drop 8 bytes)) is_middle in
    let head : IsHeaded new (width_of old) (count - 1) (take (width * place) packed ++ tail) = rw is base in
    let place_is : 8 + width * place + width ≡ 8 + (width * place + width) = omega arith in
    let tail_is : tail ≡ drop (width * place + width) packed = ap (λ m. drop m old) place_is ∙ sym (drop-drop (width * place + width) 8 old) in
    let removed = packed_remove width count place packed length_packed within in
    let old_numbers : numbers_of old ≡ packed_numbers width count packed = numbers_of_is old ∙ ap (λ w. packed_numbers w count packed) (sym told) in
    let new_numbers : numbers_of new ≡ remove (numbers_of old) place =
    numbers_of_is new
    ∙ ap (λ w. packed_numbers w (count_of new) (drop 8 new)) (head.width_is ∙ sym told)
    ∙ ap (λ m. packed_numbers width m (drop 8 new)) head.count_is
    ∙ ap (λ bytes. packed_numbers width (count - 1) bytes) (head.rest ∙ ap (λ bytes. take (width * place) packed ++ bytes) tail_is)
    ∙ removed ∙ ap (λ xs. remove xs place) (sym old_numbers) in
    let one : count ≡ (count - 1) + 1 = omega arith in
    let step : width * count ≡ width * (count - 1) + width = ap (λ m. width * m) one ∙ omega arith in
    let grown : length new ≡ 8 + (width * place + (length old - (8 + width * place + width))) =
    head.long ∙ omega (arith, length-append (take (width * place) packed) tail, length-take-le (width * place) packed (omega arith), length-drop (8 + width * place + width) old) in
    let whole : length new ≡ 8 + width_of new * count_of new = rw (head.width_is, head.count_is, ← told) (omega (arith, length-drop 8 old)) in
    record {
      kept = head.width_is;
      sized = record { told = omega arith; width = rw head.width_is has.width };
      long = whole;
      numbers_now = new_numbers;
    }

-- there are as many numbers as the bytes tell
pub length_numbers_of : (bytes : List ℕ) → length (numbers_of bytes) ≡ count_of bytes
length_numbers_of bytes = ap length (numbers_of_is bytes) ∙ length_packed_in_packed (width_of bytes) (count_of bytes) (drop 8 bytes)

-- edited bytes are an intset where the numbers rise
pub edited_intset : (old new : List ℕ) (numbers : List ℤ) → IsEdited old new numbers → IsRising numbers → IsIntset new (numbers_of new)
edited_intset old new numbers edited rising =
    record { width = edited.sized; length = edited.long; listed = refl; rising = rw edited.numbers_now rising }

-- the head alone, with no number told
pub fresh_width : (bytes : List ℕ) (width : ℕ) → IsWidth width → bytes ≡ little_bytes 4 width ++ (0 ∷ 0 ∷ 0 ∷ 0 ∷ []) → width_of bytes ≡ width
unfolding width_of
fresh_width bytes width sized is =
    ap (little_number 4) is ∙ little_number-reads_back 4 width (0 ∷ 0 ∷ 0 ∷ 0 ∷ []) (let high = width_high width sized in omega arith)

-- the head alone tells a count of zero
pub fresh_count : (bytes : List ℕ) (width : ℕ) → bytes ≡ little_bytes 4 width ++ (0 ∷ 0 ∷ 0 ∷ 0 ∷ []) → count_of bytes ≡ 0
unfolding count_of
fresh_count bytes width is = ap (λ xs. little_number 4 (drop 4 xs)) is

-- the head alone is the intset of no numbers
pub fresh_intset : (bytes : List ℕ) (width : ℕ) → IsWidth width → bytes ≡ little_bytes 4 width ++ (0 ∷ 0 ∷ 0 ∷ 0 ∷ []) → IsIntset bytes []
fresh_intset bytes width sized is =
    let told = fresh_width bytes width sized is in
    let none = fresh_count bytes width is in
    let long : length bytes ≡ 8 = ap length is in
    record {
      width = record { told = omega arith; width = rw told sized };
      length = rw none (omega arith);
      listed = sym (numbers_of_is bytes ∙ ap (λ m. packed_numbers (width_of bytes) m (drop 8 bytes)) none);
      rising = λ i j d below within. absurd (omega arith);
    }

-- numbers that are the same as options are the same
some_same : {x y : ℤ} → Some x ≡ Some y → x ≡ y
some_same e = cc

-- a number that stands in an intset is held by its width
pub number_held : (bytes : List ℕ) (index : ℕ) (n : ℤ) → ((k : ℕ) → slice_index bytes k < 256) → HasWidth bytes → slice_get (numbers_of bytes) index ≡ Some n → width_for n ≤ width_of bytes
number_held bytes index n small has found =
    let within : index < count_of bytes = let w = slice_get_within (numbers_of bytes) index n found in omega (arith, length_numbers_of bytes) in
    let there : slice_get (numbers_of bytes) index ≡ Some (first_number (width_of bytes) (drop (width_of bytes * index) (drop 8 bytes))) =
    ap (λ xs. slice_get xs index) (numbers_of_is bytes) ∙ slice_get_packed (width_of bytes) (count_of bytes) (drop 8 bytes) index within in
    let same : n ≡ first_number (width_of bytes) (drop (width_of bytes * index) (drop 8 bytes)) = some_same (sym found ∙ there) in
    rw same (first_number_fits (width_of bytes) (drop (width_of bytes * index) (drop 8 bytes)) has.width
    (λ k. rw (get_or-drop (width_of bytes * index) (drop 8 bytes) k 0, get_or-drop 8 bytes (width_of bytes * index + k) 0) (small (8 + (width_of bytes * index + k)))))

-- one number more is copied
pub copied_more : (old new : List ℕ) (width : ℕ) (numbers : List ℤ) (index : ℕ) (n : ℤ) → IsCopied old width numbers index → slice_get numbers index ≡ Some n
    → IsEdited old new (insert (numbers_of old) index n) → IsCopied new width numbers (index + 1)
copied_more old new width numbers index n copied found edited =
    let within = slice_get_within numbers index n found in
    let many : length (take index numbers) ≡ index = length-take-le index numbers (omega arith) in
    record {
      width_is = edited.kept ∙ copied.width_is;
      sized = edited.sized;
      long = edited.long;
      numbers_now = edited.numbers_now
          ∙ ap (λ xs. insert xs index n) copied.numbers_now
          ∙ ap (λ k. insert (take index numbers) k n) (sym many)
          ∙ insert_end (take index numbers) n
          ∙ ap (λ x. take index numbers ++ x ∷ []) (sym (get_or_from_slice_get numbers index n n found))
          ∙ sym (take_more numbers index n within);
    }

-- as many numbers are told as were copied
pub copied_count : (copy : List ℕ) (width : ℕ) (numbers : List ℤ) (index : ℕ) → IsCopied copy width numbers index → index ≤ length numbers → count_of copy ≡ index
copied_count copy width numbers index copied within =
    sym (length_numbers_of copy) ∙ ap length copied.numbers_now ∙ length-take-le index numbers within
