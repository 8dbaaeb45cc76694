-- How many bytes elements take at most.
use Rattle.std.proofs.Common.{◌≡◌, Bool, true, false, ℕ, zero, suc, ◌+◌, ◌<◌, ◌≤◌, ◌^◌, List, [], ◌∷◌, ◌++◌, ◌-◌, ◌/◌, ◌%◌, length, map, ap, arith, inl, inr, pos}
use Rattle.std.specs.Prelude.{ℤ, Option, Some, None, FitsSigned, slice_set, sum_by, unwrap_or, if◌then◌else◌}
use Rattle.std.specs.Int.{w64}
use Rattle.std.proofs.lemmas.Bool.Decides.{nat_tests}
use Rattle.std.proofs.lemmas.List.{length-append}
use Rattle.byteorder.specs.Numbers.{length-bytes_low_first}
use Rattle.byteorder.specs.Endian.{little_bytes, low_bytes}
use Rattle.int_text.specs.Decimal.{canonical}
use Rattle.int_text.proofs.Signed.{canonical_length}
use Rattle.int_text.proofs.NumberOf
use lib.Signed.{mag}
use Rattle.std.proofs.lemmas.Fmt.{length-decimal-le}
use Rattle.std.proofs.lemmas.List.Sums.{sum_by-cons}
use Rattle.listpack.specs.Entry.{back_length, entry_of}
use Rattle.listpack.specs.Pack.{IsPack, entries, spellings_of, texts}
use Rattle.listpack.specs.Writing.{magnitude, is_small, has_bits, thirteen_low, number_spelling, text_head, spelling, entry}
use Rattle.listpack.proofs.Backs.{back_one}
use Rattle.listpack.proofs.Writings.{number_cases, spelling_as}
use Rattle.stream_node.specs.declared.id.Id.{Id}
use Rattle.stream_node.specs.Entry.{Pair, number, flags, fields_of, body, size}
use Rattle.stream_node.specs.Entries.{element, count}
use Rattle.stream_node.specs.Written.{difference, start_texts, body_texts, entry_texts, head_texts}
use Rattle.stream_node.specs.Appended.{same_texts, fields_in, added, appended, pack_len}
use Rattle.stream_node.specs.Marked.{flags_at, marked_spellings}
use Rattle.stream_node.specs.Room.{pair_bytes, most_bytes, IsRoomy, alone_len, RoomEnough}
use Rattle.stream_node.proofs.Same.{flat}
use Rattle.stream_node.proofs.Grown.{difference_fits}
use Rattle.stream_node.proofs.Weights.{mark_weight, append_written, mark_written}
use Rattle.stream_node.proofs.Appendings.{written_end, first_is}
use Rattle.stream_node.proofs.Lists.{Texts}
use Rattle.stream_node.proofs.Written.{written, written_append, few_written, length_pack, length-values, length_own}

-- a back length takes at most 5 bytes
back_short : (n : ℕ) → length (back_length n) ≤ 5
unfolding back_length
back_short n = grind (arith, nat_tests)

-- k bytes, whatever they say
low_bytes_are : (b k n : ℕ) → length (b ∷ little_bytes k n) ≡ suc k
low_bytes_are b k n = omega (arith, length-bytes_low_first 0 k n)

-- the spelling of a number takes at most 9 bytes
number_short : (n : ℤ) → length (number_spelling n) ≤ 9
unfolding number_spelling
number_short n =
    let a = low_bytes_are 0xF1 2 (low_bytes w64 2 n) in
    let b = low_bytes_are 0xF2 3 (low_bytes w64 3 n) in
    let c = low_bytes_are 0xF3 4 (low_bytes w64 4 n) in
    let d = low_bytes_are 0xF4 8 (low_bytes w64 8 n) in
    by_tests (is_small n) (has_bits 12 n) (has_bits 15 n) (has_bits 23 n) (has_bits 31 n) (magnitude n ∷ []) ((0xC0 + thirteen_low n / 256) ∷ thirteen_low n % 256 ∷ [])
    (0xF1 ∷ little_bytes 2 (low_bytes w64 2 n)) (0xF2 ∷ little_bytes 3 (low_bytes w64 3 n)) (0xF3 ∷ little_bytes 4 (low_bytes w64 4 n)) (0xF4 ∷ little_bytes 8 (low_bytes w64 8 n))
    (omega arith) (omega arith) (omega (arith, a)) (omega (arith, b)) (omega (arith, c)) (omega (arith, d))
  where
    by_tests : (p q r s t : Bool) (u v w x y z : List ℕ) → length u ≤ 9 → length v ≤ 9 → length w ≤ 9 → length x ≤ 9 → length y ≤ 9 → length z ≤ 9
        → length (if p then u else (if q then v else (if r then w else (if s then x else (if t then y else z))))) ≤ 9
    by_tests true q r s t u v w x y z a b c d e f = a
    by_tests false true r s t u v w x y z a b c d e f = b
    by_tests false false true s t u v w x y z a b c d e f = c
    by_tests false false false true t u v w x y z a b c d e f = d
    by_tests false false false false true u v w x y z a b c d e f = e
    by_tests false false false false false u v w x y z a b c d e f = f

-- the encoding of a string before its content takes at most 5 bytes
head_short : (n : ℕ) → length (text_head n) ≤ 5
unfolding text_head
head_short n = let d = low_bytes_are 0xF0 4 n in grind (arith, nat_tests, d)

-- the back length of at most 9 bytes is one byte
back_one_byte : (n : ℕ) → n ≤ 9 → length (back_length n) ≡ 1
back_one_byte n few = ap length (back_one n (omega arith))

-- the bytes of an entry
entry_most : (text : List ℕ) → length (entry text) ≤ length text + 10
entry_most text =
    let s = spelling text in
    let whole = length-append s (back_length (length s)) in
    elim (number_cases text) [
      | inl none ↦ omega (arith, whole, back_short (length s), ap length (spelling_as text None none), head_short (length text), length-append (text_head (length text)) text)
      | inr some ↦
          (let same = ap length (spelling_as text (Some some.0) some.1) in let few : length s ≤ 9 = omega (arith, same, number_short some.0) in
          omega (arith, whole, back_one_byte (length s) few))
    ]

-- as an entry of a listpack, a number below 2^64 takes at most 34 bytes
count_most : (n : ℕ) → n < 2 ^ 64 → length (entry (number n)) ≤ 34
count_most n small = omega (arith, entry_most (number n), length-decimal-le 20 n (omega arith) (omega (arith, small)) small)

-- as an entry of a listpack, a signed number of 64 bits takes at most 34 bytes
signed_most : (n : ℤ) → FitsSigned w64 n → length (entry (canonical n)) ≤ 34
signed_most n fits = omega (arith, entry_most (canonical n), canonical_length n fits)

-- a number that is read is one of 64 bits
read_small : (text : List ℕ) → count text < 2 ^ 63
read_small text = elim (NumberOf.number_cases text) [
  | inl none ↦ omega (arith, ap (λ (o : Option ℤ). mag (unwrap_or o (pos 0))) none)
  | inr some ↦ let fits = some.2 in omega (arith, ap (λ (o : Option ℤ). mag (unwrap_or o (pos 0))) some.1, fits.sfits)
]

-- elements take the bytes of the first one and those of the others
written_cons : (x : List ℕ) (xs : Texts) → written (x ∷ xs) ≡ length (entry x) + written xs
written_cons x xs = length-append (entry x) (entries (map spelling xs))

-- the pairs, and how many there are
fields_and_values : (pairs : List Pair) → written (fields_of pairs) + written (body true pairs) ≤ sum_by pair_bytes pairs
fields_and_values [] = omega arith
fields_and_values (p ∷ pairs) =
    omega (
      arith,
      fields_and_values pairs,
      sum_by-cons pair_bytes p pairs,
      written_cons p.0 (fields_of pairs),
      written_cons p.1 (body true pairs),
      entry_most p.0,
      entry_most p.1,
    )

-- fields and values, alternating, take as many bytes as apart
flat_parts : (pairs : List Pair) → written (flat pairs) ≡ written (fields_of pairs) + written (body true pairs)
flat_parts [] = omega arith
flat_parts (p ∷ pairs) =
    omega (
      arith,
      flat_parts pairs,
      written_cons p.0 (p.1 ∷ flat pairs),
      written_cons p.1 (flat pairs),
      written_cons p.0 (fields_of pairs),
      written_cons p.1 (body true pairs),
    )

-- there are no more pairs than bytes told for them
many_most : (pairs : List Pair) → length pairs ≤ sum_by pair_bytes pairs
many_most [] = omega arith
many_most (p ∷ pairs) = omega (arith, many_most pairs, sum_by-cons pair_bytes p pairs)

-- the flags of an entry that is not marked take at most 34 bytes
flags_most : (same : Bool) → length (entry (number (flags false same))) ≤ 34
flags_most true = count_most 2 (omega arith)
flags_most false = count_most 0 (omega arith)

-- the flags and the two differences of an entry take at most 102 bytes
start_most : (key id : Id) (same : Bool) → written (start_texts key id same) ≤ 102
start_most key id same =
    let ms = canonical (difference id.ms key.ms) in
    let seq = canonical (difference id.seq key.seq) in
    omega (
      arith,
      written_cons (number (flags false same)) (ms ∷ seq ∷ []),
      written_cons ms (seq ∷ []),
      written_cons seq [],
      flags_most same,
      signed_most (difference id.ms key.ms) (difference_fits id.ms key.ms),
      signed_most (difference id.seq key.seq) (difference_fits id.seq key.seq),
    )

-- the bytes of the fields and of the values
abbrev parts_bytes : List Pair → ℕ
parts_bytes pairs = written (fields_of pairs) + written (body true pairs)

-- pairs with fields of their own take at most 68 bytes more than these
body_own : (pairs : List Pair) → length pairs < 2 ^ 32 → written (body_texts false pairs) ≤ parts_bytes pairs + 68
body_own pairs small =
    let end = number (size (body false pairs)) in
    omega (
      arith,
      small,
      written_append (body false pairs) (end ∷ []),
      written_cons (number (length pairs)) (flat pairs),
      written_cons end [],
      flat_parts pairs,
      count_most (length pairs) (omega (arith, small)),
      count_most (size (body false pairs)) (omega (arith, small, length_own pairs)),
    )

-- pairs whose fields are the node's take at most 34 bytes more than their values
body_same : (pairs : List Pair) → length pairs < 2 ^ 32 → written (body_texts true pairs) ≤ written (body true pairs) + 34
body_same pairs small =
    let end = number (size (body true pairs)) in
    omega (
      arith,
      written_append (body true pairs) (end ∷ []),
      written_cons end [],
      count_most (size (body true pairs)) (omega (arith, small, length-values pairs)),
    )

-- an entry takes at most 170 bytes more than its fields and values
entry_bytes : (key id : Id) (same : Bool) (pairs : List Pair) → length pairs < 2 ^ 32 → written (entry_texts key id same pairs) ≤ parts_bytes pairs + 170
entry_bytes key id true pairs small = omega (arith, written_append (start_texts key id true) (body_texts true pairs), start_most key id true, body_same pairs small)
entry_bytes key id false pairs small =
    omega (arith, written_append (start_texts key id false) (body_texts false pairs), start_most key id false, body_own pairs small)

-- the head of a new node takes at most 136 bytes more than its fields, and no fewer than they
head_bytes : (pairs : List Pair) → length pairs < 2 ^ 32 → (written (head_texts pairs) ≤ written (fields_of pairs) + 136) × (written (fields_of pairs) ≤ written (head_texts pairs))
head_bytes pairs small =
    let many = number (length pairs) in
    let rest : Texts = fields_of pairs ++ number 0 ∷ [] in
    let one = written_cons (number 1) (number 0 ∷ many ∷ rest) in
    let two = written_cons (number 0) (many ∷ rest) in
    let three = written_cons many rest in
    let four = written_append (fields_of pairs) (number 0 ∷ []) in (
      omega (arith, one, two, three, four, written_cons (number 0) [], count_most 0 (omega arith), count_most 1 (omega arith), count_most (length pairs) (omega (arith, small))),
      omega (arith, one, two, three, four),
    )

-- what an entry puts behind the elements takes at most 400 bytes more than its fields and values
added_parts : (key id : Id) (list : Texts) (pairs : List Pair) → length pairs < 2 ^ 32 → written (added key list id pairs) ≤ parts_bytes pairs + 400
added_parts key id [] pairs small =
    omega (
      arith,
      written_append (head_texts pairs) (entry_texts key id true pairs),
      written_append (start_texts key id true) (body_texts true pairs),
      (head_bytes pairs small).0,
      start_most key id true,
      body_same pairs small,
    )
added_parts key id (x ∷ list) pairs small = omega (arith, entry_bytes key id (same_texts (fields_of pairs) (fields_in (x ∷ list))) pairs small)

added_most : (key id : Id) (list : Texts) (pairs : List Pair) → sum_by pair_bytes pairs < 2 ^ 32 → written (added key list id pairs) ≤ sum_by pair_bytes pairs + 400
added_most key id list pairs small = omega (arith, added_parts key id list pairs (omega (arith, small, many_most pairs)), fields_and_values pairs)

-- an element in the place of another
set_most : (ss : Texts) (i : ℕ) (s : List ℕ) → length (entries (slice_set ss i s)) ≤ length (entries ss) + length (entry_of s)
set_most [] i s = omega arith
set_most (x ∷ ss) zero s = omega (arith, length-append (entry_of s) (entries ss), length-append (entry_of x) (entries ss))
set_most (x ∷ ss) (suc i) s = omega (arith, set_most ss i s, length-append (entry_of x) (entries (slice_set ss i s)), length-append (entry_of x) (entries ss))

-- a listpack with an entry put in has no more bytes than are told for that
append_most : (key id : Id) (pack : List ℕ) (pairs : List Pair) → IsPack pack → most_bytes pairs < 2 ^ 32 → pack_len (appended key pack id pairs) ≤ length pack + most_bytes pairs
append_most key id pack pairs p few =
    let ss = spellings_of pack in
    let list = texts pack in
    let n : ℕ = count (element list 0) + 1 in
    omega (
      arith,
      few,
      length_pack pack p,
      written_end (slice_set ss 0 (spelling (number n))) (added key list id pairs),
      set_most ss 0 (spelling (number n)),
      count_most n (omega (arith, read_small (element list 0))),
      added_most key id list pairs (omega (arith, few)),
    )

-- the bytes of an entry alone in a node
alone_is : (id : Id) (pairs : List Pair) → alone_len id pairs ≡ 7 + (written (head_texts pairs) + written (entry_texts id id true pairs))
alone_is id pairs = ap (λ n. 7 + n) (written_append (head_texts pairs) (entry_texts id id true pairs))

alone_most : (id : Id) (pairs : List Pair) → most_bytes pairs < 2 ^ 32 → alone_len id pairs ≤ 7 + most_bytes pairs
alone_most id pairs few = omega (arith, added_most id id [] pairs (omega (arith, few)))

first_alone : (id : Id) (pack : List ℕ) (pairs : List Pair) → texts pack ≡ [] → pack_len (appended id pack id pairs) ≡ alone_len id pairs
first_alone id pack pairs none = ap pack_len (first_is id id pack pairs none)

-- an entry behind others takes at most 440 bytes more than it takes alone
behind_alone : (key id : Id) (pack : List ℕ) (pairs : List Pair) → IsPack pack → alone_len id pairs < 2 ^ 32 → pack_len (appended key pack id pairs) ≤ length pack + 440 + alone_len id pairs
behind_alone key id pack pairs p small =
    let ss = spellings_of pack in
    let list = texts pack in
    let n : ℕ = count (element list 0) + 1 in
    let whole = alone_is id pairs in
    let own = written_append (start_texts id id true) (body_texts true pairs) in
    let values = written_append (body true pairs) (number (size (body true pairs)) ∷ []) in
    let few : length pairs ≤ written (body true pairs) = omega (arith, few_written (body true pairs) (omega (arith, small, whole, own, values)), length-values pairs) in
    let many : length pairs < 2 ^ 32 = omega (arith, few, small, whole, own, values) in
    omega (
      arith,
      whole,
      own,
      values,
      (head_bytes pairs many).1,
      length_pack pack p,
      written_end (slice_set ss 0 (spelling (number n))) (added key list id pairs),
      set_most ss 0 (spelling (number n)),
      count_most n (omega (arith, read_small (element list 0))),
      added_parts key id list pairs many,
    )

-- with room for it, the listpack stays below 2^32 bytes
append_room : (key id : Id) (pack : List ℕ) (pairs : List Pair) → IsPack pack → IsRoomy pack pairs → pack_len (appended key pack id pairs) < 2 ^ 32
append_room key id pack pairs p room = omega (arith, room, append_most key id pack pairs p (omega (arith, room)))

-- a listpack with room for 192 bytes more stays below 2^32 bytes with an entry marked
mark_room : (pack : List ℕ) (index : ℕ) → IsPack pack → length pack + 192 < 2 ^ 32 → pack_len (marked_spellings pack index) < 2 ^ 32
mark_room pack index p room =
    let ss = spellings_of pack in
    let list = texts pack in
    let at = flags_at list index in
    let a : ℕ = count (element list 0) - 1 in
    let b : ℕ = count (element list 1) + 1 in
    let c : ℕ = count (element list at) + 1 in
    let one = slice_set ss 0 (spelling (number a)) in
    let two = slice_set one 1 (spelling (number b)) in
    omega (
      arith,
      room,
      length_pack pack p,
      set_most ss 0 (spelling (number a)),
      set_most one 1 (spelling (number b)),
      set_most two at (spelling (number c)),
      count_most a (omega (arith, read_small (element list 0))),
      count_most b (omega (arith, read_small (element list 1))),
      count_most c (omega (arith, read_small (element list at))),
    )

-- the bytes told for an entry and for a mark are enough
pub room_enough : RoomEnough
room_enough = record { append = append_room; alone = alone_most; first = first_alone; behind = behind_alone; mark = mark_room; kept = mark_weight; appends = append_written; marks = mark_written }
