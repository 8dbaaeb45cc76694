-- Bytes put together anew are a listpack.
use Rattle.std.proofs.Common.{◌≡◌, ◌≢◌, ℕ, suc, ◌+◌, ◌-◌, ◌^◌, ◌<◌, ◌≤◌, List, [], ◌∷◌, ◌++◌, length, take, drop, map, get_or, set, sym, ap, subst, ◌∙◌, inl, inr, arith}
use Rattle.std.specs.List.{All, insert, remove, remove_range}
use Rattle.std.proofs.lemmas.Bool.{cases_eq}
use Rattle.std.proofs.lemmas.Bool.Decides.{nat_tests}
use Rattle.std.proofs.lemmas.List.{append_assoc, append-nil, take_at, drop_at, take-append-drop, length-append, length-take-le, length-drop, map-append, take-map, drop-map, map-set}
use Rattle.std.proofs.lemmas.List.{get_or_at, set_split, length-set}
use Rattle.std.proofs.lemmas.List.Concat.{flat_map-append}
use Rattle.std.proofs.lemmas.List.Edits.{insert_end, length-insert}
use Rattle.std.proofs.lemmas.List.Elements.{All-nil, All-cons, All-append, All-take, All-drop}
use Rattle.byteorder.specs.Endian.{little_number, little_bytes}
use Rattle.byteorder.specs.Numbers.{length-bytes_low_first, little_number-reads_back}
use Rattle.listpack.specs.Entry.{IsSpelling, text_of, entry_of, back_length}
use Rattle.listpack.specs.Pack.{entries, total, told, region, last_byte, HasSpellings, IsPack, spellings_of, texts, offset_of}
use Rattle.listpack.specs.Writing.{spelling, entry}
use Rattle.listpack.specs.Edits.{IsEdited, one_more, fewer}
use Rattle.listpack.proofs.Laws.{spellings_read, is_pack}
use Rattle.listpack.proofs.Offsets.{length_texts, take_offset, drop_offset, offset_end}
use Rattle.listpack.proofs.Writings.{element_short}
use Rattle.listpack.proofs.ReadBack.{spelled}

-- header, entries and last byte
abbrev pub packed : ℕ → ℕ → List (List ℕ) → List ℕ
packed n count spellings = little_bytes 4 n ++ (little_bytes 2 count ++ (entries spellings ++ 0xFF ∷ []))

-- header, entries and last byte put together have these spellings, and tell this count
made : (n count : ℕ) (ys : List (List ℕ)) → All IsSpelling ys → n ≡ 7 + length (entries ys) → n < 2 ^ 32 → count < 65536 → (count ≢ 65535 → count ≡ length ys)
    → HasSpellings (packed n count ys) ys × (told (packed n count ys) ≡ count)
made n count ys each size small fits known =
    let a = little_bytes 4 n in
    let b = little_bytes 2 count in
    let c = entries ys in
    let end : List ℕ = 0xFF ∷ [] in
    let bytes = packed n count ys in
    let four = length-bytes_low_first 0 4 n in
    let two = length-bytes_low_first 0 2 count in
    let whole : length bytes ≡ n = omega (arith, size, four, two, length-append a (b ++ (c ++ end)), length-append b (c ++ end), length-append c end) in
    let total_is : total bytes ≡ n = little_number-reads_back 4 n (b ++ (c ++ end)) (omega arith) in
    let told_is : told bytes ≡ count = ap (little_number 2) (drop_at a (b ++ (c ++ end)) 4 four) ∙ little_number-reads_back 2 count (c ++ end) (omega arith) in
    let front : bytes ≡ (a ++ b) ++ (c ++ end) = sym (append_assoc a b (c ++ end)) in
    let six : length (a ++ b) ≡ 6 = omega (arith, four, two, length-append a b) in
    let behind : drop 6 bytes ≡ c ++ end = ap (drop 6) front ∙ drop_at (a ++ b) (c ++ end) 6 six in
    let part : region bytes ≡ c = ap (take (length bytes - 1 - 6)) behind ∙ take_at c end (length bytes - 1 - 6) (omega (arith, whole, size)) in
    let last : last_byte bytes ≡ 0xFF =
    ap (λ (x : List ℕ). get_or x (length bytes - 1) 0) (front ∙ sym (append_assoc (a ++ b) c end))
    ∙ get_or_at ((a ++ b) ++ c) 0xFF [] 0 (length bytes - 1) (omega (arith, whole, size, six, length-append (a ++ b) c)) in (
      record {
        header = omega (arith, whole, size);
        size = omega (arith, whole, total_is);
        all_entries = part;
        each = each;
        ended = last;
        count = λ no_mark. omega (arith, told_is, known (λ e. no_mark (told_is ∙ e)));
      },
      told_is,
    )

-- header, entries and last byte put together are a listpack of these spellings and this count
pub edited_as : (bytes : List ℕ) (n count : ℕ) (ys : List (List ℕ)) → bytes ≡ packed n count ys → All IsSpelling ys → n ≡ 7 + length (entries ys) → n < 2 ^ 32
    → count < 65536 → (count ≢ 65535 → count ≡ length ys) → IsEdited bytes ys count
edited_as bytes n count ys e each size small fits known =
    let t = made n count ys each size small fits known in
    let h : HasSpellings bytes ys = subst (λ (x : List ℕ). HasSpellings x ys) (sym e) t.0 in
    record { pack = is_pack bytes ys h; entries = spellings_read bytes ys h; count_is = ap told e ∙ t.1 }

-- the entries xs in the place of those from i to below j
abbrev spliced : List (List ℕ) → ℕ → ℕ → List (List ℕ) → List (List ℕ)
spliced ss i j xs = take i ss ++ (xs ++ drop j ss)

-- spliced entries are those before i, then those put in, then those from j on
entries_spliced : (ss xs : List (List ℕ)) (i j : ℕ) → entries (spliced ss i j xs) ≡ entries (take i ss) ++ (entries xs ++ entries (drop j ss))
entries_spliced ss xs i j = flat_map-append entry_of (take i ss) (xs ++ drop j ss) ∙ ap (λ (x : List ℕ). entries (take i ss) ++ x) (flat_map-append entry_of xs (drop j ss))

-- bytes with other entries between two offsets, and a new header, are a listpack of the spliced spellings
edited : (old inner new : List ℕ) (xs : List (List ℕ)) (i j count : ℕ) → IsPack old → All IsSpelling xs
    → inner ≡ take (offset_of old i) old ++ (entries xs ++ drop (offset_of old j) old)
    → new ≡ little_bytes 4 (length inner) ++ (little_bytes 2 count ++ drop 6 inner)
    → length inner < 2 ^ 32 → count < 65536 → (count ≢ 65535 → count ≡ length (spliced (spellings_of old) i j xs))
    → IsEdited new (spliced (spellings_of old) i j xs) count
edited old inner new xs i j count p each cut_as put_as small fits known =
    let ss = spellings_of old in
    let a = entries (take i ss) in
    let m = entries xs in
    let b = entries (drop j ss) in
    let end : List ℕ = 0xFF ∷ [] in
    let header : 7 ≤ length old = p.header in
    let six : length (take 6 old) ≡ 6 = length-take-le 6 old (omega arith) in
    let whole : inner ≡ (take 6 old ++ a) ++ (m ++ (b ++ end)) =
    cut_as ∙ ap (λ (x : List ℕ). x ++ (m ++ drop (offset_of old j) old)) (take_offset old i p) ∙ ap (λ (x : List ℕ). (take 6 old ++ a) ++ (m ++ x)) (drop_offset old j p) in
    let all : a ++ (m ++ (b ++ end)) ≡ entries (spliced ss i j xs) ++ end =
    ap (λ (x : List ℕ). a ++ x) (sym (append_assoc m b end)) ∙ sym (append_assoc a (m ++ b) end) ∙ ap (λ (x : List ℕ). x ++ end) (sym (entries_spliced ss xs i j)) in
    let shape : inner ≡ take 6 old ++ (entries (spliced ss i j xs) ++ end) = whole ∙ append_assoc (take 6 old) a (m ++ (b ++ end)) ∙ ap (λ (x : List ℕ). take 6 old ++ x) all in
    let behind : drop 6 inner ≡ entries (spliced ss i j xs) ++ end = ap (drop 6) shape ∙ drop_at (take 6 old) (entries (spliced ss i j xs) ++ end) 6 six in
    let size : length inner ≡ 7 + length (entries (spliced ss i j xs)) =
    omega (arith, ap length shape, six, length-append (take 6 old) (entries (spliced ss i j xs) ++ end), length-append (entries (spliced ss i j xs)) end) in
    let made_of : All IsSpelling (spliced ss i j xs) =
    All-append IsSpelling (take i ss) (xs ++ drop j ss) (All-take IsSpelling i ss p.each) (All-append IsSpelling xs (drop j ss) each (All-drop IsSpelling j ss p.each)) in
    edited_as new (length inner) count (spliced ss i j xs) (put_as ∙ ap (λ (x : List ℕ). little_bytes 4 (length inner) ++ (little_bytes 2 count ++ x)) behind) made_of size small fits known

-- the writer's spelling of a text shorter than 2^32 bytes is a spelling, as a list of one
one_spelled : (text : List ℕ) → length text < 2 ^ 32 → All IsSpelling (spelling text ∷ [])
one_spelled text h = All-cons IsSpelling (spelling text) [] (spelled text h).0 (All-nil IsSpelling)

-- a count that is told after one element more is the number of entries before and one
more_known : (old : List ℕ) (count : ℕ) → IsPack old → count ≡ one_more (told old) → count ≢ 65535 → count ≡ length (spellings_of old) + 1
more_known old count p e no_mark =
    let mark : told old ≢ 65535 = λ m. no_mark (omega (arith, e, m)) in
    let k = p.count mark in
    omega (arith, e, k, no_mark)

-- a count that stays not told, and one that is told
marked : (n removed : ℕ) → n ≡ 65535 → fewer n removed ≡ n
marked n removed m = grind (arith, nat_tests)

-- a count that is told falls by the number of elements that are removed
unmarked : (n removed : ℕ) → n ≢ 65535 → fewer n removed ≡ n - removed
unmarked n removed m = grind (arith, nat_tests)

-- a count that is told after a removal is the number of entries before less those removed
fewer_known : (old : List ℕ) (removed count : ℕ) → IsPack old → removed ≤ length (spellings_of old) → count ≡ fewer (told old) removed → count ≢ 65535 → count + removed ≡ length (spellings_of old)
fewer_known old removed count p some e no_mark = elim (cases_eq (told old) 65535) [
  | inl mark ↦ absurd (no_mark (e ∙ marked (told old) removed mark ∙ mark))
  | inr known ↦ let k = p.count known in omega (arith, e, unmarked (told old) removed known, k)
]

-- the header tells no fewer elements than there are
pub told_enough : (old : List ℕ) (count removed : ℕ) → IsPack old → count ≡ told old → removed ≤ length (texts old) → count ≢ 65535 → removed ≤ count
told_enough old count removed p e some no_mark = omega (arith, e, p.count (λ m. no_mark (e ∙ m)), length_texts old)

-- bytes with an entry put in at the offset of entry i, and a new header, are a listpack with its spelling at i
pub inserted : (old inner new text : List ℕ) (i count : ℕ) → IsPack old → i ≤ length (texts old) → length text < 2 ^ 32
    → inner ≡ take (offset_of old i) old ++ (entry text ++ drop (offset_of old i) old)
    → new ≡ little_bytes 4 (length inner) ++ (little_bytes 2 count ++ drop 6 inner)
    → length inner < 2 ^ 32 → count ≡ one_more (told old) → IsEdited new (insert (spellings_of old) i (spelling text)) (one_more (told old))
inserted old inner new text i count p h short cut_as put_as small e =
    let one : entries (spelling text ∷ []) ≡ entry text = append-nil (entry text) in
    let room : count < 65536 = omega (arith, e) in
    subst (λ (k : ℕ). IsEdited new (insert (spellings_of old) i (spelling text)) k) e
    (edited old inner new (spelling text ∷ []) i i count p (one_spelled text short)
    (cut_as ∙ ap (λ (x : List ℕ). take (offset_of old i) old ++ (x ++ drop (offset_of old i) old)) (sym one))
    put_as small room
    (λ no_mark. omega (arith, more_known old count p e no_mark, length-insert (spellings_of old) i (spelling text) (omega (arith, length_texts old)))))

-- bytes with an entry put in before the last byte, and a new header, are a listpack with its spelling at the end
pub appended : (old inner new text : List ℕ) (at count : ℕ) → IsPack old → length text < 2 ^ 32 → at ≡ length old - 1
    → inner ≡ take at old ++ (entry text ++ drop at old)
    → new ≡ little_bytes 4 (length inner) ++ (little_bytes 2 count ++ drop 6 inner)
    → length inner < 2 ^ 32 → count ≡ one_more (told old) → IsEdited new (spellings_of old ++ spelling text ∷ []) (one_more (told old))
appended old inner new text at count p short place cut_as put_as small e =
    let n = length (spellings_of old) in
    let end : at ≡ offset_of old n = omega (arith, place, offset_end old n p (omega arith)) in
    subst (λ (x : List (List ℕ)). IsEdited new x (one_more (told old))) (insert_end (spellings_of old) (spelling text))
    (inserted old inner new text n count p (omega (arith, length_texts old)) short
    (cut_as ∙ ap (λ (k : ℕ). take k old ++ (entry text ++ drop k old)) end) put_as small e)

-- the count after a replacement
pub replaced : (old inner new text : List ℕ) (i count : ℕ) → IsPack old → i < length (texts old) → length text < 2 ^ 32
    → inner ≡ take (offset_of old i) old ++ (entry text ++ drop (offset_of old (i + 1)) old)
    → new ≡ little_bytes 4 (length inner) ++ (little_bytes 2 count ++ drop 6 inner)
    → length inner < 2 ^ 32 → count < 65536 → count ≡ told old → IsEdited new (set (spellings_of old) i (spelling text)) (told old)
replaced old inner new text i count p h short cut_as put_as small room e =
    let one : entries (spelling text ∷ []) ≡ entry text = append-nil (entry text) in
    let ss = spellings_of old in
    let inside : i < length ss = omega (arith, length_texts old) in
    let next : i + 1 ≡ suc i = omega arith in
    let shape : spliced ss i (i + 1) (spelling text ∷ []) ≡ set ss i (spelling text) =
    ap (λ (k : ℕ). take i ss ++ (spelling text ∷ drop k ss)) next ∙ sym (set_split ss i (spelling text) inside) in
    subst (λ (k : ℕ). IsEdited new (set ss i (spelling text)) k) e
    (subst (λ (x : List (List ℕ)). IsEdited new x count) shape
    (edited old inner new (spelling text ∷ []) i (i + 1) count p (one_spelled text short)
    (cut_as ∙ ap (λ (x : List ℕ). take (offset_of old i) old ++ (x ++ drop (offset_of old (i + 1)) old)) (sym one))
    put_as small room
    (λ no_mark. omega (arith, e, p.count (λ m. no_mark (e ∙ m)), ap length shape, length-set ss i (spelling text)))))

-- bytes without those from offset i to offset j, with a new header, are a listpack without entries i to below j
pub taken_out : (old inner new : List ℕ) (i j count : ℕ) → IsPack old → i ≤ j → j ≤ length (texts old)
    → inner ≡ take (offset_of old i) old ++ drop (offset_of old j) old
    → new ≡ little_bytes 4 (length inner) ++ (little_bytes 2 count ++ drop 6 inner)
    → length inner < 2 ^ 32 → count < 65536 → count ≡ fewer (told old) (j - i) → IsEdited new (remove_range (spellings_of old) i j) (fewer (told old) (j - i))
taken_out old inner new i j count p order inside cut_as put_as small room e =
    let ss = spellings_of old in
    let all : j ≤ length ss = omega (arith, inside, length_texts old) in
    let left : length (remove_range ss i j) + (j - i) ≡ length ss =
    omega (arith, order, all, length-append (take i ss) (drop j ss), length-take-le i ss (omega arith), length-drop j ss) in
    subst (λ (k : ℕ). IsEdited new (remove_range ss i j) k) e
    (edited old inner new [] i j count p (All-nil IsSpelling) cut_as put_as small room
    (λ no_mark. omega (arith, fewer_known old (j - i) count p (omega arith) e no_mark, left)))

-- bytes without those of entry i, with a new header, are a listpack without that entry
pub one_taken_out : (old inner new : List ℕ) (i count : ℕ) → IsPack old → i < length (texts old)
    → inner ≡ take (offset_of old i) old ++ drop (offset_of old (i + 1)) old
    → new ≡ little_bytes 4 (length inner) ++ (little_bytes 2 count ++ drop 6 inner)
    → length inner < 2 ^ 32 → count < 65536 → count ≡ fewer (told old) 1 → IsEdited new (remove (spellings_of old) i) (fewer (told old) 1)
one_taken_out old inner new i count p h cut_as put_as small room e =
    let ss = spellings_of old in
    let next : i + 1 ≡ suc i = omega arith in
    let one : (i + 1) - i ≡ 1 = omega arith in
    subst (λ (k : ℕ). IsEdited new (remove ss i) (fewer (told old) k)) one
    (subst (λ (k : ℕ). IsEdited new (take i ss ++ drop k ss) (fewer (told old) ((i + 1) - i))) next
    (taken_out old inner new i (i + 1) count p (omega arith) (omega arith) cut_as put_as small room (e ∙ ap (fewer (told old)) (sym one))))

-- an entry put in without another taken out
pub in_place : (old inner text : List ℕ) (at : ℕ) → inner ≡ take at old ++ (entry text ++ drop (at + 0) old) → inner ≡ take at old ++ (entry text ++ drop at old)
in_place old inner text at e = let same : at + 0 ≡ at = omega arith in e ∙ ap (λ (k : ℕ). take at old ++ (entry text ++ drop k old)) same

-- the texts of spellings that were changed
pub texts_inserted : (old new text : List ℕ) (i count : ℕ) → IsEdited new (insert (spellings_of old) i (spelling text)) count → length text < 2 ^ 32 → texts new ≡ insert (texts old) i text
texts_inserted old new text i count t short =
    let ss = spellings_of old in
    let s = spelling text in
    ap (map text_of) t.entries ∙ map-append text_of (take i ss) (s ∷ drop i ss)
    ∙ ap (λ (x : List (List ℕ)). x ++ (text_of s ∷ map text_of (drop i ss))) (sym (take-map text_of i ss))
    ∙ ap (λ (x : List (List ℕ)). take i (texts old) ++ (text_of s ∷ x)) (sym (drop-map text_of i ss))
    ∙ ap (λ (x : List ℕ). take i (texts old) ++ (x ∷ drop i (texts old))) (spelled text short).1

-- a listpack with the spelling of a text at the end has that text at the end
pub texts_appended : (old new text : List ℕ) (count : ℕ) → IsEdited new (spellings_of old ++ spelling text ∷ []) count → length text < 2 ^ 32 → texts new ≡ texts old ++ text ∷ []
texts_appended old new text count t short =
    ap (map text_of) t.entries ∙ map-append text_of (spellings_of old) (spelling text ∷ []) ∙ ap (λ (x : List ℕ). texts old ++ x ∷ []) (spelled text short).1

-- a listpack with the spelling of a text in place of entry i has that text in place of element i
pub texts_replaced : (old new text : List ℕ) (i count : ℕ) → IsEdited new (set (spellings_of old) i (spelling text)) count → length text < 2 ^ 32 → texts new ≡ set (texts old) i text
texts_replaced old new text i count t short =
    ap (map text_of) t.entries ∙ map-set text_of (spellings_of old) i (spelling text) ∙ ap (set (texts old) i) (spelled text short).1

-- a listpack without the spellings from i to below j has the texts without those
pub texts_taken_out : (old new : List ℕ) (i j count : ℕ) → IsEdited new (remove_range (spellings_of old) i j) count → texts new ≡ remove_range (texts old) i j
texts_taken_out old new i j count t =
    let ss = spellings_of old in
    ap (map text_of) t.entries ∙ map-append text_of (take i ss) (drop j ss)
    ∙ ap (λ (x : List (List ℕ)). x ++ map text_of (drop j ss)) (sym (take-map text_of i ss))
    ∙ ap (λ (x : List (List ℕ)). take i (texts old) ++ x) (sym (drop-map text_of j ss))

-- a text whose entry fits beside a listpack below 2^32 bytes is shorter than 2^32 bytes
pub element_fits : (pack text : List ℕ) → length pack + length (entry text) < 2 ^ 32 → length text < 2 ^ 32
element_fits pack text h = element_short text (omega (arith, h, length-append (spelling text) (back_length (length (spelling text)))))

-- a list into which an entry was put
pub length_put_is : (old inner text : List ℕ) (at : ℕ) → inner ≡ take at old ++ (entry text ++ drop at old) → length inner ≡ length old + length (entry text)
length_put_is old inner text at e =
    let whole = ap length (take-append-drop at old) in
    omega (arith, ap length e, length-append (take at old) (entry text ++ drop at old), length-append (entry text) (drop at old), whole, length-append (take at old) (drop at old))

-- with an entry put in, bytes are fewer than 2^32 where they and the entry together are
pub length-put : (old inner text : List ℕ) (at : ℕ) → inner ≡ take at old ++ (entry text ++ drop at old) → length old + length (entry text) < 2 ^ 32 → length inner < 2 ^ 32
length-put old inner text at e h = omega (arith, length_put_is old inner text at e, h)

-- and out of which another was taken
pub length_exchanged : (old inner text : List ℕ) (at size : ℕ) → inner ≡ take at old ++ (entry text ++ drop (at + size) old) → length old + length (entry text) < 2 ^ 32
    → at + size ≤ length old → length inner < 2 ^ 32
length_exchanged old inner text at size e h inside =
    omega (
      arith,
      ap length e,
      length-append (take at old) (entry text ++ drop (at + size) old),
      length-append (entry text) (drop (at + size) old),
      length-take-le at old (omega arith),
      length-drop (at + size) old,
    )

-- bytes fewer than 2^32 stay so without a part of them
pub length-cut : (old inner : List ℕ) (at size : ℕ) → inner ≡ take at old ++ drop (at + size) old → at + size ≤ length old → length old < 2 ^ 32 → length inner < 2 ^ 32
length-cut old inner at size e inside h =
    omega (arith, ap length e, length-append (take at old) (drop (at + size) old), length-take-le at old (omega arith), length-drop (at + size) old)
