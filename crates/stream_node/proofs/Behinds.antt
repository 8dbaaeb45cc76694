-- An entry written behind the others of a node where they stand.
use Rattle.std.proofs.Common.{◌≡◌, ◌∙◌, Bool, ℕ, pos, ◌+◌, ◌-◌, ◌<◌, ◌≤◌, ◌^◌, List, [], ◌∷◌, ◌++◌, length, map, take, drop, get_or, refl, sym, ap, subst, arith}
use Rattle.std.specs.Prelude.{None, Some, slice_set}
use Rattle.std.specs.List.{All}
use Rattle.std.proofs.lemmas.Int.{ints}
use Rattle.std.proofs.lemmas.List.{append_assoc, drop_at, drop_more, length-append, length-take-le, map-append, map-set, take_at}
use Rattle.std.proofs.lemmas.List.Concat.{flat_map-append}
use Rattle.std.proofs.lemmas.List.Elements.{All-append, All-cons, All-drop}
use Rattle.byteorder.specs.Endian.{little_bytes}
use Rattle.byteorder.specs.Numbers.{length-bytes_low_first}
use Rattle.int_text.proofs.NumberOf.{number_back}
use Rattle.listpack.specs.Entry.{IsSpelling, back_length, entry_of, text_of}
use Rattle.listpack.specs.Pack.{IsPack, entries, spellings_of, texts}
use Rattle.listpack.specs.Writing.{spelling}
use Rattle.listpack.specs.Edits.{IsEdited}
use Rattle.listpack.proofs.Encodings.{needed_small_number}
use Rattle.listpack.proofs.Offsets.{drop_offset, first_byte, length_texts, spelled as read_spelled, whole}
use Rattle.listpack.proofs.ReadBack.{spelled}
use Rattle.listpack.proofs.Repacking.{edited_as, packed}
use Rattle.listpack.proofs.Spellings.{spelling_pos}
use Rattle.listpack.proofs.Writings.{element_short, number_small, spelling_as}
use Rattle.stream_node.specs.declared.id.Id.{Id}
use Rattle.stream_node.specs.Entry.{Pair, number}
use Rattle.stream_node.specs.Node.{IsAfter, last_id}
use Rattle.stream_node.specs.Written.{Extends, HasRoom, entry_texts}
use Rattle.stream_node.specs.Appended.{IsBehind, IsOpen, IsOver, IsPlan, appended, held, pack_len, written_over}
use Rattle.stream_node.proofs.Lists.{Texts}
use Rattle.stream_node.proofs.Same.{fits_count}
use Rattle.stream_node.proofs.Written.{few_written, length_pack}
use Rattle.stream_node.proofs.Appendings.{AreIds, appended_behind, appended_is, some_element, written_end}

nothing : (xs : List ℕ) → length xs ≡ 0 → xs ≡ []
nothing [] e = refl
nothing (x ∷ xs) e = absurd (omega arith)

-- a spelling whose first byte is below 128 is that byte alone
pub one_byte : (s : List ℕ) (b : ℕ) → IsSpelling s → get_or s 0 0 ≡ b → b < 128 → s ≡ b ∷ []
one_byte [] b own is small = absurd (omega (arith, spelling_pos [] own))
one_byte (x ∷ more) b own is small =
    let one : length (x ∷ more) ≡ 1 = own ∙ needed_small_number x more (omega (arith, is, small)) in
    ap (λ (y : ℕ). y ∷ more) is ∙ ap (λ (ys : List ℕ). b ∷ ys) (nothing more (omega (arith, one)))

-- a number below 128 is spelled as one byte
pub small_spelling : (n : ℕ) → n < 128 → spelling (number n) ≡ n ∷ []
small_spelling n small =
    spelling_as (number n) (Some (pos n)) (number_back (pos n) (fits_count n (omega (arith, small)))) ∙ number_small (pos n) (omega (arith, ints)) small

pub set_first : (ss : Texts) (s : List ℕ) → 0 < length ss → slice_set ss 0 s ≡ s ∷ drop 1 ss
set_first [] s some = absurd (omega (arith, some))
set_first (x ∷ ss) s some = refl

-- what stands behind the first byte of the first entry, up to the last byte
abbrev behind_first : Texts → List ℕ
behind_first ss = back_length 1 ++ entries (drop 1 ss)

-- A listpack of these elements, as a writer spells them.
pub record IsAlone (entry : List ℕ) (elements : Texts) : Type 0 where
  pub pack : IsPack entry
  pub spelled : spellings_of entry ≡ map spelling elements
  pub list : texts entry ≡ elements

-- a node whose first count takes one byte, and a listpack of the elements to be put behind it
module _ (old entry : List ℕ) (live : ℕ) (p : IsPack old) (q : IsPack entry) (some : 0 < length (texts old)) (byte : get_or old 6 0 ≡ live) (small : live < 127) where
  abbrev ss : Texts
  ss = spellings_of old

  abbrev ys : Texts
  ys = spellings_of entry

  abbrev next : List ℕ
  next = spelling (number (live + 1))

  abbrev zs : Texts
  zs = slice_set ss 0 next ++ ys

  any : 0 < length ss
  any = omega (arith, some, length_texts old)

  -- the spellings begin with that byte
  first_is : ss ≡ (live ∷ []) ∷ drop 1 ss
  first_is =
      let own = read_spelled old 0 p any in
      let at : get_or old 6 0 ≡ get_or (get_or ss 0 []) 0 0 = first_byte old 0 p any in
      drop_more ss 0 [] any ∙ ap (λ (s : List ℕ). s ∷ drop 1 ss) (one_byte (get_or ss 0 []) live own (sym at ∙ byte) (omega (arith, small)))

  entries_are : entries ss ≡ live ∷ behind_first ss
  entries_are = ap entries first_is

  next_is : next ≡ (live + 1) ∷ []
  next_is = small_spelling (live + 1) (omega (arith, small))

  -- how long it is
  long : length old ≡ 8 + length (behind_first ss)
  long = omega (arith, length_pack old p, ap length entries_are)

  -- up to its last byte
  upto : take (length old - 1) old ≡ (take 6 old ++ live ∷ []) ++ behind_first ss
  upto =
      let end : List ℕ = 0xFF ∷ [] in
      let a = take 6 old in
      let t = behind_first ss in
      let six : length a ≡ 6 = length-take-le 6 old (omega (arith, long)) in
      let shape : old ≡ ((a ++ live ∷ []) ++ t) ++ end =
      whole old p
      ∙ ap (λ (x : List ℕ). a ++ (x ++ end)) entries_are
      ∙ sym (append_assoc a (live ∷ []) (t ++ end))
      ∙ sym (append_assoc (a ++ live ∷ []) t end) in
      ap (take (length old - 1)) shape
      ∙ take_at ((a ++ live ∷ []) ++ t) end (length old - 1) (omega (arith, long, six, length-append (a ++ live ∷ []) t, length-append a (live ∷ [])))

  kept : drop 7 (take (length old - 1) old) ≡ behind_first ss
  kept =
      let six : length (take 6 old) ≡ 6 = length-take-le 6 old (omega (arith, long)) in
      ap (drop 7) upto ∙ drop_at (take 6 old ++ live ∷ []) (behind_first ss) 7 (omega (arith, six, length-append (take 6 old) (live ∷ [])))

  -- the entries then
  zs_entries : entries zs ≡ (live + 1) ∷ (behind_first ss ++ entries ys)
  zs_entries =
      ap (λ (xs : Texts). entries (xs ++ ys)) (set_first ss next any ∙ ap (λ (s : List ℕ). s ∷ drop 1 ss) next_is)
      ∙ flat_map-append entry_of (((live + 1) ∷ []) ∷ drop 1 ss) ys

  -- with a header of so many bytes and elements
  module _ (n count : ℕ) (head : List ℕ) (head_is : head ≡ little_bytes 4 n ++ (little_bytes 2 count ++ (live + 1) ∷ [])) (n_is : n + 7 ≡ length old + length entry) (fits : n < 2 ^ 32)
      (counted : count ≡ length (texts old) + length (texts entry)) (few : count < 65535) where
    seven_bytes : length head ≡ 7
    seven_bytes =
        omega (
          arith,
          ap length head_is,
          length-append (little_bytes 4 n) (little_bytes 2 count ++ (live + 1) ∷ []),
          length-append (little_bytes 2 count) ((live + 1) ∷ []),
          length-bytes_low_first 0 4 n,
          length-bytes_low_first 0 2 count,
        )

    over_is : written_over old head (drop 6 entry) ≡ packed n count zs
    over_is =
        let end : List ℕ = 0xFF ∷ [] in
        let a = little_bytes 4 n in
        let b = little_bytes 2 count in
        let x : List ℕ = (live + 1) ∷ [] in
        let t = behind_first ss in
        let rest = t ++ (entries ys ++ end) in
        ap (λ (k : ℕ). head ++ (drop k (take (length old - 1) old) ++ drop 6 entry)) seven_bytes
        ∙ ap (λ (y : List ℕ). head ++ (y ++ drop 6 entry)) kept
        ∙ ap (λ (y : List ℕ). head ++ (t ++ y)) (drop_offset entry 0 q)
        ∙ ap (λ (y : List ℕ). y ++ rest) head_is
        ∙ append_assoc a (b ++ x) rest
        ∙ ap (λ (y : List ℕ). a ++ y) (append_assoc b x rest)
        ∙ ap (λ (y : List ℕ). a ++ (b ++ ((live + 1) ∷ y))) (sym (append_assoc t (entries ys) end))
        ∙ ap (λ (y : List ℕ). a ++ (b ++ (y ++ end))) (sym zs_entries)

    over_edited : IsEdited (written_over old head (drop 6 entry)) zs count
    over_edited =
        let own = spelled (number (live + 1)) (element_short (number (live + 1)) (omega (arith, ap length next_is))) in
        let first : All IsSpelling (slice_set ss 0 next) =
        subst (All IsSpelling) (sym (set_first ss next any)) (All-cons IsSpelling next (drop 1 ss) own.0 (All-drop IsSpelling 1 ss p.each)) in
        let all = ap length (set_first ss next any) in
        let size : n ≡ 7 + length (entries zs) =
        omega (arith, n_is, long, length_pack entry q, ap length zs_entries, length-append (behind_first ss) (entries ys)) in
        edited_as (written_over old head (drop 6 entry)) n count zs over_is (All-append IsSpelling (slice_set ss 0 next) ys first q.each) size fits (omega (arith, few))
        (λ told. omega (
          arith,
          counted,
          length_texts old,
          length_texts entry,
          length-append (slice_set ss 0 next) ys,
          all,
          ap length (drop_more ss 0 [] any),
        ))

    -- where these are the elements of the entry
    over_behind : (elements : Texts) → IsAlone entry elements → IsBehind old (written_over old head (drop 6 entry)) (number (live + 1)) elements
    over_behind elements e =
        let own = spelled (number (live + 1)) (element_short (number (live + 1)) (omega (arith, ap length next_is))) in
        record {
          pack = over_edited.pack;
          spelled = over_edited.entries ∙ ap (λ (xs : Texts). slice_set ss 0 next ++ xs) e.spelled;
          list = ap (map text_of) over_edited.entries ∙ map-append text_of (slice_set ss 0 next) ys ∙ ap (λ (xs : Texts). xs ++ texts entry) (map-set text_of ss 0 next)
              ∙ ap (λ (x : List ℕ). slice_set (texts old) 0 x ++ texts entry) own.1 ∙ ap (λ (xs : Texts). slice_set (texts old) 0 (number (live + 1)) ++ xs) e.list;
        }

-- the elements of an entry in a listpack of their own
pub alone : (empty entry : List ℕ) (elements : Texts) → spellings_of empty ≡ [] → Extends empty entry elements → IsAlone entry elements
alone empty entry elements none e = record {
  pack = e.pack;
  spelled = e.spelled ∙ ap (λ (xs : Texts). xs ++ map spelling elements) none;
  list = e.list ∙ ap (λ (xs : Texts). map text_of xs ++ elements) none;
}

-- there is room for them
pub alone_room : (key id : Id) (old empty : List ℕ) (pairs : List Pair) (live : ℕ) (same : Bool) → IsPlan (texts old) pairs live same → pack_len (appended key old id pairs) < 2 ^ 32 → IsPack empty
    → spellings_of empty ≡ [] → HasRoom empty (entry_texts key id same pairs)
alone_room key id old empty pairs live same plan room e none =
    omega (
      arith,
      room,
      ap pack_len (appended_is key id old pairs live same plan),
      written_end (slice_set (spellings_of old) 0 (spelling (number (live + 1)))) (entry_texts key id same pairs),
      length_pack empty e,
      ap (λ (xs : Texts). length (entries xs)) none,
    )

-- how many elements and bytes there are
pub record AreFew (key id : Id) (old entry : List ℕ) (pairs : List Pair) (same : Bool) : Type 0 where
  pub elements : length (texts entry) < 2 ^ 32
  pub bytes : length old + length entry < 2 ^ 32 + 7
  pub header : 7 ≤ length entry

pub few_behind : (key id : Id) (old entry : List ℕ) (pairs : List Pair) (live : ℕ) (same : Bool) → IsPack old → get_or old 6 0 ≡ live → live < 127 → IsPlan (texts old) pairs live same
    → pack_len (appended key old id pairs) < 2 ^ 32 → IsAlone entry (entry_texts key id same pairs) → AreFew key id old entry pairs same
few_behind key id old entry pairs live same p byte small plan room e =
    let elements = entry_texts key id same pairs in
    let ss = slice_set (spellings_of old) 0 (spelling (number (live + 1))) in
    let some = some_element (texts old) pairs live same plan in
    let any : 0 < length (spellings_of old) = omega (arith, some, length_texts old) in
    let all = ap pack_len (appended_is key id old pairs live same plan) in
    let end = written_end ss elements in
    let own = length_pack entry e.pack in
    let told = ap (λ (xs : Texts). length (entries xs)) e.spelled in
    let was = length_pack old p in
    let first = ap length (entries_are old entry live p e.pack some byte small) in
    let set = ap (λ (xs : Texts). length (entries xs)) (set_first (spellings_of old) (spelling (number (live + 1))) any ∙ ap (λ (s : List ℕ). s ∷ drop 1 (spellings_of old))
    (next_is old entry live p e.pack some byte small)) in
    record {
      elements = omega (arith, ap length e.list, few_written elements (omega (arith, room, all, end)), all, end);
      bytes = omega (arith, room, all, end, own, told, was, first, set);
      header = omega (arith, own);
    }

-- what is written over the node
pub is_over : (key id : Id) (old entry head : List ℕ) (pairs : List Pair) (live : ℕ) (same : Bool) (n count : ℕ) → AreIds key id → IsPack old → IsOpen key (texts old)
    → IsAfter (last_id None (held key (texts old))) id → 0 < length pairs → length (texts old) < 2 ^ 32 → pack_len (appended key old id pairs) < 2 ^ 32
    → IsPlan (texts old) pairs live same → get_or old 6 0 ≡ live → live < 127 → IsAlone entry (entry_texts key id same pairs)
    → head ≡ little_bytes 4 n ++ (little_bytes 2 count ++ (live + 1) ∷ []) → n + 7 ≡ length old + length entry → count ≡ length (texts old) + length (texts entry) → count < 65535
    → IsOver key old head entry id pairs
is_over key id old entry head pairs live same n count ids p node after more short room plan byte small e head_is n_is counted few =
    let some = some_element (texts old) pairs live same plan in
    let q = e.pack in
    let all = few_behind key id old entry pairs live same p byte small plan room e in
    let fits : n < 2 ^ 32 = omega (arith, n_is, all.bytes) in
    let b = over_behind old entry live p q some byte small n count head head_is n_is fits counted few (entry_texts key id same pairs) e in
    record {
      appended = appended_behind key id old (written_over old head (drop 6 entry)) pairs live same ids node after more short room plan b;
      seven = seven_bytes old entry live p q some byte small n count head head_is n_is fits counted few;
      some = omega (arith, long old entry live p q some byte small);
      entry_pack = q;
      short = all.bytes;
    }
