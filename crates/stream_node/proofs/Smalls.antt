-- A byte that is the whole spelling of an element, changed where it stands.
use Rattle.std.proofs.Common.{◌≡◌, ◌∙◌, ℕ, zero, suc, ◌+◌, ◌-◌, ◌<◌, ◌≤◌, List, [], ◌∷◌, ◌++◌, length, take, drop, get_or, refl, sym, ap, arith}
use Rattle.std.specs.Prelude.{slice_set}
use Rattle.std.specs.List.{All}
use Rattle.std.proofs.lemmas.List.{append_assoc, drop-append-le, drop_at, get_or_at, length-append, length-drop, length-set, length-take-le, set_split, take-append-drop, take_at}
use Rattle.std.proofs.lemmas.List.Concat.{flat_map-append}
use Rattle.std.proofs.lemmas.List.Elements.{All-set}
use Rattle.byteorder.specs.Endian.{little_number}
use Rattle.byteorder.specs.Numbers.{little_from-append, little_from-take}
use Rattle.listpack.specs.Entry.{IsSpelling, back_length, entry_of}
use Rattle.listpack.specs.Pack.{HasSpellings, IsPack, entries, last_byte, offset_of, region, spellings_of, told, total}
use Rattle.listpack.specs.Writing.{spelling}
use Rattle.listpack.proofs.Encodings.{needed_small_number}
use Rattle.listpack.proofs.Laws.{is_pack, spellings_read}
use Rattle.listpack.proofs.Offsets.{cut_at, entries_from, entries_split, first_byte, length_front, spelled as read_spelled}
use Rattle.stream_node.specs.Entry.{number}
use Rattle.stream_node.proofs.Lists.{Texts}
use Rattle.stream_node.proofs.Written.{length_pack}
use Rattle.stream_node.proofs.Behinds.{one_byte, small_spelling}

-- entries of the same length behind a listpack's header
same_header : (old new : List ℕ) (zs : Texts) → IsPack old → new ≡ take 6 old ++ (entries zs ++ 0xFF ∷ []) → All IsSpelling zs
    → length (entries zs) ≡ length (entries (spellings_of old)) → length zs ≡ length (spellings_of old) → IsPack new × (spellings_of new ≡ zs)
same_header old new zs p is each long many =
    let a = take 6 old in
    let e = entries zs in
    let end : List ℕ = 0xFF ∷ [] in
    let header : 7 ≤ length old = p.header in
    let six : length a ≡ 6 = length-take-le 6 old (omega (arith, header)) in
    let four : length (drop 4 a) ≡ 2 = omega (arith, length-drop 4 a, six) in
    let size : length new ≡ length old = omega (arith, ap length is, length-append a (e ++ end), length-append e end, six, long, length_pack old p) in
    let total_is : total new ≡ total old = ap total is ∙ little_from-append 4 a (e ++ end) (omega (arith, six)) ∙ little_from-take 0 4 6 old (omega arith) in
    let left : drop 4 new ≡ drop 4 a ++ (e ++ end) = ap (drop 4) is ∙ drop-append-le 4 a (e ++ end) (omega (arith, six)) in
    let was : drop 4 old ≡ drop 4 a ++ drop 6 old = ap (drop 4) (sym (take-append-drop 6 old)) ∙ drop-append-le 4 a (drop 6 old) (omega (arith, six)) in
    let told_is : told new ≡ told old =
    ap (little_number 2) left ∙ little_from-append 2 (drop 4 a) (e ++ end) (omega (arith, four)) ∙ sym
    (ap (little_number 2) was ∙ little_from-append 2 (drop 4 a) (drop 6 old) (omega (arith, four))) in
    let behind : drop 6 new ≡ e ++ end = ap (drop 6) is ∙ drop_at a (e ++ end) 6 six in
    let part : region new ≡ e =
    ap (take (length new - 1 - 6)) behind ∙ take_at e end (length new - 1 - 6) (omega (arith, size, long, length_pack old p)) in
    let last : last_byte new ≡ 0xFF =
    ap (λ (x : List ℕ). get_or x (length new - 1) 0) (is ∙ sym (append_assoc a e end))
    ∙ get_or_at (a ++ e) 0xFF [] 0 (length new - 1) (omega (arith, size, long, six, length_pack old p, length-append a e)) in
    let h : HasSpellings new zs = record {
      header = omega (arith, header, size);
      size = total_is ∙ p.size ∙ sym size;
      all_entries = part;
      each = each;
      ended = last;
      count = λ no_mark. told_is ∙ p.count (λ m. no_mark (told_is ∙ m)) ∙ sym many;
    } in
    (is_pack new zs h, spellings_read new zs h)

-- a byte of a list exchanged
byte_at : (a t : List ℕ) (b n at : ℕ) → length a ≡ at → slice_set (a ++ b ∷ t) at n ≡ a ++ n ∷ t
byte_at a t b n at e = ap (λ (k : ℕ). slice_set (a ++ b ∷ t) k n) (sym e) ∙ here a
  where
    here : (a : List ℕ) → slice_set (a ++ b ∷ t) (length a) n ≡ a ++ n ∷ t
    here [] = refl
    here (x ∷ a) = ap (λ (l : List ℕ). x ∷ l) (here a)

-- entries before one that is exchanged for another of its length
entries_kept : (ss : Texts) (i j : ℕ) (x : List ℕ) → i < length ss → length (entry_of x) ≡ length (entry_of (get_or ss i []))
    → length (entries (take j (slice_set ss i x))) ≡ length (entries (take j ss))
entries_kept [] i j x inside e = absurd (omega (arith, inside))
entries_kept (s ∷ ss) i zero x inside e = refl
entries_kept (s ∷ ss) zero (suc j) x inside e = omega (arith, e, length-append (entry_of x) (entries (take j ss)), length-append (entry_of s) (entries (take j ss)))
entries_kept (s ∷ ss) (suc i) (suc j) x inside e =
    omega (
      arith,
      entries_kept ss i j x (omega (arith, inside)) e,
      length-append (entry_of s) (entries (take j (slice_set ss i x))),
      length-append (entry_of s) (entries (take j ss)),
    )

-- the byte that is the spelling of element i, and another one in its place
module _ (old : List ℕ) (i at b n : ℕ) (p : IsPack old) (inside : i < length (spellings_of old)) (place : at ≡ offset_of old i) (byte : get_or old at 0 ≡ b) (was : b < 128) (small : n < 128) where
  abbrev ss : Texts
  ss = spellings_of old

  abbrev rest : List ℕ
  rest = back_length 1 ++ entries (drop (i + 1) ss)

  pub first_is : get_or ss i [] ≡ b ∷ []
  first_is = one_byte (get_or ss i []) b (read_spelled old i p inside) (sym (first_byte old i p inside) ∙ ap (λ (k : ℕ). get_or old k 0) (sym place) ∙ byte) was

  from_is : entries (drop i ss) ≡ b ∷ rest
  from_is = entries_from i ss inside ∙ ap (λ (s : List ℕ). entry_of s ++ entries (drop (i + 1) ss)) first_is

  abbrev zs : Texts
  zs = slice_set ss i (n ∷ [])

  zs_entries : entries zs ≡ entries (take i ss) ++ n ∷ rest
  zs_entries =
      let next : suc i ≡ i + 1 = omega arith in
      ap entries (set_split ss i (n ∷ []) inside)
      ∙ flat_map-append entry_of (take i ss) ((n ∷ []) ∷ drop (suc i) ss)
      ∙ ap (λ (k : ℕ). entries (take i ss) ++ n ∷ (back_length 1 ++ entries (drop k ss))) next

  changed : slice_set old at n ≡ take 6 old ++ (entries zs ++ 0xFF ∷ [])
  changed =
      let a = take 6 old in
      let e = entries (take i ss) in
      let end : List ℕ = 0xFF ∷ [] in
      ap (λ (x : List ℕ). slice_set x at n) (cut_at old i p ∙ ap (λ (x : List ℕ). (a ++ e) ++ (x ++ end)) from_is)
      ∙ byte_at (a ++ e) (rest ++ end) b n at (length_front old i p ∙ sym place)
      ∙ append_assoc a e (n ∷ (rest ++ end))
      ∙ ap (λ (x : List ℕ). a ++ x) (sym (append_assoc e (n ∷ rest) end))
      ∙ ap (λ (x : List ℕ). a ++ (x ++ end)) (sym zs_entries)

  both : IsPack (slice_set old at n) × (spellings_of (slice_set old at n) ≡ zs)
  both =
      let e = entries (take i ss) in
      same_header old (slice_set old at n) zs p changed (All-set IsSpelling ss i (n ∷ []) (sym (needed_small_number n [] small)) p.each)
      (omega (
        arith,
        ap length zs_entries,
        length-append e (n ∷ rest),
        ap length (entries_split i ss),
        ap length from_is,
        length-append e (entries (drop i ss)),
      ))
      (length-set ss i (n ∷ []))

  pub byte_pack : IsPack (slice_set old at n)
  byte_pack = both.0

  pub byte_spelled : spellings_of (slice_set old at n) ≡ slice_set ss i (spelling (number n))
  byte_spelled = both.1 ∙ ap (λ (s : List ℕ). slice_set ss i s) (sym (small_spelling n small))

  -- each element stands where it stood
  pub byte_offset : (j : ℕ) → offset_of (slice_set old at n) j ≡ offset_of old j
  byte_offset j =
      omega (
        arith,
        ap (λ (xs : Texts). length (entries (take j xs))) both.1,
        entries_kept ss i j (n ∷ []) inside (ap (λ (s : List ℕ). length (entry_of s)) (sym first_is)),
      )

  -- and there are as many
  pub byte_many : length (spellings_of (slice_set old at n)) ≡ length ss
  byte_many = ap length both.1 ∙ length-set ss i (n ∷ [])
