-- An entry marked by three bytes where they stand.
use Rattle.std.proofs.Common.{◌≡◌, ◌∙◌, ℕ, ◌<◌, ◌≤◌, ◌^◌, List, [], length, map, get_or, refl, sym, ap, subst, arith}
use Rattle.std.specs.Prelude.{slice_set}
use Rattle.std.proofs.lemmas.List.{get_or-set_other, map-set}
use Rattle.listpack.specs.Entry.{back_length, text_of}
use Rattle.listpack.specs.Pack.{IsAt, IsPack, offset_of, spellings_of, texts}
use Rattle.listpack.specs.Writing.{spelling}
use Rattle.listpack.proofs.Offsets.{length_texts, offset_next, offset_rises, spelled as read_spelled}
use Rattle.listpack.proofs.ReadBack.{spelled}
use Rattle.listpack.proofs.Spellings.{spelling_pos}
use Rattle.listpack.proofs.Writings.{element_short}
use Rattle.stream_node.specs.declared.id.Id.{Id}
use Rattle.stream_node.specs.declared.marking.MarkOver.{MarkOver}
use Rattle.stream_node.specs.declared.marking.Marks.{Marks}
use Rattle.stream_node.specs.Entry.{number}
use Rattle.stream_node.specs.Marked.{AreMarks, CanMark, Exchanges, IsMarkOver, IsMarked, TakesByte, marked_over}
use Rattle.stream_node.proofs.Lists.{Texts}
use Rattle.stream_node.proofs.Behinds.{small_spelling}
use Rattle.stream_node.proofs.Markings.{is_marked}
use Rattle.stream_node.proofs.Smalls.{byte_many, byte_offset, byte_pack, byte_spelled, first_is}

-- a back length of one byte
one_back : length (back_length 1) ≡ 1
unfolding back_length
one_back = refl

-- a number below 128 is read back from its spelling
text_back : (n : ℕ) → n < 128 → text_of (spelling (number n)) ≡ number n
text_back n small = (spelled (number n) (element_short (number n) (omega (arith, ap length (small_spelling n small))))).1

module _ (old : List ℕ) (i live deleted flags at : ℕ) (p : IsPack old) (two : 2 ≤ i) (inside : i < length (texts old)) (place : at ≡ offset_of old i)
    (a : TakesByte old 6 live) (b : TakesByte old 8 deleted) (f : TakesByte old at flags) where
  abbrev ss : Texts
  ss = spellings_of old

  all : i < length ss
  all = omega (arith, inside, length_texts old)

  none : 0 < length ss
  none = omega (arith, all, two)

  one : 1 < length ss
  one = omega (arith, all, two)

  -- the second element stands behind the first one's two bytes
  second_at : 8 ≡ offset_of old 1
  second_at =
      let first = first_is old 0 6 (get_or old 6 0) live p none refl refl a.was a.small in
      omega (arith, offset_next old 0 none, ap length first, ap (λ (s : List ℕ). length (back_length (length s))) first, one_back)

  -- and the flags behind both
  behind_both : 8 < at
  behind_both = omega (arith, place, second_at, offset_next old 1 one, spelling_pos (get_or ss 1 []) (read_spelled old 1 p one), offset_rises old 2 i two)

  abbrev first : List ℕ
  first = slice_set old 6 live

  first_pack : IsPack first
  first_pack = byte_pack old 0 6 (get_or old 6 0) live p none refl refl a.was a.small

  first_spelled : spellings_of first ≡ slice_set ss 0 (spelling (number live))
  first_spelled = byte_spelled old 0 6 (get_or old 6 0) live p none refl refl a.was a.small

  one_first : 1 < length (spellings_of first)
  one_first = omega (arith, one, byte_many old 0 6 (get_or old 6 0) live p none refl refl a.was a.small)

  second_place : 8 ≡ offset_of first 1
  second_place = second_at ∙ sym (byte_offset old 0 6 (get_or old 6 0) live p none refl refl a.was a.small 1)

  second_byte : get_or first 8 0 ≡ get_or old 8 0
  second_byte = get_or-set_other old 6 8 live 0 (λ e. omega (arith, e))

  abbrev second : List ℕ
  second = slice_set first 8 deleted

  second_pack : IsPack second
  second_pack = byte_pack first 1 8 (get_or old 8 0) deleted first_pack one_first second_place second_byte b.was b.small

  second_spelled : spellings_of second ≡ slice_set (spellings_of first) 1 (spelling (number deleted))
  second_spelled = byte_spelled first 1 8 (get_or old 8 0) deleted first_pack one_first second_place second_byte b.was b.small

  inside_second : i < length (spellings_of second)
  inside_second =
      omega (
        arith,
        all,
        byte_many old 0 6 (get_or old 6 0) live p none refl refl a.was a.small,
        byte_many first 1 8 (get_or old 8 0) deleted first_pack one_first second_place second_byte b.was b.small,
      )

  third_place : at ≡ offset_of second i
  third_place =
      place ∙ sym (byte_offset old 0 6 (get_or old 6 0) live p none refl refl a.was a.small i)
      ∙ sym (byte_offset first 1 8 (get_or old 8 0) deleted first_pack one_first second_place second_byte b.was b.small i)

  third_byte : get_or second at 0 ≡ get_or old at 0
  third_byte =
      get_or-set_other first 8 at deleted 0 (λ e. omega (arith, e, behind_both))
      ∙ get_or-set_other old 6 at live 0 (λ e. omega (arith, e, behind_both))

  exchanged_is : Exchanges old (slice_set second at flags) i (number live) (number deleted) (number flags)
  exchanged_is =
      let whole = byte_spelled second i at (get_or old at 0) flags second_pack inside_second third_place third_byte f.was f.small
      ∙ ap (λ (xs : Texts). slice_set xs i (spelling (number flags))) (second_spelled ∙ ap (λ (xs : Texts). slice_set xs 1 (spelling (number deleted))) first_spelled) in
      let x = slice_set ss 0 (spelling (number live)) in
      let y = slice_set x 1 (spelling (number deleted)) in
      record {
        pack = byte_pack second i at (get_or old at 0) flags second_pack inside_second third_place third_byte f.was f.small;
        spelled = whole;
        list = ap (map text_of) whole
            ∙ map-set text_of y i (spelling (number flags))
            ∙ ap (λ (t : List ℕ). slice_set (map text_of y) i t) (text_back flags f.small)
            ∙ ap (λ (l : Texts). slice_set l i (number flags)) (map-set text_of x 1 (spelling (number deleted)))
            ∙ ap (λ (t : List ℕ). slice_set (slice_set (map text_of x) 1 t) i (number flags)) (text_back deleted b.small)
            ∙ ap (λ (l : Texts). slice_set (slice_set l 1 (number deleted)) i (number flags)) (map-set text_of ss 0 (spelling (number live)))
            ∙ ap (λ (t : List ℕ). slice_set (slice_set (slice_set (texts old) 0 t) 1 (number deleted)) i (number flags)) (text_back live a.small);
      }

-- the three bytes mark the entry
pub is_mark_over : (key : Id) (old : List ℕ) (index at : ℕ) (marks : Marks) (mark : MarkOver) → IsPack old → CanMark key (texts old) index → length (texts old) < 2 ^ 32
    → AreMarks (texts old) index marks → IsAt old marks.at at → TakesByte old 6 marks.live → TakesByte old 8 marks.deleted → TakesByte old at marks.flags
    → mark.live ≡ marks.live → mark.deleted ≡ marks.deleted → mark.at ≡ at → mark.flags ≡ marks.flags → IsMarkOver old index mark
is_mark_over key old index at marks mark p can short m there a b f live deleted place flags =
    let e = exchanged_is old marks.at marks.live marks.deleted marks.flags at p m.behind_two m.inside there.1 a b f in
    let same : slice_set (slice_set (slice_set old 6 marks.live) 8 marks.deleted) at marks.flags ≡ marked_over old mark =
    (λ j. slice_set (slice_set (slice_set old 6 (sym live j)) 8 (sym deleted j)) (sym place j) (sym flags j)) in
    record {
      marked = subst (λ (x : List ℕ). IsMarked old x index) same
          (is_marked key old (slice_set (slice_set (slice_set old 6 marks.live) 8 marks.deleted) at marks.flags) index marks can short m e);
      some = b.inside;
      inside = omega (arith, place, f.inside);
    }
