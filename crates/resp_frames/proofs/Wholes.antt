-- Requests whose words stand whole are read at once.
use Rattle.std.proofs.Common.{◌≡◌, ℕ, suc, ◌+◌, ◌-◌, ◌*◌, ◌<◌, ◌≤◌, ◌^◌, List, [], ◌∷◌, ◌++◌, length, take, drop, get_or, sym, ap, subst, ◌∙◌, refl, arith, length-take, length-drop}
use Rattle.std.specs.Fmt.{decimal}
use Rattle.std.proofs.lemmas.List.{append_assoc, take-append-drop, take_rest, take_more, drop-drop, drop_more, get_or-take, get_or-drop}
use Rattle.plain_world.specs.Spelling.{line_end}
use Rattle.plain_world.proofs.Numerals.{AreDigits, read_on}
use Rattle.resp_frames.specs.Frames.{header, most_words}
use Rattle.resp_frames.specs.RequestRead.{StandsAtLength, StandsAtBody, IsWholeBody, IsRequestAt}
use Rattle.resp_frames.specs.WholeRead.{IsNumberLine, IsHeaded, IsWholeWord}
use Rattle.resp_frames.specs.declared.span.Span.{Span}
use Rattle.resp_frames.specs.declared.whole.Numbered.{Numbered}
use Rattle.resp_frames.proofs.Digits.{digits_more, read_whole}
use Rattle.resp_frames.proofs.BodySteps.{Longer, longer, all_words, more_words}
use Rattle.plain_world.specs.Words.{longest}

-- a digit more
read_more : (n : ℕ) (ds : List ℕ) (c : ℕ) → read_on n (ds ++ c ∷ []) ≡ read_on n ds * 10 + (c - 48)
read_more n [] c = refl
read_more n (d ∷ ds) c = read_more (n * 10 + (d - 48)) ds c

-- the first bytes are digits, and their number
pub record IsNumberSoFar (most : ℕ) (bytes : List ℕ) (n i : ℕ) : Type 0 where
  pub within : i ≤ length bytes
  pub value : read_on 0 (take i bytes) ≡ n
  pub digits : AreDigits (take i bytes)
  pub some : 0 < n
  pub few : n ≤ most

pub first_digit : (most : ℕ) (bytes : List ℕ) → 9 ≤ most → 0 < length bytes → 49 ≤ get_or bytes 0 0 → get_or bytes 0 0 ≤ 57 → IsNumberSoFar most bytes (get_or bytes 0 0 - 48) 1
first_digit most [] some h low high = absurd (omega arith)
first_digit most (b ∷ bytes) some h low high = record {
  within = omega arith;
  value = omega arith;
  digits = digits_more (b ∷ bytes) 0 h (λ k lt. absurd (omega arith)) (omega arith) high;
  some = omega arith;
  few = omega arith;
}

pub next_digit : (most : ℕ) (bytes : List ℕ) (n i : ℕ) → IsNumberSoFar most bytes n i → i < length bytes → 48 ≤ get_or bytes i 0 → get_or bytes i 0 ≤ 57 → n * 10 + (get_or bytes i 0 - 48) ≤ most →
    IsNumberSoFar most bytes (n * 10 + (get_or bytes i 0 - 48)) (i + 1)
next_digit most bytes n i s h low high few =
    let c = get_or bytes i 0 in
    let some : 0 < n = s.some in
    record {
      within = omega arith;
      value = ap (read_on 0) (take_more bytes i 0 h) ∙ read_more 0 (take i bytes) c ∙ ap (λ m. m * 10 + (c - 48)) s.value;
      digits = digits_more bytes i h s.digits low high;
      some = omega arith;
      few = few;
    }

pub number_ends : (most : ℕ) (bytes : List ℕ) (n i : ℕ) → most < 2 ^ 32 → IsNumberSoFar most bytes n i → 0 < i → i < length bytes → 49 ≤ get_or bytes 0 0 → get_or bytes i 0 ≡ 13
    → IsNumberLine most bytes (record { number = n; len = i })
number_ends most bytes n i small s some h low end =
    let text = take i bytes in
    let few : n ≤ most = s.few in
    let value : read_on 0 text ≡ n = s.value in
    let first : get_or text 0 0 ≡ get_or bytes 0 0 = get_or-take i bytes 0 0 some in
    let fits : read_on 0 text < 2 ^ 64 = omega arith in
    record {
      within = h;
      some = s.some;
      few = s.few;
      text = read_whole text s.digits (omega (arith, length-take i bytes)) (λ zero. absurd (omega arith)) fits ∙ ap decimal value;
      end = end;
    }

-- a header behind its mark
marked : (mark most : ℕ) (tail : List ℕ) (n : Numbered) → IsNumberLine most tail n → n.len + 2 ≤ length tail → get_or tail (n.len + 1) 0 ≡ 10 → mark ∷ tail ≡ header mark (decimal n.number)
    ++ drop (n.len + 2) tail
marked mark most tail n t long feed =
    let text = take n.len tail in
    let next : n.len + 1 + 1 ≡ n.len + 2 = omega arith in
    let at_feed : drop (n.len + 1) tail ≡ 10 ∷ drop (n.len + 2) tail =
    drop_more tail (n.len + 1) 0 (omega arith) ∙ ap (λ b. b ∷ drop (n.len + 1 + 1) tail) feed ∙ ap (λ k. 10 ∷ drop k tail) next in
    let at_return : drop n.len tail ≡ 13 ∷ 10 ∷ drop (n.len + 2) tail = drop_more tail n.len 0 t.within ∙ ap (λ b. b ∷ drop (n.len + 1) tail) t.end ∙ ap (λ l. 13 ∷ l) at_feed in
    ap (λ l. mark ∷ l)
    (sym (take-append-drop n.len tail) ∙ ap (λ l. text ++ l) at_return ∙ ap (λ l. l ++ 13 ∷ 10 ∷ drop (n.len + 2) tail) t.text
    ∙ sym (append_assoc (decimal n.number) line_end (drop (n.len + 2) tail)))

-- a header, as the code cuts it
pub header_whole : (mark most : ℕ) (bytes : List ℕ) (n : Numbered) → 0 < length bytes → get_or bytes 0 0 ≡ mark → IsNumberLine most (take (length bytes - 1) (drop 1 bytes)) n
    → n.len + 2 < length bytes → get_or bytes (n.len + 2) 0 ≡ 10 →
    IsHeaded mark most bytes (record { number = n.number; len = n.len + 3 })
header_whole mark most [] n h first t long feed = absurd (omega arith)
header_whole mark most (b ∷ tail) n h first t long feed =
    let same : take (length (b ∷ tail) - 1) tail ≡ tail = take_rest (b ∷ tail) 1 in
    let P : List ℕ → Type 0 = λ l. IsNumberLine most l n in
    let line = subst P same t in
    let two : n.len + 2 ≡ suc (n.len + 1) = omega arith in
    let three : n.len + 3 ≡ suc (n.len + 2) = omega arith in
    let at_feed : get_or tail (n.len + 1) 0 ≡ 10 = ap (λ k. get_or (b ∷ tail) k 0) (sym two) ∙ feed in
    let left : drop (n.len + 3) (b ∷ tail) ≡ drop (n.len + 2) tail = ap (λ k. drop k (b ∷ tail)) three in
    record {
      further = omega arith;
      within = omega arith;
      some = line.some;
      few = line.few;
      whole = ap (λ m. m ∷ tail) first ∙ marked mark most tail n line (omega arith) at_feed ∙ ap (λ l. header mark (decimal n.number) ++ l) (sym left);
    }

-- a header of one digit, and one of two
module _ (mark most : ℕ) (bytes : List ℕ) (some : 99 ≤ most) (small : most < 2 ^ 32) (long : 5 ≤ length bytes) (first : get_or bytes 0 0 ≡ mark) (low : 49 ≤ get_or bytes 1 0)
    (high : get_or bytes 1 0 ≤ 57) where
  tail_header : (n : Numbered) → IsNumberLine most (drop 1 bytes) n → n.len + 2 < length bytes → get_or bytes (n.len + 2) 0 ≡ 10
      → IsHeaded mark most bytes (record { number = n.number; len = n.len + 3 })
  tail_header n line within feed =
      let P : List ℕ → Type 0 = λ l. IsNumberLine most l n in
      header_whole mark most bytes n (omega arith) first (subst P (sym (take_rest bytes 1)) line) within feed

  tail_at : (k : ℕ) → get_or (drop 1 bytes) k 0 ≡ get_or bytes (1 + k) 0
  tail_at k = get_or-drop 1 bytes k 0

  one : IsNumberSoFar most (drop 1 bytes) (get_or bytes 1 0 - 48) 1
  one =
      let P : ℕ → Type 0 = λ d. IsNumberSoFar most (drop 1 bytes) (d - 48) 1 in
      let here : get_or (drop 1 bytes) 0 0 ≡ get_or bytes 1 0 = tail_at 0 in
      subst P here (first_digit most (drop 1 bytes) (omega arith) (omega (arith, length-drop 1 bytes)) (omega arith) (omega arith))

  pub header_of_one : get_or bytes 2 0 ≡ 13 → get_or bytes 3 0 ≡ 10 → IsHeaded mark most bytes (record { number = get_or bytes 1 0 - 48; len = 4 })
  header_of_one return feed =
      let here : get_or (drop 1 bytes) 0 0 ≡ get_or bytes 1 0 = tail_at 0 in
      let line = number_ends most (drop 1 bytes) (get_or bytes 1 0 - 48) 1 small one (omega arith) (omega (arith, length-drop 1 bytes)) (omega arith) (tail_at 1 ∙ return) in
      tail_header (record { number = get_or bytes 1 0 - 48; len = 1 }) line (omega arith) feed

  pub header_of_two : 48 ≤ get_or bytes 2 0 → get_or bytes 2 0 ≤ 57 → get_or bytes 3 0 ≡ 13 → get_or bytes 4 0 ≡ 10
      → IsHeaded mark most bytes (record { number = (get_or bytes 1 0 - 48) * 10 + (get_or bytes 2 0 - 48); len = 5 })
  header_of_two low' high' return feed =
      let here : get_or (drop 1 bytes) 0 0 ≡ get_or bytes 1 0 = tail_at 0 in
      let next : get_or (drop 1 bytes) 1 0 ≡ get_or bytes 2 0 = tail_at 1 in
      let n = get_or bytes 1 0 - 48 in
      let P : ℕ → Type 0 = λ d. IsNumberSoFar most (drop 1 bytes) (n * 10 + (d - 48)) 2 in
      let two : IsNumberSoFar most (drop 1 bytes) (n * 10 + (get_or bytes 2 0 - 48)) 2 =
      subst P next (next_digit most (drop 1 bytes) n 1 one (omega (arith, length-drop 1 bytes)) (omega arith) (omega arith) (omega arith)) in
      let line = number_ends most (drop 1 bytes) (n * 10 + (get_or bytes 2 0 - 48)) 2 small two (omega arith) (omega (arith, length-drop 1 bytes)) (omega arith) (tail_at 2 ∙ return) in
      tail_header (record { number = n * 10 + (get_or bytes 2 0 - 48); len = 2 }) line (omega arith) feed

-- a word more is whole
module _ (bytes : List ℕ) (read words : ℕ) (w : Span) (spans new : List Span) (s : StandsAtLength bytes read words 0 spans) (k : IsWholeWord bytes read w) (is : new ≡ spans ++ w ∷ []) where
  word_longer : Longer bytes w.start (w.start + w.len + 2) words new
  word_longer =
      let P : List Span → Type 0 = λ l. Longer bytes w.start (w.start + w.len + 2) words l in
      let stands : StandsAtBody bytes w.start words w.len spans = record { within = k.within; inside = s.inside; small = k.small; rest = drop read bytes; begun = s.begun; headed = k.headed } in
      subst P (sym is) (longer bytes w.start words w.len spans stands k.body)

  pub word_last : (many : ℕ) → many ≡ length new → many ≡ words → IsRequestAt bytes (w.start + w.len + 2) new
  word_last many count e = all_words bytes w.start (w.start + w.len + 2) words new word_longer (sym count ∙ e)
