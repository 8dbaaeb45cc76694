-- How the code reads a header.
use Rattle.std.proofs.Common.{◌≡◌, ◌≢◌, ℕ, suc, ◌+◌, ◌-◌, ◌<◌, ◌≤◌, List, [], ◌∷◌, ◌++◌, length, take, drop, get_or, sym, ap, subst, ◌∙◌, refl, inl, inr, arith, length-take}
use Rattle.std.proofs.lemmas.Bool.{cases_lt}
use Rattle.std.proofs.lemmas.List.{take-append-drop, take_all, drop_more, drop_all, take_rest, append_assoc}
use Rattle.plain_world.specs.Spelling.{line_end}
use Rattle.resp_frames.specs.Frames.{IsPlainText, IsText, longest_header}
use Rattle.resp_frames.specs.Faults.{too_long, no_line_feed}
use Rattle.resp_frames.specs.Reading.{read_header, Open}
use Rattle.resp_frames.specs.HeaderRead.{ReadsText, IsOpenHeader, IsOther, ReadsHeader}
use Rattle.resp_frames.specs.declared.header.Header.{Header}
use Rattle.resp_frames.specs.declared.header.Header.TheVariants as headers
use Rattle.resp_frames.proofs.Headers.{header_none, header_begun, header_returned}
use Rattle.resp_frames.specs.declared.rule.Rule.TheVariants as rules

-- what `before_end` tells of a CR
pub record Cuts (bytes : List ℕ) (n : ℕ) : Type 0 where
  pub within : n ≤ length bytes
  pub few : n ≤ longest_header
  pub plain : IsPlainText (take n bytes)
  pub found : n < length bytes → n ≢ longest_header → get_or bytes n 0 ≡ 13

text_is : (bytes : List ℕ) (n : ℕ) → Cuts bytes n → n ≢ longest_header → IsText (take n bytes)
text_is bytes n c not = let few : n ≤ longest_header = c.few in record { plain = c.plain; short = omega (arith, length-take n bytes) }

-- the bytes, cut at the CR
cut : (bytes : List ℕ) (n : ℕ) → n < length bytes → get_or bytes n 0 ≡ 13 → bytes ≡ take n bytes ++ 13 ∷ drop (n + 1) bytes
cut bytes n h e = sym (take-append-drop n bytes) ∙ ap (λ l. take n bytes ++ l) (drop_more bytes n 0 h ∙ ap (λ b. b ∷ drop (n + 1) bytes) e)

-- the bytes, cut after the byte that follows the CR
cut_twice : (bytes : List ℕ) (n : ℕ) → Cuts bytes n → n ≢ longest_header → n + 1 < length bytes → bytes ≡ take n bytes ++ 13 ∷ get_or bytes (n + 1) 0 ∷ drop (n + 2) bytes
cut_twice bytes n c not long =
    let lt : n < length bytes = omega arith in
    let e : n + 1 + 1 ≡ n + 2 = omega arith in
    cut bytes n lt (c.found lt not) ∙ ap (λ l. take n bytes ++ 13 ∷ l) (drop_more bytes (n + 1) 0 long ∙ ap (λ m. get_or bytes (n + 1) 0 ∷ drop m bytes) e)

pub endless : (bytes : List ℕ) (n : ℕ) → Cuts bytes n → n ≡ longest_header → ReadsText bytes (headers.Broken rules.LineTooLong 0)
endless bytes n c is =
    let within : n ≤ length bytes = c.within in
    let P : ℕ → Type 0 = λ m. IsPlainText (take m bytes) in
    inl (refl, refl, record { within = omega arith; plain = subst P is c.plain })

pub no_line_end : (bytes : List ℕ) (n : ℕ) → Cuts bytes n → n ≢ longest_header → n + 1 < length bytes → get_or bytes (n + 1) 0 ≢ 10 → ReadsText bytes (headers.Broken rules.ExpectedCrLf (n + 2))
no_line_end bytes n c not long other = inr (
  refl,
  record {
    text = take n bytes;
    b = get_or bytes (n + 1) 0;
    within = omega arith;
    whole = cut_twice bytes n c not long;
    long = omega (arith, length-take n bytes);
    good =
        text_is bytes n c not;
    other = other;
  },
)

starts : (bytes : List ℕ) (mark : ℕ) → 0 < length bytes → get_or bytes 0 0 ≡ mark → bytes ≡ mark ∷ drop 1 bytes
starts [] mark h e = absurd (omega arith)
starts (b ∷ bs) mark h e = ap (λ m. m ∷ bs) e

length-cons : (b : ℕ) (bs : List ℕ) → length (b ∷ bs) ≡ length bs + 1
length-cons b bs = omega arith

drop_past : (t rest : List ℕ) (x : ℕ) → drop (suc (length t)) (t ++ x ∷ rest) ≡ rest
drop_past [] rest x = refl
drop_past (b ∷ t) rest x = drop_past t rest x

-- the mark, and then what stands after it
with_mark : (mark : ℕ) (bytes : List ℕ) (r : Header) → ReadsText bytes r → ReadsHeader mark (mark ∷ bytes) r
with_mark mark bytes headers.Other h = absurd h
with_mark mark bytes (headers.Open n) h =
    let P : List ℕ → Type 0 = λ l. read_header (mark ∷ l) ≡ Open in
    record {
      begun = inr refl;
      scanned = record {
        within = h.within;
        few = let s : length (take n bytes) < longest_header = h.text.short in let w : n ≤ length bytes = h.within in omega (arith, length-take n bytes);
        plain =
            h.text.plain;
      };
      more = elim h.whole [ inl e ↦ subst P (sym e) (header_begun mark (take n bytes) h.text) | inr e ↦ subst P (sym e) (header_returned mark (take n bytes) h.text) ];
    }
with_mark mark bytes (headers.Text n) h =
    let e : n + 3 ≡ suc (n + 2) = omega arith in
    record {
      text = h.text;
      within = let le : n + 2 ≤ length bytes = h.within in omega (arith, length-cons mark bytes);
      whole = ap (λ l. mark ∷ l) h.whole ∙ ap (λ k. mark ∷ (take n bytes ++ line_end ++ drop k (mark ∷ bytes))) (sym e);
    }
with_mark mark bytes (headers.Broken rule at) h = elim h [
  | inl p ↦
      let whole : mark ∷ bytes ≡ mark ∷ take longest_header bytes ++ drop longest_header bytes = ap (λ l. mark ∷ l) (sym (take-append-drop longest_header bytes)) in
      let w : longest_header ≤ length bytes = p.2.within in
      record {
        within = omega (arith, p.1);
        fault = too_long (take longest_header bytes) (drop longest_header bytes) p.0 (ap (λ k. drop k (mark ∷ bytes)) p.1) whole p.2.plain (omega (arith, length-take longest_header bytes));
      }
  | inr p ↦
      let long : length p.1.text + 2 ≡ at = p.1.long in
      let next : at ≡ suc (suc (length p.1.text)) = omega arith in
      let from : drop at (mark ∷ bytes) ≡ p.1.b ∷ drop at bytes =
      ap (λ k. drop k (mark ∷ bytes)) next ∙ ap (drop (suc (length p.1.text))) p.1.whole ∙ drop_past p.1.text (p.1.b ∷ drop at bytes) 13 in
      let within : at ≤ length bytes = p.1.within in
      record {
        within = omega (arith, length-cons mark bytes);
        fault = no_line_feed p.1.text (drop at bytes) p.1.b p.0 from (ap (λ l. mark ∷ l) p.1.whole ∙ ap (λ l. mark ∷ p.1.text ++ 13 ∷ l) (sym from)) p.1.good p.1.other;
      }
]

pub after_mark : (mark : ℕ) (bytes : List ℕ) (r : Header) → 0 < length bytes → get_or bytes 0 0 ≡ mark → ReadsText (take (length bytes - 1) (drop 1 bytes)) r → ReadsHeader mark bytes r
after_mark mark bytes r some first h =
    let rest : take (length bytes - 1) (drop 1 bytes) ≡ drop 1 bytes = take_rest bytes 1 in
    let P : List ℕ → Type 0 = λ l. ReadsText l r in
    let Q : List ℕ → Type 0 = λ l. ReadsHeader mark l r in
    subst Q (sym (starts bytes mark some first)) (with_mark mark (drop 1 bytes) r (subst P rest h))

pub nothing_there : (mark : ℕ) (bytes : List ℕ) → length bytes ≡ 0 → IsOpenHeader mark bytes 0
nothing_there mark [] e = record { scanned = record { within = omega arith; few = omega arith; plain = tt }; begun = inl refl; more = header_none }
nothing_there mark (b ∷ bytes) e = absurd (omega arith)

pub other_there : (mark : ℕ) (bytes : List ℕ) → 0 < length bytes → (get_or bytes 0 0 ≡ mark → ⊥) → IsOther mark bytes
other_there mark [] h ne = absurd (omega arith)
other_there mark (b ∷ bytes) h ne = record { b = b; more = bytes; first = refl; other = ne }
