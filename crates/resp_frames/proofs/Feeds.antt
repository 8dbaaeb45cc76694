-- What is read stays, when more bytes come.
use Rattle.std.proofs.Common.{◌≡◌, ℕ, ◌+◌, ◌≤◌, ◌^◌, List, [], ◌∷◌, ◌++◌, Bool, true, false, length, drop, length-append, length-drop, arith, sym, ap, subst, ◌∙◌, refl}
use Rattle.std.specs.Prelude.{if◌then◌else◌}
use Rattle.std.specs.Fmt.{decimal}
use Rattle.std.proofs.lemmas.List.{append_assoc, append-nil, drop-append-le, take-append-le}
use Rattle.resp_frames.specs.Frames.{header, IsWithout, IsPlainText}
use Rattle.resp_frames.specs.Faults.{Begun}
use Rattle.resp_frames.specs.HeaderRead.{IsScanned}
use Rattle.resp_frames.specs.LineRead.{IsLineScanned}
use Rattle.resp_frames.specs.Feeding.{IsFeeder}
use Rattle.resp_frames.specs.RequestRead.{words_at, AreWithin, Stands}
use Rattle.resp_frames.specs.declared.span.Span.{Span}
use Rattle.resp_frames.specs.declared.request.Due.{Due}
use Rattle.resp_frames.specs.declared.request.Due.TheVariants as due
use Rattle.resp_frames.specs.declared.request.Progress.{Progress}
use Rattle.resp_frames.proofs.Items.{begun_stays}
use Rattle.resp_frames.proofs.Parts.{words_stay, within_stays}

scanned_stays : (bytes piece : List ℕ) (n : ℕ) → IsScanned bytes n → IsScanned (bytes ++ piece) n
scanned_stays [] piece n h =
    let none : n ≡ 0 = let w : n ≤ 0 = h.within in omega arith in
    let P : ℕ → Type 0 = λ m. IsScanned piece m in
    subst P (sym none) (record { within = omega arith; few = omega arith; plain = tt })
scanned_stays (b ∷ bytes) piece n h =
    let w : n ≤ length bytes = h.within in
    record { within = omega (arith, length-append bytes piece); few = h.few; plain = subst IsPlainText (sym (take-append-le n bytes piece h.within)) h.plain }

line_scanned_stays : (bytes piece : List ℕ) (n : ℕ) → IsLineScanned bytes n → IsLineScanned (bytes ++ piece) n
line_scanned_stays bytes piece n h =
    let w : n ≤ length bytes = h.within in
    record { within = omega (arith, length-append bytes piece); few = h.few; plain = subst (IsWithout 10) (sym (take-append-le n bytes piece h.within)) h.plain }

begun_further : (bytes piece : List ℕ) (n : ℕ) (spans : List Span) (rest : List ℕ) → AreWithin bytes spans → Begun bytes n (words_at bytes spans) rest
    → Begun (bytes ++ piece) n (words_at (bytes ++ piece) spans) (rest ++ piece)
begun_further bytes piece n spans rest h b = subst (λ ws. Begun (bytes ++ piece) n ws (rest ++ piece)) (sym (words_stay bytes piece spans h)) (begun_stays bytes n (words_at bytes spans) rest piece b)

pub stands_stays : (bytes piece : List ℕ) (read : ℕ) (spans : List Span) (d : Due) → Stands bytes read spans d → Stands (bytes ++ piece) read spans d
stands_stays bytes piece read spans (due.Count scanned) s = record { start = s.start; none = s.none; header = scanned_stays bytes piece scanned s.header }
stands_stays bytes piece read spans (due.Line scanned) s = record {
  start = s.start;
  none = s.none;
  begun = record { b = s.begun.b; more = s.begun.more ++ piece; first = ap (λ l. l ++ piece) s.begun.first; other = s.begun.other };
  line = line_scanned_stays bytes piece scanned s.line;
}
stands_stays bytes piece read spans (due.Length words scanned) s =
    let rest : drop read (bytes ++ piece) ≡ drop read bytes ++ piece = drop-append-le read bytes piece s.within in
    let w : read ≤ length bytes = s.within in
    record {
      within = omega (arith, length-append bytes piece);
      inside = within_stays bytes piece spans s.inside;
      begun = subst (λ r. Begun (bytes ++ piece) words (words_at (bytes ++ piece) spans) r) (sym rest) (begun_further bytes piece words spans (drop read bytes) s.inside s.begun);
      header = subst (λ r. IsScanned r scanned) (sym rest) (scanned_stays (drop read bytes) piece scanned s.header);
    }
stands_stays bytes piece read spans (due.Body words len) s =
    let rest : drop read (bytes ++ piece) ≡ drop read bytes ++ piece = drop-append-le read bytes piece s.within in
    let w : read ≤ length bytes = s.within in
    let head = header 36 (decimal len) in
    record {
      within = omega (arith, length-append bytes piece);
      inside = within_stays bytes piece spans s.inside;
      small = s.small;
      rest = s.rest ++ piece;
      begun = begun_further bytes piece words spans s.rest s.inside s.begun;
      headed = ap (λ l. l ++ piece) s.headed ∙ append_assoc head (drop read bytes) piece ∙ ap (λ l. head ++ l) (sym rest);
    }

-- nothing is read of some bytes
pub stands_at_start : (bytes : List ℕ) (spans : List Span) → spans ≡ [] → Stands bytes 0 spans (due.Count 0)
stands_at_start bytes spans e = record { start = refl; none = e; header = record { within = omega arith; few = omega arith; plain = tt } }

-- more bytes come to a feeder that lends nothing
pub feeder_fed : (gone base at : ℕ) (bytes piece all : List ℕ) (spans : List Span) (progress : Progress) (ready : Bool) → ready ≡ false → all ≡ bytes ++ piece → gone + length all ≤ 2 ^ 62 →
    IsFeeder gone bytes base at spans progress ready → IsFeeder gone all base at spans progress ready
feeder_fed gone base at bytes piece all spans progress true not is fits h = cc
feeder_fed gone base at bytes piece all spans progress false not is fits h =
    let w : at ≤ length bytes = h.within in
    let n : length all ≡ length bytes + length piece = ap length is ∙ length-append bytes piece in
    let rest : drop at all ≡ drop at bytes ++ piece = ap (drop at) is ∙ drop-append-le at bytes piece h.within in
    record {
      within = omega arith;
      before = h.before;
      fits = fits;
      state = (h.state.0, subst (λ l. Stands l progress.read spans progress.due) (sym rest) (stands_stays (drop at bytes) piece progress.read spans progress.due h.state.1));
    }

-- a piece was appended, or nothing
pub appended : (b : Bool) (old piece new : List ℕ) → new ≡ (if b then old ++ piece else old) → new ≡ old ++ (if b then piece else [])
appended true old piece new e = e
appended false old piece new e = e ∙ sym (append-nil old)

pub appended_fits : (b : Bool) (gone at most : ℕ) (old piece new : List ℕ) → new ≡ (if b then old ++ piece else old) → at ≤ length old
    → gone + at + length (drop at old) + length piece ≤ most → gone + length new ≤ most
appended_fits true gone at most old piece new e w h = omega (arith, ap length e, length-append old piece, length-drop at old)
appended_fits false gone at most old piece new e w h = omega (arith, ap length e, length-drop at old)
