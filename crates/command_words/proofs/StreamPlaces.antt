-- COUNT and STREAMS, and what stands behind them.
use Rattle.std.proofs.Common.{◌≡◌, ℕ, ◌+◌, ◌<◌, ◌≤◌, List, [], ◌∷◌, length, drop, Bool, true, false, Result, Ok, Err, refl, sym, ap, ◌∙◌, arith, length-drop}
use Rattle.std.specs.Prelude.{◌-◌, ◌/◌, ◌%◌, ◌==◌, ℤ, Option, bytes_eq, codes, if◌then◌else◌}
use Rattle.std.proofs.lemmas.Bool.{eq-eqb, ne_eqb}
use Rattle.std.proofs.lemmas.List.{drop-drop}
use Rattle.plain_world.specs.Words.{Words, in_lower_case}
use Rattle.plain_model.specs.Shapes.{Whole, told, and_then}
use Rattle.plain_model.specs.StreamWords.{at_most_or_all, keyed, keys_and_ids, streams_read}
use Rattle.plain_world.specs.declared.refusal.Refusal.{Refusal}
use Rattle.plain_world.specs.declared.refusal.Refusal.TheVariants.{Syntax}
use Rattle.command_words.specs.declared.fault.ReadingFault.{ReadingFault}
use Rattle.command_words.specs.declared.fault.ReadingFault.TheVariants.{Refused, Memory}
use Rattle.command_words.specs.Readings.{word_at, Gathers, Tells}
use Rattle.command_words.proofs.Shapes.{from_place}

abbrev pub Streams : Type 0
Streams = Option ℕ × List (List ℕ × Option (ℕ × ℕ))

module _ (sign : List ℕ) (limit : Option ℕ) (words : Words) (i : ℕ) where
  abbrev word : List ℕ
  word = in_lower_case (word_at words i)

  abbrev next : List ℕ
  next = word_at words (i + 1)

  abbrev rest : Words
  rest = drop (i + 2) words

  -- what keys and ids behind STREAMS are beside this limit
  abbrev pub limited : Result (List (List ℕ × Option (ℕ × ℕ))) Refusal → Result Streams Refusal
  limited list = and_then list (λ l. Ok (limit, l))

  abbrev counted : Result Streams Refusal
  counted = and_then (told Whole next) (λ n. streams_read sign (at_most_or_all n) rest)

  module _ (within : i + 1 < length words) where
    places : drop i words ≡ word_at words i ∷ next ∷ rest
    places =
        let on : i + 1 + 1 ≡ i + 2 = omega arith in
        from_place words i (omega (arith, within)) ∙ ap (λ l. word_at words i ∷ l) (from_place words (i + 1) within) ∙ ap (λ n. word_at words i ∷ next ∷ drop n words) on

    behind : next ∷ rest ≡ drop (i + 1) words
    behind =
        let on : i + 1 + 1 ≡ i + 2 = omega arith in
        ap (λ n. next ∷ drop n words) (sym on) ∙ sym (from_place words (i + 1) within)

    abbrev chosen : Bool → Bool → Result Streams Refusal
    chosen streams count = if streams then limited (keys_and_ids sign (next ∷ rest)) else (if count then counted else Err Syntax)

    read_at : (streams count : Bool) → bytes_eq word (codes "streams") ≡ streams → bytes_eq word (codes "count") ≡ count → streams_read sign limit (drop i words) ≡ chosen streams count
    read_at streams count e f = ap (streams_read sign limit) places ∙ ap (λ b. chosen b (bytes_eq word (codes "count"))) e ∙ ap (chosen streams) f

    -- STREAMS
    pub streams_found : bytes_eq word (codes "streams") ≡ true → streams_read sign limit (drop i words) ≡ limited (keys_and_ids sign (drop (i + 1) words))
    streams_found e = read_at true (bytes_eq word (codes "count")) e refl ∙ ap (λ w. limited (keys_and_ids sign w)) behind

    -- COUNT
    pub count_found : (n : ℤ) → bytes_eq word (codes "streams") ≡ false → bytes_eq word (codes "count") ≡ true → told Whole next ≡ Ok n
        → streams_read sign limit (drop i words) ≡ streams_read sign (at_most_or_all n) rest
    count_found n e f is = read_at false true e f ∙ ap (λ r. and_then r (λ n. streams_read sign (at_most_or_all n) rest)) is

    count_refused : (refusal : Refusal) → bytes_eq word (codes "streams") ≡ false → bytes_eq word (codes "count") ≡ true → told Whole next ≡ Err refusal
        → streams_read sign limit (drop i words) ≡ Err refusal
    count_refused refusal e f is = read_at false true e f ∙ ap (λ r. and_then r (λ n. streams_read sign (at_most_or_all n) rest)) is

    pub count_fails : (fault : ReadingFault) (means : Result Streams Refusal) → means ≡ streams_read sign limit (drop i words) → bytes_eq word (codes "streams") ≡ false
        → bytes_eq word (codes "count") ≡ true → Tells (told Whole next) (Err fault) → Gathers means (Err fault)
    count_fails (Refused refusal) means h e f is = h ∙ count_refused refusal e f is
    count_fails Memory means h e f is = absurd is

    -- another word
    pub neither_found : bytes_eq word (codes "streams") ≡ false → bytes_eq word (codes "count") ≡ false → streams_read sign limit (drop i words) ≡ Err Syntax
    neither_found e f = read_at false false e f

-- fewer than two words are left
pub streams_short : (sign : List ℕ) (limit : Option ℕ) (words : Words) → length words < 2 → streams_read sign limit words ≡ Err Syntax
streams_short sign limit [] few = refl
streams_short sign limit (word ∷ []) few = refl
streams_short sign limit (word ∷ next ∷ words) few = absurd (omega (arith, few))

abbrev pub limited_by : Option ℕ → Result (List (List ℕ × Option (ℕ × ℕ))) Refusal → Result Streams Refusal
limited_by limit list = and_then list (λ l. Ok (limit, l))

-- a list that is gathered, beside a limit
pub limited_list : (limit : Option ℕ) (list : List (List ℕ × Option (ℕ × ℕ))) (means : Result (List (List ℕ × Option (ℕ × ℕ))) Refusal) → Gathers means (Ok list)
    → limited_by limit means ≡ Ok (limit, list)
limited_list limit list means h = ap (limited_by limit) h

pub limited_fails : (limit : Option ℕ) (fault : ReadingFault) (means : Result (List (List ℕ × Option (ℕ × ℕ))) Refusal) (all : Result Streams Refusal) → all ≡ limited_by limit means
    → Gathers means (Err fault) → Gathers all (Err fault)
limited_fails limit (Refused refusal) means all e h = e ∙ ap (limited_by limit) h
limited_fails limit Memory means all e h = ((limit, h.0), e ∙ ap (limited_by limit) h.1)

-- ---- keys and ids

pub halves : (sign : List ℕ) (words : Words) (from left count : ℕ) → left ≡ length words - from → from ≤ length words → left % 2 ≡ 0 → count ≡ left / 2
    → keys_and_ids sign (drop from words) ≡ keyed sign (drop from words) (drop (from + count) words)
halves sign words from left count is within even half =
    let own = drop from words in
    let len : length own ≡ left = length-drop from words ∙ sym is in
    let test : (length own % 2 == 0) ≡ true = eq-eqb (length own % 2) 0 (ap (λ n. n % 2) len ∙ even) in
    let place : drop (length own / 2) own ≡ drop (from + count) words = ap (λ n. drop n own) (ap (λ n. n / 2) len ∙ sym half) ∙ drop-drop count from words in
    ap (λ b. if b then keyed sign own (drop (length own / 2) own) else Err Syntax) test ∙ ap (keyed sign own) place

pub odd_refused : (sign : List ℕ) (words : Words) (from left : ℕ) → left ≡ length words - from → ◌≡◌ (left % 2) 1 → keys_and_ids sign (drop from words) ≡ Err Syntax
odd_refused sign words from left is odd =
    let own = drop from words in
    let len : length own ≡ left = length-drop from words ∙ sym is in
    ap (λ b. if b then keyed sign own (drop (length own / 2) own) else Err Syntax) (ne_eqb (length own % 2) 0 (λ even. omega (arith, even, odd, ap (λ n. n % 2) len)))
