-- The words of XADD and XTRIM: options in front, then an id and fields with their values.
use Rattle.std.proofs.Common.{◌≡◌, ℕ, zero, suc, ◌+◌, ◌<◌, ◌≤◌, List, [], ◌∷◌, length, drop, Bool, true, false, Result, Ok, Err, refl, sym, ap, ◌∙◌, arith}
use Rattle.std.proofs.lemmas.List.Sums.{sum_by-cons}
use Rattle.std.specs.Prelude.{sum_by, bytes_eq, codes, ◌%◌, ◌-◌, if◌then◌else◌}
use Rattle.std.proofs.lemmas.List.{drop-drop, drop_all}
use Rattle.plain_world.specs.Words.{Words}
use Rattle.plain_model.specs.Shapes.{Amount, EntryId, told, and_then}
use Rattle.plain_model.specs.StringWords.{pairs_of}
use Rattle.plain_world.specs.declared.refusal.Refusal.TheVariants.{Syntax}
use Rattle.plain_model.specs.StreamWords.{is_mark, own_words, unmarked, first_told, trim_of, is_option, own_of, behind_options, append_option, append_options, pairs_len}
use Rattle.plain_model.specs.declared.stream_command.AppendOptions.{AppendOptions}
use Rattle.plain_model.specs.declared.stream_command.Trim.{Trim}
use Rattle.plain_model.specs.declared.stream_command.Trim.TheVariants.{MaxLen, MinId}
use Rattle.plain_world.specs.declared.refusal.Refusal.{Refusal}
use Rattle.command_words.specs.declared.fault.ReadingFault.{ReadingFault}
use Rattle.command_words.specs.declared.fault.ReadingFault.TheVariants.{Refused, Memory}
use Rattle.command_words.specs.Readings.{word_at, Tells}
use Rattle.command_words.proofs.Shapes.{from_place}

-- ---- a bound that a mark may stand before

-- the bound stands behind a mark, or first
pub unmarked_at : (words : Words) → 0 < length words → own_words words ≤ length words → unmarked words ≡ drop (own_words words - 1) words
unmarked_at [] some enough = absurd (omega (arith, some))
unmarked_at (word ∷ words) some enough =
    elim (is_mark word) as (λ b. (if b then words else word ∷ words) ≡ drop ((if b then 2 else 1) - 1) (word ∷ words)) [
      | true ↦ refl
      | false ↦ refl
    ]

pub unmarked_none : (words : Words) → length words < own_words words → unmarked words ≡ []
unmarked_none [] few = refl
unmarked_none (word ∷ words) few =
    elim (is_mark word) as (λ b. length (word ∷ words) < (if b then 2 else 1) → (if b then words else word ∷ words) ≡ []) [
      | true ↦ λ few. none words (omega (arith, few))
      | false ↦ λ few. absurd (omega (arith, few))
    ] few
  where
    none : (l : Words) → length l ≡ 0 → l ≡ []
    none [] e = refl
    none (a ∷ l) e = absurd (omega (arith, e))

module _ (name : List ℕ) (words : Words) where
  abbrev chosen_of : Words → Bool → Bool → Result Trim Refusal
  chosen_of own max min =
      if max then and_then (first_told Amount own) (λ n. Ok (MaxLen n))
      else (if min then and_then (first_told EntryId own) (λ id. Ok (MinId id)) else Err Syntax)

  abbrev chosen : Bool → Bool → Result Trim Refusal
  chosen max min = chosen_of (unmarked words) max min

  none_chosen : (max min : Bool) → chosen_of [] max min ≡ Err Syntax
  none_chosen true min = refl
  none_chosen false true = refl
  none_chosen false false = refl

  -- no bound
  pub no_bound : unmarked words ≡ [] → trim_of name words ≡ Err Syntax
  no_bound none =
      let max = bytes_eq name (codes "maxlen") in
      let min = bytes_eq name (codes "minid") in
      ap (λ own. chosen_of own max min) none ∙ none_chosen max min

  module _ (all : Words) (at_bound : ℕ) (within : at_bound < length all) (is : unmarked words ≡ drop at_bound all) where
    first : unmarked words ≡ word_at all at_bound ∷ drop (at_bound + 1) all
    first = is ∙ from_place all at_bound within

    pub longest_is : bytes_eq name (codes "maxlen") ≡ true → trim_of name words ≡ and_then (told Amount (word_at all at_bound)) (λ n. Ok (MaxLen n))
    longest_is e = ap (λ b. chosen b (bytes_eq name (codes "minid"))) e ∙ ap (λ own. chosen_of own true (bytes_eq name (codes "minid"))) first

    pub least_is : bytes_eq name (codes "maxlen") ≡ false → bytes_eq name (codes "minid") ≡ true → trim_of name words ≡ and_then (told EntryId (word_at all at_bound)) (λ id. Ok (MinId id))
    least_is e f = ap (λ b. chosen b (bytes_eq name (codes "minid"))) e ∙ ap (chosen false) f ∙ ap (λ own. chosen_of own false true) first

pub told_fails : {A B : Type 0} (first : Result A Refusal) (make : A → B) (fault : ReadingFault) (means : Result B Refusal) → means ≡ and_then first (λ a. Ok (make a))
    → Tells first (Err fault) → Tells means (Err fault)
told_fails first make (Refused refusal) means e h = e ∙ ap (λ r. and_then r (λ a. Ok (make a))) h
told_fails first make Memory means e h = absurd h

-- ---- options in front

-- the words that are an option's own are passed over
behind_skip : (n : ℕ) (words : Words) → behind_options n words ≡ behind_options 0 (drop n words)
behind_skip zero words = refl
behind_skip (suc n) [] = refl
behind_skip (suc n) (word ∷ words) = behind_skip n words

options_skip : (before : AppendOptions) (n : ℕ) (words : Words) → append_options before n words ≡ append_options before 0 (drop n words)
options_skip before zero words = refl
options_skip before (suc n) [] = refl
options_skip before (suc n) (word ∷ words) = options_skip before n words

module _ (words : Words) (i : ℕ) (within : i < length words) where
  abbrev here : List ℕ
  here = word_at words i

  abbrev rest : Words
  rest = drop (i + 1) words

  -- an option is passed over
  pub behind_on : is_option here ≡ true → behind_options 0 (drop i words) ≡ behind_options 0 (drop (i + 1 + own_of here rest) words)
  behind_on is =
      ap (behind_options 0) (from_place words i within)
      ∙ ap (λ b. if b then behind_options (own_of here rest) rest else here ∷ rest) is
      ∙ behind_skip (own_of here rest) rest
      ∙ ap (behind_options 0) (drop-drop (own_of here rest) (i + 1) words)

  -- another word ends them
  pub behind_stop : is_option here ≡ false → behind_options 0 (drop i words) ≡ drop i words
  behind_stop is =
      ap (behind_options 0) (from_place words i within)
      ∙ ap (λ b. if b then behind_options (own_of here rest) rest else here ∷ rest) is
      ∙ sym (from_place words i within)

  module _ (before : AppendOptions) where
    abbrev read : Result AppendOptions Refusal
    read = and_then (append_option before here rest) (λ after. append_options after (own_of here rest) rest)

    first_read : is_option here ≡ true → append_options before 0 (drop i words) ≡ read
    first_read is = ap (append_options before 0) (from_place words i within) ∙ ap (λ b. if b then read else Ok before) is

    -- an option is read
    pub options_on : (after : AppendOptions) → is_option here ≡ true → append_option before here rest ≡ Ok after
        → append_options before 0 (drop i words) ≡ append_options after 0 (drop (i + 1 + own_of here rest) words)
    options_on after is e =
        first_read is
        ∙ ap (λ r. and_then r (λ after. append_options after (own_of here rest) rest)) e
        ∙ options_skip after (own_of here rest) rest
        ∙ ap (append_options after 0) (drop-drop (own_of here rest) (i + 1) words)

    -- an option is refused
    pub options_refused : (fault : ReadingFault) (means : Result AppendOptions Refusal) → means ≡ append_options before 0 (drop i words) → is_option here ≡ true
        → Tells (append_option before here rest) (Err fault) → Tells means (Err fault)
    options_refused (Refused refusal) means h is e = h ∙ first_read is ∙ ap (λ r. and_then r (λ after. append_options after (own_of here rest) rest)) e
    options_refused Memory means h is e = absurd e

    -- another word ends them
    pub options_stop : is_option here ≡ false → append_options before 0 (drop i words) ≡ Ok before
    options_stop is = ap (append_options before 0) (from_place words i within) ∙ ap (λ b. if b then read else Ok before) is

-- no word is left
pub behind_none : (words : Words) (i : ℕ) → length words ≤ i → behind_options 0 (drop i words) ≡ []
behind_none words i over = ap (behind_options 0) (drop_all i words over)

pub options_none : (before : AppendOptions) (words : Words) (i : ℕ) → length words ≤ i → append_options before 0 (drop i words) ≡ Ok before
options_none before words i over = ap (append_options before 0) (drop_all i words over)

-- ---- fields and values

-- words in pairs are as long as the words
pub pairs_words : (words : Words) → length words % 2 ≡ 0 → pairs_len (pairs_of words) ≡ sum_by length words
pairs_words [] even = refl
pairs_words (field ∷ []) even = absurd (omega (arith, even))
pairs_words (field ∷ value ∷ words) even =
    let own = sum_by-cons (λ (pair : List ℕ × List ℕ). length pair.0 + length pair.1) (field, value) (pairs_of words) in
    let first = sum_by-cons {X = List ℕ} length field (value ∷ words) in
    let second = sum_by-cons {X = List ℕ} length value words in
    omega (arith, own, first, second, pairs_words words (omega (arith, even)))

-- the bytes of words from a place on: those of the word there, and of those behind it
pub bytes_on : (words : Words) (i : ℕ) → i < length words → sum_by length (drop i words) ≡ length (word_at words i) + sum_by length (drop (i + 1) words)
bytes_on words i within = ap (sum_by length) (from_place words i within) ∙ sum_by-cons length (word_at words i) (drop (i + 1) words)

pub no_bytes : (words : Words) (i : ℕ) → length words ≤ i → sum_by length (drop i words) ≡ 0
no_bytes words i over = ap (sum_by length) (drop_all i words over)
