-- What rows make of short words: texts that are short, and scores.
use Rattle.std.proofs.Common.{◌≡◌, ℕ, zero, suc, ◌≤◌, ◌+◌, ◌*◌, ◌%◌, ◌/◌, ◌^◌, ◌-◌, ◌==◌, List, [], ◌∷◌, ◌++◌, length, take, drop, Bool, true, false, Result, Ok, Err, Option, Some, None}
use Rattle.std.proofs.Common.{refl, subst, arith}
use Rattle.std.specs.Prelude.{◌&&◌, nat_le, nat_lt, bytes_eq, ℤ, pos, neg_ℤ, if◌then◌else◌}
use Rattle.std.specs.List.{AllByRecursion}
use Rattle.std.specs.Str.Parse.{digits_value}
use Rattle.std.proofs.lemmas.Bool.{leb-true}
use Rattle.int_text.specs.Score.{Number}
use Rattle.int_text.specs.declared.score.ScoreFault.{ScoreFault}
use Rattle.int_text.specs.declared.score.ScoreFault.TheVariants.{Malformed, NotWhole, TooLarge}
use Rattle.plain_world.specs.Words.{Words, in_lower_case}
use Rattle.plain_world.specs.declared.refusal.Refusal.{Refusal}
use Rattle.plain_world.specs.declared.refusal.Refusal.TheVariants.{WrongNumberOfArguments, Syntax}
use Rattle.plain_world.specs.ScoreTexts.{is_infinity_word, is_negative, unsigned, number_in, value_of, with_sign, score_in, score_of}
use Rattle.plain_model.specs.Shapes.{Kind, Plain, Amount, Cursor, Score, Picks, Told, told, AllTold, and_then, score, all_told, Row, fixed, second_read, by_second, repeated, NamedOption}
use Rattle.plain_model.specs.Shapes.{options_read, with_options, with_amount, with_picks, with_picked, counted}
use Rattle.plain_model.specs.KeyWords.{page_options, no_scan_options, page_words}
use Rattle.plain_model.specs.StringWords.{pairs_of}
use Rattle.plain_model.specs.declared.keys.ScanOptions.{ScanOptions}
use Rattle.plain_model.proofs.Told.{then_told, if_has, never, made}
use Rattle.fit_worlds.specs.Fit.{IsShort, AreShort, IsShortPair, IsScore}
use Rattle.fit_worlds.proofs.Each.{each_drop}

-- ---- scores

abbrev ok : ℤ → Result ℤ ScoreFault
ok n = Ok n

-- a magnitude with a sign is a score
signed_score : (negative : Bool) (n : ℕ) → n ≤ 2 ^ 53 → IsScore (if negative then neg_ℤ (pos n) else pos n)
signed_score true zero small = omega arith
signed_score true (suc n) small = small
signed_score false n small = small

-- what is found of a whole number is at most 2^53
whole_small : (over under n : ℕ) → (if over % under == 0 then (if nat_le (over / under) (2 ^ 53) then Ok (over / under) else Err TooLarge) else Err NotWhole) ≡ Ok n → n ≤ 2 ^ 53
whole_small over under n e =
    (elim (over % under == 0) as (λ b. (if b then (if nat_le (over / under) (2 ^ 53) then Ok (over / under) else Err TooLarge) else Err NotWhole) ≡ Ok n → n ≤ 2 ^ 53) [
      | true ↦ small (over / under)
      | false ↦ λ f. cc
    ]) e
  where
    small : (m : ℕ) → (if nat_le m (2 ^ 53) then Ok m else Err TooLarge) ≡ Ok n → n ≤ 2 ^ 53
    small m f =
        (elim (nat_le m (2 ^ 53)) as (λ b. nat_le m (2 ^ 53) ≡ b → (if b then Ok m else Err TooLarge) ≡ Ok n → n ≤ 2 ^ 53) [
          | true ↦ λ within g. let one : m ≡ n = cc in subst (λ k. k ≤ 2 ^ 53) one (leb-true m (2 ^ 53) within)
          | false ↦ λ over g. cc
        ]) refl f

value_small : (number : Number) (n : ℕ) → value_of number ≡ Ok n → n ≤ 2 ^ 53
value_small number n e =
    whole_small (digits_value 10 (number.whole ++ number.fraction) * 10 ^ (if number.divides then 0 else number.power))
    (10 ^ (length number.fraction + (if number.divides then number.power else 0))) n e

sign_told : (negative : Bool) (r : Result ℕ ScoreFault) → ((n : ℕ) → r ≡ Ok n → n ≤ 2 ^ 53) → (z : ℤ) → with_sign negative r ≡ Ok z → IsScore z
sign_told negative (Ok n) small z e = made_score (if negative then neg_ℤ (pos n) else pos n) z (signed_score negative n (small n refl)) e
  where
    made_score : (x z : ℤ) → IsScore x → ok x ≡ ok z → IsScore z
    made_score x z is e = let one : x ≡ z = cc in subst IsScore one is
sign_told negative (Err fault) small z e = cc

in_score : (negative : Bool) (number : Option Number) (z : ℤ) → score_in negative number ≡ Ok z → IsScore z
in_score negative None z e = cc
in_score negative (Some number) z e = sign_told negative (value_of number) (value_small number) z e

-- a text's score is one
pub text_score : (text : List ℕ) (z : ℤ) → score_of text ≡ Ok z → IsScore z
text_score text z e =
    (elim (is_infinity_word (unsigned text)) as (λ b. (if b then Err TooLarge else score_in (is_negative text) (number_in (unsigned text))) ≡ Ok z → IsScore z) [
      | true ↦ λ f. cc
      | false ↦ λ f. in_score (is_negative text) (number_in (unsigned text)) z f
    ]) e

score_told : (r : Result ℤ ScoreFault) → ((z : ℤ) → r ≡ Ok z → IsScore z) → (z : ℤ) → score r ≡ Ok z → IsScore z
score_told (Ok n) is z e = made IsScore n z (is n refl) e
score_told (Err Malformed) is z e = cc
score_told (Err NotWhole) is z e = cc
score_told (Err TooLarge) is z e = cc

-- ---- words of each kind

-- what a word of this kind keeps
abbrev pub Keeps : (kind : Kind) → Told kind → Type 0
Keeps Plain word = IsShort word
Keeps Score n = IsScore n
Keeps other a = Unit {0}

abbrev pub AllKeep : (kinds : List Kind) → AllTold kinds → Type 0
AllKeep [] a = Unit {0}
AllKeep (kind ∷ kinds) a = Keeps kind a.0 × AllKeep kinds a.1

pub told_keeps : (kind : Kind) (word : List ℕ) → IsShort word → (a : Told kind) → told kind word ≡ Ok a → Keeps kind a
told_keeps Plain word short a e = made IsShort word a short e
told_keeps Score word short a e = score_told (score_of word) (text_score word) a e
told_keeps other word short a e = tt

pub all_told_keep : (kinds : List Kind) (words : Words) → AreShort words → (a : AllTold kinds) → all_told kinds words ≡ Ok a → AllKeep kinds a
all_told_keep [] words short a e = tt
all_told_keep (kind ∷ kinds) [] short a e = cc
all_told_keep (kind ∷ kinds) (word ∷ words) short a e =
    then_told (AllKeep (kind ∷ kinds)) (told kind word) (λ x. and_then (all_told kinds words) (λ rest. Ok (x, rest))) (λ x is.
    then_told (AllKeep (kind ∷ kinds)) (all_told kinds words) (λ rest. Ok (x, rest)) (λ rest are b f.
    made (AllKeep (kind ∷ kinds)) (x, rest) b (told_keeps kind word short.0 x is, all_told_keep kinds words short.1 rest are) f)) a e

-- words in pairs
pub pairs_short : (words : Words) → AreShort words → AllByRecursion IsShortPair (pairs_of words)
pairs_short [] short = tt
pairs_short (key ∷ []) short = tt
pairs_short (key ∷ value ∷ words) short = ((short.0, short.1.0), pairs_short words short.1.1)

-- ---- rows

-- proofs of one row after the other
infixr 10 ◌⊗◌
pub ◌⊗◌ : {A B : Type 0} → A → B → A × B
a ⊗ b = (a, b)

-- what this reading makes of short words has the property
abbrev pub ReadingKeeps : {B : Type 0} → (B → Type 0) → (Words → Result B Refusal) → Type 0
ReadingKeeps {B} P read = (words : Words) → AreShort words → (c : B) → read words ≡ Ok c → P c

abbrev pub RowKeeps : {B : Type 0} → (B → Type 0) → Row B → Type 0
RowKeeps P row = ReadingKeeps P row.read

module _ {B : Type 0} (P : B → Type 0) where
  -- just these words
  pub fixed_keeps : (kinds : List Kind) (make : AllTold kinds → Result B Refusal) → ((a : AllTold kinds) → AllKeep kinds a → (c : B) → make a ≡ Ok c → P c) → ReadingKeeps P (fixed kinds make)
  fixed_keeps kinds make h words short c e =
      if_has P (length words == length kinds) (and_then (all_told kinds words) make) (Err WrongNumberOfArguments)
      (then_told P (all_told kinds words) make (λ a is. h a (all_told_keep kinds words short a is))) (never P WrongNumberOfArguments) c e

  pub fixed_makes : (kinds : List Kind) (make : AllTold kinds → B) → ((a : AllTold kinds) → AllKeep kinds a → P (make a)) → ReadingKeeps P (fixed kinds (λ a. Ok (make a)))
  fixed_makes kinds make h = fixed_keeps kinds (λ a. Ok (make a)) (λ a keeps c. made P (make a) c (h a keeps))

  -- these words, and groups of so many
  pub repeated_keeps : (kinds : List Kind) (size : ℕ) (make : AllTold kinds → Words → Result B Refusal)
      → ((a : AllTold kinds) → AllKeep kinds a → (rest : Words) → AreShort rest → (c : B) → make a rest ≡ Ok c → P c) → ReadingKeeps P (repeated kinds size make)
  repeated_keeps kinds size make h words short c e =
      if_has P (nat_lt (length kinds) (length words) && ((length words - length kinds) % size == 0)) (and_then (all_told kinds words) (λ first. make first (drop (length kinds) words)))
      (Err WrongNumberOfArguments)
      (then_told P (all_told kinds words) (λ first. make first (drop (length kinds) words)) (λ a is.
      h a (all_told_keep kinds words short a is) (drop (length kinds) words) (each_drop IsShort (length kinds) words short))) (never P WrongNumberOfArguments) c e

  pub repeated_makes : (kinds : List Kind) (size : ℕ) (make : AllTold kinds → Words → B) → ((a : AllTold kinds) → AllKeep kinds a → (rest : Words) → AreShort rest → P (make a rest))
      → ReadingKeeps P (repeated kinds size (λ a rest. Ok (make a rest)))
  repeated_makes kinds size make h = repeated_keeps kinds size (λ a rest. Ok (make a rest)) (λ a keeps rest short c. made P (make a rest) c (h a keeps rest short))

  -- these words, and options, of which nothing is asked
  pub options_keep : {A : Type 0} (kinds : List Kind) (named : List (NamedOption A)) (start : A) (make : AllTold kinds → A → Result B Refusal)
      → ((a : AllTold kinds) → AllKeep kinds a → (o : A) (c : B) → make a o ≡ Ok c → P c) → ReadingKeeps P (with_options kinds named start make)
  options_keep kinds named start make h words short c e =
      if_has P (nat_le (length kinds) (length words)) (and_then (all_told kinds words) (λ first. and_then (options_read named start 0 (drop (length kinds) words)) (make first)))
      (Err WrongNumberOfArguments)
      (then_told P (all_told kinds words) (λ first. and_then (options_read named start 0 (drop (length kinds) words)) (make first)) (λ a is.
      then_told P (options_read named start 0 (drop (length kinds) words)) (make a) (λ o are. h a (all_told_keep kinds words short a is) o))) (never P WrongNumberOfArguments) c e

  pub options_make : {A : Type 0} (kinds : List Kind) (named : List (NamedOption A)) (start : A) (make : AllTold kinds → A → B)
      → ((a : AllTold kinds) → AllKeep kinds a → (o : A) → P (make a o)) → ReadingKeeps P (with_options kinds named start (λ a o. Ok (make a o)))
  options_make kinds named start make h = options_keep kinds named start (λ a o. Ok (make a o)) (λ a keeps o c. made P (make a o) c (h a keeps o))

  -- the row of a second word
  second_keeps : (rows : List (Row B)) → AllByRecursion (RowKeeps P) rows → (second : List ℕ) → ReadingKeeps P (second_read rows second)
  second_keeps [] h second words short c e = cc
  second_keeps (row ∷ rows) h second words short c e =
      if_has P (bytes_eq (in_lower_case second) row.name) (row.read words) (second_read rows second words) (h.0 words short) (second_keeps rows h.1 second words short) c e

  pub by_second_keeps : (least : ℕ) (rows : List (Row B)) → AllByRecursion (RowKeeps P) rows → ReadingKeeps P (by_second least rows)
  by_second_keeps least rows h [] short c e = cc
  by_second_keeps least rows h (second ∷ words) short c e = if_has P (nat_le least (length (second ∷ words))) (second_read rows second words) (Err WrongNumberOfArguments)
      (second_keeps rows h second words short.1) (never P WrongNumberOfArguments) c e

  -- a key, and a number or none: what is made of any has the property
  pub amount_keeps : (make : List ℕ → Option ℕ → B) → ((key : List ℕ) (n : Option ℕ) → P (make key n)) → ReadingKeeps P (with_amount make)
  amount_keeps make h [] short c e = cc
  amount_keeps make h (key ∷ []) short c e = made P (make key None) c (h key None) e
  amount_keeps make h (key ∷ n ∷ []) short c e = then_told P (told Amount n) (λ a. Ok (make key (Some a))) (λ a is b. made P (make key (Some a)) b (h key (Some a))) c e
  amount_keeps make h (key ∷ n ∷ more ∷ words) short c e = cc

  pub picks_keep : (make : List ℕ → Option ℤ → B) → ((key : List ℕ) (n : Option ℤ) → P (make key n)) → ReadingKeeps P (with_picks make)
  picks_keep make h [] short c e = cc
  picks_keep make h (key ∷ []) short c e = made P (make key None) c (h key None) e
  picks_keep make h (key ∷ n ∷ []) short c e = then_told P (told Picks n) (λ a. Ok (make key (Some a))) (λ a is b. made P (make key (Some a)) b (h key (Some a))) c e
  picks_keep make h (key ∷ n ∷ more ∷ words) short c e = cc

  pub picked_keeps : (name : List ℕ) (make : List ℕ → Option ℤ → Bool → B) → ((key : List ℕ) (n : Option ℤ) (more : Bool) → P (make key n more)) → ReadingKeeps P (with_picked name make)
  picked_keeps name make h [] short c e = cc
  picked_keeps name make h (key ∷ []) short c e = made P (make key None false) c (h key None false) e
  picked_keeps name make h (key ∷ n ∷ words) short c e =
      options_make (Plain ∷ Picks ∷ []) (record { name = name; kinds = []; sets = λ own o. true } ∷ []) false (λ a option. make a.0 (Some a.1.0) option) (λ a keeps o. h a.0 (Some a.1.0) o)
      (key ∷ n ∷ words) short c e

  -- a key, a cursor and options
  pub page_keeps : (make : List ℕ → ℕ → ScanOptions → B) → ((key : List ℕ) (cursor : ℕ) (options : ScanOptions) → P (make key cursor options)) → ReadingKeeps P (page_words make)
  page_keeps make h = options_make (Plain ∷ Cursor ∷ []) page_options no_scan_options (λ a o. make a.0 a.1.0 o) (λ a keeps o. h a.0 a.1.0 o)

  -- so many keys, and what stands behind them
  pub counted_keeps : (make : Words → Words → Result B Refusal) → ((keys rest : Words) (c : B) → make keys rest ≡ Ok c → P c) → (n : ℕ) (words : Words) (c : B)
      → counted make n words ≡ Ok c → P c
  counted_keeps make h n words c e = if_has P (nat_le n (length words)) (make (take n words) (drop n words)) (Err Syntax) (h (take n words) (drop n words)) (never P Syntax) c e
