-- The two numbers of LIMIT.
use Rattle.std.proofs.Common.{◌≡◌, ℕ, ◌+◌, ◌≤◌, List, [], ◌∷◌, length, drop, length-drop, Bool, true, false, Some, Result, refl, Ok, Err, ap, ◌∙◌, arith}
use Rattle.std.specs.Prelude.{ℤ, nat_le, if◌then◌else◌}
use Rattle.std.proofs.lemmas.Bool.{le-leb}
use Rattle.plain_world.specs.Words.{Words}
use Rattle.plain_model.specs.Shapes.{Whole, told, AllTold, all_told, and_then, NamedOption, option_of, read_option}
use Rattle.plain_model.specs.ZsetWords.{limit_option}
use Rattle.plain_model.specs.declared.zset_command.RangeOptions.{RangeOptions}
use Rattle.plain_model.specs.declared.zset_command.Limit.{Limit}
use Rattle.plain_world.specs.declared.refusal.Refusal.{Refusal}
use Rattle.plain_world.specs.declared.refusal.Refusal.TheVariants.{Syntax}
use Rattle.command_words.specs.declared.fault.ReadingFault.{ReadingFault}
use Rattle.command_words.specs.declared.fault.ReadingFault.TheVariants.{Refused, Memory}
use Rattle.command_words.specs.Readings.{Tells, word_at, own_limit}
use Rattle.command_words.proofs.Shapes.{all_told_at}

abbrev made : AllTold (Whole ∷ Whole ∷ []) → Result Limit Refusal
made own = Ok (record { offset = own.0; count = own.1.0 })

-- what two numbers are as a limit
abbrev pub limit_of : Result ℤ Refusal → Result ℤ Refusal → Result Limit Refusal
limit_of offset count = and_then offset (λ a. and_then count (λ b. Ok (record { offset = a; count = b })))

by_parts : (r s : Result ℤ Refusal) → and_then {A = AllTold (Whole ∷ Whole ∷ [])} (and_then r (λ a. and_then (and_then s (λ b. Ok (b, tt))) (λ rest. Ok (a, rest)))) made ≡ limit_of r s
by_parts (Ok a) (Ok b) = refl
by_parts (Ok a) (Err refusal) = refl
by_parts (Err refusal) s = refl

pub limit_at : (words : Words) (i : ℕ) → i + 3 ≤ length words → own_limit (drop (i + 1) words) ≡ limit_of (told Whole (word_at words (i + 1))) (told Whole (word_at words (i + 2)))
limit_at words i many =
    let own = drop (i + 1) words in
    let test : nat_le 2 (length own) ≡ true = le-leb 2 (length own) (omega (arith, many, length-drop (i + 1) words)) in
    let next : i + 1 + 1 ≡ i + 2 = omega arith in
    ap (λ b. if b then and_then (all_told (Whole ∷ Whole ∷ []) own) made else Err Syntax) test
    ∙ ap (λ r. and_then r made) (all_told_at (Whole ∷ Whole ∷ []) words (i + 1) (omega (arith, many, length-drop (i + 1) words)))
    ∙ by_parts (told Whole (word_at words (i + 1))) (told Whole (word_at words (i + 1 + 1)))
    ∙ ap (λ n. limit_of (told Whole (word_at words (i + 1))) (told Whole (word_at words n))) next

pub limit_made : (words : Words) (i : ℕ) (a b : ℤ) → i + 3 ≤ length words → told Whole (word_at words (i + 1)) ≡ Ok a → told Whole (word_at words (i + 2)) ≡ Ok b
    → own_limit (drop (i + 1) words) ≡ Ok (record { offset = a; count = b })
limit_made words i a b many e f =
    limit_at words i many ∙ ap (λ r. limit_of r (told Whole (word_at words (i + 2)))) e ∙ ap (limit_of (Ok a)) f

pub limit_count_refused : (words : Words) (i : ℕ) (a : ℤ) (fault : ReadingFault) → i + 3 ≤ length words → told Whole (word_at words (i + 1)) ≡ Ok a
    → Tells (told Whole (word_at words (i + 2))) (Err fault) → Tells (own_limit (drop (i + 1) words)) (Err fault)
limit_count_refused words i a (Refused refusal) many e h =
    limit_at words i many ∙ ap (λ r. limit_of r (told Whole (word_at words (i + 2)))) e ∙ ap (limit_of (Ok a)) h
limit_count_refused words i a Memory many e h = absurd h

fails : (before : RangeOptions) (b : Bool) (x : Result (AllTold (Whole ∷ Whole ∷ [])) Refusal) (refusal : Refusal) → (if b then and_then x made else Err Syntax) ≡ Err refusal
    → (if b then and_then {B = RangeOptions × ℕ} x (λ own. Ok (limit_option.sets own before, 2)) else Err Syntax) ≡ Err refusal
fails before true (Ok a) refusal e = absurd (cc e)
fails before true (Err q) refusal e = let same : q ≡ refusal = cc in ap Err same
fails before false x refusal e = let same : Syntax ≡ refusal = cc in ap Err same

-- LIMIT whose numbers are refused is refused
pub limit_refused : (before : RangeOptions) (named : List (NamedOption RangeOptions)) (lower : List ℕ) (words : Words) (fault : ReadingFault) → option_of named lower ≡ Some limit_option
    → Tells (own_limit words) (Err fault) → Tells (read_option before (option_of named lower) words) (Err fault)
limit_refused before named lower words (Refused refusal) e h = ap (λ o. read_option before o words) e ∙ fails before (nat_le 2 (length words)) (all_told (Whole ∷ Whole ∷ []) words) refusal h
limit_refused before named lower words Memory e h = absurd h
