-- What the words of a shape tell, by their places. One lemma for each shape, whatever is made of the words.
use Rattle.std.proofs.Math.Nat.{mod-one}
use Rattle.std.proofs.Common.{◌≡◌, ◌≢◌, ℕ, ◌+◌, ◌<◌, ◌≤◌, List, [], ◌∷◌, length, drop, Bool, true, false, Result, Ok, Err, refl, ap, ◌∙◌, arith, add-one, length-drop}
use Rattle.std.specs.Prelude.{◌%◌, ◌-◌, ◌==◌, ◌&&◌, nat_le, if◌then◌else◌}
use Rattle.std.proofs.Math.Seq.{drop-cons}
use Rattle.std.proofs.lemmas.Bool.{eqb-true, leb-true, lt-ltb, eq-eqb}
use Rattle.plain_world.specs.Words.{Words}
use Rattle.std.proofs.lemmas.List.{drop-drop}
use Rattle.plain_model.specs.Shapes.{Kind, Plain, AllTold, told, all_told, and_then, fixed, with_options, NamedOption, options_read}
use Rattle.plain_world.specs.declared.refusal.Refusal.{Refusal}
use Rattle.plain_world.specs.declared.refusal.Refusal.TheVariants.{WrongNumberOfArguments}
use Rattle.plain_model.specs.StringWords.{pairs_of}
use Rattle.command_words.specs.Readings.{word_at, one_and_pairs, one_and_some, some_words, some_pairs}

-- the words from a place on: the one there, and those behind it
pub from_place : (words : Words) (i : ℕ) → i < length words → drop i words ≡ word_at words i ∷ drop (i + 1) words
from_place words i h = rw (add-one, drop-cons words i []) refl

-- what words of these kinds tell that stand from this place on
abbrev pub told_at : (kinds : List Kind) → Words → ℕ → Result (AllTold kinds) Refusal
told_at [] words i = Ok tt
told_at (kind ∷ kinds) words i =
    and_then (told kind (word_at words i)) (λ a. and_then (told_at kinds words (i + 1)) (λ rest. Ok (a, rest)))

pub all_told_at : (kinds : List Kind) (words : Words) (i : ℕ) → length kinds ≤ length (drop i words) → all_told kinds (drop i words) ≡ told_at kinds words i
all_told_at [] words i h = refl
all_told_at (kind ∷ kinds) words i h =
    let within : i < length words = omega (arith, length-drop i words) in
    ap (all_told (kind ∷ kinds)) (from_place words i within)
    ∙ ap (λ r. and_then (told kind (word_at words i)) (λ a. and_then r (λ rest. Ok (a, rest)))) (all_told_at kinds words (i + 1) (omega (arith, length-drop i words, length-drop (i + 1) words)))

both : (a b : Bool) → (a && b) ≡ true → a ≡ true
both true b e = refl
both false b e = cc

module _ {A : Type 0} (kinds : List Kind) (words : Words) (i : ℕ) where
  -- just these words
  pub fixed_at : (make : AllTold kinds → Result A Refusal) → (length (drop i words) == length kinds) ≡ true → fixed kinds make (drop i words) ≡ and_then (told_at kinds words i) make
  fixed_at make e =
      let count : length (drop i words) ≡ length kinds = eqb-true _ _ e in
      ap (λ b. if b then and_then (all_told kinds (drop i words)) make else Err WrongNumberOfArguments) e
      ∙ ap (λ r. and_then r make) (all_told_at kinds words i (omega arith))

  -- these words, and then options
  pub with_options_at : {C : Type 0} (named : List (NamedOption C)) (none : C) (make : AllTold kinds → C → Result A Refusal) → nat_le (length kinds) (length (drop i words)) ≡ true
      → with_options kinds named none make (drop i words) ≡ and_then (told_at kinds words i)
      (λ first. and_then (options_read named none 0 (drop (length kinds) (drop i words))) (make first))
  with_options_at named none make e =
      let many : length kinds ≤ length (drop i words) = leb-true _ _ e in
      ap (λ b. if b then and_then (all_told kinds (drop i words)) (λ first. and_then (options_read named none 0 (drop (length kinds) (drop i words))) (make first)) else Err WrongNumberOfArguments) e
      ∙ ap (λ r. and_then r (λ first. and_then (options_read named none 0 (drop (length kinds) (drop i words))) (make first))) (all_told_at kinds words i many)

-- one or more words behind the name
pub words_kept : (words : Words) → 2 ≤ length words → some_words words ≡ Ok (drop 1 words)
words_kept words many =
    let own = length (drop 1 words) in
    let some : 0 < own = omega (arith, many, length-drop 1 words) in
    rw (lt-ltb 0 own some, eq-eqb ((own - 0) % 1) 0 (mod-one (own - 0))) refl

-- one or more pairs behind the name
pub pairs_kept : (words : Words) → 2 ≤ length words → length words % 2 ≢ 0 → some_pairs words ≡ Ok (pairs_of (drop 1 words))
pairs_kept words many odd =
    let own = length (drop 1 words) in
    let some : 0 < own = omega (arith, many, length-drop 1 words) in
    let even : (own - 0) % 2 ≡ 0 = omega (arith, many, odd, length-drop 1 words) in
    rw (lt-ltb 0 own some, eq-eqb ((own - 0) % 2) 0 even) refl

-- a word behind the name, and one or more behind it
pub one_and_words_kept : (words : Words) → 3 ≤ length words → one_and_some words ≡ Ok (word_at words 1, drop 2 words)
one_and_words_kept words many =
    let own = length (drop 1 words) in
    let some : 1 < own = omega (arith, many, length-drop 1 words) in
    rw (lt-ltb 1 own some, eq-eqb ((own - 1) % 1) 0 (mod-one (own - 1)), all_told_at (Plain ∷ []) words 1 (omega (arith, some)), drop-drop 1 1 words) refl

-- a word behind the name, and one or more pairs behind it
pub one_and_pairs_kept : (words : Words) → 4 ≤ length words → length words % 2 ≢ 1 → one_and_pairs words ≡ Ok (word_at words 1, pairs_of (drop 2 words))
one_and_pairs_kept words many odd =
    let own = length (drop 1 words) in
    let some : 1 < own = omega (arith, many, length-drop 1 words) in
    let even : (own - 1) % 2 ≡ 0 = omega (arith, many, odd, length-drop 1 words) in
    rw (lt-ltb 1 own some, eq-eqb ((own - 1) % 2) 0 even, all_told_at (Plain ∷ []) words 1 (omega (arith, some)), drop-drop 1 1 words) refl
