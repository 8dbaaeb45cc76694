-- What reading answers of a word with a number of picks, whatever is made of them.
use Rattle.std.proofs.Common.{◌≡◌, ℕ, List, [], ◌∷◌, drop, Bool, false, Option, Some, Result, Ok, Err, refl, sym, ap, subst, ◌∙◌}
use Rattle.std.specs.Prelude.{ℤ}
use Rattle.std.specs.Result.{MatchResult, IsOkAnd}
use Rattle.plain_world.specs.Words.{Words}
use Rattle.plain_model.specs.Shapes.{Plain, Picks, told, AllTold, and_then, with_options, with_picks, with_picked}
use Rattle.plain_model.specs.declared.command.Command.{Command}
use Rattle.plain_world.specs.declared.refusal.Refusal.{Refusal}
use Rattle.command_words.specs.declared.fault.ReadingFault.{ReadingFault}
use Rattle.command_words.specs.Readings.{Tells, ReadsAs, flag, one_and_picks, one_and_picked}
use Rattle.command_table.proofs.Arms.{made, options_then}

-- a key, and a number of picks or none
module _ {C : Type 0} (family : C → Command) (make : List ℕ → Option ℤ → C) where
  abbrev picking : List ℕ × Option ℤ → Result C Refusal
  picking parts = Ok (make parts.0 parts.1)

  pick_told : (key : List ℕ) (r : Result ℤ Refusal) → and_then r (λ a. Ok (make key (Some a))) ≡ and_then (and_then r (λ a. Ok (key, Some a))) picking
  pick_told key (Ok n) = refl
  pick_told key (Err refusal) = refl

  picks_then : (words : Words) → with_picks make words ≡ and_then (one_and_picks words) picking
  picks_then [] = refl
  picks_then (key ∷ []) = refl
  picks_then (key ∷ n ∷ []) = pick_told key (told Picks n)
  picks_then (key ∷ n ∷ more ∷ words) = refl

  pub picks_made : (words : Words) (first : Result (List ℕ × Option ℤ) ReadingFault) (answer : Result C ReadingFault) → Tells (one_and_picks (drop 1 words)) first
      → MatchResult first (λ a. IsOkAnd answer (λ b. b ≡ make a.0 a.1)) (λ e. answer ≡ Err e) → ReadsAs family (and_then (with_picks make (drop 1 words)) (λ c. Ok (family c))) answer
  picks_made words first answer h m =
      subst (λ r. ReadsAs family (and_then r (λ c. Ok (family c))) answer) (sym (picks_then (drop 1 words)))
      (made family (λ (a : List ℕ × Option ℤ). a) picking (λ a. make a.0 a.1) (λ a. refl) (one_and_picks (drop 1 words)) first answer h m)

-- the same with an option behind the number
module _ {C : Type 0} (family : C → Command) (name : List ℕ) (make : List ℕ → Option ℤ → Bool → C) where
  abbrev Parts : Type 0
  Parts = List ℕ × Option ℤ × Bool

  abbrev parts_of : AllTold (Plain ∷ Picks ∷ []) → Bool → Result Parts Refusal
  parts_of a option = Ok (a.0, Some a.1.0, option)

  abbrev picked_of : Parts → Result C Refusal
  picked_of parts = Ok (make parts.0 parts.1 parts.2)

  abbrev command_of : AllTold (Plain ∷ Picks ∷ []) → Bool → Result C Refusal
  command_of a option = Ok (make a.0 (Some a.1.0) option)

  by_parts : (r : Result (AllTold (Plain ∷ Picks ∷ []) × Bool) Refusal) → and_then r (λ p. command_of p.0 p.1) ≡ and_then (and_then r (λ p. parts_of p.0 p.1)) picked_of
  by_parts (Ok p) = refl
  by_parts (Err refusal) = refl

  picked_then : (words : Words) → with_picked name make words ≡ and_then (one_and_picked (flag name) false words) picked_of
  picked_then [] = refl
  picked_then (key ∷ []) = refl
  picked_then (key ∷ n ∷ words) =
      let both = with_options (Plain ∷ Picks ∷ []) (flag name) false (λ a option. Ok (a, option)) (key ∷ n ∷ words) in
      options_then (Plain ∷ Picks ∷ []) (flag name) false command_of (key ∷ n ∷ words)
      ∙ by_parts both
      ∙ ap (λ r. and_then r picked_of) (sym (options_then (Plain ∷ Picks ∷ []) (flag name) false parts_of (key ∷ n ∷ words)))

  pub picked_made : (words : Words) (first : Result Parts ReadingFault) (answer : Result C ReadingFault) → Tells (one_and_picked (flag name) false (drop 1 words)) first
      → MatchResult first (λ a. IsOkAnd answer (λ b. b ≡ make a.0 a.1 a.2)) (λ e. answer ≡ Err e)
      → ReadsAs family (and_then (with_picked name make (drop 1 words)) (λ c. Ok (family c))) answer
  picked_made words first answer h m =
      subst (λ r. ReadsAs family (and_then r (λ c. Ok (family c))) answer) (sym (picked_then (drop 1 words)))
      (made family (λ (a : Parts). a) picked_of (λ a. make a.0 a.1 a.2) (λ a. refl) (one_and_picked (flag name) false (drop 1 words)) first answer h m)
