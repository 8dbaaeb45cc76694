-- What is read of the words.
use Rattle.std.proofs.Common.{◌≡◌, ℕ, List, true, false, refl, sym, ap, ◌∙◌}
use Rattle.clap.specs.Faults.{fault_of}
use Rattle.clap.specs.Simple.{App, matches_of}
use Rattle.clap.specs.Walk.{Row, is_empty}
use Rattle.program_top.specs.Given.{Wrong}
use Rattle.program_top.specs.WordsRead.{IsPlainCommand, Matches, Refuses}
use Rattle.saving_top.specs.Asked.{Plain, asked_by, asked_of, closing_command}

-- it is known of the command what it takes
pub plain_closing : IsPlainCommand closing_command
plain_closing = record { simple = refl; free = refl }

module _ (app : App) (words : List (List ℕ)) (is : app ≡ closing_command) where
  pub asked_taken : (rows : List Row) → Matches app words rows → asked_by words ≡ asked_of rows
  unfolding asked_by
  asked_taken rows m =
      let same : rows ≡ matches_of closing_command words = m.are ∙ ap (λ a. matches_of a words) is in
      let none : is_empty (fault_of closing_command words) ≡ true = ap (λ a. is_empty (fault_of a words)) (sym is) ∙ m.takes in
      rw (none) (ap asked_of (sym same))

  pub asked_refused : Refuses app words → asked_by words ≡ Plain Wrong
  unfolding asked_by
  asked_refused refuses =
      let some : is_empty (fault_of closing_command words) ≡ false = ap (λ a. is_empty (fault_of a words)) (sym is) ∙ refuses in
      rw (some) refl
