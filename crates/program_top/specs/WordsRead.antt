-- What the code reads of the words, as what is given.
use Rattle.std.specs.Prelude.{◌≡◌, ◌^◌, ◌≤◌, ℕ, List, Some, None, true, false}
use Rattle.clap.specs.Faults.{fault_of, is_simple_and_free}
use Rattle.clap.specs.Simple.{App, is_simple, matches_of}
use Rattle.clap.specs.Walk.{Row, is_empty}
use Rattle.object_codec.specs.Limits.{AreInRange}
use Rattle.program_top.specs.Given.{Number, numbered, Options, Given, Wrong, Run, Generate}
use Rattle.program_top.specs.declared.words as words
use Rattle.program_top.specs.declared.words.Given.TheVariants as read

-- an option of the code's table
abbrev pub number_read : words.Number.Number → Number
number_read number = numbered number.name.now number.least number.most number.usual

-- what was read of the words
abbrev pub options_read : words.Options.Options → Options
options_read options = record {
  file = elim options.file [ None ↦ None | Some name ↦ Some name.now ];
  seed = options.seed;
  effort = options.effort;
  limits = options.limits;
  max_input = options.max_input;
}

abbrev pub given_read : words.Given.Given → Given
given_read read.Wrong = Wrong
given_read (read.Run options) = Run (options_read options)
given_read (read.Generate count options) = Generate count (options_read options)

-- what is read of words is in range
abbrev pub AreUsable : words.Options.Options → Type 0
AreUsable options = AreInRange options.limits × (options.max_input ≤ 2 ^ 62)

abbrev pub AreTaken : words.Given.Given → Type 0
AreTaken read.Wrong = Unit {0}
AreTaken (read.Run options) = AreUsable options
AreTaken (read.Generate count options) = AreUsable options

-- a command of which it is known what it takes, and what it refuses
pub record IsPlainCommand (app : App) : Type 0 where
  pub simple : is_simple app ≡ true
  pub free : is_simple_and_free app ≡ true

-- a command takes the words, and matches these rows
pub record Matches (app : App) (words : List (List ℕ)) (rows : List Row) : Type 0 where
  pub takes : is_empty (fault_of app words) ≡ true
  pub are : rows ≡ matches_of app words

-- a command doesn't take the words
abbrev pub Refuses : App → List (List ℕ) → Type 0
Refuses app words = is_empty (fault_of app words) ≡ false
