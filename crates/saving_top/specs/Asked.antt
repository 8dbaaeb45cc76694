-- What the words ask for, where more may be done behind a serving.
use Rattle.std.specs.Prelude.{ℕ, List, Bool, true, false, Option, None, Some, bytes_eq, codes, if◌then◌else◌}
use Rattle.std.specs.Option.{option_map_or}
use Rattle.clap.specs.Faults.{fault_of}
use Rattle.clap.specs.Simple.{App, matches_of, new_rule, with_rule}
use Rattle.clap.specs.Walk.{Row, first_of, is_empty}
use Rattle.clap.specs.declared.builder.action.ArgAction.TheVariants.{SetTrue}
use Rattle.program_top.specs.Given.{Options, Given, Wrong, Run, Generate, command, given_of, with_option}

-- what is done behind a serving that ended with status 0: whether the slabs are told, and the name of the file that the world
-- is saved in, where there is one
pub record Closing : Type 0 where
  pub audit : Bool
  pub save : Option (List ℕ)

-- what is asked for where nothing is done; or a run with options, and what is done behind it
pub data Asked : Type 0 where
  Plain : Given → Asked
  Closed : Options → Closing → Asked

-- the name of the option that names the file that is written
abbrev pub save : List ℕ
save = codes "save"

-- the name of the flag that asks for the slabs
abbrev pub audit : List ℕ
audit = codes "audit"

-- a command with a flag more, `--name`
abbrev pub with_flag : App → List ℕ → App
with_flag app name = with_rule app (record (new_rule name) { long = Some name; action = Some SetTrue })

-- the command of runs behind which nothing is done, with both more
abbrev pub closing_command : App
closing_command = with_flag (with_option command save) audit

-- a run is closed so, and nothing else may be
abbrev pub closed_by : Closing → Given → Asked
closed_by closing Wrong = Plain Wrong
closed_by closing (Run options) = Closed options closing
closed_by closing (Generate n options) = Plain Wrong

abbrev pub maybe_closed : Bool → Option (List ℕ) → Given → Asked
maybe_closed false None given = Plain given
maybe_closed true None given = closed_by (record { audit = true; save = None }) given
maybe_closed audit (Some name) given = closed_by (record { audit = audit; save = Some name }) given

-- the flag is among what the command matched
abbrev pub is_flagged : List Row → Bool
is_flagged rows = option_map_or (λ text. bytes_eq text (codes "true")) (first_of audit rows) false

-- what the command matched, where it takes the words
abbrev pub asked_of : List Row → Asked
asked_of rows = maybe_closed (is_flagged rows) (first_of save rows) (given_of rows)

-- what the words behind the program's name ask for: wrong ones are those that the command doesn't take, those with a wrong
-- number, and a file to be written, or the flag, beside generated commands
unfoldable pub asked_by : List (List ℕ) → Asked
asked_by words =
    if is_empty (fault_of closing_command words) then asked_of (matches_of closing_command words) else Plain Wrong
