-- What a run is given: what its words ask for, and what stands outside.
use Rattle.std.specs.Prelude.{◌≡◌, ℕ, ◌^◌, ◌-◌, nat_le, List, [], ◌∷◌, map, fold, Option, None, Some, Bool, true, ◌&&◌, ◌==◌}
use Rattle.std.specs.Prelude.{codes, if◌then◌else◌}
use Rattle.std.specs.List.{list_all}
use Rattle.std.specs.Option.{option_map_or}
use Rattle.std.specs.Str.Parse.{digits_value}
use Rattle.clap.specs.Faults.{fault_of}
use Rattle.clap.specs.Simple.{App, on_top, new_app, new_rule, with_rule, matches_of}
use Rattle.clap.specs.ValueTests.{is_numeral}
use Rattle.clap.specs.Walk.{Row, first_of, is_empty}
use Rattle.object_codec.specs.declared.limits.Limits.{Limits}
use Rattle.outside.specs.Clocks.{Answers}
use Rattle.outside.specs.Files.{HostSeen}
use Rattle.outside.specs.Pacing.{PacerSeen}
use Rattle.outside.specs.Streams.{SourceSeen, SinkSeen}

-- the name of the file that is loaded, where there is one; the seed of hashes and random picks; the effort of
-- background work; the limits of packed forms; and how many bytes are taken at most from the input, and from a file
pub record Options : Type 0 where
  pub file : Option (List ℕ)
  pub seed : ℕ
  pub effort : ℕ
  pub limits : Limits
  pub max_input : ℕ

-- wrong words; a run with options; or so many generated commands with them
pub data Given : Type 0 where
  Wrong : Given
  Run : Options → Given
  Generate : ℕ → Options → Given

-- an option that takes a number: its name, the least and the most that it may be, and what it is where the words don't
-- say
pub record Number : Type 0 where
  pub name : List ℕ
  pub least : ℕ
  pub most : ℕ
  pub usual : ℕ

abbrev pub numbered : List ℕ → ℕ → ℕ → ℕ → Number
numbered name least most usual = record { name = name; least = least; most = most; usual = usual }

abbrev pub seed : Number
seed = numbered (codes "seed") 0 (2 ^ 64 - 1) 0

abbrev pub effort : Number
effort = numbered (codes "effort") 0 100 1

abbrev pub max_input : Number
max_input = numbered (codes "max-input") 1 (2 ^ 62) (2 ^ 40)

-- how many commands are generated: 0 where the words don't say
abbrev pub generate : Number
generate = numbered (codes "generate") 1 1000000 0

abbrev pub hash_entries : Number
hash_entries = numbered (codes "hash-max-entries") 0 4096 512

abbrev pub set_entries : Number
set_entries = numbered (codes "set-max-entries") 0 4096 128

abbrev pub zset_entries : Number
zset_entries = numbered (codes "zset-max-entries") 0 4096 128

abbrev pub hash_value : Number
hash_value = numbered (codes "hash-max-value") 0 4096 64

abbrev pub set_value : Number
set_value = numbered (codes "set-max-value") 0 4096 64

abbrev pub zset_value : Number
zset_value = numbered (codes "zset-max-value") 0 4096 64

abbrev pub set_intset : Number
set_intset = numbered (codes "set-max-intset") 0 65536 512

-- those of the limits of packed forms
abbrev pub sizes : List Number
sizes = hash_entries ∷ set_entries ∷ zset_entries ∷ hash_value ∷ set_value ∷ zset_value ∷ set_intset ∷ []

abbrev pub numbers : List Number
numbers = generate ∷ seed ∷ effort ∷ max_input ∷ sizes

-- the name of the option that names a file
abbrev pub load : List ℕ
load = codes "load"

-- a command with one option more, `--name VALUE` or `--name=VALUE`
abbrev pub with_option : App → List ℕ → App
with_option app name = with_rule app (record (new_rule name) { long = Some name })

-- clap's command that has these options and no other argument, and takes the words behind the program's name
abbrev pub command : App
command =
    fold with_option (on_top (λ shape. record shape { no_binary_name = true }) (new_app (codes "redis-core")))
    (load ∷ map (λ number. number.name) numbers)

-- one or more digits, whose number is in the option's range
abbrev pub is_number : Number → List ℕ → Bool
is_number number text =
    is_numeral text && (nat_le number.least (digits_value 10 text) && nat_le (digits_value 10 text) number.most)

-- what the command matched has no number of another form
abbrev pub is_right : List Row → Number → Bool
is_right rows number = option_map_or (is_number number) (first_of number.name rows) true

abbrev pub value_of : List Row → Number → ℕ
value_of rows number = option_map_or (digits_value 10) (first_of number.name rows) number.usual

abbrev pub limits_of : List Row → Limits
limits_of rows = record {
  hash_entries = value_of rows hash_entries;
  set_entries = value_of rows set_entries;
  zset_entries = value_of rows zset_entries;
  hash_value = value_of rows hash_value;
  set_value = value_of rows set_value;
  zset_value = value_of rows zset_value;
  set_intset = value_of rows set_intset;
}

abbrev pub options_of : List Row → Options
options_of rows = record {
  file = first_of load rows;
  seed = value_of rows seed;
  effort = value_of rows effort;
  limits = limits_of rows;
  max_input = value_of rows max_input;
}

-- no file may be named
abbrev pub unnamed : Option (List ℕ) → Given → Given
unnamed None given = given
unnamed (Some name) given = Wrong

-- so many commands are generated, with no file, or none is, and the input is served
abbrev pub asked_for : ℕ → Options → Given
asked_for n options = if n == 0 then Run options else unnamed options.file (Generate n options)

-- what the command matched, where it takes the words
abbrev pub given_of : List Row → Given
given_of rows =
    if list_all (is_right rows) numbers then asked_for (value_of rows generate) (options_of rows) else Wrong

-- what the words behind the program's name ask for: wrong ones are those that the command doesn't take, and those with
-- a wrong number
unfoldable pub given_by : List (List ℕ) → Given
given_by words = if is_empty (fault_of command words) then given_of (matches_of command words) else Wrong

-- the host of files, the input, the output, the notes, the answers of the clock that follow, where they are told, and
-- the pacers, which a run takes
pub record Outside : Type 0 where
  pub host : HostSeen
  pub input : SourceSeen
  pub output : SinkSeen
  pub notes : SinkSeen
  pub clock : Option Answers
  pub pacers : List PacerSeen

-- nothing was touched but the notes and the pacers
abbrev pub LeavesAll : Outside → Outside → Type 0
LeavesAll before after = after ≡ record before { notes = after.notes; pacers = after.pacers }
