-- Which databases a command touches, and that there are these.
use Rattle.std.proofs.Common.{◌≡◌, ◌⊎◌, inl, inr, ℕ, ◌<◌, List, Option, Some, None, refl}
use Rattle.std.proofs.lemmas.Bool.{cases_eq}
use Rattle.std.specs.List.{Contains}
use Rattle.held.specs.Scopes.{keys_of}
use Rattle.plain_model.specs.Meant.{IsAsked}
use Rattle.plain_model.specs.declared.command.Command.{Command}
use Rattle.plain_model.specs.declared.command.Command.TheVariants.{Keys, Connection}
use Rattle.plain_model.specs.declared.keys.KeyCommand.{KeyCommand}
use Rattle.plain_model.specs.declared.keys.KeyCommand.TheVariants as keys
use Rattle.plain_model.specs.declared.connection.ConnectionCommand.{ConnectionCommand}
use Rattle.plain_model.specs.declared.connection.ConnectionCommand.TheVariants as connection
use Rattle.keyspace.specs.Scopes.{Scope, Reach, WholeReach, untouched, two_keys, all_keys, everything, number_or, scope_here, scope, key_reach, connection_reach, reach_of, scope_of}
use Rattle.keyspace.specs.Scopes as reach
use Rattle.cmd_keys.specs.Found.{IsDatabase}
use Rattle.cmd_keys.proofs.KeyLemmas.{asked_copy, asked_move}
use Rattle.redis_core.specs.declared.settling.Touched.{Touched}
use Rattle.redis_core.specs.declared.settling.Touched.TheVariants.{Nothing, One, Two, All}
use Rattle.redis_core.specs.Touched.{covers, touched_here, databases, AreDatabases, touched_of}

-- these are the databases that the scope touches, and it writes keys of no others
pub record Fits (scope : Scope) (touched : Touched) : Type 0 where
  pub into : (number : ℕ) → covers touched number → scope.touches number
  pub from : (number : ℕ) → scope.touches number → covers touched number
  pub tight : (number : ℕ) (key : List ℕ) → scope.writes number key → scope.touches number

fits_none : Fits untouched Nothing
fits_none = record { into = λ number h. h; from = λ number h. h; tight = λ number key h. h }

fits_keys : (db : ℕ) (named : List ℕ → Type 0) → Fits (keys_of db named) (One db)
fits_keys db named = record { into = λ number h. h; from = λ number h. h; tight = λ number key h. h.0 }

fits_two : (db : ℕ) (key : List ℕ) (other_db : ℕ) (other : List ℕ) → Fits (two_keys db key other_db other) (Two db other_db)
fits_two db key other_db other = record { into = λ number h. h; from = λ number h. h; tight = λ number k h. elim h [ inl one ↦ inl one.0 | inr two ↦ inr two.0 ] }

fits_both : (db : ℕ) (key other : List ℕ) → Fits (two_keys db key db other) (One db)
fits_both db key other = record {
  into = λ number h. inl h;
  from = λ number h. elim h [ inl one ↦ one | inr two ↦ two ];
  tight = λ number k h. elim h [ inl one ↦ inl one.0 | inr two ↦ inr two.0 ];
}

fits_all : (db : ℕ) → Fits (all_keys db) (One db)
fits_all db = record { into = λ number h. h; from = λ number h. h; tight = λ number key h. absurd h }

fits_everything : Fits everything All
fits_everything = record { into = λ number h. h; from = λ number h. h; tight = λ number key h. absurd h }

-- the scope of what is reached in the selected database touches it, where that is something
fits_here : (db : ℕ) (own : Reach) → Fits (scope_here db own) (touched_here db own)
fits_here db reach.Nothing = fits_none
fits_here db reach.NoKey = fits_keys db (λ other. ⊥)
fits_here db (reach.OneKey key) = fits_keys db (λ other. other ≡ key)
fits_here db (reach.SomeKeys keys) = fits_keys db (Contains keys)
fits_here db (reach.TwoKeys key other) = fits_both db key other

-- the scope of all that is reached touches its databases
fits : (db : ℕ) (whole : WholeReach) → Fits (scope db whole) (databases db whole)
fits db (reach.Here own) = fits_here db own
fits db (reach.Across key number other) = fits_two db key (number_or db number) other
fits db reach.AllKeys = fits_all db
fits db reach.Everything = fits_everything

pub fits_of : (db : ℕ) (command : Command) → Fits (scope_of db command) (touched_of db command)
fits_of db command = fits db (reach_of command)

-- ---- they are databases

-- a database that is named beside the selected one is one of 16
abbrev NamesOne : WholeReach → Type 0
NamesOne (reach.Across key number other) = IsDatabase number
NamesOne other = Unit {0}

one_of_16 : (db : ℕ) → db < 16 → (number : Option ℕ) → IsDatabase number → number_or db number < 16
one_of_16 db below None is = below
one_of_16 db below (Some number) is = is

here_databases : (db : ℕ) → db < 16 → (own : Reach) → AreDatabases (touched_here db own)
here_databases db below reach.Nothing = tt
here_databases db below other = below

whole_databases : (db : ℕ) → db < 16 → (whole : WholeReach) → NamesOne whole → AreDatabases (databases db whole)
whole_databases db below (reach.Here own) named = here_databases db below own
whole_databases db below (reach.Across key number other) named = (below, one_of_16 db below number named)
whole_databases db below reach.AllKeys named = below
whole_databases db below reach.Everything named = tt

-- COPY and MOVE alone name one
keys_name_one : (command : KeyCommand) → IsAsked (Keys command) → NamesOne (key_reach command)
keys_name_one (keys.Copy from to options) asked = asked_copy (keys.Copy from to options) from to options asked refl
keys_name_one (keys.MoveKey key number) asked = asked_move (keys.MoveKey key number) key number asked refl
keys_name_one other asked = tt

-- no command on the connection or the server does; the first line takes them apart, and the last one is checked for each
connection_names_none : (command : ConnectionCommand) → NamesOne (connection_reach command)
connection_names_none connection.DbSize = tt
connection_names_none other = tt

names_one : (command : Command) → IsAsked command → NamesOne (reach_of command)
names_one (Keys command) asked = keys_name_one command asked
names_one (Connection command) asked = connection_names_none command
names_one other asked = tt

pub databases_of : (db : ℕ) → db < 16 → (command : Command) → IsAsked command → AreDatabases (touched_of db command)
databases_of db below command asked = whole_databases db below (reach_of command) (names_one command asked)

-- a database is one of these, or isn't
pub covers_or : (touched : Touched) (number : ℕ) → covers touched number ⊎ (covers touched number → ⊥)
covers_or Nothing number = inr (λ no. no)
covers_or (One db) number = cases_eq number db
covers_or (Two db other) number = elim (cases_eq number db) [
  | inl here ↦ inl (inl here)
  | inr apart ↦ elim (cases_eq number other) [
    | inl there ↦ inl (inr there)
    | inr too ↦ inr (λ both. elim both [ inl here ↦ apart here | inr there ↦ too there ])
  ]
]
covers_or All number = inl tt
