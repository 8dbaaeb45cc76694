-- Which databases a command may change, and which tables it leaves settled.
use Rattle.std.specs.Prelude.{◌≡◌, ◌⊎◌, ℕ, ◌<◌, List, Result, Ok, Err}
use Rattle.blocks.specs.Blocks.{Blocks}
use Rattle.rehash_dict.specs.Tables.{IsSettled}
use Rattle.rehash_dict.specs.Table.{Table, tables}
use Rattle.rehash_dict.specs.Keyed.{Stands, Lacks}
use Rattle.held.specs.Databases.{table_at, deadlines_at}
use Rattle.plain_world.specs.Worlds.{World}
use Rattle.plain_world.specs.declared.refusal.Refusal.{Refusal}
use Rattle.plain_model.specs.declared.command.Command.{Command}
use Rattle.plain_model.specs.declared.command.Command.TheVariants.{Strings, Lists, Sets, Hashes, Zsets, Streams, Keys, Connection}
use Rattle.plain_model.specs.declared.connection.ConnectionCommand.TheVariants as connection
use Rattle.keyspace.specs.Databases.{Bases, Keyspace}
use Rattle.keyspace.specs.Shown.{Shows}
use Rattle.keyspace.specs.Forms.{Unwritten, Formed, FormedBy}
use Rattle.cmd_keys.specs.Found as found
use Rattle.plain_model.specs.declared.ctx.Ctx.{Ctx}
use Rattle.plain_world.specs.declared.reply.Part.{Part}
use Rattle.keyspace.specs.Scopes.{Scope, Reach, WholeReach, untouched, number_or, reach_of, scope_of}
use Rattle.keyspace.specs.Scopes as reach
use Rattle.redis_core.specs.declared.settling.Touched.{Touched}
use Rattle.redis_core.specs.declared.settling.Touched.TheVariants.{Nothing, One, Two, All}

-- ---- which databases a command may change

-- the database is one of these
abbrev pub covers : Touched → ℕ → Type 0
covers Nothing number = ⊥
covers (One db) number = number ≡ db
covers (Two db other) number = (number ≡ db) ⊎ (number ≡ other)
covers All number = Unit {0}

-- each of these is a database
abbrev pub AreDatabases : Touched → Type 0
AreDatabases Nothing = Unit {0}
AreDatabases (One db) = db < 16
AreDatabases (Two db other) = (db < 16) × (other < 16)
AreDatabases All = Unit {0}

-- the selected database, if a command may change something in it
abbrev pub touched_here : ℕ → Reach → Touched
touched_here db reach.Nothing = Nothing
touched_here db other = One db

-- the databases of what a command may change
abbrev pub databases : ℕ → WholeReach → Touched
databases db (reach.Here own) = touched_here db own
databases db (reach.Across key number other) = Two db (number_or db number)
databases db reach.AllKeys = One db
databases db reach.Everything = All

abbrev pub touched_of : ℕ → Command → Touched
touched_of db command = databases db (reach_of command)

-- calls of `shrink` alone, in these databases
abbrev pub shrinking : Touched → Scope
shrinking touched = record { touches = covers touched; writes = λ number key. ⊥; empties = λ number. ⊥ }

-- ---- what a request may change

-- what a request but DEBUG may change, where this database is selected; one that is refused changes nothing
abbrev pub scope_meant : ℕ → Result Command Refusal → Scope
scope_meant db (Ok command) = scope_of db command
scope_meant db (Err refusal) = untouched

-- how a request leaves the encodings of values
abbrev pub FormedMeant : {S : Type 0} → (S → Blocks) → ℕ → World → Result Command Refusal → List Part → Keyspace S → Keyspace S → Type 0
FormedMeant blocks db world (Ok command) reply old new = FormedBy blocks db world command reply old new
FormedMeant blocks db world (Err refusal) reply old new = Formed blocks Unwritten old new

-- the command runs over the keyspace alone, and what it may answer is one outcome in the world
abbrev pub IsCommon : Command → Type 0
IsCommon (Strings command) = Unit {0}
IsCommon (Lists command) = Unit {0}
IsCommon (Sets command) = Unit {0}
IsCommon (Hashes command) = Unit {0}
IsCommon (Zsets command) = Unit {0}
IsCommon (Streams command) = Unit {0}
IsCommon (Keys command) = Unit {0}
IsCommon (Connection command) = found.IsCommon command

-- it makes no steps of its own
abbrev pub MakesNoSteps : Command → Type 0
MakesNoSteps (Connection (connection.DebugRehash n)) = ⊥
MakesNoSteps (Connection (connection.DebugDefrag n)) = ⊥
MakesNoSteps other = Unit {0}

-- it moves no block
abbrev pub MovesNone : Command → Type 0
MovesNone (Connection (connection.DebugDefrag n)) = ⊥
MovesNone other = Unit {0}

-- the same of what words mean
abbrev pub AsksNoSteps : Result Command Refusal → Type 0
AsksNoSteps (Ok command) = MakesNoSteps command
AsksNoSteps (Err refusal) = Unit {0}

abbrev pub AsksNoMoves : Result Command Refusal → Type 0
AsksNoMoves (Ok command) = MovesNone command
AsksNoMoves (Err refusal) = Unit {0}

-- ---- what a reply shows of the tables and values

-- the same of what words mean: a refusal shows nothing
abbrev pub ShowsMeant : {S : Type 0} → (S → Blocks) → Keyspace S → Keyspace S → Ctx → Result Command Refusal
    → List Part → Type 0
ShowsMeant blocks old new at (Ok command) reply = Shows blocks old new at command reply
ShowsMeant blocks old new at (Err refusal) reply = Unit {0}

-- ---- which tables are settled

-- a key that stood in the table stands there no more
pub record Lost {V : Type 0} (m after : Blocks) (old new : Table V) : Type 0 where
  pub key : List ℕ
  pub at : ℕ
  pub stood : Stands m old at key
  pub gone : Lacks after new key

-- Each table that lost a key is settled: a rehash is going on in it, or it has no more than 4 buckets, or a tenth of
-- its buckets' number of elements at least.
pub record Settles (old new : Bases) (m after : Blocks) : Type 0 where
  pub keys : (db : ℕ) → Lost m after (table_at old db) (table_at new db) → IsSettled (tables (table_at new db))
  pub deadlines : (db : ℕ) → Lost m after (deadlines_at old db).table (deadlines_at new db).table
      → IsSettled (tables (deadlines_at new db).table)
