-- What may have been written.
use Rattle.std.specs.Prelude.{◌≡◌, ◌⊎◌, ℕ, List, [], map, Option, None, Some, true, Result, Ok, Err}
use Rattle.std.specs.List.{Contains}
use Rattle.plain_world.specs.Words.{Words}
use Rattle.plain_world.specs.declared.refusal.Refusal.{Refusal}
use Rattle.plain_model.specs.Meant.{meant}
use Rattle.plain_model.specs.declared.command.Command.{Command}
use Rattle.written_keys.specs.Written.{Place, at, places, emptied, IsEmptied}
use Rattle.written_keys.specs.declared.emptying.Emptied.{Emptied}
use Rattle.written_keys.specs.declared.emptying.Emptied.TheVariants.{Nothing}
use Rattle.session_desk.specs.declared.answering.Ran.{Ran}
use Rattle.session_desk.specs.declared.answering.Ran.TheVariants as ran
use Rattle.session_desk.specs.declared.writing.Written.{Written}
use Rattle.session_desk.specs.declared.naming.Names.{Names}
use Rattle.stream_groups.specs.Kept.{Name, bytes_of}
use Rattle.request_queue.specs.Queued.{AreQueued}

-- by words that are refused nothing is
abbrev pub places_meant : ℕ → Result Command Refusal → List Place
places_meant db (Ok command) = places db command
places_meant db (Err refusal) = []

abbrev pub emptied_meant : Result Command Refusal → Emptied
emptied_meant (Ok command) = emptied command
emptied_meant (Err refusal) = Nothing

-- a key of a database is one of these places, or the database one that was emptied
abbrev pub IsIn : List Place → Emptied → ℕ → ℕ → List ℕ → Type 0
IsIn list emptied selected db key = Contains list (at db key) ⊎ IsEmptied emptied selected db

-- names as std keeps them
abbrev pub texts_of : List Name → List (List ℕ)
texts_of names = map bytes_of names

abbrev pub IsAmong : Written → ℕ → List ℕ → Type 0
IsAmong written db key =
    IsIn written.places.items written.emptied written.selected db key ⊎ Contains (texts_of written.names.items) key

-- what words may write, where a database is selected
abbrev pub IsMeant : ℕ → Words → ℕ → List ℕ → Type 0
IsMeant selected words db key = IsIn (places_meant selected (meant words)) (emptied_meant (meant words)) selected db key

-- one of these requests may write it, in whatever database it is run
pub record MayWrite (asked : List Words) (db : ℕ) (key : List ℕ) : Type 0 where
  pub words : Words
  pub is : Contains asked words
  pub selected : ℕ
  pub writes : IsMeant selected words db key

-- one of the queued requests whose bytes are these
pub record QueueWrites (kept : List (List ℕ)) (db : ℕ) (key : List ℕ) : Type 0 where
  pub asked : List Words
  pub are : AreQueued kept asked
  pub may : MayWrite asked db key

-- one of a queue; where none is told, any place
abbrev pub SomeWrite : Option (List (List ℕ)) → ℕ → List ℕ → Type 0
SomeWrite None db key = Unit {0}
SomeWrite (Some kept) db key = QueueWrites kept db key

-- what was run may have written a key of a database: nothing, these words with a database selected, or queued requests
abbrev pub MayHaveWritten : Ran → ℕ → Words → Option (List (List ℕ)) → ℕ → List ℕ → Type 0
MayHaveWritten ran.Nothing selected words queue db key = ⊥
MayHaveWritten ran.Request selected words queue db key = IsMeant selected words db key
MayHaveWritten ran.Queue selected words queue db key = SomeWrite queue db key

-- ---- names that are gathered

-- a key is among them, or one of the requests empties a database
abbrev pub IsNamed : Names → List ℕ → Type 0
IsNamed names key = (names.empties ≡ true) ⊎ Contains (texts_of names.keys.items) key

-- those of one request are gathered
pub record Gathers (old : Names) (words : Words) (new : Names) : Type 0 where
  pub kept : (key : List ℕ) → IsNamed old key → IsNamed new key
  pub named : (selected db : ℕ) (key : List ℕ) → IsMeant selected words db key → IsNamed new key
