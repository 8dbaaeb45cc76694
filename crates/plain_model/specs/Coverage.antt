-- The guarantee of scans (Redis command reference, "Scan guarantees").
use Rattle.std.specs.Prelude.{◌≡◌, ◌≢◌, ◌<◌, ◌^◌, ℕ, List, [], ◌∷◌, ◌++◌, Option, None, Some, Bool, true, false, Result, Ok, Err}
use Rattle.std.specs.List.{AllByRecursion, Contains}
use Rattle.plain_world.specs.declared.refusal.Refusal.{Refusal}
use Rattle.plain_model.specs.Meant.{meant}
use Rattle.plain_model.specs.Runs.{Turn}
use Rattle.plain_model.specs.Scans.{Sought, Passes, is_in, keys_sought, held_sought, listed, listed_with, paged_as}
use Rattle.plain_model.specs.declared.command.Command.{Command}
use Rattle.plain_model.specs.declared.command.Command.TheVariants.{Strings, Lists, Sets, Hashes, Zsets, Streams, Keys, Connection}
use Rattle.plain_model.specs.declared.keys.KeyCommand.{KeyCommand}
use Rattle.plain_model.specs.declared.keys.KeyCommand.TheVariants.{Scan}
use Rattle.plain_model.specs.declared.set_command.SetCommand.{SetCommand}
use Rattle.plain_model.specs.declared.set_command.SetCommand.TheVariants.{SScan}
use Rattle.plain_model.specs.declared.hash_command.HashCommand.{HashCommand}
use Rattle.plain_model.specs.declared.hash_command.HashCommand.TheVariants.{HScan}
use Rattle.plain_model.specs.declared.zset_command.ZsetCommand.{ZsetCommand}
use Rattle.plain_model.specs.declared.zset_command.ZsetCommand.TheVariants.{ZScan}
use Rattle.plain_world.specs.declared.reply.Part.{Part}

-- a request for a page, whose elements are told alone, or in pairs with what is told of each
pub record ScanCall : Type 0 where
  pub cursor : ℕ
  pub sought : Sought
  pub pairs : Bool

abbrev pub key_scan : ℕ → KeyCommand → Option ScanCall
key_scan number (Scan cursor options) =
    Some (record { cursor = cursor; sought = keys_sought number options; pairs = false })
key_scan number other = None

abbrev pub set_scan : ℕ → SetCommand → Option ScanCall
set_scan number (SScan key cursor options) =
    Some (record { cursor = cursor; sought = held_sought number key options; pairs = false })
set_scan number other = None

abbrev pub hash_scan : ℕ → HashCommand → Option ScanCall
hash_scan number (HScan key cursor options) =
    Some (record { cursor = cursor; sought = held_sought number key options; pairs = true })
hash_scan number other = None

abbrev pub zset_scan : ℕ → ZsetCommand → Option ScanCall
zset_scan number (ZScan key cursor options) =
    Some (record { cursor = cursor; sought = held_sought number key options; pairs = true })
zset_scan number other = None

-- the page that a request asks for, where this database is selected
abbrev pub scan_asked : ℕ → Result Command Refusal → Option ScanCall
scan_asked number (Ok (Strings command)) = None
scan_asked number (Ok (Lists command)) = None
scan_asked number (Ok (Sets command)) = set_scan number command
scan_asked number (Ok (Hashes command)) = hash_scan number command
scan_asked number (Ok (Zsets command)) = zset_scan number command
scan_asked number (Ok (Streams command)) = None
scan_asked number (Ok (Keys command)) = key_scan number command
scan_asked number (Ok (Connection command)) = None
scan_asked number (Err refusal) = None

-- the reply tells the next cursor and the elements of a page
abbrev pub TellsPage : Bool → ℕ → List (List ℕ) → List Part → Type 0
TellsPage false next page reply = reply ≡ paged_as next (listed page)
TellsPage true next page reply = (told : List ℕ → Part) × (reply ≡ paged_as next (listed_with told page))

-- the turn answers a call at this cursor by a page and the next cursor
pub record Reports (sought : Sought) (cursor : ℕ) (turn : Turn) (next : ℕ) (page : List (List ℕ)) : Type 0 where
  pub pairs : Bool
  pub asked : scan_asked turn.seen.selected (meant turn.call.words)
      ≡ Some (record { cursor = cursor; sought = sought; pairs = pairs })
  pub fits : next < 2 ^ 64
  pub reply : TellsPage pairs next page turn.reply

-- A scan from a cursor on, in a stretch of turns: its calls ask for the same, each at the cursor that the one before
-- answered, until one answers 0. Other turns may stand between them.
pub data Chain (sought : Sought) : ℕ → List Turn → List (List (List ℕ)) → Type 0 where
  between : (cursor : ℕ) (turn : Turn) (turns : List Turn) (pages : List (List (List ℕ)))
      → Chain sought cursor turns pages → Chain sought cursor (turn ∷ turns) pages
  more : (cursor next : ℕ) (turn : Turn) (turns : List Turn) (page : List (List ℕ)) (pages : List (List (List ℕ)))
      → Reports sought cursor turn next page → next ≢ 0
      → Chain sought next turns pages → Chain sought cursor (turn ∷ turns) (page ∷ pages)
  last : (cursor : ℕ) (turn : Turn) (page : List (List ℕ)) → Reports sought cursor turn 0 page
      → Chain sought cursor (turn ∷ []) (page ∷ [])

-- one of the pages lists the element
pub record IsReported (pages : List (List (List ℕ))) (element : List ℕ) : Type 0 where
  pub page : List (List ℕ)
  pub one : Contains pages page
  pub lists : Contains page element

-- Every element that passed in the live world of each turn is reported, and none is that was absent from all of them.
pub record Covers (sought : Sought) (stretch : List Turn) (pages : List (List (List ℕ))) : Type 0 where
  pub whole : (element : List ℕ) → AllByRecursion (λ (turn : Turn). Passes turn.seen sought element) stretch
      → IsReported pages element
  pub real : (element : List ℕ)
      → AllByRecursion (λ (turn : Turn). is_in turn.seen sought.target element ≡ false) stretch
      → IsReported pages element → ⊥

-- each complete scan among the turns covers what stayed, whatever stands between its calls, other scans among it
abbrev pub IsCovered : List Turn → Type 0
IsCovered turns =
    (before stretch after : List Turn) (sought : Sought) (pages : List (List (List ℕ)))
    → turns ≡ before ++ (stretch ++ after) → Chain sought 0 stretch pages → Covers sought stretch pages
