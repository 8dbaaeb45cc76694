-- A step of short words leaves a fit world, and so does a run.
use Rattle.std.proofs.Common.{◌≡◌, ℕ, List, [], ◌∷◌, ◌++◌, map, Result, Ok, Err, refl}
use Rattle.std.specs.Prelude.{bytes_eq}
use Rattle.std.specs.List.{AllByRecursion}
use Rattle.plain_world.specs.Words.{in_lower_case}
use Rattle.plain_world.specs.Worlds.{World, no_keys, live}
use Rattle.plain_world.specs.declared.refusal.Refusal.{Refusal}
use Rattle.plain_world.specs.declared.reply.Part.{Part}
use Rattle.plain_model.specs.Shapes.{Row}
use Rattle.plain_model.specs.StringWords.{string_rows}
use Rattle.plain_model.specs.ListWords.{list_rows}
use Rattle.plain_model.specs.SetWords.{set_rows}
use Rattle.plain_model.specs.HashWords.{hash_rows}
use Rattle.plain_model.specs.ZsetWords.{zset_rows}
use Rattle.plain_model.specs.StreamWords.{stream_rows}
use Rattle.plain_model.specs.KeyWords.{key_rows}
use Rattle.plain_model.specs.ConnectionWords.{connection_rows}
use Rattle.plain_model.specs.ConnectionSteps.{connection_outcome, may_connection}
use Rattle.plain_model.specs.Meant.{of_family, rows, read_by, meant}
use Rattle.plain_model.specs.Steps.{may}
use Rattle.plain_model.specs.declared.command.Command.{Command}
use Rattle.plain_model.specs.declared.command.Command.TheVariants.{Strings, Lists, Sets, Hashes, Zsets, Streams, Keys, Connection}
use Rattle.plain_model.specs.declared.connection.ConnectionCommand.{ConnectionCommand}
use Rattle.plain_model.specs.declared.connection.ConnectionCommand.TheVariants as connection
use Rattle.plain_model.proofs.Asked.{FitsCommand, command_fits}
use Rattle.plain_model.proofs.Led.{Leads, led}
use Rattle.plain_model.proofs.Told.{then_told, if_has, made}
use Rattle.fit_worlds.specs.Fit.{IsFitKey, IsFit}
use Rattle.fit_worlds.specs.Laws.{StepsKeepFit, RunsKeepFit}
use Rattle.fit_worlds.proofs.Maps.{each_empty}
use Rattle.fit_worlds.proofs.Told.{RowKeeps, ReadingKeeps}
use Rattle.fit_worlds.proofs.Strings.{ShortStrings, string_rows_short, strings_fit}
use Rattle.fit_worlds.proofs.Lists.{ShortLists, list_rows_short, lists_fit}
use Rattle.fit_worlds.proofs.Sets.{ShortSets, set_rows_short, sets_fit}
use Rattle.fit_worlds.proofs.Hashes.{ShortHashes, hash_rows_short, hashes_fit}
use Rattle.fit_worlds.proofs.Zsets.{ShortZsets, zset_rows_short, zsets_fit}
use Rattle.fit_worlds.proofs.Streams.{ShortStreams, stream_rows_short, streams_fit}
use Rattle.fit_worlds.proofs.Keys.{ShortKeys, key_rows_short, keys_fit}
use Rattle.fit_worlds.proofs.Worlds.{fit_with, fit_selecting, fit_live, fit_outcome, same_fit}

-- ---- words

-- what a command of any family writes is short
abbrev ShortCommand : Command → Type 0
ShortCommand (Strings c) = ShortStrings c
ShortCommand (Lists c) = ShortLists c
ShortCommand (Sets c) = ShortSets c
ShortCommand (Hashes c) = ShortHashes c
ShortCommand (Zsets c) = ShortZsets c
ShortCommand (Streams c) = ShortStreams c
ShortCommand (Keys c) = ShortKeys c
ShortCommand (Connection c) = Unit {0}

-- a family's row among all rows
one_short : {A : Type 0} (family : A → Command) (P : A → Type 0) → ((a : A) → P a → ShortCommand (family a)) → (row : Row A) → RowKeeps P row → RowKeeps ShortCommand (of_family family row)
one_short family P fits row h words short c e =
    then_told ShortCommand (row.read words) (λ command. Ok (family command)) (λ a is b. made ShortCommand (family a) b (fits a (h words short a is))) c e

-- a family's rows, and the others behind them
family_short : {A : Type 0} (family : A → Command) (P : A → Type 0) → ((a : A) → P a → ShortCommand (family a)) → (own : List (Row A)) → AllByRecursion (RowKeeps P) own
    → (others : List (Row Command)) → AllByRecursion (RowKeeps ShortCommand) others → AllByRecursion (RowKeeps ShortCommand) (map (of_family family) own ++ others)
family_short family P fits [] h others k = k
family_short family P fits (row ∷ own) h others k = (one_short family P fits row h.0, family_short family P fits own h.1 others k)

-- rows of commands that write no text
last_short : (own : List (Row ConnectionCommand)) → AllByRecursion (RowKeeps ShortCommand) (map (of_family Connection) own)
last_short [] = tt
last_short (row ∷ own) = (one_short Connection (λ c. Unit {0}) (λ c h. tt) row (λ words short c e. tt), last_short own)

rows_short : AllByRecursion (RowKeeps ShortCommand) rows
rows_short =
    let last = map (of_family Connection) connection_rows in
    let keys = map (of_family Keys) key_rows ++ last in
    let streams = map (of_family Streams) stream_rows ++ keys in
    let zsets = map (of_family Zsets) zset_rows ++ streams in
    let hashes = map (of_family Hashes) hash_rows ++ zsets in
    let sets = map (of_family Sets) set_rows ++ hashes in
    let lists = map (of_family Lists) list_rows ++ sets in
    family_short Strings ShortStrings (λ c h. h) string_rows string_rows_short lists
    (family_short Lists ShortLists (λ c h. h) list_rows list_rows_short sets
    (family_short Sets ShortSets (λ c h. h) set_rows set_rows_short hashes
    (family_short Hashes ShortHashes (λ c h. h) hash_rows hash_rows_short zsets
    (family_short Zsets ShortZsets (λ c h. h) zset_rows zset_rows_short streams
    (family_short Streams ShortStreams (λ c h. h) stream_rows stream_rows_short keys
    (family_short Keys ShortKeys (λ c h. h) key_rows key_rows_short last (last_short connection_rows)))))))

found_short : (all : List (Row Command)) → AllByRecursion (RowKeeps ShortCommand) all → (name : List ℕ) → ReadingKeeps ShortCommand (read_by all name)
found_short [] h name words short c e = cc
found_short (row ∷ all) h name words short c e =
    if_has ShortCommand (bytes_eq name row.name) (row.read words) (read_by all name words) (h.0 words short) (found_short all h.1 name words short) c e

-- what a command writes that short words mean is short
command_short : ReadingKeeps ShortCommand meant
command_short [] short c e = cc
command_short (name ∷ words) short c e = found_short rows rows_short (in_lower_case name) words short.1 c e

-- ---- steps

module _ (old : World) (fit : IsFit old) where
  outcome_fit : (moment : ℕ) (c : ConnectionCommand) → IsFit (connection_outcome moment old c).world
  outcome_fit moment (connection.Select number) = fit_selecting old number fit
  outcome_fit moment connection.FlushDb = fit_with old no_keys fit (each_empty IsFitKey)
  outcome_fit moment connection.FlushAll = record { each = λ number. each_empty IsFitKey }
  outcome_fit moment other = fit

  connection_fit : (moment : ℕ) (c : ConnectionCommand) (reply : List Part) (new : World) → may_connection old moment c reply new → IsFit new
  connection_fit moment connection.MemorySlabs reply new m = same_fit old new fit m.1
  connection_fit moment (connection.DebugRehash n) reply new m = same_fit old new fit m.1
  connection_fit moment (connection.DebugDefrag n) reply new m = same_fit old new fit m.1
  connection_fit moment other reply new m = fit_outcome (connection_outcome moment old other) reply new (outcome_fit moment other) m

  -- a command leaves a fit world
  may_fit : (seed moment : ℕ) (c : Command) → ShortCommand c → FitsCommand c → (reply : List Part) (new : World) → may seed old moment c reply new → IsFit new
  may_fit seed moment (Strings c) short fits reply new m = strings_fit old fit moment c short fits reply new m
  may_fit seed moment (Lists c) short fits reply new m = lists_fit old fit c short reply new m
  may_fit seed moment (Sets c) short fits reply new m = sets_fit seed old fit c short reply new m
  may_fit seed moment (Hashes c) short fits reply new m = hashes_fit seed old fit c short reply new m
  may_fit seed moment (Zsets c) short fits reply new m = zsets_fit seed old fit c short reply new m
  may_fit seed moment (Streams c) short fits reply new m = streams_fit old fit moment c short reply new m
  may_fit seed moment (Keys c) short fits reply new m = keys_fit seed old fit moment c short reply new m
  may_fit seed moment (Connection c) short fits reply new m = connection_fit moment c reply new m

pub steps_fit : StepsKeepFit
steps_fit seed old moment words reply new fit short s = at (meant words) refl (led seed (live old moment) moment (meant words) reply new s)
  where
    at : (asked : Result Command Refusal) → meant words ≡ asked → Leads seed (live old moment) moment reply new asked → IsFit new
    at (Ok c) is m = may_fit (live old moment) (fit_live old moment fit) seed moment c (command_short words short c is) (command_fits words c is) reply new m
    at (Err refusal) is m = same_fit (live old moment) new (fit_live old moment fit) m.1

pub runs_fit : RunsKeepFit
runs_fit seed old [] new fit short is = same_fit old new fit is
runs_fit seed old (turn ∷ turns) new fit short is =
    runs_fit seed is.1 turns new (steps_fit seed old turn.call.moment turn.call.words turn.reply is.1 fit short.0 is.2) short.1 is.3
