-- The keys that a command writes, whichever database is selected.
use Rattle.std.proofs.Common.{◌≡◌, ℕ, List, [], ◌∷◌, map, refl, ap}
use Rattle.plain_world.specs.Words.{Words}
use Rattle.plain_model.specs.StreamSteps.{Asked}
use Rattle.plain_model.specs.declared.command.Command.{Command}
use Rattle.plain_model.specs.declared.command.Command.TheVariants.{Strings, Lists, Sets, Hashes, Zsets, Streams, Keys, Connection}
use Rattle.plain_model.specs.declared.command.StringCommand.{StringCommand}
use Rattle.plain_model.specs.declared.command.StringCommand.TheVariants as strings
use Rattle.plain_model.specs.declared.list_command.ListCommand.{ListCommand}
use Rattle.plain_model.specs.declared.list_command.ListCommand.TheVariants as lists
use Rattle.plain_model.specs.declared.set_command.SetCommand.{SetCommand}
use Rattle.plain_model.specs.declared.set_command.SetCommand.TheVariants as sets
use Rattle.plain_model.specs.declared.hash_command.HashCommand.{HashCommand}
use Rattle.plain_model.specs.declared.hash_command.HashCommand.TheVariants as hashes
use Rattle.plain_model.specs.declared.zset_command.ZsetCommand.{ZsetCommand}
use Rattle.plain_model.specs.declared.zset_command.ZsetCommand.TheVariants as zsets
use Rattle.plain_model.specs.declared.stream_command.StreamCommand.{StreamCommand}
use Rattle.plain_model.specs.declared.stream_command.StreamCommand.TheVariants as streams
use Rattle.plain_model.specs.declared.keys.KeyCommand.{KeyCommand}
use Rattle.plain_model.specs.declared.keys.KeyCommand.TheVariants as keys
use Rattle.written_keys.specs.Written.{key_of, at, each_at, firsts_at, asked_at, string_places, list_places, set_places, hash_places, zset_places, stream_places, key_places, places}

module _ (a b : ℕ) where
  same_each : (words : Words) → map key_of (each_at a words) ≡ map key_of (each_at b words)
  same_each [] = refl
  same_each (word ∷ words) = ap (λ l. word ∷ l) (same_each words)

  same_firsts : (pairs : List (List ℕ × List ℕ)) → map key_of (firsts_at a pairs) ≡ map key_of (firsts_at b pairs)
  same_firsts [] = refl
  same_firsts (pair ∷ pairs) = ap (λ l. pair.0 ∷ l) (same_firsts pairs)

  same_asked : (asked : List Asked) → map key_of (asked_at a asked) ≡ map key_of (asked_at b asked)
  same_asked [] = refl
  same_asked (one ∷ asked) = ap (λ l. one.0 ∷ l) (same_asked asked)

  of_strings : (command : StringCommand) → map key_of (string_places a command) ≡ map key_of (string_places b command)
  of_strings (strings.MSet pairs) = same_firsts pairs
  of_strings (strings.MSetNx pairs) = same_firsts pairs
  of_strings other = refl

  of_lists : (command : ListCommand) → map key_of (list_places a command) ≡ map key_of (list_places b command)
  of_lists (lists.LLen key) = refl
  of_lists other = refl

  of_sets : (command : SetCommand) → map key_of (set_places a command) ≡ map key_of (set_places b command)
  of_sets (sets.SCard key) = refl
  of_sets other = refl

  of_hashes : (command : HashCommand) → map key_of (hash_places a command) ≡ map key_of (hash_places b command)
  of_hashes (hashes.HLen key) = refl
  of_hashes other = refl

  of_zsets : (command : ZsetCommand) → map key_of (zset_places a command) ≡ map key_of (zset_places b command)
  of_zsets (zsets.ZCard key) = refl
  of_zsets other = refl

  of_streams : (command : StreamCommand) → map key_of (stream_places a command) ≡ map key_of (stream_places b command)
  of_streams (streams.XReadGroup name consumer limit asked) = same_asked asked
  of_streams other = refl

  of_keys : (command : KeyCommand) → map key_of (key_places a command) ≡ map key_of (key_places b command)
  of_keys (keys.Del words) = same_each words
  of_keys (keys.Unlink words) = same_each words
  of_keys other = refl

  pub same_keys : (command : Command) → map key_of (places a command) ≡ map key_of (places b command)
  same_keys (Strings command) = of_strings command
  same_keys (Lists command) = of_lists command
  same_keys (Sets command) = of_sets command
  same_keys (Hashes command) = of_hashes command
  same_keys (Zsets command) = of_zsets command
  same_keys (Streams command) = of_streams command
  same_keys (Keys command) = of_keys command
  same_keys (Connection command) = refl
