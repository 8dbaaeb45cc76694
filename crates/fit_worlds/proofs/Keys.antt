-- Commands on keys leave a fit world.
use Rattle.std.proofs.Common.{◌≡◌, ℕ, ◌<◌, ◌^◌, ◌==◌, List, [], ◌∷◌, true, false, Ok, Err, Option, Some, None, refl}
use Rattle.std.specs.Prelude.{◌&&◌, is_some, not, bytes_eq, ℤ, if◌then◌else◌}
use Rattle.std.specs.List.{AllByRecursion}
use Rattle.plain_world.specs.Worlds.{World, Entry, look, put, remove, look_in, put_in}
use Rattle.plain_world.specs.declared.refusal.Refusal.TheVariants.{Syntax, SameSourceAndDestination}
use Rattle.plain_world.specs.declared.reply.Part.{Part}
use Rattle.plain_model.specs.Outcomes.{refused}
use Rattle.plain_model.specs.Deadlines.{from_zero, expire}
use Rattle.plain_model.specs.Shapes.{Plain, Whole, Database, Cursor}
use Rattle.plain_model.specs.KeyWords.{expire_options, no_expire_options, expire_of, expire_words, clash, copy_options, no_copy_options, scan_options, no_scan_options, object_rows, key_rows}
use Rattle.plain_model.specs.KeySteps.{counts, remove_all, permits, expire_where_permitted, expire_outcome, rename, rename_outcome, renamenx_outcome, or_selected, copy, copy_outcome, move}
use Rattle.plain_model.specs.KeySteps.{move_outcome, key_outcome, may_keys}
use Rattle.plain_model.specs.declared.keys.KeyCommand.{KeyCommand}
use Rattle.plain_model.specs.declared.keys.KeyCommand.TheVariants as keys
use Rattle.plain_model.specs.declared.keys.ExpireOptions.{ExpireOptions}
use Rattle.plain_model.specs.declared.keys.CopyOptions.{CopyOptions}
use Rattle.plain_model.specs.declared.times.Time.{Time}
use Rattle.plain_model.specs.declared.times.TimeUnit.TheVariants.{Seconds, Milliseconds}
use Rattle.plain_model.specs.declared.times.TimeOrigin.TheVariants.{Now, Epoch}
use Rattle.plain_model.proofs.Told.{if_has, never, made}
use Rattle.fit_worlds.specs.Fit.{IsShort, IsFitKey, IsFit}
use Rattle.fit_worlds.proofs.Told.{◌⊗◌, RowKeeps, ReadingKeeps, fixed_makes, repeated_makes, options_keep, options_make, by_second_keeps}
use Rattle.fit_worlds.proofs.Worlds.{fit_put, fit_put_in, fit_remove, fit_there, fit_outcome, same_fit}
use Rattle.fit_worlds.proofs.Deadlines.{fit_due, fit_expire, fit_persist}

-- ---- what the words of a command that writes are

abbrev pub ShortKeys : KeyCommand → Type 0
ShortKeys (keys.Rename from to) = IsShort to
ShortKeys (keys.RenameNx from to) = IsShort to
ShortKeys (keys.Copy from to options) = IsShort to
ShortKeys other = Unit {0}

expire_short : (make : List ℕ → ℤ → ExpireOptions → KeyCommand) → ((key : List ℕ) (n : ℤ) (o : ExpireOptions) → ShortKeys (make key n o))
    → ReadingKeeps ShortKeys (expire_words make)
expire_short make h =
    options_keep ShortKeys (Plain ∷ Whole ∷ []) expire_options no_expire_options (λ a o. expire_of make a.0 a.1.0 o)
    (λ a k o. if_has ShortKeys (clash o) (Err Syntax) (Ok (make a.0 a.1.0 o)) (never ShortKeys Syntax) (λ b. made ShortKeys (make a.0 a.1.0 o) b (h a.0 a.1.0 o)))

pub key_rows_short : AllByRecursion (RowKeeps ShortKeys) key_rows
key_rows_short =
    repeated_makes ShortKeys [] 1 (λ a words. keys.Del words) (λ a k rest short. tt)
    ⊗ repeated_makes ShortKeys [] 1 (λ a words. keys.Unlink words) (λ a k rest short. tt)
    ⊗ repeated_makes ShortKeys [] 1 (λ a words. keys.Exists words) (λ a k rest short. tt)
    ⊗ repeated_makes ShortKeys [] 1 (λ a words. keys.Touch words) (λ a k rest short. tt)
    ⊗ fixed_makes ShortKeys (Plain ∷ []) (λ a. keys.TypeOf a.0) (λ a k. tt)
    ⊗ expire_short keys.Expire (λ key n o. tt)
    ⊗ expire_short keys.PExpire (λ key n o. tt)
    ⊗ expire_short keys.ExpireAt (λ key n o. tt)
    ⊗ expire_short keys.PExpireAt (λ key n o. tt)
    ⊗ fixed_makes ShortKeys (Plain ∷ []) (λ a. keys.Ttl a.0) (λ a k. tt)
    ⊗ fixed_makes ShortKeys (Plain ∷ []) (λ a. keys.PTtl a.0) (λ a k. tt)
    ⊗ fixed_makes ShortKeys (Plain ∷ []) (λ a. keys.ExpireTime a.0) (λ a k. tt)
    ⊗ fixed_makes ShortKeys (Plain ∷ []) (λ a. keys.PExpireTime a.0) (λ a k. tt)
    ⊗ fixed_makes ShortKeys (Plain ∷ []) (λ a. keys.Persist a.0) (λ a k. tt)
    ⊗ fixed_makes ShortKeys (Plain ∷ Plain ∷ []) (λ a. keys.Rename a.0 a.1.0) (λ a k. k.1.0)
    ⊗ fixed_makes ShortKeys (Plain ∷ Plain ∷ []) (λ a. keys.RenameNx a.0 a.1.0) (λ a k. k.1.0)
    ⊗ options_make ShortKeys (Plain ∷ Plain ∷ []) copy_options no_copy_options (λ a o. keys.Copy a.0 a.1.0 o) (λ a k o. k.1.0)
    ⊗ fixed_makes ShortKeys (Plain ∷ Database ∷ []) (λ a. keys.MoveKey a.0 a.1.0) (λ a k. tt)
    ⊗ fixed_makes ShortKeys [] (λ a. keys.RandomKey) (λ a k. tt)
    ⊗ by_second_keeps ShortKeys 2 object_rows (fixed_makes ShortKeys (Plain ∷ []) (λ a. keys.ObjectEncoding a.0) (λ a k. tt) ⊗ tt)
    ⊗ fixed_makes ShortKeys (Plain ∷ []) (λ a. keys.KeysLike a.0) (λ a k. tt)
    ⊗ options_make ShortKeys (Cursor ∷ []) scan_options no_scan_options (λ a o. keys.Scan a.0 o) (λ a k o. tt)
    ⊗ tt

-- ---- steps

removed_fit : (old : World) → IsFit old → (words : List (List ℕ)) → IsFit (remove_all old words)
removed_fit old fit [] = fit
removed_fit old fit (key ∷ words) = removed_fit (remove old key) (fit_remove old key fit) words

module _ (old : World) (fit : IsFit old) where
  -- what stands at one key may stand at another that is short
  at_other : (from to : List ℕ) (e : Entry) → look old from ≡ Some e → IsShort to → IsFitKey to e
  at_other from to e is short = let there = fit_there old fit from e is in record { short = short; value = there.value; deadline = there.deadline }

  fit_expiring : (moment : ℕ) (key : List ℕ) (time : Time) (options : ExpireOptions) → IsFit (expire_outcome old moment key time options).world
  fit_expiring moment key time options =
      fit_due old fit moment time (λ deadline. expire_where_permitted old moment key options deadline (look old key)) (λ deadline within. at deadline within (look old key) refl)
    where
      at : (deadline : ℤ) → from_zero deadline < 2 ^ 63 → (o : Option Entry) → look old key ≡ o → IsFit (expire_where_permitted old moment key options deadline o).world
      at deadline within None is = fit
      at deadline within (Some e) is =
          elim (permits options e.deadline deadline) as (λ b. IsFit (if b then counts 1 (expire old moment key deadline (Some e)) else counts 0 old).world) [
            | true ↦ fit_expire old fit moment key deadline within (Some e) is
            | false ↦ fit
          ]

  fit_rename : (from to : List ℕ) (e : Entry) → look old from ≡ Some e → IsShort to → IsFit (rename old from to e)
  fit_rename from to e is short =
      elim (bytes_eq from to) as (λ b. IsFit (if b then old else put (remove old from) to e)) [
        | true ↦ fit
        | false ↦ fit_put (remove old from) to e (fit_remove old from fit) (at_other from to e is short)
      ]

  fit_renamed : (from to : List ℕ) → IsShort to → (o : Option Entry) → look old from ≡ o → IsFit (rename_outcome old from to o).world
  fit_renamed from to short None is = fit
  fit_renamed from to short (Some e) is = fit_rename from to e is short

  fit_renamednx : (from to : List ℕ) → IsShort to → (o : Option Entry) → look old from ≡ o → IsFit (renamenx_outcome old from to o).world
  fit_renamednx from to short None is = fit
  fit_renamednx from to short (Some e) is =
      elim (is_some (look old to)) as (λ b. IsFit (if b then counts 0 old else counts 1 (rename old from to e)).world) [
        | true ↦ fit
        | false ↦ fit_rename from to e is short
      ]

  fit_copied : (from to : List ℕ) (options : CopyOptions) → IsShort to → IsFit (copy_outcome old from to options).world
  fit_copied from to options short =
      let number = or_selected old options.db in
      elim ((number == old.selected) && bytes_eq from to) as (λ b. IsFit (if b then refused SameSourceAndDestination old else copy old number to options.replace (look old from)).world) [
        | true ↦ fit
        | false ↦ at number (look old from) refl
      ]
    where
      at : (number : ℕ) (o : Option Entry) → look old from ≡ o → IsFit (copy old number to options.replace o).world
      at number None is = fit
      at number (Some e) is =
          elim (is_some (look_in old number to) && not options.replace) as (λ b. IsFit (if b then counts 0 old else counts 1 (put_in old number to e)).world) [
            | true ↦ fit
            | false ↦ fit_put_in old number to e fit (at_other from to e is short)
          ]

  fit_moved : (key : List ℕ) (number : ℕ) → IsFit (move_outcome old key number).world
  fit_moved key number =
      elim (number == old.selected) as (λ b. IsFit (if b then refused SameSourceAndDestination old else move old key number (look old key)).world) [
        | true ↦ fit
        | false ↦ at (look old key) refl
      ]
    where
      at : (o : Option Entry) → look old key ≡ o → IsFit (move old key number o).world
      at None is = fit
      at (Some e) is =
          elim (is_some (look_in old number key)) as (λ b. IsFit (if b then counts 0 old else counts 1 (put_in (remove old key) number key e)).world) [
            | true ↦ fit
            | false ↦ fit_put_in (remove old key) number key e (fit_remove old key fit) (fit_there old fit key e is)
          ]

  outcome_fit : (moment : ℕ) (c : KeyCommand) → ShortKeys c → IsFit (key_outcome moment old c).world
  outcome_fit moment (keys.Del words) short = removed_fit old fit words
  outcome_fit moment (keys.Unlink words) short = removed_fit old fit words
  outcome_fit moment (keys.Expire key n options) short = fit_expiring moment key (record { unit = Seconds; from = Now; n = n }) options
  outcome_fit moment (keys.PExpire key n options) short = fit_expiring moment key (record { unit = Milliseconds; from = Now; n = n }) options
  outcome_fit moment (keys.ExpireAt key n options) short = fit_expiring moment key (record { unit = Seconds; from = Epoch; n = n }) options
  outcome_fit moment (keys.PExpireAt key n options) short = fit_expiring moment key (record { unit = Milliseconds; from = Epoch; n = n }) options
  outcome_fit moment (keys.Persist key) short = fit_persist old fit key (look old key) refl
  outcome_fit moment (keys.Rename from to) short = fit_renamed from to short (look old from) refl
  outcome_fit moment (keys.RenameNx from to) short = fit_renamednx from to short (look old from) refl
  outcome_fit moment (keys.Copy from to options) short = fit_copied from to options short
  outcome_fit moment (keys.MoveKey key number) short = fit_moved key number
  outcome_fit moment other short = fit

pub keys_fit : (seed : ℕ) (old : World) → IsFit old → (moment : ℕ) (c : KeyCommand) → ShortKeys c → (reply : List Part) (new : World) → may_keys seed old moment c reply new → IsFit new
keys_fit seed old fit moment keys.RandomKey short reply new m = same_fit old new fit m.1
keys_fit seed old fit moment (keys.ObjectEncoding key) short reply new m = same_fit old new fit m.1
keys_fit seed old fit moment (keys.KeysLike pattern) short reply new m = same_fit old new fit m.1
keys_fit seed old fit moment (keys.Scan cursor options) short reply new m = same_fit old new fit m.1
keys_fit seed old fit moment other short reply new m = fit_outcome (key_outcome moment old other) reply new (outcome_fit old fit moment other short) m
