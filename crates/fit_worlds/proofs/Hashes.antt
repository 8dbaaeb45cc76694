-- Commands on hashes leave a fit world.
use Rattle.std.proofs.Common.{◌≡◌, ℕ, ◌==◌, List, [], ◌∷◌, true, false, Option, Some, None, refl, subst}
use Rattle.std.specs.Prelude.{is_some, pos, ℤ, ◌+ℤ◌, codes, if◌then◌else◌}
use Rattle.std.specs.List.{AllByRecursion}
use Rattle.std.specs.FinMap.{empty, get, insert, len}
use Rattle.std.specs.FinMap as finite
use Rattle.int_text.specs.Decimal.{canonical, is_i64}
use Rattle.plain_world.specs.Worlds.{World, Value, HashOf, remove}
use Rattle.plain_world.specs.declared.refusal.Refusal.TheVariants.{Overflow}
use Rattle.plain_world.specs.declared.reply.Part.{Part}
use Rattle.plain_world.specs.declared.reply.Part.TheVariants.{Simple}
use Rattle.plain_model.specs.Outcomes.{Outcome, leaves, refused}
use Rattle.plain_model.specs.OfType.{hash_in, keep}
use Rattle.plain_model.specs.Shapes.{Plain, Whole}
use Rattle.plain_model.specs.StringWords.{pairs_of}
use Rattle.plain_model.specs.HashWords.{hash_rows}
use Rattle.plain_model.specs.ListSteps.{tells_number}
use Rattle.plain_model.specs.HashSteps.{Fields, on_hash, or_no_fields, keep_hash, set_all, unset_all, set_fields, set_missing, unset_fields, number_in, count_field, count_on_field}
use Rattle.plain_model.specs.HashSteps.{hash_outcome, may_hashes}
use Rattle.plain_model.specs.declared.hash_command.HashCommand.{HashCommand}
use Rattle.plain_model.specs.declared.hash_command.HashCommand.TheVariants as hashes
use Rattle.fit_worlds.specs.Fit.{IsShort, IsShortPair, EachIs, IsFitValue, IsFit}
use Rattle.fit_worlds.proofs.Maps.{each_empty, each_insert, each_remove, some_len}
use Rattle.fit_worlds.proofs.Told.{◌⊗◌, RowKeeps, fixed_makes, repeated_makes, picked_keeps, page_keeps, pairs_short}
use Rattle.fit_worlds.proofs.Strings.{number_short}
use Rattle.fit_worlds.proofs.Worlds.{fit_remove, fit_keep, fit_on_type, fit_told, fit_may_tell, fit_outcome}

-- ---- what the words of a command that writes are

abbrev pub ShortHashes : HashCommand → Type 0
ShortHashes (hashes.HSet key pairs) = IsShort key × AllByRecursion IsShortPair pairs
ShortHashes (hashes.HMSet key pairs) = IsShort key × AllByRecursion IsShortPair pairs
ShortHashes (hashes.HSetNx key field value) = IsShort key × IsShortPair (field, value)
ShortHashes (hashes.HIncrBy key field by) = IsShort key × IsShort field
ShortHashes other = Unit {0}

pub hash_rows_short : AllByRecursion (RowKeeps ShortHashes) hash_rows
hash_rows_short =
    repeated_makes ShortHashes (Plain ∷ []) 2 (λ a own. hashes.HSet a.0 (pairs_of own)) (λ a k rest short. (k.0, pairs_short rest short))
    ⊗ repeated_makes ShortHashes (Plain ∷ []) 2 (λ a own. hashes.HMSet a.0 (pairs_of own)) (λ a k rest short. (k.0, pairs_short rest short))
    ⊗ fixed_makes ShortHashes (Plain ∷ Plain ∷ Plain ∷ []) (λ a. hashes.HSetNx a.0 a.1.0 a.1.1.0) (λ a k. (k.0, (k.1.0, k.1.1.0)))
    ⊗ fixed_makes ShortHashes (Plain ∷ Plain ∷ []) (λ a. hashes.HGet a.0 a.1.0) (λ a k. tt)
    ⊗ repeated_makes ShortHashes (Plain ∷ []) 1 (λ a own. hashes.HMGet a.0 own) (λ a k rest short. tt)
    ⊗ repeated_makes ShortHashes (Plain ∷ []) 1 (λ a own. hashes.HDel a.0 own) (λ a k rest short. tt)
    ⊗ fixed_makes ShortHashes (Plain ∷ Plain ∷ []) (λ a. hashes.HExists a.0 a.1.0) (λ a k. tt)
    ⊗ fixed_makes ShortHashes (Plain ∷ []) (λ a. hashes.HLen a.0) (λ a k. tt)
    ⊗ fixed_makes ShortHashes (Plain ∷ Plain ∷ []) (λ a. hashes.HStrLen a.0 a.1.0) (λ a k. tt)
    ⊗ fixed_makes ShortHashes (Plain ∷ []) (λ a. hashes.HKeys a.0) (λ a k. tt)
    ⊗ fixed_makes ShortHashes (Plain ∷ []) (λ a. hashes.HVals a.0) (λ a k. tt)
    ⊗ fixed_makes ShortHashes (Plain ∷ []) (λ a. hashes.HGetAll a.0) (λ a k. tt)
    ⊗ fixed_makes ShortHashes (Plain ∷ Plain ∷ Whole ∷ []) (λ a. hashes.HIncrBy a.0 a.1.0 a.1.1.0) (λ a k. (k.0, k.1.0))
    ⊗ picked_keeps ShortHashes (codes "withvalues") hashes.HRandField (λ key n more. tt)
    ⊗ page_keeps ShortHashes hashes.HScan (λ key cursor options. tt)
    ⊗ tt

-- ---- hashes of short fields and values

abbrev ShortFields : Fields → Type 0
ShortFields fields = EachIs (λ field value. IsShort field × IsShort value) fields

with_field : (fields : Fields) (field value : List ℕ) → ShortFields fields → IsShort field → IsShort value → ShortFields (insert fields field value)
with_field fields field value short f v = each_insert (λ field value. IsShort field × IsShort value) fields field value short (f, v)

set_all_short : (fields : Fields) (pairs : List (List ℕ × List ℕ)) → ShortFields fields → AllByRecursion IsShortPair pairs → ShortFields (set_all fields pairs)
set_all_short fields [] short more = short
set_all_short fields (pair ∷ pairs) short more = set_all_short (insert fields pair.0 pair.1) pairs (with_field fields pair.0 pair.1 short more.0.0 more.0.1) more.1

unset_all_short : (fields : Fields) (others : List (List ℕ)) → ShortFields fields → ShortFields (unset_all fields others)
unset_all_short fields [] short = short
unset_all_short fields (field ∷ others) short =
    unset_all_short (finite.remove fields field) others (each_remove (λ field value. IsShort field × IsShort value) fields field short)

none_short : ShortFields empty
none_short = each_empty (λ field value. IsShort field × IsShort value)

-- ---- steps

-- the hash that a fit value is
fit_hash : (v : Value) (fields : Fields) → hash_in v ≡ Some fields → IsFitValue v → ShortFields fields
fit_hash (HashOf other) fields is fit = let one : other ≡ fields = cc in subst ShortFields one fit.1
fit_hash other fields is fit = cc

fit_keep_hash : (old : World) → IsFit old → (key : List ℕ) → IsShort key → (fields : Fields) → ShortFields fields → IsFit (keep_hash old key fields)
fit_keep_hash old fit key is fields short =
    (elim (len fields == 0) as (λ b. (len fields == 0) ≡ b → IsFit (if b then remove old key else keep old key (HashOf fields))) [
      | true ↦ λ none. fit_remove old key fit
      | false ↦ λ some. fit_keep old fit key (HashOf fields) is (some_len (len fields) some, short)
    ]) refl

module _ (old : World) (fit : IsFit old) where
  fit_on_hash : (key : List ℕ) (answer : Option Fields → Outcome) → IsFit (answer None).world → ((fields : Fields) → IsShort key → ShortFields fields → IsFit (answer (Some fields)).world)
      → IsFit (on_hash old key answer).world
  fit_on_hash key answer none some = fit_on_type old fit hash_in ShortFields fit_hash key answer none some

  -- the same of what takes a missing hash as one without a field
  fit_on_fields : (key : List ℕ) (answer : Fields → Outcome) → ((fields : Fields) → ShortFields fields → IsFit (answer fields).world)
      → IsFit (on_hash old key (λ before. answer (or_no_fields before))).world
  fit_on_fields key answer h = fit_on_hash key (λ before. answer (or_no_fields before)) (h empty none_short) (λ fields k short. h fields short)

  fit_missing : (key field value : List ℕ) → IsShort key → IsShortPair (field, value) → (fields : Fields) → ShortFields fields → IsFit (set_missing old key field value fields).world
  fit_missing key field value is pair fields short =
      elim (is_some (get fields field)) as (λ b. IsFit (if b then tells_number (pos 0) old else tells_number (pos 1) (keep_hash old key (insert fields field value))).world) [
        | true ↦ fit
        | false ↦ fit_keep_hash old fit key is (insert fields field value) (with_field fields field value short pair.0 pair.1)
      ]

  fit_count : (key field : List ℕ) (by : ℤ) → IsShort key → IsShort field → (fields : Fields) → ShortFields fields → (o : Option ℤ) → IsFit (count_on_field old key field fields by o).world
  fit_count key field by is short fields all None = fit
  fit_count key field by is short fields all (Some n) = counted (n +ℤ by)
    where
      counted : (n : ℤ) → IsFit (count_field old key field fields n).world
      counted n =
          (elim (is_i64 n) as (λ b. is_i64 n ≡ b → IsFit (if b then tells_number n (keep_hash old key (insert fields field (canonical n))) else refused Overflow old).world) [
            | true ↦ λ fits. fit_keep_hash old fit key is (insert fields field (canonical n)) (with_field fields field (canonical n) all short (number_short n fits))
            | false ↦ λ over. fit
          ]) refl

  outcome_fit : (c : HashCommand) → ShortHashes c → IsFit (hash_outcome old c).world
  outcome_fit (hashes.HSet key pairs) short =
      fit_on_fields key (set_fields old key pairs) (λ fields is. fit_keep_hash old fit key short.0 (set_all fields pairs) (set_all_short fields pairs is short.1))
  outcome_fit (hashes.HMSet key pairs) short =
      fit_on_fields key (λ fields. leaves (Simple (codes "OK") ∷ []) (keep_hash old key (set_all fields pairs)))
      (λ fields is. fit_keep_hash old fit key short.0 (set_all fields pairs) (set_all_short fields pairs is short.1))
  outcome_fit (hashes.HSetNx key field value) short = fit_on_fields key (set_missing old key field value) (fit_missing key field value short.0 short.1)
  outcome_fit (hashes.HGet key field) short = fit_told old fit hash_in key _
  outcome_fit (hashes.HMGet key others) short = fit_told old fit hash_in key _
  outcome_fit (hashes.HDel key others) short =
      fit_on_hash key (unset_fields old key others) fit (λ fields k is. fit_keep_hash old fit key k (unset_all fields others) (unset_all_short fields others is))
  outcome_fit (hashes.HExists key field) short = fit_told old fit hash_in key _
  outcome_fit (hashes.HLen key) short = fit_told old fit hash_in key _
  outcome_fit (hashes.HStrLen key field) short = fit_told old fit hash_in key _
  outcome_fit (hashes.HIncrBy key field by) short =
      fit_on_fields key (λ fields. count_on_field old key field fields by (number_in (get fields field)))
      (λ fields is. fit_count key field by short.0 short.1 fields is (number_in (get fields field)))
  outcome_fit other short = fit

pub hashes_fit : (seed : ℕ) (old : World) → IsFit old → (c : HashCommand) → ShortHashes c → (reply : List Part) (new : World) → may_hashes seed old c reply new → IsFit new
hashes_fit seed old fit (hashes.HKeys key) short reply new m = fit_may_tell old fit hash_in key _ reply new m
hashes_fit seed old fit (hashes.HVals key) short reply new m = fit_may_tell old fit hash_in key _ reply new m
hashes_fit seed old fit (hashes.HGetAll key) short reply new m = fit_may_tell old fit hash_in key _ reply new m
hashes_fit seed old fit (hashes.HRandField key n with_values) short reply new m = fit_may_tell old fit hash_in key _ reply new m
hashes_fit seed old fit (hashes.HScan key cursor options) short reply new m = fit_may_tell old fit hash_in key _ reply new m
hashes_fit seed old fit other short reply new m = fit_outcome (hash_outcome old other) reply new (outcome_fit old fit other short) m
