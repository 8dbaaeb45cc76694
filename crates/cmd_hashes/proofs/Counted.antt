-- The numbers that fields hold.
use Rattle.std.proofs.Common.{◌≡◌, ℕ, ℤ, List, [], ◌∷◌, Option, None, Some, Result, Ok, Err, IfOk, OnOk, IfSome, IfNone, sym, ap, subst, ◌∙◌}
use Rattle.std.specs.Prelude.{FitsSigned, ◌+ℤ◌, if◌then◌else◌}
use Rattle.std.specs.Int.{w64}
use Rattle.std.specs.FinMap.{get, insert}
use Rattle.blocks.specs.Blocks.{Blocks}
use Rattle.int_text.specs.Decimal.{canonical, number_of, IsI64Text}
use Rattle.int_text.proofs.NumberOf.{reads_number_of, fits_to, no_fit}
use Rattle.plain_world.specs.Worlds.{World}
use Rattle.plain_world.specs.declared.reply.Part.{Part}
use Rattle.plain_world.specs.declared.reply.Part.TheVariants.{Number, Refused}
use Rattle.plain_world.specs.declared.refusal.Refusal.TheVariants.{NotAnInteger, Overflow}
use Rattle.plain_model.specs.Outcomes.{leaves, refused}
use Rattle.plain_model.specs.ListSteps.{tells_number}
use Rattle.plain_model.specs.HashSteps.{Fields, or_no_fields, keep_hash, number_in, count_field, count_on_field, hash_outcome}
use Rattle.plain_model.specs.declared.hash_command.HashCommand.TheVariants as hashes
use Rattle.keyspace.specs.Databases.{Keyspace}
use Rattle.keyspace.specs.Forms.{Formed, hash_at, hash_to, counted_to}
use Rattle.cmd_hashes.specs.Changed.{IsBefore, IsValue}
use Rattle.cmd_hashes.specs.Set.{IsSet}
use Rattle.cmd_hashes.proofs.Telling.{on_before, fields_before, value_is}

-- what was read of an element is the number of its text
pub reads_all : (text : List ℕ) (answer : Option ℤ) → IfSome answer (λ n. text ≡ canonical n) → IfSome answer (λ n. FitsSigned w64 n) → IfNone answer (¬ (IsI64Text text)) → number_of text ≡ answer
reads_all text None number fits none = reads_number_of text None (tt, none)
reads_all text (Some n) number fits none = reads_number_of text (Some n) ((fits, number), tt)

module _ (old : World) (key field : List ℕ) (by : ℤ) (value : Option (List ℕ)) (v : IsValue old key field value) where
  -- what HINCRBY makes of the number that was found
  counts : (before : Option Fields) → IsBefore old key before → (n : Option ℤ) → number_in value ≡ n
      → hash_outcome old (hashes.HIncrBy key field by) ≡ count_on_field old key field (or_no_fields before) by n
  counts before stands n is =
      on_before old key before (λ b. count_on_field old key field (or_no_fields b) by (number_in (get (or_no_fields b) field))) stands
      ∙ ap (λ o. count_on_field old key field (or_no_fields before) by (number_in o)) (value_is old key field value before v stands)
      ∙ ap (count_on_field old key field (or_no_fields before) by) is

  -- a value that is no number
  pub no_number_told : {X : Type 0} → number_in value ≡ None → (result : Result (List Part) X) → IfOk result (λ reply. reply ≡ Refused NotAnInteger ∷ [])
      → IfOk result (λ reply. hash_outcome old (hashes.HIncrBy key field by) ≡ leaves reply old)
  no_number_told none (Err x) told = tt
  no_number_told none (Ok reply) told = counts v.before v.stands None none ∙ ap (λ r. leaves r old) (sym told)

  module _ (n : ℤ) (is : number_in value ≡ Some n) where
    -- a number that is too large
    pub large_told : {X : Type 0} → ¬ (FitsSigned w64 (n +ℤ by)) → (result : Result (List Part) X) → IfOk result (λ reply. reply ≡ Refused Overflow ∷ [])
        → IfOk result (λ reply. hash_outcome old (hashes.HIncrBy key field by) ≡ leaves reply old)
    large_told large (Err x) told = tt
    large_told large (Ok reply) told =
        let map = or_no_fields v.before in
        counts v.before v.stands (Some n) is
        ∙ ap (λ b. if b then tells_number (n +ℤ by) (keep_hash old key (insert map field (canonical (n +ℤ by)))) else refused Overflow old) (no_fit (n +ℤ by) large)
        ∙ ap (λ r. leaves r old) (sym told)

    -- a number that is written
    pub counted_told : {X : Type 0} (new : World) (sum : ℤ) → FitsSigned w64 sum → sum ≡ n +ℤ by → (result : Result (List Part) X)
        → OnOk result ((fresh : ℕ) × IsSet old key ((field, canonical sum) ∷ []) fresh new) → IfOk result (λ reply. reply ≡ Number sum ∷ [])
        → IfOk result (λ reply. hash_outcome old (hashes.HIncrBy key field by) ≡ leaves reply new)
    counted_told new sum fits sums (Err x) set told = tt
    counted_told new sum fits sums (Ok reply) set told =
        let s = set.1 in
        let map = or_no_fields s.before in
        counts s.before s.stands (Some n) is
        ∙ ap (count_field old key field map) (sym sums)
        ∙ ap (λ b. if b then tells_number sum (keep_hash old key (insert map field (canonical sum))) else refused Overflow old) (fits_to sum fits)
        ∙ ap (λ r. leaves r (keep_hash old key (insert map field (canonical sum)))) (sym told)
        ∙ ap (leaves reply) (sym s.world)

    -- its form
    pub counted_formed : {S A X : Type 0} (blocks : S → Blocks) (from to : Keyspace S) (db : ℕ) (sum : ℤ) → sum ≡ n +ℤ by → (result : Result A X)
        → OnOk result (Formed blocks (hash_to db old key ((field, canonical sum) ∷ [])) from to)
        → IfOk result (λ reply. Formed blocks (counted_to db old key field by (number_in (get (hash_at old key) field))) from to)
    counted_formed blocks from to db sum sums (Err x) formed = tt
    counted_formed blocks from to db sum sums (Ok a) formed =
        let found : number_in (get (hash_at old key) field) ≡ Some n = ap (λ m. number_in (get m field)) (fields_before old key v.before v.stands) ∙ ap number_in v.is ∙ is in
        subst (λ o. Formed blocks (counted_to db old key field by o) from to) (sym found)
        (subst (λ k. Formed blocks (hash_to db old key ((field, canonical k) ∷ [])) from to) sums formed)
