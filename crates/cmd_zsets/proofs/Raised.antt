-- A number added to the score of a member.
use Rattle.std.proofs.Common.{◌≡◌, Bool, true, false, ℕ, ℤ, List, [], ◌∷◌, Option, Result, Ok, Err, IfOk, refl, sym, ap, subst, ◌∙◌, arith, inl, inr}
use Rattle.std.specs.Prelude.{pos, negsuc, FitsSigned, ◌+ℤ◌, ◌&&◌, if◌then◌else◌}
use Rattle.std.specs.Int.{w64}
use Rattle.std.specs.FinMap.{get, insert}
use Rattle.std.proofs.lemmas.Bool.{cases_Bool}
use Rattle.std.proofs.lemmas.Int.{ints}
use Rattle.blocks.specs.Blocks.{Blocks}
use Rattle.int_text.specs.Decimal.{canonical}
use Rattle.plain_world.specs.Worlds.{World}
use Rattle.plain_world.specs.declared.reply.Part.{Part}
use Rattle.plain_world.specs.declared.reply.Part.TheVariants.{Bulk, Null, Refused}
use Rattle.plain_world.specs.declared.refusal.Refusal.TheVariants.{NotAWholeScore}
use Rattle.plain_model.specs.Outcomes.{IsRefusal, leaves, tells, refused}
use Rattle.plain_model.specs.ZsetSteps.{Scores, or_no_scores, keep_zset, admits, passes, permits, is_score, or_zero, raise, raise_to, zset_outcome}
use Rattle.plain_model.specs.declared.zset_command.ZsetCommand.TheVariants as zsets
use Rattle.plain_model.specs.declared.zset_command.ScoreRules.{ScoreRules}
use Rattle.keyspace.specs.Databases.{Keyspace}
use Rattle.keyspace.specs.Scopes.{Scope}
use Rattle.keyspace.specs.Commands.{KeepsTo, KeepsOrRefuses}
use Rattle.keyspace.proofs.Running.{calm}
use Rattle.keyspace.specs.Forms.{Formed, zset_at, zset_to}
use Rattle.cmd_zsets.specs.Changed.{IsBefore}
use Rattle.cmd_zsets.specs.Written.{IsAdded, IsScoreOf}
use Rattle.cmd_zsets.proofs.Telling.{on_before, scores_before, score_is}

-- a score is a number of 64 bits
score_fits : (n : ℤ) → is_score n ≡ true → FitsSigned w64 n
score_fits (pos n) is = record { sfits = grind (arith, ints) }
score_fits (negsuc n) is = record { sfits = grind (arith, ints) }

-- what is none is no score
pub no_score : (n : ℤ) → ¬ (FitsSigned w64 n) → is_score n ≡ false
no_score n large = elim (cases_Bool (is_score n)) [
  | inl score ↦ absurd (large (score_fits n score))
  | inr other ↦ other
]

module _ (old : World) (key member : List ℕ) (rules : ScoreRules) (by : ℤ) (found : Option ℤ) (v : IsScoreOf old key member found) where
  -- what is made of the score that was found
  raises : (before : Option Scores) → IsBefore old key before
      → zset_outcome old (zsets.ZIncr key rules by member) ≡ (if admits rules found then raise_to old key rules member (or_no_scores before) (or_zero found +ℤ by) else tells (Null ∷ []) old)
  raises before stands =
      on_before old key before (λ b. raise old key rules by member (or_no_scores b)) stands
      ∙ ap (λ o. if admits rules o then raise_to old key rules member (or_no_scores before) (or_zero o +ℤ by) else tells (Null ∷ []) old) (score_is old key member found before v stands)

  -- a score that isn't admitted
  pub barred_told : {X : Type 0} → admits rules found ≡ false → (result : Result (List Part) X) → IfOk result (λ reply. reply ≡ Null ∷ [])
      → IfOk result (λ reply. zset_outcome old (zsets.ZIncr key rules by member) ≡ leaves reply old)
  barred_told barred (Err x) told = tt
  barred_told barred (Ok reply) told =
      raises v.before v.stands
      ∙ ap (λ b. if b then raise_to old key rules member (or_no_scores v.before) (or_zero found +ℤ by) else tells (Null ∷ []) old) barred
      ∙ ap (λ r. leaves r old) (sym told)

  module _ (admitted : admits rules found ≡ true) where
    raising : (before : Option Scores) → IsBefore old key before → (sum : ℤ) → sum ≡ or_zero found +ℤ by
        → zset_outcome old (zsets.ZIncr key rules by member) ≡ raise_to old key rules member (or_no_scores before) sum
    raising before stands sum sums =
        raises before stands
        ∙ ap (λ b. if b then raise_to old key rules member (or_no_scores before) (or_zero found +ℤ by) else tells (Null ∷ []) old) admitted
        ∙ ap (raise_to old key rules member (or_no_scores before)) (sym sums)

    -- a number that is none
    pub large_told : {X : Type 0} → is_score (or_zero found +ℤ by) ≡ false → (result : Result (List Part) X) → IfOk result (λ reply. reply ≡ Refused NotAWholeScore ∷ [])
        → IfOk result (λ reply. zset_outcome old (zsets.ZIncr key rules by member) ≡ leaves reply old)
    large_told large (Err x) told = tt
    large_told large (Ok reply) told =
        let map = or_no_scores v.before in
        let sum = or_zero found +ℤ by in
        raising v.before v.stands sum refl
        ∙ ap
        (λ b. if b then (if passes rules (get map member) sum then leaves (Bulk (canonical sum) ∷ []) (keep_zset old key (insert map member sum)) else tells (Null ∷ []) old) else
        refused NotAWholeScore old) large
        ∙ ap (λ r. leaves r old) (sym told)

    module _ (sum : ℤ) (sums : sum ≡ or_zero found +ℤ by) (range : is_score sum ≡ true) where
      in_range : (before : Option Scores) → IsBefore old key before
          → zset_outcome old (zsets.ZIncr key rules by member) ≡
          (if passes rules found sum then leaves (Bulk (canonical sum) ∷ []) (keep_zset old key (insert (or_no_scores before) member sum)) else tells (Null ∷ []) old)
      in_range before stands =
          let map = or_no_scores before in
          raising before stands sum sums
          ∙ ap
          (λ b. if b then (if passes rules (get map member) sum then leaves (Bulk (canonical sum) ∷ []) (keep_zset old key (insert map member sum)) else tells (Null ∷ []) old) else
          refused NotAWholeScore old) range
          ∙ ap (λ o. if passes rules o sum then leaves (Bulk (canonical sum) ∷ []) (keep_zset old key (insert map member sum)) else tells (Null ∷ []) old)
          (score_is old key member found before v stands)

      -- a score that isn't let pass
      pub stopped_told : {X : Type 0} → passes rules found sum ≡ false → (result : Result (List Part) X) → IfOk result (λ reply. reply ≡ Null ∷ [])
          → IfOk result (λ reply. zset_outcome old (zsets.ZIncr key rules by member) ≡ leaves reply old)
      stopped_told stopped (Err x) told = tt
      stopped_told stopped (Ok reply) told =
          in_range v.before v.stands
          ∙ ap (λ b. if b then leaves (Bulk (canonical sum) ∷ []) (keep_zset old key (insert (or_no_scores v.before) member sum)) else tells (Null ∷ []) old) stopped
          ∙ ap (λ r. leaves r old) (sym told)

      -- a score that is written
      pub raised_told : {X : Type 0} → passes rules found sum ≡ true → (ch : Bool) (count : ℕ) (new : World) → IsAdded old key rules ch ((sum, member) ∷ []) count new
          → (result : Result (List Part) X) → IfOk result (λ reply. reply ≡ Bulk (canonical sum) ∷ [])
          → IfOk result (λ reply. zset_outcome old (zsets.ZIncr key rules by member) ≡ leaves reply new)
      raised_told passed ch count new s (Err x) told = tt
      raised_told passed ch count new s (Ok reply) told =
          let map = or_no_scores s.before in
          let written : permits rules (get map member) sum ≡ true = ap (λ o. permits rules o sum) (score_is old key member found s.before v s.stands)
          ∙ ap (λ b. b && passes rules found sum) admitted ∙ passed in
          in_range s.before s.stands
          ∙ ap (λ b. if b then leaves (Bulk (canonical sum) ∷ []) (keep_zset old key (insert map member sum)) else tells (Null ∷ []) old) passed
          ∙ ap (λ r. leaves r (keep_zset old key (insert map member sum))) (sym told)
          ∙ ap (λ b. leaves reply (keep_zset old key (if b then insert map member sum else map))) (sym written)
          ∙ ap (leaves reply) (sym s.world)

  -- its form
  pub raised_formed : {S A X : Type 0} (blocks : S → Blocks) (from to : Keyspace S) (db : ℕ) (sum : ℤ) → sum ≡ or_zero found +ℤ by → (result : Result A X)
      → Formed blocks (zset_to db old key rules ((sum, member) ∷ [])) from to
      → IfOk result (λ reply. Formed blocks (zset_to db old key rules ((or_zero (get (zset_at old key) member) +ℤ by, member) ∷ [])) from to)
  raised_formed blocks from to db sum sums (Err x) formed = tt
  raised_formed blocks from to db sum sums (Ok a) formed =
      let there : get (zset_at old key) member ≡ found = ap (λ m. get m member) (scores_before old key v.before v.stands) ∙ v.is in
      subst (λ n. Formed blocks (zset_to db old key rules ((n, member) ∷ [])) from to) (sums ∙ ap (λ o. or_zero o +ℤ by) (sym there)) formed

-- the text of a score is no refusal
pub text_calm : {S X : Type 0} (blocks : S → Blocks) (step : S → S → Type 0) (scope : Scope) (old new : Keyspace S) (sum : ℤ) (result : Result (List Part) X)
    → IfOk result (λ reply. reply ≡ Bulk (canonical sum) ∷ []) → KeepsTo blocks step scope old new
    → KeepsOrRefuses blocks step scope old new result
text_calm blocks step scope old new sum (Err e) told held = calm blocks step scope old new (Err e) tt held
text_calm blocks step scope old new sum (Ok reply) told held = calm blocks step scope old new (Ok reply) (λ refused. subst IsRefusal told refused) held
