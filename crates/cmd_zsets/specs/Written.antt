-- Scores that were written to a sorted set, and members that were taken out.
use Rattle.std.specs.Prelude.{◌≡◌, ℕ, ℤ, ◌-◌, List, Bool, Option, if◌then◌else◌}
use Rattle.std.specs.FinMap.{len, get}
use Rattle.object_codec.specs.declared.form.Form.{Form}
use Rattle.object_codec.specs.declared.limits.Limits.{Limits}
use Rattle.plain_world.specs.Worlds.{World}
use Rattle.plain_model.specs.ZsetSteps.{Scores, Scored, write_scores, changes, without_members, or_no_scores, keep_zset}
use Rattle.plain_model.specs.declared.zset_command.ScoreRules.{ScoreRules}
use Rattle.keyspace.specs.Forms.{RisesUnder}
use Rattle.cmd_zsets.specs.Changed.{IsBefore}

-- how many members are new, or with CH how many have another score or are new, after scores were written that the rules permit
abbrev pub added_count : ScoreRules → Bool → List Scored → Scores → ℕ
added_count rules ch pairs old =
    if ch then changes rules old pairs else len (write_scores rules old pairs) - len old

-- each score was written that the rules permit, and so many members are counted
pub record Adds (rules : ScoreRules) (ch : Bool) (pairs : List Scored) (count : ℕ) (limits : Limits) (old : Scores)
    (from : Form) (new : Scores) (form : Form) : Type 0 where
  pub is : new ≡ write_scores rules old pairs
  pub counted : count ≡ added_count rules ch pairs old
  pub risen : RisesUnder rules limits from old pairs form

-- each score that the rules permit was written to the sorted set at a key, or to a new one, and so many members are counted
pub record IsAdded (old : World) (key : List ℕ) (rules : ScoreRules) (ch : Bool) (pairs : List Scored) (count : ℕ)
    (new : World) : Type 0 where
  pub before : Option Scores
  pub stands : IsBefore old key before
  pub world : new ≡ keep_zset old key (write_scores rules (or_no_scores before) pairs)
  pub counted : count ≡ added_count rules ch pairs (or_no_scores before)

-- this is the score of a member of the sorted set at the key, or none where it isn't there
pub record IsScoreOf (world : World) (key member : List ℕ) (score : Option ℤ) : Type 0 where
  pub before : Option Scores
  pub stands : IsBefore world key before
  pub is : get (or_no_scores before) member ≡ score

-- these members were taken out, so many of which were there
pub record Removes (members : List (List ℕ)) (gone : ℕ) (old : Scores) (from : Form) (new : Scores) (form : Form)
    : Type 0 where
  pub is : new ≡ without_members old members
  pub counted : gone ≡ len old - len new
  pub form_is : form ≡ from
