-- Scores that are gathered, and joins of what stands at keys.
use Rattle.std.specs.Prelude.{◌≡◌, ℕ, ℤ, List, [], ◌∷◌, map, Option, None, Some}
use Rattle.std.specs.FinMap.{empty, from_entries, get, insert}
use Rattle.std.specs.BTreeMap.{BTreeMap}
use Rattle.std.specs.declared.vec.Vec.{Vec}
use Rattle.blocks.specs.Blocks.{Blocks}
use Rattle.object_codec.specs.declared.form.Form.{Form}
use Rattle.object_codec.specs.declared.limits.Limits.{Limits}
use Rattle.object_codec.specs.Forms.{IsLeast}
use Rattle.zset_object.specs.Orders.{FitsScored}
use Rattle.set_object.specs.declared.members.Members as object
use Rattle.set_object.specs.Members.{IsMembers, members}
use Rattle.plain_world.specs.Worlds.{World, SetOf, Entry, look}
use Rattle.plain_model.specs.OfType.{set_in, source}
use Rattle.plain_model.specs.ZsetSteps.{Scores, Scored, or_no_scores, scores_in, aggregated, score_with, weighted}
use Rattle.plain_model.specs.declared.zset_command.ScoreJoin.{ScoreJoin}
use Rattle.plain_model.specs.declared.zset_command.ScoreJoin.TheVariants.{Inter, Union}
use Rattle.plain_model.specs.declared.zset_command.Aggregate.{Aggregate}

-- a set stands at the key, and is sound
pub record FoundSet (world : World) (blocks : Blocks) (key : List ℕ) (set : object.Members) : Type 0 where
  pub deadline : Option ℕ
  pub stands : look world key ≡ Some (record { value = SetOf (members blocks set); deadline = deadline })
  pub sound : IsMembers blocks set

-- a value stands at the key that is no set
pub record FoundNoSet (world : World) (key : List ℕ) : Type 0 where
  pub entry : Entry
  pub stands : look world key ≡ Some entry
  pub other : set_in entry.value ≡ None

-- the bytes of a member, and its score
abbrev pub entry_of : {Z : Type 0} → Vec ℕ Z × ℤ → List ℕ × ℤ
entry_of e = (e.0.items, e.1)

-- the scores that were gathered
abbrev pub gathered : {Z : Type 0} → BTreeMap (Vec ℕ Z) ℤ → Scores
gathered sums = from_entries (map entry_of sums.entries)

-- the score of a member of which one source more was met, that has it with a score or lacks it
abbrev pub met_with : ScoreJoin → Aggregate → Option ℤ → Option ℤ → Option ℤ
met_with Union how before own = score_with how before own
met_with Inter how before None = None
met_with Inter how None (Some own) = None
met_with Inter how (Some before) (Some own) = Some (aggregated how before own)

-- the same of a member after some sources
abbrev pub met_each : ScoreJoin → Aggregate → Option ℤ → List ℤ → List Scores → List ℕ → Option ℤ
met_each join how before [] scores member = before
met_each join how before (weight ∷ weights) [] member = before
met_each join how before (weight ∷ weights) (scores ∷ others) member =
    met_each join how (met_with join how before (weighted weight (get scores member))) weights others member

-- the scores that are asked for while a source is met: of a union those that are written, else those before
abbrev pub asked_of : ScoreJoin → Scores → Scores → Scores
asked_of Union before now = now
asked_of Inter before now = before

-- before a source is met nothing is written, but for what a union goes on with
abbrev pub IsFresh : ScoreJoin → Scores → Type 0
IsFresh Union now = Unit {0}
IsFresh Inter now = now ≡ empty

-- a score is written, if there is one
abbrev pub put_if : Scores → List ℕ → Option ℤ → Scores
put_if scores member None = scores
put_if scores member (Some score) = insert scores member score

-- the scores that a key gives to a join, none where a value of another type stands there
abbrev pub scores_at : World → List ℕ → Scores
scores_at world key = or_no_scores (source scores_in empty (look world key))

-- the scores that keys give, which stand beside their weights
abbrev pub scores_here : World → List Scored → List Scores
scores_here world keys = map (λ (key : Scored). scores_at world key.1) keys

-- the first score that there is
abbrev pub or_else : Option ℤ → Option ℤ → Option ℤ
or_else None other = other
or_else (Some score) other = Some score

-- Scores were written over those of a sorted set. Where it had the least form, it has the least one then.
pub record Fills (all : Scores) (limits : Limits) (old : Scores) (from : Form) (new : Scores) (form : Form) : Type 0 where
  pub is : (member : List ℕ) → get new member ≡ or_else (get all member) (get old member)
  pub least : IsLeast (FitsScored limits old) from → IsLeast (FitsScored limits new) form
