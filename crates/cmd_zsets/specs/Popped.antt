-- Members that were taken off a sorted set in its order.
use Rattle.std.specs.Prelude.{◌≡◌, ℕ, List, length, take, Option, Some, true}
use Rattle.object_codec.specs.declared.form.Form.{Form}
use Rattle.plain_world.specs.declared.reply.Part.{Part}
use Rattle.plain_model.specs.ZsetSteps.{Scores, Scored, met, ranked, listed, members_of, without_members}
use Rattle.plain_model.specs.declared.zset_command.Direction.{Direction}

-- the first members that are met from an end were taken off, so many at most, and this is told of them
pub record PopsMany (from : Direction) (n : ℕ) (told : Option (List Part)) (old : Scores) (was : Form) (new : Scores)
    (form : Form) : Type 0 where
  pub told_is : told ≡ Some (listed true (take n (met from (ranked old))))
  pub is : new ≡ without_members old (members_of (take n (met from (ranked old))))
  pub form_is : form ≡ was

-- a part of the list was taken off, of so many members
pub record DropsPart (part : List Scored → List Scored) (gone : ℕ) (old : Scores) (was : Form) (new : Scores) (form : Form)
    : Type 0 where
  pub is : new ≡ without_members old (members_of (part (ranked old)))
  pub counted : gone ≡ length (part (ranked old))
  pub form_is : form ≡ was
