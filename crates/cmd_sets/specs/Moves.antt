-- A member that moves from one set to another.
use Rattle.std.specs.Prelude.{◌≡◌, ℕ, List, Option, Bool, true, false, pos, bytes_eq}
use Rattle.plain_world.specs.Worlds.{World}
use Rattle.plain_world.specs.declared.refusal.Refusal.TheVariants.{WrongType}
use Rattle.plain_model.specs.Outcomes.{refused}
use Rattle.plain_model.specs.ListSteps.{tells_number}
use Rattle.plain_model.specs.SetSteps.{Members, has, set_outcome}
use Rattle.plain_model.specs.declared.set_command.SetCommand.TheVariants as sets
use Rattle.keyspace.specs.Forms.{is_moved}
use Rattle.cmd_sets.specs.declared.moving.Plan.{Plan}
use Rattle.cmd_sets.specs.declared.moving.Plan.TheVariants.{Refuse, Tell, Move}
use Rattle.cmd_sets.specs.Changed.{HasSet, IsBefore}
use Rattle.cmd_sets.specs.Found.{FoundOther}

-- a set stands at the key or nothing, or else a value of another type
abbrev pub Takes : World → List ℕ → Bool → Type 0
Takes world key true = (before : Option Members) × IsBefore world key before
Takes world key false = FoundOther world key

-- the member is in the set at the one key, and a set stands at the other one, or nothing
pub record IsMove (world : World) (from to member : List ℕ) : Type 0 where
  pub members : Members
  pub stands : HasSet world from members
  pub there : has members member ≡ true
  pub before : Option Members
  pub target : IsBefore world to before
  pub apart : bytes_eq from to ≡ false

-- this is what the command does
abbrev pub IsPlan : World → List ℕ → List ℕ → List ℕ → Plan → Type 0
IsPlan world from to member Refuse = set_outcome world (sets.SMove from to member) ≡ refused WrongType world
IsPlan world from to member (Tell number) =
    (set_outcome world (sets.SMove from to member) ≡ tells_number (pos number) world)
    × (is_moved world from to member ≡ false)
IsPlan world from to member Move = IsMove world from to member
