-- An element that moves from an end of a list.
use Rattle.std.specs.Prelude.{◌≡◌, ℕ, List, [], ◌∷◌, Option}
use Rattle.object_codec.specs.declared.form.Form.{Form}
use Rattle.quicklist.specs.Chain.{IsRisen}
use Rattle.plain_world.specs.Worlds.{World}
use Rattle.plain_model.specs.ListSteps.{Elements, or_none, from_end, without, added}
use Rattle.plain_model.specs.declared.list_command.ListEnd.{ListEnd}
use Rattle.cmd_lists.specs.Changed.{HasList, IsBefore}

-- no value of another type stands at the key
pub record HasNoOther (world : World) (key : List ℕ) : Type 0 where
  pub before : Option Elements
  pub stands : IsBefore world key before

-- no element stands there
pub record HasNone (world : World) (key : List ℕ) : Type 0 where
  pub no_other : HasNoOther world key
  pub none : or_none no_other.before ≡ []

-- a list stands at the key, of which this is the first element that is met from the end
pub record IsFirst (world : World) (key : List ℕ) (end : ListEnd) (element : List ℕ) : Type 0 where
  pub list : Elements
  pub met : Elements
  pub has : HasList world key list
  pub first : from_end end list ≡ element ∷ met

-- the first element that is met from the end was taken off, where there is one
pub record Takes (end : ListEnd) (old : Elements) (from : Form) (new : Elements) (form : Form) : Type 0 where
  pub is : new ≡ without end 1 old
  pub form_is : form ≡ from

-- it was, and this one was put at an end
pub record Turns (end other : ListEnd) (element : List ℕ) (old : Elements) (from : Form) (new : Elements) (form : Form)
    : Type 0 where
  pub is : new ≡ added other (without end 1 old) (element ∷ [])
  pub risen : IsRisen from new form
