-- Elements taken off a list.
use Rattle.std.specs.Prelude.{◌≡◌, ℕ, List, Option, None, Some}
use Rattle.object_codec.specs.declared.form.Form.{Form}
use Rattle.plain_world.specs.declared.reply.Part.{Part}
use Rattle.plain_world.specs.declared.reply.Part.TheVariants.{Bulk, Null}
use Rattle.plain_model.specs.ListSteps.{Elements, from_end, first_or_null, without, listed}
use Rattle.plain_model.specs.declared.list_command.ListEnd.{ListEnd}
use Rattle.std.specs.Prelude.{take}

-- an element, or null
abbrev pub or_null : Option (List ℕ) → Part
or_null None = Null
or_null (Some element) = Bulk element

-- the first element that is met from the end was taken off, where there is one
pub record Pops (end : ListEnd) (taken : Option (List ℕ)) (old : Elements) (from : Form) (new : Elements) (form : Form)
    : Type 0 where
  pub told : first_or_null (from_end end old) ≡ or_null taken
  pub is : new ≡ without end 1 old
  pub form_is : form ≡ from

-- so many elements were, in the order in which they are met
pub record PopsMany (end : ListEnd) (n : ℕ) (parts : List Part) (old : Elements) (from : Form) (new : Elements) (form : Form)
    : Type 0 where
  pub told : listed (take n (from_end end old)) ≡ parts
  pub is : new ≡ without end n old
  pub form_is : form ≡ from
