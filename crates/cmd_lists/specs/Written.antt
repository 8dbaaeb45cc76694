-- Elements of a list that were written in the place of others, and what is left of a list.
use Rattle.std.specs.Prelude.{◌≡◌, ℕ, List, take, drop}
use Rattle.object_codec.specs.declared.form.Form.{Form}
use Rattle.quicklist.specs.Chain.{IsRisen}
use Rattle.plain_model.specs.ListSteps.{Elements, replaced}

-- an element was put in the place of another
pub record Replaces (place : ℕ) (element : List ℕ) (old : Elements) (from : Form) (new : Elements) (form : Form)
    : Type 0 where
  pub is : new ≡ replaced old place element
  pub risen : IsRisen from new form

-- so many elements from a place on are left
pub record Trims (first count : ℕ) (old : Elements) (from : Form) (new : Elements) (form : Form) : Type 0 where
  pub is : new ≡ take count (drop first old)
  pub form_is : form ≡ from
