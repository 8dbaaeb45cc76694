-- Elements put into a list.
use Rattle.std.specs.Prelude.{◌≡◌, ℕ, ◌<◌, length}
use Rattle.object_codec.specs.declared.form.Form.{Form}
use Rattle.quicklist.specs.Chain.{IsRisen}
use Rattle.plain_model.specs.ListSteps.{Elements, added}
use Rattle.plain_model.specs.declared.list_command.ListEnd.{ListEnd}

-- elements were put at an end of the list, which has this length now
pub record Pushes (end : ListEnd) (elements : Elements) (long : ℕ) (old : Elements) (from : Form) (new : Elements)
    (form : Form) : Type 0 where
  pub is : new ≡ added end old elements
  pub counted : long ≡ length new
  pub risen : 0 < length elements → IsRisen from new form
