-- Members that were picked and taken out of a set.
use Rattle.std.specs.Prelude.{◌≡◌, ◌<◌, ℕ, ℤ, List, Option}
use Rattle.std.specs.FinMap.{len}
use Rattle.object_codec.specs.declared.form.Form.{Form}
use Rattle.plain_world.specs.Picks.{ArePicked}
use Rattle.plain_model.specs.SetSteps.{Members, has, drop_all}

-- these were picked, and taken out of the set; what is left keeps the form
pub record Pops (n : Option ℤ) (gone : List (List ℕ)) (old : Members) (from : Form) (new : Members) (form : Form) : Type 0 where
  pub picked : ArePicked (has old) (len old) n gone
  pub is : new ≡ drop_all old gone
  pub form_is : 0 < len new → form ≡ from
