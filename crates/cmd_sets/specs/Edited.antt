-- Members put into a set, and taken out of one.
use Rattle.std.specs.Prelude.{◌≡◌, ◌-◌, ◌<◌, ℕ, List}
use Rattle.std.specs.FinMap.{len}
use Rattle.object_codec.specs.declared.form.Form.{Form}
use Rattle.object_codec.specs.declared.limits.Limits.{Limits}
use Rattle.plain_model.specs.SetSteps.{Members, add_all, drop_all}
use Rattle.keyspace.specs.Forms.{RisesWith}

-- these were put into the set, and so many were new
pub record Adds (limits : Limits) (words : List (List ℕ)) (added : ℕ) (old : Members) (from : Form) (new : Members)
    (form : Form) : Type 0 where
  pub is : new ≡ add_all old words
  pub counted : added ≡ len new - len old
  pub risen : RisesWith limits from old words form

-- these were taken out of the set, and so many were there; what is left keeps the form
pub record Drops (words : List (List ℕ)) (removed : ℕ) (old : Members) (from : Form) (new : Members) (form : Form)
    : Type 0 where
  pub is : new ≡ drop_all old words
  pub counted : removed ≡ len old - len new
  pub form_is : 0 < len new → form ≡ from
