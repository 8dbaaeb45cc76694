-- Values set in a hash, and fields taken out.
use Rattle.std.specs.Prelude.{◌≡◌, ℕ, ◌-◌, List, Option}
use Rattle.std.specs.FinMap.{len}
use Rattle.object_codec.specs.declared.form.Form.{Form}
use Rattle.object_codec.specs.declared.limits.Limits.{Limits}
use Rattle.plain_world.specs.Worlds.{World}
use Rattle.plain_model.specs.HashSteps.{Fields, set_all, unset_all, or_no_fields, keep_hash}
use Rattle.keyspace.specs.Forms.{RisesBy}
use Rattle.cmd_hashes.specs.Changed.{IsBefore}

-- each value was set at its field, and so many fields are new
pub record Sets (pairs : List (List ℕ × List ℕ)) (fresh : ℕ) (limits : Limits) (old : Fields) (from : Form) (new : Fields)
    (form : Form) : Type 0 where
  pub is : new ≡ set_all old pairs
  pub counted : fresh ≡ len new - len old
  pub risen : RisesBy limits from old pairs form

-- each value was set in the hash at a key, or in a new one, and so many fields are new
pub record IsSet (old : World) (key : List ℕ) (pairs : List (List ℕ × List ℕ)) (fresh : ℕ) (new : World) : Type 0 where
  pub before : Option Fields
  pub stands : IsBefore old key before
  pub world : new ≡ keep_hash old key (set_all (or_no_fields before) pairs)
  pub counted : fresh ≡ len (set_all (or_no_fields before) pairs) - len (or_no_fields before)

-- these fields were taken out, so many of which were there
pub record Unsets (names : List (List ℕ)) (gone : ℕ) (old : Fields) (from : Form) (new : Fields) (form : Form) : Type 0 where
  pub is : new ≡ unset_all old names
  pub counted : gone ≡ len old - len new
  pub form_is : form ≡ from
