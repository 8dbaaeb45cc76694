-- An element put beside another one.
use Rattle.std.specs.Prelude.{◌≡◌, ◌<◌, ◌≤◌, ℕ, List, [], length, take, get_or, Option, None, Some, true, bytes_eq}
use Rattle.std.specs.List.{insert}
use Rattle.object_codec.specs.declared.form.Form.{Form}
use Rattle.quicklist.specs.Chain.{IsRisen}
use Rattle.plain_model.specs.ListSteps.{Elements, places, inserted_beside}
use Rattle.plain_model.specs.declared.list_command.Side.{Side}

-- at the index stands the first element that equals the text
pub record IsFirst (text : List ℕ) (list : Elements) (index : ℕ) : Type 0 where
  pub inside : index < length list
  pub first : places 0 text (take index list) ≡ []
  pub equal : bytes_eq (get_or list index []) text ≡ true

-- what is put on a side of the pivot is put before this index, or no element equals the pivot (Redis command reference,
-- LINSERT)
abbrev pub IsBeside : Side → List ℕ → Elements → Option ℕ → Type 0
IsBeside side pivot list None = (element : List ℕ) → inserted_beside side pivot element list ≡ None
IsBeside side pivot list (Some index) =
    (index ≤ length list) × ((element : List ℕ) → inserted_beside side pivot element list ≡ Some (insert list index element))

-- an element was put before this index of the list, which has this length now
pub record Inserts (index : ℕ) (element : List ℕ) (long : ℕ) (old : Elements) (from : Form) (new : Elements) (form : Form)
    : Type 0 where
  pub is : new ≡ insert old index element
  pub counted : long ≡ length new
  pub risen : IsRisen from new form
