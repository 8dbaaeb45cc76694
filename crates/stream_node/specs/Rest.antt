-- The elements of a listpack from one on.
use Rattle.std.specs.Prelude.{ℕ, ◌-◌, List, length, drop}
use Rattle.listpack.specs.View.{list_of}
use Rattle.stream_node.specs.declared.rest.Rest.{Rest}

-- each by its text
abbrev pub rest_of : Rest → List (List ℕ)
rest_of r = drop (length (list_of r.pack) - r.left) (list_of r.pack)
