-- What is left of a walk over a node's entries.
use Rattle.std.specs.Prelude.{◌≡◌, ℕ, List, [], length, Option}
use Rattle.stream_node.specs.declared.id.Id.{Id}
use Rattle.stream_node.specs.declared.head.Head.{Head}
use Rattle.stream_node.specs.declared.rest.Rest.{Rest}
use Rattle.stream_node.specs.Entry.{Stored}
use Rattle.stream_node.specs.Node.{Begins}
use Rattle.stream_node.specs.Rest.{rest_of}
use Rattle.stream_node.specs.Reading.{master_of}

-- The list is that of so many entries, and nothing stands behind them.
pub record IsWalk (key : Id) (head : Head) (left : ℕ) (rest : Rest) : Type 0 where
  pub before : Option Id
  pub entries : List Stored
  pub begins : Begins key (master_of head) before (rest_of rest) entries []
  pub count : length entries ≡ left
