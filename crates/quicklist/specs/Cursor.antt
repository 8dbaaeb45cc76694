-- The places of elements in a list.
use Rattle.std.specs.Prelude.{◌≡◌, ℕ, List}
use Rattle.blocks.specs.Blocks.{Blocks}
use Rattle.listpack.specs.Pack.{IsAt}
use Rattle.quicklist.specs.declared.node.Container.{Container}
use Rattle.quicklist.specs.declared.node.Container.TheVariants.{Plain, Packed}
use Rattle.quicklist.specs.declared.cursor.Cursor.{Cursor}
use Rattle.quicklist.specs.Nodes.{IsPlace, node_at, bytes_of}
use Rattle.quicklist.specs.Chain.{Chain}

-- the element at this index of a node of these bytes stands at the offset: in a packed node that of its entry
abbrev pub IsOffsetIn : Container → List ℕ → ℕ → ℕ → Type 0
IsOffsetIn Plain bytes index at = (index ≡ 0) × (at ≡ 0)
IsOffsetIn Packed bytes index at = IsAt bytes index at

-- the cursor is the place of the element at its index
pub record IsCursor (blocks : Blocks) (q : Chain) (cursor : Cursor) : Type 0 where
  pub among : ℕ
  pub place : IsPlace q.nodes cursor.index cursor.node among
  pub offset : IsOffsetIn (node_at q.nodes cursor.node).container
      (bytes_of blocks (node_at q.nodes cursor.node)) among cursor.at
