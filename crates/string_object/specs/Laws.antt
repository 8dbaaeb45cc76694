-- What a string depends on.
use Rattle.std.specs.Prelude.{◌≡◌, List, ◌++◌}
use Rattle.blocks.specs.declared.BlockRef.{BlockRef}
use Rattle.blocks.specs.Blocks.{Blocks, IsIn, Changes, Owned}
use Rattle.string_object.specs.declared.text.Text.{Text}
use Rattle.string_object.specs.Text.{text_bytes, text_refs}

-- A string depends on the blocks that it owns, and on no other.
pub record TextLaws : Type 0 where
  -- where those are the same, so are its bytes
  pub own : (a b : Blocks) (text : Text) → ((r : BlockRef) → IsIn r (text_refs text) → b r ≡ a r)
      → text_bytes b text ≡ text_bytes a text
  -- what others change among their blocks leaves its bytes, and its block its own
  pub others : (a b : Blocks) (text : Text) (old new : List BlockRef) → Owned (text_refs text ++ old) a
      → Changes a b old new → text_bytes b text ≡ text_bytes a text
  pub stays : (a b : Blocks) (text : Text) (old new : List BlockRef) → Owned (text_refs text ++ old) a
      → Changes a b old new → Owned (text_refs text ++ new) b
