-- What is written of a key with its value.
use Rattle.std.specs.Prelude.{List, ℕ, Result}
use Rattle.outside.specs.Files.{ShelfSeen}
use Rattle.plain_world.specs.Worlds.{Value}
use Rattle.rdb_grammar.specs.Items.{Key, item}
use Rattle.rdb_parts.specs.declared.pen.Pen.{Pen}
use Rattle.rdb_parts.specs.Pens.{WritesSome}

-- bytes are written that spell the key with its value, or the shelf failed
abbrev pub WritesKey : {T E : Type 0} → ShelfSeen → ShelfSeen → Pen → Pen → List ℕ → Value → Result T E → Type 0
WritesKey old new before after name value result =
    WritesSome old new before after (λ done word. item.Spells (Key name value) word) result
