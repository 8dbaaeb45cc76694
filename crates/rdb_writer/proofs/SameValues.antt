-- A key with a value that is the same as another.
use Rattle.std.proofs.Common.{◌≡◌, ℕ, List, Result, subst}
use Rattle.outside.specs.Files.{ShelfSeen}
use Rattle.plain_world.specs.Worlds.{Value}
use Rattle.rdb_parts.specs.declared.pen.Pen.{Pen}
use Rattle.rdb_writer.specs.Keys.{WritesKey}

pub key_as : {T E : Type 0} (o n : ShelfSeen) (b a : Pen) (name : List ℕ) (value other : Value) (r : Result T E) → value ≡ other → WritesKey o n b a name value r → WritesKey o n b a name other r
key_as o n b a name value other r is p = subst (λ v. WritesKey o n b a name v r) is p
