use Rattle.std.proofs.Common.{[], ◌∷◌}
use Rattle.rdb_parts.specs.Words.{length_word}
use Rattle.rdb_parts.proofs.Penned.{adds_nothing, writes_then}
use Rattle.rdb_writer.proofs.saving.write_select.Goals as goal

pub returns-then-named : goal.returns-then-named
returns-then-named g c = rw c.if-named.true (adds_nothing _ c.args.pen.now)

pub returns : goal.returns
returns g c = rw c.if-named.false (writes_then _ _ _ _ _ _ (254 ∷ []) (length_word c.args.db) c.write_length.result c.in_ok-write.ensures c.write_length.ensures)
