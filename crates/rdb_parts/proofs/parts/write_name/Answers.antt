use Rattle.std.proofs.Common.{[], ◌∷◌, ap, sym, subst}
use Rattle.std.proofs.lemmas.List.{append-nil}
use Rattle.rdb_parts.specs.Words.{string_word}
use Rattle.rdb_parts.proofs.Penned.{writes_then}
use Rattle.rdb_parts.proofs.parts.write_name.Goals as goal

pub returns-in-Ok : goal.returns-in-Ok
returns-in-Ok g c = writes_then _ _ _ _ _ _ (c.args.type_number ∷ []) (string_word c.args.name.now) c.write_string.result c.in-Ok.ensures c.write_string.ensures
