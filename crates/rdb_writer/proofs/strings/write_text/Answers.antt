use Rattle.std.proofs.Common.{◌∷◌}
use Rattle.string_object.specs.Text.{text_bytes}
use Rattle.plain_world.specs.Worlds.{Str}
use Rattle.rdb_grammar.specs.Items.{Key, item}
use Rattle.rdb_parts.specs.Words.{string_word, key_word}
use Rattle.rdb_parts.proofs.Penned.{writes_then}
use Rattle.rdb_writer.proofs.Pieces.{written_some}
use Rattle.rdb_writer.proofs.Spelling.{text_spelled}
use Rattle.rdb_writer.proofs.strings.write_text.Goals as goal

pub returns : goal.returns
returns g c =
    let name = c.args.name.now in
    let text = text_bytes (g.B.BlockStore.blocks c.args.store.now) c.args.text.now in
    let bytes = rw c.bytes.ensures at c.write_string.ensures in
    written_some _ _ _ _ (key_word 0 name (string_word text)) (λ w. item.Spells (Key name (Str text)) w) c.write_string.result
    (writes_then _ _ _ _ _ _ (0 ∷ string_word name) (string_word text) c.write_string.result c.in_ok-write_name.ensures bytes)
    (text_spelled name text c.requires.short c.requires.fit)
