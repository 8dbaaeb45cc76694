use Rattle.std.proofs.Common.{rules, ◌≡◌, ◌<◌, ◌^◌, length, subst, ◌∙◌}
use Rattle.quicklist.specs.Chain.{elements}
use Rattle.plain_world.specs.Worlds.{ListOf}
use Rattle.rdb_parts.specs.Words.{strings_word}
use Rattle.rdb_writer.proofs.Listed.{list_spelled}
use Rattle.rdb_grammar.specs.Items.{Key, item}
use Rattle.rdb_parts.specs.Pens.{Adds}
use Rattle.rdb_parts.specs.Words.{length_word}
use Rattle.rdb_parts.proofs.Penned.{lost_then}
use Rattle.rdb_writer.proofs.Pieces.{key_written}
use Rattle.rdb_writer.proofs.lists.write_list.Goals as goal

pub returns-in_err-write_length : goal.returns-in_err-write_length
returns-in_err-write_length g c =
    let lost = lost_then _ _ _ c.args.pen.now c.write_name.new.pen _ c.in_ok-write_name.ensures c.in_err-write_length.ensures in
    search (rules, lost)

pub returns : goal.returns
returns g c =
    let m = g.B.BlockStore.blocks c.args.store.now in
    let name = c.args.name.now in
    let xs = elements m c.args.list.now in
    let is : c.len.result ≡ length xs = c.len.ensures ∙ c.requires.sound.counted in
    let few : length xs < 2 ^ 64 = subst (λ n. n < 2 ^ 64) is c.len.type_inv in
    let count = subst (λ n. Adds (g.F.Shelf.seen c.write_name.new.shelf) (g.F.Shelf.seen c.write_length.new.shelf) c.write_name.new.pen c.write_length.new.pen (length_word n)) is c.in_ok-write_length.ensures in
    key_written _ _ _ _ c.args.pen.now c.write_name.new.pen c.write_length.new.pen _ 1 name (length xs) (strings_word xs) (λ w. item.Spells (Key name (ListOf xs)) w) c.write_elements.result
    c.in_ok-write_name.ensures count c.write_elements.ensures (list_spelled name xs c.requires.short c.requires.fit.1 few)
