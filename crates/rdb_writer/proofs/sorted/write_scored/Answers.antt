use Rattle.std.proofs.Common.{rules, ◌≡◌, ◌<◌, ◌^◌, length, sym, subst, ◌∙◌}
use Rattle.zset_object.specs.Scored.{ranked, scores}
use Rattle.plain_world.specs.Worlds.{SortedOf}
use Rattle.rdb_writer.specs.Collections.{members_word}
use Rattle.rdb_writer.proofs.Ranked.{ranked_count, scored_spelled}
use Rattle.rdb_grammar.specs.Items.{Key, item}
use Rattle.rdb_parts.specs.Pens.{Adds}
use Rattle.rdb_parts.specs.Words.{length_word}
use Rattle.rdb_parts.proofs.Penned.{lost_then}
use Rattle.rdb_writer.proofs.Pieces.{key_written}
use Rattle.rdb_writer.proofs.sorted.write_scored.Goals as goal

pub returns-in_err-write_length : goal.returns-in_err-write_length
returns-in_err-write_length g c =
    let lost = lost_then _ _ _ c.args.pen.now c.write_name.new.pen _ c.in_ok-write_name.ensures c.in_err-write_length.ensures in
    search (rules, lost)

pub returns : goal.returns
returns g c =
    let m = g.B.BlockStore.blocks c.args.store.now in
    let name = c.args.name.now in
    let xs = ranked m c.args.scored.now in
    let is : c.len.result ≡ length xs = c.len.ensures m c.requires.sound ∙ sym (ranked_count m c.args.scored.now c.requires.sound) in
    let few : length xs < 2 ^ 64 = subst (λ n. n < 2 ^ 64) is c.len.type_inv in
    let count = subst (λ n. Adds (g.F.Shelf.seen c.write_name.new.shelf) (g.F.Shelf.seen c.write_length.new.shelf) c.write_name.new.pen c.write_length.new.pen (length_word n)) is c.in_ok-write_length.ensures in
    key_written _ _ _ _ c.args.pen.now c.write_name.new.pen c.write_length.new.pen _ 5 name (length xs) (members_word xs) (λ w. item.Spells (Key name (SortedOf (scores m c.args.scored.now))) w) c.write_ranked.result
    c.in_ok-write_name.ensures count c.write_ranked.ensures (scored_spelled m c.args.scored.now name c.requires.sound c.requires.short c.requires.fit few)
