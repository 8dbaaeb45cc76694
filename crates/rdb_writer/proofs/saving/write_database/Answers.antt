use Rattle.std.proofs.Common.{rules, ◌+◌, ◌<◌, ◌++◌, [], refl, subst, sym, IsSome, arith}
use Rattle.rehash_dict.specs.Table.{item}
use Rattle.keyspace.proofs.Uses.{sound_is_intact}
use Rattle.rdb_parts.proofs.Penned.{adds_nothing, adds_then, lost_then}
use Rattle.rdb_writer.specs.Saving.{Saves}
use Rattle.rdb_writer.proofs.Saved.{saves_nothing, saves_then, saves_all, saves_count, one_at_most}
use Rattle.rdb_writer.proofs.saving.write_database.Goals as goal

pub table-requires-clause-db : goal.table-requires-clause-db
table-requires-clause-db g c = c.requires.db

pub table-requires-clause-intact : goal.table-requires-clause-intact
table-requires-clause-intact g c = sound_is_intact _ _ [] c.requires.sound

pub loop-at-init : goal.loop-at-init
loop-at-init g c = record {
  word = [];
  so_far = adds_nothing _ c.args.pen.now;
  saves = saves_nothing c.args.keyspace.now.bases (g.B.BlockStore.blocks c.args.keyspace.now.store) c.args.moment c.args.db 0 0;
  few = omega arith;
}

pub write_item-requires-clause-db : goal.write_item-requires-clause-db
write_item-requires-clause-db g c = c.requires.db

pub write_item-requires-clause-sound : goal.write_item-requires-clause-sound
write_item-requires-clause-sound g c = c.requires.sound

pub write_item-requires-clause-fit : goal.write_item-requires-clause-fit
write_item-requires-clause-fit g c = c.requires.fit

pub returns-in_err-there-clause-writes : goal.returns-in_err-there-clause-writes
returns-in_err-there-clause-writes g c =
    let lost = lost_then _ _ _ c.args.pen.now c.loop-at.pen _ c.loop-at.invariant.so_far c.in_err-there.ensures in
    search (rules, lost)

pub overflow_add-count : goal.overflow_add-count
overflow_add-count g c = omega (arith, c.loop-at.invariant.few, c.from-count.ensures, one_at_most c.in_ok-there.there, c.loop-at-test.true, c.top-top.type_inv)

pub loop-at-preserved : goal.loop-at-preserved
loop-at-preserved g c =
    let bases = c.args.keyspace.now.bases in
    let m = g.B.BlockStore.blocks c.args.keyspace.now.store in
    let w = c.in_ok-there.ensures in
    let i = c.loop-at.invariant in
    let one = subst (λ n. Saves bases m c.args.moment c.args.db c.loop-at.at c.loop-at.count c.args.db (c.loop-at.at + 1) (c.loop-at.count + n) w.0) (sym c.from-count.ensures) (w.2 c.loop-at.count refl) in
    record {
      word = i.word ++ w.0;
      so_far = adds_then _ _ _ c.args.pen.now c.loop-at.pen c.write_item.new.pen i.word w.0 i.so_far w.1;
      saves = saves_then bases m c.args.moment _ _ _ _ _ _ _ _ _ i.word w.0 i.saves one;
      few = omega (arith, i.few, c.from-count.ensures, one_at_most c.in_ok-there.there);
    }

pub returns-clause-writes : goal.returns-clause-writes
returns-clause-writes g c =
    let i = c.loop-at.invariant in (
      i.word,
      i.so_far,
      saves_all c.args.keyspace.now.bases (g.B.BlockStore.blocks c.args.keyspace.now.store) c.args.moment c.requires.sound.arranged c.args.db c.requires.db c.loop-at.at c.loop-at.count i.word
          (λ at some. let below : at < c.top-top.result = c.top-top.ensures.above at (subst (λ t. IsSome (item t at)) (sym c.table.ensures) some) in omega (arith, below, c.loop-at-test.false)) i.saves,
    )

pub returns-clause-keys : goal.returns-clause-keys
returns-clause-keys g c =
    let i = c.loop-at.invariant in
    saves_count c.args.keyspace.now.bases (g.B.BlockStore.blocks c.args.keyspace.now.store) c.args.moment c.requires.sound.arranged c.args.db c.requires.db c.loop-at.at c.loop-at.count i.word
    (λ at some. let below : at < c.top-top.result = c.top-top.ensures.above at (subst (λ t. IsSome (item t at)) (sym c.table.ensures) some) in omega (arith, below, c.loop-at-test.false)) i.saves
