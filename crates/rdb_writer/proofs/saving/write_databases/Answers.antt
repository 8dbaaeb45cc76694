use Rattle.std.proofs.Common.{rules, ◌≡◌, ◌-◌, ◌^◌, ◌++◌, [], min, subst, arith}
use Rattle.rdb_parts.proofs.Penned.{adds_nothing, adds_then, lost_then}
use Rattle.rdb_writer.specs.Saving.{saved, keys_below, Saves}
use Rattle.rdb_writer.proofs.Saved.{saves_nothing, saves_then, none_counted, more_counted}
use Rattle.rdb_writer.proofs.saving.write_databases.Goals as goal

pub loop-db-init : goal.loop-db-init
loop-db-init g c =
    let m = g.B.BlockStore.blocks c.args.keyspace.now.store in
    record {
      word = [];
      so_far = adds_nothing _ c.args.pen.now;
      saves = saves_nothing c.args.keyspace.now.bases m c.args.moment 0 0 0;
      keys = none_counted (saved c.args.keyspace.now.bases m c.args.moment).bases;
    }

pub write_database-requires-clause-db : goal.write_database-requires-clause-db
write_database-requires-clause-db g c = c.loop-db-test.true

pub write_database-requires-clause-sound : goal.write_database-requires-clause-sound
write_database-requires-clause-sound g c = c.requires.sound

pub write_database-requires-clause-fit : goal.write_database-requires-clause-fit
write_database-requires-clause-fit g c = c.requires.fit

pub returns-in_err-count-clause-writes : goal.returns-in_err-count-clause-writes
returns-in_err-count-clause-writes g c =
    let lost = lost_then _ _ _ c.args.pen.now c.loop-db.pen _ c.loop-db.invariant.so_far c.in_err-count.ensures.writes in
    search (rules, lost)

pub loop-db-preserved : goal.loop-db-preserved
loop-db-preserved g c =
    let bases = c.args.keyspace.now.bases in
    let m = g.B.BlockStore.blocks c.args.keyspace.now.store in
    let w = c.in_ok-count.ensures.writes in
    let i = c.loop-db.invariant in
    record {
      word = i.word ++ w.0;
      so_far = adds_then _ _ _ c.args.pen.now c.loop-db.pen c.write_database.new.pen i.word w.0 i.so_far w.1;
      saves = saves_then bases m c.args.moment _ _ _ _ _ _ _ _ _ i.word w.0 i.saves w.2;
      keys = more_counted (saved bases m c.args.moment).bases c.loop-db.db c.loop-db.total c.in_ok-count.count _ i.keys c.in_ok-count.ensures.keys c.saturating_add-total.ensures;
    }

pub returns-clause-writes : goal.returns-clause-writes
returns-clause-writes g c =
    let i = c.loop-db.invariant in
    let all : c.loop-db.db ≡ 16 = omega (arith, c.loop-db-test.false, c.loop-db.auto.db-end) in (
      i.word,
      i.so_far,
      subst (λ n. Saves c.args.keyspace.now.bases (g.B.BlockStore.blocks c.args.keyspace.now.store) c.args.moment 0 0 0 n 0 0 i.word) all i.saves,
    )

pub returns-clause-keys : goal.returns-clause-keys
returns-clause-keys g c =
    let all : c.loop-db.db ≡ 16 = omega (arith, c.loop-db-test.false, c.loop-db.auto.db-end) in
    subst (λ n. c.loop-db.total ≡ min (keys_below n (saved c.args.keyspace.now.bases (g.B.BlockStore.blocks c.args.keyspace.now.store) c.args.moment).bases) (2 ^ 64 - 1)) all c.loop-db.invariant.keys
