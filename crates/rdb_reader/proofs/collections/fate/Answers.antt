use Rattle.std.proofs.Common.{sym, ◌∙◌}
use Rattle.std.proofs.lemmas.Bool.{cond-true, cond-false}
use Rattle.plain_world.specs.Worlds.{Entry}
use Rattle.keyspace.specs.Databases.{means}
use Rattle.keyspace.specs.Values.{value_of}
use Rattle.rdb_reader.proofs.Anew.{beside_intact}
use Rattle.rdb_reader.proofs.Entries.{lacks, stood}
use Rattle.rdb_reader.proofs.collections.fate.Goals as goal

pub is_there-requires-clause-intact : goal.is_there-requires-clause-intact
is_there-requires-clause-intact g c = beside_intact c.args.keyspace.now.bases (g.B.BlockStore.blocks c.args.keyspace.now.store) c.args.value.now c.requires.beside

pub returns-then-is_there : goal.returns-then-is_there
returns-then-is_there g c =
    let m = g.B.BlockStore.blocks c.args.keyspace.now.store in
    stood c.args.moment (means c.args.db c.args.keyspace.now.bases m) c.args.name.now (record { value = value_of m c.args.value.now; deadline = c.args.deadline }) c.is_there.result
    c.is_there.ensures c.if-is_there.true

pub returns-then-is_void : goal.returns-then-is_void
returns-then-is_void g c =
    let m = g.B.BlockStore.blocks c.args.keyspace.now.store in
    let entry : Entry = record { value = value_of m c.args.value.now; deadline = c.args.deadline } in
    let void = c.is_void.ensures m c.args.keyspace.now.bases.limits c.args.keyspace.now.bases.seed c.requires.own in
    (lacks c.args.moment (means c.args.db c.args.keyspace.now.bases m) c.args.name.now entry c.is_there.result c.is_there.ensures c.if-is_there.false, cond-true _ _ _ (sym void ∙ c.if-is_void.true))

pub returns-then-is_in_time : goal.returns-then-is_in_time
returns-then-is_in_time g c =
    let m = g.B.BlockStore.blocks c.args.keyspace.now.store in
    let entry : Entry = record { value = value_of m c.args.value.now; deadline = c.args.deadline } in
    let void = c.is_void.ensures m c.args.keyspace.now.bases.limits c.args.keyspace.now.bases.seed c.requires.own in (
      lacks c.args.moment (means c.args.db c.args.keyspace.now.bases m) c.args.name.now entry c.is_there.result c.is_there.ensures c.if-is_there.false,
      cond-false _ _ _
          (sym void ∙ c.if-is_void.false) ∙ sym c.is_in_time.ensures ∙ c.if-is_in_time.true,
    )

pub returns-else-is_in_time : goal.returns-else-is_in_time
returns-else-is_in_time g c =
    let m = g.B.BlockStore.blocks c.args.keyspace.now.store in
    let entry : Entry = record { value = value_of m c.args.value.now; deadline = c.args.deadline } in
    let void = c.is_void.ensures m c.args.keyspace.now.bases.limits c.args.keyspace.now.bases.seed c.requires.own in (
      lacks c.args.moment (means c.args.db c.args.keyspace.now.bases m) c.args.name.now entry c.is_there.result c.is_there.ensures c.if-is_there.false,
      cond-false _ _ _
          (sym void ∙ c.if-is_void.false) ∙ sym c.is_in_time.ensures ∙ c.if-is_in_time.false,
    )
