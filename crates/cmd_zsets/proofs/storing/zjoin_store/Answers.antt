use Rattle.std.proofs.Common.{sym}
use Rattle.plain_model.specs.declared.zset_command.ZsetCommand.TheVariants as zsets
use Rattle.keyspace.specs.Scopes.{one_key}
use Rattle.keyspace.specs.Forms.{zset_form}
use Rattle.keyspace.specs.Commands.{visible}
use Rattle.keyspace.proofs.Running.{unchanged}
use Rattle.keyspace.proofs.Forming.{formed_ok, formed_key}
use Rattle.cmd_zsets.specs.Joined.{gathered}
use Rattle.cmd_zsets.proofs.Telling.{counted_calm}
use Rattle.cmd_zsets.proofs.Joins.{stored_told, stored_refused, stored_out, stored_form}
use Rattle.cmd_zsets.proofs.storing.zjoin_store.Goals as goal

pub returns-then-not-are_sources-clause-gives : goal.returns-then-not-are_sources-clause-gives
returns-then-not-are_sources-clause-gives g c =
    stored_refused c.args.keyspace.now.bases.seed (visible g.B.BlockStore.blocks c.args.keyspace.now c.args.at.now) c.args.join c.args.how c.args.to.now c.args.keys.now c.refused.result
    (sym c.if-not-are_sources.ensures) c.refused.ensures

pub returns-then-not-are_sources-clause-kept : goal.returns-then-not-are_sources-clause-kept
returns-then-not-are_sources-clause-kept g c = unchanged g.B.BlockStore.blocks g.B.BlockStore.step (one_key c.args.at.now.db c.args.to.now) c.args.keyspace.now c.refused.result c.requires.ready.sound

pub returns-in_err-sums-clause-kept : goal.returns-in_err-sums-clause-kept
returns-in_err-sums-clause-kept g c = unchanged g.B.BlockStore.blocks g.B.BlockStore.step (one_key c.args.at.now.db c.args.to.now) c.args.keyspace.now _ c.requires.ready.sound

pub returns-then-not-are_in_range-clause-gives : goal.returns-then-not-are_in_range-clause-gives
returns-then-not-are_in_range-clause-gives g c =
    stored_out c.args.keyspace.now.bases.seed (visible g.B.BlockStore.blocks c.args.keyspace.now c.args.at.now) c.args.join c.args.how c.args.to.now c.args.keys.now
    (gathered c.in_ok-sums.sums) c.refused-then-not-are_in_range.result (sym c.if-not-are_sources.ensures) c.in_ok-sums.ensures (sym c.if-not-are_in_range.ensures)
    c.refused-then-not-are_in_range.ensures

pub returns-then-not-are_in_range-clause-kept : goal.returns-then-not-are_in_range-clause-kept
returns-then-not-are_in_range-clause-kept g c = unchanged g.B.BlockStore.blocks g.B.BlockStore.step (one_key c.args.at.now.db c.args.to.now) c.args.keyspace.now
    c.refused-then-not-are_in_range.result c.requires.ready.sound

pub returns-clause-gives : goal.returns-clause-gives
returns-clause-gives g c =
    stored_told c.args.keyspace.now.bases.seed (visible g.B.BlockStore.blocks c.args.keyspace.now c.args.at.now) c.args.join c.args.how c.args.to.now c.args.keys.now
    (visible g.B.BlockStore.blocks c.put_sums.new.keyspace c.args.at.now) c.in_ok-count.count (gathered c.in_ok-sums.sums) c.count_reply.result
    (sym c.if-not-are_sources.ensures) c.in_ok-sums.ensures (sym c.if-not-are_in_range.ensures) c.in_ok-count.ensures.counted c.in_ok-count.ensures.world c.count_reply.ensures

pub returns-clause-kept : goal.returns-clause-kept
returns-clause-kept g c =
    counted_calm g.B.BlockStore.blocks g.B.BlockStore.step (one_key c.args.at.now.db c.args.to.now) c.args.keyspace.now c.put_sums.new.keyspace _ c.count_reply.result c.count_reply.ensures
    c.put_sums.ensures.held

pub returns-clause-forms : goal.returns-clause-forms
returns-clause-forms g c =
    let blocks = g.B.BlockStore.blocks in
    let world = visible blocks c.args.keyspace.now c.args.at.now in
    let form = zset_form c.args.at.now.db world (zsets.ZJoinStore c.args.join c.args.to.now c.args.keys.now c.args.how) in
    formed_ok blocks form c.args.keyspace.now c.put_sums.new.keyspace c.count_reply.result
    (formed_key form c.args.at.now.db c.args.to.now c.args.keyspace.now.bases c.put_sums.new.keyspace.bases (blocks c.args.keyspace.now.store) (blocks c.put_sums.new.keyspace.store)
    c.put_sums.ensures.held.within c.put_sums.ensures.held.sound.arranged
    (λ number e found bytes. stored_form world c.args.join c.args.how c.args.keys.now (gathered c.in_ok-sums.sums) c.args.keyspace.now.bases e.value (sym c.if-not-are_sources.ensures)
    c.in_ok-sums.ensures (c.in_ok-count.ensures.new number e found bytes)))
