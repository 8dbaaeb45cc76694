use Rattle.std.proofs.Common.{sym}
use Rattle.told_values.proofs.streams.read_stream.Goals as goal

pub returns-clause-told : goal.returns-clause-told
returns-clause-told g c =
    let m = g.B.BlockStore.blocks c.args.store.now in
    λ i. record {
      entries = c.in_ok-entries.ensures i;
      last = sym (c.last_id.ensures m) i;
      deleted = sym (c.greatest_deleted.ensures m) i;
      added = sym (c.added.ensures m) i;
      groups = c.in_ok-groups.ensures.told i;
    }
