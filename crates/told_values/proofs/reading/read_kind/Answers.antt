use Rattle.std.proofs.Common.{sym, subst}
use Rattle.quicklist.specs.Chain.{IsQuick}
use Rattle.set_object.specs.Members.{IsMembers}
use Rattle.hash_object.specs.Fields.{IsFields}
use Rattle.zset_object.specs.Scored.{IsScored}
use Rattle.stream_object.specs.Streams.{IsStream}
use Rattle.told_values.proofs.reading.read_kind.Goals as goal

-- what is asked of the value behind its box

pub read_list-requires : goal.read_list-requires
read_list-requires g c =
    let whole = rw c.in-List.is at c.requires.sound in
    record { sound = subst (IsQuick (g.B.BlockStore.blocks c.args.store.now)) (sym c.deref.ensures) whole.2 }

pub read_set-requires : goal.read_set-requires
read_set-requires g c =
    let whole = rw c.in-Set.is at c.requires.sound in
    record { sound = subst (IsMembers (g.B.BlockStore.blocks c.args.store.now)) (sym c.deref-in-Set.ensures) whole.2.0 }

pub read_hash-requires : goal.read_hash-requires
read_hash-requires g c =
    let whole = rw c.in-Hash.is at c.requires.sound in
    record { sound = subst (IsFields (g.B.BlockStore.blocks c.args.store.now)) (sym c.deref-in-Hash.ensures) whole.2.0 }

pub read_scores-requires : goal.read_scores-requires
read_scores-requires g c =
    let whole = rw c.in-Zset.is at c.requires.sound in
    record { sound = subst (IsScored (g.B.BlockStore.blocks c.args.store.now)) (sym c.deref-in-Zset.ensures) whole.2.0 }

pub read_stream-requires : goal.read_stream-requires
read_stream-requires g c =
    let whole = rw c.in-Stream.is at c.requires.sound in
    subst (IsStream (g.B.BlockStore.blocks c.args.store.now)) (sym c.deref-in-Stream.ensures) whole.2
