use Rattle.std.proofs.Common.{ap, sym, subst, ◌∙◌}
use Rattle.plain_world.specs.Worlds.{ListOf, SetOf, HashOf, SortedOf, StreamOf}
use Rattle.fit_worlds.specs.Fit.{IsFitValue}
use Rattle.keyspace.specs.Values.{value_of}
use Rattle.quicklist.specs.Chain.{elements, IsQuick}
use Rattle.set_object.specs.Members.{members, IsMembers}
use Rattle.hash_object.specs.Fields.{fields, IsFields}
use Rattle.zset_object.specs.Scored.{scores, IsScored}
use Rattle.stream_object.specs.Streams.{stream_of, IsStream}
use Rattle.rdb_writer.proofs.SameValues.{key_as}
use Rattle.rdb_writer.proofs.keys.write_key.Goals as goal

-- what is asked of the value behind its box, and what it means

pub write_text-requires-clause-owned : goal.write_text-requires-clause-owned
write_text-requires-clause-owned g c = rw c.in-Text.is at c.requires.owned

pub write_text-requires-clause-fit : goal.write_text-requires-clause-fit
write_text-requires-clause-fit g c = rw c.in-Text.is at c.requires.fit

pub returns-in-Text : goal.returns-in-Text
returns-in-Text g c = key_as _ _ _ _ _ _ _ _ (sym (ap (value_of (g.B.BlockStore.blocks c.args.store.now)) c.in-Text.is)) c.write_text.ensures

pub write_list-requires-clause-sound : goal.write_list-requires-clause-sound
write_list-requires-clause-sound g c =
    let m = g.B.BlockStore.blocks c.args.store.now in
    let whole = rw c.in-List.is at c.requires.sound in
    subst (IsQuick m) (sym c.deref.ensures) whole.2

pub write_list-requires-clause-fit : goal.write_list-requires-clause-fit
write_list-requires-clause-fit g c =
    let m = g.B.BlockStore.blocks c.args.store.now in
    let whole = rw c.in-List.is at c.requires.fit in
    subst (λ q. IsFitValue (ListOf (elements m q))) (sym c.deref.ensures) whole

pub returns-in-List : goal.returns-in-List
returns-in-List g c =
    let m = g.B.BlockStore.blocks c.args.store.now in
    key_as _ _ _ _ _ _ _ _ (ap (λ q. ListOf (elements m q)) c.deref.ensures ∙ sym (ap (value_of m) c.in-List.is)) c.write_list.ensures

pub write_set-requires-clause-sound : goal.write_set-requires-clause-sound
write_set-requires-clause-sound g c =
    let m = g.B.BlockStore.blocks c.args.store.now in
    let whole = rw c.in-Set.is at c.requires.sound in
    subst (IsMembers m) (sym c.deref-in-Set.ensures) whole.2.0

pub write_set-requires-clause-fit : goal.write_set-requires-clause-fit
write_set-requires-clause-fit g c =
    let m = g.B.BlockStore.blocks c.args.store.now in
    let whole = rw c.in-Set.is at c.requires.fit in
    subst (λ q. IsFitValue (SetOf (members m q))) (sym c.deref-in-Set.ensures) whole

pub returns-in-Set : goal.returns-in-Set
returns-in-Set g c =
    let m = g.B.BlockStore.blocks c.args.store.now in
    key_as _ _ _ _ _ _ _ _ (ap (λ q. SetOf (members m q)) c.deref-in-Set.ensures ∙ sym (ap (value_of m) c.in-Set.is)) c.write_set.ensures

pub write_hash-requires-clause-sound : goal.write_hash-requires-clause-sound
write_hash-requires-clause-sound g c =
    let m = g.B.BlockStore.blocks c.args.store.now in
    let whole = rw c.in-Hash.is at c.requires.sound in
    subst (IsFields m) (sym c.deref-in-Hash.ensures) whole.2.0

pub write_hash-requires-clause-fit : goal.write_hash-requires-clause-fit
write_hash-requires-clause-fit g c =
    let m = g.B.BlockStore.blocks c.args.store.now in
    let whole = rw c.in-Hash.is at c.requires.fit in
    subst (λ q. IsFitValue (HashOf (fields m q))) (sym c.deref-in-Hash.ensures) whole

pub returns-in-Hash : goal.returns-in-Hash
returns-in-Hash g c =
    let m = g.B.BlockStore.blocks c.args.store.now in
    key_as _ _ _ _ _ _ _ _ (ap (λ q. HashOf (fields m q)) c.deref-in-Hash.ensures ∙ sym (ap (value_of m) c.in-Hash.is)) c.write_hash.ensures

pub write_scored-requires-clause-sound : goal.write_scored-requires-clause-sound
write_scored-requires-clause-sound g c =
    let m = g.B.BlockStore.blocks c.args.store.now in
    let whole = rw c.in-Zset.is at c.requires.sound in
    subst (IsScored m) (sym c.deref-in-Zset.ensures) whole.2.0

pub write_scored-requires-clause-fit : goal.write_scored-requires-clause-fit
write_scored-requires-clause-fit g c =
    let m = g.B.BlockStore.blocks c.args.store.now in
    let whole = rw c.in-Zset.is at c.requires.fit in
    subst (λ q. IsFitValue (SortedOf (scores m q))) (sym c.deref-in-Zset.ensures) whole

pub returns-in-Zset : goal.returns-in-Zset
returns-in-Zset g c =
    let m = g.B.BlockStore.blocks c.args.store.now in
    key_as _ _ _ _ _ _ _ _ (ap (λ q. SortedOf (scores m q)) c.deref-in-Zset.ensures ∙ sym (ap (value_of m) c.in-Zset.is)) c.write_scored.ensures

pub write_log-requires-clause-sound : goal.write_log-requires-clause-sound
write_log-requires-clause-sound g c =
    let m = g.B.BlockStore.blocks c.args.store.now in
    let whole = rw c.in-Stream.is at c.requires.sound in
    subst (IsStream m) (sym c.deref-in-Stream.ensures) whole.2

pub write_log-requires-clause-fit : goal.write_log-requires-clause-fit
write_log-requires-clause-fit g c =
    let m = g.B.BlockStore.blocks c.args.store.now in
    let whole = rw c.in-Stream.is at c.requires.fit in
    subst (λ q. IsFitValue (StreamOf (stream_of m q))) (sym c.deref-in-Stream.ensures) whole

pub returns-in-Stream : goal.returns-in-Stream
returns-in-Stream g c =
    let m = g.B.BlockStore.blocks c.args.store.now in
    key_as _ _ _ _ _ _ _ _ (ap (λ q. StreamOf (stream_of m q)) c.deref-in-Stream.ensures ∙ sym (ap (value_of m) c.in-Stream.is)) c.write_log.ensures
