use Rattle.std.proofs.Common.{◌≡◌, subst, sym}
use Rattle.std.specs.Box.{with_value}
use Rattle.blocks.specs.Blocks.{Changes}
use Rattle.quicklist.specs.Chain.{elements, refs, IsPassed}
use Rattle.set_object.specs.Relocation as set_marks
use Rattle.hash_object.specs.Relocation as hash_marks
use Rattle.zset_object.specs.Relocation as zset_marks
use Rattle.collection_walk.specs.Marks.{is_passed, ArePassed}
use Rattle.stream_object.specs.Streams as stream
use Rattle.stream_object.specs.Relocation as stream_marks
use Rattle.stored.specs.Passing.{PassesPart}
use Rattle.keyspace.specs.declared.value.Value.TheVariants as kinds
use Rattle.keyspace.specs.Values.{value_refs, value_of, value_marks, value_tables, IsSound, encoding_of}
use Rattle.keyspace.proofs.Moving.{text_passes, list_passes, set_passes, hash_passes, zset_passes, stream_passes}
use Rattle.keyspace.proofs.kind.ValueStored.relocate_part.Goals as goal

pub returns-in-Text : goal.returns-in-Text
returns-in-Text g c =
    let m = g.B.BlockStore.blocks c.args.store.now in
    let after = g.B.BlockStore.blocks c.relocate_part.new.store in
    let heap = g.B.BlockStore.heap c.args.store.now in
    let later = g.B.BlockStore.heap c.relocate_part.new.store in
    let e = c.relocate_part.ensures in
    subst
    (λ v. PassesPart value_refs value_of IsSound value_marks value_tables encoding_of m after heap later v (kinds.Text c.relocate_part.new.self) c.args.from c.args.room
    c.relocate_part.result) (sym c.in-Text.is)
    (text_passes m after heap later c.in-Text.text c.relocate_part.new.self c.args.from c.args.room c.relocate_part.result e.bytes e.raw e.changes e.calmer e.blocks e.passed e.stays e.next
    e.used c.requires.room)

pub returns-in-List : goal.returns-in-List
returns-in-List g c =
    let m = g.B.BlockStore.blocks c.args.store.now in
    let after = g.B.BlockStore.blocks c.relocate_part-in-List.new.store in
    let heap = g.B.BlockStore.heap c.args.store.now in
    let later = g.B.BlockStore.heap c.relocate_part-in-List.new.store in
    let new = c.relocate_part-in-List.new.self in
    let e = c.relocate_part-in-List.ensures in
    let is = c.deref_mut.ensures.value in
    subst
    (λ v. PassesPart value_refs value_of IsSound value_marks value_tables encoding_of m after heap later v (kinds.List (with_value c.in-List.list new)) c.args.from c.args.room
    c.relocate_part-in-List.result) (sym c.in-List.is)
    (list_passes m after heap later c.in-List.list new c.args.from c.args.room c.relocate_part-in-List.result e.quick (subst (λ x. elements after new ≡ elements m x) is e.list)
    (subst (λ x. new.form ≡ x.form) is e.form) (subst (λ x. Changes m after (refs x) (refs new)) is e.changes) e.calmer
    (subst (λ x. IsPassed later (refs x) (refs new) c.args.from c.args.room c.relocate_part-in-List.result) is e.passed))

pub returns-in-Set : goal.returns-in-Set
returns-in-Set g c =
    let m = g.B.BlockStore.blocks c.args.store.now in
    let after = g.B.BlockStore.blocks c.relocate_part-in-Set.new.store in
    let heap = g.B.BlockStore.heap c.args.store.now in
    let later = g.B.BlockStore.heap c.relocate_part-in-Set.new.store in
    let new = c.relocate_part-in-Set.new.self in
    let e = c.relocate_part-in-Set.ensures in
    let is = c.deref_mut-in-Set.ensures.value in
    subst
    (λ v. PassesPart value_refs value_of IsSound value_marks value_tables encoding_of m after heap later v (kinds.Set (with_value c.in-Set.members new)) c.args.from c.args.room
    c.relocate_part-in-Set.result) (sym c.in-Set.is)
    (set_passes m after heap later c.in-Set.members new c.args.from c.args.room c.relocate_part-in-Set.result (subst (λ x. set_marks.IsRelocated m after x new) is e.relocated)
    (subst (λ x. set_marks.PassesPart later x new c.args.from c.args.room c.relocate_part-in-Set.result) is e.passed) e.calmer)

pub returns-in-Hash : goal.returns-in-Hash
returns-in-Hash g c =
    let m = g.B.BlockStore.blocks c.args.store.now in
    let after = g.B.BlockStore.blocks c.relocate_part-in-Hash.new.store in
    let heap = g.B.BlockStore.heap c.args.store.now in
    let later = g.B.BlockStore.heap c.relocate_part-in-Hash.new.store in
    let new = c.relocate_part-in-Hash.new.self in
    let e = c.relocate_part-in-Hash.ensures in
    let is = c.deref_mut-in-Hash.ensures.value in
    subst
    (λ v. PassesPart value_refs value_of IsSound value_marks value_tables encoding_of m after heap later v (kinds.Hash (with_value c.in-Hash.fields new)) c.args.from c.args.room
    c.relocate_part-in-Hash.result) (sym c.in-Hash.is)
    (hash_passes m after heap later c.in-Hash.fields new c.args.from c.args.room c.relocate_part-in-Hash.result (subst (λ x. hash_marks.IsRelocated m after x new) is e.relocated)
    (subst (λ x. hash_marks.PassesPart later x new c.args.from c.args.room c.relocate_part-in-Hash.result) is e.passed) e.calmer)

pub returns-in-Zset : goal.returns-in-Zset
returns-in-Zset g c =
    let m = g.B.BlockStore.blocks c.args.store.now in
    let after = g.B.BlockStore.blocks c.relocate_part-in-Zset.new.store in
    let heap = g.B.BlockStore.heap c.args.store.now in
    let later = g.B.BlockStore.heap c.relocate_part-in-Zset.new.store in
    let new = c.relocate_part-in-Zset.new.self in
    let e = c.relocate_part-in-Zset.ensures in
    let is = c.deref_mut-in-Zset.ensures.value in
    subst
    (λ v. PassesPart value_refs value_of IsSound value_marks value_tables encoding_of m after heap later v (kinds.Zset (with_value c.in-Zset.scored new)) c.args.from c.args.room
    c.relocate_part-in-Zset.result) (sym c.in-Zset.is)
    (zset_passes m after heap later c.in-Zset.scored new c.args.from c.args.room c.relocate_part-in-Zset.result (subst (λ x. zset_marks.IsRelocated m after x new) is e.relocated)
    (subst (λ x. zset_marks.PassesPart later x new c.args.from c.args.room c.relocate_part-in-Zset.result) is e.passed) e.calmer)

pub returns-in-Stream : goal.returns-in-Stream
returns-in-Stream g c =
    let m = g.B.BlockStore.blocks c.args.store.now in
    let after = g.B.BlockStore.blocks c.relocate_part-in-Stream.new.store in
    let heap = g.B.BlockStore.heap c.args.store.now in
    let later = g.B.BlockStore.heap c.relocate_part-in-Stream.new.store in
    let new = c.relocate_part-in-Stream.new.self in
    let answer = c.relocate_part-in-Stream.result in
    let e = c.relocate_part-in-Stream.ensures in
    let is = c.deref_mut-in-Stream.ensures.value in
    subst
    (λ v. PassesPart value_refs value_of IsSound value_marks value_tables encoding_of m after heap later v (kinds.Stream (with_value c.in-Stream.log new)) c.args.from c.args.room
    answer) (sym c.in-Stream.is)
    (stream_passes m after heap later c.in-Stream.log new c.args.from c.args.room answer (subst (λ x. stream_marks.IsRelocated m after x new) is e.relocated)
    (subst (λ x. ArePassed later (is_passed c.args.from answer.next) (stream.marks m x) (stream.refs m x) (stream.refs after new)) is e.passed)
    (subst (λ x. stream_marks.IsBounded (stream.marks m x) c.args.from c.args.room answer) is e.bounded) e.calmer)
