use Rattle.std.proofs.Common.{◌≡◌, ◌∙◌, sym, ap, subst, arith}
use Rattle.std.specs.Prelude.{Option, IfSome, true}
use Rattle.std.specs.FinMap.{empty}
use Rattle.blocks.specs.Blocks.{Changes}
use Rattle.stream_node.specs.declared.id.Id.{Id}
use Rattle.stream_node.specs.Ids.{IsId}
use Rattle.stream_groups.specs.Groups.{Groups}
use Rattle.plain_world.specs.Worlds.{StreamOf}
use Rattle.stream_object.specs.declared.stream.Stream.{Stream as Log}
use Rattle.stream_object.specs.Streams.{nodes, refs, stream_of}
use Rattle.rdb_grammar.specs.StreamParts.{counted, with_group, is_from, marks_with}
use Rattle.rdb_grammar.specs.Views.{marks_of}
use Rattle.rdb_grammar.specs.Places.{Stands, Fails}
use Rattle.rdb_streams.specs.Reading.{Reads}
use Rattle.rdb_streams.proofs.Marked.{none_at_all, nodes_fail, marks_fail, groups_read, last_passes, covered_upto, marked_sound, marked_refs, marked_value}
use Rattle.rdb_streams.proofs.stream.read_stream.Goals as goal

pub read_nodes-requires-clause-none : goal.read_nodes-requires-clause-none
read_nodes-requires-clause-none g c = none_at_all (g.B.BlockStore.blocks c.args.store.now) c.args.stream.now c.requires.is_stream c.requires.none

pub returns-in-Err-clause-reads : goal.returns-in-Err-clause-reads
returns-in-Err-clause-reads g c =
    let m = g.B.BlockStore.blocks c.read_nodes.new.store in
    nodes_fail c.args.stream_type c.args.bytes.now c.args.at m c.read_nodes.new.stream (StreamOf (stream_of m c.read_nodes.new.stream)) c.in-Err.fault c.in-Err.ensures.reads

pub returns-in-Err-next_marks-clause-reads : goal.returns-in-Err-next_marks-clause-reads
returns-in-Err-next_marks-clause-reads g c =
    let m = g.B.BlockStore.blocks c.read_nodes.new.store in
    let s = c.read_nodes.new.stream in
    marks_fail c.args.stream_type c.args.bytes.now c.args.at c.in-Ok.read.0 m s c.in-Ok.read.1 c.in-Ok.ensures.reads c.len.result (c.len.ensures m c.read_nodes.ensures.sound)
    (StreamOf (stream_of m s)) c.refused.result
    c.in-Err-next_marks.fault.kind c.in-Err-next_marks.fault.at c.refused.ensures
    (subst (λ (id : Option Id). Fails (marks_with c.args.stream_type c.len.result (is_from id)) c.args.bytes.now c.in-Ok.read.0 c.in-Err-next_marks.fault.kind c.in-Err-next_marks.fault.at)
    c.bounded-greatest.ensures.same c.in-Err-next_marks.ensures.fault)

pub returns-clause-reads : goal.returns-clause-reads
returns-clause-reads g c =
    let m = g.B.BlockStore.blocks c.read_nodes.new.store in
    let s = c.read_nodes.new.stream in
    let groups : Groups = (stream_of m c.read_groups.new.stream).groups in
    let now = c.read_groups.ensures.others m ∙ ap (λ (x : Log). record x { groups = groups }) c.set_marks.ensures in
    let x = c.in-Ok-next_marks.read.0 in
    let none : (stream_of m c.set_marks.new.self).groups ≡ empty = ap (λ (x : Log). (stream_of m x).groups) c.set_marks.ensures ∙ c.read_nodes.ensures.groups ∙ c.requires.no_group in
    groups_read c.args.stream_type c.args.bytes.now c.args.at c.in-Ok.read.0 m s c.in-Ok.read.1 c.in-Ok.ensures.reads c.len.result (c.len.ensures m c.read_nodes.ensures.sound) (marks_of x)
    c.in-Ok-next_marks.read.1
    (subst (λ (id : Option Id). Stands (marks_with c.args.stream_type c.len.result (is_from id)) (marks_of x) c.args.bytes.now c.in-Ok.read.0 c.in-Ok-next_marks.read.1)
    c.bounded-greatest.ensures.same c.in-Ok-next_marks.ensures.marks) groups (StreamOf (stream_of m c.read_groups.new.stream))
    (ap StreamOf (marked_value m s c.read_groups.new.stream x.last x.deleted x.added groups c.read_nodes.ensures.sound now)) c.read_groups.result
    (subst (λ (gs : Groups). Reads (counted (with_group c.args.stream_type) gs) c.args.bytes.now c.in-Ok-next_marks.read.1 groups c.read_groups.result) none (c.read_groups.ensures.reads m))

pub returns-clause-sound : goal.returns-clause-sound
returns-clause-sound g c =
    let m = g.B.BlockStore.blocks c.read_nodes.new.store in
    let s = c.read_nodes.new.stream in
    let groups : Groups = (stream_of m c.read_groups.new.stream).groups in
    let now = c.read_groups.ensures.others m ∙ ap (λ (x : Log). record x { groups = groups }) c.set_marks.ensures in
    let x = c.in-Ok-next_marks.read.0 in
    let fits : IsId x.last = record { ms = omega arith; seq = omega arith } in
    let ids = subst (λ (id : Option Id). IfSome id IsId) c.bounded-greatest.ensures.same c.bounded-greatest.ensures.fits in
    let covered = c.in-Ok.ensures.reads.2.covered in
    let test : is_from c.in-Ok.read.1 (x.last.ms, x.last.seq) ≡ true =
    last_passes c.args.stream_type c.len.result (is_from c.in-Ok.read.1) (marks_of x) c.args.bytes.now c.in-Ok.read.0 c.in-Ok-next_marks.read.1
    (subst (λ (id : Option Id). Stands (marks_with c.args.stream_type c.len.result (is_from id)) (marks_of x) c.args.bytes.now c.in-Ok.read.0 c.in-Ok-next_marks.read.1)
    c.bounded-greatest.ensures.same c.in-Ok-next_marks.ensures.marks) in
    marked_sound m s c.read_groups.new.stream x.last x.deleted x.added groups c.read_nodes.ensures.sound now fits (covered_upto c.in-Ok.read.1 x.last (nodes m s) fits ids covered test)

pub returns-clause-changes : goal.returns-clause-changes
returns-clause-changes g c =
    let m = g.B.BlockStore.blocks c.read_nodes.new.store in
    let s = c.read_nodes.new.stream in
    let groups : Groups = (stream_of m c.read_groups.new.stream).groups in
    let now = c.read_groups.ensures.others m ∙ ap (λ (x : Log). record x { groups = groups }) c.set_marks.ensures in
    let x = c.in-Ok-next_marks.read.0 in
    subst (Changes (g.B.BlockStore.blocks c.args.store.now) m (refs (g.B.BlockStore.blocks c.args.store.now) c.args.stream.now))
    (sym (marked_refs m s c.read_groups.new.stream x.last x.deleted x.added groups c.read_nodes.ensures.sound now)) c.read_nodes.ensures.changes
