use Rattle.std.proofs.Common.{ℕ, List, refl, sym, subst, ◌∙◌}
use Rattle.listpack.specs.Pack.{texts}
use Rattle.stream_node.specs.declared.id.Id.{Id}
use Rattle.stream_node.specs.Entries.{entries_of}
use Rattle.stream_object.specs.Parts.{IsNodeOf, live_of}
use Rattle.stream_object.specs.Streams.{nodes}
use Rattle.rdb_stream_writer.specs.Streams.{first_of}
use Rattle.rdb_stream_writer.proofs.Firsts.{found_node, found_first, found_none}
use Rattle.rdb_stream_writer.proofs.marks.first_id.Goals as goal

pub returns-in-None : goal.returns-in-None
returns-in-None g c =
    let m = g.B.BlockStore.blocks c.args.store.now in
    sym (found_none m (nodes m c.args.stream.now) (record { ms = 0; seq = 0 }) refl c.requires.parts.each c.in-None.ensures.none)

pub first_live-requires : goal.first_live-requires
first_live-requires g c =
    let m = g.B.BlockStore.blocks c.args.store.now in
    let p = c.in-Some.ensures.some in
    let is = (found_node m (nodes m c.args.stream.now) (record { ms = 0; seq = 0 }) refl c.requires.parts.each (p.0) (p.1)).is_node in
    subst (λ (key : Id). IsNodeOf key c.in-Some.bytes.now) (sym (p.2)) (subst (λ (bytes : List ℕ). IsNodeOf p.0.key bytes) (sym (p.3)) is)

pub returns-in-Some : goal.returns-in-Some
returns-in-Some g c =
    let m = g.B.BlockStore.blocks c.args.store.now in
    let p = c.in-Some.ensures.some in
    c.first_live.ensures ∙ (λ i. first_of (live_of (entries_of (p.2 i) (texts (p.3 i))))) ∙ found_first m (nodes m c.args.stream.now) (record { ms = 0; seq = 0 }) refl c.requires.parts.each (p.0) (p.1)
