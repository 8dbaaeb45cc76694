use Rattle.std.proofs.Common.{◌≡◌, ◌∙◌, List, map, take, refl, sym, ap, subst, arith}
use Rattle.std.specs.Prelude.{IfOk}
use Rattle.plain_world.specs.Streams.{StreamEntry}
use Rattle.stream_node.specs.declared.id.Id.{Id}
use Rattle.stream_node.specs.Ids.{IsId}
use Rattle.stream_object.specs.Ranges.{taken}
use Rattle.stream_object.specs.Streams.{entries}
use Rattle.stream_object.proofs.Later.{later_range, none_later, none_taken}
use Rattle.stream_object.proofs.Rises.{stream_fits}
use Rattle.cmd_streams.proofs.several.above.Goals as goal

abbrev top : Id
top = record { ms = 18446744073709551615; seq = 18446744073709551615 }

pub returns-in-Some : goal.returns-in-Some
returns-in-Some g c =
    let m = g.B.BlockStore.blocks c.args.store.now in
    let last : IsId c.args.last = record { ms = omega arith; seq = omega arith } in
    let from : IsId c.in-Some.from = record { ms = omega arith; seq = omega arith } in
    let fits : IsId top = record { ms = omega arith; seq = omega arith } in
    subst (λ (es : List StreamEntry). IfOk c.range.result (λ found. map taken found.items ≡ es))
    (ap (take c.args.most) (later_range c.args.last last c.in-Some.from top from fits c.in-Some.ensures.some refl (entries m c.args.stream.now) (stream_fits m c.args.stream.now c.requires.sound)))
    c.range.ensures

pub returns-in-None : goal.returns-in-None
returns-in-None g c =
    let m = g.B.BlockStore.blocks c.args.store.now in
    let last : IsId c.args.last = record { ms = omega arith; seq = omega arith } in
    ap (map taken) c.new.ensures.items
    ∙ sym (ap (take c.args.most) (none_later c.args.last last c.in-None.ensures.none (entries m c.args.stream.now) (stream_fits m c.args.stream.now c.requires.sound)) ∙ none_taken c.args.most)
