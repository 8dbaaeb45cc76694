use Rattle.std.proofs.Common.{◌∙◌, refl, sym, ap, subst, arith}
use Rattle.stream_node.specs.Ids.{IsId}
use Rattle.stream_object.specs.Below.{count_low}
use Rattle.stream_object.specs.Parts.{Part, part, entries_in, live_in}
use Rattle.stream_object.specs.Streams.{nodes}
use Rattle.stream_object.proofs.Clears.{none_below}
use Rattle.stream_object.proofs.Grows.{near_part}
use Rattle.stream_object.proofs.Rises.{Fit, Rises, stream_fits, stream_rises, count-append, none_then}
use Rattle.stream_object.proofs.Trims.{first_split}
use Rattle.stream_object.proofs.stream.Stream.first_below.Goals as goal

pub returns-in-Some-clause-within : goal.returns-in-Some-clause-within
returns-in-Some-clause-within g c =
    let m = g.B.BlockStore.blocks c.args.store.now in
    let spot = c.in-Some.spot in
    let n = c.in-Some.ensures.some in
    let split = first_split m c.args.self.now _ (part spot.key spot.at spot.bytes.now) refl refl c.requires n in
    omega (arith, c.count_below.ensures, ap (count_low c.args.least) split, count-append c.args.least (live_in (part spot.key spot.at spot.bytes.now)) (entries_in n.after))

pub returns-in-Some-clause-none : goal.returns-in-Some-clause-none
returns-in-Some-clause-none g c =
    let m = g.B.BlockStore.blocks c.args.store.now in
    let spot = c.in-Some.spot in
    let p : Part = part spot.key spot.at spot.bytes.now in
    let n = c.in-Some.ensures.some in
    let split = first_split m c.args.self.now _ p refl refl c.requires n in
    let least : IsId c.args.least = record { ms = omega arith; seq = omega arith } in
    let is_node = (near_part m c.args.self.now.tree (nodes m c.args.self.now) n.before n.after p c.requires.parts n.place).is_node in
    λ zero. ap (count_low c.args.least) split
    ∙ none_then c.args.least least (live_in p) (entries_in n.after) is_node.some (sym c.count_below.ensures ∙ zero)
    (subst Fit split (stream_fits m c.args.self.now c.requires)) (subst Rises split (stream_rises m c.args.self.now c.requires))

pub returns-in-None-clause-none : goal.returns-in-None-clause-none
returns-in-None-clause-none g c =
    let m = g.B.BlockStore.blocks c.args.store.now in
    λ zero. ap (λ ps. count_low c.args.least (entries_in ps)) (none_below _ refl refl (nodes m c.args.self.now) c.in-None.ensures.none)

pub count_below-requires : goal.count_below-requires
count_below-requires g c =
    let m = g.B.BlockStore.blocks c.args.store.now in
    let n = c.in-Some.ensures.some in
    let spot = c.in-Some.spot in
    (near_part m c.args.self.now.tree (nodes m c.args.self.now) n.before n.after (part spot.key spot.at spot.bytes.now) c.requires.parts n.place).is_node
