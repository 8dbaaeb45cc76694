use Rattle.std.proofs.Common.{◌≡◌, ◌∙◌, ◌∷◌, refl, sym}
use Rattle.listpack.specs.Pack.{texts}
use Rattle.stream_node.specs.Entries.{entries_of}
use Rattle.stream_node.specs.View.{stored}
use Rattle.stream_node.specs.Views.{left_of}
use Rattle.stream_object.proofs.Loads.{enough, followed, none_above}
use Rattle.stream_object.proofs.stream.Stream.is_followed_by.Goals as goal

pub returns-in-Some-clause-above : goal.returns-in-Some-clause-above
returns-in-Some-clause-above c =
    let list = texts c.args.pack.now in
    let is : entries_of c.args.key list ≡ stored c.in-Some.first ∷ left_of c.next.new.self = sym c.listed.ensures ∙ c.in-Some.ensures.steps in
    followed c.args.key list c.args.self.now.last (stored c.in-Some.first) (left_of c.next.new.self) c.id.result c.is_below.result c.requires.node is c.id.ensures c.is_below.ensures

pub returns-in-Some-clause-enough : goal.returns-in-Some-clause-enough
returns-in-Some-clause-enough c first m =
    let list = texts c.args.pack.now in
    let is : entries_of c.args.key list ≡ stored c.in-Some.first ∷ left_of c.next.new.self = sym c.listed.ensures ∙ c.in-Some.ensures.steps in
    let all = followed c.args.key list c.args.self.now.last (stored c.in-Some.first) (left_of c.next.new.self) c.id.result c.is_below.result c.requires.node is c.id.ensures c.is_below.ensures in
    enough m c.args.self.now c.args.key list c.requires.node (all.0 first)

pub returns-in-None-clause-above : goal.returns-in-None-clause-above
returns-in-None-clause-above c =
    let list = texts c.args.pack.now in
    (λ first. none_above c.args.key list c.args.self.now.last (sym c.listed.ensures ∙ c.in-None.ensures.steps.0), λ all. refl)

pub returns-in-None-clause-enough : goal.returns-in-None-clause-enough
returns-in-None-clause-enough c first m =
    let list = texts c.args.pack.now in
    enough m c.args.self.now c.args.key list c.requires.node (none_above c.args.key list c.args.self.now.last (sym c.listed.ensures ∙ c.in-None.ensures.steps.0))
