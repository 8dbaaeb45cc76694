use Rattle.std.proofs.Common.{◌≡◌, ◌+◌, ◌∷◌, ℕ, List, length, sym, ap, ◌∙◌, subst, arith}
use Rattle.std.specs.List.{AllByRecursion}
use Rattle.listpack.specs.Pack.{texts}
use Rattle.stream_node.specs.Entries.{IsNode, entries_of}
use Rattle.stream_node.specs.Entry.{Stored}
use Rattle.stream_node.specs.Node.{marked}
use Rattle.stream_node.specs.View.{stored}
use Rattle.stream_node.specs.Views.{left_of}
use Rattle.stream_object.specs.Whole.{MayStand}
use Rattle.stream_object.proofs.Wholes.{all_stand_from}
use Rattle.stream_object.proofs.whole.all_stand.Goals as goal

pub live_len-live-requires : goal.live_len-live-requires
live_len-live-requires c = (c.args.key, subst (λ (bs : List ℕ). IsNode c.args.key (texts bs)) (sym c.known.ensures) c.requires.node)

pub returns-then-live-all : goal.returns-then-live-all
returns-then-live-all c = λ t. absurd cc

pub returns-in-Some : goal.returns-in-Some
returns-in-Some c = λ t.
    let key = c.args.key in
    let list = texts c.args.pack.now in
    let is : entries_of key list ≡ stored c.in-Some.first ∷ left_of c.next.new.self = sym c.listed-entries.ensures ∙ c.in-Some.ensures.steps in
    let told : c.live_len-live.result + marked (entries_of key list) ≡ length (entries_of key list) =
    subst (λ (bs : List ℕ). c.live_len-live.result + marked (entries_of key (texts bs)) ≡ length (entries_of key (texts bs))) c.known.ensures
    (c.live_len-live.ensures key (subst (λ (bs : List ℕ). IsNode key (texts bs)) (sym c.known.ensures) c.requires.node)) in
    let none : marked (entries_of key list) ≡ 0 = omega (arith, told, c.if-live-all.false, c.len-all.ensures, ap (λ (es : List Stored). length es) c.listed-entries.ensures) in
    all_stand_from key list (stored c.in-Some.first) (left_of c.next.new.self) c.requires.node is none (c.may_stand.ensures t)

pub returns-in-None : goal.returns-in-None
returns-in-None c = λ t. subst (AllByRecursion (MayStand c.args.key)) (sym (sym c.listed-entries.ensures ∙ c.in-None.ensures.steps.0)) tt
