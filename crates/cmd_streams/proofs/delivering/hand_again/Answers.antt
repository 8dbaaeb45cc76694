use Rattle.std.proofs.Common.{◌≡◌, ◌∙◌, map, Some, ap, subst}
use Rattle.std.specs.FinMap.{get}
use Rattle.std.specs.Option.{option_map}
use Rattle.stream_groups.specs.Groups.{Id, Groups, changed}
use Rattle.stream_object.specs.Handing as object
use Rattle.stream_object.specs.Handing.{told}
use Rattle.stream_object.specs.Streams.{entries, stream_of}
use Rattle.cmd_streams.specs.Handed.{reader}
use Rattle.cmd_streams.proofs.Handing.{some_again, again_left}
use Rattle.cmd_streams.proofs.delivering.hand_again.Goals as goal

pub returns-in-Some-clause-told : goal.returns-in-Some-clause-told
returns-in-Some-clause-told g c =
    let m = g.B.BlockStore.blocks c.args.store.now in
    let who = reader c.args.moment c.args.who.now in
    let groups = c.args.stream.now.groups in
    let most = c.in_ok-most.most in
    let list = map told c.in-Some.given.items in
    some_again who (stream_of m c.args.stream.now) c.args.above most groups c.in_ok-most.ensures list
    (subst (λ (id : Id). Some list ≡ option_map (object.waiting (entries m c.args.stream.now) who.consumer id most) (get groups who.group)) c.id_of.ensures
    (rw c.in-Some.is at c.in_ok-redeliver.ensures.given))

pub returns-in-Some-clause-ok : goal.returns-in-Some-clause-ok
returns-in-Some-clause-ok g c =
    let m = g.B.BlockStore.blocks c.args.store.now in
    let who = reader c.args.moment c.args.who.now in
    let groups = c.args.stream.now.groups in
    let most = c.in_ok-most.most in
    subst
    (λ (id : Id). c.redeliver.new.self ≡ record c.args.stream.now
    { groups = changed groups who.group (object.handed_again (entries m c.args.stream.now) who.consumer id most c.args.moment) }) c.id_of.ensures c.in_ok-redeliver.ensures.ok
    ∙ ap (λ (others : Groups). record c.args.stream.now { groups = others }) (again_left who (stream_of m c.args.stream.now) c.args.above most groups c.in_ok-most.ensures)
