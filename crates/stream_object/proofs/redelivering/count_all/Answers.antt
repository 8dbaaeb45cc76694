use Rattle.std.proofs.Common.{◌∙◌, ◌+◌, List, map, take, ap}
use Rattle.std.proofs.lemmas.List.{take_all}
use Rattle.stream_groups.specs.Groups.{changed}
use Rattle.stream_object.specs.declared.again.Again.{Again}
use Rattle.stream_object.specs.Handing.{told, all_again}
use Rattle.stream_object.proofs.Agains.{unchanged, counted_more, map_more}
use Rattle.stream_object.proofs.redelivering.count_all.Goals as goal

pub loop-again-init : goal.loop-again-init
loop-again-init c = unchanged c.args.groups.now c.args.name.now

pub loop-again-preserved : goal.loop-again-preserved
loop-again-preserved c =
    let i = c.loop-again.again-index in
    let item = c.again-item.result in
    counted_more c.args.moment c.args.groups.now c.loop-again.groups c.count_one.new.groups c.args.name.now (map told (take i c.args.found.now)) (map told (take (i + 1) c.args.found.now)) (told item)
    c.loop-again.invariant c.count_one.ensures (map_more told c.args.found.now i item c.loop-again-test.true c.again-item.is)

pub returns : goal.returns
returns c =
    c.loop-again.invariant
    ∙ ap (λ (xs : List Again). changed c.args.groups.now c.args.name.now (all_again c.args.moment (map told xs))) (take_all c.loop-again.again-index c.args.found.now c.loop-again-test.false)
