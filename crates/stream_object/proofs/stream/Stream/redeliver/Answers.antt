use Rattle.std.proofs.Common.{◌≡◌, ◌∙◌, List, Some, map, sym, ap}
use Rattle.std.specs.Option.{option_map}
use Rattle.std.specs.FinMap.{get}
use Rattle.stream_groups.specs.Groups.{Id as Pair, Group, changed, ids_of}
use Rattle.stream_object.specs.declared.again.Again.{Again}
use Rattle.stream_object.specs.Handing.{told, with_entries, all_again}
use Rattle.stream_object.specs.Streams.{entries, pair_of}
use Rattle.stream_object.proofs.Agains.{again_changed}
use Rattle.stream_object.proofs.stream.Stream.redeliver.Goals as goal

pub returns-clause-ok : goal.returns-clause-ok
returns-clause-ok g c =
    let es = entries (g.B.BlockStore.blocks c.args.store.now) c.args.self.now in
    let groups = c.args.self.now.groups in
    let name = c.args.name.now in
    let consumer = c.args.consumer.now in
    let listed : Some c.in-Some.ids.items ≡ option_map (λ (group : Group). ids_of group.pending consumer (pair_of c.args.above) c.args.limit) (get groups name) =
    (ap (option_map (λ v. v.items)) (sym c.in-Some.is) ∙ c.in_ok-ids.ensures
    ∙ ap (λ (p : Pair). option_map (λ (group : Group). ids_of group.pending consumer p c.args.limit) (get groups name)) c.pair.ensures) in
    let now = again_changed es consumer (pair_of c.args.above) c.args.limit c.args.moment c.in-Some.ids.items c.in_ok-found.found.items
    (c.in_ok-found.ensures ∙ ap (with_entries es) c.deref.ensures.value)
    groups c.add_consumer.new.self c.count_all.new.groups name c.in_ok-add_consumer.ensures.ok
    (c.count_all.ensures ∙ ap (λ (xs : List Again). changed c.add_consumer.new.self name (all_again c.args.moment (map told xs))) c.deref-2.ensures.value) listed in
    λ i. record c.args.self.now { groups = now i }
