use Rattle.std.proofs.Common.{rules, ◌≡◌}
use Rattle.keyspace.proofs.HeldPages.{first_of, second_of}
use Rattle.cmd_sets.proofs.Looking.{found_other}
use Rattle.cmd_sets.proofs.AtKeys.{not_set}
use Rattle.cmd_sets.proofs.Paged.{none_paged, other_refused, set_paged}
use Rattle.cmd_sets.proofs.paging.sscan.Goals as goal

pub returns-in-None : goal.returns-in-None
returns-in-None g c =
    let m = g.B.BlockStore.blocks c.args.keyspace.now.store in
    let both = none_paged c.args.keyspace.now.bases m c.args.at.now c.args.key.now c.args.cursor c.args.options.now c.empty_page.result c.in-None.ensures.none c.empty_page.ensures in
    record { gives = first_of _ _ c.empty_page.result both; shows = second_of _ _ c.empty_page.result both }

pub returns-in-Set : goal.returns-in-Set
returns-in-Set g c =
    let m = g.B.BlockStore.blocks c.args.keyspace.now.store in
    let same : c.deref-set.result.now ≡ c.in-Set.set.value = search rules in
    let both = set_paged c.args.keyspace.now.bases m c.args.at.now c.args.key.now c.args.cursor c.args.options.now c.page_of.result c.in-Some.value.now c.in-Set.set c.deref-set.result.now
    c.in-Set.is same c.in-Some.ensures.found c.requires.ready.sound c.page_of.ensures in
    record { gives = first_of _ _ c.page_of.result both; shows = second_of _ _ c.page_of.result both }

pub returns-in_default : goal.returns-in_default
returns-in_default g c =
    let m = g.B.BlockStore.blocks c.args.keyspace.now.store in
    let both = other_refused c.args.keyspace.now.bases m c.args.at.now c.args.key.now c.args.cursor c.args.options.now c.refused.result
    (found_other c.args.keyspace.now.bases m c.args.at.now c.args.key.now c.in-Some.value.now (not_set c.in-Some.value.now c.in_default.not-Set) c.in-Some.ensures.found)
    c.refused.ensures in
    record { gives = first_of _ _ c.refused.result both; shows = second_of _ _ c.refused.result both }
