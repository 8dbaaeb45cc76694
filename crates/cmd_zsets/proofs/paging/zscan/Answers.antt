use Rattle.std.proofs.Common.{rules, ◌≡◌}
use Rattle.keyspace.proofs.HeldPages.{first_of, second_of}
use Rattle.cmd_zsets.proofs.Looking.{found_other}
use Rattle.cmd_zsets.proofs.AtKeys.{not_zset}
use Rattle.cmd_zsets.proofs.Paged.{none_paged, other_refused, zset_paged}
use Rattle.cmd_zsets.proofs.paging.zscan.Goals as goal

pub returns-in-None : goal.returns-in-None
returns-in-None g c =
    let m = g.B.BlockStore.blocks c.args.keyspace.now.store in
    let both = none_paged c.args.keyspace.now.bases m c.args.at.now c.args.key.now c.args.cursor c.args.options.now c.empty_page.result c.in-None.ensures.none c.empty_page.ensures in
    record { gives = first_of _ _ c.empty_page.result both; shows = second_of _ _ c.empty_page.result both }

pub returns-in-Zset : goal.returns-in-Zset
returns-in-Zset g c =
    let m = g.B.BlockStore.blocks c.args.keyspace.now.store in
    let same : c.deref-zset.result.now ≡ c.in-Zset.zset.value = search rules in
    let both = zset_paged c.args.keyspace.now.bases m c.args.at.now c.args.key.now c.args.cursor c.args.options.now c.page_of.result c.in-Some.value.now c.in-Zset.zset
    c.deref-zset.result.now c.in-Zset.is same c.in-Some.ensures.found c.requires.ready.sound c.page_of.ensures in
    record { gives = first_of _ _ c.page_of.result both; shows = second_of _ _ c.page_of.result both }

pub returns-in_default : goal.returns-in_default
returns-in_default g c =
    let m = g.B.BlockStore.blocks c.args.keyspace.now.store in
    let both = other_refused c.args.keyspace.now.bases m c.args.at.now c.args.key.now c.args.cursor c.args.options.now c.refused.result
    (found_other c.args.keyspace.now.bases m c.args.at.now c.args.key.now c.in-Some.value.now (not_zset c.in-Some.value.now c.in_default.not-Zset) c.in-Some.ensures.found)
    c.refused.ensures in
    record { gives = first_of _ _ c.refused.result both; shows = second_of _ _ c.refused.result both }
