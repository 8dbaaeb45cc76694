use Rattle.std.proofs.Common.{◌≡◌, ◌+◌, ◌≤◌, ℕ, refl, sym, ap, ◌∙◌, arith, length, take, drop}
use Rattle.std.specs.Prelude.{slice_range}
use Rattle.std.specs.FinMap.{len}
use Rattle.blocks.specs.Blocks.{no_step}
use Rattle.blocks.proofs.Change.{changes_same}
use Rattle.score_table.specs.Ranking.{without_each}
use Rattle.zset_object.specs.Scored.{scores, ranked, tables}
use Rattle.keyspace.proofs.Settles.{settled_below}
use Rattle.zset_object.proofs.Depends.{scored_laws_hold}
use Rattle.plain_model.specs.ZsetSteps.{members_of, met, without_members}
use Rattle.plain_model.specs.declared.zset_command.Direction.{Direction}
use Rattle.cmd_zsets.specs.Spans.{start_of}
use Rattle.cmd_zsets.proofs.Dropping.{takes_none, span_gone}
use Rattle.cmd_zsets.proofs.Reaches.{start_inside}
use Rattle.cmd_zsets.proofs.Removed.{range_keeps, range_is}
use Rattle.cmd_zsets.proofs.popping.take_span.Goals as goal

pub returns-then-span-eq0-clause-settings : goal.returns-then-span-eq0-clause-settings
returns-then-span-eq0-clause-settings g c = record { limits = refl; seed = refl }

pub returns-then-span-eq0-clause-is : goal.returns-then-span-eq0-clause-is
returns-then-span-eq0-clause-is g c =
    let m = g.B.BlockStore.blocks c.args.store.now in
    let span = c.args.span in
    let list = drop span.start (met span.from (ranked m c.args.zset.now)) in
    sym (takes_none (scores m c.args.zset.now) list) ∙ ap (λ n. without_members (scores m c.args.zset.now) (members_of (take n list))) (sym c.if-span-eq0.true)

pub returns-then-span-eq0-clause-changes : goal.returns-then-span-eq0-clause-changes
returns-then-span-eq0-clause-changes g c = changes_same _ _ c.requires.sound.owned

pub returns-then-span-eq0-clause-served : goal.returns-then-span-eq0-clause-served
returns-then-span-eq0-clause-served g c = no_step

pub overflow_add-high : goal.overflow_add-high
overflow_add-high g c = omega (arith, c.len-len.ensures (g.B.BlockStore.blocks c.args.store.now) c.requires.sound, c.requires.inside)

pub start_met-low-requires : goal.start_met-low-requires
start_met-low-requires g c = omega (arith, c.len-len.ensures (g.B.BlockStore.blocks c.args.store.now) c.requires.sound, c.requires.inside)

-- the members of a span have their ranks among all
end_inside : (from : Direction) (len many start count low : ℕ) → len ≡ many → start + count ≤ many → low ≡ start_of from len start (start + count) → low + count ≤ len
end_inside from len many start count low is inside behind = omega (arith, start_inside from len start (start + count) low (omega arith) (omega (arith, is, inside)) behind)

pub overflow_add-end : goal.overflow_add-end
overflow_add-end g c =
    let span = c.args.span in
    let many = c.len-len.ensures (g.B.BlockStore.blocks c.args.store.now) c.requires.sound in
    omega (arith, end_inside span.from c.len-len.result _ span.start span.count c.start_met-low.result many c.requires.inside c.start_met-low.ensures)

pub remove_range-requires-clause-inside : goal.remove_range-requires-clause-inside
remove_range-requires-clause-inside g c =
    let span = c.args.span in
    let many = c.len-len.ensures (g.B.BlockStore.blocks c.args.store.now) c.requires.sound in
    omega (arith, many, end_inside span.from c.len-len.result _ span.start span.count c.start_met-low.result many c.requires.inside c.start_met-low.ensures)

pub returns-then-span-eq0-clause-grown : goal.returns-then-span-eq0-clause-grown
returns-then-span-eq0-clause-grown g c = no_step

pub returns-then-span-eq0-clause-settled : goal.returns-then-span-eq0-clause-settled
returns-then-span-eq0-clause-settled g c fewer = absurd (omega (arith, fewer))

pub returns : goal.returns
returns g c =
    let m = g.B.BlockStore.blocks c.args.store.now in
    let n = g.B.BlockStore.blocks c.remove_range.new.store in
    let span = c.args.span in
    let zset = c.args.zset.now in
    let new = c.remove_range.new.self in
    let e = c.remove_range.ensures in
    let keeps = range_keeps m n zset new c.requires.sound _ c.remove_range.result e.removed e.err_scored e.err_blocks e.err_removed in
    let list = ranked m zset in
    let counted : length list ≡ len (scores m zset) = scored_laws_hold.counted m zset c.requires.sound in
    let size : c.len-len.result ≡ length list = c.len-len.ensures m c.requires.sound ∙ sym counted in
    let end = c.start_met-low.result + span.count in
    record {
      sound = keeps.sound;
      settings = keeps.settings;
      grown = keeps.grown;
      settled = settled_below c.remove_range.result (len (scores m zset)) (len (scores n new)) (tables n new) e.settled;
      is = range_is m n zset new c.requires.sound (without_each (scores m zset) (slice_range list c.start_met-low.result end)) c.remove_range.result _
          (span_gone (scores m zset) span.from list span.start span.count c.start_met-low.result end (omega (arith, counted, c.requires.inside))
          (c.start_met-low.ensures ∙ ap (λ n. start_of span.from n span.start (span.start + span.count)) size) refl)
          e.removed;
      form = e.form;
      changes = keeps.changes;
      served = e.served;
    }
