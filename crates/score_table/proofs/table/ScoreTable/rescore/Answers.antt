use Rattle.std.proofs.Common.{◌≡◌, to_z, of_z, w64, sym, ap, ◌∙◌}
use Rattle.std.proofs.lemmas.Int.{to_z-of_z}
use Rattle.score_table.proofs.Edits.{value_is, found_score, same_changed, rescores_fresh, rescored_as}
use Rattle.score_table.proofs.table.ScoreTable.rescore.Goals as goal

pub returns-then-old-score : goal.returns-then-old-score
returns-then-old-score g c =
    let m = g.B.BlockStore.blocks c.args.store.now in
    let st = c.requires.stands in
    let same : c.score_at-old.result ≡ c.args.score = sym (to_z-of_z w64 c.score_at-old.result (record { sfits = c.score_at-old.type_inv })) ∙ ap (to_z w64) c.if-old-score.true
    ∙ to_z-of_z w64 c.args.score c.ranges.score in
    record {
      changed = same_changed m c.args.self.now c.args.member.now c.args.score c.requires.sound
          (found_score m c.args.self.now c.requires.sound c.args.item c.args.member.now st c.args.score
          (value_is c.args.self.now.table c.args.item c.score_at-old.result st.element st.found c.score_at-old.ensures ∙ same));
    }

pub rescore-there-requires-clause-fresh : goal.rescore-there-requires-clause-fresh
rescore-there-requires-clause-fresh g c =
    let m = g.B.BlockStore.blocks c.args.store.now in
    let st = c.requires.stands in
    let is = to_z-of_z w64 c.args.score c.ranges.score in
    let value = value_is c.args.self.now.table c.args.item c.score_at-old.result st.element st.found c.score_at-old.ensures in
    rescores_fresh m c.args.self.now c.requires.sound c.args.item c.args.member.now (to_z w64 (of_z w64 c.args.score)) st (λ same. c.if-old-score.false (ap (of_z w64) (sym (sym is ∙ same ∙ value))))

pub returns : goal.returns
returns g c =
    let m = g.B.BlockStore.blocks c.args.store.now in
    let score_is = to_z-of_z w64 c.args.score c.ranges.score in
    let old_is = to_z-of_z w64 c.score_at-old.result (record { sfits = c.score_at-old.type_inv }) in
    let moves = rw old_is at c.rescore-there.ensures.rescores in
    let swap = c.swap_value-old.ensures in
    record {
      changed = rw score_is at
          (rescored_as m c.args.self.now c.swap_value-old.new.self c.rescore-there.new.self c.args.item c.swap_value-old.result (to_z w64 (of_z w64 c.args.score)) c.args.member.now
          c.requires.sound c.requires.stands swap.swaps
          c.score_at-old.result c.score_at-old.ensures c.rescore-there.result moves c.rescore-there.ensures.sorted (swap.keyed m c.requires.sound.keyed) (swap.tables m)
          (swap.map m c.requires.sound.keyed));
    }
