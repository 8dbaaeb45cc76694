use Rattle.std.proofs.Common.{[], unwrap_or, sym, ap, ◌∙◌}
use Rattle.std.specs.FinMap.{get}
use Rattle.blocks.specs.Blocks.{no_step, bytes_at}
use Rattle.score_table.specs.Scored.{scores}
use Rattle.score_table.proofs.table.ScoreTable.copy_item.Goals as goal

pub returns-in_err-bytes-clause-served : goal.returns-in_err-bytes-clause-served
returns-in_err-bytes-clause-served g c = no_step

pub add-requires-clause-absent : goal.add-requires-clause-absent
add-requires-clause-absent g c =
    let m = g.B.BlockStore.blocks c.args.store.now in
    let pair = c.entry-score.result in
    ap (get (scores m c.args.copy.now)) (c.deref.ensures.value ∙ c.in_ok-bytes.ensures.items ∙ sym (ap (λ o. unwrap_or o []) c.bytes.ensures))
    ∙ c.requires.absent pair.0 (bytes_at m pair.1) (c.entry-score.ensures m c.requires.source).same
