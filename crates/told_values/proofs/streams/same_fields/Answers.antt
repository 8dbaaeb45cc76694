use Rattle.std.proofs.Common.{rules, ◌≡◌, ◌∙◌, sym, arith}
use Rattle.told_values.proofs.Alike.{pairs_more}
use Rattle.told_values.proofs.streams.same_fields.Goals as goal

pub loop-index-preserved : goal.loop-index-preserved
loop-index-preserved c =
    let first : c.field.result.now ≡ c.field-in-loop-index.result.now = search rules in
    let second : c.value.result.now ≡ c.value-in-loop-index.result.now = search rules in
    pairs_more c.args.pairs.now c.args.other.now c.loop-index.index (omega arith) (omega arith) c.loop-index.invariant
    (sym c.field.ensures ∙ first ∙ c.field-in-loop-index.ensures) (sym c.value.ensures ∙ second ∙ c.value-in-loop-index.ensures)
