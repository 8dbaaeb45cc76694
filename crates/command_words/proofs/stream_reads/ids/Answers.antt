use Rattle.std.proofs.Common.{◌<◌, [], ◌∷◌, ◌++◌, length, ◌∙◌, arith}
use Rattle.plain_model.specs.Shapes.{EntryId}
use Rattle.command_words.proofs.Gathering.{each_on, more_kept}
use Rattle.command_words.proofs.stream_reads.ids.Goals as goal

pub loop-index-preserved : goal.loop-index-preserved
loop-index-preserved c =
    let words = c.args.request.now in
    let i = c.loop-index.index in
    let kept = c.loop-index.invariant.0 in
    let id = c.in_ok-id.id in
    let within : i < length words = omega (arith, c.loop-index-test.true, c.len-index-end.ensures.len) in (
      kept ++ id ∷ [],
      c.loop-index.invariant.1 ∙ each_on EntryId words kept i id within c.in_ok-id.ensures,
      more_kept c.loop-index.list c.with_id-list.result kept id
          c.loop-index.invariant.2 c.with_id-list.ensures,
    )
