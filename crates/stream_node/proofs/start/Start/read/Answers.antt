use Rattle.std.proofs.Common.{ap, ◌∙◌}
use Rattle.std.specs.Int.{w64}
use Rattle.std.proofs.lemmas.Int.{to_z-of_z}
use Rattle.stream_node.specs.Entry.{moved}
use Rattle.stream_node.specs.Rest.{rest_of}
use Rattle.stream_node.proofs.Rests.{when_none}
use Rattle.stream_node.proofs.Starts.{lacks_flags, lacks_ms, lacks_seq, other_flags, is_start}
use Rattle.stream_node.proofs.start.Start.read.Goals as goal

pub returns-in_err-number-clause-none : goal.returns-in_err-number-clause-none
returns-in_err-number-clause-none c = when_none _ (lacks_flags c.args.key (rest_of c.args.list.now) c.in_err-number.ensures.none)

pub returns-in_err-ms-clause-none : goal.returns-in_err-ms-clause-none
returns-in_err-ms-clause-none c = when_none _ (lacks_ms c.args.key (rest_of c.args.list.now) (rest_of c.in_ok-number.after_flags) _ c.in_ok-number.ensures.some c.in_err-ms.ensures.none)

pub returns-in_err-seq-clause-none : goal.returns-in_err-seq-clause-none
returns-in_err-seq-clause-none c =
    when_none _
    (lacks_seq c.args.key (rest_of c.args.list.now) (rest_of c.in_ok-number.after_flags) (rest_of c.in_ok-ms.after_ms) _ _ c.in_ok-number.ensures.some c.in_ok-ms.ensures.some
    c.in_err-seq.ensures.none)

pub returns-in_err-deleted-clause-none : goal.returns-in_err-deleted-clause-none
returns-in_err-deleted-clause-none c =
    when_none _
    (other_flags c.args.key (rest_of c.args.list.now) (rest_of c.in_ok-number.after_flags) c.in_ok-number.number c.in_ok-number.ensures.small c.in_ok-number.ensures.some
    c.in_err-deleted.ensures.none)

pub returns-clause-some : goal.returns-clause-some
returns-clause-some c =
    is_start c.args.key (rest_of c.args.list.now) (rest_of c.in_ok-number.after_flags) (rest_of c.in_ok-ms.after_ms) (rest_of c.in_ok-seq.behind) c.in_ok-number.number c.in_ok-ms.ms
    c.in_ok-seq.seq c.in_ok-deleted.deleted c.in_ok-deleted.same _
    c.in_ok-number.ensures.some c.in_ok-ms.ensures.some c.in_ok-seq.ensures.some c.in_ok-ms.ensures.fits c.in_ok-seq.ensures.fits c.in_ok-deleted.ensures.some
    (c.wrapping_add_signed.ensures ∙ ap (moved c.args.key.ms) (to_z-of_z w64 c.in_ok-ms.ms c.in_ok-ms.ensures.fits))
    (c.wrapping_add_signed-2.ensures ∙ ap (moved c.args.key.seq) (to_z-of_z w64 c.in_ok-seq.seq c.in_ok-seq.ensures.fits))
