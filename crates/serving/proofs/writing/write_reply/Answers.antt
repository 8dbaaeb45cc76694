use Rattle.std.proofs.Common.{◌≡◌, [], take, ap, ◌∙◌}
use Rattle.serving.specs.Output.{AllPending, pending_bytes}
use Rattle.std.proofs.Common.{refl}
use Rattle.serving.proofs.Onward.{fails_before, one_pending, none_pending, parts_fail, rest_put}
use Rattle.serving.proofs.writing.write_reply.Goals as goal

pub returns-then-gather_reply : goal.returns-then-gather_reply
returns-then-gather_reply g c = AllPending refl c.if-gather_reply.ensures

pub returns-in-Err : goal.returns-in-Err
returns-in-Err g c = fails_before _ _ (pending_bytes c.args.pending.now) _ _ c.if-gather_reply.ensures c.in-Err.ensures.puts

pub returns-then-gather_reply-2 : goal.returns-then-gather_reply-2
returns-then-gather_reply-2 g c =
    let none : pending_bytes c.flush.new.pending ≡ [] = ap (λ n. take n c.flush.new.pending.room.items) c.in-Ok.ensures.none in
    one_pending _ _ (pending_bytes c.args.pending.now) _ _ _ _ c.if-gather_reply.ensures c.in-Ok.ensures.puts none c.if-gather_reply-2.ensures

pub returns-in-Err-write_parts : goal.returns-in-Err-write_parts
returns-in-Err-write_parts g c =
    let none : pending_bytes c.flush.new.pending ≡ [] = ap (λ n. take n c.flush.new.pending.room.items) c.in-Ok.ensures.none in
    parts_fail _ _ _ (g.O.Sink.seen c.args.output.now) (pending_bytes c.args.pending.now) _ (pending_bytes c.gather_reply-2.new.pending) [] [] _ c.if-gather_reply.ensures
    c.in-Ok.ensures.puts (c.if-gather_reply-2.ensures ∙ none) c.in-Err-write_parts.ensures

pub returns-in-Ok-write_parts : goal.returns-in-Ok-write_parts
returns-in-Ok-write_parts g c =
    let none : pending_bytes c.flush.new.pending ≡ [] = ap (λ n. take n c.flush.new.pending.room.items) c.in-Ok.ensures.none in
    rest_put _ _ _ _ (pending_bytes c.args.pending.now) _ (pending_bytes c.gather_reply-2.new.pending) _ _ _ c.if-gather_reply.ensures c.in-Ok.ensures.puts
    (c.if-gather_reply-2.ensures ∙ none) c.in-Ok-write_parts.ensures c.flush-in-Ok-write_parts.result (none_pending _ _ _ c.flush-in-Ok-write_parts.ensures.none)
    c.flush-in-Ok-write_parts.ensures.puts
