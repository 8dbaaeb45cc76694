use Rattle.std.proofs.Common.{◌≡◌, [], take, ◌∙◌, ap}
use Rattle.serving.specs.Output.{pending_bytes}
use Rattle.serving.proofs.Onward.{puts_straight}
use Rattle.sessions.proofs.unit.write_bytes.Goals as goal

pub returns : goal.returns
returns g c =
    let none : pending_bytes c.flush.new.pending ≡ [] = ap (λ n. take n c.flush.new.pending.room.items) c.in-Ok.ensures.none in
    puts_straight _ _ _ (pending_bytes c.args.pending.now) _ _ _ c.put_all.result c.if-gather_bytes.ensures c.in-Ok.ensures.puts (c.if-gather_bytes-2.ensures ∙ none) c.put_all.ensures
