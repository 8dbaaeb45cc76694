use Rattle.std.proofs.Common.{◌∙◌, ℕ, ◌-◌, ap, subst, arith}
use Rattle.stream_object.specs.Streams.{IsChanged, stream_of, dropping}
use Rattle.stream_object.proofs.Trims.{told_err}
use Rattle.stream_object.proofs.stream.Stream.trim_len.Goals as goal

pub returns-clause-trimmed : goal.returns-clause-trimmed
returns-clause-trimmed g c =
    let m = g.B.BlockStore.blocks c.args.store.now in
    let after = g.B.BlockStore.blocks c.drop_front.new.store in
    subst (λ (k : ℕ). IsChanged m after c.args.self.now c.drop_front.new.self (dropping (stream_of m c.args.self.now) k))
    (c.saturating_sub-count.ensures ∙ ap (λ n. n - c.args.keep) c.requires.counted) c.in_ok-drop_front.ensures.dropped

pub returns-in_err-drop_front-clause-err_some : goal.returns-in_err-drop_front-clause-err_some
returns-in_err-drop_front-clause-err_some g c =
    let s = c.in_err-drop_front.ensures.err_some in
    told_err c.from_residual.result (s.0, omega (arith, s.1, c.saturating_sub-count.ensures, c.requires.counted), s.2)
