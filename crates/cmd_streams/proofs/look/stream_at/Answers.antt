use Rattle.std.proofs.Common.{◌≡◌, inl, inr, ap, false}
use Rattle.cmd_streams.proofs.Looking.{is_stream, found_other}
use Rattle.cmd_streams.proofs.look.stream_at.Goals as goal

pub returns-in-Text : goal.returns-in-Text
returns-in-Text g c =
    let other : is_stream c.in-Some.value.now ≡ false = elim c.in-Text.is [
      | inl h ↦ ap is_stream h.1
      | inr (inl h) ↦ ap is_stream h.1
      | inr (inr (inl h)) ↦ ap is_stream h.1
      | inr (inr (inr (inl h))) ↦ ap is_stream h.1
      | inr (inr (inr (inr h))) ↦ ap is_stream h.1
    ] in
    found_other _ _ c.args.at.now c.args.key.now c.in-Some.value.now other c.in-Some.ensures.found
