use Rattle.std.proofs.Common.{◌≡◌, inl, inr, ap, false}
use Rattle.cmd_zsets.proofs.Joins.{is_set, found_no_set}
use Rattle.cmd_zsets.proofs.look.set_at.Goals as goal

pub returns-in-Text : goal.returns-in-Text
returns-in-Text g c =
    let other : is_set c.in-Some.value.now ≡ false = elim c.in-Text.is [
      | inl h ↦ ap is_set h.1
      | inr (inl h) ↦ ap is_set h.1
      | inr (inr (inl h)) ↦ ap is_set h.1
      | inr (inr (inr (inl h))) ↦ ap is_set h.1
      | inr (inr (inr (inr h))) ↦ ap is_set h.1
    ] in
    found_no_set _ _ c.args.at.now c.args.key.now c.in-Some.value.now other c.in-Some.ensures.found
