use Rattle.std.proofs.Common.{◌∙◌, sym}
use Rattle.told_values.proofs.Finding.{found_sound, told_entry}
use Rattle.told_values.proofs.reading.read_entry.Goals as goal

pub returns-in-None : goal.returns-in-None
returns-in-None g c = sym (rw c.in-None.is at c.seek_at-found.ensures.gone)

pub read_kind-requires-clause-owned : goal.read_kind-requires-clause-owned
read_kind-requires-clause-owned g c = (c.value_at-value.ensures c.args.key.now c.args.moment (rw c.in-Some.is at c.seek_at-found.ensures.there)).owned

pub read_kind-requires-clause-sound : goal.read_kind-requires-clause-sound
read_kind-requires-clause-sound g c =
    found_sound _ _ c.args.db c.args.key.now c.args.moment c.value_at-value.result.now (c.value_at-value.ensures c.args.key.now c.args.moment (rw c.in-Some.is at c.seek_at-found.ensures.there)) c.requires.intact

pub returns-in_ok-kind-in-Some : goal.returns-in_ok-kind-in-Some
returns-in_ok-kind-in-Some g c =
    told_entry _ _ c.args.db c.args.key.now c.args.moment c.value_at-value.result.now (c.value_at-value.ensures c.args.key.now c.args.moment (rw c.in-Some.is at c.seek_at-found.ensures.there))
    c.seek_at-found.result.deadline c.new.result (rw c.in-Some.is at c.seek_at-found.ensures.until) (c.new.ensures ∙ c.in_ok-kind-in-Some.ensures.told)
