use Rattle.std.proofs.Common.{◌≡◌, ◌<◌, [], Some, length, get_or, sym, ap, ◌∙◌}
use Rattle.std.specs.Prelude.{slice_get}
use Rattle.std.specs.Option.{option_map}
use Rattle.std.proofs.lemmas.Option.{slice_get-get_or, slice_get_past}
use Rattle.stream_groups.specs.Consumers.{bytes_of}
use Rattle.stream_groups.proofs.Gaps.{keys_at_in_gaps}
use Rattle.stream_groups.proofs.consumers.Consumers.at.Goals as goal

pub returns-in-Some : goal.returns-in-Some
returns-in-Some c =
    let within : c.args.index < length c.deref.result.now = c.in-Some.ensures.lookup.3.0 in
    let same : c.in-Some.name.now ≡ get_or c.deref.result.now c.args.index c.in-Some.name.now = c.in-Some.ensures.lookup.1 in
    ap Some (c.as_slice.ensures.value ∙ ap (λ v. v.items) c.deref-in-Some.ensures)
    ∙ ap (option_map bytes_of) (ap Some same ∙ sym (slice_get-get_or c.deref.result.now c.args.index c.in-Some.name.now within) ∙ ap (λ xs. slice_get xs c.args.index) c.deref.ensures.value)
    ∙ sym (keys_at_in_gaps c.self.inside.names.items c.args.self.now [] 0 c.self.invariant c.self.view_is c.args.index)

pub returns-in-None : goal.returns-in-None
returns-in-None c =
    ap (option_map bytes_of) (sym (slice_get_past c.deref.result.now c.args.index c.in-None.ensures.lookup.3) ∙ ap (λ xs. slice_get xs c.args.index) c.deref.ensures.value)
    ∙ sym (keys_at_in_gaps c.self.inside.names.items c.args.self.now [] 0 c.self.invariant c.self.view_is c.args.index)
