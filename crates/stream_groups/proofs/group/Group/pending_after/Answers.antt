use Rattle.std.proofs.Common.{◌≡◌, Some, sym, ap, ◌∙◌}
use Rattle.std.specs.FinMap as map
use Rattle.std.specs.Prelude.{slice_get}
use Rattle.stream_groups.specs.Groups.{Pending, later}
use Rattle.stream_groups.specs.Kept.{pending_of}
use Rattle.stream_groups.proofs.Listing.{later_found}
use Rattle.stream_groups.proofs.group.Group.pending_after.Goals as goal

pub unwrap-consumer-requires : goal.unwrap-consumer-requires
unwrap-consumer-requires c =
    let entry : Pending = pending_of c.in-Some.found.1.now in
    let first : slice_get (later c.args.above c.self.inside.pending) 0 ≡ Some (c.in-Some.found.0, entry) = sym c.in-Some.ensures in
    c.rank.ensures.known ∙ ap (map.contains_key c.self.inside.consumers) (c.as_slice.ensures.value ∙ ap (λ v. v.items) c.deref.ensures)
    ∙ c.self.invariant c.in-Some.found.0 entry (later_found c.args.above c.self.inside.pending (c.in-Some.found.0, entry) first)
