use Rattle.std.proofs.Common.{◌≡◌, Some, is_some, ap, ◌∙◌}
use Rattle.std.specs.Option.{option_map}
use Rattle.std.specs.FinMap as map
use Rattle.std.specs.Map.{lookup}
use Rattle.std.specs.Ordering.{eq_by_cmp}
use Rattle.stream_groups.specs.declared.entries.Handed.{Handed}
use Rattle.stream_groups.specs.Groups.{id_cmp, again_with}
use Rattle.stream_groups.specs.Kept.{pending_of, pendings_of}
use Rattle.stream_groups.proofs.Uses.{pending_written, pending_found, pending_there}
use Rattle.stream_groups.proofs.entries.Entries.again.Goals as goal
use Rattle.stream_groups.proofs.entries.Entries.again.Goals.{in-None, in-Some}

pub returns-clause-value : goal.returns-clause-value
returns-clause-value c = elim c.match-get_mut.branch [
  | in-None w ↦ w.result-is ∙ ap is_some w.in-None.ensures.value ∙ pending_there c.self.inside.entries.entries c.args.self.now c.args.id c.self.invariant c.self.view_is
  | in-Some w ↦ w.result-is ∙ ap is_some w.in-Some.ensures.value ∙ pending_there c.self.inside.entries.entries c.args.self.now c.args.id c.self.invariant c.self.view_is
]

pub returns-clause-new : goal.returns-clause-new
returns-clause-new c = elim c.match-get_mut.branch [
  | in-None w ↦
      ap (λ p. pendings_of p.entries.entries) w.self-inside-is ∙ ap (λ m. pendings_of m.entries) c.get_mut.follows.holds-at-none ∙ c.self.view_is
      ∙ ap (again_with c.args.self.now c.args.id c.args.moment)
      (ap (option_map pending_of) w.in-None.ensures.value ∙ pending_found c.self.inside.entries.entries c.args.self.now c.args.id c.self.invariant c.self.view_is)
  | in-Some w ↦
      (let was = w.in-Some.handed.now in
      let next : Handed = record { consumer = was.consumer; moment = c.args.moment; count = w.saturating_add-handed.result } in
      let found : Some was ≡ lookup (eq_by_cmp id_cmp c.args.id) c.self.inside.entries.entries = w.in-Some.ensures.value in
      let written = c.get_mut.follows.holds next in
      ap (λ p. pendings_of p.entries.entries) w.self-inside-is
      ∙ pending_written c.self.inside.entries.entries (c.get_mut.follows.lender next).entries c.args.self.now c.args.id was next c.self.invariant c.self.view_is found written.0 written.4
      ∙ ap (λ n. map.insert c.args.self.now c.args.id (record { consumer = was.consumer.value.items; moment = c.args.moment; count = n })) w.saturating_add-handed.ensures
      ∙ ap (again_with c.args.self.now c.args.id c.args.moment)
      (ap (option_map pending_of) found ∙ pending_found c.self.inside.entries.entries c.args.self.now c.args.id c.self.invariant c.self.view_is))
]
