use Rattle.std.proofs.Common.{◌≡◌, true, false, Option, Some, None, is_some, sym, ap, ◌∙◌}
use Rattle.std.specs.Option.{option_map}
use Rattle.std.specs.FinMap as map
use Rattle.std.proofs.lemmas.Bool.{cond-true, cond-false}
use Rattle.std.specs.Map.{lookup}
use Rattle.std.specs.Ordering.{eq_by_cmp}
use Rattle.stream_groups.specs.declared.entries.Handed.{Handed}
use Rattle.stream_groups.specs.Groups.{Id, id_cmp, Pendings}
use Rattle.stream_groups.specs.Kept.{pending_of, pendings_of, restored}
use Rattle.stream_groups.proofs.Uses.{pending_written, pending_there, numbered_remove}
use Rattle.stream_groups.proofs.entries.Entries.restore.Goals as goal

-- an id that is pending gets its entry
there : (pending : Pendings) (id : Id) (handed : Handed) (was : Option Handed) → was ≡ Some handed → map.contains_key pending id ≡ true
    → map.insert pending id (pending_of handed) ≡ restored pending id (option_map pending_of was)
there pending id handed was is known = sym (cond-true _ _ _ known) ∙ ap (λ w. restored pending id (option_map pending_of w)) (sym is)

-- an id that isn't pending gets none
missing : (pending : Pendings) (id : Id) (handed : Handed) (was : Option Handed) → was ≡ Some handed → map.contains_key pending id ≡ false → pending ≡ restored pending id (option_map pending_of was)
missing pending id handed was is unknown = sym (cond-false _ _ _ unknown) ∙ ap (λ w. restored pending id (option_map pending_of w)) (sym is)

pub returns-in-None : goal.returns-in-None
returns-in-None c = numbered_remove pending_of c.self.inside.entries.entries c.self.invariant c.remove.new.self.entries c.remove.ensures.ordered c.args.id c.remove.ensures.entries
    ∙ ap (λ m. map.remove m c.args.id) c.self.view_is ∙ ap (λ was. restored c.args.self.now c.args.id (option_map pending_of was)) (sym c.in-None.is)

pub returns-in-Some-get_mut : goal.returns-in-Some-get_mut
returns-in-Some-get_mut c =
    let found : Some c.in-Some-get_mut.slot.now ≡ lookup (eq_by_cmp id_cmp c.args.id) c.self.inside.entries.entries = c.in-Some-get_mut.ensures.value in
    let written = c.get_mut.follows.holds c.in-Some.handed in
    pending_written c.self.inside.entries.entries (c.get_mut.follows.lender c.in-Some.handed).entries c.args.self.now c.args.id c.in-Some-get_mut.slot.now c.in-Some.handed c.self.invariant
    c.self.view_is found written.0 written.4
    ∙ there c.args.self.now c.args.id c.in-Some.handed c.args.was c.in-Some.is
    (sym (pending_there c.self.inside.entries.entries c.args.self.now c.args.id c.self.invariant c.self.view_is) ∙ sym (ap is_some found))

pub returns-in_default : goal.returns-in_default
returns-in_default c =
    let found : None ≡ lookup (eq_by_cmp id_cmp c.args.id) c.self.inside.entries.entries = c.in_default.ensures.value in
    ap (λ m. pendings_of m.entries) c.get_mut.follows.holds-at-none ∙ c.self.view_is
    ∙ missing c.args.self.now c.args.id c.in-Some.handed c.args.was c.in-Some.is
    (sym (pending_there c.self.inside.entries.entries c.args.self.now c.args.id c.self.invariant c.self.view_is) ∙ sym (ap is_some found))
