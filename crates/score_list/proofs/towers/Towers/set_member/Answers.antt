use Rattle.std.proofs.Common.{◌≡◌, ℤ, refl, sym, ap, ◌∙◌, Some, None, is_some}
use Rattle.std.specs.Prelude.{slice_set}
use Rattle.std.specs.Option.{option_copied_mut}
use Rattle.slab.specs.Slab.{get}
use Rattle.score_list.specs.Linked.{Element, order, items, IsAt}
use Rattle.score_list.proofs.Moved.{never}
use Rattle.score_list.proofs.Joins.{has_entry}
use Rattle.score_list.proofs.Renaming.{changed_linked, changed_items, element_found}
use Rattle.score_list.proofs.towers.Towers.set_member.Goals as goal

pub returns-clause-linked : goal.returns-clause-linked
returns-clause-linked c = changed_linked c.args.self.now c.key_at-key.result c.in-Some.tower.now (record c.in-Some.tower.now { member = c.args.new }) (sym c.in-Some.ensures.value) refl refl
    c.requires.linked

pub returns-clause-items : goal.returns-clause-items
returns-clause-items c =
    let t = c.args.self.now in
    let at : IsAt t c.args.rank (Some c.key_at-key.result) = (c.requires.rank, c.key_at-key.ensures.at) in
    let tower = c.in-Some.tower.now in
    changed_items t c.key_at-key.result tower (record tower { member = c.args.new }) (sym c.in-Some.ensures.value) refl refl c.requires.linked c.args.rank at
    ∙ ap (λ (score : ℤ). let e : Element = (score, c.args.new) in slice_set (items t) c.args.rank e)
    (sym (ap (λ e. e.0) (element_found t c.key_at-key.result c.args.rank tower (sym c.in-Some.ensures.value) at)))

pub unreachable-requires : goal.unreachable-requires
unreachable-requires c =
    let some = has_entry c.args.self.now (order c.args.self.now) c.args.rank c.key_at-key.result c.requires.linked.based c.requires.rank c.key_at-key.ensures.at in
    let none : get c.args.self.now.slab c.key_at-key.result ≡ None = sym c.get_mut.ensures.value ∙ ap option_copied_mut c.in_default.is in
    never (is_some (get c.args.self.now.slab c.key_at-key.result)) some (ap is_some none)
