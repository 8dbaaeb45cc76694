use Rattle.std.proofs.Common.{◌≡◌, ◌-◌, ℤ, None, is_some, get_or, sym, ap, ◌∙◌, subst, to_z, of_z, w64}
use Rattle.std.specs.Option.{option_copied_mut}
use Rattle.std.proofs.lemmas.Int.{to_z-of_z}
use Rattle.slab.specs.Slab.{get, with_value}
use Rattle.score_list.specs.Linked.{no_element, order, items, Adds}
use Rattle.score_list.proofs.Moved.{never}
use Rattle.score_list.proofs.Threading.{all_kept}
use Rattle.score_list.proofs.Joins.{has_entry}
use Rattle.score_list.proofs.Taken.{off_linked, off_items, off_short, off_beside}
use Rattle.score_list.proofs.towers.Towers.take_off.Goals as goal

pub unreachable-requires : goal.unreachable-requires
unreachable-requires c =
    let t = c.unthread.new.self in
    let some = has_entry t (order c.args.self.now) c.args.rank c.args.key (all_kept c.args.self.now t (order c.args.self.now) c.unthread.ensures.keeps.heights c.requires.linked.based)
    c.requires.rank c.requires.key in
    let none : get t.slab c.args.key ≡ None = sym c.get_mut.ensures.value ∙ ap option_copied_mut c.in_default.is in
    never (is_some (get t.slab c.args.key)) some (ap is_some none)

pub returns-clause-linked : goal.returns-clause-linked
returns-clause-linked c = off_linked c.args.self.now c.unthread.new.self c.args.key c.args.rank c.in-Some.tower.now (to_z w64 (of_z w64 c.args.score)) c.requires.linked c.unthread.ensures
    c.requires.rank c.requires.key (sym c.in-Some.ensures.value)

pub returns-clause-items : goal.returns-clause-items
returns-clause-items c = off_items c.args.self.now c.unthread.new.self c.args.key c.args.rank c.in-Some.tower.now (to_z w64 (of_z w64 c.args.score)) c.requires.linked c.unthread.ensures
    c.requires.rank c.requires.key (sym c.in-Some.ensures.value)

pub returns-clause-beside : goal.returns-clause-beside
returns-clause-beside c =
    let off = record c.unthread.new.self
    { slab = with_value c.unthread.new.self.slab c.args.key (record c.in-Some.tower.now { score = to_z w64 (of_z w64 c.args.score) }); len = c.unthread.new.self.len - 1 } in
    subst (λ (n : ℤ). Adds off off c.args.key (n, (get_or (items c.args.self.now) c.args.rank no_element).1)) (to_z-of_z w64 c.args.score c.ranges.score)
    (off_beside c.args.self.now c.unthread.new.self c.args.key c.args.rank c.in-Some.tower.now (to_z w64 (of_z w64 c.args.score)) c.requires.linked c.unthread.ensures c.requires.rank
    c.requires.key (sym c.in-Some.ensures.value) c.requires.fits)

pub returns-clause-shorter : goal.returns-clause-shorter
returns-clause-shorter c = off_short c.args.self.now c.unthread.new.self c.args.key c.args.rank c.in-Some.tower.now (to_z w64 (of_z w64 c.args.score)) c.requires.linked c.unthread.ensures
    c.requires.rank c.requires.key (sym c.in-Some.ensures.value)
