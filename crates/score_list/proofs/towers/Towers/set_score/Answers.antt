use Rattle.std.proofs.Common.{◌≡◌, ℤ, sym, ap, ◌∙◌, None, is_some, to_z, of_z, w64}
use Rattle.std.specs.Prelude.{slice_set}
use Rattle.std.specs.Option.{option_copied_mut}
use Rattle.std.proofs.lemmas.Int.{to_z-of_z}
use Rattle.slab.specs.Slab.{get}
use Rattle.blocks.specs.declared.BlockRef.{BlockRef}
use Rattle.score_list.specs.Linked.{order, items}
use Rattle.score_list.proofs.Moved.{never}
use Rattle.score_list.proofs.Threading.{all_kept}
use Rattle.score_list.proofs.Joins.{has_entry}
use Rattle.score_list.proofs.Rescoring.{way_reaches, rescored_linked, rescored_items, was_there}
use Rattle.score_list.proofs.towers.Towers.set_score.Goals as goal

pub rescore_links-requires : goal.rescore_links-requires
rescore_links-requires c = way_reaches c.args.self.now c.args.rank c.args.path.now c.requires.linked c.requires.path

pub returns-clause-linked : goal.returns-clause-linked
returns-clause-linked c = rescored_linked c.args.self.now c.rescore_links.new.self c.args.key c.args.rank c.args.path.now c.in-Some.staying.now (to_z w64 (of_z w64 c.args.score)) c.requires.linked
    c.requires.path c.requires.at c.rescore_links.ensures (sym c.in-Some.ensures.value)

pub returns-clause-items : goal.returns-clause-items
returns-clause-items c =
    let t = c.args.self.now in
    let tower = c.in-Some.staying.now in
    rescored_items t c.rescore_links.new.self c.args.key c.args.rank c.args.path.now tower (to_z w64 (of_z w64 c.args.score)) c.requires.linked c.requires.path c.requires.at c.rescore_links.ensures
    (sym c.in-Some.ensures.value)
    ∙ ap (λ (score : ℤ). slice_set (items t) c.args.rank (score, tower.member)) (to_z-of_z w64 c.args.score c.ranges.score)
    ∙ ap (λ (member : BlockRef). slice_set (items t) c.args.rank (c.args.score, member))
    (sym
    (ap (λ e. e.1)
    (was_there t c.rescore_links.new.self c.args.key c.args.rank c.args.path.now tower (to_z w64 (of_z w64 c.args.score)) c.requires.linked c.requires.path c.requires.at c.rescore_links.ensures
    (sym c.in-Some.ensures.value))))

pub unreachable-requires : goal.unreachable-requires
unreachable-requires c =
    let t = c.rescore_links.new.self in
    let some = has_entry t (order c.args.self.now) c.args.rank c.args.key (all_kept c.args.self.now t (order c.args.self.now) c.rescore_links.ensures.keeps.heights c.requires.linked.based)
    c.requires.at.0 c.requires.at.1 in
    let none : get t.slab c.args.key ≡ None = sym c.get_mut.ensures.value ∙ ap option_copied_mut c.in_default.is in
    never (is_some (get t.slab c.args.key)) some (ap is_some none)
