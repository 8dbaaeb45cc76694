use Rattle.std.proofs.Common.{◌≡◌, sym, ap, ◌∙◌, subst, to_z, of_z, w64, IsSome}
use Rattle.std.proofs.lemmas.Int.{to_z-of_z}
use Rattle.score_list.specs.Linked.{items, IsAt, Element}
use Rattle.score_list.specs.Sorted.{key_of, place_of}
use Rattle.score_list.proofs.Moved.{never}
use Rattle.score_list.proofs.Sortings.{sorted_parted, all_live, nowhere, not_there, live_there}
use Rattle.score_list.proofs.towers.Towers.locate.Goals as goal

pub find-rank-requires-clause-parted : goal.find-rank-requires-clause-parted
find-rank-requires-clause-parted g c = sorted_parted (g.B.BlockStore.blocks c.args.store.now) (to_z w64 (of_z w64 c.args.score), c.args.member.now) (items c.args.self.now) c.requires.sorted

pub find-rank-requires-clause-compares : goal.find-rank-requires-clause-compares
find-rank-requires-clause-compares g c = all_live (g.B.BlockStore.blocks c.args.store.now) (items c.args.self.now) c.requires.sorted

pub is_at-requires : goal.is_at-requires
is_at-requires g c = subst (λ (e : Element). IsSome ((g.B.BlockStore.blocks c.args.store.now) e.1)) (sym c.element.ensures)
    (live_there (g.B.BlockStore.blocks c.args.store.now) (c.args.score, c.args.member.now) c.args.self.now c.requires.sorted c.find-rank.result.0
    (subst (λ n. c.find-rank.result.0 ≡ place_of (g.B.BlockStore.blocks c.args.store.now) (n, c.args.member.now) (items c.args.self.now)) (to_z-of_z w64 c.args.score c.ranges.score)
    c.find-rank.ensures.rank) c.in-Some.key (subst (IsAt c.args.self.now c.find-rank.result.0) c.in-Some.is c.find-rank.ensures.tower))

pub returns-in-None-clause-none : goal.returns-in-None-clause-none
returns-in-None-clause-none g c = nowhere (g.B.BlockStore.blocks c.args.store.now) (c.args.score, c.args.member.now) c.args.self.now c.requires.sorted c.find-rank.result.0
    (subst (λ n. c.find-rank.result.0 ≡ place_of (g.B.BlockStore.blocks c.args.store.now) (n, c.args.member.now) (items c.args.self.now)) (to_z-of_z w64 c.args.score c.ranges.score)
    c.find-rank.ensures.rank) c.find-rank.result.1 c.find-rank.ensures.tower c.in-None.is

pub returns-else-is_at-clause-none : goal.returns-else-is_at-clause-none
returns-else-is_at-clause-none g c = not_there (g.B.BlockStore.blocks c.args.store.now) (c.args.score, c.args.member.now) c.args.self.now c.requires.sorted c.find-rank.result.0
    (subst (λ n. c.find-rank.result.0 ≡ place_of (g.B.BlockStore.blocks c.args.store.now) (n, c.args.member.now) (items c.args.self.now)) (to_z-of_z w64 c.args.score c.ranges.score)
    c.find-rank.ensures.rank) c.in-Some.key (subst (IsAt c.args.self.now c.find-rank.result.0) c.in-Some.is c.find-rank.ensures.tower)
    (λ same. never c.is_at.result
    (c.is_at.ensures.1 (ap (key_of (g.B.BlockStore.blocks c.args.store.now)) c.element.ensures ∙ same ∙ ap (λ n. (n, c.args.member.now)) (sym (to_z-of_z w64 c.args.score c.ranges.score))))
    c.if-is_at.false)
