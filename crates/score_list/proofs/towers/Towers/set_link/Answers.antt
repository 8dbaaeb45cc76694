use Rattle.std.proofs.Common.{◌≡◌, ◌<◌, ◌-◌, suc, length, subst, sym, arith}
use Rattle.slab.specs.Slab.{get}
use Rattle.score_list.specs.Linked.{links_at, links_of}
use Rattle.score_list.proofs.Setting.{sets_tower}
use Rattle.score_list.proofs.towers.Towers.set_link.Goals as goal

pub returns : goal.returns
returns c =
    let one : c.args.owner ≡ suc (c.args.owner - 1) = omega arith in
    let low : c.args.level < length (links_of (get c.args.self.now.slab (c.args.owner - 1))) = subst (λ o. c.args.level < length (links_at c.args.self.now o)) one c.requires in
    sets_tower c.args.self.now (c.args.owner - 1) c.args.level c.in-Some.tower.now c.args.link (sym c.in-Some.ensures.value) c.args.owner one
    (subst (λ s. c.args.level < length (links_of s)) (sym c.in-Some.ensures.value) low)
