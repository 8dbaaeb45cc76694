use Rattle.std.proofs.Common.{ap, sym, subst, refl, ◌∙◌}
use Rattle.quicklist.specs.declared.reach.End.{End}
use Rattle.quicklist.specs.declared.reach.Reach.{Reach}
use Rattle.quicklist.specs.Chain.{elements}
use Rattle.quicklist.specs.Equal.{IsFrom, cleared}
use Rattle.quicklist.proofs.Going.{reach_head, reach_tail}
use Rattle.quicklist.proofs.quick.Quick.reach_of.Goals as goal

pub returns-in-Head-clause-left : goal.returns-in-Head-clause-left
returns-in-Head-clause-left g c =
    let h = c.count_from_head-many.ensures in
    (reach_head (record { text = c.args.text; from = 0; to = c.count_from_head-many.result.1 }) (elements (g.B.BlockStore.blocks c.args.store.now) c.args.self.now)
    c.count_from_head-many.result.0 refl h.inside h.counted).0

pub returns-in-Head-clause-taken : goal.returns-in-Head-clause-taken
returns-in-Head-clause-taken g c =
    let h = c.count_from_head-many.ensures in
    let r : Reach = record { text = c.args.text; from = 0; to = c.count_from_head-many.result.1 } in
    let xs = elements (g.B.BlockStore.blocks c.args.store.now) c.args.self.now in
    subst (λ (e : End). IsFrom e c.args.text.now c.count_from_head-many.result.0 xs (cleared r 0 xs)) (sym c.in-Head.is) (reach_head r xs c.count_from_head-many.result.0 refl h.inside h.counted).1

pub returns-in-Tail-clause-left : goal.returns-in-Tail-clause-left
returns-in-Tail-clause-left g c =
    let h = c.count_from_tail-many.ensures in
    let long = ap (λ v. v.len) c.self.view_is ∙ c.requires.quick.counted in
    (reach_tail (record { text = c.args.text; from = c.count_from_tail-many.result.1; to = c.self.inside.len }) (elements (g.B.BlockStore.blocks c.args.store.now) c.args.self.now)
    c.count_from_tail-many.result.0 h.inside long h.counted).0

pub returns-in-Tail-clause-taken : goal.returns-in-Tail-clause-taken
returns-in-Tail-clause-taken g c =
    let h = c.count_from_tail-many.ensures in
    let long = ap (λ v. v.len) c.self.view_is ∙ c.requires.quick.counted in
    let r : Reach = record { text = c.args.text; from = c.count_from_tail-many.result.1; to = c.self.inside.len } in
    let xs = elements (g.B.BlockStore.blocks c.args.store.now) c.args.self.now in
    subst (λ (e : End). IsFrom e c.args.text.now c.count_from_tail-many.result.0 xs (cleared r 0 xs)) (sym c.in-Tail.is) (reach_tail r xs c.count_from_tail-many.result.0 h.inside long h.counted).1
