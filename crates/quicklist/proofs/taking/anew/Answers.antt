use Rattle.std.proofs.Common.{subst, arith, Bool, ℕ, List, [], ◌∷◌, ◌++◌, Ok, take, ap, ◌∙◌, sym}
use Rattle.std.proofs.lemmas.List.{take_more, take_all}
use Rattle.listpack.specs.Pack.{texts}
use Rattle.listpack.specs.Element.{element_text}
use Rattle.quicklist.specs.Nodes.{IsPacked}
use Rattle.quicklist.proofs.Going.{next_first, next_at, next_next}
use Rattle.quicklist.proofs.Written.{empty_is}
use Rattle.quicklist.proofs.Rests.{next_some}
use Rattle.quicklist.proofs.taking.anew.Goals as goal

pub loop-preserved : goal.loop-preserved
loop-preserved c =
    let bytes = c.args.pack.now.bytes.now in
    let xs = texts bytes in
    let j = c.loop.counter in
    let x = element_text c.get.result in
    let inv = c.loop.invariant in
    let at = next_at bytes j c.loop.place c.there-at.result inv.next c.there-at.ensures in
    let is = c.get.ensures.text j at in
    let took = c.in_ok-append_whole.was ∙ ap (λ (b : Bool). Ok b) c.if-not-branch.false in
    record {
      next = next_next bytes j c.next-place.result (c.next-place.ensures.place j at);
      packed = c.append_whole.ensures.packed took;
      list = c.append_whole.ensures.list took ∙ ap (λ (ys : List (List ℕ)). ys ++ x ∷ []) inv.list ∙ ap (λ (y : List ℕ). take j xs ++ y ∷ []) is ∙ sym (take_more xs j [] at.0);
    }

pub loop-init : goal.loop-init
loop-init c =
    let bytes = c.args.pack.now.bytes.now in
    let empty = empty_is c.in_ok-new.new.items c.in_ok-new.ensures in
    let same = sym c.in_ok-reserve.ensures.items in
    record { next = next_first bytes c.first-place.result c.first-place.ensures.place; packed = subst IsPacked same empty.0; list = ap texts (sym same) ∙ empty.1 }

pub there-at-requires : goal.there-at-requires
there-at-requires c = next_some c.args.pack.now.bytes.now c.loop.counter c.loop.place c.loop.invariant.next (omega (arith, c.loop-test.true, c.requires))

pub get-requires : goal.get-requires
get-requires c = (c.loop.counter, next_at c.args.pack.now.bytes.now c.loop.counter c.loop.place c.there-at.result c.loop.invariant.next c.there-at.ensures)

pub next-place-requires : goal.next-place-requires
next-place-requires c = (c.loop.counter, next_at c.args.pack.now.bytes.now c.loop.counter c.loop.place c.there-at.result c.loop.invariant.next c.there-at.ensures)

pub returns-clause-packed : goal.returns-clause-packed
returns-clause-packed c = c.loop.invariant.packed

pub returns-clause-list : goal.returns-clause-list
returns-clause-list c =
    let xs = texts c.args.pack.now.bytes.now in
    c.loop.invariant.list ∙ take_all c.loop.counter xs (omega (arith, c.loop-test.false, c.requires))
