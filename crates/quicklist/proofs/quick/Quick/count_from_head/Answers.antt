use Rattle.std.proofs.Common.{◌≡◌, ◌+◌, ◌<◌, ◌≤◌, [], length, get_or, ap, ◌∙◌, sym, subst, refl, arith}
use Rattle.std.specs.Prelude.{MatchOption}
use Rattle.listpack.specs.Element.{element_text}
use Rattle.quicklist.specs.Chain.{elements}
use Rattle.quicklist.specs.Cursor.{IsCursor}
use Rattle.quicklist.specs.Equal.{equals}
use Rattle.std.proofs.lemmas.List.{take_all}
use Rattle.quicklist.proofs.Going.{equals_front, head_yes, head_no, going_wanted, going_all, match_as}
use Rattle.quicklist.proofs.Rests.{cursor_there}
use Rattle.quicklist.proofs.quick.Quick.count_from_head.Goals as goal
use Rattle.quicklist.proofs.quick.Quick.count_from_head.Goals.{then-is_text+else-many-wanted, else-is_text}

pub returns-then-many-wanted : goal.returns-then-many-wanted
returns-then-many-wanted g c =
    let m = g.B.BlockStore.blocks c.args.store.now in
    let q = c.args.self.now in
    let xs = elements m q in
    let text = c.args.text.now in
    let k = c.loop-index.index in
    let x = element_text c.element.result in
    let place = subst (λ o. MatchOption o (length xs ≤ k) (λ cursor. IsCursor m q cursor × (cursor.index ≡ k))) c.there-cursor.ensures c.loop-index.invariant.next in
    let is = c.element.ensures ∙ ap (λ i. get_or xs i []) place.1 in
    let inside : k < length xs = omega (arith, c.loop-index-test.true, c.requires.quick.counted, ap (λ v. v.len) c.self.view_is) in
    let counted = head_yes text xs k x inside is (sym c.is_text.ensures ∙ c.if-is_text.true) in
    let most = c.if-many-wanted.true in
    record {
      inside = omega (arith, inside);
      counted = omega (arith, counted, c.loop-index.invariant.counted);
      many = most ∙ sym (going_wanted c.args.wanted (equals text xs) (omega (arith, most)) (omega (arith, most, counted, c.loop-index.invariant.counted, equals_front text xs (k + 1))));
    }

pub loop-index-preserved : goal.loop-index-preserved
loop-index-preserved g c =
    let m = g.B.BlockStore.blocks c.args.store.now in
    let q = c.args.self.now in
    let xs = elements m q in
    let text = c.args.text.now in
    let k = c.loop-index.index in
    let x = element_text c.element.result in
    let place = subst (λ o. MatchOption o (length xs ≤ k) (λ cursor. IsCursor m q cursor × (cursor.index ≡ k))) c.there-cursor.ensures c.loop-index.invariant.next in
    let is = c.element.ensures ∙ ap (λ i. get_or xs i []) place.1 in
    let inside : k < length xs = omega (arith, c.loop-index-test.true, c.requires.quick.counted, ap (λ v. v.len) c.self.view_is) in
    let so_far = c.loop-index.invariant.counted in
    let fewer = c.loop-index.invariant.fewer in
    record {
      next = match_as c.next-place.result (λ h. omega (arith, h, place.1)) (λ cursor h. (h.0, omega (arith, h.1, place.1))) c.next-place.ensures;
      counted = elim c.if-is_text.branch [
        | then-is_text+else-many-wanted w ↦ omega (arith, w.many-is, so_far, head_yes text xs k x inside is (sym c.is_text.ensures ∙ w.if-is_text.true))
        | else-is_text w ↦ omega (arith, w.many-is, so_far, head_no text xs k x inside is (sym c.is_text.ensures ∙ w.if-is_text.false))
      ];
      fewer = λ h. elim c.if-is_text.branch [
        | then-is_text+else-many-wanted w ↦ omega (arith, w.many-is, fewer h, w.if-many-wanted.false)
        | else-is_text w ↦ omega (arith, w.many-is, fewer h)
      ];
    }

pub returns-clause-many : goal.returns-clause-many
returns-clause-many g c =
    let xs = elements (g.B.BlockStore.blocks c.args.store.now) c.args.self.now in
    let long : length xs ≤ c.loop-index.index = omega (arith, c.loop-index-test.false, c.requires.quick.counted, ap (λ v. v.len) c.self.view_is) in
    let counted = c.loop-index.invariant.counted ∙ ap (equals c.args.text.now) (take_all c.loop-index.index xs long) in
    counted ∙ sym (going_all c.args.wanted (equals c.args.text.now xs) (λ h. omega (arith, counted, c.loop-index.invariant.fewer h)))

pub there-cursor-requires : goal.there-cursor-requires
there-cursor-requires g c =
    let m = g.B.BlockStore.blocks c.args.store.now in
    let q = c.args.self.now in
    let inside : c.loop-index.index < length (elements m q) = omega (arith, c.loop-index-test.true, c.requires.quick.counted, ap (λ v. v.len) c.self.view_is) in
    cursor_there m q c.loop-index.index (length (elements m q)) c.loop-index.place c.loop-index.invariant.next inside

pub element-requires-clause-quick : goal.element-requires-clause-quick
element-requires-clause-quick g c = c.requires.quick

pub element-requires-clause-cursor : goal.element-requires-clause-cursor
element-requires-clause-cursor g c =
    let m = g.B.BlockStore.blocks c.args.store.now in
    let q = c.args.self.now in
    let k = c.loop-index.index in
    let place = subst (λ o. MatchOption o (length (elements m q) ≤ k) (λ cursor. IsCursor m q cursor × (cursor.index ≡ k))) c.there-cursor.ensures c.loop-index.invariant.next in
    place.0

pub next-place-requires-clause-quick : goal.next-place-requires-clause-quick
next-place-requires-clause-quick g c = c.requires.quick

pub next-place-requires-clause-cursor : goal.next-place-requires-clause-cursor
next-place-requires-clause-cursor g c =
    let m = g.B.BlockStore.blocks c.args.store.now in
    let q = c.args.self.now in
    let k = c.loop-index.index in
    let place = subst (λ o. MatchOption o (length (elements m q) ≤ k) (λ cursor. IsCursor m q cursor × (cursor.index ≡ k))) c.there-cursor.ensures c.loop-index.invariant.next in
    place.0

pub loop-index-init : goal.loop-index-init
loop-index-init g c = record { next = c.seek-place.ensures; counted = refl; fewer = λ h. h }
