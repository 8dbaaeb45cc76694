use Rattle.std.proofs.Common.{◌≡◌, ◌+◌, ◌-◌, ◌<◌, [], length, drop, get_or, ap, ◌∙◌, sym, subst, arith}
use Rattle.std.specs.Prelude.{MatchOption}
use Rattle.listpack.specs.Element.{element_text}
use Rattle.quicklist.specs.Chain.{elements}
use Rattle.quicklist.specs.Cursor.{IsCursor}
use Rattle.quicklist.specs.Equal.{equals}
use Rattle.quicklist.proofs.Cursors.{index_inside}
use Rattle.quicklist.proofs.Going.{equals_back, tail_yes, tail_no, none_behind, match_as, going_wanted, going_all}
use Rattle.quicklist.proofs.Rests.{cursor_some}
use Rattle.quicklist.proofs.quick.Quick.count_from_tail.Goals as goal
use Rattle.quicklist.proofs.quick.Quick.count_from_tail.Goals.{then-is_text+else-many-wanted, else-is_text}

pub loop-index-init : goal.loop-index-init
loop-index-init g c =
    let m = g.B.BlockStore.blocks c.args.store.now in
    let q = c.args.self.now in
    let long : c.self.inside.len ≡ length (elements m q) = ap (λ v. v.len) c.self.view_is ∙ c.requires.quick.counted in
    record {
      next = match_as c.seek-place.result (λ h. omega (arith, h, long, c.saturating_sub.ensures))
          (λ cursor h. (h.0, omega (arith, h.1, long, c.saturating_sub.ensures, index_inside m q cursor.index cursor.node h.0.among c.requires.quick h.0.place))) c.seek-place.ensures;
      counted = none_behind c.args.text.now (elements m q) c.self.inside.len (omega (arith, long));
      fewer = λ h. h;
    }

pub returns-then-many-wanted : goal.returns-then-many-wanted
returns-then-many-wanted g c =
    let m = g.B.BlockStore.blocks c.args.store.now in
    let q = c.args.self.now in
    let xs = elements m q in
    let text = c.args.text.now in
    let k = c.loop-index.index - 1 in
    let x = element_text c.element.result in
    let some : 0 < c.loop-index.index = omega (arith, c.loop-index-test.true) in
    let place = subst (λ o. MatchOption o (c.loop-index.index ≡ 0) (λ cursor. IsCursor m q cursor × (cursor.index + 1 ≡ c.loop-index.index))) c.there-cursor.ensures c.loop-index.invariant.next in
    let at : c.there-cursor.result.index ≡ k = omega (arith, place.1) in
    let is = c.element.ensures ∙ ap (λ i. get_or xs i []) at in
    let inside : k < length xs = omega (arith, at, index_inside m q c.there-cursor.result.index c.there-cursor.result.node place.0.among c.requires.quick place.0.place) in
    let next : k + 1 ≡ c.loop-index.index = omega (arith, some) in
    let behind = ap (λ i. equals text (drop i xs)) next in
    let counted = tail_yes text xs k x inside is (sym c.is_text.ensures ∙ c.if-is_text.true) in
    let most = c.if-many-wanted.true in
    record {
      inside = omega (arith, inside);
      counted = omega (arith, counted, behind, c.loop-index.invariant.counted);
      many = most ∙ sym (going_wanted c.args.wanted (equals text xs) (omega (arith, most)) (omega (arith, most, counted, behind, c.loop-index.invariant.counted, equals_back text xs k)));
    }

pub loop-index-preserved : goal.loop-index-preserved
loop-index-preserved g c =
    let m = g.B.BlockStore.blocks c.args.store.now in
    let q = c.args.self.now in
    let xs = elements m q in
    let text = c.args.text.now in
    let k = c.loop-index.index - 1 in
    let x = element_text c.element.result in
    let some : 0 < c.loop-index.index = omega (arith, c.loop-index-test.true) in
    let place = subst (λ o. MatchOption o (c.loop-index.index ≡ 0) (λ cursor. IsCursor m q cursor × (cursor.index + 1 ≡ c.loop-index.index))) c.there-cursor.ensures c.loop-index.invariant.next in
    let at : c.there-cursor.result.index ≡ k = omega (arith, place.1) in
    let is = c.element.ensures ∙ ap (λ i. get_or xs i []) at in
    let inside : k < length xs = omega (arith, at, index_inside m q c.there-cursor.result.index c.there-cursor.result.node place.0.among c.requires.quick place.0.place) in
    let next : k + 1 ≡ c.loop-index.index = omega (arith, some) in
    let behind = ap (λ i. equals text (drop i xs)) next in
    let so_far = c.loop-index.invariant.counted in
    let fewer = c.loop-index.invariant.fewer in
    record {
      next = match_as c.prev-place.result (λ h. omega (arith, h, at)) (λ cursor h. (h.0, omega (arith, h.1, at))) c.prev-place.ensures;
      counted = elim c.if-is_text.branch [
        | then-is_text+else-many-wanted w ↦ omega (arith, w.many-is, so_far, behind, tail_yes text xs k x inside is (sym c.is_text.ensures ∙ w.if-is_text.true))
        | else-is_text w ↦ omega (arith, w.many-is, so_far, behind, tail_no text xs k x inside is (sym c.is_text.ensures ∙ w.if-is_text.false))
      ];
      fewer = λ h. elim c.if-is_text.branch [
        | then-is_text+else-many-wanted w ↦ omega (arith, w.many-is, fewer h, w.if-many-wanted.false)
        | else-is_text w ↦ omega (arith, w.many-is, fewer h)
      ];
    }

pub returns-clause-many : goal.returns-clause-many
returns-clause-many g c =
    let xs = elements (g.B.BlockStore.blocks c.args.store.now) c.args.self.now in
    let zero_th : c.loop-index.index ≡ 0 = omega (arith, c.loop-index-test.false) in
    let counted = c.loop-index.invariant.counted ∙ ap (λ i. equals c.args.text.now (drop i xs)) zero_th in
    counted ∙ sym (going_all c.args.wanted (equals c.args.text.now xs) (λ h. omega (arith, counted, c.loop-index.invariant.fewer h)))

pub there-cursor-requires : goal.there-cursor-requires
there-cursor-requires g c =
    cursor_some (g.B.BlockStore.blocks c.args.store.now) c.args.self.now c.loop-index.index c.loop-index.place c.loop-index.invariant.next (omega (arith, c.loop-index-test.true))

pub element-requires-clause-quick : goal.element-requires-clause-quick
element-requires-clause-quick g c = c.requires.quick

pub element-requires-clause-cursor : goal.element-requires-clause-cursor
element-requires-clause-cursor g c =
    let m = g.B.BlockStore.blocks c.args.store.now in
    let q = c.args.self.now in
    let place = subst (λ o. MatchOption o (c.loop-index.index ≡ 0) (λ cursor. IsCursor m q cursor × (cursor.index + 1 ≡ c.loop-index.index))) c.there-cursor.ensures c.loop-index.invariant.next in
    place.0

pub prev-place-requires-clause-quick : goal.prev-place-requires-clause-quick
prev-place-requires-clause-quick g c = c.requires.quick

pub prev-place-requires-clause-cursor : goal.prev-place-requires-clause-cursor
prev-place-requires-clause-cursor g c =
    let m = g.B.BlockStore.blocks c.args.store.now in
    let q = c.args.self.now in
    let place = subst (λ o. MatchOption o (c.loop-index.index ≡ 0) (λ cursor. IsCursor m q cursor × (cursor.index + 1 ≡ c.loop-index.index))) c.there-cursor.ensures c.loop-index.invariant.next in
    place.0
