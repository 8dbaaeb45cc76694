use Rattle.std.specs.Prelude.{bytes_eq, false}
use Rattle.std.proofs.Common.{◌≡◌, ◌≤◌, [], length, get_or, ap, sym, ◌∙◌, arith}
use Rattle.std.proofs.lemmas.List.{take_all}
use Rattle.listpack.specs.Element.{element_text}
use Rattle.quicklist.specs.Chain.{elements}
use Rattle.plain_model.specs.ListSteps.{places}
use Rattle.cmd_lists.proofs.Places.{place_other}
use Rattle.cmd_lists.proofs.inserting.first_equal.Goals as goal

pub loop-index-preserved : goal.loop-index-preserved
loop-index-preserved g c =
    let xs = elements (g.B.BlockStore.blocks c.args.store.now) c.args.list.now in
    let meets = rw c.there-cursor.ensures at c.loop-index.invariant.next in
    let is : element_text c.element.result ≡ get_or xs c.loop-index.index [] = c.element.ensures ∙ ap (λ i. get_or xs i []) meets.index_is in
    let other : bytes_eq (element_text c.element.result) c.args.text.now ≡ false = sym c.is_text.ensures ∙ c.if-is_text.false in
    record {
      next = c.met_behind-place.ensures c.loop-index.index meets;
      none = place_other c.args.text.now xs c.loop-index.index (element_text c.element.result) meets.inside is other ∙ c.loop-index.invariant.none;
    }

pub returns-then-is_text-clause-found : goal.returns-then-is_text-clause-found
returns-then-is_text-clause-found g c =
    let xs = elements (g.B.BlockStore.blocks c.args.store.now) c.args.list.now in
    let meets = rw c.there-cursor.ensures at c.loop-index.invariant.next in
    let is : element_text c.element.result ≡ get_or xs c.loop-index.index [] = c.element.ensures ∙ ap (λ i. get_or xs i []) meets.index_is in
    record {
      inside = meets.inside;
      first = c.loop-index.invariant.none;
      equal = ap (λ x. bytes_eq x c.args.text.now) (sym is) ∙ sym c.is_text.ensures ∙ c.if-is_text.true;
    }

pub returns-clause-found : goal.returns-clause-found
returns-clause-found g c =
    let xs = elements (g.B.BlockStore.blocks c.args.store.now) c.args.list.now in
    let all : length xs ≤ c.loop-index.index = omega (arith, c.loop-index-test.false, c.len-index-end.ensures, c.requires.counted) in
    ap (places 0 c.args.text.now) (sym (take_all c.loop-index.index xs all)) ∙ c.loop-index.invariant.none
