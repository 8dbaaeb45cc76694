use Rattle.std.proofs.Common.{List, [], ◌∷◌, ◌++◌, length, sym, ap, ◌∙◌, append_assoc, arith}
use Rattle.std.proofs.lemmas.List.{append-nil}
use Rattle.stream_node.specs.Entry.{Pair}
use Rattle.stream_node.specs.View.{pair_of, pairs_left}
use Rattle.stream_node.proofs.entry.Entry.to_pairs.Goals as goal

pub loop-field-init : goal.loop-field-init
loop-field-init c =
    ap (λ (ps : List Pair). ps ++ pairs_left c.into_iter-field-iterator.result) c.new-pairs.ensures
    ∙ ap pairs_left c.into_iter-field-iterator.ensures.into_iter_gives
    ∙ c.pairs-field-items.ensures

pub loop-field-preserved : goal.loop-field-preserved
loop-field-preserved c =
    let front = c.loop-field.pairs in
    let left = pairs_left c.next.new.self in
    ap (λ (ps : List Pair). ps ++ left) c.in_ok-push_elements.ensures.ok
    ∙ append_assoc front (pair_of (c.in-Some.field, c.in-Some.value) ∷ []) left
    ∙ ap (λ (ps : List Pair). front ++ ps) (sym c.in-Some.ensures.steps)
    ∙ c.loop-field.invariant

pub loop-field-smaller : goal.loop-field-smaller
loop-field-smaller c = omega (arith, ap (λ (ps : List Pair). length ps) c.in-Some.ensures.steps)

pub returns : goal.returns
returns c = sym (append-nil c.loop-field.pairs) ∙ ap (λ (ps : List Pair). c.loop-field.pairs ++ ps) (sym c.in-None.ensures.steps.0) ∙ c.loop-field.invariant
