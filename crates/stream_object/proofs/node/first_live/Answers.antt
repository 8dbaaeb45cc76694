use Rattle.std.proofs.Common.{◌≡◌, ◌∙◌, List, [], ◌∷◌, ◌++◌, length, map, refl, sym, ap, subst, arith, length-append}
use Rattle.std.proofs.lemmas.List.{append-nil}
use Rattle.listpack.specs.Pack.{texts}
use Rattle.stream_node.specs.Entry.{Stored}
use Rattle.stream_node.specs.Entries.{entries_of}
use Rattle.stream_node.specs.View.{stored}
use Rattle.stream_node.specs.Views.{left_of}
use Rattle.stream_object.specs.Node.{IsFirst}
use Rattle.stream_object.specs.Parts.{live_of}
use Rattle.stream_object.proofs.Marking.{none_live, walked, walked_first, walked_inside}
use Rattle.stream_object.proofs.node.first_live.Goals as goal

pub loop-entry-init : goal.loop-entry-init
loop-entry-init c = record { joined = refl; count = refl; none = refl }

pub returns-then-not-deleted : goal.returns-then-not-deleted
returns-then-not-deleted c =
    let all = ap left_of c.into_iter-entry-iterator.ensures.into_iter_gives ∙ c.entries-entry-items.ensures in
    let first = walked_first c.loop-entry.yielded c.in-Some.entry (left_of c.loop-entry.entry-iterator) (left_of c.next.new.self) (left_of c.into_iter-entry-iterator.result) c.loop-entry.index
    c.loop-entry.invariant.joined c.in-Some.ensures.steps c.loop-entry.invariant.count (sym c.deleted.ensures ∙ c.if-not-deleted.true) c.loop-entry.invariant.none in
    subst (λ es. IsFirst es c.loop-entry.index) all first

pub overflow_add-index : goal.overflow_add-index
overflow_add-index c =
    let all = ap left_of c.into_iter-entry-iterator.ensures.into_iter_gives ∙ c.entries-entry-items.ensures in
    let inside = walked_inside c.loop-entry.yielded c.in-Some.entry (left_of c.loop-entry.entry-iterator) (left_of c.next.new.self) (left_of c.into_iter-entry-iterator.result)
    c.loop-entry.invariant.joined c.in-Some.ensures.steps in
    omega (arith, inside, c.loop-entry.invariant.count, ap length all, c.requires.few)

pub loop-entry-preserved : goal.loop-entry-preserved
loop-entry-preserved c = record {
  joined = walked c.loop-entry.yielded c.in-Some.entry (left_of c.loop-entry.entry-iterator) (left_of c.next.new.self) (left_of c.into_iter-entry-iterator.result)
      c.loop-entry.invariant.joined c.in-Some.ensures.steps;
  count = omega (arith, c.loop-entry.invariant.count, length-append c.loop-entry.yielded (c.in-Some.entry ∷ []));
  none = none_live c.loop-entry.yielded c.in-Some.entry c.loop-entry.invariant.none (sym c.deleted.ensures ∙ c.if-not-deleted.false);
}

pub unreachable-requires : goal.unreachable-requires
unreachable-requires c =
    let all = ap left_of c.into_iter-entry-iterator.ensures.into_iter_gives ∙ c.entries-entry-items.ensures in
    let seen : map stored c.loop-entry.yielded ≡ entries_of c.args.key (texts c.args.bytes.now) = sym (append-nil (map stored c.loop-entry.yielded))
    ∙ ap (λ es. map stored c.loop-entry.yielded ++ es) (sym c.in-None.ensures.steps.0) ∙ c.loop-entry.invariant.joined ∙ all in
    omega (arith, c.requires.some, ap (λ (es : List Stored). length (live_of es)) seen, ap length c.loop-entry.invariant.none)
