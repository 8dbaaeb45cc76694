use Rattle.std.proofs.Common.{◌≡◌, ◌∙◌, [], ◌∷◌, ◌++◌, length, map, refl, sym, ap, subst, arith, length-append}
use Rattle.std.proofs.lemmas.List.{append-nil}
use Rattle.listpack.specs.Pack.{texts}
use Rattle.stream_node.specs.Entries.{entries_of}
use Rattle.stream_node.specs.View.{stored}
use Rattle.stream_node.specs.Views.{left_of}
use Rattle.stream_object.specs.Node.{IsAt, Lacks}
use Rattle.stream_object.proofs.Marking.{walked, walked_inside, walked_at, lacks_more}
use Rattle.stream_object.proofs.node.find.Goals as goal

pub loop-entry-init : goal.loop-entry-init
loop-entry-init c = record { joined = refl; count = refl; lacks = tt }

pub returns-then-is_found-clause-some : goal.returns-then-is_found-clause-some
returns-then-is_found-clause-some c =
    let all = ap left_of c.into_iter-entry-iterator.ensures.into_iter_gives ∙ c.entries-entry-items.ensures in
    let found = c.is_found.ensures.found c.if-is_found.true in
    let at = walked_at c.loop-entry.yielded c.in-Some.entry (left_of c.loop-entry.entry-iterator) (left_of c.next.new.self) (left_of c.into_iter-entry-iterator.result) c.loop-entry.index
    c.loop-entry.invariant.joined c.in-Some.ensures.steps c.loop-entry.invariant.count found.0 in
    (stored c.in-Some.entry, subst (λ es. IsAt es c.loop-entry.index (stored c.in-Some.entry)) all at, found.1)

pub overflow_add-index : goal.overflow_add-index
overflow_add-index c =
    let all = ap left_of c.into_iter-entry-iterator.ensures.into_iter_gives ∙ c.entries-entry-items.ensures in
    let inside = walked_inside c.loop-entry.yielded c.in-Some.entry (left_of c.loop-entry.entry-iterator) (left_of c.next.new.self) (left_of c.into_iter-entry-iterator.result)
    c.loop-entry.invariant.joined c.in-Some.ensures.steps in
    omega (arith, inside, c.loop-entry.invariant.count, ap length all, c.requires.few)

pub loop-entry-preserved : goal.loop-entry-preserved
loop-entry-preserved c = record {
  joined = walked c.loop-entry.yielded c.in-Some.entry (left_of c.loop-entry.entry-iterator) (left_of c.next.new.self) (left_of c.into_iter-entry-iterator.result)
      c.loop-entry.invariant.joined c.in-Some.ensures.steps;
  count = omega (arith, c.loop-entry.invariant.count, length-append c.loop-entry.yielded (c.in-Some.entry ∷ []));
  lacks = lacks_more c.args.id c.loop-entry.yielded c.in-Some.entry c.loop-entry.invariant.lacks (c.is_found.ensures.other c.if-is_found.false);
}

pub returns-clause-none : goal.returns-clause-none
returns-clause-none c =
    let all = ap left_of c.into_iter-entry-iterator.ensures.into_iter_gives ∙ c.entries-entry-items.ensures in
    let seen : map stored c.loop-entry.yielded ≡ entries_of c.args.key (texts c.args.bytes.now) = sym (append-nil (map stored c.loop-entry.yielded))
    ∙ ap (λ es. map stored c.loop-entry.yielded ++ es) (sym c.in-None.ensures.steps.0) ∙ c.loop-entry.invariant.joined ∙ all in
    subst (Lacks c.args.id) seen c.loop-entry.invariant.lacks
