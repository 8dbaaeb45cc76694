use Rattle.std.proofs.Common.{◌≡◌, ◌∙◌, [], ◌∷◌, ◌++◌, List, length, map, refl, sym, ap, arith}
use Rattle.std.proofs.lemmas.List.{append-nil, map-append}
use Rattle.std.specs.Prelude.{if◌then◌else◌}
use Rattle.listpack.specs.Pack.{texts}
use Rattle.stream_node.specs.Entries.{entries_of}
use Rattle.stream_node.specs.Entry.{Stored}
use Rattle.stream_node.specs.View.{stored}
use Rattle.stream_node.specs.Views.{left_of}
use Rattle.stream_object.specs.Parts.{live_of}
use Rattle.stream_object.specs.Ranges.{is_between, seen}
use Rattle.std.specs.List.{filter}
use Rattle.stream_object.proofs.Marking.{walked}
use Rattle.stream_object.proofs.Picks.{picked_of, picked_more}
use Rattle.stream_object.proofs.picking.picked.Goals as goal

pub loop-entry-init : goal.loop-entry-init
loop-entry-init c = record { joined = refl; picked = ap (map seen) c.new-picked.ensures.items }

pub loop-entry-preserved : goal.loop-entry-preserved
loop-entry-preserved c = record {
  joined = walked c.loop-entry.yielded c.in-Some.entry (left_of c.loop-entry.entry-iterator) (left_of c.next.new.self) (left_of c.into_iter-entry-iterator.result)
      c.loop-entry.invariant.joined c.in-Some.ensures.steps;
  picked = c.loop-entry.invariant.picked ∙ sym (picked_more c.args.from c.args.to c.loop-entry.yielded c.in-Some.entry c.is_picked.result c.is_picked.ensures
      ∙ ap (λ b. picked_of c.args.from c.args.to c.loop-entry.yielded ++ (if b then seen c.in-Some.entry ∷ [] else [])) c.if-is_picked.false
      ∙ append-nil (picked_of c.args.from c.args.to c.loop-entry.yielded));
}

pub returns : goal.returns
returns c =
    let all = ap left_of c.into_iter-entry-iterator.ensures.into_iter_gives ∙ c.entries-entry-items.ensures in
    let passed : map stored c.loop-entry.yielded ≡ entries_of c.args.key (texts c.args.bytes.now) = sym (append-nil (map stored c.loop-entry.yielded))
    ∙ ap (λ es. map stored c.loop-entry.yielded ++ es) (sym c.in-None.ensures.steps.0) ∙ c.loop-entry.invariant.joined ∙ all in
    c.loop-entry.invariant.picked ∙ ap (λ es. filter (is_between c.args.from c.args.to) (live_of es)) passed

pub loop-entry-preserved-in-Continue-1 : goal.loop-entry-preserved-in-Continue-1
loop-entry-preserved-in-Continue-1 c =
    let entry = c.in-Some.entry in
    let front = picked_of c.args.from c.args.to c.loop-entry.yielded in
    record {
      joined = walked c.loop-entry.yielded entry (left_of c.loop-entry.entry-iterator) (left_of c.next.new.self) (left_of c.into_iter-entry-iterator.result)
          c.loop-entry.invariant.joined c.in-Some.ensures.steps;
      picked =
          ap (map seen) c.in_ok-push.ensures.items
          ∙ map-append seen c.loop-entry.picked.items (entry ∷ [])
          ∙ ap (λ es. es ++ seen entry ∷ []) c.loop-entry.invariant.picked
          ∙ sym (picked_more c.args.from c.args.to c.loop-entry.yielded entry c.is_picked.result c.is_picked.ensures
          ∙ ap (λ b. front ++ (if b then seen entry ∷ [] else [])) c.if-is_picked.true);
    }

pub loop-entry-smaller-in-Continue-1 : goal.loop-entry-smaller-in-Continue-1
loop-entry-smaller-in-Continue-1 c = omega (arith, ap (λ (es : List Stored). length es) c.in-Some.ensures.steps)

pub loop-entry-smaller : goal.loop-entry-smaller
loop-entry-smaller c = omega (arith, ap (λ (es : List Stored). length es) c.in-Some.ensures.steps)
