use Rattle.std.proofs.Common.{◌≡◌, ◌∙◌, List, [], ◌∷◌, ◌++◌, length, map, refl, sym, ap, arith, length-append}
use Rattle.std.proofs.lemmas.List.{append-nil, length-map}
use Rattle.std.specs.List.{filter}
use Rattle.std.specs.Prelude.{if◌then◌else◌}
use Rattle.listpack.specs.Pack.{texts}
use Rattle.stream_node.specs.Entries.{entries_of}
use Rattle.stream_node.specs.Entry.{Stored}
use Rattle.stream_node.specs.View.{stored}
use Rattle.stream_node.specs.Views.{left_of}
use Rattle.stream_object.specs.Parts.{live_of, is_live, plain}
use Rattle.stream_object.specs.Ranges.{seen}
use Rattle.stream_object.specs.Below.{is_low}
use Rattle.stream_object.proofs.Marking.{walked, walked_inside, length_stored}
use Rattle.stream_object.proofs.Rises.{low_of, low_more, length_kept}
use Rattle.stream_object.proofs.below.count_below.Goals as goal

pub loop-entry-init : goal.loop-entry-init
loop-entry-init c = record { joined = refl; count = refl }

pub overflow_add-count : goal.overflow_add-count
overflow_add-count c =
    let all = ap left_of c.into_iter-entry-iterator.ensures.into_iter_gives ∙ c.entries-entry-items.ensures in
    let inside = walked_inside c.loop-entry.yielded c.in-Some.entry (left_of c.loop-entry.entry-iterator) (left_of c.next.new.self) (left_of c.into_iter-entry-iterator.result)
    c.loop-entry.invariant.joined c.in-Some.ensures.steps in
    let es = map stored c.loop-entry.yielded in
    omega (
      arith,
      inside,
      ap length all,
      c.requires.few,
      c.loop-entry.invariant.count,
      length_kept (is_low c.args.least) (live_of es),
      length-map (filter is_live es) plain,
      length_kept
          is_live es,
      length_stored c.loop-entry.yielded,
    )

pub loop-entry-preserved : goal.loop-entry-preserved
loop-entry-preserved c = record {
  joined = walked c.loop-entry.yielded c.in-Some.entry (left_of c.loop-entry.entry-iterator) (left_of c.next.new.self) (left_of c.into_iter-entry-iterator.result)
      c.loop-entry.invariant.joined c.in-Some.ensures.steps;
  count = c.loop-entry.invariant.count ∙ sym (ap length (low_more c.args.least c.loop-entry.yielded c.in-Some.entry c.is_below.result c.is_below.ensures
      ∙ ap (λ b. low_of c.args.least c.loop-entry.yielded ++ (if b then seen c.in-Some.entry ∷ [] else [])) c.if-is_below.false
      ∙ append-nil (low_of c.args.least c.loop-entry.yielded)));
}

pub returns : goal.returns
returns c =
    let all = ap left_of c.into_iter-entry-iterator.ensures.into_iter_gives ∙ c.entries-entry-items.ensures in
    let passed : map stored c.loop-entry.yielded ≡ entries_of c.args.key (texts c.args.bytes.now) = sym (append-nil (map stored c.loop-entry.yielded))
    ∙ ap (λ es. map stored c.loop-entry.yielded ++ es) (sym c.in-None.ensures.steps.0) ∙ c.loop-entry.invariant.joined ∙ all in
    c.loop-entry.invariant.count ∙ ap (λ es. length (filter (is_low c.args.least) (live_of es))) passed

pub loop-entry-preserved-then-is_below : goal.loop-entry-preserved-then-is_below
loop-entry-preserved-then-is_below c =
    let low = low_of c.args.least c.loop-entry.yielded in
    let more = low_more c.args.least c.loop-entry.yielded c.in-Some.entry c.is_below.result c.is_below.ensures
    ∙ ap (λ b. low ++ (if b then seen c.in-Some.entry ∷ [] else [])) c.if-is_below.true in
    record {
      joined = walked c.loop-entry.yielded c.in-Some.entry (left_of c.loop-entry.entry-iterator) (left_of c.next.new.self) (left_of c.into_iter-entry-iterator.result)
          c.loop-entry.invariant.joined c.in-Some.ensures.steps;
      count = omega (arith, c.loop-entry.invariant.count, ap length more, length-append low (seen c.in-Some.entry ∷ []));
    }

pub loop-entry-smaller-then-is_below : goal.loop-entry-smaller-then-is_below
loop-entry-smaller-then-is_below c = omega (arith, ap (λ (es : List Stored). length es) c.in-Some.ensures.steps)

pub loop-entry-smaller : goal.loop-entry-smaller
loop-entry-smaller c = omega (arith, ap (λ (es : List Stored). length es) c.in-Some.ensures.steps)
