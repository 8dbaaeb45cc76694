use Rattle.std.proofs.Common.{◌≡◌, ◌∙◌, List, ◌++◌, length, map, refl, sym, ap, arith}
use Rattle.std.proofs.lemmas.List.{append-nil}
use Rattle.listpack.specs.Pack.{texts}
use Rattle.stream_node.specs.Entry.{Stored}
use Rattle.stream_node.specs.Entries.{entries_of}
use Rattle.stream_node.specs.View.{stored}
use Rattle.stream_node.specs.Views.{left_of}
use Rattle.stream_object.specs.Parts.{live_of}
use Rattle.stream_object.specs.Streams.{pair_of}
use Rattle.stream_object.proofs.Marking.{none_live, walked}
use Rattle.rdb_stream_writer.specs.Streams.{first_of}
use Rattle.rdb_stream_writer.proofs.Firsts.{first_is}
use Rattle.rdb_stream_writer.proofs.marks.first_live.Goals as goal

pub loop-entry-init : goal.loop-entry-init
loop-entry-init c = record { joined = refl; none = refl }

pub returns-then-not-deleted : goal.returns-then-not-deleted
returns-then-not-deleted c =
    let all = ap left_of c.into_iter-entry-iterator.ensures.into_iter_gives ∙ c.entries-entry-items.ensures in
    let first = first_is c.loop-entry.yielded c.in-Some.entry (left_of c.loop-entry.entry-iterator) (left_of c.next.new.self) (left_of c.into_iter-entry-iterator.result)
    c.loop-entry.invariant.joined c.in-Some.ensures.steps c.loop-entry.invariant.none (sym c.deleted.ensures ∙ c.if-not-deleted.true) in
    ap pair_of c.id.ensures ∙ first ∙ ap (λ (es : List Stored). first_of (live_of es)) all

pub loop-entry-preserved : goal.loop-entry-preserved
loop-entry-preserved c = record {
  joined = walked c.loop-entry.yielded c.in-Some.entry (left_of c.loop-entry.entry-iterator) (left_of c.next.new.self) (left_of c.into_iter-entry-iterator.result)
      c.loop-entry.invariant.joined c.in-Some.ensures.steps;
  none = none_live c.loop-entry.yielded c.in-Some.entry c.loop-entry.invariant.none (sym c.deleted.ensures ∙ c.if-not-deleted.false);
}

pub unreachable-requires : goal.unreachable-requires
unreachable-requires c =
    let all = ap left_of c.into_iter-entry-iterator.ensures.into_iter_gives ∙ c.entries-entry-items.ensures in
    let seen : map stored c.loop-entry.yielded ≡ entries_of c.args.key (texts c.args.bytes.now) = sym (append-nil (map stored c.loop-entry.yielded))
    ∙ ap (λ es. map stored c.loop-entry.yielded ++ es) (sym c.in-None.ensures.steps.0) ∙ c.loop-entry.invariant.joined ∙ all in
    omega (arith, c.requires.some, ap (λ (es : List Stored). length (live_of es)) seen, ap length c.loop-entry.invariant.none)
