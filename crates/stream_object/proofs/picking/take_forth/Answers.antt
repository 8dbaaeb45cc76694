use Rattle.std.proofs.Common.{◌≡◌, ◌∙◌, [], ◌∷◌, ◌++◌, length, map, refl, sym, ap, arith}
use Rattle.std.proofs.lemmas.List.{append-nil, length-append, length-map}
use Rattle.listpack.specs.Pack.{texts}
use Rattle.stream_node.specs.Entries.{entries_of}
use Rattle.stream_node.specs.View.{stored}
use Rattle.stream_node.specs.Views.{left_of}
use Rattle.stream_object.specs.Ranges.{taken}
use Rattle.stream_object.proofs.Marking.{walked}
use Rattle.stream_object.proofs.Picks.{forth_more, forth_same, forth_full, forth_all}
use Rattle.stream_object.proofs.picking.take_forth.Goals as goal

pub loop-entry-init : goal.loop-entry-init
loop-entry-init c = record { joined = refl; found = sym (append-nil (map taken c.args.found.now.items)); within = c.requires.within }

pub returns-then-len-wanted-clause-found : goal.returns-then-len-wanted-clause-found
returns-then-len-wanted-clause-found c =
    let all = ap left_of c.into_iter-entry-iterator.ensures.into_iter_gives ∙ c.entries-entry-items.ensures in
    forth_full c.args.wanted.from c.args.wanted.to c.loop-entry.yielded (map taken c.args.found.now.items) (map taken c.loop-entry.found.items) c.loop-entry.invariant.found
    (left_of c.loop-entry.entry-iterator) (entries_of c.args.key (texts c.args.bytes.now)) c.args.wanted.limit (c.loop-entry.invariant.joined ∙ all)
    (omega (arith, length-map c.loop-entry.found.items taken, c.loop-entry.invariant.within, c.if-len-wanted.true, c.len.ensures))

pub returns-then-len-wanted-clause-within : goal.returns-then-len-wanted-clause-within
returns-then-len-wanted-clause-within c = c.loop-entry.invariant.within

pub loop-entry-preserved-in-Continue-branch-2 : goal.loop-entry-preserved-in-Continue-branch-2
loop-entry-preserved-in-Continue-branch-2 c = record {
  joined = walked c.loop-entry.yielded c.in-Some.entry (left_of c.loop-entry.entry-iterator) (left_of c.next.new.self) (left_of c.into_iter-entry-iterator.result)
      c.loop-entry.invariant.joined c.in-Some.ensures.steps;
  found = forth_more c.args.wanted.from c.args.wanted.to c.loop-entry.yielded (map taken c.args.found.now.items) (map taken c.loop-entry.found.items) c.loop-entry.invariant.found
      c.loop-entry.found.items c.push.new.self.items c.in_ok-one.one c.in-Some.entry c.is_picked.result refl c.in_ok-push.ensures.items c.in_ok-one.ensures c.is_picked.ensures c.if-is_picked.true;
  within = omega (arith, ap length c.in_ok-push.ensures.items, length-append c.loop-entry.found.items (c.in_ok-one.one ∷ []), c.if-len-wanted.false, c.len.ensures);
}

pub loop-entry-preserved : goal.loop-entry-preserved
loop-entry-preserved c = record {
  joined = walked c.loop-entry.yielded c.in-Some.entry (left_of c.loop-entry.entry-iterator) (left_of c.next.new.self) (left_of c.into_iter-entry-iterator.result)
      c.loop-entry.invariant.joined c.in-Some.ensures.steps;
  found = forth_same c.args.wanted.from c.args.wanted.to c.loop-entry.yielded (map taken c.args.found.now.items) (map taken c.loop-entry.found.items) c.loop-entry.invariant.found
      c.in-Some.entry c.is_picked.result c.is_picked.ensures c.if-is_picked.false;
  within = c.loop-entry.invariant.within;
}

pub returns-clause-found : goal.returns-clause-found
returns-clause-found c =
    let all = ap left_of c.into_iter-entry-iterator.ensures.into_iter_gives ∙ c.entries-entry-items.ensures in
    let passed : map stored c.loop-entry.yielded ≡ entries_of c.args.key (texts c.args.bytes.now) = sym (append-nil (map stored c.loop-entry.yielded))
    ∙ ap (λ es. map stored c.loop-entry.yielded ++ es) (sym c.in-None.ensures.steps.0) ∙ c.loop-entry.invariant.joined ∙ all in
    forth_all c.args.wanted.from c.args.wanted.to c.loop-entry.yielded (map taken c.args.found.now.items) (map taken c.loop-entry.found.items) c.loop-entry.invariant.found
    (entries_of c.args.key (texts c.args.bytes.now)) c.args.wanted.limit passed (omega (arith, length-map c.loop-entry.found.items taken, c.loop-entry.invariant.within))

pub returns-clause-within : goal.returns-clause-within
returns-clause-within c = c.loop-entry.invariant.within
