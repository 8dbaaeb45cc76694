use Rattle.std.proofs.Common.{◌∷◌, [], length, map, sym, ap, arith}
use Rattle.std.proofs.lemmas.List.{append-nil, length-append, length-map}
use Rattle.stream_object.specs.Ranges.{seen, taken, turned}
use Rattle.stream_object.proofs.Picks.{taken_early, taken_all, one_more_taken, length_turned}
use Rattle.stream_object.proofs.picking.take_up.Goals as goal

pub loop-index-init : goal.loop-index-init
loop-index-init c = record { found = sym (append-nil (map taken c.args.found.now.items)); within = c.requires }

pub loop-index-preserved : goal.loop-index-preserved
loop-index-preserved c = record {
  found = one_more_taken c.args.wanted.back c.args.picked.now (map taken c.args.found.now.items) c.loop-index.found.items c.push.new.self.items c.in_ok-one.one
      c.index-picked-place_of.result c.loop-index.index c.place_of.result
      c.loop-index.invariant.found c.in_ok-push.ensures.items c.in_ok-one.ensures
      c.index-picked-place_of.is
      (c.place_of.ensures.place (map seen c.args.picked.now) (seen c.index-picked-place_of.result) (length-map c.args.picked.now seen)) c.loop-index-test.true;
  within = omega (arith, ap length c.in_ok-push.ensures.items, length-append c.loop-index.found.items (c.in_ok-one.one ∷ []), c.if-len-wanted.false, c.len.ensures);
}

pub returns-then-len-wanted-clause-found : goal.returns-then-len-wanted-clause-found
returns-then-len-wanted-clause-found c =
    taken_early (map taken c.args.found.now.items) (turned c.args.wanted.back (map seen c.args.picked.now)) (map taken c.loop-index.found.items) c.loop-index.index c.args.wanted.limit
    c.loop-index.invariant.found
    (omega (arith, length-map c.loop-index.found.items taken, c.loop-index.invariant.within, c.if-len-wanted.true, c.len.ensures))

pub returns-then-len-wanted-clause-within : goal.returns-then-len-wanted-clause-within
returns-then-len-wanted-clause-within c = c.loop-index.invariant.within

pub returns-clause-found : goal.returns-clause-found
returns-clause-found c =
    taken_all (map taken c.args.found.now.items) (turned c.args.wanted.back (map seen c.args.picked.now)) (map taken c.loop-index.found.items) c.loop-index.index c.args.wanted.limit
    c.loop-index.invariant.found
    (omega (arith, length_turned c.args.wanted.back (map seen c.args.picked.now), length-map c.args.picked.now seen, c.loop-index-test.false))
    (omega (arith, length-map c.loop-index.found.items taken, c.loop-index.invariant.within))

pub returns-clause-within : goal.returns-clause-within
returns-clause-within c = c.loop-index.invariant.within
