use Rattle.blocks.proofs.Serve.{served_once}
use Rattle.score_table.proofs.removing.forget.Goals as goal

pub bytes-bytes-requires : goal.bytes-bytes-requires
bytes-bytes-requires g c =
    let h = c.requires.there in
    c.requires.keyed.live h.0 (record { key = c.args.member; hash = h.2.hash; value = h.1 }) h.2.found

pub unreachable-requires : goal.unreachable-requires
unreachable-requires g c =
    let h = c.requires.there in
    c.in-None.ensures.none.1.each h.0 (record { key = c.args.member; hash = h.2.hash; value = h.1 }) h.2.found c.bytes-bytes.ensures

pub returns-clause-forgets : goal.returns-clause-forgets
returns-clause-forgets g c =
    let e = c.in-Some.ensures in
    record {
      bytes = c.bytes-bytes.result.now;
      held = c.bytes-bytes.ensures;
      taken = c.in-Some.taken;
      score = _;
      removes = e.removed;
      keyed = e.keyed;
      map_is = e.map;
      grown = e.grown;
      given = c.give_back.ensures.ended;
    }

pub returns-clause-served : goal.returns-clause-served
returns-clause-served g c = served_once _ _ c.give_back.ensures.step
