use Rattle.std.proofs.Common.{◌<◌, ◌+◌, length, refl, sym, arith, ◌∙◌}
use Rattle.std.proofs.lemmas.Grind.{common_steps}
use Rattle.std.proofs.lemmas.List.{length-set}
use Rattle.sessions.proofs.Running.{runs_start, runs_all, to_head, to_unknown, to_bytes, to_fault, to_memory, fed_up, fed_on, slot_at, steps_whole, piece_is, piece_short}
use Rattle.sessions.proofs.chunk.serve_chunk.Goals as goal

pub bytes-init : goal.bytes-init
bytes-init g c = record {
  runs = runs_start g.E.Sessions.turns g.E.Server.executes g.E.Server.works _ _ _ _ _;
  fed = fed_up _ c.args.before (c.args.before + 0) (omega arith) c.requires.fed;
  within = omega arith;
  many = c.requires.slots;
  same = refl;
}

pub bytes-preserved-in-Head : goal.bytes-preserved-in-Head
bytes-preserved-in-Head g c = record {
  runs = to_head g.E.Sessions.turns g.E.Server.executes g.E.Server.works c.args.bytes.now c.bytes.at _ _ _ _ _ _ _ _ _ _ _ c.bytes.invariant.runs
      (steps_whole _ _ c.args.bytes.now c.bytes.at _ c.in-Head.ensures);
  fed = fed_up _ (c.args.before + c.bytes.at) (c.args.before + (c.bytes.at + 1)) (omega arith) c.bytes.invariant.fed;
  within = grind (arith, common_steps);
  many = c.bytes.invariant.many ∙ sym c.in-Head.ensures.sessions;
  same = c.in-Head.ensures.sessions ∙ c.bytes.invariant.same;
}

pub bytes-preserved-in-Unknown : goal.bytes-preserved-in-Unknown
bytes-preserved-in-Unknown g c = record {
  runs = to_unknown g.E.Sessions.turns g.E.Server.executes g.E.Server.works c.args.bytes.now c.bytes.at _ _ _ _ _ _ _ _ _ _ _ c.bytes.invariant.runs
      (steps_whole _ _ c.args.bytes.now c.bytes.at _ c.in-Unknown.ensures);
  fed = fed_up _ (c.args.before + c.bytes.at) (c.args.before + length c.args.bytes.now) (let w = c.bytes.invariant.within in omega (arith, w)) c.bytes.invariant.fed;
  within = omega arith;
  many = c.bytes.invariant.many ∙ sym c.in-Unknown.ensures.sessions;
  same = c.in-Unknown.ensures.sessions ∙ c.bytes.invariant.same;
}

pub bytes-preserved : goal.bytes-preserved
bytes-preserved g c =
    let known = c.in-Bytes.ensures.tells.0 in
    let many = c.bytes.invariant.many in
    let small : c.in-Bytes.session < length c.bytes.slots.items = omega (arith, known, many) in
    let was = slot_at c.bytes.slots.items c.in-Bytes.session c.index_mut.result.now c.index_mut.ensures.value small in
    record {
      runs = to_bytes g.E.Sessions.turns g.E.Server.executes g.E.Server.works c.args.bytes.now c.bytes.at _ _ _ _ _ _ _ _ _ _ _ c.bytes.invariant.runs c.in-Bytes.session c.in-Bytes.count
          (steps_whole _ _ c.args.bytes.now c.bytes.at _ c.in-Bytes.ensures) _ (piece_is c.args.bytes.now c.bytes.at c.in-Bytes.count) c.index_mut.result.now was _ _ _ _ c.in-On.ensures;
      fed = fed_on c.bytes.slots.items c.in-Bytes.session c.index_mut.result.now _ c.args.before c.bytes.at c.in-Bytes.count _ small was c.bytes.invariant.fed c.in-On.ensures.1
          (piece_short c.args.bytes.now c.bytes.at c.in-Bytes.count);
      within = grind (arith, common_steps);
      many = length-set c.bytes.slots.items c.in-Bytes.session _ ∙ c.bytes.invariant.many ∙ sym c.in-Bytes.ensures.sessions;
      same = c.in-Bytes.ensures.sessions ∙ c.bytes.invariant.same;
    }

pub returns-in-Fault-clause-chunk : goal.returns-in-Fault-clause-chunk
returns-in-Fault-clause-chunk g c =
    let known = c.in-Bytes.ensures.tells.0 in
    let many = c.bytes.invariant.many in
    let small : c.in-Bytes.session < length c.bytes.slots.items = omega (arith, known, many) in
    let was = slot_at c.bytes.slots.items c.in-Bytes.session c.index_mut.result.now c.index_mut.ensures.value small in
    to_fault g.E.Sessions.turns g.E.Server.executes g.E.Server.works c.args.bytes.now c.bytes.at _ _ _ _ _ _ _ _ _ _ _ c.bytes.invariant.runs c.in-Bytes.session c.in-Bytes.count
    (steps_whole _ _ c.args.bytes.now c.bytes.at _ c.in-Bytes.ensures) _ (piece_is c.args.bytes.now c.bytes.at c.in-Bytes.count) c.index_mut.result.now was _ _ c.bytes.invariant.same c.in-Fault.ensures

pub returns-in-Memory-clause-chunk : goal.returns-in-Memory-clause-chunk
returns-in-Memory-clause-chunk g c =
    let known = c.in-Bytes.ensures.tells.0 in
    let many = c.bytes.invariant.many in
    let small : c.in-Bytes.session < length c.bytes.slots.items = omega (arith, known, many) in
    let was = slot_at c.bytes.slots.items c.in-Bytes.session c.index_mut.result.now c.index_mut.ensures.value small in
    to_memory g.E.Sessions.turns g.E.Server.executes g.E.Server.works c.args.bytes.now c.bytes.at _ _ _ _ _ _ _ _ _ _ _ c.bytes.invariant.runs c.in-Bytes.session c.in-Bytes.count
    (steps_whole _ _ c.args.bytes.now c.bytes.at _ c.in-Bytes.ensures) _ (piece_is c.args.bytes.now c.bytes.at c.in-Bytes.count) c.index_mut.result.now was _ _ c.bytes.invariant.same c.in-Memory.ensures

pub returns-clause-chunk : goal.returns-clause-chunk
returns-clause-chunk g c = (
  runs_all g.E.Sessions.turns g.E.Server.executes g.E.Server.works c.args.bytes.now c.bytes.at _ _ c.bytes.hub _ _ _ _ _ _ _ _ c.bytes.invariant.runs (grind (arith, common_steps)),
  fed_up _ (c.args.before + c.bytes.at) (c.args.before + length c.args.bytes.now) (let w = c.bytes.invariant.within in omega (arith, w)) c.bytes.invariant.fed,
)
