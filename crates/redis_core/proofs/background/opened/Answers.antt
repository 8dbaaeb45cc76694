use Rattle.std.proofs.Common.{Option, None, refl, sym, subst}
use Rattle.defrag.specs.declared.walk.Walk.{Walk}
use Rattle.redis_core.specs.Walking.{IsSweptTo, Opens}
use Rattle.redis_core.specs.Walking.Opens.{open_walk, new_walk}
use Rattle.redis_core.proofs.background.opened.Goals as goal

pub returns-in-Some-clause-opens : goal.returns-in-Some-clause-opens
returns-in-Some-clause-opens g c =
    let blocks = g.B.BlockStore.blocks in
    let heap = g.B.BlockStore.heap in
    let P : Option Walk → Type 0 = λ w. Opens blocks heap c.args.keyspace.now c.args.keyspace.now w c.in-Some.walk in
    subst P (sym c.in-Some.is) (open_walk c.in-Some.walk refl)

pub returns-in-None-clause-opens : goal.returns-in-None-clause-opens
returns-in-None-clause-opens g c =
    let blocks = g.B.BlockStore.blocks in
    let heap = g.B.BlockStore.heap in
    let s = c.start.ensures in
    let P : Option Walk → Type 0 = λ w. Opens blocks heap c.args.keyspace.now c.start.new.keyspace w c.start.result in
    let Q : Walk → Type 0 = λ w. Opens blocks heap c.args.keyspace.now c.start.new.keyspace None w in
    let R : Walk → Type 0 = λ w. IsSweptTo blocks heap c.start.new.keyspace w in
    subst P (sym c.in-None.is) (subst Q (sym s.place) (new_walk s.bases s.blocks s.begun (subst R s.place s.swept)))
