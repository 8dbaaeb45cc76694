use Rattle.listpack.specs.Pack.{texts}
use Rattle.quicklist.proofs.Going.{IsNext}
use Rattle.quicklist.proofs.Clearings.{IsSoFar}
use Rattle.quicklist.proofs.clearing.cleared_pack.Given as goal

abbrev pub invariant-loop-j : goal.invariant-loop-j
invariant-loop-j l = record {
  next : IsNext l.pack.bytes.now l.j l.place;
  so_far : IsSoFar l.reach l.start (texts l.pack.bytes.now) l.j l.left.items;
}
