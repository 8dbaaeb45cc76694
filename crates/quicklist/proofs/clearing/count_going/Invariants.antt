use Rattle.std.proofs.Common.{◌≡◌, ◌+◌, length, take}
use Rattle.listpack.specs.Pack.{texts}
use Rattle.quicklist.specs.Equal.{cleared}
use Rattle.quicklist.proofs.Going.{IsNext}
use Rattle.quicklist.proofs.clearing.count_going.Given as goal

abbrev pub invariant-loop-j : goal.invariant-loop-j
invariant-loop-j l = record {
  next : IsNext l.pack.bytes.now l.j l.place;
  counted : l.going + length (cleared l.reach l.start (take l.j (texts l.pack.bytes.now))) ≡ l.j;
}
