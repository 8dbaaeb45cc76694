use Rattle.std.proofs.Common.{◌≡◌, take}
use Rattle.listpack.specs.Pack.{texts}
use Rattle.quicklist.specs.Nodes.{IsPacked}
use Rattle.quicklist.proofs.Going.{IsNext}
use Rattle.quicklist.proofs.taking.anew.Given as goal

abbrev pub invariant-loop : goal.invariant-loop
invariant-loop l = record {
  next : IsNext l.pack.bytes.now l.counter l.place;
  packed : IsPacked l.new.items;
  list : texts l.new.items ≡ take l.counter (texts l.pack.bytes.now);
}
