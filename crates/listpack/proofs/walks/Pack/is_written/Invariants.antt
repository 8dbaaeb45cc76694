use Rattle.std.proofs.Common.{◌≡◌, take, map}
use Rattle.listpack.specs.Pack.{offset_of, texts, spellings_of}
use Rattle.listpack.specs.Writing.{spelling}
use Rattle.listpack.proofs.walks.Pack.is_written.Given as goal

abbrev pub invariant-loop : goal.invariant-loop
invariant-loop l = record {
  place : l.at ≡ offset_of l.self.bytes.now l.counter;
  written : take l.counter (spellings_of l.self.bytes.now) ≡ take l.counter (map spelling (texts l.self.bytes.now));
}
