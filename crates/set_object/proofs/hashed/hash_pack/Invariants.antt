use Rattle.std.proofs.Common.{◌≡◌, take, length}
use Rattle.std.specs.Prelude.{MatchOption}
use Rattle.blocks.specs.Blocks.{Served}
use Rattle.listpack.specs.Pack.{IsAt, texts}
use Rattle.set_object.specs.Strings.{set_of}
use Rattle.set_object.specs.Hashed.{IsHashed, no_members}
use Rattle.set_object.proofs.hashed.hash_pack.Given as goal

abbrev pub invariant-loop : goal.invariant-loop
invariant-loop g l = record {
  place : MatchOption l.next (l.counter ≡ length (texts l.pack.bytes.now)) (λ at. IsAt l.pack.bytes.now l.counter at);
  hashed : IsHashed (g.B.BlockStore.blocks l.initial.store) (g.B.BlockStore.blocks l.store) (no_members l.fn.seed) l.table (set_of (take l.counter (texts l.pack.bytes.now)));
  served : Served g.B.BlockStore.step l.initial.store l.store;
}
