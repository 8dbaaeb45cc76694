use Rattle.std.proofs.Common.{◌≡◌, ◌*◌, take, length}
use Rattle.std.specs.Prelude.{MatchOption}
use Rattle.listpack.specs.Pack.{IsAt, texts}
use Rattle.pack_pairs.specs.Pairs.{pairs, paired}
use Rattle.hash_object.specs.Fields.{IsFieldPack}
use Rattle.hash_object.proofs.taking.repacked.Given as goal

abbrev pub invariant-loop-index : goal.invariant-loop-index
invariant-loop-index l = record {
  place : MatchOption l.next (2 * l.index ≡ length (texts l.pack.bytes.now)) (λ at. IsAt l.pack.bytes.now (2 * l.index) at);
  whole : IsFieldPack l.limits l.index l.new.items;
  list : pairs l.new.items ≡ take l.index (paired (texts l.pack.bytes.now));
}
