use Rattle.std.proofs.Common.{◌≡◌, length, take, false}
use Rattle.std.specs.Prelude.{MatchOption}
use Rattle.listpack.specs.Pack.{IsAt, texts}
use Rattle.set_object.proofs.Sets.{among}
use Rattle.set_object.proofs.packs.find_text.Given as goal

abbrev pub invariant-loop-index : goal.invariant-loop-index
invariant-loop-index l = record {
  place : MatchOption l.next (l.index ≡ length (texts l.pack.bytes.now)) (λ at. IsAt l.pack.bytes.now l.index at);
  out : among l.text (take l.index (texts l.pack.bytes.now)) ≡ false;
}
