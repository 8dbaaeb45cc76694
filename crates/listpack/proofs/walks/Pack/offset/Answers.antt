use Rattle.std.proofs.Common.{◌≡◌, ◌<◌, ℕ, List, length, arith}
use Rattle.listpack.specs.Pack.{IsPack, offset_of}
use Rattle.listpack.proofs.Offsets.{length_offset}
use Rattle.listpack.proofs.walks.Pack.offset.Goals as goal

inside : (bytes : List ℕ) (i at : ℕ) → IsPack bytes → at ≡ offset_of bytes i → at < length bytes
inside bytes i at p e = omega (arith, length_offset bytes i p, e)

pub returns-then-index-from-clause-inside : goal.returns-then-index-from-clause-inside
returns-then-index-from-clause-inside c = inside c.args.self.now.bytes.now _ _ c.args.self.now.packed c.offset_from_front.ensures

pub returns-else-index-from-clause-inside : goal.returns-else-index-from-clause-inside
returns-else-index-from-clause-inside c = inside c.args.self.now.bytes.now _ _ c.args.self.now.packed c.offset_from_back.ensures
