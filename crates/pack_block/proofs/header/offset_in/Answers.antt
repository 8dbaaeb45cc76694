use Rattle.std.proofs.Common.{◌≡◌, ℕ, List, ap, ◌∙◌, arith}
use Rattle.listpack.specs.Pack.{offset_of}
use Rattle.listpack.proofs.Offsets.{length_offset}
use Rattle.pack_block.proofs.header.offset_in.Goals as goal

pub returns-in-Some-clause-inside : goal.returns-in-Some-clause-inside
returns-in-Some-clause-inside c =
    let at : c.in-Some.at ≡ offset_of c.args.bytes.now c.args.index = c.in-Some.ensures.place.1 ∙ ap (λ (b : List ℕ). offset_of b c.args.index) c.known.ensures in
    omega (arith, at, length_offset c.args.bytes.now c.args.index c.requires.packed)
