use Rattle.std.proofs.Common.{◌≡◌, length, arith, ap, w64}
use Rattle.std.proofs.lemmas.Int.{to_z-of_z}
use Rattle.intset.specs.Intset.{packed_numbers}
use Rattle.intset.proofs.Packed.{length_packed_in_packed, packed_room, slice_get_packed}
use Rattle.intset.proofs.ints.Ints.number.Goals as goal

pub number_at-requires-clause-room : goal.number_at-requires-clause-room
number_at-requires-clause-room c =
    let s = c.self.inside in
    let many : length (packed_numbers s.width s.count s.packed.now) ≡ length c.args.self.now = ap length c.self.view_is in
    let some = length_packed_in_packed s.width s.count s.packed.now in
    omega (arith, packed_room s.width c.args.index s.count (omega arith))

pub returns : goal.returns
returns c =
    let s = c.self.inside in
    let many : length (packed_numbers s.width s.count s.packed.now) ≡ length c.args.self.now = ap length c.self.view_is in
    let some = length_packed_in_packed s.width s.count s.packed.now in
    rw (to_z-of_z w64 c.number_at.result (record { sfits = c.number_at.type_inv }), c.number_at.ensures, ← c.self.view_is)
    (slice_get_packed s.width s.count s.packed.now c.args.index (omega arith))
