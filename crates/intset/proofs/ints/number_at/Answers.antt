use Rattle.std.proofs.Common.{◌*◌, w64}
use Rattle.std.proofs.lemmas.Int.{to_z-of_z}
use Rattle.intset.specs.Intset.{first_number}
use Rattle.intset.proofs.Packed.{rest_is}
use Rattle.intset.proofs.ints.number_at.Goals as goal

pub returns : goal.returns
unfolding first_number
returns c =
    rw (to_z-of_z w64 c.read_int.result (record { sfits = c.read_int.type_inv }))
    (rw (rest_is (c.args.width * c.args.index) c.args.packed.now) at c.read_int.ensures)
