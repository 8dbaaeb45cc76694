use Rattle.std.proofs.Common.{◌<◌, ◌^◌, Some, None, is_some, sym, ap}
use lib.Signed.{mag}
use Rattle.int_text.proofs.NumberOf.{reads_number_of}
use Rattle.set_object.proofs.packs.is_number.Goals as goal

pub returns-in-Some : goal.returns-in-Some
returns-in-Some c =
    let n = c.in-Some.field-0 in
    let small : mag n < 2 ^ 63 = (rw c.in-Some.is at c.read_i64.type_inv).1.1.1.1.0.1 in
    sym (ap is_some (reads_number_of c.args.text.now (Some n) ((record { sfits = small }, c.in-Some.ensures.number), tt)))

pub returns-in-None : goal.returns-in-None
returns-in-None c = sym (ap is_some (reads_number_of c.args.text.now None (tt, c.in-None.ensures.none)))
