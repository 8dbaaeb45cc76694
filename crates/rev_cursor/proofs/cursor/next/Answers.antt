use Rattle.std.proofs.Common.{◌≡◌, ◌∙◌, arith, ap}
use Rattle.rev_cursor.specs.Place.{next_of, end_of}
use Rattle.rev_cursor.proofs.Reversal.{onto}
use Rattle.rev_cursor.proofs.Places.{next_cursor, end_of_next_of, bucket_of}
use Rattle.rev_cursor.proofs.cursor.next.Goals as goal

pub returns : goal.returns
returns c =
    let value : c.reverse_bits-2.result ≡ next_of c.args.cursor c.args.bits
    = next_cursor c.args.bits c.args.cursor c.reverse_bits.result c.reverse_bits-2.result c.requires (c.reverse_bits.ensures ∙ onto 64 c.args.cursor 0 ∙ omega arith) c.reverse_bits-2.ensures in
    let end = ap end_of value ∙ end_of_next_of c.args.bits c.args.cursor c.requires in
    record { value = value; end = end; bucket = bucket_of c.args.bits c.args.cursor c.reverse_bits-2.result c.requires end }
