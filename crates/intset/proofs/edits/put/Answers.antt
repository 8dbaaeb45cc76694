use Rattle.std.proofs.Common.{◌≡◌, ◌∙◌, ◌++◌, ap, length, take, w64}
use Rattle.std.proofs.lemmas.Int.{to_z-of_z}
use Rattle.byteorder.specs.Endian.{little_bytes, low_bytes}
use Rattle.byteorder.specs.Numbers.{length-bytes_low_first}
use Rattle.intset.specs.Intset.{count_of, IsWidth, first_number}
use Rattle.intset.proofs.Edited.{put_edits, take_drop_at}
use Rattle.intset.proofs.Written.{written}
use Rattle.intset.proofs.edits.put.Goals as goal

pub returns-clause-ok : goal.returns-clause-ok
returns-clause-ok c =
    let old = c.args.set.now.items in
    let width = c.args.width in
    let sized : IsWidth width = rw c.requires.told c.requires.width.width in
    let bytes = little_bytes width (low_bytes w64 width c.args.n) in
    let many : length bytes ≡ width = length-bytes_low_first 0 width (low_bytes w64 width c.args.n) in
    let buffer = rw (to_z-of_z w64 c.args.n c.ranges.n) at c.write_int.ensures in
    let piece : take width c.write_int.new.buf ≡ bytes = ap (take width) buffer ∙ take_drop_at bytes _ width many in
    let counted : c.told_count-count.result ≡ count_of old = c.told_count-count.ensures.value ∙ ap count_of c.as_slice.ensures.value in
    put_edits old c.write_count.new.set.items (take width c.write_int.new.buf) width c.args.place c.args.n c.requires.width c.requires.length c.requires.told
    c.requires.place c.requires.room (ap length piece ∙ many)
    (λ rest. ap (λ xs. first_number width (xs ++ rest)) piece ∙ written width c.args.n rest sized c.requires.fits c.ranges.n)
    c.paste.new.set.items c.in_ok-paste.ensures.ok (rw counted at c.write_count.ensures)
