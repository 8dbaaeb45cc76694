use Rattle.std.proofs.Common.{◌≡◌, ℕ, ◌<◌, ◌^◌, sym, subst}
use Rattle.stream_object.specs.Streams.{pair_of, stream_of}
use Rattle.rdb_parts.specs.Pens.{Writes}
use Rattle.rdb_stream_writer.specs.Ids.{IsStoredId}
use Rattle.rdb_stream_writer.specs.Streams.{numbers_word, marks_word}
use Rattle.rdb_stream_writer.proofs.marks.write_marks.Goals as goal

pub returns-clause-writes : goal.returns-clause-writes
returns-clause-writes g c =
    let m = g.B.BlockStore.blocks c.args.store.now in
    let value = stream_of m c.args.stream.now in
    let same : numbers_word c.len.result (pair_of c.last_id.result) (pair_of c.first_id-first.result) (pair_of c.greatest_deleted.result) c.added.result ≡ marks_word value =
    λ i. numbers_word (c.len.ensures m c.requires i) (sym (c.last_id.ensures m) i) (c.first_id-first.ensures i) (sym (c.greatest_deleted.ensures m) i) (sym (c.added.ensures m) i) in
    subst (λ word. Writes (g.F.Shelf.seen c.args.shelf.now) (g.F.Shelf.seen c.write_numbers.new.shelf) c.args.pen.now c.write_numbers.new.pen word c.write_numbers.result) same c.write_numbers.ensures.writes

pub returns-clause-fits : goal.returns-clause-fits
returns-clause-fits g c =
    let m = g.B.BlockStore.blocks c.args.store.now in
    let value = stream_of m c.args.stream.now in
    let fits = c.write_numbers.ensures.fits in
    record {
      count_fits = subst (λ (n : ℕ). n < 2 ^ 64) (c.len.ensures m c.requires) fits.count_fits;
      last_fits = subst IsStoredId (sym (c.last_id.ensures m)) fits.last_fits;
      first_fits = subst IsStoredId c.first_id-first.ensures fits.first_fits;
      deleted_fits = subst IsStoredId (sym (c.greatest_deleted.ensures m)) fits.deleted_fits;
      added_fits = subst (λ (n : ℕ). n < 2 ^ 64) (sym (c.added.ensures m)) fits.added_fits;
    }
