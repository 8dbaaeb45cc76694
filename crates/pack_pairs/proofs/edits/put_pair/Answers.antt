use Rattle.std.proofs.Common.{◌*◌, arith}
use Rattle.pack_pairs.proofs.Packs.{texts_len, pack_is_long, put_len, pair_put, put_index}
use Rattle.pack_pairs.proofs.edits.put_pair.Goals as goal

pub overflow_mul-index : goal.overflow_mul-index
overflow_mul-index c = omega (arith, c.requires.index, texts_len c.args.pack.items c.requires.pack, pack_is_long c.args.pack.items c.requires.pack, c.requires.fits)

pub insert-requires-clause-index : goal.insert-requires-clause-index
insert-requires-clause-index c = omega (arith, c.requires.index, texts_len c.args.pack.items c.requires.pack)

pub overflow_mul-index-2 : goal.overflow_mul-index-2
overflow_mul-index-2 c = omega (arith, c.requires.index, texts_len c.args.pack.items c.requires.pack, pack_is_long c.args.pack.items c.requires.pack, c.requires.fits)

pub insert-requires-2-clause-index : goal.insert-requires-2-clause-index
insert-requires-2-clause-index c =
    put_index c.args.pack.items c.insert.new.pack.items (2 * c.args.index) c.args.second.now c.in_ok-insert.ensures.list (omega (arith, c.requires.index, texts_len c.args.pack.items c.requires.pack))

pub insert-requires-2-clause-fits : goal.insert-requires-2-clause-fits
insert-requires-2-clause-fits c =
    omega (
      arith,
      put_len c.args.pack.items c.insert.new.pack.items c.requires.pack.written (2 * c.args.index) c.args.second.now _ c.in_ok-insert.ensures.entries c.in_ok-insert.ensures.list
          c.requires.pack.pack,
      c.requires.fits,
    )

pub returns-clause-pack : goal.returns-clause-pack
returns-clause-pack c =
    (pair_put c.args.pack.items c.insert.new.pack.items c.insert-2.new.pack.items c.args.index c.args.first.now c.args.second.now _ _ c.requires.pack c.requires.index
    c.in_ok-insert.ensures.entries c.in_ok-insert.ensures.list c.in_ok-insert-2.ensures.entries c.in_ok-insert-2.ensures.list).0

pub returns-clause-list : goal.returns-clause-list
returns-clause-list c =
    (pair_put c.args.pack.items c.insert.new.pack.items c.insert-2.new.pack.items c.args.index c.args.first.now c.args.second.now _ _ c.requires.pack c.requires.index
    c.in_ok-insert.ensures.entries c.in_ok-insert.ensures.list c.in_ok-insert-2.ensures.entries c.in_ok-insert-2.ensures.list).1
