use Rattle.std.proofs.Common.{◌≡◌, ℕ, ◌+◌, ◌*◌, List, length, set, sym, ap, ◌∙◌, subst, arith}
use Rattle.listpack.specs.Pack.{texts}
use Rattle.pack_pairs.specs.Pairs.{IsPairPack, pairs, seconded}
use Rattle.pack_pairs.proofs.Packs.{texts_len, pack_is_long, pair_set}
use Rattle.pack_pairs.proofs.edits.with_second.Goals as goal

pub overflow_mul-index : goal.overflow_mul-index
overflow_mul-index c = omega (arith, c.requires.index, texts_len c.args.bytes.now c.requires.pack, pack_is_long c.args.bytes.now c.requires.pack, c.requires.fits)

pub overflow_add-index : goal.overflow_add-index
overflow_add-index c = omega (arith, c.requires.index, texts_len c.args.bytes.now c.requires.pack, pack_is_long c.args.bytes.now c.requires.pack, c.requires.fits)

pub replace-requires-clause-index : goal.replace-requires-clause-index
replace-requires-clause-index c = omega (arith, c.requires.index, texts_len c.args.bytes.now c.requires.pack, ap (λ (bs : List ℕ). length (texts bs)) c.in_ok-pack.ensures.items)

pub returns-clause-pack : goal.returns-clause-pack
returns-clause-pack c =
    let p : IsPairPack c.in_ok-pack.pack.items = subst IsPairPack (sym c.in_ok-pack.ensures.items) c.requires.pack in
    (pair_set c.in_ok-pack.pack.items c.replace.new.pack.items c.args.index c.args.second.now _ p c.in_ok-replace.ensures.entries c.in_ok-replace.ensures.list).0

pub returns-clause-list : goal.returns-clause-list
returns-clause-list c =
    let p : IsPairPack c.in_ok-pack.pack.items = subst IsPairPack (sym c.in_ok-pack.ensures.items) c.requires.pack in
    (pair_set c.in_ok-pack.pack.items c.replace.new.pack.items c.args.index c.args.second.now _ p c.in_ok-replace.ensures.entries c.in_ok-replace.ensures.list).1
    ∙ ap (λ (bs : List ℕ). seconded (pairs bs) c.args.index c.args.second.now) c.in_ok-pack.ensures.items
