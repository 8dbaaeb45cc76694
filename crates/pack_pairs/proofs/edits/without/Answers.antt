use Rattle.std.proofs.Common.{◌≡◌, ℕ, ◌+◌, ◌*◌, List, length, sym, ap, ◌∙◌, subst, arith}
use Rattle.std.specs.List.{remove as removed}
use Rattle.listpack.specs.Pack.{texts}
use Rattle.pack_pairs.specs.Pairs.{IsPairPack, pairs}
use Rattle.pack_pairs.proofs.Packs.{texts_len, pack_is_long, pair_out}
use Rattle.pack_pairs.proofs.edits.without.Goals as goal

pub overflow_mul-index : goal.overflow_mul-index
overflow_mul-index c = omega (
  arith,
  c.requires.index,
  texts_len c.args.bytes.now c.requires.pack,
  pack_is_long c.args.bytes.now c.requires.pack,
  ap (λ (bs : List ℕ). length bs) c.in_ok-pack.ensures.items,
  c.in_ok-pack.pack.small,
)

pub overflow_mul-index-2 : goal.overflow_mul-index-2
overflow_mul-index-2 c = omega (
  arith,
  c.requires.index,
  texts_len c.args.bytes.now c.requires.pack,
  pack_is_long c.args.bytes.now c.requires.pack,
  ap (λ (bs : List ℕ). length bs) c.in_ok-pack.ensures.items,
  c.in_ok-pack.pack.small,
)

pub overflow_add-index : goal.overflow_add-index
overflow_add-index c = omega (
  arith,
  c.requires.index,
  texts_len c.args.bytes.now c.requires.pack,
  pack_is_long c.args.bytes.now c.requires.pack,
  ap (λ (bs : List ℕ). length bs) c.in_ok-pack.ensures.items,
  c.in_ok-pack.pack.small,
)

pub remove_range-requires-clause-inside : goal.remove_range-requires-clause-inside
remove_range-requires-clause-inside c = omega (arith, c.requires.index, texts_len c.args.bytes.now c.requires.pack, ap (λ (bs : List ℕ). length (texts bs)) c.in_ok-pack.ensures.items)

pub returns-clause-pack : goal.returns-clause-pack
returns-clause-pack c =
    let p : IsPairPack c.in_ok-pack.pack.items = subst IsPairPack (sym c.in_ok-pack.ensures.items) c.requires.pack in
    (pair_out c.in_ok-pack.pack.items c.remove_range.new.pack.items c.args.index _ p c.remove_range.ensures.entries c.remove_range.ensures.list).0

pub returns-clause-list : goal.returns-clause-list
returns-clause-list c =
    let p : IsPairPack c.in_ok-pack.pack.items = subst IsPairPack (sym c.in_ok-pack.ensures.items) c.requires.pack in
    (pair_out c.in_ok-pack.pack.items c.remove_range.new.pack.items c.args.index _ p c.remove_range.ensures.entries c.remove_range.ensures.list).1
    ∙ ap (λ (bs : List ℕ). removed (pairs bs) c.args.index) c.in_ok-pack.ensures.items
