use Rattle.std.proofs.Common.{ℕ, List, length, sym, ap, ◌∙◌, subst, arith}
use Rattle.std.specs.List.{remove_range as range_removed}
use Rattle.listpack.specs.Pack.{texts}
use Rattle.pack_pairs.specs.Pairs.{IsPairPack, pairs}
use Rattle.pack_pairs.proofs.Packs.{texts_len, pack_is_long}
use Rattle.zset_object.proofs.Ranges.{range_out}
use Rattle.zset_object.proofs.packs.without_range.Goals as goal

pub overflow_mul-from : goal.overflow_mul-from
overflow_mul-from c = omega (
  arith,
  c.requires.order,
  c.requires.inside,
  texts_len c.args.bytes.now c.requires.pack,
  pack_is_long c.args.bytes.now c.requires.pack,
  ap (λ (bs : List ℕ). length bs) c.in_ok-pack.ensures.items,
  c.in_ok-pack.pack.small,
)

pub overflow_mul-to : goal.overflow_mul-to
overflow_mul-to c = omega (
  arith,
  c.requires.inside,
  texts_len c.args.bytes.now c.requires.pack,
  pack_is_long c.args.bytes.now c.requires.pack,
  ap (λ (bs : List ℕ). length bs) c.in_ok-pack.ensures.items,
  c.in_ok-pack.pack.small,
)

pub remove_range-requires-clause-inside : goal.remove_range-requires-clause-inside
remove_range-requires-clause-inside c = omega (arith, c.requires.inside, texts_len c.args.bytes.now c.requires.pack, ap (λ (bs : List ℕ). length (texts bs)) c.in_ok-pack.ensures.items)

pub returns-clause-pack : goal.returns-clause-pack
returns-clause-pack c =
    let p : IsPairPack c.in_ok-pack.pack.items = subst IsPairPack (sym c.in_ok-pack.ensures.items) c.requires.pack in
    (range_out c.in_ok-pack.pack.items c.remove_range.new.pack.items c.args.from c.args.to _ p c.remove_range.ensures.entries c.remove_range.ensures.list).0

pub returns-clause-list : goal.returns-clause-list
returns-clause-list c =
    let p : IsPairPack c.in_ok-pack.pack.items = subst IsPairPack (sym c.in_ok-pack.ensures.items) c.requires.pack in
    (range_out c.in_ok-pack.pack.items c.remove_range.new.pack.items c.args.from c.args.to _ p c.remove_range.ensures.entries c.remove_range.ensures.list).1
    ∙ ap (λ (bs : List ℕ). range_removed (pairs bs) c.args.from c.args.to) c.in_ok-pack.ensures.items
