use Rattle.std.proofs.Common.{◌≡◌, List, ℕ, length, ap, arith}
use Rattle.listpack.specs.Pack.{texts}
use Rattle.pack_pairs.proofs.Packs.{texts_len, pack_is_long}
use Rattle.pack_pairs.proofs.walks.seek.Goals as goal

pub overflow_mul-index : goal.overflow_mul-index
overflow_mul-index c =
    omega (arith, c.requires.inside, texts_len c.args.bytes.now c.requires.pack, pack_is_long c.args.bytes.now c.requires.pack, ap (λ (bs : List ℕ). length bs) c.known.ensures, c.known.result.small)

pub unreachable-requires : goal.unreachable-requires
unreachable-requires c =
    omega (arith, c.in-None.ensures.place, c.requires.inside, texts_len c.args.bytes.now c.requires.pack, ap (λ (bs : List ℕ). length (texts bs)) c.known.ensures)
