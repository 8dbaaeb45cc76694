use Rattle.std.proofs.Common.{◌≡◌, ℕ, ◌*◌, List, length, sym, ap, subst, arith}
use Rattle.listpack.specs.Pack.{texts}
use Rattle.pack_pairs.specs.Pairs.{IsPairAt}
use Rattle.pack_pairs.proofs.Packs.{texts_len}
use Rattle.pack_pairs.proofs.walks.offset_of_second.Goals as goal

pub unreachable-requires : goal.unreachable-requires
unreachable-requires c =
    let i = c.requires.place.0 in
    let last = c.in-None.ensures.place (2 * i) (subst (λ (bs : List ℕ). IsPairAt bs i c.args.at) (sym c.known.ensures) c.requires.place.1) in
    omega (arith, last, ap (λ (bs : List ℕ). length (texts bs)) c.known.ensures, texts_len c.args.bytes.now c.requires.pack)
