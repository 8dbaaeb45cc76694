use Rattle.std.proofs.Common.{◌≡◌, ℕ, ◌+◌, ◌*◌, List, length, sym, ap, subst, arith}
use Rattle.listpack.specs.Pack.{texts}
use Rattle.pack_pairs.specs.Pairs.{IsSecondAt}
use Rattle.pack_pairs.proofs.Packs.{texts_len, next_pair}
use Rattle.pack_pairs.proofs.walks.next_place.Goals as goal

pub returns : goal.returns
returns c = λ i at.
    next_pair c.args.bytes.now c.known.result.bytes.now c.next.result i c.known.ensures c.requires.pack
    (c.next.ensures.place (2 * i + 1) (subst (λ (bs : List ℕ). IsSecondAt bs i c.offset_of_second.result) (sym c.known.ensures) (c.offset_of_second.ensures i at)))
