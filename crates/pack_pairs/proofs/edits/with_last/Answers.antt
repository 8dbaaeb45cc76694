use Rattle.std.proofs.Common.{◌≡◌, ◌/◌, List, ℕ, length, ap, subst, arith}
use Rattle.std.specs.Prelude.{IfOk}
use Rattle.listpack.specs.Pack.{texts}
use Rattle.pack_pairs.specs.Pairs.{Pair, pairs}
use Rattle.pack_pairs.proofs.Lists.{inserted_last}
use Rattle.pack_pairs.proofs.Packs.{texts_len}
use Rattle.pack_pairs.proofs.edits.with_last.Goals as goal

pub with_pair-requires-clause-index : goal.with_pair-requires-clause-index
with_pair-requires-clause-index c = omega (arith, c.len-count.ensures, texts_len c.args.bytes.now c.requires.pack, ap (λ (bs : List ℕ). length (texts bs)) c.known.ensures)

pub returns-clause-list : goal.returns-clause-list
returns-clause-list c =
    let list = pairs c.args.bytes.now in
    let count : c.len-count.result / 2 ≡ length list = omega (arith, c.len-count.ensures, texts_len c.args.bytes.now c.requires.pack, ap (λ (bs : List ℕ). length (texts bs)) c.known.ensures) in
    subst (λ (made : List Pair). IfOk c.with_pair.result (λ new. pairs new.items ≡ made)) (inserted_last list (c.len-count.result / 2) (c.args.first.now, c.args.second.now) count)
    c.with_pair.ensures.list
