use Rattle.std.proofs.Common.{◌≡◌, ℕ, ◌+◌, Option, List, length, take, get_or, max, ap, ◌∙◌, subst, arith}
use Rattle.std.specs.Prelude.{MatchOption}
use Rattle.std.proofs.lemmas.List.{take_all, take_more}
use Rattle.listpack.specs.Pack.{texts}
use Rattle.pack_pairs.specs.Pairs.{IsPairAt, pairs, longest}
use Rattle.pack_pairs.proofs.Lists.{no_pair}
use Rattle.pack_pairs.proofs.Maps.{longest_last}
use Rattle.pack_pairs.proofs.Packs.{texts_len, pair_inside}
use Rattle.pack_pairs.proofs.walks.longest_len.Goals as goal

pub unreachable-requires : goal.unreachable-requires
unreachable-requires c =
    let bytes = c.args.bytes.now in
    let i = c.loop.counter in
    let all : i ≡ length (pairs bytes) = subst (λ (o : Option ℕ). MatchOption o (i ≡ length (pairs bytes)) (λ at. IsPairAt bytes i at)) c.in-None.is c.loop.invariant.place in
    omega (arith, all, c.loop-test.true, c.len-count.ensures, ap (λ (bs : List ℕ). length (texts bs)) c.known.ensures, texts_len bytes c.requires)

pub loop-preserved : goal.loop-preserved
loop-preserved c =
    let bytes = c.args.bytes.now in
    let list = pairs bytes in
    let i = c.loop.counter in
    let at : IsPairAt bytes i c.in-Some.at = subst (λ (o : Option ℕ). MatchOption o (i ≡ length list) (λ at. IsPairAt bytes i at)) c.in-Some.is c.loop.invariant.place in
    let here = get_or list i no_pair in
    let more : longest (take (i + 1) list) ≡ max (max (length here.0) (length here.1)) (longest (take i list)) =
    ap longest (take_more list i no_pair (pair_inside bytes i c.in-Some.at c.requires at)) ∙ longest_last (take i list) here.0 here.1 in
    record {
      place = c.step-pair.ensures.next i at;
      most = omega (
        arith,
        more,
        c.loop.invariant.most,
        c.max-most.ensures,
        c.max-len.ensures,
        c.text_len-first.ensures,
        c.text_len-second.ensures,
        ap length (c.step-pair.ensures.first i at),
        ap length (c.step-pair.ensures.second i at),
      );
    }

pub returns : goal.returns
returns c =
    let list = pairs c.args.bytes.now in
    c.loop.invariant.most
    ∙ ap longest
    (take_all c.loop.counter list
    (omega (arith, c.loop-test.false, c.len-count.ensures, ap (λ (bs : List ℕ). length (texts bs)) c.known.ensures, texts_len c.args.bytes.now c.requires)))
