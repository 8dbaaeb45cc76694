use Rattle.std.proofs.Common.{◌≡◌, ℕ, ◌/◌, Option, Some, None, List, length, take, sym, ap, ◌∙◌, subst, arith}
use Rattle.std.specs.Prelude.{MatchOption, IsTrue}
use Rattle.std.proofs.lemmas.List.{take_all}
use Rattle.listpack.specs.Pack.{texts}
use Rattle.pack_pairs.specs.Pairs.{IsPairAt, pairs, second_of}
use Rattle.pack_pairs.proofs.Maps.{first_here, none_more}
use Rattle.pack_pairs.proofs.Packs.{texts_len, pair_inside}
use Rattle.pack_pairs.proofs.walks.find.Goals as goal

pub returns-then-is_text_of-clause-found : goal.returns-then-is_text_of-clause-found
returns-then-is_text_of-clause-found c =
    let bytes = c.args.bytes.now in
    let i = c.loop-index.index in
    let at : IsPairAt bytes i c.in-Some.at = subst (λ (o : Option ℕ). MatchOption o (i ≡ length (pairs bytes)) (λ at. IsPairAt bytes i at)) c.in-Some.is c.loop-index.invariant.place in
    first_here c.args.first.now (pairs bytes) i (pair_inside bytes i c.in-Some.at c.requires at) c.loop-index.invariant.out
    (sym (c.first_step-behind.ensures.first i at) ∙ c.is_text_of.ensures.0 c.if-is_text_of.true ∙ c.of-sought.ensures)

pub unreachable-requires : goal.unreachable-requires
unreachable-requires c =
    let bytes = c.args.bytes.now in
    let i = c.loop-index.index in
    let all : i ≡ length (pairs bytes) = subst (λ (o : Option ℕ). MatchOption o (i ≡ length (pairs bytes)) (λ at. IsPairAt bytes i at)) c.in-None.is c.loop-index.invariant.place in
    omega (arith, all, c.loop-index-test.true, c.len-count.ensures, ap (λ (bs : List ℕ). length (texts bs)) c.known.ensures, texts_len bytes c.requires)

pub loop-index-preserved : goal.loop-index-preserved
loop-index-preserved c =
    let bytes = c.args.bytes.now in
    let i = c.loop-index.index in
    let at : IsPairAt bytes i c.in-Some.at = subst (λ (o : Option ℕ). MatchOption o (i ≡ length (pairs bytes)) (λ at. IsPairAt bytes i at)) c.in-Some.is c.loop-index.invariant.place in
    record {
      place = c.first_step-behind.ensures.next i at;
      out = none_more c.args.first.now (pairs bytes) i (pair_inside bytes i c.in-Some.at c.requires at) c.loop-index.invariant.out
          (λ same. let t : IsTrue c.is_text_of.result = c.is_text_of.ensures.1 (c.first_step-behind.ensures.first i at ∙ same ∙ sym c.of-sought.ensures) in let f = c.if-is_text_of.false in
          let never : ⊥ = cc in never);
    }

pub returns-clause-none : goal.returns-clause-none
returns-clause-none c =
    let list = pairs c.args.bytes.now in
    let all : take c.loop-index.index list ≡ list =
    take_all c.loop-index.index list (omega (arith, c.loop-index-test.false, c.len-count.ensures, ap (λ (bs : List ℕ). length (texts bs)) c.known.ensures, texts_len c.args.bytes.now c.requires)) in
    ap (second_of c.args.first.now) (sym all) ∙ c.loop-index.invariant.out
