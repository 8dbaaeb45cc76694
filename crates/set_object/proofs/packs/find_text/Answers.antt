use Rattle.std.proofs.Common.{◌≡◌, ℕ, Option, List, length, take, sym, ap, ◌∙◌, subst, arith}
use Rattle.std.specs.Prelude.{MatchOption, IsTrue}
use Rattle.std.proofs.lemmas.List.{take_all}
use Rattle.listpack.specs.Pack.{IsAt, texts}
use Rattle.set_object.proofs.Sets.{among, among_more, has_among}
use Rattle.set_object.proofs.packs.find_text.Goals as goal

pub loop-index-preserved : goal.loop-index-preserved
loop-index-preserved c =
    let bytes = c.known-pack.result.bytes.now in
    let i = c.loop-index.index in
    let at : IsAt bytes i c.in-Some.at = subst (λ (o : Option ℕ). MatchOption o (i ≡ length (texts bytes)) (λ at. IsAt bytes i at)) c.in-Some.is c.loop-index.invariant.place in
    record {
      place = c.step-behind.ensures.place i at;
      out = among_more c.args.text.now (texts bytes) i at.0 c.loop-index.invariant.out
          (λ same. let t : IsTrue c.is_text_of.result = c.is_text_of.ensures.1 (c.step-behind.ensures.text i at ∙ same ∙ sym c.of-sought.ensures) in let f = c.if-is_text_of.false in
          let never : ⊥ = cc in never);
    }

pub returns-clause-none : goal.returns-clause-none
returns-clause-none c =
    let bytes = c.known-pack.result.bytes.now in
    let list = texts bytes in
    let all : take c.loop-index.index list ≡ list = take_all c.loop-index.index list (let n = c.len-index-end.ensures in omega (arith, n, c.loop-index-test.false)) in
    has_among (texts c.args.bytes.now) c.args.text.now ∙ ap (λ (b : List ℕ). among c.args.text.now (texts b)) (sym c.known-pack.ensures) ∙ ap (among c.args.text.now) (sym all)
    ∙ c.loop-index.invariant.out
