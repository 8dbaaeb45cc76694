use Rattle.std.proofs.Common.{◌≡◌, ℕ, ◌+◌, ◌*◌, List, Result, length, sym, ap, subst, ◌∙◌, arith, rules}
use Rattle.std.specs.Prelude.{MatchOption}
use Rattle.listpack.specs.Pack.{IsAt, texts}
use Rattle.rdb_grammar.specs.declared.fault.LoadKind.{LoadKind}
use Rattle.rdb_grammar.specs.Format.{next_found}
use Rattle.rdb_grammar.specs.Payloads.{Pair, score_in, scored}
use Rattle.rdb_reader.proofs.Paired.{at_place, pairs_of, all_scored, first_unscored, scored_more}
use Rattle.rdb_reader.proofs.pairs.check_scores.Goals as goal

pub loop-init : goal.loop-init
loop-init c = record {
  place = search rules;
  scores = (pairs_of c.args.count (texts c.args.pack.now.bytes.now) c.requires, λ i lt. absurd (omega (arith, lt)));
}

pub pair_at-pair-requires : goal.pair_at-pair-requires
pair_at-pair-requires c =
    let bytes = c.args.pack.now.bytes.now in
    let i = c.loop.counter in
    (2 * i, at_place bytes i c.loop.next c.in-Some.place c.in-Some.is c.loop.invariant.place, omega (arith, c.requires, c.loop-test.true))

pub loop-preserved : goal.loop-preserved
loop-preserved c =
    let bytes = c.args.pack.now.bytes.now in
    let list = texts bytes in
    let i = c.loop.counter in
    let inv = c.loop.invariant in
    let p = inv.scores.0 in
    let at = at_place bytes i c.loop.next c.in-Some.place c.in-Some.is inv.place in
    let twice : 2 * i + 2 ≡ 2 * (i + 1) = omega arith in
    let text = c.pair_at-pair.ensures.second (2 * i) at ∙ (p.each i c.loop-test.true).1 in
    record {
      place = subst (λ (k : ℕ). MatchOption c.pair_at-pair.result.next (k ≡ length list) (λ at. IsAt bytes k at)) twice (c.pair_at-pair.ensures.next (2 * i) at);
      scores = (p, scored_more p.pairs i _ inv.scores.1 (ap score_in (sym text) ∙ c.in-Ok.ensures.score));
    }

pub returns-in-Err-clause-fault : goal.returns-in-Err-clause-fault
returns-in-Err-clause-fault c =
    let bytes = c.args.pack.now.bytes.now in
    let i = c.loop.counter in
    let inv = c.loop.invariant in
    let p = inv.scores.0 in
    let at = at_place bytes i c.loop.next c.in-Some.place c.in-Some.is inv.place in
    let text = c.pair_at-pair.ensures.second (2 * i) at ∙ (p.each i c.loop-test.true).1 in
    ap (λ (q : Result (List Pair) LoadKind). next_found q scored) p.are
    ∙ first_unscored p.pairs i c.in-Err.kind (omega (arith, p.many, c.loop-test.true)) inv.scores.1 (ap score_in (sym text) ∙ c.in-Err.ensures.fault)

pub returns-clause-scored : goal.returns-clause-scored
returns-clause-scored c =
    let inv = c.loop.invariant in
    let p = inv.scores.0 in
    let all = all_scored p.pairs (λ i lt. inv.scores.1 i (omega (arith, lt, p.many, c.loop-test.false))) in
    (all.0, ap (λ (q : Result (List Pair) LoadKind). next_found q scored) p.are ∙ all.1)
