use Rattle.std.proofs.Common.{◌≡◌, ℕ, ◌+◌, ◌*◌, Option, length, subst, arith}
use Rattle.std.specs.Prelude.{MatchOption}
use Rattle.listpack.specs.Element.{element_text}
use Rattle.listpack.specs.Pack.{IsAt, texts}
use Rattle.pack_pairs.specs.Pairs.{pairs}
use Rattle.hash_object.proofs.Whole.{refuses, goes_on, all_taken}
use Rattle.hash_object.proofs.taking.repacked.Goals as goal

pub returns-in-None-2-clause-none : goal.returns-in-None-2-clause-none
returns-in-None-2-clause-none c =
    let bytes = c.args.pack.now.bytes.now in
    let list = texts bytes in
    let i = c.loop-index.index in
    let inv = c.loop-index.invariant in
    let at : IsAt bytes (2 * i) c.in-Some.first = subst (λ (o : Option ℕ). MatchOption o (2 * i ≡ length list) (λ at. IsAt bytes (2 * i) at)) c.in-Some.is inv.place in
    let behind = c.behind-second.ensures (2 * i) at in
    refuses c.args.limits.now c.args.count i list c.requires.count c.loop-index-test.true (element_text c.get.result) (element_text c.get-in-Some.result) (c.get.ensures.text (2 * i) at)
    (c.get-in-Some.ensures.text (2 * i + 1) behind)
    (pairs c.loop-index.new.items) inv.list (rw c.in-None-2.is at c.in_ok-more-in-Some.ensures.none)

pub loop-index-preserved : goal.loop-index-preserved
loop-index-preserved c =
    let bytes = c.args.pack.now.bytes.now in
    let list = texts bytes in
    let i = c.loop-index.index in
    let inv = c.loop-index.invariant in
    let at : IsAt bytes (2 * i) c.in-Some.first = subst (λ (o : Option ℕ). MatchOption o (2 * i ≡ length list) (λ at. IsAt bytes (2 * i) at)) c.in-Some.is inv.place in
    let behind = c.behind-second.ensures (2 * i) at in
    let twice : 2 * i + 1 + 1 ≡ 2 * (i + 1) = omega arith in
    record {
      place = subst (λ (k : ℕ). MatchOption c.next-next.result (k ≡ length list) (λ at. IsAt bytes k at)) twice (c.next-next.ensures.place (2 * i + 1) behind);
      whole = rw c.in-Some-2.is at c.in_ok-more-in-Some.ensures.pack;
      list = goes_on c.args.limits.now c.args.count i list c.requires.count c.loop-index-test.true (element_text c.get.result) (element_text c.get-in-Some.result)
          (c.get.ensures.text (2 * i) at) (c.get-in-Some.ensures.text (2 * i + 1) behind)
          (pairs c.loop-index.new.items) inv.list (pairs c.in-Some-2.more.items) (rw c.in-Some-2.is at c.in_ok-more-in-Some.ensures.list);
    }

pub returns-clause-list : goal.returns-clause-list
returns-clause-list c =
    let inv = c.loop-index.invariant in
    (all_taken c.args.limits.now c.args.count c.loop-index.index (texts c.args.pack.now.bytes.now) c.requires.count c.loop-index.new.items (omega (arith, c.loop-index-test.false))
    inv.whole inv.list).1
