use Rattle.std.proofs.Common.{◌≡◌, ◌<◌, ◌≤◌, subst, sym, inl, inr, arith}
use Rattle.std.proofs.lemmas.Bool.{cases_lt}
use Rattle.std.proofs.lemmas.Bool.Decides.{nat_tests}
use borrow.Author.Tests.{leb-true}
use Rattle.blocks.specs.Slabs.{size_of}
use Rattle.pack_block.proofs.Lengths.{size_read, class_shared, class_least}
use Rattle.pack_block.proofs.class.is_same_class.Goals as goal

pub returns-then-len-size : goal.returns-then-len-size
returns-then-len-size c =
    let at = c.loop-class.class in
    let len = c.args.len in
    let longer = c.args.longer in
    let lt : at < 36 = omega (arith, c.loop-class-test.true) in
    let read = size_read at 0 lt in
    let holds : len ≤ size_of at = subst (λ n. len ≤ n) read c.if-len-size.true in
    λ class few has. (
      λ yes. class_shared len longer at class c.requires c.loop-class.invariant (subst (λ n. longer ≤ n) read (leb-true _ _ yes)) has,
      λ both. (let long = subst (λ n. longer ≤ n) (sym read) (class_least len longer at class c.loop-class.invariant holds has both) in grind (arith, nat_tests, long)),
    )

pub loop-class-preserved : goal.loop-class-preserved
loop-class-preserved c =
    let at = c.loop-class.class in
    let len = c.args.len in
    let lt : at < 36 = omega (arith, c.loop-class-test.true) in
    let short : size_of at < len = subst (λ n. n < len) (size_read at 0 lt) c.if-len-size.false in
    λ k under. elim (cases_lt k at) [
      | inl low ↦ c.loop-class.invariant k low
      | inr high ↦ (let same : at ≡ k = omega (arith, under, high) in subst (λ j. size_of j < len) same short)
    ]
