use Rattle.std.proofs.Common.{◌<◌, ◌≤◌, ◌-◌, arith, subst, sym}
use Rattle.std.proofs.lemmas.Bool.Decides.{nat_tests}
use borrow.Author.Tests.{ltb-true}
use Rattle.blocks.specs.Slabs.{size_of}
use Rattle.class_heap.specs.Classes.{below_middle, class_at}
use Rattle.class_heap.proofs.class.is_class_of.Goals as goal

pub returns-else-class-eq0 : goal.returns-else-class-eq0
returns-else-class-eq0 c =
    let len = c.args.len in let class = c.args.class in let some = c.if-class-eq0.false in let few = c.requires in
    let size = c.size_in-else-class-eq0.ensures.size in
    let holds : len ≤ size_of class = subst (λ n. len ≤ n) c.size_in.ensures.size c.if-size_in-len.false in (
      λ less. class_at len class few
          (λ k below. below_middle len 0 (class - 1) (λ i under. absurd (omega arith)) (omega (arith, few)) (subst (λ n. n < len) size (ltb-true _ _ less)) k (omega (arith, below)))
          holds,
      λ fits. (let short = subst (λ n. n < len) (sym size) (fits.least (class - 1) (omega (arith, some))) in grind (arith, nat_tests, short)),
    )
