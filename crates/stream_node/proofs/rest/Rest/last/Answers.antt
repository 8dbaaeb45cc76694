use Rattle.std.proofs.Common.{◌-◌, ◌≤◌, ℕ, Option, length, subst, arith}
use Rattle.std.specs.Prelude.{MatchOption}
use Rattle.listpack.specs.Pack.{IsAt, texts}
use Rattle.stream_node.proofs.Sizes.{few_texts}
use Rattle.stream_node.proofs.rest.Rest.last.Goals as goal

pub invariant_of-result : goal.invariant_of-result
invariant_of-result c =
    let bytes = c.args.pack.now.bytes.now in
    let k = c.len.result - c.args.count in
    record {
      small = omega (arith, c.requires, few_texts bytes c.args.pack.now.packed c.args.pack.now.small);
      few = c.requires;
      place = λ at is.
          subst (λ (n : ℕ). IsAt bytes (n - c.args.count) at) c.len.ensures
          (subst (λ (o : Option ℕ). MatchOption o (length (texts bytes) ≤ k) (λ to. IsAt bytes k to)) is c.seek.ensures.place);
      end = λ is.
          let none : length (texts bytes) ≤ k = subst (λ (o : Option ℕ). MatchOption o (length (texts bytes) ≤ k) (λ to. IsAt bytes k to)) is c.seek.ensures.place in
          omega (arith, none, c.requires, c.len.ensures);
    }
