use Rattle.std.proofs.Common.{arith, rules}
use Rattle.stream_node.proofs.Sizes.{few_texts}
use Rattle.stream_node.proofs.rest.Rest.all.Goals as goal

pub invariant_of-result : goal.invariant_of-result
invariant_of-result c = record {
  small = omega (arith, c.len.ensures, few_texts c.args.pack.now.bytes.now c.args.pack.now.packed c.args.pack.now.small);
  few = search rules;
  place = search rules;
  end = search rules;
}
