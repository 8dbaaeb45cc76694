use Rattle.std.proofs.Common.{arith, ap, length, ◌∙◌, sym}
use Rattle.std.proofs.lemmas.List.{length-drop}
use Rattle.stream_node.specs.Rest.{rest_of}
use Rattle.stream_node.proofs.Rests.{drop_one_more}
use Rattle.stream_node.proofs.Sizes.{length_rest}
use Rattle.stream_node.proofs.rest.Rest.skip.Goals as goal

pub returns-in_err-rest-clause-none : goal.returns-in_err-rest-clause-none
returns-in_err-rest-clause-none c =
    let list = rest_of c.args.self.now in
    let ended = ap length (sym c.loop.invariant ∙ c.in_err-rest.ensures.none) in
    absurd (omega (arith, ended, length-drop c.loop.counter list, length_rest c.args.self.now))

pub loop-preserved : goal.loop-preserved
loop-preserved c =
    drop_one_more (rest_of c.args.self.now) (rest_of c.loop.rest) (rest_of c.in_ok-rest.rest) c.in_ok-rest.ensures.some.0 c.loop.counter c.loop.invariant c.in_ok-rest.ensures.some.1
