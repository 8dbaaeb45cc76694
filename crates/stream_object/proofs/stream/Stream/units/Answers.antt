use Rattle.std.proofs.Common.{◌≡◌, ◌∙◌, ◌+◌, ◌-◌, ◌^◌, min, length, ap, arith}
use Rattle.stream_object.specs.Streams.{marks}
use Rattle.stream_object.proofs.Clears.{units_are}
use Rattle.stream_object.proofs.stream.Stream.units.Goals as goal

pub returns : goal.returns
returns c = λ m is. (
    let nodes = c.nodes.ensures m is.parts.stands in
    let keys = c.len.ensures m is.parts.stands in
    let all = units_are m c.args.self.now in
    let same : c.nodes.result + c.len.result ≡ length (marks m c.args.self.now) = omega (arith, nodes, keys, all) in
    c.limited.ensures ∙ ap (λ n. min n (2 ^ 32 - 1)) same)
