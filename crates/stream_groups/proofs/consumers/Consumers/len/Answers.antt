use Rattle.std.proofs.Common.{rules, ◌≡◌, length, vec_len, sym, ap, ◌∙◌}
use Rattle.std.specs.FinMap as map
use Rattle.stream_groups.proofs.Gaps.{names_len}
use Rattle.stream_groups.proofs.consumers.Consumers.len.Goals as goal

pub returns : goal.returns
returns c =
    let all : vec_len c.self.inside.names ≡ length c.self.inside.names.items = search rules in
    c.len.ensures ∙ all ∙ sym (names_len c.self.inside.names.items c.self.invariant) ∙ ap map.len c.self.view_is
