use Rattle.std.proofs.Common.{rules, ◌≡◌, ◌↔◌, IsTrue}
use Rattle.std.specs.Prelude.{EachIndex, slice_index}
use Rattle.int_text.proofs.Capped.{zeros_value, value_zeros}
use Rattle.int_text.proofs.digits.are_zeros.Goals as goal

pub returns : goal.returns
returns c =
    let each : IsTrue c.all.result ↔ EachIndex c.args.digits.now (λ k. slice_index c.args.digits.now k ≡ 48) = search rules in
    (λ yes. zeros_value c.args.digits.now (each.0 yes), λ none. each.1 (value_zeros c.args.digits.now c.requires none))
