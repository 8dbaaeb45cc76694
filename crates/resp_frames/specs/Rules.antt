-- The numbers of the rules.
use Rattle.std.specs.Prelude.{ℕ}
use Rattle.resp_frames.specs.declared.rule.Rule.{Rule}
use Rattle.resp_frames.specs.declared.rule.Rule.TheVariants as rules

-- P1 to P6
abbrev pub rule_number : Rule → ℕ
rule_number rules.InvalidMultibulkLength = 1
rule_number rules.ExpectedDollar = 2
rule_number rules.InvalidBulkLength = 3
rule_number rules.LineTooLong = 4
rule_number rules.ExpectedCrLf = 5
rule_number rules.QuotedInline = 6
