-- The lines of broken rules (RESP2, "Simple errors").
use Rattle.std.specs.Prelude.{ℕ, List, ◌++◌, codes}
use Rattle.std.specs.Fmt.{decimal}
use Rattle.plain_world.specs.Spelling.{line_end}
use Rattle.resp_frames.specs.declared.rule.Rule.{Rule}
use Rattle.resp_frames.specs.declared.rule.Rule.TheVariants as rules

-- what is wrong where a rule is broken
abbrev pub rule_text : Rule → List ℕ
rule_text rules.InvalidMultibulkLength = codes "invalid multibulk length"
rule_text rules.ExpectedDollar = codes "expected '$'"
rule_text rules.InvalidBulkLength = codes "invalid bulk length"
rule_text rules.LineTooLong = codes "line too long"
rule_text rules.ExpectedCrLf = codes "expected CR LF"
rule_text rules.QuotedInline = codes "inline request not taken"

-- where it is broken, and the line's end
abbrev pub place_text : ℕ → List ℕ
place_text at = codes " at byte " ++ decimal at ++ line_end

-- the line of a rule that is broken at a byte
abbrev pub fault_line : Rule → ℕ → List ℕ
fault_line rule at = codes "-ERR Protocol error: " ++ rule_text rule ++ place_text at
