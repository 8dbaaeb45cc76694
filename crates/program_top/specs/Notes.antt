-- What is written to the notes.
use Rattle.std.specs.Prelude.{◌≡◌, ℕ, List, [], ◌∷◌, ◌++◌, ◌⊎◌, Result, codes}
use Rattle.std.specs.Fmt.{decimal}
use Rattle.outside.specs.Streams.{SinkSeen}
use Rattle.rdb_grammar.specs.Numbers.{number_of}
use Rattle.rdb_grammar.specs.declared.fault.LoadKind.{LoadKind}
use Rattle.resp_frames.specs.Puts.{Puts, PutsAll, PutsFront}
use Rattle.resp_frames.specs.Rules.{rule_number}
use Rattle.resp_frames.specs.declared.rule.Rule.{Rule}
use Rattle.program_top.specs.declared.ending.Ending.{Ending}
use Rattle.program_top.specs.declared.ending.Ending.TheVariants as endings

-- LF
abbrev pub line_feed : List ℕ
line_feed = 10 ∷ []

-- the line of a numbered fault at a byte, which is counted from 0
abbrev pub numbered_fault_line : List ℕ → ℕ → ℕ → List ℕ
numbered_fault_line text number at = text ++ decimal number ++ codes " at byte " ++ decimal at ++ line_feed

-- the line of a rule of the protocol that is broken: its number, and the byte
abbrev pub protocol_line : Rule → ℕ → List ℕ
protocol_line rule at = numbered_fault_line (codes "redis-core: protocol error P") (rule_number rule) at

-- the line of a file that is refused: the number of its first fault's kind, and the byte
abbrev pub refused_line : LoadKind → ℕ → List ℕ
refused_line what at = numbered_fault_line (codes "redis-core: file refused: L") (number_of what) at

-- the line of an ending: a whole input has none, and one that was quit neither
abbrev pub line_of : Ending → List ℕ
line_of endings.Whole = []
line_of endings.Quit = []
line_of endings.Usage = codes "redis-core: wrong usage" ++ line_feed
line_of (endings.Protocol rule at) = protocol_line rule at
line_of endings.Cut = codes "redis-core: input ended inside a request" ++ line_feed
line_of endings.ReadFault = codes "redis-core: input failed" ++ line_feed
line_of endings.WriteFault = codes "redis-core: output failed" ++ line_feed
line_of endings.Host = codes "redis-core: file could not be read" ++ line_feed
line_of (endings.Refused what at) = refused_line what at
line_of endings.Memory = codes "redis-core: out of memory" ++ line_feed
line_of endings.Limit = codes "redis-core: input limit reached" ++ line_feed

-- this line is put, or a front of it where the notes failed; no line touches nothing
abbrev pub Notes : SinkSeen → SinkSeen → List ℕ → Type 0
Notes noted noted' [] = noted' ≡ noted
Notes noted noted' (byte ∷ line) = PutsAll noted noted' (byte ∷ line) ⊎ PutsFront noted noted' (byte ∷ line)

-- what putting a line answers
abbrev pub PutsLine : {T E : Type 0} → SinkSeen → SinkSeen → List ℕ → Result T E → Type 0
PutsLine noted noted' [] result = noted' ≡ noted
PutsLine noted noted' (byte ∷ line) result = Puts noted noted' (byte ∷ line) result
