-- Statements of the laws.
use Rattle.std.specs.Prelude.{◌≡◌, ◌<◌, ◌^◌, ℕ, List, ◌++◌, length}
use Rattle.std.specs.List.{AllByRecursion}
use lib.Signed.{mag}
use Rattle.plain_world.specs.Lines.{IsLine}
use Rattle.plain_world.specs.Parts.{IsReply}
use Rattle.plain_world.specs.Spelling.{spelling}
use Rattle.plain_world.specs.declared.reply.Part.{Part}
use Rattle.plain_world.specs.declared.reply.Part.TheVariants.{Simple, Refused, Number, Bulk, Null, NullArray, Array}

-- a part as a program can hold it: its numbers and lengths fit their types
abbrev pub IsPart : Part → Type 0
IsPart (Simple line) = IsLine line
IsPart (Refused refusal) = Unit {0}
IsPart (Number n) = mag n < 2 ^ 63
IsPart (Bulk bytes) = length bytes < 2 ^ 64
IsPart Null = Unit {0}
IsPart NullArray = Unit {0}
IsPart (Array n) = n < 2 ^ 64

-- a reply as a program can hold it
pub record IsHeld (reply : List Part) : Type 0 where
  pub whole : IsReply reply
  pub each : AllByRecursion IsPart reply

-- bytes that begin with the spelling of two replies begin with one reply's: none is a prefix of another
abbrev pub SpellingsAreApart : Type 0
SpellingsAreApart =
    (r s : List Part) (A B : List ℕ) → IsHeld r → IsHeld s → spelling r ++ A ≡ spelling s ++ B → (r ≡ s) × (A ≡ B)
