-- Writing over a part of a string.
use Rattle.std.specs.Prelude.{ℕ, ◌+◌, ◌-◌, ◌==◌, List, ◌++◌, length, take, drop, replicate, if◌then◌else◌}

-- The bytes with a piece from a place on: zero bytes fill a gap before it, and what stands behind it
-- stays. An empty piece changes nothing. (Redis command reference, SETRANGE.)
abbrev pub ranged : List ℕ → ℕ → List ℕ → List ℕ
ranged bytes at piece = if length piece == 0 then bytes
    else take at bytes ++ replicate (at - length bytes) 0 ++ piece ++ drop (at + length piece) bytes
