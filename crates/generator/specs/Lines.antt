-- The lines of a run of commands.
use Rattle.std.specs.Prelude.{ℕ, List, [], ◌∷◌, ◌++◌, codes}
use Rattle.std.specs.Fmt.{decimal}
use Rattle.std.specs.Int.{w64, to_be_bytes}
use Rattle.hex.specs.Hex.{encode_lower}

-- a name, a text, LF
abbrev pub line : List ℕ → List ℕ → List ℕ
line name text = name ++ text ++ 10 ∷ []

-- how many commands were run, how many keys there are, and the CRC of the replies as 16 hexadecimal digits, the highest
-- first
abbrev pub three_lines : ℕ → ℕ → ℕ → List ℕ
three_lines commands keys crc =
    line (codes "commands ") (decimal commands) ++ line (codes "keys ") (decimal keys)
    ++ line (codes "crc ") (encode_lower (to_be_bytes w64 crc))
