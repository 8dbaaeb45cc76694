-- The CRC-64 of the RDB file format: polynomial ad93d23594c935a9, reflected in and out, without a final exclusive-or,
-- bit by bit.
use Rattle.std.specs.Prelude.{ℕ, zero, suc, ◌/◌, ◌%◌, List, [], ◌∷◌, ◌==◌, if◌then◌else◌}
use Rattle.std.specs.Int.RustNames.{bit_xor}

-- the polynomial with its 64 bits in reverse order
abbrev pub polynomial : ℕ
polynomial = 0x95ac9329ac4bc9b5

-- the lowest bit goes out; where it was 1 the polynomial goes in
unfoldable pub bit_step : ℕ → ℕ
bit_step s = if s % 2 == 1 then bit_xor (s / 2) polynomial else s / 2

unfoldable pub bit_steps : ℕ → ℕ → ℕ
bit_steps zero s = s
bit_steps (suc k) s = bit_steps k (bit_step s)

unfoldable pub crc_of : ℕ → List ℕ → ℕ
crc_of s [] = s
crc_of s (b ∷ bytes) = crc_of (bit_steps 8 (bit_xor s b)) bytes
