-- Numbers and lengths of a file (RDB file format, "Length encoding").
use Rattle.std.specs.Prelude.{ℕ, ◌+◌, ◌-◌, ◌*◌, nat_lt, ◌==◌}
use Rattle.std.specs.Int.{Width, w8, w32, w64, byte_len, from_be_bytes, from_le_bytes}
use Rattle.rdb_grammar.specs.declared.fault.LoadKind.{LoadKind}
use Rattle.rdb_grammar.specs.declared.fault.LoadKind.TheVariants as kinds
use Rattle.rdb_grammar.specs.Format.{Format, give, some_bytes, followed, Branch, Goes, Refuses, pick, by_first}

-- a number, highest byte first
abbrev pub number : Width → Format ℕ
number w = followed (some_bytes (byte_len w)) λ bytes. give (from_be_bytes w bytes)

-- a number, lowest byte first
abbrev pub number_le : Width → Format ℕ
number_le w = followed (some_bytes (byte_len w)) λ bytes. give (from_le_bytes w bytes)

-- A length by its first byte: top bits 00, its low six bits; 01, 14 bits, high bits first; 80 and 81, 32 and 64 bits
-- that follow, highest byte first. No other byte begins a length.
abbrev pub length_behind : LoadKind → ℕ → Branch ℕ
length_behind refused b =
    pick (nat_lt b 64) (Goes (give b))
    (pick (nat_lt b 128) (Goes (followed (number w8) λ low. give ((b - 64) * 256 + low)))
    (pick (b == 128) (Goes (number w32)) (pick (b == 129) (Goes (number w64)) (Refuses refused))))

abbrev pub a_length : Format ℕ
a_length = by_first (length_behind kinds.Length)
