-- Strings of a file (RDB file format, "String encoding").
use Rattle.std.specs.Prelude.{ℕ, Bool, true, List, nat_le, ◌==◌}
use Rattle.std.specs.Int.{Width, w8, w16, w32, byte_len, from_le_bytes, cast_signed}
use Rattle.std.specs.Fmt.{signed_decimal}
use Rattle.rdb_grammar.specs.declared.fault.LoadKind.TheVariants as kinds
use Rattle.plain_world.specs.Words.{longest}
use Rattle.rdb_grammar.specs.Codes as code
use Rattle.rdb_grammar.specs.Format.{Format, give, some_bytes, followed, checked, Branch, Goes, Refuses, pick, turned, by_first}
use Rattle.rdb_grammar.specs.Lengths.{length_behind}

-- how a string begins: with its length, or with the width of the number whose decimal text it is
pub data Head : Type 0 where
  Len : ℕ → Head
  Num : Width → Head

-- a form of its own, of which a compressed one is refused, else a length
abbrev pub head_behind : ℕ → Branch Head
head_behind b =
    pick (b == code.int8) (Goes (give (Num w8)))
    (pick (b == code.int16) (Goes (give (Num w16)))
    (pick (b == code.int32) (Goes (give (Num w32)))
    (pick (b == code.lzf) (Refuses kinds.Compressed) (turned Len (length_behind kinds.SpecialString b)))))

-- a string has the greatest length at most
abbrev pub is_short : Head → Bool
is_short (Len n) = nat_le n longest
is_short (Num w) = true

abbrev pub head : Format Head
head = by_first head_behind

abbrev pub short_head : Format Head
short_head = checked kinds.TooLong 0 is_short head

-- so many bytes, or the decimal text of the signed number that follows, lowest byte first
abbrev pub body : Head → Format (List ℕ)
body (Len n) = some_bytes n
body (Num w) = followed (some_bytes (byte_len w)) λ bytes. give (signed_decimal (cast_signed w (from_le_bytes w bytes)))

-- a string, by its text
abbrev pub string : Format (List ℕ)
string = followed short_head body
