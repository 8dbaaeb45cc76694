-- The bytes of replies (RESP2, "RESP protocol description").
use Rattle.std.specs.Prelude.{ℕ, List, [], ◌∷◌, ◌++◌, length, flat_map, codes}
use Rattle.std.specs.Fmt.{decimal, signed_decimal}
use Rattle.plain_world.specs.Refusals.{refusal_text}
use Rattle.plain_world.specs.declared.reply.Part.{Part}
use Rattle.plain_world.specs.declared.reply.Part.TheVariants.{Simple, Refused, Number, Bulk, Null, NullArray, Array}

-- CR LF
abbrev pub line_end : List ℕ
line_end = 13 ∷ 10 ∷ []

-- the bytes of a part: `+text`, `-text`, `:n`, `$len` and its bytes, `$-1`, `*-1`, `*n`
abbrev pub part_bytes : Part → List ℕ
part_bytes (Simple line) = 43 ∷ line ++ line_end
part_bytes (Refused refusal) = refusal_text refusal ++ line_end
part_bytes (Number n) = 58 ∷ signed_decimal n ++ line_end
part_bytes (Bulk bytes) = 36 ∷ decimal (length bytes) ++ line_end ++ bytes ++ line_end
part_bytes Null = codes "$-1\r\n"
part_bytes NullArray = codes "*-1\r\n"
part_bytes (Array n) = 42 ∷ decimal n ++ line_end

-- the bytes of a reply
abbrev pub spelling : List Part → List ℕ
spelling parts = flat_map part_bytes parts

-- the bytes of replies, one after the other
abbrev pub spelled : List (List Part) → List ℕ
spelled replies = flat_map spelling replies
