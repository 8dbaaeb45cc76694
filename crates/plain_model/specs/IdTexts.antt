-- Ids of entries as texts, and words as ids (Redis command reference, "XADD" and "XRANGE").
use Rattle.std.specs.Prelude.{ℕ, ◌+◌, ◌-◌, ◌^◌, ◌==◌, List, [], ◌∷◌, ◌++◌, length, Option, None, Some, Bool, false, ◌&&◌, nat_lt, bytes_eq, codes, Result, Ok, Err, if◌then◌else◌}
use Rattle.std.specs.Str.{all_ascii_digits}
use Rattle.std.specs.Str.Parse.{digits_value}
use Rattle.std.specs.Fmt.{decimal}
use Rattle.std.specs.Ordering.{is_eq}
use Rattle.stream_groups.specs.Groups.{Id, id_cmp}
use Rattle.plain_model.specs.declared.stream_command.NewId.{NewId}
use Rattle.plain_model.specs.declared.stream_command.NewId.TheVariants.{Auto, Within, Given}
use Rattle.plain_world.specs.declared.refusal.Refusal.{Refusal}
use Rattle.plain_world.specs.declared.refusal.Refusal.TheVariants.{InvalidStreamId}

-- the text of an id: its numbers, and `-` between them
abbrev pub id_text : Id → List ℕ
id_text id = decimal id.0 ++ 45 ∷ decimal id.1

-- the least id, and the greatest
abbrev pub least_id : Id
least_id = (0, 0)

abbrev pub greatest_id : Id
greatest_id = (2 ^ 64 - 1, 2 ^ 64 - 1)

-- the id that follows in the order of ids, and the one that this one follows
abbrev pub next_id : Id → Id
next_id id = if id.1 == 2 ^ 64 - 1 then (id.0 + 1, 0) else (id.0, id.1 + 1)

abbrev pub id_before : Id → Id
id_before id = if id.1 == 0 then (id.0 - 1, 2 ^ 64 - 1) else (id.0, id.1 - 1)

-- the number of 64 bits that digits are
abbrev pub id_part : List ℕ → Option ℕ
id_part text =
    if (nat_lt 0 (length text) && all_ascii_digits text) && nat_lt (digits_value 10 text) (2 ^ 64)
    then Some (digits_value 10 text) else None

-- what stands before the first `-`, and what stands behind it, where there is one
abbrev pub before_dash : List ℕ → List ℕ
before_dash [] = []
before_dash (byte ∷ text) = if byte == 45 then [] else byte ∷ before_dash text

abbrev pub behind_dash : List ℕ → Option (List ℕ)
behind_dash [] = None
behind_dash (byte ∷ text) = if byte == 45 then Some text else behind_dash text

abbrev pub with_parts : Option ℕ → Option ℕ → Option Id
with_parts None seq = None
with_parts (Some ms) None = None
with_parts (Some ms) (Some seq) = Some (ms, seq)

-- the second number of an id, or this one where it is missing
abbrev pub second_or : ℕ → Option (List ℕ) → Option ℕ
second_or missing None = Some missing
second_or missing (Some text) = id_part text

-- the id that a text is, whose second number is this one where it is missing
abbrev pub id_in : ℕ → List ℕ → Option Id
id_in missing text = with_parts (id_part (before_dash text)) (second_or missing (behind_dash text))

abbrev pub or_invalid : {A : Type 0} → Option A → Result A Refusal
or_invalid None = Err InvalidStreamId
or_invalid (Some a) = Ok a

-- an id
abbrev pub entry_id : List ℕ → Result Id Refusal
entry_id word = or_invalid (id_in 0 word)

abbrev pub or_some : Result Id Refusal → Result (Option Id) Refusal
or_some (Ok id) = Ok (Some id)
or_some (Err refusal) = Err refusal

-- an id, or a sign that stands for one
abbrev pub id_or : List ℕ → List ℕ → Result (Option Id) Refusal
id_or sign word = if bytes_eq word sign then Ok None else or_some (entry_id word)

abbrev pub within_ms : Option ℕ → Option NewId
within_ms None = None
within_ms (Some ms) = Some (Within ms)

abbrev pub given : Option Id → Option NewId
given None = None
given (Some id) = Some (Given id)

-- behind the first `-` stands a `*` alone
abbrev pub is_open : Option (List ℕ) → Bool
is_open None = false
is_open (Some text) = bytes_eq text (codes "*")

-- `*`, an id, or milliseconds with `-*` behind them
abbrev pub new_id : List ℕ → Result NewId Refusal
new_id word =
    if bytes_eq word (codes "*") then Ok Auto
    else or_invalid (if is_open (behind_dash word) then within_ms (id_part (before_dash word)) else given (id_in 0 word))

-- the id above an id, and the one below it, where there is one
abbrev pub above : Option Id → Option Id
above None = None
above (Some id) = if is_eq (id_cmp id greatest_id) then None else Some (next_id id)

abbrev pub below : Option Id → Option Id
below None = None
below (Some id) = if is_eq (id_cmp id least_id) then None else Some (id_before id)

-- an id that is the first of a range: behind `(` it is left out
abbrev pub first_in : List ℕ → Option Id
first_in [] = None
first_in (byte ∷ text) = if byte == 40 then above (id_in 0 text) else id_in 0 (byte ∷ text)

-- an id that is the last of a range
abbrev pub last_in : List ℕ → Option Id
last_in [] = None
last_in (byte ∷ text) =
    if byte == 40 then below (id_in (2 ^ 64 - 1) text) else id_in (2 ^ 64 - 1) (byte ∷ text)

-- `-` is the least id and `+` the greatest; else the end of a range is an id
abbrev pub range_end : (List ℕ → Option Id) → List ℕ → Result Id Refusal
range_end named word =
    if bytes_eq word (codes "-") then Ok least_id
    else (if bytes_eq word (codes "+") then Ok greatest_id else or_invalid (named word))
