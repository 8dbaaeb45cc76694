-- Deadlines as times give them (Redis command reference, "EXPIRE", "PEXPIREAT", "SET").
use Rattle.std.specs.Prelude.{ℕ, List, ℤ, pos, negsuc, ◌+ℤ◌, ◌*ℤ◌, int_lt, Option, None, Some, is_some, if◌then◌else◌}
use Rattle.int_text.specs.Decimal.{is_i64}
use Rattle.plain_world.specs.Worlds.{World, Value, Entry, put, remove}
use Rattle.plain_model.specs.Outcomes.{Outcome, refused}
use Rattle.plain_model.specs.declared.times.Time.{Time}
use Rattle.plain_model.specs.declared.times.TimeUnit.{TimeUnit}
use Rattle.plain_model.specs.declared.times.TimeUnit.TheVariants.{Seconds, Milliseconds}
use Rattle.plain_model.specs.declared.times.TimeOrigin.{TimeOrigin}
use Rattle.plain_model.specs.declared.times.TimeOrigin.TheVariants.{Now, Epoch}
use Rattle.plain_world.specs.declared.refusal.Refusal.TheVariants.{InvalidExpireTime}

-- the milliseconds of a unit
abbrev pub milliseconds : TimeUnit → ℕ
milliseconds Seconds = 1000
milliseconds Milliseconds = 1

-- the moment of an origin
abbrev pub begins : ℕ → TimeOrigin → ℕ
begins moment Now = moment
begins moment Epoch = 0

-- the deadline in milliseconds
abbrev pub due : ℕ → Time → ℤ
due moment time = (time.n *ℤ pos (milliseconds time.unit)) +ℤ pos (begins moment time.from)

-- with the deadline; one that 64 bits with a sign don't hold is refused, before the world is looked at
abbrev pub with_due : World → ℕ → Time → (ℤ → Outcome) → Outcome
with_due old moment time answer =
    if is_i64 (due moment time) then answer (due moment time) else refused InvalidExpireTime old

-- a deadline before moment 0 counts as moment 0
abbrev pub from_zero : ℤ → ℕ
from_zero (pos n) = n
from_zero (negsuc n) = 0

-- a value with a deadline
abbrev pub lasts_until : Value → ℕ → Entry
lasts_until value deadline = record { value = value; deadline = Some deadline }

-- a value without a deadline
abbrev pub lasts : Value → Entry
lasts value = record { value = value; deadline = None }

-- what stands at a key, if anything, gets this deadline; by one that is not after the moment the key is removed
abbrev pub expire : World → ℕ → List ℕ → ℤ → Option Entry → World
expire old moment key deadline None = old
expire old moment key deadline (Some entry) =
    if int_lt (pos moment) deadline then put old key (lasts_until entry.value (from_zero deadline)) else remove old key

-- what stands at a key, if anything, has no deadline any more
abbrev pub persist : World → List ℕ → Option Entry → World
persist old key None = old
persist old key (Some entry) = if is_some entry.deadline then put old key (lasts entry.value) else old
