-- What is kept of sessions.
use Rattle.std.specs.Prelude.{◌≡◌, ◌≢◌, ℕ, ◌+◌, ◌<◌, List, [], length, get_or, replicate, Bool, true, false, Option, None, Some}
use Rattle.resp_frames.specs.Feeding.{Feeding}
use Rattle.sessions.specs.declared.slot.Slot.{Slot}
use Rattle.sessions.specs.declared.slot.Slot.TheVariants as slots

-- how many bytes the feeder was fed
abbrev pub fed_of : Slot → ℕ
fed_of slots.Idle = 0
fed_of (slots.Open feeder) = feeder.gone + length feeder.kept
fed_of slots.Ended = 0

-- a feeder of the slot, or a new one where nothing was sent
abbrev pub Feeds : Slot → Feeding → Type 0
Feeds slots.Idle feeder = feeder ≡ record { gone = 0; kept = []; current = None }
Feeds (slots.Open feeder') feeder = feeder ≡ feeder'
Feeds slots.Ended feeder = ⊥

-- what `open` answers
abbrev pub Opens : Slot → Option Feeding → Type 0
Opens slot (Some feeder) = Feeds slot feeder
Opens slot None = slot ≡ slots.Ended

-- so many slots, of which none is in use
abbrev pub AreIdle : ℕ → List Slot → Type 0
AreIdle sessions all = all ≡ replicate sessions slots.Idle

-- a session that has not ended has sent a part of a request
abbrev pub IsHalf : Slot → Type 0
IsHalf slots.Idle = ⊥
IsHalf (slots.Open feeder) = feeder.kept ≢ []
IsHalf slots.Ended = ⊥

-- what `any_cut` answers
abbrev pub HasCut : List Slot → Bool → Type 0
HasCut all true = (number : ℕ) × (number < length all) × IsHalf (get_or all number slots.Ended)
HasCut all false = (number : ℕ) → number < length all → IsHalf (get_or all number slots.Ended) → ⊥
