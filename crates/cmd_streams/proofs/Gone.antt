-- The stream that was at a key.
use Rattle.std.proofs.Common.{◌≡◌, ℕ, List, Option, None, Some, refl, sym, ap, ◌∙◌}
use Rattle.plain_world.specs.Streams.{Stream}
use Rattle.plain_world.specs.Worlds.{World, Entry}
use Rattle.plain_model.specs.Outcomes.{Outcome}
use Rattle.plain_model.specs.OfType.{stream_in, on_type}
use Rattle.plain_model.specs.StreamSteps.{on_stream, or_no_stream}
use Rattle.held.proofs.Timing.{some_none}
use Rattle.cmd_streams.specs.Changed.{IsBefore}

-- what is made of it
pub on_before : (world : World) (key : List ℕ) (before : Option Stream) (answer : Option Stream → Outcome) → IsBefore world key before → on_stream world key answer ≡ answer before
on_before world key None answer is = ap (λ (o : Option Entry). on_type stream_in world o answer) is
on_before world key (Some stream) answer is = ap (λ (o : Option Entry). on_type stream_in world o answer) is.stands

abbrev stream_of_entry : Option Entry → Stream
stream_of_entry None = or_no_stream None
stream_of_entry (Some entry) = or_no_stream (stream_in entry.value)

-- what stood at a key is one
pub same_before : (world : World) (key : List ℕ) (a b : Option Stream) → IsBefore world key a → IsBefore world key b → a ≡ b
same_before world key None None p q = refl
same_before world key None (Some b) p q = some_none _ _ q.stands p
same_before world key (Some a) None p q = some_none _ _ p.stands q
same_before world key (Some a) (Some b) p q = ap Some (ap stream_of_entry (sym p.stands ∙ q.stands))
