use Rattle.sessions.specs.Slots.{AreIdle}
use Rattle.sessions.proofs.slot.idle_slots.Given as goal

abbrev pub invariant-loop : goal.invariant-loop
invariant-loop l = AreIdle l.counter l.slots.items
