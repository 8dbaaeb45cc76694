-- What a held value ends as, once a `&mut` into it has ended.
use base.Fml.{Fml}
use denote.RattleType.{RattleType}
use denote.Ref.{MutBor}
use denote.Follow.{follows}
use Rattle.std.specs.declared.alloc.Allocator.{Ghosts}
use Rattle.class_heap.specs.declared.held.Held.{Held}
use Rattle.class_heap.specs.contracts.held.Held.{the_row}

-- h after `*h = w`
abbrev pub with_value : {X Z : Type 0} → Held X Z → X → Held X Z
with_value h w = record { at = h.at; alloc = h.alloc; value = w }

-- once the borrow r ends, the owner behind h holds the last value written through r
abbrev pub held_follows : (R Z : RattleType) (g : Ghosts Z.Denot) → MutBor (Held R.Denot Z.Denot) → MutBor R.Denot → Fml
held_follows R Z g h r = follows (the_row R Z g) R h.ghost_name r.ghost_name (with_value h.now)
