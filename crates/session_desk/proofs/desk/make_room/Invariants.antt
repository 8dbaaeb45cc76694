use Rattle.std.proofs.Common.{◌≡◌, ℕ, ◌+◌, ◌-◌}
use Rattle.std.specs.Prelude.{vec_len, Option}
use Rattle.std.specs.List.{All}
use Rattle.plain_world.specs.Worlds.{Entry}
use Rattle.session_desk.specs.Kept.{all_kept, session_at}
use Rattle.session_desk.specs.Watching.{IsWithin, IsSilent}
use Rattle.session_desk.proofs.desk.make_room.Given as goal

abbrev pub invariant-rooms : goal.invariant-rooms
invariant-rooms g l =
    record {
      kept : (told : g.row.T.Denot → Option Entry) (other : ℕ) → session_at (all_kept told l.sessions.items) other ≡ session_at (all_kept told l.initial.sessions.items) other;
      within : All IsWithin l.sessions.items;
      silent : All IsSilent l.initial.sessions.items → All IsSilent l.sessions.items;
    }

abbrev pub decreases-rooms : goal.decreases-rooms
decreases-rooms g l = (l.number + 1) - vec_len l.sessions
