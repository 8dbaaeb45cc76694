-- What the engine reads out is what is seen of it.
use Rattle.std.proofs.Common.{◌≡◌, ℕ, ◌≤◌, List, sym, ap}
use Rattle.blocks.specs.Blocks.{Blocks}
use Rattle.keyspace.specs.Databases.{means}
use Rattle.plain_world.proofs.Lives.{live_later}
use Rattle.plain_world.specs.Worlds.{live, look_in}
use Rattle.redis_core.specs.Engines.{State}
use Rattle.session_desk.specs.Engines.{seen}
use Rattle.session_desk.specs.OverEngine.{engine_view}

-- at a moment that isn't before the last one used
pub read_is_seen : {S : Type 0} (blocks : S → Blocks) (engine : State S) (moment db : ℕ) (key : List ℕ) → engine.last ≤ moment
    → look_in (live (means 0 engine.bases (blocks engine.store)) moment) db key ≡ seen (engine_view blocks) moment engine db key
read_is_seen blocks engine moment db key late =
    ap (λ w. look_in w db key) (sym (live_later (means engine.selected engine.bases (blocks engine.store)) engine.last moment late))
