use Rattle.std.proofs.Common.{◌≡◌, Option, IfOk, subst}
use Rattle.plain_world.specs.Worlds.{Entry}
use Rattle.told_values.specs.Entries.{entry_told}
use Rattle.session_desk.proofs.OverEngine.{read_is_seen}
use Rattle.session_desk.proofs.over_engine.EngineDeskEngine.look.Goals as goal

pub returns : goal.returns
returns g c = subst (λ (x : Option Entry). IfOk c.entry.result (λ found. entry_told found ≡ x)) (read_is_seen g.B.BlockStore.blocks c.args.self.now c.args.moment c.args.db c.args.key.now c.requires.late) c.entry.ensures
