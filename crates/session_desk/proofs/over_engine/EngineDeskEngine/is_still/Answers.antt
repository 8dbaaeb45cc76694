use Rattle.std.proofs.Common.{◌≡◌, ◌↔◌, IsTrue, Option, subst, ◌∙◌}
use Rattle.plain_world.specs.Worlds.{Entry}
use Rattle.told_values.specs.Entries.{entry_told}
use Rattle.session_desk.proofs.OverEngine.{read_is_seen}
use Rattle.session_desk.proofs.over_engine.EngineDeskEngine.is_still.Goals as goal

pub returns : goal.returns
returns g c =
    let seen = c.in_ok-now.ensures ∙ read_is_seen g.B.BlockStore.blocks c.args.self.now c.args.moment c.args.db c.args.key.now c.requires.late in
    subst (λ (x : Option Entry). IsTrue c.same_entries.result ↔ (x ≡ entry_told c.args.found.now)) seen c.same_entries.ensures
