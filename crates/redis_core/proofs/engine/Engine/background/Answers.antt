use Rattle.std.proofs.Common.{◌∙◌}
use Rattle.redis_core.proofs.Working.{rests}
use Rattle.redis_core.proofs.Tidy.{rests_tidy, rests_least}
use Rattle.redis_core.proofs.engine.Engine.background.Goals as goal

pub returns-clause-rests : goal.returns-clause-rests
returns-clause-rests g c alive = rests g.B.BlockStore.blocks g.B.BlockStore.heap g.B.BlockStore.step c.args.self.now _ c.args.moment c.args.plan _ _ _ c.work.result
    (c.self-2.view_is ∙ c.observe.ensures) c.work.ensures.works

pub returns-clause-tidy : goal.returns-clause-tidy
returns-clause-tidy g c alive still tidy = rests_tidy g.B.BlockStore.blocks g.B.BlockStore.heap g.B.BlockStore.step c.args.moment c.args.plan c.args.self.now _ c.work.result still
    (returns-clause-rests g c alive) tidy

pub returns-clause-least : goal.returns-clause-least
returns-clause-least g c alive still tidy some none = rests_least g.B.BlockStore.blocks g.B.BlockStore.heap g.B.BlockStore.step c.args.moment c.args.plan c.args.self.now _ c.work.result
    still (returns-clause-rests g c alive) tidy some none
