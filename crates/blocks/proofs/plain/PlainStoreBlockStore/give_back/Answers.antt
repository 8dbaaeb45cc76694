use Rattle.std.proofs.Common.{◌∙◌, ap}
use Rattle.std.specs.Prelude.{None}
use Rattle.blocks.specs.Plain.{blocks_at}
use Rattle.blocks.specs.Blocks.{with_block}
use Rattle.blocks.specs.Steps.{returned}
use Rattle.blocks.proofs.PlainLemmas.{plain_updated, plain_slot}
use Rattle.blocks.proofs.plain.PlainStoreBlockStore.give_back.Goals as goal

pub returns-clause-ended : goal.returns-clause-ended
returns-clause-ended c =
    plain_updated c.self.inside.vectors _ c.args.at None (plain_slot _ c.args.at c.requires) c.try_remove.ensures.updates
    ∙ ap (λ m. with_block (blocks_at m) c.args.at None) (ap (λ s. s.places) c.self.view_is)

pub returns-clause-step : goal.returns-clause-step
returns-clause-step c = returned c.args.at c.requires (returns-clause-ended c) (ap (λ s. s.passing) c.self.view_is)
