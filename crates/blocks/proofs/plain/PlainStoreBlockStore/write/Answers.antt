use Rattle.std.proofs.Common.{ap, sym}
use Rattle.blocks.specs.Blocks.{overwritten}
use Rattle.blocks.specs.Plain.{plain_heap}
use Rattle.blocks.specs.Steps.{written}
use Rattle.blocks.proofs.PlainLemmas.{plain_put}
use Rattle.blocks.proofs.plain.PlainStoreBlockStore.write.Goals as goal

pub returns-clause-written : goal.returns-clause-written
returns-clause-written c =
    plain_put c.self.inside.vectors _ c.args.at c.in-Some.bytes.now _ (λ bytes. overwritten bytes c.args.from c.args.piece.now) (ap (λ s. s.places) c.self.view_is) c.requires.live (sym c.in-Some.ensures.value) c.put_piece.ensures

pub returns-clause-step : goal.returns-clause-step
returns-clause-step c = written c.args.at c.args.from c.args.piece.now c.requires.live c.requires.room (returns-clause-written c) (ap (λ s. plain_heap s) c.self.view_is)
