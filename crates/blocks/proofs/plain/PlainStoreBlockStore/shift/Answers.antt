use Rattle.std.proofs.Common.{arith, ap, sym, take, drop}
use Rattle.std.proofs.lemmas.List.{length-take}
use Rattle.blocks.specs.Blocks.{bytes_at, shifted}
use Rattle.blocks.specs.Plain.{plain_blocks, plain_heap}
use Rattle.blocks.specs.Steps.{written}
use Rattle.blocks.proofs.PlainLemmas.{plain_put}
use Rattle.blocks.proofs.plain.PlainStoreBlockStore.shift.Goals as goal

pub returns-clause-shifted : goal.returns-clause-shifted
returns-clause-shifted c =
    plain_put c.self.inside.vectors _ c.args.at c.in-Some.bytes.now _ (λ bytes. shifted bytes c.args.from c.args.to c.args.count) (ap (λ s. s.places) c.self.view_is) c.requires.live
    (sym c.in-Some.ensures.value) c.shift_part.ensures

pub returns-clause-step : goal.returns-clause-step
returns-clause-step c =
    let bytes = bytes_at (plain_blocks c.args.self.now) c.args.at in
    written c.args.at c.args.to (take c.args.count (drop c.args.from bytes)) c.requires.live (omega (arith, length-take c.args.count (drop c.args.from bytes), c.requires.room))
    (returns-clause-shifted c) (ap (λ s. plain_heap s) c.self.view_is)
