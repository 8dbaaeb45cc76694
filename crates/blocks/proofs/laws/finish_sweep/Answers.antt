use Rattle.std.proofs.Common.{◌≡◌, sym, subst}
use Rattle.std.specs.Prelude.{IsSome}
use Rattle.blocks.specs.Slabs.{slabs_of, needed}
use Rattle.blocks.proofs.Sweeps.{swept_ends}
use Rattle.blocks.proofs.laws.finish_sweep.Goals as goal

pub returns-clause-least : goal.returns-clause-least
returns-clause-least g c = λ class below.
    subst (λ h. slabs_of h class ≡ needed h class) (sym c.end_pass.ensures.ended)
    (swept_ends (g.B.BlockStore.blocks c.args.store.now) (g.B.BlockStore.heap c.args.store.now) (λ r. IsSome (g.B.BlockStore.blocks c.args.store.now r))
    (g.met.B.BlockStore.sound c.args.store.now) c.requires (λ r live. live) class below)
