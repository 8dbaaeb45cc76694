use Rattle.blocks.specs.Blocks.{no_step}
use Rattle.blocks.proofs.Serve.{served_once, served_then, served_weaker, served_passing}
use Rattle.blocks.proofs.laws.served_laws.Goals as goal

pub returns : goal.returns
returns g c = record {
  same = λ s. no_step;
  once = λ s t p. served_once s t p;
  goes_on = λ s t u p q. served_then s t u p q;
  kinds = λ s t p. served_weaker g.met.B.BlockStore.steps s t p;
  passing = λ s t p. served_passing g.B.BlockStore.blocks g.B.BlockStore.heap g.met.B.BlockStore.steps s t p;
}
