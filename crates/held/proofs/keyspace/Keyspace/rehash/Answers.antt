use Rattle.std.proofs.Common.{subst, refl, ◌∙◌, rules}
use Rattle.held.specs.Rehash.{Preserves, Rehashes, start, more}
use Rattle.held.proofs.Rehashing.{preserves_none, preserves_then}
use Rattle.held.proofs.keyspace.Keyspace.rehash.Goals as goal

pub loop-made-init : goal.loop-made-init
loop-made-init g c = record { steps = start; kept = preserves_none _ _ g.met.V.Stored.reads_own _ _ _ c.requires.intact.arranged refl; store = refl }

pub returns-then-not-step-clause-means : goal.returns-then-not-step-clause-means
returns-then-not-step-clause-means g c =
    let kept = subst (λ s. Preserves g.V.Stored.refs_of g.V.Stored.value_of g.V.Stored.IsSound (g.B.BlockStore.blocks s) c.loop-made.self.bases c.step.new.self.bases)
    c.loop-made.invariant.store c.step.ensures.kept in
    (preserves_then _ _ g.met.V.Stored.reads_own _ c.args.self.now.bases c.loop-made.self.bases c.step.new.self.bases c.loop-made.invariant.kept kept).means

pub returns-then-not-step-clause-sound : goal.returns-then-not-step-clause-sound
returns-then-not-step-clause-sound g c =
    let kept = subst (λ s. Preserves g.V.Stored.refs_of g.V.Stored.value_of g.V.Stored.IsSound (g.B.BlockStore.blocks s) c.loop-made.self.bases c.step.new.self.bases)
    c.loop-made.invariant.store c.step.ensures.kept in
    (preserves_then _ _ g.met.V.Stored.reads_own _ c.args.self.now.bases c.loop-made.self.bases c.step.new.self.bases c.loop-made.invariant.kept kept).sound

pub loop-made-preserved : goal.loop-made-preserved
loop-made-preserved g c =
    let kept = subst (λ s. Preserves g.V.Stored.refs_of g.V.Stored.value_of g.V.Stored.IsSound (g.B.BlockStore.blocks s) c.loop-made.self.bases c.step.new.self.bases)
    c.loop-made.invariant.store c.step.ensures.kept in
    record {
      steps = more _ _ _ c.loop-made.invariant.steps
          (subst (λ s. Rehashes (g.B.BlockStore.blocks s) c.loop-made.self.bases c.step.new.self.bases) c.loop-made.invariant.store (c.step.ensures.steps (search rules)));
      kept = preserves_then _ _ g.met.V.Stored.reads_own _ c.args.self.now.bases c.loop-made.self.bases c.step.new.self.bases c.loop-made.invariant.kept kept;
      store = c.step.ensures.store ∙ c.loop-made.invariant.store;
    }
