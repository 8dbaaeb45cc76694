use Rattle.std.proofs.Common.{inl, inr, refl, sym, subst, ◌∙◌}
use Rattle.keyspace.proofs.Running.{same_held, held_then}
use Rattle.keyspace.specs.Commands.{KeepsTo}
use Rattle.redis_core.specs.declared.settling.Touched.{Touched}
use Rattle.redis_core.specs.declared.settling.Touched.TheVariants.{One, Two}
use Rattle.redis_core.specs.Touched.{covers, shrinking, AreDatabases}
use Rattle.redis_core.proofs.Settled.{held_shrinks, settled_then, one_settled, two_settled, ok_so, covered}
use Rattle.redis_core.proofs.settling.settle.Goals as goal

pub returns-in-Nothing-clause-held : goal.returns-in-Nothing-clause-held
returns-in-Nothing-clause-held g c = same_held g.B.BlockStore.blocks g.B.BlockStore.step (shrinking c.args.touched) c.args.keyspace.now c.requires.sound

pub returns-in-Nothing-clause-settled : goal.returns-in-Nothing-clause-settled
returns-in-Nothing-clause-settled g c number here = absurd (subst (λ (t : Touched). covers t number) c.in-Nothing.is here)

pub shrink_one-requires-clause-db : goal.shrink_one-requires-clause-db
shrink_one-requires-clause-db g c = subst AreDatabases c.in-One.is c.requires.databases

pub returns-in-One-clause-held : goal.returns-in-One-clause-held
returns-in-One-clause-held g c = subst (λ (t : Touched). KeepsTo g.B.BlockStore.blocks g.B.BlockStore.step (shrinking t) c.args.keyspace.now c.shrink_one.new.keyspace) (sym c.in-One.is)
    (held_shrinks g.B.BlockStore.blocks g.B.BlockStore.step (One c.in-One.db) c.in-One.db refl c.args.keyspace.now c.shrink_one.new.keyspace c.shrink_one.ensures.held)

pub returns-in-One-clause-settled : goal.returns-in-One-clause-settled
returns-in-One-clause-settled g c = ok_so c.shrink_one.result
    (λ done. covered c.args.touched (One c.in-One.db) c.in-One.is c.shrink_one.new.keyspace.bases (one_settled c.shrink_one.new.keyspace.bases c.in-One.db done))
    c.shrink_one.ensures.settled

pub shrink_one-requires-in-Two-clause-db : goal.shrink_one-requires-in-Two-clause-db
shrink_one-requires-in-Two-clause-db g c = (subst AreDatabases c.in-Two.is c.requires.databases).0

pub returns-in-All-clause-held : goal.returns-in-All-clause-held
returns-in-All-clause-held g c = subst (λ (t : Touched). KeepsTo g.B.BlockStore.blocks g.B.BlockStore.step (shrinking t) c.args.keyspace.now c.shrink_all.new.keyspace) (sym c.in-All.is)
    (c.shrink_all.ensures.held)

pub returns-in-All-clause-settled : goal.returns-in-All-clause-settled
returns-in-All-clause-settled g c = ok_so c.shrink_all.result (λ done number here. done number) c.shrink_all.ensures.settled

pub shrink_one-requires-in-Ok-clause-db : goal.shrink_one-requires-in-Ok-clause-db
shrink_one-requires-in-Ok-clause-db g c = (subst AreDatabases c.in-Two.is c.requires.databases).1

pub returns-in-Ok-clause-world : goal.returns-in-Ok-clause-world
returns-in-Ok-clause-world g c number = c.shrink_one-in-Ok.ensures.world number ∙ c.shrink_one-in-Two.ensures.world number

pub returns-in-Ok-clause-held : goal.returns-in-Ok-clause-held
returns-in-Ok-clause-held g c =
    subst (λ (t : Touched). KeepsTo g.B.BlockStore.blocks g.B.BlockStore.step (shrinking t) c.args.keyspace.now c.shrink_one-in-Ok.new.keyspace) (sym c.in-Two.is)
    (held_then g.B.BlockStore.blocks g.B.BlockStore.step (shrinking (Two c.in-Two.db c.in-Two.other)) c.args.keyspace.now c.shrink_one-in-Two.new.keyspace c.shrink_one-in-Ok.new.keyspace
    (held_shrinks g.B.BlockStore.blocks g.B.BlockStore.step (Two c.in-Two.db c.in-Two.other) c.in-Two.db (inl refl) c.args.keyspace.now c.shrink_one-in-Two.new.keyspace
    c.shrink_one-in-Two.ensures.held)
    (held_shrinks g.B.BlockStore.blocks g.B.BlockStore.step (Two c.in-Two.db c.in-Two.other) c.in-Two.other (inr refl) c.shrink_one-in-Two.new.keyspace c.shrink_one-in-Ok.new.keyspace
    c.shrink_one-in-Ok.ensures.held))

pub returns-in-Ok-clause-settled : goal.returns-in-Ok-clause-settled
returns-in-Ok-clause-settled g c =
    ok_so c.shrink_one-in-Ok.result (λ last. covered c.args.touched (Two c.in-Two.db c.in-Two.other) c.in-Two.is c.shrink_one-in-Ok.new.keyspace.bases
    (two_settled c.shrink_one-in-Ok.new.keyspace.bases c.in-Two.db c.in-Two.other
    (settled_then g.B.BlockStore.blocks g.B.BlockStore.step c.shrink_one-in-Two.new.keyspace c.shrink_one-in-Ok.new.keyspace c.in-Two.db c.in-Two.other c.in-Ok.ensures.settled
    c.shrink_one-in-Ok.ensures.held last) last)) c.shrink_one-in-Ok.ensures.settled

pub returns-in-Err-clause-held : goal.returns-in-Err-clause-held
returns-in-Err-clause-held g c =
    subst (λ (t : Touched). KeepsTo g.B.BlockStore.blocks g.B.BlockStore.step (shrinking t) c.args.keyspace.now c.shrink_one-in-Two.new.keyspace) (sym c.in-Two.is)
    (held_shrinks g.B.BlockStore.blocks g.B.BlockStore.step (Two c.in-Two.db c.in-Two.other) c.in-Two.db (inl refl) c.args.keyspace.now c.shrink_one-in-Two.new.keyspace
    c.shrink_one-in-Two.ensures.held)
