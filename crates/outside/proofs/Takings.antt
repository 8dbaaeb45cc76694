-- Takes, one after the other.
use Rattle.std.proofs.Common.{ℕ, List, [], ◌++◌, refl, subst, ◌∙◌}
use Rattle.std.specs.Io.KnownBytes.{Consumes}
use Rattle.std.proofs.KnownBytes.{Consumes-nil, Consumes-trans}
use Rattle.std.proofs.lemmas.List.{append-nil}
use Rattle.outside.specs.Streams.{SourceSeen, TakesAll}

pub takes_nothing : (i : SourceSeen) → TakesAll i i []
takes_nothing i = record { told = Consumes-nil i.told; faults = refl; sure = λ h. h }

pub takes_then : (i i1 i2 : SourceSeen) (a b : List ℕ) → TakesAll i i1 a → TakesAll i1 i2 b → TakesAll i i2 (a ++ b)
takes_then i i1 i2 a b p q = record { told = Consumes-trans i.told i1.told i2.told a b p.told q.told; faults = q.faults ∙ p.faults; sure = λ h. q.sure (p.sure h) }

pub takes_none : (i i1 i2 : SourceSeen) (a : List ℕ) → TakesAll i i1 a → Consumes i1.told i2.told [] → Consumes i.told i2.told a
takes_none i i1 i2 a p q = let P : List ℕ → Type 0 = λ l. Consumes i.told i2.told l in subst P (append-nil a) (Consumes-trans i.told i1.told i2.told a [] p.told q)
