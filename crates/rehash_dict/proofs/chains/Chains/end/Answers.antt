use Rattle.std.proofs.Common.{◌∙◌, ap, subst, sym}
use Rattle.rehash_dict.specs.Chains.{IsLinked}
use Rattle.rehash_dict.specs.Tables.{count}
use Rattle.rehash_dict.proofs.Tweaks.{given_up}
use Rattle.rehash_dict.proofs.chains.Chains.end.Goals as goal

pub invariant_of-self : goal.invariant_of-self
invariant_of-self g c =
    subst (λ heads. IsLinked c.self.inside.entries.slots heads c.replace.new.dest.items c.len-self-inside.result) (sym (ap (λ v. v.items) c.replace.ensures.value))
    (given_up c.self.inside.entries.slots c.self.inside.older.items c.self.inside.newer.items c.replace.new.dest.items c.self.inside.waiting c.len-self-inside.result c.self.invariant
    (ap (λ h. count h.older) c.self.view_is ∙ c.requires) (ap (λ v. v.items) c.replace.ensures.after ∙ c.new-none.ensures.items) c.len-self-inside.ensures).linked

pub returns-clause-stand : goal.returns-clause-stand
returns-clause-stand g c = (invariant_of-self g c).stand
