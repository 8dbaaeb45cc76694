use Rattle.std.proofs.Common.{◌≡◌, OnOk, sym, ap, subst}
use Rattle.rehash_dict.specs.Tables.{shrunk}
use Rattle.rehash_dict.specs.Keyed.{hash_of, Keyed, key_tables}
use Rattle.rehash_dict.specs.Grown.{Grown}
use Rattle.expiry.proofs.deadlines.Deadlines.shrink.Goals as goal

pub returns-clause-keyed : goal.returns-clause-keyed
returns-clause-keyed c blocks keyed = c.shrink.ensures.keyed blocks (subst (Keyed blocks) (sym (ap (λ d. d.table) c.self.view_is)) keyed)

pub returns-clause-tables : goal.returns-clause-tables
returns-clause-tables c blocks =
    subst (λ t. OnOk c.shrink.result (key_tables blocks c.shrink.new.self ≡ shrunk (key_tables blocks t))) (ap (λ d. d.table) c.self.view_is) (c.shrink.ensures.tables blocks)

pub returns-clause-grown : goal.returns-clause-grown
returns-clause-grown c blocks = subst (λ t. Grown (hash_of t.seed) (key_tables blocks t) (key_tables blocks c.shrink.new.self)) (ap (λ d. d.table) c.self.view_is) (c.shrink.ensures.grown blocks)
