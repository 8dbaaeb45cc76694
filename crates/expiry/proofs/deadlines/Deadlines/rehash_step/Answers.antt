use Rattle.std.proofs.Common.{◌≡◌, sym, ap, subst}
use Rattle.rehash_dict.specs.Tables.{rehashed}
use Rattle.rehash_dict.specs.Keyed.{hash_of, Keyed, key_tables}
use Rattle.expiry.proofs.deadlines.Deadlines.rehash_step.Goals as goal

pub returns-clause-keyed : goal.returns-clause-keyed
returns-clause-keyed c blocks keyed = c.rehash_step.ensures.keyed blocks (subst (Keyed blocks) (sym (ap (λ d. d.table) c.self.view_is)) keyed)

pub returns-clause-tables : goal.returns-clause-tables
returns-clause-tables c blocks keyed =
    subst (λ t. key_tables blocks c.rehash_step.new.self ≡ rehashed (hash_of t.seed) (key_tables blocks t) 1) (ap (λ d. d.table) c.self.view_is)
    (c.rehash_step.ensures.tables blocks (subst (Keyed blocks) (sym (ap (λ d. d.table) c.self.view_is)) keyed))
