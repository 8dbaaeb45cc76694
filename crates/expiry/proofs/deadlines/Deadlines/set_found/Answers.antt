use Rattle.std.proofs.Common.{◌≡◌, ◌∙◌, OnOk, sym, ap, subst}
use Rattle.std.specs.FinMap.{insert}
use Rattle.blocks.specs.Blocks.{bytes_at}
use Rattle.rehash_dict.specs.Keyed.{hash_of, Stands, Keyed, key_tables}
use Rattle.rehash_dict.specs.MapOf.{content}
use Rattle.rehash_dict.specs.Grown.{Grown}
use Rattle.rehash_dict.proofs.Growing.{grown_same}
use Rattle.expiry.specs.Changes.{Sets}
use Rattle.expiry.specs.Changes.Sets.{changes}
use Rattle.expiry.proofs.Setting.{joined, keyed_joined, moments_set, grown_set}
use Rattle.expiry.proofs.deadlines.Deadlines.set_found.Goals.{in-Ok, in-Err}
use Rattle.expiry.proofs.deadlines.Deadlines.set_found.Goals as goal

pub returns-in-Some-clause-set : goal.returns-in-Some-clause-set
returns-in-Some-clause-set g c =
    let m = g.B.BlockStore.blocks c.args.store.now in
    subst (λ t. Sets m t c.swap_value-was.new.self c.args.key c.args.deadline) (ap (λ d. d.table) c.self.view_is)
    (changes c.in-Some.at c.swap_value-was.result
    (subst (λ t. Stands m t c.in-Some.at (bytes_at m c.args.key)) (sym (ap (λ d. d.table) c.self.view_is)) (rw c.in-Some.is at c.requires.stands)) c.swap_value-was.ensures.swaps
    (c.swap_value-was.ensures.tables m))

pub returns-in-Some-clause-keyed : goal.returns-in-Some-clause-keyed
returns-in-Some-clause-keyed g c =
    let m = g.B.BlockStore.blocks c.args.store.now in
    c.swap_value-was.ensures.keyed m (subst (Keyed m) (sym (ap (λ d. d.table) c.self.view_is)) c.requires.keyed)

pub returns-in-Some-clause-moments : goal.returns-in-Some-clause-moments
returns-in-Some-clause-moments g c =
    moments_set (g.B.BlockStore.blocks c.args.store.now) c.args.self.now.table c.swap_value-was.new.self c.args.key c.args.deadline c.requires.keyed (returns-in-Some-clause-keyed g c)
    c.requires.live (returns-in-Some-clause-set g c)

pub returns-in-Some-clause-grown : goal.returns-in-Some-clause-grown
returns-in-Some-clause-grown g c =
    grown_set (g.B.BlockStore.blocks c.args.store.now) c.args.self.now.table c.swap_value-was.new.self c.args.key c.args.deadline c.requires.keyed (returns-in-Some-clause-set g c)

pub returns-after-insert_hashed-clause-keyed : goal.returns-after-insert_hashed-clause-keyed
returns-after-insert_hashed-clause-keyed g c =
    let m = g.B.BlockStore.blocks c.args.store.now in
    elim c.match-insert_hashed.branch [
      | in-Ok w ↦
          keyed_joined m c.args.self.now.table c.insert_hashed.new.self c.args.key c.args.deadline c.args.hash w.in-Ok._at c.requires.keyed c.requires.live c.requires.hashed
          (rw c.in-None.is at c.requires.lacks)
          (rw (ap (λ d. d.table) c.self.view_is) at w.in-Ok.ensures.added)
      | in-Err w ↦ subst (Keyed m) (sym (ap (λ d. d.table) c.self.view_is) ∙ sym w.in-Err.ensures.err) c.requires.keyed
    ]

pub returns-after-insert_hashed-clause-set : goal.returns-after-insert_hashed-clause-set
returns-after-insert_hashed-clause-set g c =
    let m = g.B.BlockStore.blocks c.args.store.now in
    elim c.match-insert_hashed.branch [
      | in-Ok w ↦
          subst (λ r. OnOk r (Sets m c.args.self.now.table c.insert_hashed.new.self c.args.key c.args.deadline)) (sym w.result-is)
          (joined m c.args.self.now.table c.insert_hashed.new.self c.args.key c.args.deadline c.args.hash w.in-Ok._at c.requires.keyed c.requires.live c.requires.hashed
          (rw c.in-None.is at c.requires.lacks)
          (rw (ap (λ d. d.table) c.self.view_is) at w.in-Ok.ensures.added))
      | in-Err w ↦ subst (λ r. OnOk r (Sets m c.args.self.now.table c.insert_hashed.new.self c.args.key c.args.deadline)) (sym w.result-is) tt
    ]

pub returns-after-insert_hashed-clause-moments : goal.returns-after-insert_hashed-clause-moments
returns-after-insert_hashed-clause-moments g c =
    let m = g.B.BlockStore.blocks c.args.store.now in
    elim c.match-insert_hashed.branch [
      | in-Ok w ↦
          subst (λ r. OnOk r (content m c.insert_hashed.new.self ≡ insert (content m c.args.self.now.table) (bytes_at m c.args.key) c.args.deadline)) (sym w.result-is)
          (moments_set m c.args.self.now.table c.insert_hashed.new.self c.args.key c.args.deadline c.requires.keyed (returns-after-insert_hashed-clause-keyed g c) c.requires.live
          (subst (λ r. OnOk r (Sets m c.args.self.now.table c.insert_hashed.new.self c.args.key c.args.deadline)) w.result-is (returns-after-insert_hashed-clause-set g c)))
      | in-Err w ↦ subst (λ r. OnOk r (content m c.insert_hashed.new.self ≡ insert (content m c.args.self.now.table) (bytes_at m c.args.key) c.args.deadline)) (sym w.result-is) tt
    ]

pub returns-after-insert_hashed-clause-grown : goal.returns-after-insert_hashed-clause-grown
returns-after-insert_hashed-clause-grown g c =
    let m = g.B.BlockStore.blocks c.args.store.now in
    elim c.match-insert_hashed.branch [
      | in-Ok w ↦
          grown_set m c.args.self.now.table c.insert_hashed.new.self c.args.key c.args.deadline c.requires.keyed
          (subst (λ r. OnOk r (Sets m c.args.self.now.table c.insert_hashed.new.self c.args.key c.args.deadline)) w.result-is (returns-after-insert_hashed-clause-set g c))
      | in-Err w ↦
          subst (λ t. Grown (hash_of t.seed) (key_tables m t) (key_tables m c.insert_hashed.new.self)) (ap (λ d. d.table) c.self.view_is)
          (grown_same (hash_of c.self.inside.table.seed) _ _ (ap (key_tables m) w.in-Err.ensures.err))
    ]
