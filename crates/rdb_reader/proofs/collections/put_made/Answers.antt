use Rattle.std.proofs.Common.{[], Ok}
use Rattle.keyspace.specs.Values.{value_of, value_refs}
use Rattle.rdb_reader.proofs.Anew.{beside_with, beside_owned, all_parts, put_new, given_sound, given_means, given_within, given_new}
use Rattle.rdb_reader.proofs.Entries.{one_of_any}
use Rattle.rdb_reader.proofs.collections.put_made.Goals as goal

pub put-requires-clause-intact : goal.put-requires-clause-intact
put-requires-clause-intact g c = beside_with c.args.keyspace.now.bases (g.B.BlockStore.blocks c.args.keyspace.now.store) c.args.value c.requires.beside c.requires.own

pub returns-in_err-put-in-Kept-clause-sound : goal.returns-in_err-put-in-Kept-clause-sound
returns-in_err-put-in-Kept-clause-sound g c = c.put.ensures.sound (value_refs (g.B.BlockStore.blocks c.args.keyspace.now.store) c.args.value) [] c.requires.beside (all_parts _)

pub returns-in_err-put-in-Kept-clause-within : goal.returns-in_err-put-in-Kept-clause-within
returns-in_err-put-in-Kept-clause-within g c = one_of_any c.args.db c.args.name.now c.args.keyspace.now.bases c.put.new.self.bases _ _ c.put.ensures.within

pub returns-in_ok-put-in-Kept-clause-sound : goal.returns-in_ok-put-in-Kept-clause-sound
returns-in_ok-put-in-Kept-clause-sound g c = c.put.ensures.sound (value_refs (g.B.BlockStore.blocks c.args.keyspace.now.store) c.args.value) [] c.requires.beside (all_parts _)

pub returns-in_ok-put-in-Kept-clause-within : goal.returns-in_ok-put-in-Kept-clause-within
returns-in_ok-put-in-Kept-clause-within g c = one_of_any c.args.db c.args.name.now c.args.keyspace.now.bases c.put.new.self.bases _ _ c.put.ensures.within

pub returns-in_ok-put-in-Kept-clause-puts : goal.returns-in_ok-put-in-Kept-clause-puts
returns-in_ok-put-in-Kept-clause-puts g c =
    let k = rw c.in-Kept.is at c.fate.ensures in
    (k.0, k.1, c.in_ok-put-in-Kept.ensures.means)

pub returns-in_ok-put-in-Kept-clause-form : goal.returns-in_ok-put-in-Kept-clause-form
returns-in_ok-put-in-Kept-clause-form g c = λ is.
    let m = g.B.BlockStore.blocks c.args.keyspace.now.store in
    let sound = c.put.ensures.sound (value_refs m c.args.value) [] c.requires.beside (all_parts _) in
    put_new {E = Unit {0}} c.args.db c.args.name.now c.args.value (value_of m c.args.value) c.args.deadline c.args.keyspace.now.bases c.put.new.self.bases m _ is
    c.put.ensures.settings.limits c.put.ensures.within sound.arranged (Ok tt) c.in_ok-put-in-Kept.ensures.means c.in_ok-put-in-Kept.ensures.has

pub release-requires-clause-owned : goal.release-requires-clause-owned
release-requires-clause-owned g c = beside_owned c.args.keyspace.now.bases (g.B.BlockStore.blocks c.args.keyspace.now.store) c.args.value c.requires.beside

pub release-requires-clause-sound : goal.release-requires-clause-sound
release-requires-clause-sound g c = (c.args.keyspace.now.bases.limits, c.args.keyspace.now.bases.seed, c.requires.own)

pub returns-in-Passed-clause-puts : goal.returns-in-Passed-clause-puts
returns-in-Passed-clause-puts g c =
    let k = rw c.in-Passed.is at c.fate.ensures in (
      k.0,
      k.1,
      given_means c.args.keyspace.now.bases (g.B.BlockStore.blocks c.args.keyspace.now.store) (g.B.BlockStore.blocks c.release.new.store)
          (value_refs (g.B.BlockStore.blocks c.args.keyspace.now.store) c.args.value) c.requires.beside c.release.ensures.changes c.args.db,
    )

pub returns-in-Passed-clause-sound : goal.returns-in-Passed-clause-sound
returns-in-Passed-clause-sound g c = given_sound c.args.keyspace.now.bases (g.B.BlockStore.blocks c.args.keyspace.now.store) (g.B.BlockStore.blocks c.release.new.store)
    (value_refs (g.B.BlockStore.blocks c.args.keyspace.now.store) c.args.value) c.requires.beside c.release.ensures.changes

pub returns-in-Passed-clause-within : goal.returns-in-Passed-clause-within
returns-in-Passed-clause-within g c = given_within c.args.keyspace.now.bases (g.B.BlockStore.blocks c.args.keyspace.now.store) (g.B.BlockStore.blocks c.release.new.store)
    (value_refs (g.B.BlockStore.blocks c.args.keyspace.now.store) c.args.value) c.requires.beside c.release.ensures.changes

pub returns-in-Passed-clause-form : goal.returns-in-Passed-clause-form
returns-in-Passed-clause-form g c = λ is. given_new c.args.keyspace.now.bases (g.B.BlockStore.blocks c.args.keyspace.now.store) (g.B.BlockStore.blocks c.release.new.store)
    (value_refs (g.B.BlockStore.blocks c.args.keyspace.now.store) c.args.value) c.requires.beside c.release.ensures.changes

pub release-requires-in-Twice-clause-owned : goal.release-requires-in-Twice-clause-owned
release-requires-in-Twice-clause-owned g c = beside_owned c.args.keyspace.now.bases (g.B.BlockStore.blocks c.args.keyspace.now.store) c.args.value c.requires.beside

pub release-requires-in-Twice-clause-sound : goal.release-requires-in-Twice-clause-sound
release-requires-in-Twice-clause-sound g c = (c.args.keyspace.now.bases.limits, c.args.keyspace.now.bases.seed, c.requires.own)

pub returns-in-Twice-clause-puts : goal.returns-in-Twice-clause-puts
returns-in-Twice-clause-puts g c = rw c.in-Twice.is at c.fate.ensures

pub returns-in-Twice-clause-sound : goal.returns-in-Twice-clause-sound
returns-in-Twice-clause-sound g c = given_sound c.args.keyspace.now.bases (g.B.BlockStore.blocks c.args.keyspace.now.store) (g.B.BlockStore.blocks c.release-in-Twice.new.store)
    (value_refs (g.B.BlockStore.blocks c.args.keyspace.now.store) c.args.value) c.requires.beside c.release-in-Twice.ensures.changes

pub returns-in-Twice-clause-within : goal.returns-in-Twice-clause-within
returns-in-Twice-clause-within g c = given_within c.args.keyspace.now.bases (g.B.BlockStore.blocks c.args.keyspace.now.store) (g.B.BlockStore.blocks c.release-in-Twice.new.store)
    (value_refs (g.B.BlockStore.blocks c.args.keyspace.now.store) c.args.value) c.requires.beside c.release-in-Twice.ensures.changes

pub returns-in-Twice-clause-form : goal.returns-in-Twice-clause-form
returns-in-Twice-clause-form g c = λ is. given_new c.args.keyspace.now.bases (g.B.BlockStore.blocks c.args.keyspace.now.store) (g.B.BlockStore.blocks c.release-in-Twice.new.store)
    (value_refs (g.B.BlockStore.blocks c.args.keyspace.now.store) c.args.value) c.requires.beside c.release-in-Twice.ensures.changes
