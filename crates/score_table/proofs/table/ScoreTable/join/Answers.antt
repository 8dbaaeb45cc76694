use Rattle.std.proofs.Common.{◌≡◌, sym, ap, subst, unwrap_or, [], to_z, of_z, w64}
use Rattle.std.proofs.lemmas.Int.{to_z-of_z}
use Rattle.score_list.specs.Sorted.{Removes, key_of}
use Rattle.score_table.proofs.Among.{undone}
use Rattle.score_table.proofs.Edits.{joins_fresh, joined}
use Rattle.score_table.proofs.table.ScoreTable.join.Goals as goal

pub insert-requires-clause-fresh : goal.insert-requires-clause-fresh
insert-requires-clause-fresh g c =
    joins_fresh (g.B.BlockStore.blocks c.args.store.now) c.args.self.now c.requires.sound (to_z w64 (of_z w64 c.args.score)) _ c.requires.absent

pub returns-in-Ok-clause-joined : goal.returns-in-Ok-clause-joined
returns-in-Ok-clause-joined g c =
    let m = g.B.BlockStore.blocks c.args.store.now in
    let r = c.requires in
    let score_is : to_z w64 (of_z w64 c.args.score) ≡ c.args.score = to_z-of_z w64 c.args.score c.ranges.score in
    let added = rw score_is at c.in-Ok.ensures.added in
    let list_is = rw score_is at c.in_ok-insert.ensures.ok in
    joined m c.args.self.now c.insert_hashed.new.self c.insert.new.self c.in-Ok.field-0 _ (record { key = c.args.member; hash = c.args.hash; value = c.args.score }) r.sound r.live added
    r.hashed r.absent c.insert.ensures.sorted list_is
    (c.insert_hashed.ensures.grown m r.sound.keyed r.live r.hashed r.absent)

pub returns-in-Err-clause-err : goal.returns-in-Err-clause-err
returns-in-Err-clause-err g c =
    let m = g.B.BlockStore.blocks c.args.store.now in
    let score = to_z w64 (of_z w64 c.args.score) in
    let same_list : c.remove-there.new.self ≡ c.args.self.now.list =
    undone m c.args.self.now.list c.remove-there.new.self (score, c.args.member) c.remove-there.result
    (subst (λ xs. Removes m (key_of m (score, c.args.member)) xs c.remove-there.result c.remove-there.new.self) c.in_ok-insert.ensures.ok
    (subst (λ b. Removes m (score, b) c.insert.new.self c.remove-there.result c.remove-there.new.self) (sym (ap (λ o. unwrap_or o []) c.bytes.ensures)) c.remove-there.ensures.removes)) in
    let same_table = c.in-Err.ensures.err in
    λ i. record { table = same_table i; list = same_list i }
