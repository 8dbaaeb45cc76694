-- The marks of a sorted set's blocks, and how many of them and of the vacant item numbers a call passes.
use Rattle.std.proofs.Common.{◌≡◌, ℕ, zero, suc, ◌+◌, ◌<◌, Bool, [], length, Some, IsSome, is_some, slice_get, count_by, refl, ap, arith}
use Rattle.blocks.specs.Blocks.{Blocks}
use Rattle.blocks.proofs.Sums.{count_cons}
use Rattle.object_codec.specs.declared.limits.Limits.{Limits}
use Rattle.rehash_dict.specs.Table.{item}
use Rattle.collection_walk.proofs.Numbered.{items_marked, mark_item}
use Rattle.collection_walk.proofs.Counted.{passed_below, each_number}
use Rattle.zset_object.specs.declared.scored.Body.{Body}
use Rattle.zset_object.specs.declared.scored.Body.TheVariants.{Empty, Pack, Table}
use Rattle.zset_object.specs.Scored.{IsBody, refs_of_body}
use Rattle.zset_object.specs.Relocation.{marks_in, end_in, vacant_in}

-- each reference has a mark
pub all_marked : (body : Body) → length (marks_in body) ≡ length (refs_of_body body)
all_marked Empty = refl
all_marked (Pack p) = refl
all_marked (Table t) = items_marked 0 t.table.items

-- a mark is below the number that all marks are below
pub mark_below : (m : Blocks) (limits : Limits) (seed : ℕ) (body : Body) (index mark : ℕ) → IsBody m limits seed body → slice_get (marks_in body) index ≡ Some mark → mark < end_in body
mark_below m limits seed Empty index mark is h = cc
mark_below m limits seed (Pack p) zero mark is h = (let same : 0 ≡ mark = cc in omega (arith, same))
mark_below m limits seed (Pack p) (suc index) mark is h = cc
mark_below m limits seed (Table t) index mark is h =
    let p = mark_item 0 t.table.items index mark h in
    let some : IsSome (item t.table p.0) = ap is_some p.3 in
    omega (arith, p.2, is.sound.keyed.placed.below p.0 some)

-- ---- counts

-- each mark and each vacant item number is one of the numbers below the end
pub marks_counted : (p : ℕ → Bool) (m : Blocks) (limits : Limits) (seed : ℕ) (body : Body) → IsBody m limits seed body
    → count_by p (marks_in body) + count_by p (vacant_in body) ≡ passed_below p (end_in body)
marks_counted p m limits seed Empty is = refl
marks_counted p m limits seed (Pack q) is = omega (arith, count_cons p 0 [])
marks_counted p m limits seed (Table t) is = each_number p t.table is.sound.keyed.placed.below
