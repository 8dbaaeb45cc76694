use Rattle.std.proofs.Common.{◌∙◌, ap, arith, length, w64}
use Rattle.std.proofs.lemmas.Int.{to_z-of_z}
use Rattle.intset.specs.Intset.{numbers_of}
use Rattle.intset.specs.Places.{IsPlace}
use Rattle.intset.proofs.Edited.{edited_intset, length_numbers_of}
use Rattle.intset.proofs.Sorted.{rising_insert, insert_place}
use Rattle.intset.proofs.edits.add.Goals as goal

pub put-requires-clause-place : goal.put-requires-clause-place
put-requires-clause-place c =
    let at : IsPlace (numbers_of c.args.set.now.items) c.args.n c.in-Err.place = rw (to_z-of_z w64 c.args.n c.ranges.n, c.as_slice.ensures.value) at c.in-Err.ensures.absent in
    let within = at.within in
    omega (arith, length_numbers_of c.args.set.now.items)

pub put-requires-clause-room : goal.put-requires-clause-room
put-requires-clause-room c = omega (arith, length_numbers_of c.args.set.now.items)

pub put-requires-else-needed-width-clause-place : goal.put-requires-else-needed-width-clause-place
put-requires-else-needed-width-clause-place c =
    let at : IsPlace (numbers_of c.args.set.now.items) c.args.n c.in-Err.place = rw (to_z-of_z w64 c.args.n c.ranges.n, c.as_slice.ensures.value) at c.in-Err.ensures.absent in
    let within = at.within in
    let listed = rw c.as_slice-else-needed-width.ensures.value at c.in_ok-wide.ensures.intset.listed in
    omega (arith, length_numbers_of c.in_ok-wide.wide.items, ap length listed)

pub put-requires-else-needed-width-clause-room : goal.put-requires-else-needed-width-clause-room
put-requires-else-needed-width-clause-room c =
    let listed = rw c.as_slice-else-needed-width.ensures.value at c.in_ok-wide.ensures.intset.listed in
    omega (arith, length_numbers_of c.in_ok-wide.wide.items, ap length listed)

pub returns-in_ok-put-clause-intset : goal.returns-in_ok-put-clause-intset
returns-in_ok-put-clause-intset c =
    let at : IsPlace (numbers_of c.args.set.now.items) c.args.n c.in-Err.place = rw (to_z-of_z w64 c.args.n c.ranges.n, c.as_slice.ensures.value) at c.in-Err.ensures.absent in
    edited_intset _ _ _ (rw (to_z-of_z w64 c.args.n c.ranges.n) at c.in_ok-put.ensures.ok) (rising_insert (numbers_of c.args.set.now.items) c.args.n c.in-Err.place c.requires.intset.rising at)

pub returns-in_ok-put-clause-added : goal.returns-in_ok-put-clause-added
returns-in_ok-put-clause-added c =
    let at : IsPlace (numbers_of c.args.set.now.items) c.args.n c.in-Err.place = rw (to_z-of_z w64 c.args.n c.ranges.n, c.as_slice.ensures.value) at c.in-Err.ensures.absent in
    let edited = rw (to_z-of_z w64 c.args.n c.ranges.n) at c.in_ok-put.ensures.ok in
    λ _. edited.numbers_now ∙ insert_place (numbers_of c.args.set.now.items) c.args.n c.in-Err.place at

pub returns-in_ok-put-2-clause-intset : goal.returns-in_ok-put-2-clause-intset
returns-in_ok-put-2-clause-intset c =
    let at : IsPlace (numbers_of c.args.set.now.items) c.args.n c.in-Err.place = rw (to_z-of_z w64 c.args.n c.ranges.n, c.as_slice.ensures.value) at c.in-Err.ensures.absent in
    let listed = rw c.as_slice-else-needed-width.ensures.value at c.in_ok-wide.ensures.intset.listed in
    edited_intset _ _ _ (rw (to_z-of_z w64 c.args.n c.ranges.n, ← listed) at c.in_ok-put-2.ensures.ok)
    (rising_insert (numbers_of c.args.set.now.items) c.args.n c.in-Err.place c.requires.intset.rising at)

pub returns-in_ok-put-2-clause-added : goal.returns-in_ok-put-2-clause-added
returns-in_ok-put-2-clause-added c =
    let at : IsPlace (numbers_of c.args.set.now.items) c.args.n c.in-Err.place = rw (to_z-of_z w64 c.args.n c.ranges.n, c.as_slice.ensures.value) at c.in-Err.ensures.absent in
    let listed = rw c.as_slice-else-needed-width.ensures.value at c.in_ok-wide.ensures.intset.listed in
    let edited = rw (to_z-of_z w64 c.args.n c.ranges.n, ← listed) at c.in_ok-put-2.ensures.ok in
    λ _. edited.numbers_now ∙ insert_place (numbers_of c.args.set.now.items) c.args.n c.in-Err.place at
