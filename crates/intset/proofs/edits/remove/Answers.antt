use Rattle.std.proofs.Common.{◌≡◌, ◌∙◌, ◌*◌, ◌≤◌, ap, arith, w64, refl, Some}
use Rattle.std.specs.Prelude.{slice_get}
use Rattle.std.specs.List.{remove}
use Rattle.std.proofs.lemmas.Int.{to_z-of_z}
use Rattle.std.proofs.lemmas.List.Quantifiers.{all_pairs_remove}
use Rattle.std.proofs.lemmas.Option.{get_or_from_slice_get, slice_get_within}
use Rattle.std.specs.Prelude.{◌<ℤ◌}
use Rattle.intset.specs.Intset.{numbers_of, width_of, count_of}
use Rattle.intset.specs.Places.{IsEdited, IsPlace}
use Rattle.intset.proofs.Edited.{cut_edits, edited_intset, length_numbers_of}
use Rattle.intset.proofs.Packed.{packed_room, packed_small}
use Rattle.intset.proofs.Sorted.{absent_without, remove_place}
use Rattle.intset.proofs.edits.remove.Goals as goal

pub returns-in_default-clause-removed : goal.returns-in_default-clause-removed
returns-in_default-clause-removed c =
    let at : IsPlace (numbers_of c.args.set.now.items) c.args.n c.in_default.field-0 = rw (to_z-of_z w64 c.args.n c.ranges.n, c.as_slice.ensures.value) at c.in_default.ensures.absent in
    absent_without (numbers_of c.args.set.now.items) c.args.n c.in_default.field-0 at

pub cut-requires : goal.cut-requires
cut-requires c =
    let old = c.args.set.now.items in
    let found : slice_get (numbers_of old) c.in-Ok.place ≡ Some c.args.n = rw (to_z-of_z w64 c.args.n c.ranges.n, c.as_slice.ensures.value) at c.in-Ok.ensures.found in
    let within = slice_get_within (numbers_of old) c.in-Ok.place c.args.n found in
    let told : c.told_width-width.result ≡ width_of old = c.told_width-width.ensures ∙ ap width_of c.as_slice-2.ensures.value in
    let room = packed_room (width_of old) c.in-Ok.place (count_of old) (omega (arith, length_numbers_of old)) in
    rw told (omega (arith, c.requires.intset.length))

pub overflow_mul-width : goal.overflow_mul-width
overflow_mul-width c =
    let old = c.args.set.now.items in
    let found : slice_get (numbers_of old) c.in-Ok.place ≡ Some c.args.n = rw (to_z-of_z w64 c.args.n c.ranges.n, c.as_slice.ensures.value) at c.in-Ok.ensures.found in
    let within = slice_get_within (numbers_of old) c.in-Ok.place c.args.n found in
    let told : c.told_width-width.result ≡ width_of old = c.told_width-width.ensures ∙ ap width_of c.as_slice-2.ensures.value in
    let low : c.told_width-width.result * c.in-Ok.place ≤ 8 * c.in-Ok.place = rw told (packed_small (width_of old) c.in-Ok.place c.requires.intset.width.width) in
    omega (arith, low)

pub overflow_add-width : goal.overflow_add-width
overflow_add-width c =
    let old = c.args.set.now.items in
    let found : slice_get (numbers_of old) c.in-Ok.place ≡ Some c.args.n = rw (to_z-of_z w64 c.args.n c.ranges.n, c.as_slice.ensures.value) at c.in-Ok.ensures.found in
    let within = slice_get_within (numbers_of old) c.in-Ok.place c.args.n found in
    let told : c.told_width-width.result ≡ width_of old = c.told_width-width.ensures ∙ ap width_of c.as_slice-2.ensures.value in
    let low : c.told_width-width.result * c.in-Ok.place ≤ 8 * c.in-Ok.place = rw told (packed_small (width_of old) c.in-Ok.place c.requires.intset.width.width) in
    omega (arith, low)

pub overflow_sub-count : goal.overflow_sub-count
overflow_sub-count c =
    let old = c.args.set.now.items in
    let found : slice_get (numbers_of old) c.in-Ok.place ≡ Some c.args.n = rw (to_z-of_z w64 c.args.n c.ranges.n, c.as_slice.ensures.value) at c.in-Ok.ensures.found in
    let within = slice_get_within (numbers_of old) c.in-Ok.place c.args.n found in
    let counted : c.told_count-count.result ≡ count_of old = c.told_count-count.ensures.value ∙ ap count_of c.as_slice-3.ensures.value in
    omega (arith, length_numbers_of old)

pub returns : goal.returns
returns c =
    let old = c.args.set.now.items in
    let new = c.write_count.new.set.items in
    let numbers = numbers_of old in
    let found : slice_get numbers c.in-Ok.place ≡ Some c.args.n = rw (to_z-of_z w64 c.args.n c.ranges.n, c.as_slice.ensures.value) at c.in-Ok.ensures.found in
    let within = slice_get_within numbers c.in-Ok.place c.args.n found in
    let here = get_or_from_slice_get numbers c.in-Ok.place c.args.n c.args.n found in
    let told : c.told_width-width.result ≡ width_of old = c.told_width-width.ensures ∙ ap width_of c.as_slice-2.ensures.value in
    let counted : c.told_count-count.result ≡ count_of old = c.told_count-count.ensures.value ∙ ap count_of c.as_slice-3.ensures.value in
    let edited : IsEdited old new (remove numbers c.in-Ok.place) =
    cut_edits old new c.told_width-width.result c.in-Ok.place c.requires.intset.width c.requires.intset.length told (omega (arith, length_numbers_of old)) (omega (arith, length_numbers_of old))
    c.cut.new.set.items c.cut.ensures (rw counted at c.write_count.ensures) in
    record {
      intset = edited_intset old new (remove numbers c.in-Ok.place) edited (all_pairs_remove (λ x y. x <ℤ y) numbers c.in-Ok.place within c.requires.intset.rising);
      there = ((λ _. (c.in-Ok.place, within, here)), (λ _. refl));
      removed = edited.numbers_now ∙ remove_place numbers c.args.n c.in-Ok.place c.requires.intset.rising within here;
      width = edited.kept;
      unchanged = λ h. cc;
    }
