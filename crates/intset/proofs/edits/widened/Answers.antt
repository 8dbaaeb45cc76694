use Rattle.std.proofs.Common.{◌≡◌, ◌∙◌, ap, sym, arith, length, w64, Some}
use Rattle.std.specs.Prelude.{slice_get}
use Rattle.std.proofs.lemmas.Int.{to_z-of_z}
use Rattle.std.proofs.lemmas.List.{take_all}
use Rattle.intset.specs.Intset.{numbers_of}
use Rattle.intset.proofs.Edited.{copied_more, copied_count, number_held}
use Rattle.intset.proofs.edits.widened.Goals as goal

pub loop-index-init : goal.loop-index-init
loop-index-init c = record {
  width_is = c.in_ok-wide.ensures.width;
  sized = c.in_ok-wide.ensures.intset.width;
  long = c.in_ok-wide.ensures.intset.length;
  numbers_now = sym c.in_ok-wide.ensures.intset.listed;
}

pub put-requires : goal.put-requires
put-requires c =
    let numbers = numbers_of c.args.set.now in
    let found : slice_get numbers c.loop-index.index ≡ Some c.number.result = rw c.known-ints.ensures at c.number.ensures in
    let many : length numbers ≡ c.len-count.result = sym (c.len-count.ensures.value ∙ ap length c.known-ints.ensures) in
    let counted = copied_count c.loop-index.wide.items c.args.width numbers c.loop-index.index c.loop-index.invariant (omega arith) in
    let held = number_held c.args.set.now c.loop-index.index c.number.result (λ k. (c.type_inv.set k).fits) c.requires.intset.width found in
    record {
      width = c.loop-index.invariant.sized;
      length = c.loop-index.invariant.long;
      told = sym c.loop-index.invariant.width_is;
      place = omega arith;
      room = omega arith;
      fits = rw (to_z-of_z w64 c.number.result (record { sfits = c.number.type_inv })) (let wider = c.requires.wider in omega arith);
    }

pub loop-index-preserved : goal.loop-index-preserved
loop-index-preserved c =
    let numbers = numbers_of c.args.set.now in
    let found : slice_get numbers c.loop-index.index ≡ Some c.number.result = rw c.known-ints.ensures at c.number.ensures in
    copied_more c.loop-index.wide.items c.put.new.set.items c.args.width numbers c.loop-index.index c.number.result c.loop-index.invariant found
    (rw (to_z-of_z w64 c.number.result (record { sfits = c.number.type_inv })) at c.in_ok-put.ensures.ok)

pub returns-clause-width : goal.returns-clause-width
returns-clause-width c = c.loop-index.invariant.width_is

pub returns-clause-intset : goal.returns-clause-intset
returns-clause-intset c =
    let numbers = numbers_of c.args.set.now in
    let many : length numbers ≡ c.len-count.result = sym (c.len-count.ensures.value ∙ ap length c.known-ints.ensures) in
    record {
      width = c.loop-index.invariant.sized;
      length = c.loop-index.invariant.long;
      listed = sym (c.loop-index.invariant.numbers_now ∙ take_all c.loop-index.index numbers (omega arith));
      rising = c.requires.intset.rising;
    }
