use Rattle.std.proofs.Common.{◌≡◌, ◌∙◌, ◌-◌, arith, sym, refl, w64, true, false}
use Rattle.std.proofs.lemmas.Int.{to_z-of_z}
use Rattle.std.specs.Prelude.{int_le}
use Rattle.intset.specs.Intset.{packed_numbers}
use Rattle.intset.proofs.Packed.{get_or_packed, length_packed_in_packed}
use Rattle.intset.proofs.Halves.{rises_rising, rises_more, rising_refuted, less_from_le}
use Rattle.intset.proofs.ints.is_rising.Goals as goal

pub returns-then-number_at : goal.returns-then-number_at
returns-then-number_at c =
    let width = c.args.width in
    let count = c.args.count in
    let bytes = c.args.packed.now in
    let index = c.loop-index.index in
    let here = c.number_at.result in
    let before = c.number_at-in-loop-index.result in
    let many = length_packed_in_packed width count bytes in
    let at_most : int_le here before ≡ true = rw
    (to_z-of_z w64 here (record { sfits = c.number_at.type_inv }), to_z-of_z w64 before (record { sfits = c.number_at-in-loop-index.type_inv })) at c.if-number_at.true in
    let left = get_or_packed width count bytes (index - 1) here (omega arith) ∙ sym c.number_at-in-loop-index.ensures in
    let right = get_or_packed width count bytes index here (omega arith) ∙ sym c.number_at.ensures in
    ((λ h. absurd (cc)), (λ rising. absurd (rising_refuted (packed_numbers width count bytes) index before here (omega arith) (omega arith) left right at_most rising)))

pub loop-index-preserved : goal.loop-index-preserved
loop-index-preserved c =
    let width = c.args.width in
    let count = c.args.count in
    let bytes = c.args.packed.now in
    let index = c.loop-index.index in
    let here = c.number_at.result in
    let before = c.number_at-in-loop-index.result in
    let many = length_packed_in_packed width count bytes in
    let more : int_le here before ≡ false = rw (to_z-of_z w64 here (record { sfits = c.number_at.type_inv }), to_z-of_z w64 before (record { sfits = c.number_at-in-loop-index.type_inv }))
    at c.if-number_at.false in
    rises_more (packed_numbers width count bytes) index before here (omega arith) (omega arith) c.loop-index.invariant
    (λ d. get_or_packed width count bytes (index - 1) d (omega arith) ∙ sym c.number_at-in-loop-index.ensures)
    (λ d. get_or_packed width count bytes index d (omega arith) ∙ sym c.number_at.ensures)
    (less_from_le here before more)

pub returns : goal.returns
returns c = (
  (λ _. rises_rising (packed_numbers c.args.width c.args.count c.args.packed.now) c.loop-index.index
      (let e = length_packed_in_packed c.args.width c.args.count c.args.packed.now in omega (arith, e)) c.loop-index.invariant),
  (λ _. refl),
)
