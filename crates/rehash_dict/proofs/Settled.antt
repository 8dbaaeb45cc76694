-- A call of `shrink` leaves nothing for another one.
use Rattle.std.proofs.Common.{◌≡◌, ◌<◌, ◌≤◌, ℕ, ◌&&◌, [], length, refl, ap, ◌∙◌, arith, max, inl, inr}
use Rattle.std.specs.Prelude.{◌==◌}
use Rattle.std.proofs.lemmas.Bool.{cond-true, cond-false, eq-eqb, ne_eqb, and_from, and_right, cases_eq, cases_Bool}
use Rattle.std.proofs.lemmas.List.{length-replicate}
use Rattle.rehash_dict.specs.Tables.{Tables, count, no_elements, is_rehashing, begun, wants_shrink, least_power, power_from, shrunk, IsSettled}
use Rattle.rehash_dict.proofs.Rooms.{going_yes, wants_going, wants_small}

least_none : max 4 (least_power 0) ≡ 4
unfolding least_power power_from
least_none = refl

four_le : (m : ℕ) → 4 ≤ max 4 m
four_le m = omega arith

module _ {X : Type 0} where
  begun_settled : (t : Tables X) (size : ℕ) → 0 < size → (count t.older ≡ 0 → size ≤ 4) → IsSettled (begun t size)
  begun_settled t size some few =
      let r : Tables X = record { older = t.older; newer = no_elements size; position = 0 } in
      let rows : length (no_elements {X = X} size) ≡ size = length-replicate size [] in
      let going : 0 < length r.newer = omega (arith, rows) in
      elim (cases_eq (count t.older) 0) [
        | inl none ↦ ap wants_shrink (cond-true (is_rehashing r && (count t.older == 0)) _ _ (and_from _ _ (going_yes r going) (eq-eqb _ _ none)))
            ∙ wants_small (record { older = no_elements size; newer = []; position = 0 }) (omega (arith, rows, few none))
        | inr other ↦ ap wants_shrink (cond-false (is_rehashing r && (count t.older == 0)) _ _ (and_right _ _ (ne_eqb _ _ other))) ∙ wants_going r going
      ]

  -- `shrink` leaves the tables settled.
  pub shrunk_settled : (t : Tables X) → IsSettled (shrunk t)
  unfolding shrunk
  shrunk_settled t =
      let size : ℕ = max 4 (least_power (count t.older)) in
      elim (cases_Bool (wants_shrink t)) [
        | inl wanted ↦ ap wants_shrink (cond-true (wants_shrink t) (begun t size) t wanted)
            ∙ begun_settled t size (omega (arith, four_le (least_power (count t.older)))) (λ none. omega (arith, ap (λ n. max 4 (least_power n)) none, least_none))
        | inr no' ↦ ap wants_shrink (cond-false (wants_shrink t) (begun t size) t no') ∙ no'
      ]
