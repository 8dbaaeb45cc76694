-- A step along the lowest level, from the tower at a rank to the next one.
use Rattle.std.proofs.Common.{◌≡◌, ℕ, zero, suc, ◌+◌, ◌<◌, Bool, true, List, [], ◌∷◌, Some, length, take, drop, get_or, ltb-true, subst, arith, inl, inr}
use Rattle.score_list.specs.declared.towers.Towers.{Towers}
use Rattle.score_list.specs.Rows.{IsRow, AllTall}
use Rattle.score_list.specs.Linked.{links_at, next_at, span_at, score_at, score_of, height_at, tall, order, IsLevel, IsScored, IsLinked, IsAt}
use Rattle.score_list.proofs.Moved.{never, all_next, row_on}
use Rattle.score_list.proofs.Holding.{held_on, held_found}
use Rattle.score_list.proofs.Threading.{at_rank}

tall_at : (tall : ℕ → Bool) (ks : List ℕ) (rank : ℕ) → AllTall tall ks → rank < length ks → tall (get_or ks rank 0) ≡ true
tall_at tall [] rank all lt = absurd (omega arith)
tall_at tall (k ∷ ks) zero all lt = all.0
tall_at tall (k ∷ ks) (suc rank) all lt = tall_at tall ks rank all.1 (omega (arith, lt))

module _ (tall : ℕ → Bool) (next span : ℕ → ℕ) where
  -- where all are of the level, the link of each one leads to the one behind it
  next_of : (o d : ℕ) (ks : List ℕ) (rank : ℕ) → AllTall tall ks → IsRow tall next span o d ks → suc rank < length ks → next (suc (get_or ks rank 0)) ≡ suc (get_or ks (suc rank) 0)
  next_of o d [] rank all r lt = absurd (omega arith)
  next_of o d (k ∷ []) zero all r lt = absurd (omega (arith, lt))
  next_of o d (k ∷ j ∷ ks) zero all (inl r) lt = all_next tall next span (suc k) j ks all.1 r.3
  next_of o d (k ∷ j ∷ ks) zero all (inr r) lt = never (tall k) all.0 r.0
  next_of o d (k ∷ ks) (suc rank) all (inl r) lt = next_of (suc k) 0 ks rank all.1 r.3 (omega (arith, lt))
  next_of o d (k ∷ ks) (suc rank) all (inr r) lt = never (tall k) all.0 r.0

module _ (t : Towers) (linked : IsLinked t) (rank key : ℕ) (at : IsAt t rank (Some key)) where
  owner_is : suc (get_or (order t) rank 0) ≡ key + 1
  owner_is = omega (arith, at.1)

  -- the tower at a rank has a link at the lowest level
  pub has_link : 0 < length (links_at t (key + 1))
  has_link = subst (λ o. 0 < length (links_at t o)) owner_is (ltb-true 0 (height_at t (get_or (order t) rank 0)) (tall_at (tall t 0) (order t) rank linked.based at.0))

  -- and it leads to the tower at the next rank
  pub leads_on : rank + 1 < length (order t) → next_at t 0 (key + 1) ≡ suc (get_or (order t) (rank + 1) 0)
  leads_on more =
      let on = next_of (tall t 0) (next_at t 0) (span_at t 0) 0 0 (order t) rank linked.based (linked.rows 0 (omega arith)) (omega (arith, more)) in
      let one : suc rank ≡ rank + 1 = omega arith in
      subst (λ n. next_at t 0 (key + 1) ≡ suc (get_or (order t) n 0)) one (subst (λ o. next_at t 0 o ≡ suc (get_or (order t) (suc rank) 0)) owner_is on)

  -- whose score it holds
  pub holds_next : (k : ℕ) → next_at t 0 (key + 1) ≡ suc k → score_at t 0 (key + 1) ≡ score_of t k
  holds_next k =
      let is = at_rank (order t) rank key at.0 at.1 in
      let high : tall t 0 key ≡ true = subst (λ n. tall t 0 n ≡ true) at.1 (tall_at (tall t 0) (order t) rank linked.based at.0) in
      let row = row_on (tall t 0) (next_at t 0) (span_at t 0) (take rank (order t)) key (drop (suc rank) (order t)) 0 0 high (subst (IsLevel t 0) is (linked.rows 0 (omega arith))) in
      let held = held_on (tall t 0) (score_at t 0) (score_of t) (take rank (order t)) key (drop (suc rank) (order t)) 0 high (subst (IsScored t 0) is (linked.scored 0 (omega arith))) in
      let one : suc key ≡ key + 1 = omega arith in
      subst (λ o. next_at t 0 o ≡ suc k → score_at t 0 o ≡ score_of t k) one
      (held_found (tall t 0) (score_at t 0) (score_of t) (next_at t 0) (span_at t 0) (suc key) 0 (drop (suc rank) (order t)) row held k)
