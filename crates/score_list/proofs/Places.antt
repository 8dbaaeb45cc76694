-- Where an owner stands, and the list that the links make.
use Rattle.std.proofs.Common.{◌≡◌, ◌≢◌, ℕ, zero, suc, ◌+◌, ◌<◌, ◌≤◌, Bool, true, List, [], ◌∷◌, ◌++◌, length, take, drop, get_or, Option, Some, None, refl, sym, ap, ◌∙◌, subst}
use Rattle.std.proofs.Common.{append_assoc, arith, ◌⊎◌, inl, inr}
use Rattle.std.proofs.lemmas.List.{take-append-drop}
use Rattle.score_list.specs.Rows.{IsRow, Reaches, Stands, AllTall}
use Rattle.score_list.specs.Rows.Stands.{at_head, at_tower}
use Rattle.score_list.specs.Linked.{chain}
use Rattle.score_list.proofs.Moved.{never, stands_row, stands_reach, ahead, stays, beyond}

pub apart : (a b : ℕ) → (a ≡ b) ⊎ (a ≢ b)
apart zero zero = inl refl
apart zero (suc b) = inr (λ e. absurd (omega arith))
apart (suc a) zero = inr (λ e. absurd (omega arith))
apart (suc a) (suc b) =
    elim (apart a b) [
      | inl e ↦ inl (ap suc e)
      | inr n ↦ inr (λ e. n (omega arith))
    ]

pub there : {A : Type 0} (xs : List (Option A)) (i : ℕ) (v : A) → get_or xs i None ≡ Some v → i < length xs
there [] i v h = cc
there (x ∷ xs) zero v h = omega arith
there (x ∷ xs) (suc i) v h = (let lt : i < length xs = there xs i v h in omega arith)

module _ (tall : ℕ → Bool) (next span : ℕ → ℕ) where
  -- the links of the lowest level go through the keys
  pub chain_is : (o d : ℕ) (ks : List ℕ) → AllTall tall ks → IsRow tall next span o d ks → chain next (length ks) (next o) ≡ ks
  chain_is o d [] all r = refl
  chain_is o d (k ∷ ks) all (inl r) = ap (λ n. chain next (suc (length ks)) n) r.1 ∙ ap (λ xs. k ∷ xs) (chain_is (suc k) 0 ks all.1 r.3)
  chain_is o d (k ∷ ks) all (inr r) = never (tall k) all.0 r.0

  -- the row behind an owner that stands in front of a rank
  pub row_at : (ks : List ℕ) (rank o : ℕ) (rest : List ℕ) → Stands tall (take rank ks) o rest → IsRow tall next span 0 0 ks → IsRow tall next span o 0 (rest ++ drop rank ks)
  row_at ks rank o rest s r = stands_row tall next span (take rank ks) (drop rank ks) o rest s (subst (IsRow tall next span 0 0) (sym (take-append-drop rank ks)) r)

  stands_on : (front : List ℕ) (o n : ℕ) (rest before : List ℕ) (k : ℕ) (behind : List ℕ) → Stands tall front o rest → rest ≡ before ++ k ∷ behind → tall k ≡ true → n ≡ suc k
      → Stands tall front n behind
  stands_on front o n rest before k behind (at_head is_o is_rest) is t is_n = at_tower before k t is_n (sym is_rest ∙ is)
  stands_on front o n rest before k behind (at_tower b j u is_o is_front) is t is_n =
      at_tower (b ++ j ∷ before) k t is_n (is_front ∙ ap (λ xs. b ++ j ∷ xs) is ∙ sym (append_assoc b (j ∷ before) (k ∷ behind)))

  -- the next owner stands there too, where its place is not behind the rank
  pub on : (ks : List ℕ) (rank o after : ℕ) (rest : List ℕ) → Stands tall (take rank ks) o rest → after + length rest ≡ rank → IsRow tall next span 0 0 ks → span o + after ≤ rank
      → (behind : List ℕ) × Stands tall (take rank ks) (next o) behind × (after + span o + length behind ≡ rank)
  on ks rank o after rest s is r le =
      let a = ahead tall next span rest (drop rank ks) o 0 (row_at ks rank o rest s r) (omega arith) in
      (a.behind, stands_on (take rank ks) o (next o) rest a.before a.k a.behind s a.is a.reaches a.next_is, omega (arith, a.span_is))

  -- it is the last one, where the next one's place is behind the rank
  pub arrived : (ks : List ℕ) (rank o after : ℕ) (rest : List ℕ) → Stands tall (take rank ks) o rest → after + length rest ≡ rank → IsRow tall next span 0 0 ks → rank < span o + after
      → (left : ℕ) × Reaches tall (take rank ks) 0 0 o left × (after + left ≡ rank)
  arrived ks rank o after rest s is r lt = (
    length rest,
    stands_reach tall (take rank ks) o rest o (length rest) s
        (subst (λ n. Reaches tall rest o 0 o n) (omega arith) (stays tall next span rest (drop rank ks) o 0 (row_at ks rank o rest s r) (omega arith))),
    is,
  )

  pub some_span : (ks : List ℕ) (rank o after : ℕ) (rest : List ℕ) → Stands tall (take rank ks) o rest → IsRow tall next span 0 0 ks → 0 < span o
  some_span ks rank o after rest s r = beyond tall next span o 0 (rest ++ drop rank ks) (row_at ks rank o rest s r)
