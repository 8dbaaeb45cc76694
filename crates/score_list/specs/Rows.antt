-- One level of the towers: from which owner the links go where, and how many elements each passes. An owner is 0 for
-- the head, or a tower's key plus one. A link is 0 where it ends the row.
use Rattle.std.specs.Prelude.{◌≡◌, ◌≢◌, ℕ, suc, ◌+◌, ℤ, Bool, true, false, List, [], ◌∷◌, ◌++◌, ◌⊎◌}

-- an owner is none of these towers
abbrev pub Lacks : ℕ → List ℕ → Type 0
Lacks owner [] = Unit {0}
Lacks owner (k ∷ ks) = (owner ≢ suc k) × Lacks owner ks

-- no key stands twice
abbrev pub IsDistinct : List ℕ → Type 0
IsDistinct [] = Unit {0}
IsDistinct (k ∷ ks) = Lacks (suc k) ks × IsDistinct ks

-- each tower reaches the level
abbrev pub AllTall : (ℕ → Bool) → List ℕ → Type 0
AllTall tall [] = Unit {0}
AllTall tall (k ∷ ks) = (tall k ≡ true) × AllTall tall ks

module _ (tall : ℕ → Bool) where
  -- Behind an owner that stands so many elements back, the links go from each tower of the level to the next one, and
  -- each span is the number of places to it. The last link's span goes to the end.
  abbrev pub IsRow : (ℕ → ℕ) → (ℕ → ℕ) → ℕ → ℕ → List ℕ → Type 0
  IsRow next span owner passed [] = (next owner ≡ 0) × (span owner ≡ suc passed)
  IsRow next span owner passed (k ∷ ks) =
      ((tall k ≡ true) × (next owner ≡ suc k) × (span owner ≡ suc passed) × IsRow next span (suc k) 0 ks)
      ⊎ ((tall k ≡ false) × IsRow next span owner (suc passed) ks)

  -- Behind an owner, the link to each tower of the level holds the tower's own score.
  abbrev pub Holds : (ℕ → ℤ) → (ℕ → ℤ) → ℕ → List ℕ → Type 0
  Holds held own owner [] = Unit {0}
  Holds held own owner (k ∷ ks) =
      ((tall k ≡ true) × (held owner ≡ own k) × Holds held own (suc k) ks) ⊎ ((tall k ≡ false) × Holds held own owner ks)

  -- over these elements, from an owner so many elements back, the last owner of the level is this one, so many elements
  -- back
  abbrev pub Reaches : List ℕ → ℕ → ℕ → ℕ → ℕ → Type 0
  Reaches [] owner passed last left = (last ≡ owner) × (left ≡ passed)
  Reaches (k ∷ ks) owner passed last left =
      ((tall k ≡ true) × Reaches ks (suc k) 0 last left) ⊎ ((tall k ≡ false) × Reaches ks owner (suc passed) last left)

  -- an owner of the level stands in the list, and behind it stand the rest
  pub data Stands (front : List ℕ) (owner : ℕ) (rest : List ℕ) : Type 0 where
    at_head : owner ≡ 0 → rest ≡ front → Stands front owner rest
    at_tower : (before : List ℕ) (k : ℕ) → tall k ≡ true → owner ≡ suc k → front ≡ before ++ k ∷ rest
        → Stands front owner rest

-- a tower joins the row so many elements behind an owner
pub record Hung (tall : ℕ → Bool) (x owner left : ℕ) (next span next' span' : ℕ → ℕ) : Type 0 where
  pub others : (p : ℕ) → p ≢ owner → p ≢ suc x → (next' p ≡ next p) × (span' p ≡ span p)
  pub joins : tall x ≡ true
      → (next' owner ≡ suc x) × (span' owner ≡ suc left) × (next' (suc x) ≡ next owner)
      × (span' (suc x) + left ≡ span owner)
  pub low : tall x ≡ false → (next' owner ≡ next owner) × (span' owner ≡ suc (span owner))

-- a tower leaves the row so many elements behind an owner
pub record Unhung (tall : ℕ → Bool) (x owner left : ℕ) (next span next' span' : ℕ → ℕ) : Type 0 where
  pub others : (p : ℕ) → p ≢ owner → (next' p ≡ next p) × (span' p ≡ span p)
  pub leaves : tall x ≡ true → (next' owner ≡ next (suc x)) × (span' owner ≡ span (suc x) + left)
  pub low : tall x ≡ false → (next' owner ≡ next owner) × (suc (span' owner) ≡ span owner)

-- the scores in the links of a row that a tower with a score joins behind an owner
pub record HungScore (tall : ℕ → Bool) (x owner : ℕ) (score : ℤ) (held held' : ℕ → ℤ) : Type 0 where
  pub others : (p : ℕ) → p ≢ owner → p ≢ suc x → held' p ≡ held p
  pub joins : tall x ≡ true → (held' owner ≡ score) × (held' (suc x) ≡ held owner)
  pub low : tall x ≡ false → held' owner ≡ held owner

-- and of one that a tower leaves behind an owner
pub record UnhungScore (tall : ℕ → Bool) (x owner : ℕ) (held held' : ℕ → ℤ) : Type 0 where
  pub others : (p : ℕ) → p ≢ owner → held' p ≡ held p
  pub leaves : tall x ≡ true → held' owner ≡ held (suc x)
  pub low : tall x ≡ false → held' owner ≡ held owner
