-- Item numbers picked so far, in a list and in a tree.
use Rattle.std.specs.Prelude.{◌≡◌, ℕ, ◌≤◌, ◌↔◌, true, false, List, [], ◌∷◌, ◌++◌, length, if◌then◌else◌}
use Rattle.std.specs.List.{Contains}
use Rattle.std.specs.Ordering.{nat_cmp}
use Rattle.std.specs.BTreeMap.{is_at}
use Rattle.std.specs.BTreeSet.{BTreeSet, contains}
use Rattle.blocks.specs.Blocks.{Blocks}
use Rattle.picking.specs.Picks.{AreApart, IsThere}

-- one more number, unless it stood there, in the list and in the tree
pub record Adds (old : List ℕ) (before : BTreeSet ℕ) (item : ℕ) (new : List ℕ) (after : BTreeSet ℕ) : Type 0 where
  pub known : contains nat_cmp before item ≡ true → new ≡ old
  pub fresh : contains nat_cmp before item ≡ false → new ≡ old ++ item ∷ []
  pub others : (q : ℕ) → contains nat_cmp after q ≡ (if is_at (nat_cmp item) q then true else contains nat_cmp before q)

-- The tree has the numbers of the list, none stands twice in it, and each is the item number of an element.
pub record AreSoFar (sound : Blocks → Type 0) (has : Blocks → ℕ → Type 0) (n : ℕ) (picked : List ℕ) (seen : BTreeSet ℕ)
    : Type 0 where
  pub apart : AreApart picked
  pub real : (at : ℕ) → Contains picked at → IsThere sound has at
  pub few : length picked ≤ n
  pub same : (q : ℕ) → (contains nat_cmp seen q ≡ true) ↔ Contains picked q
