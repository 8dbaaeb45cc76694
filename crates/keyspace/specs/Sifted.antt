-- Items of which some pass.
use Rattle.std.specs.Prelude.{◌≡◌, ◌⊎◌, ◌++◌, ℕ, List, [], ◌∷◌, Option, Some}
use Rattle.std.specs.List.{flat_map}
use Rattle.plain_model.specs.Scans.{IsLike}

-- the names of those item numbers of which one passes, in their order
pub data Sifted (P : ℕ → List ℕ → Type 0) : List ℕ → List (List ℕ) → Type 0 where
  end : Sifted P [] []
  keeps : (item : ℕ) (key : List ℕ) (items : List ℕ) (names : List (List ℕ)) → P item key → Sifted P items names
      → Sifted P (item ∷ items) (key ∷ names)
  drops : (item : ℕ) (items : List ℕ) (names : List (List ℕ)) → ((key : List ℕ) → P item key → ⊥) → Sifted P items names
      → Sifted P (item ∷ items) names

-- what is told of the name of the item number is behind the words where one passes, or they stay
abbrev pub AddsWords : (ℕ → List ℕ → Type 0) → (List ℕ → List (List ℕ)) → ℕ → List (List ℕ) → List (List ℕ) → Type 0
AddsWords P words_of item old new =
    ((key : List ℕ) × P item key × (new ≡ old ++ words_of key)) ⊎ (((key : List ℕ) → P item key → ⊥) × (new ≡ old))

-- the name of the item number is behind the names where one passes, or they stay
abbrev pub Adds : (ℕ → List ℕ → Type 0) → ℕ → List (List ℕ) → List (List ℕ) → Type 0
Adds P item old new = AddsWords P (λ key. key ∷ []) item old new

-- the words tell of the names of those item numbers of which one passes, in their order
pub record SiftsWords (P : ℕ → List ℕ → Type 0) (words_of : List ℕ → List (List ℕ)) (items : List ℕ) (words : List (List ℕ))
    : Type 0 where
  pub names : List (List ℕ)
  pub sifted : Sifted P items names
  pub are : words ≡ flat_map words_of names

-- an element has the item number, and MATCH lets it pass
pub record PassesOf (element_of : ℕ → Option (List ℕ)) (pattern : Option (List ℕ)) (item : ℕ) (element : List ℕ)
    : Type 0 where
  pub stands : element_of item ≡ Some element
  pub like : IsLike pattern element
