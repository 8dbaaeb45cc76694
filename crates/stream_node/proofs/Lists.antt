-- Parts of lists.
use Rattle.std.proofs.Common.{◌≡◌, ℕ, List, [], ◌∷◌, ◌++◌, length, take, drop, refl, sym, ap, ◌∙◌}
use Rattle.std.proofs.lemmas.List.{take_at, drop_at}

abbrev pub Texts : Type 0
Texts = List (List ℕ)

abbrev pub first : Texts → List ℕ
first [] = []
first (x ∷ more) = x

abbrev pub behind : Texts → Texts
behind [] = []
behind (x ∷ more) = more

-- two lists with fronts of one length
pub same_fronts : (a b x y : Texts) → length a ≡ length b → a ++ x ≡ b ++ y → (a ≡ b) × (x ≡ y)
same_fronts a b x y n e = (
  sym (take_at a x (length b) n) ∙ ap (take (length b)) e ∙ take_at b y (length b) refl,
  sym (drop_at a x (length b) n) ∙ ap (drop (length b)) e ∙ drop_at b y (length b) refl,
)
