-- Watched keys that are gone over.
use Rattle.std.proofs.Common.{◌≡◌, inl, inr, ℕ, ◌+◌, ◌<◌, Bool, true, false, List, [], ◌∷◌, ◌++◌, map, take, length, get_or, set, Option, refl, sym, ap, ◌∙◌, subst, arith}
use Rattle.std.specs.Prelude.{◌≢◌, ◌⊎◌}
use Rattle.std.specs.List.{Contains}
use Rattle.std.proofs.lemmas.Bool.{cases_eq}
use Rattle.std.proofs.lemmas.List.{length-set, get_or-set_same, get_or-set_other, take_more, map_push}
use Rattle.std.proofs.lemmas.List.Elements.{Contains-push_cases}
use Rattle.plain_world.specs.Worlds.{Entry}
use Rattle.session_desk.specs.Kept.{Look, no_look}
use Rattle.session_desk.specs.Watching.{IsChange, IsLooked}
use Rattle.session_desk.specs.Passing.{Passed, left, seen, EachPassed}

-- one of some more elements is one of those before, or the next
pub contains_more : {A : Type 0} (xs : List A) (i : ℕ) (x y : A) → i < length xs → x ≡ get_or xs i x → Contains (take (i + 1) xs) y → Contains (take i xs) y ⊎ (x ≡ y)
contains_more xs i x y inside is c =
    Contains-push_cases (take i xs) x y (subst (λ l. Contains l y) (take_more xs i x inside ∙ ap (λ z. take i xs ++ z ∷ []) (sym is)) c)

-- the same of what they are mapped to
pub mapped_cases : {A B : Type 0} (f : A → B) (xs : List A) (i : ℕ) (x : A) (y : B) → i < length xs → x ≡ get_or xs i x → Contains (map f (take (i + 1) xs)) y
    → Contains (map f (take i xs)) y ⊎ (f x ≡ y)
mapped_cases f xs i x y inside is c =
    Contains-push_cases (map f (take i xs)) (f x) y (subst (λ l. Contains l y)
    (ap (map f) (take_more xs i x inside ∙ ap (λ z. take i xs ++ z ∷ []) (sym is)) ∙ map_push f (take i xs) x) c)

module _ (sees : ℕ → List ℕ → Option Entry) where
  -- a look after a look is one
  looked_twice : (a b c : Look) → IsLooked sees a b → IsLooked sees b c → IsLooked sees a c
  looked_twice a b c one two = record { is = again.is; told = told b.changed c.changed one.told again.told }
    where
      again : IsLooked sees (record { db = a.db; key = a.key; first = a.first; changed = b.changed }) c
      again = subst (λ (x : Look). IsLooked sees x c) one.is two

      told : (m n : Bool) → IsChange sees a m → IsChange sees (record { db = a.db; key = a.key; first = a.first; changed = m }) n → IsChange sees a n
      told true true was now = was
      told false true was (inl is_so) = absurd cc
      told false true was (inr differs) = inr differs
      told true false was now = absurd (let no : true ≡ false = now.0 in cc)
      told false false was now = was

  pub passed_weaker : (N M : Type 0) (a b : Look) → (M → N) → Passed N sees a b → Passed M sees a b
  passed_weaker N M a b f (left off is) = left (λ m. off (f m)) is
  passed_weaker N M a b f (seen l) = seen l

  passed_twice : (N M : Type 0) (a b c : Look) → Passed N sees a b → Passed M sees b c → Passed (N ⊎ M) sees a c
  passed_twice N M a b c (left off is) (left nor again) = left (λ e. elim e [
    | inl n ↦ off n
    | inr m ↦ nor m
  ]) (again ∙ is)
  passed_twice N M a b c (left off is) (seen l) = seen (subst (λ (x : Look). IsLooked sees x c) is l)
  passed_twice N M a b c (seen l) (left nor again) = seen (subst (λ (x : Look). IsLooked sees a x) (sym again) l)
  passed_twice N M a b c (seen l) (seen m) = seen (looked_twice a b c l m)

  -- what is gone over stays the same key of the same database
  record SamePlace (a b : Look) : Type 0 where
    db : b.db ≡ a.db
    key : b.key ≡ a.key

  same_place : (N : Type 0) (a b : Look) → Passed N sees a b → SamePlace a b
  same_place N a b (left off is) = record { db = ap (λ (x : Look). x.db) is; key = ap (λ (x : Look). x.key) is }
  same_place N a b (seen l) = record { db = ap (λ (x : Look). x.db) l.is; key = ap (λ (x : Look). x.key) l.is }

  -- none needs a look
  pub each_left : (N : ℕ → Look → Type 0) (olds : List Look) → ((k : ℕ) → k < length olds → N k (get_or olds k no_look) → ⊥) → EachPassed N sees olds olds
  each_left N olds none = record { many = refl; each = λ k below. left (none k below) refl }

  pub each_weaker : (N M : ℕ → Look → Type 0) (olds news : List Look) → ((k : ℕ) → k < length olds → M k (get_or olds k no_look) → N k (get_or olds k no_look))
      → EachPassed N sees olds news → EachPassed M sees olds news
  each_weaker N M olds news f e = record { many = e.many; each = λ k below. passed_weaker (N k (get_or olds k no_look)) (M k (get_or olds k no_look)) _ _ (f k below) (e.each k below) }

  -- they are gone over once more; whether one needs that depends on its place, database and key
  pub each_twice : (N M : ℕ → Look → Type 0) (xs ys zs : List Look) → ((k : ℕ) (x y : Look) → y.db ≡ x.db → y.key ≡ x.key → M k x → M k y) → EachPassed N sees xs ys → EachPassed M sees ys zs
      → EachPassed (λ k one. N k one ⊎ M k one) sees xs zs
  each_twice N M xs ys zs stable one two = record { many = two.many ∙ one.many; each = each }
    where
      each : (k : ℕ) → k < length xs → Passed (N k (get_or xs k no_look) ⊎ M k (get_or xs k no_look)) sees (get_or xs k no_look) (get_or zs k no_look)
      each k below =
          let a = get_or xs k no_look in
          let b = get_or ys k no_look in
          let first = one.each k below in
          let place = same_place (N k a) a b first in
          let many = one.many in
          passed_twice (N k a) (M k a) a b (get_or zs k no_look) first
          (passed_weaker (M k b) (M k a) b (get_or zs k no_look) (stable k a b place.db place.key) (two.each k (omega (arith, below, many))))

  -- one of them is
  pub each_one : (N : ℕ → Look → Type 0) (olds : List Look) (p : ℕ) (y : Look) → p < length olds → Passed (N p (get_or olds p no_look)) sees (get_or olds p no_look) y
      → ((k : ℕ) → k ≢ p → N k (get_or olds k no_look) → ⊥) → EachPassed N sees olds (set olds p y)
  each_one N olds p y here passed none = record { many = length-set olds p y; each = each }
    where
      each : (k : ℕ) → k < length olds → Passed (N k (get_or olds k no_look)) sees (get_or olds k no_look) (get_or (set olds p y) k no_look)
      each k below = elim (cases_eq k p) [
        | inl same ↦ subst (λ j. Passed (N j (get_or olds j no_look)) sees (get_or olds j no_look) (get_or (set olds p y) j no_look)) (sym same)
            (subst (λ (z : Look). Passed (N p (get_or olds p no_look)) sees (get_or olds p no_look) z) (sym (get_or-set_same olds p y no_look here)) passed)
        | inr other ↦ left (none k other) (get_or-set_other olds p k y no_look other)
      ]
