-- Choices by a test.
use Rattle.std.proofs.Common.{◌≡◌, ◌==◌, ℕ, Bool, true, false, refl, eq-eqb}
use Rattle.std.specs.Prelude.{if◌then◌else◌}
use Rattle.std.proofs.lemmas.Bool.{ne_eqb, eqb-true, eqb-false}

pub chosen : {A : Type 0} (t : Bool) (x y : A) → t ≡ true → (if t then x else y) ≡ x
chosen true x y e = refl
chosen false x y e = cc

pub other : {A : Type 0} (t : Bool) (x y : A) → t ≡ false → (if t then x else y) ≡ y
other true x y e = cc
other false x y e = refl

-- the byte is this one, or it isn't
pub on_equal : {A : Type 0} (b c : ℕ) (x y : A) → b ≡ c → (if b == c then x else y) ≡ x
on_equal b c x y e = chosen (b == c) x y (eq-eqb b c e)

pub on_other : {A : Type 0} (b c : ℕ) (x y : A) → (b ≡ c → ⊥) → (if b == c then x else y) ≡ y
on_other b c x y e = other (b == c) x y (ne_eqb b c e)

-- a fact of both choices
pub by_equal : {A : Type 0} (P : A → Type 0) (b c : ℕ) (x y : A) → (b ≡ c → P x) → ((b ≡ c → ⊥) → P y) → P (if b == c then x else y)
by_equal P b c x y p q =
    elim (b == c) as (λ t. b == c ≡ t → P (if t then x else y)) [
      | true ↦ λ e. p (eqb-true b c e)
      | false ↦ λ e. q (eqb-false b c e)
    ] refl

-- the cases of a test, with what it says
pub by_test : {A : Type 0} (P : A → Type 0) (t : Bool) (x y : A) → (t ≡ true → P x) → (t ≡ false → P y) → P (if t then x else y)
by_test P t x y p q = elim t as (λ u. t ≡ u → P (if u then x else y)) [ true ↦ λ e. p e | false ↦ λ e. q e ] refl
