use Rattle.std.proofs.Common.{rules, ◌≡◌, ◌↔◌, List, ℕ, Some, IsTrue, nat_eq, w64, sym, ap, ◌∙◌}
use Rattle.std.specs.Prelude.{ℤ, Option, FitsSigned}
use Rattle.std.proofs.lemmas.Bool.Decides.{Decides-eqb}
use Rattle.std.proofs.lemmas.Int.{to_z-of_z}
use mir.Val.{of_z, to_z}
use Rattle.int_text.specs.Decimal.{canonical, number_of}
use Rattle.int_text.proofs.NumberOf.{number_back}
use Rattle.listpack.proofs.sought.Sought.is_text_of.Goals as goal

one_number : (o : Option ℤ) (m n : ℤ) → o ≡ Some m → o ≡ Some n → m ≡ n
one_number o m n e f = cc

-- a text that is printed from a number is that of another one exactly where both are the same
same_number : (text : List ℕ) (m n : ℤ) → FitsSigned w64 m → FitsSigned w64 n → text ≡ canonical m → (IsTrue (nat_eq (of_z w64 m) (of_z w64 n)) ↔ (canonical n ≡ text))
same_number text m n a b is =
    let whole : of_z w64 m ≡ of_z w64 n → m ≡ n = λ e. sym (to_z-of_z w64 m a) ∙ ap (to_z w64) e ∙ to_z-of_z w64 n b in (
      (λ t. ap canonical (sym (whole ((Decides-eqb (of_z w64 m) (of_z w64 n)).0 t))) ∙ sym is),
      (λ e. (Decides-eqb (of_z w64 m) (of_z w64 n)).1 (ap (of_z w64) (one_number (number_of text) m n (ap number_of is ∙ number_back m a) (ap number_of (sym e) ∙ number_back n b)))),
    )

pub returns-in-Some : goal.returns-in-Some
returns-in-Some c =
    let self = c.args.self.now in
    let number : FitsSigned w64 c.in-Some.number = search rules in
    let other : FitsSigned w64 c.in-Number.n = search rules in
    let read = self.read c.in-Some.number c.in-Some.is in
    rw c.in-Number.is (same_number self.text.now c.in-Some.number c.in-Number.n number other read)
