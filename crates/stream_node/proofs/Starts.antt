-- What reading the start of an entry finds.
use Rattle.std.proofs.Common.{◌≡◌, Bool, true, false, ℕ, ◌<◌, ◌≤◌, ◌^◌, List, ◌∷◌, sym, ap, ◌∙◌, arith}
use Rattle.std.specs.Prelude.{ℤ, FitsSigned}
use Rattle.std.specs.Int.{w64}
use Rattle.int_text.specs.Decimal.{canonical}
use Rattle.stream_node.specs.declared.id.Id.{Id}
use Rattle.stream_node.specs.Entry.{number, flags, moved, IsStart}
use Rattle.stream_node.specs.Reading.{LacksStart}
use Rattle.stream_node.proofs.Lists.{Texts, first, behind}
use Rattle.stream_node.proofs.Same.{same_number, few_flags}
use Rattle.stream_node.proofs.Heads.{NoCount, NoNumber}

pub lacks_flags : (key : Id) (list : Texts) → NoCount list → LacksStart key list
lacks_flags key list none deleted same id rest s = none (flags deleted same) (canonical s.ms ∷ canonical s.seq ∷ rest) (few_flags deleted same) s.elements

pub lacks_ms : (key : Id) (list a : Texts) (x : List ℕ) → list ≡ x ∷ a → NoNumber a → LacksStart key list
lacks_ms key list a x e none deleted same id rest s = none s.ms (canonical s.seq ∷ rest) s.ms_fits (ap behind (sym e ∙ s.elements))

pub lacks_seq : (key : Id) (list a b : Texts) (x y : List ℕ) → list ≡ x ∷ a → a ≡ y ∷ b → NoNumber b → LacksStart key list
lacks_seq key list a b x y e f none deleted same id rest s = none s.seq rest s.seq_fits (ap behind (sym f ∙ ap behind (sym e ∙ s.elements)))

at_most_three : (a b : Bool) → flags a b ≤ 3
at_most_three true true = omega arith
at_most_three true false = omega arith
at_most_three false true = omega arith
at_most_three false false = omega arith

pub other_flags : (key : Id) (list a : Texts) (n : ℕ) → n < 2 ^ 63 → list ≡ number n ∷ a → 3 < n → LacksStart key list
other_flags key list a n fits e large deleted same id rest s =
    let f = same_number n (flags deleted same) fits (few_flags deleted same) (ap first (sym e ∙ s.elements)) in
    omega (arith, f, large, at_most_three deleted same)

pub is_start : (key : Id) (list a b rest : Texts) (n : ℕ) (ms seq : ℤ) (deleted same : Bool) (id : Id)
    → list ≡ number n ∷ a → a ≡ canonical ms ∷ b → b ≡ canonical seq ∷ rest → FitsSigned w64 ms → FitsSigned w64 seq → flags deleted same ≡ n
    → id.ms ≡ moved key.ms ms → id.seq ≡ moved key.seq seq → IsStart key list deleted same id rest
is_start key list a b rest n ms seq deleted same id e f g ms_fits seq_fits is ms_is seq_is = record {
  ms = ms;
  seq = seq;
  ms_fits = ms_fits;
  seq_fits = seq_fits;
  elements =
      e
      ∙ ap (λ (k : ℕ). number k ∷ a) (sym is)
      ∙ ap (λ (x : Texts). number (flags deleted same) ∷ x) f
      ∙ ap (λ (x : Texts). number (flags deleted same) ∷ canonical ms ∷ x) g;
  ms_is = ms_is;
  seq_is = seq_is;
}
