-- What reading a head finds.
use Rattle.std.proofs.Common.{◌≡◌, ℕ, ◌<◌, ◌≤◌, ◌^◌, List, ◌∷◌, ◌++◌, length, take, drop, sym, ap, ◌∙◌, arith}
use Rattle.std.specs.Prelude.{ℤ, FitsSigned}
use Rattle.std.specs.Int.{w64}
use Rattle.std.proofs.lemmas.List.{drop_at, take-append-drop, length-take-le, length-append}
use Rattle.int_text.specs.Decimal.{canonical}
use Rattle.stream_node.specs.Entry.{number}
use Rattle.stream_node.specs.Node.{IsHead, LacksHead}
use Rattle.stream_node.proofs.Lists.{Texts, first, behind}
use Rattle.stream_node.proofs.Same.{same_number}

-- the list begins with no count, no number, not this number
abbrev pub NoCount : Texts → Type 0
NoCount list = (n : ℕ) (more : Texts) → n < 2 ^ 63 → list ≡ number n ∷ more → ⊥

abbrev pub NoNumber : Texts → Type 0
NoNumber list = (z : ℤ) (more : Texts) → FitsSigned w64 z → list ≡ canonical z ∷ more → ⊥

abbrev pub NotThis : ℕ → Texts → Type 0
NotThis n list = (more : Texts) → list ≡ number n ∷ more → ⊥

-- the three counts and what stands behind them
pub record Counts (list : Texts) (live : ℕ) (deleted : ℕ) (count : ℕ) (fields : Texts) : Type 0 where
  pub live_fits : live < 2 ^ 63
  pub deleted_fits : deleted < 2 ^ 63
  pub count_fits : count < 2 ^ 63
  pub elements : list ≡ number live ∷ number deleted ∷ number count ∷ fields

pub counts : (list a b fields : Texts) (live deleted count : ℕ) → live < 2 ^ 63 → deleted < 2 ^ 63 → count < 2 ^ 63
    → list ≡ number live ∷ a → a ≡ number deleted ∷ b → b ≡ number count ∷ fields → Counts list live deleted count fields
counts list a b fields live deleted count l d n e f g = record {
  live_fits = l;
  deleted_fits = d;
  count_fits = n;
  elements = e ∙ ap (λ (x : Texts). number live ∷ x) f ∙ ap (λ (x : Texts). number live ∷ number deleted ∷ x) g;
}

pub lacks_live : (list : Texts) → NoCount list → LacksHead list
lacks_live list none live deleted master rest h = none live (number deleted ∷ number (length master) ∷ (master ++ number 0 ∷ rest)) h.live_fits h.elements

pub lacks_deleted : (list a : Texts) (x : List ℕ) → list ≡ x ∷ a → NoCount a → LacksHead list
lacks_deleted list a x e none live deleted master rest h =
    none deleted (number (length master) ∷ (master ++ number 0 ∷ rest)) h.deleted_fits (ap behind (sym e ∙ h.elements))

pub lacks_count : (list a b : Texts) (x y : List ℕ) → list ≡ x ∷ a → a ≡ y ∷ b → NoCount b → LacksHead list
lacks_count list a b x y e f none live deleted master rest h =
    none (length master) (master ++ number 0 ∷ rest) h.fields_fit (ap behind (sym f ∙ ap behind (sym e ∙ h.elements)))

-- what stands behind the counts, where there is a head
same_count : (list fields : Texts) (l d n live deleted : ℕ) (master rest : Texts) → Counts list l d n fields → IsHead list live deleted master rest → (n ≡ length master)
    × (fields ≡ master ++ number 0 ∷ rest)
same_count list fields l d n live deleted master rest c h =
    let e : number n ∷ fields ≡ number (length master) ∷ (master ++ number 0 ∷ rest) = ap (λ (x : Texts). behind (behind x)) (sym c.elements ∙ h.elements) in
    (same_number n (length master) c.count_fits h.fields_fit (ap first e), ap behind e)

pub lacks_fields : (list fields : Texts) (l d n : ℕ) → Counts list l d n fields → n ≡ 0 → LacksHead list
lacks_fields list fields l d n c is_zero live deleted master rest h =
    let s = same_count list fields l d n live deleted master rest c h in
    omega (arith, s.0, is_zero, h.some)

pub lacks_some_field : (list fields : Texts) (l d n : ℕ) → Counts list l d n fields → length fields < n → LacksHead list
lacks_some_field list fields l d n c few live deleted master rest h =
    let s = same_count list fields l d n live deleted master rest c h in
    omega (arith, s.0, few, ap length s.1, length-append master (number 0 ∷ rest))

pub lacks_zero : (list fields end : Texts) (l d n : ℕ) → Counts list l d n fields → end ≡ drop n fields → NotThis 0 end → LacksHead list
lacks_zero list fields end l d n c e none live deleted master rest h =
    let s = same_count list fields l d n live deleted master rest c h in
    none rest (e ∙ ap (drop n) s.1 ∙ drop_at master (number 0 ∷ rest) n (sym s.0))

pub is_head : (list fields end rest : Texts) (live deleted n : ℕ) → Counts list live deleted n fields → 0 < n → n ≤ length fields → end ≡ drop n fields → end ≡ number 0 ∷ rest
    → IsHead list live deleted (take n fields) rest
is_head list fields end rest live deleted n c some enough e f =
    let long = length-take-le n fields enough in
    record {
      live_fits = c.live_fits;
      deleted_fits = c.deleted_fits;
      some = omega (arith, long, some);
      fields_fit = omega (arith, long, c.count_fits);
      elements =
          c.elements
          ∙ ap (λ (x : Texts). number live ∷ number deleted ∷ number n ∷ x) (sym (take-append-drop n fields) ∙ ap (λ (x : Texts). take n fields ++ x) (sym e ∙ f))
          ∙ ap (λ (k : ℕ). number live ∷ number deleted ∷ number k ∷ (take n fields ++ number 0 ∷ rest)) (sym long);
    }
