-- The header and the checksum field are exact, and so is an item behind others.
use Rattle.std.proofs.Common.{◌≡◌, ◌⊎◌, inl, inr, ℕ, ◌+◌, Bool, true, false, cond, List, [], ◌∷◌, ◌++◌, length, take, Result, Ok, Err, refl, sym, ap, ◌∙◌, arith}
use Rattle.std.proofs.lemmas.List.{length-append, take_at, take_all}
use Rattle.std.proofs.Math.Seq.{take-nil}
use Rattle.std.specs.Int.{w64}
use Rattle.std.specs.Cmp.Lexicographic.{pointwise, same_text}
use Rattle.std.specs.Prelude.{nat_eq}
use Rattle.rdb_grammar.specs.declared.fault.LoadKind.TheVariants as kinds
use Rattle.rdb_grammar.specs.Format.{Fault, some_bytes}
use Rattle.rdb_grammar.specs.Files.{magic_text, is_begun, magic, header, State, next_in, sum_field}
use Rattle.rdb_grammar.proofs.Exactly.{Exact, make_fault, some_bytes_exact, followed_exact, checked_exact}
use Rattle.rdb_grammar.proofs.PartsExact.{number_le_exact, item_exact}

abbrev Read : Type 0
Read = Result (List ℕ × List ℕ) Fault

-- a test that goes on, or is a fault
goes_ok : (b : Bool) (one : Read) (d : Fault) (x : List ℕ × List ℕ) → cond b one (Err d) ≡ Ok x → (b ≡ true) × (one ≡ Ok x)
goes_ok true one d x e = (refl, e)
goes_ok false one d x e = absurd cc

goes_err : (b : Bool) (one : Read) (d c : Fault) → cond b one (Err d) ≡ Err c → ((b ≡ true) × (one ≡ Err c)) ⊎ ((b ≡ false) × (d ≡ c))
goes_err true one d c e = inl (refl, e)
goes_err false one d c e = inr (refl, cc)

begun : (rest : List ℕ) → is_begun (82 ∷ 69 ∷ 68 ∷ 73 ∷ 83 ∷ rest) ≡ true
begun rest = ap (λ (z : List ℕ). pointwise nat_eq [] z) (take-nil (length rest))

-- five bytes that are begun are the text
is_text : (bytes word rest : List ℕ) → bytes ≡ word ++ rest → length word ≡ 5 → is_begun bytes ≡ true → word ≡ magic_text
is_text bytes word rest e len h =
    let total : length bytes ≡ 5 + length rest = ap length e ∙ length-append word rest ∙ omega (arith, len) in
    let front : take 5 bytes ≡ word = ap (take 5) e ∙ take_at word rest 5 len in
    let whole : take (length bytes) magic_text ≡ magic_text = take_all (length bytes) magic_text (omega (arith, total)) in
    same_text word magic_text (sym (ap (λ (z : List ℕ). pointwise nat_eq z magic_text) (sym front) ∙ ap (λ (z : List ℕ). pointwise nat_eq (take 5 bytes) z) (sym whole) ∙ h))

pub magic_exact : Exact magic
magic_exact = record {
  takes = λ bytes x rest e.
      let g = goes_ok (is_begun bytes) ((some_bytes 5).read bytes) (kinds.NotRdb, length bytes) (x, rest) e in
      let t = (some_bytes_exact 5).takes bytes x rest g.1 in
      let text : t.0 ≡ magic_text = is_text bytes (t.0) rest t.1 (ap length t.2.0 ∙ t.2.1) g.0 in
      (t.0, t.1, (sym t.2.0 ∙ text, text));
  again = λ x word rest h.
      let five : length word ≡ 5 = ap length h.1 in
      let test : is_begun (word ++ rest) ≡ true = ap (λ (z : List ℕ). is_begun (z ++ rest)) h.1 ∙ begun rest in
      rw test ((some_bytes_exact 5).again x word rest (h.1 ∙ sym h.0, ap length h.0));
  fails = λ bytes kind left e.
      elim (goes_err (is_begun bytes) ((some_bytes 5).read bytes) (kinds.NotRdb, length bytes) (kind, left) e) [
        | inl a ↦ inl (a.0, (some_bytes_exact 5).fails bytes kind left a.1)
        | inr a ↦ inr (a.0, ap (λ (q : Fault). q.0) (sym a.1), ap (λ (q : Fault). q.1) (sym a.1))
      ];
  first = λ bytes kind left h.
      elim h [
        | inl a ↦ rw a.0 ((some_bytes_exact 5).first bytes kind left a.1)
        | inr a ↦ rw a.0 (make_fault {A = List ℕ × List ℕ} kind kinds.NotRdb left (length bytes) a.1 a.2)
      ];
  within = λ bytes kind left e.
      elim (goes_err (is_begun bytes) ((some_bytes 5).read bytes) (kinds.NotRdb, length bytes) (kind, left) e) [
        | inl a ↦ (some_bytes_exact 5).within bytes kind left a.1
        | inr a ↦ let same : length bytes ≡ left = ap (λ (q : Fault). q.1) a.1 in omega (arith, same)
      ];
}

pub header_exact : Exact header
header_exact = followed_exact _ _ magic_exact λ text. checked_exact _ _ _ _ (some_bytes_exact 4)

pub sum_field_exact : (before : List ℕ) → Exact (sum_field before)
sum_field_exact before = checked_exact _ _ _ _ (number_le_exact w64)

pub next_in_exact : (state : State) → Exact (next_in state)
next_in_exact state = checked_exact _ _ _ _ item_exact
