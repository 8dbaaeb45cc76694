-- Payloads are one of both that they may be, and exact inside their parts.
use Rattle.std.proofs.Common.{◌≡◌, ◌⊎◌, inl, inr, ℕ, List, ◌++◌, length, Result, Ok, Err, refl, sym, ap, ◌∙◌, arith}
use Rattle.rdb_grammar.specs.declared.fault.LoadKind.{LoadKind}
use Rattle.rdb_grammar.specs.Format.{next_found, placed, Format, Payload, told, refined, inside}
use Rattle.rdb_grammar.proofs.Exactly.{Exact, ok_parts, fault_parts, bind_ok, bind_err, bind_is, bind_fault}

-- a payload is decided: it has just the meaning that is found, or just the fault
pub record Decided {T A : Type 0} (payload : Payload T A) : Type 0 where
  pub means : (t : T) (x : A) → payload.found t ≡ Ok x → payload.Means t x
  pub again : (t : T) (x : A) → payload.Means t x → payload.found t ≡ Ok x
  pub breaks : (t : T) (kind : LoadKind) → payload.found t ≡ Err kind → payload.Breaks t kind
  pub first : (t : T) (kind : LoadKind) → payload.Breaks t kind → payload.found t ≡ Err kind

-- what a function tells is decided
pub told_decided : {T A : Type 0} (by : T → Result A LoadKind) → Decided (told by)
told_decided by = record { means = λ t x e. e; again = λ t x e. e; breaks = λ t kind e. e; first = λ t kind e. e }

-- where two steps give an answer, the first gave one, and the second this one from it
pub next_ok : {A B : Type 0} (r : Result A LoadKind) (f : A → Result B LoadKind) (y : B) → next_found r f ≡ Ok y → (x : A) × (r ≡ Ok x) × (f x ≡ Ok y)
next_ok (Ok x) f y e = (x, refl, e)
next_ok (Err kind) f y e = absurd cc

-- where two steps end in a fault, it is the first one's, or the second's after an answer
next_err : {A B : Type 0} (r : Result A LoadKind) (f : A → Result B LoadKind) (kind : LoadKind) → next_found r f ≡ Err kind → (r ≡ Err kind) ⊎ ((x : A) × (r ≡ Ok x) × (f x ≡ Err kind))
next_err (Ok x) f kind e = inr (x, refl, e)
next_err (Err k) f kind e = inl cc

pub next_is : {A B : Type 0} (r : Result A LoadKind) (x : A) (f : A → Result B LoadKind) → r ≡ Ok x → next_found r f ≡ f x
next_is {A = A} r x f e = ap (λ (q : Result A LoadKind). next_found q f) e

pub next_fault : {A B : Type 0} (r : Result A LoadKind) (kind : LoadKind) (f : A → Result B LoadKind) → r ≡ Err kind → next_found r f ≡ Err kind
next_fault {A = A} r kind f e = ap (λ (q : Result A LoadKind). next_found q f) e

-- a decided payload whose meaning is decided as another is decided
pub refined_decided : {T A B : Type 0} (one : Payload T A) (other : Payload A B) → Decided one → Decided other → Decided (refined one other)
refined_decided one other d e = record {
  means = λ t y h. let a = next_ok (one.found t) other.found y h in (a.0, d.means t a.0 a.1, e.means a.0 y a.2);
  again = λ t y h. next_is (one.found t) h.0 other.found (d.again t h.0 h.1) ∙ e.again h.0 y h.2;
  breaks = λ t kind h.
      elim (next_err (one.found t) other.found kind h) [
        | inl a ↦ inl (d.breaks t kind a)
        | inr a ↦ inr (a.0, d.means t a.0 a.1, e.breaks a.0 kind a.2)
      ];
  first = λ t kind h.
      elim h [
        | inl a ↦ next_fault (one.found t) kind other.found (d.first t kind a)
        | inr a ↦ next_is (one.found t) a.0 other.found (d.again t a.0 a.1) ∙ e.first a.0 kind a.2
      ];
}

-- an answer, and a fault, that were found
abbrev found : {A : Type 0} → A → Result A LoadKind
found x = Ok x

abbrev lacked : {A : Type 0} → LoadKind → Result A LoadKind
lacked kind = Err kind

-- an answer that is placed was found, with these bytes behind it
placed_ok : {A : Type 0} (r : Result A LoadKind) (left : ℕ) (rest : List ℕ) (y : A) (after : List ℕ) → placed r left rest ≡ Ok (y, after) → (r ≡ Ok y) × (rest ≡ after)
placed_ok {A = A} (Ok x) left rest y after e = let p = ok_parts x y rest after e in (ap (λ (q : A). found q) p.0, p.1)
placed_ok (Err kind) left rest y after e = absurd cc

-- a fault that is placed was found, with so many bytes left
placed_err : {A : Type 0} (r : Result A LoadKind) (left : ℕ) (rest : List ℕ) (kind : LoadKind) (place : ℕ) → placed r left rest ≡ Err (kind, place) → (r ≡ Err kind) × (left ≡ place)
placed_err (Ok x) left rest kind place e = absurd cc
placed_err {A = A} (Err k) left rest kind place e = let p = fault_parts {A = A × List ℕ} k kind left place e in (ap (λ (q : LoadKind). lacked {A = A} q) p.0, p.1)

-- a decided payload inside an exact part is exact
pub inside_exact : {T A : Type 0} (one : Format T) (payload : Payload T A) → Exact one → Decided payload → Exact (inside one payload)
inside_exact {T = T} {A = A} one payload e d = record {
  takes = λ bytes y rest h.
      let a = bind_ok (one.read bytes) (λ (x : T × List ℕ). placed (payload.found x.0) (length bytes) x.1) (y, rest) h in
      let p = placed_ok (payload.found a.0.0) (length bytes) a.0.1 y rest a.2 in
      let t = e.takes bytes a.0.0 a.0.1 a.1 in
      (t.0, t.1 ∙ ap (λ (z : List ℕ). t.0 ++ z) p.1, (a.0.0, t.2, d.means a.0.0 y p.0));
  again = λ y word rest h.
      bind_is (one.read (word ++ rest)) (h.0, rest) (λ (x : T × List ℕ). placed (payload.found x.0) (length (word ++ rest)) x.1) (e.again h.0 word rest h.1)
      ∙ ap (λ (q : Result A LoadKind). placed q (length (word ++ rest)) rest) (d.again h.0 y h.2);
  fails = λ bytes kind left h.
      elim (bind_err (one.read bytes) (λ (x : T × List ℕ). placed (payload.found x.0) (length bytes) x.1) (kind, left) h) [
        | inl a ↦ inl (e.fails bytes kind left a)
        | inr a ↦
            let p = placed_err (payload.found a.0.0) (length bytes) a.0.1 kind left a.2 in
            let t = e.takes bytes a.0.0 a.0.1 a.1 in
            inr (a.0.0, t.0, a.0.1, t.1, t.2, d.breaks a.0.0 kind p.0, sym p.1)
      ];
  first = λ bytes kind left h.
      elim h [
        | inl a ↦ bind_fault (one.read bytes) (kind, left) (λ (x : T × List ℕ). placed (payload.found x.0) (length bytes) x.1) (e.first bytes kind left a)
        | inr a ↦
            bind_is (one.read bytes) (a.0, a.2) (λ (x : T × List ℕ). placed (payload.found x.0) (length bytes) x.1) (ap one.read a.3 ∙ e.again a.0 a.1 a.2 a.4)
            ∙ ap (λ (q : Result A LoadKind). placed q (length bytes) a.2) (d.first a.0 kind a.5)
            ∙ ap (λ (n : ℕ). placed {A = A} (Err kind) n a.2) (sym a.6)
      ];
  within = λ bytes kind left h.
      elim (bind_err (one.read bytes) (λ (x : T × List ℕ). placed (payload.found x.0) (length bytes) x.1) (kind, left) h) [
        | inl a ↦ e.within bytes kind left a
        | inr a ↦
            let p = placed_err (payload.found a.0.0) (length bytes) a.0.1 kind left a.2 in
            let same : length bytes ≡ left = p.1 in
            omega (arith, same)
      ];
}
