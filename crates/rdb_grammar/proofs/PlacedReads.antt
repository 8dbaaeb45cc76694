-- What is read from a place of a file's bytes on, as it stands in all of them.
use Rattle.std.proofs.Common.{◌≡◌, ℕ, ◌-◌, ◌≤◌, List, length, take, drop, Result, Ok, Err, Bor, sym, ap, subst, ◌∙◌}
use Rattle.std.specs.Prelude.{IfOk, IfErr}
use Rattle.std.proofs.lemmas.List.{take_rest}
use Rattle.rdb_grammar.specs.declared.fault.Refused.{Refused}
use Rattle.rdb_grammar.specs.declared.fault.FileFault.{FileFault}
use Rattle.rdb_grammar.specs.Format.{Format}
use Rattle.rdb_grammar.specs.Places.{Stands, Fails}
use Rattle.rdb_grammar.specs.Returns.{Returns}
use Rattle.rdb_grammar.proofs.Exactly.{Exact}
use Rattle.rdb_grammar.proofs.Standing.{found, broken}

-- what reading the bytes from a place on returned
abbrev pub ReadAt : {X A : Type 0} → Format A → (X → A) → List ℕ → ℕ → Result (X × Bor (List ℕ)) Refused → Type 0
ReadAt one view bytes at read = Returns (λ x. (view x.0, x.1.now)) read (one.read (take (length bytes - at) (drop at bytes)))

-- what is left of it is no more than all bytes
pub rest_fits : {X A : Type 0} (one : Format A) → Exact one → (view : X → A) (bytes : List ℕ) (at : ℕ) (read : Result (X × Bor (List ℕ)) Refused) → at ≤ length bytes → ReadAt one view bytes at read
    → IfOk read (λ x. length x.1.now ≤ length bytes)
rest_fits one e view bytes at (Ok x) le told = (found one e bytes at (view x.0) x.1.now le (ap one.read (sym (take_rest bytes at)) ∙ told)).fits
rest_fits one e view bytes at (Err f) le told = tt

pub left_fits : {X A : Type 0} (one : Format A) → Exact one → (view : X → A) (bytes : List ℕ) (at : ℕ) (read : Result (X × Bor (List ℕ)) Refused) → at ≤ length bytes → ReadAt one view bytes at read
    → IfErr read (λ f. f.left ≤ length bytes)
left_fits one e view bytes at (Ok x) le told = tt
left_fits one e view bytes at (Err f) le told = (broken one e bytes at f.kind f.left le (ap one.read (sym (take_rest bytes at)) ∙ told)).fits

-- a value and the place behind it, or a fault and its place, of what was read
pub record PlacedIn {X : Type 0} (bytes : List ℕ) (read : Result (X × Bor (List ℕ)) Refused) (placed : Result (X × ℕ) FileFault) : Type 0 where
  pub ok : IfOk read (λ x. placed ≡ Ok (x.0, length bytes - length x.1.now))
  pub err : IfErr read (λ f. placed ≡ Err (record { kind = f.kind; at = length bytes - f.left }))

pub placed_stands : {X A : Type 0} (one : Format A) → Exact one → (view : X → A) (bytes : List ℕ) (at : ℕ) (read : Result (X × Bor (List ℕ)) Refused) (placed : Result (X × ℕ) FileFault)
    → at ≤ length bytes → ReadAt one view bytes at read → PlacedIn bytes read placed → IfOk placed (λ x. Stands one (view x.0) bytes at x.1)
placed_stands one e view bytes at (Ok x) placed le told p =
    subst (λ r. IfOk r (λ y. Stands one (view y.0) bytes at y.1)) (sym p.ok) (found one e bytes at (view x.0) x.1.now le (ap one.read (sym (take_rest bytes at)) ∙ told)).stands
placed_stands one e view bytes at (Err f) placed le told p = subst (λ r. IfOk r (λ y. Stands one (view y.0) bytes at y.1)) (sym p.err) tt

pub placed_fails : {X A : Type 0} (one : Format A) → Exact one → (view : X → A) (bytes : List ℕ) (at : ℕ) (read : Result (X × Bor (List ℕ)) Refused) (placed : Result (X × ℕ) FileFault)
    → at ≤ length bytes → ReadAt one view bytes at read → PlacedIn bytes read placed → IfErr placed (λ f. Fails one bytes at f.kind f.at)
placed_fails one e view bytes at (Ok x) placed le told p = subst (λ r. IfErr r (λ f. Fails one bytes at f.kind f.at)) (sym p.ok) tt
placed_fails one e view bytes at (Err f) placed le told p =
    subst (λ r. IfErr r (λ g. Fails one bytes at g.kind g.at)) (sym p.err) (broken one e bytes at f.kind f.left le (ap one.read (sym (take_rest bytes at)) ∙ told)).fails

-- what holds of the value read holds of it where it is placed
pub placed_keeps : {X : Type 0} (P : X → Type 0) (bytes : List ℕ) (read : Result (X × Bor (List ℕ)) Refused) (placed : Result (X × ℕ) FileFault) → PlacedIn bytes read placed
    → IfOk read (λ x. P x.0) → IfOk placed (λ x. P x.0)
placed_keeps P bytes (Ok x) placed p holds = subst (λ r. IfOk r (λ y. P y.0)) (sym p.ok) holds
placed_keeps P bytes (Err f) placed p holds = subst (λ r. IfOk r (λ y. P y.0)) (sym p.err) tt
