-- Where an exact part stands, or fails, is what reading there gives.
use Rattle.std.proofs.Common.{◌≡◌, ℕ, ◌+◌, ◌-◌, ◌≤◌, List, ◌++◌, length, take, drop, Ok, Err, refl, sym, ap, ◌∙◌, arith}
use Rattle.std.proofs.Math.Seq.{drop-drop}
use Rattle.std.proofs.lemmas.List.{take_at, drop_at, take-append-drop, length-append, length-drop}
use Rattle.rdb_grammar.specs.declared.fault.LoadKind.{LoadKind}
use Rattle.rdb_grammar.specs.Format.{Format}
use Rattle.rdb_grammar.specs.Places.{Stands, Fails}
use Rattle.rdb_grammar.proofs.Exactly.{Exact}

drop_twice : (i j : ℕ) (xs : List ℕ) → drop j (drop i xs) ≡ drop (i + j) xs
drop_twice i j xs = drop-drop j i xs

-- what stands before a place, and what from there on
split_at : (at next : ℕ) (bytes : List ℕ) → at ≤ next → drop at bytes ≡ take (next - at) (drop at bytes) ++ drop next bytes
split_at at next bytes le =
    let whole : at + (next - at) ≡ next = omega arith in
    sym (take-append-drop (next - at) (drop at bytes)) ∙ ap (λ (z : List ℕ). take (next - at) (drop at bytes) ++ z) (drop_twice at (next - at) bytes ∙ ap (λ (n : ℕ). drop n bytes) whole)

pub reads : {A : Type 0} (one : Format A) → Exact one → (x : A) (bytes : List ℕ) (at next : ℕ) → Stands one x bytes at next → one.read (drop at bytes) ≡ Ok (x, drop next bytes)
reads one e x bytes at next s =
    ap one.read (split_at at next bytes s.onward) ∙ e.again x (take (next - at) (drop at bytes)) (drop next bytes) s.spelled

pub reads_fault : {A : Type 0} (one : Format A) → Exact one → (bytes : List ℕ) (at : ℕ) (kind : LoadKind) (place : ℕ) → Fails one bytes at kind place
    → one.read (drop at bytes) ≡ Err (kind, length bytes - place)
reads_fault one e bytes at kind place f = e.first (drop at bytes) kind (length bytes - place) f.faulty

-- what was read at a place
pub record Found {A : Type 0} (one : Format A) (bytes : List ℕ) (at : ℕ) (x : A) (after : List ℕ) : Type 0 where
  pub fits : length after ≤ length bytes
  pub stands : Stands one x bytes at (length bytes - length after)
  pub onward : after ≡ drop (length bytes - length after) bytes

pub found : {A : Type 0} (one : Format A) → Exact one → (bytes : List ℕ) (at : ℕ) (x : A) (after : List ℕ) → at ≤ length bytes → one.read (drop at bytes) ≡ Ok (x, after) → Found one bytes at x after
found one e bytes at x after le h =
    let t = e.takes (drop at bytes) x after h in
    let total : length bytes - at ≡ length (t.0) + length after = sym (length-drop at bytes) ∙ ap length t.1 ∙ length-append (t.0) after in
    let word : take (length bytes - length after - at) (drop at bytes) ≡ t.0 = ap (take (length bytes - length after - at)) t.1 ∙ take_at (t.0) after _ (omega (arith, total)) in
    let place : at + length (t.0) ≡ length bytes - length after = omega (arith, total) in
    let behind : drop (length bytes - length after) bytes ≡ after = ap (λ (n : ℕ). drop n bytes) (sym place) ∙ sym (drop_twice at (length (t.0)) bytes) ∙ ap (drop (length (t.0))) t.1
    ∙ drop_at (t.0) after _ refl in
    record {
      fits = omega (arith, total);
      stands = record { onward = omega (arith, total); inside = omega arith; spelled = rw word t.2 };
      onward = sym behind;
    }

-- a fault that was read at a place
pub record Broken {A : Type 0} (one : Format A) (bytes : List ℕ) (at : ℕ) (kind : LoadKind) (left : ℕ) : Type 0 where
  pub fits : left ≤ length bytes
  pub fails : Fails one bytes at kind (length bytes - left)

pub broken : {A : Type 0} (one : Format A) → Exact one → (bytes : List ℕ) (at : ℕ) (kind : LoadKind) (left : ℕ) → at ≤ length bytes → one.read (drop at bytes) ≡ Err (kind, left)
    → Broken one bytes at kind left
broken one e bytes at kind left le h =
    let within : left ≤ length (drop at bytes) = e.within (drop at bytes) kind left h in
    let len : length (drop at bytes) ≡ length bytes - at = length-drop at bytes in
    let same : length bytes - (length bytes - left) ≡ left = omega (arith, within, len) in
    record {
      fits = omega (arith, within, len);
      fails = record { onward = omega (arith, within, len); inside = omega arith; faulty = rw same (e.fails (drop at bytes) kind left h) };
    }
