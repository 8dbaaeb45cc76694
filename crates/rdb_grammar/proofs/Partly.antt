-- Parts of items, and what they say of whole ones.
use Rattle.std.proofs.Common.{◌≡◌, inl, ℕ, ◌-◌, ◌≤◌, List, [], length, take, drop, Ok, Err, refl, sym, subst, append-nil, arith}
use Rattle.std.proofs.lemmas.List.{length-drop}
use Rattle.rdb_grammar.specs.declared.fault.LoadKind.{LoadKind}
use Rattle.rdb_grammar.specs.Format.{Format}
use Rattle.rdb_grammar.specs.Items.{Part, Whole, Opens, part, item}
use Rattle.rdb_grammar.specs.Places.{Stands, Fails}
use Rattle.rdb_grammar.specs.Returns.{IsPartAt}
use Rattle.rdb_grammar.proofs.Exactly.{Exact}
use Rattle.rdb_grammar.proofs.Standing.{found, broken}

-- a part that is all of an item stands as the item
pub stands_part : (p : Part) (bytes : List ℕ) (at next : ℕ) → Stands part p bytes at next → IsPartAt bytes at next p
stands_part (Whole x) bytes at next s = record {
  onward = s.onward;
  inside = s.inside;
  spelled = (Whole x, take (next - at) (drop at bytes), [], sym (append-nil (take (next - at) (drop at bytes))), s.spelled, (refl, refl));
}
stands_part (Opens name layout) bytes at next s = s

-- the first fault of a part is that of the item
pub fails_part : (bytes : List ℕ) (at : ℕ) (which : LoadKind) (place : ℕ) → Fails part bytes at which place → Fails item bytes at which place
fails_part bytes at which place f = record { onward = f.onward; inside = f.inside; faulty = inl f.faulty }

-- what is read from a place on up to another stands between them
pub stands_read : {A : Type 0} (one : Format A) → Exact one → (bytes : List ℕ) (at next : ℕ) (x : A) → at ≤ length bytes → next ≤ length bytes
    → one.read (drop at bytes) ≡ Ok (x, drop next bytes) → Stands one x bytes at next
stands_read one e bytes at next x le inside h =
    let f = found one e bytes at x (drop next bytes) le h in
    let same : length bytes - length (drop next bytes) ≡ next = omega (arith, length-drop next bytes) in
    subst (λ (n : ℕ). Stands one x bytes at n) same f.stands

-- the fault that is read from a place on is the first fault there
pub fails_read : {A : Type 0} (one : Format A) → Exact one → (bytes : List ℕ) (at : ℕ) (which : LoadKind) (place : ℕ) → at ≤ length bytes → place ≤ length bytes
    → one.read (drop at bytes) ≡ Err (which, length bytes - place) → Fails one bytes at which place
fails_read one e bytes at which place le inside h =
    let f = broken one e bytes at which (length bytes - place) le h in
    let same : length bytes - (length bytes - place) ≡ place = omega arith in
    subst (λ (n : ℕ). Fails one bytes at which n) same f.fails
