-- Parts one behind the other, and what stands there or fails first, from that of each.
use Rattle.std.proofs.Common.{◌≡◌, ℕ, ◌-◌, ◌≤◌, Bool, true, false, List, length, drop, Result, Ok, Err, refl, ap, arith}
use Rattle.std.proofs.lemmas.List.{length-drop}
use Rattle.rdb_grammar.specs.declared.fault.LoadKind.{LoadKind}
use Rattle.rdb_grammar.specs.Format.{Format, Payload, give, followed, checked, inside}
use Rattle.rdb_grammar.specs.Places.{Stands, Fails}
use Rattle.rdb_grammar.proofs.Exactly.{Exact, give_exact, followed_exact, checked_exact}
use Rattle.rdb_grammar.proofs.PayloadsExact.{Decided, inside_exact}
use Rattle.rdb_grammar.proofs.Standing.{reads, reads_fault}
use Rattle.rdb_grammar.proofs.Partly.{stands_read, fails_read}

-- a fault that is read, with so many bytes left
abbrev lost : {A : Type 0} → LoadKind → ℕ → Result (A × List ℕ) (LoadKind × ℕ)
lost which n = Err (which, n)

pub nothing_stands : {A : Type 0} (x : A) (bytes : List ℕ) (at : ℕ) → at ≤ length bytes → Stands (give x) x bytes at at
nothing_stands x bytes at le = stands_read (give x) (give_exact x) bytes at at x le le refl

module _ {A B : Type 0} (one : Format A) (next : A → Format B) (e : Exact one) (f : (x : A) → Exact (next x)) where
  -- both parts stand
  pub both_stand : (bytes : List ℕ) (at mid to : ℕ) (x : A) (y : B) → Stands one x bytes at mid → Stands (next x) y bytes mid to → Stands (followed one next) y bytes at to
  both_stand bytes at mid to x y s t =
      let r : one.read (drop at bytes) ≡ Ok (x, drop mid bytes) = reads one e x bytes at mid s in
      let q : (next x).read (drop mid bytes) ≡ Ok (y, drop to bytes) = reads (next x) (f x) y bytes mid to t in
      let whole : (followed one next).read (drop at bytes) ≡ Ok (y, drop to bytes) = rw (r, q) refl in
      let first : at ≤ mid = s.onward in
      let second : mid ≤ length bytes = s.inside in
      stands_read (followed one next) (followed_exact one next e f) bytes at to y (omega (arith, first, second)) t.inside whole

  -- the fault of the first
  pub first_fails : (bytes : List ℕ) (at : ℕ) (which : LoadKind) (place : ℕ) → at ≤ length bytes → Fails one bytes at which place → Fails (followed one next) bytes at which place
  first_fails bytes at which place le d =
      let r : one.read (drop at bytes) ≡ Err (which, length bytes - place) = reads_fault one e bytes at which place d in
      let whole : (followed one next).read (drop at bytes) ≡ Err (which, length bytes - place) = rw r refl in
      fails_read (followed one next) (followed_exact one next e f) bytes at which place le d.inside whole

  -- the fault of the second
  pub second_fails : (bytes : List ℕ) (at mid : ℕ) (x : A) (which : LoadKind) (place : ℕ) → Stands one x bytes at mid → Fails (next x) bytes mid which place
      → Fails (followed one next) bytes at which place
  second_fails bytes at mid x which place s d =
      let r : one.read (drop at bytes) ≡ Ok (x, drop mid bytes) = reads one e x bytes at mid s in
      let q : (next x).read (drop mid bytes) ≡ Err (which, length bytes - place) = reads_fault (next x) (f x) bytes mid which place d in
      let whole : (followed one next).read (drop at bytes) ≡ Err (which, length bytes - place) = rw (r, q) refl in
      let first : at ≤ mid = s.onward in
      let second : mid ≤ length bytes = s.inside in
      fails_read (followed one next) (followed_exact one next e f) bytes at which place (omega (arith, first, second)) d.inside whole

module _ {A : Type 0} (is : LoadKind) (test : A → Bool) (one : Format A) (e : Exact one) where
  -- a part that passes its test
  pub passes : (bytes : List ℕ) (at to : ℕ) (x : A) → Stands one x bytes at to → test x ≡ true → Stands (checked is 0 test one) x bytes at to
  passes bytes at to x s t = record { onward = s.onward; inside = s.inside; spelled = (s.spelled, t) }

  -- one that fails it is a fault at its first byte
  pub is_refused : (bytes : List ℕ) (at to : ℕ) (x : A) → Stands one x bytes at to → test x ≡ false → Fails (checked is 0 test one) bytes at is at
  is_refused bytes at to x s t =
      let r : one.read (drop at bytes) ≡ Ok (x, drop to bytes) = reads one e x bytes at to s in
      let many : length (drop at bytes) - 0 ≡ length bytes - at = omega (arith, length-drop at bytes) in
      let whole : (checked is 0 test one).read (drop at bytes) ≡ Err (is, length bytes - at) = rw (r, t) (ap (λ (n : ℕ). lost {A = A} is n) many) in
      let first : at ≤ to = s.onward in
      let second : to ≤ length bytes = s.inside in
      fails_read (checked is 0 test one) (checked_exact is 0 test one e) bytes at is at (omega (arith, first, second)) (omega (arith, first, second)) whole

  -- the part's own fault
  pub part_fails : (bytes : List ℕ) (at : ℕ) (which : LoadKind) (place : ℕ) → at ≤ length bytes → Fails one bytes at which place → Fails (checked is 0 test one) bytes at which place
  part_fails bytes at which place le d =
      let r : one.read (drop at bytes) ≡ Err (which, length bytes - place) = reads_fault one e bytes at which place d in
      let whole : (checked is 0 test one).read (drop at bytes) ≡ Err (which, length bytes - place) = rw r refl in
      fails_read (checked is 0 test one) (checked_exact is 0 test one e) bytes at which place le d.inside whole

module _ {T A : Type 0} (one : Format T) (payload : Payload T A) (e : Exact one) (d : Decided payload) where
  -- a payload that means something
  pub payload_stands : (bytes : List ℕ) (at to : ℕ) (t : T) (x : A) → Stands one t bytes at to → payload.found t ≡ Ok x → Stands (inside one payload) x bytes at to
  payload_stands bytes at to t x s h = record { onward = s.onward; inside = s.inside; spelled = (t, s.spelled, d.means t x h) }

  -- one that means nothing is a fault at its first byte
  pub payload_fails : (bytes : List ℕ) (at to : ℕ) (t : T) (which : LoadKind) → Stands one t bytes at to → payload.found t ≡ Err which → Fails (inside one payload) bytes at which at
  payload_fails bytes at to t which s h =
      let r : one.read (drop at bytes) ≡ Ok (t, drop to bytes) = reads one e t bytes at to s in
      let many : length (drop at bytes) ≡ length bytes - at = omega (arith, length-drop at bytes) in
      let whole : (inside one payload).read (drop at bytes) ≡ Err (which, length bytes - at) = rw (r, h) (ap (λ (n : ℕ). lost {A = A} which n) many) in
      let first : at ≤ to = s.onward in
      let second : to ≤ length bytes = s.inside in
      fails_read (inside one payload) (inside_exact one payload e d) bytes at which at (omega (arith, first, second)) (omega (arith, first, second)) whole

  -- the fault of the part that holds it
  pub holder_fails : (bytes : List ℕ) (at : ℕ) (which : LoadKind) (place : ℕ) → at ≤ length bytes → Fails one bytes at which place → Fails (inside one payload) bytes at which place
  holder_fails bytes at which place le f =
      let r : one.read (drop at bytes) ≡ Err (which, length bytes - place) = reads_fault one e bytes at which place f in
      let whole : (inside one payload).read (drop at bytes) ≡ Err (which, length bytes - place) = rw r refl in
      fails_read (inside one payload) (inside_exact one payload e d) bytes at which place le f.inside whole
