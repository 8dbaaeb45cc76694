-- Parts behind one another at places, and parts that must pass a test.
use Rattle.std.proofs.Common.{◌≡◌, inl, ℕ, ◌-◌, ◌≤◌, Bool, true, false, List, length, drop, Result, Ok, Err, refl, ap, ◌∙◌, arith}
use Rattle.std.proofs.lemmas.List.{length-drop}
use Rattle.rdb_grammar.specs.declared.fault.LoadKind.{LoadKind}
use Rattle.rdb_grammar.specs.declared.fault.ItemFault.{ItemFault}
use Rattle.rdb_grammar.specs.declared.fault.ItemFault.TheVariants as faults
use Rattle.rdb_grammar.specs.Format.{Format, give, followed, checked}
use Rattle.rdb_grammar.specs.Places.{Stands, Fails}
use Rattle.rdb_grammar.proofs.Exactly.{Exact, give_exact, followed_exact, checked_exact}
use Rattle.rdb_grammar.proofs.Standing.{reads, reads_fault}
use Rattle.rdb_grammar.proofs.Partly.{stands_read, fails_read}
use Rattle.rdb_streams.specs.Reading.{Reads}

-- a part begins within the bytes
pub begins : {A : Type 0} (one : Format A) (x : A) (bytes : List ℕ) (at next : ℕ) → Stands one x bytes at next → at ≤ length bytes
begins one x bytes at next s = let first : at ≤ next = s.onward in let second : next ≤ length bytes = s.inside in omega (arith, first, second)

-- nothing at all stands everywhere
pub give_stands : {A : Type 0} (x : A) (bytes : List ℕ) (at : ℕ) → at ≤ length bytes → Stands (give x) x bytes at at
give_stands x bytes at le = stands_read (give x) (give_exact x) bytes at at x le le refl

module _ {A B : Type 0} (one : Format A) (next : A → Format B) (bytes : List ℕ) (at : ℕ) where
  -- the fault of the first part
  pub first_fails : (which : LoadKind) (place : ℕ) → Fails one bytes at which place → Fails (followed one next) bytes at which place
  first_fails which place f = record { onward = f.onward; inside = f.inside; faulty = inl f.faulty }

  module _ (e : Exact one) (f : (x : A) → Exact (next x)) where
    -- behind the first part the other is read
    pub then_reads : (middle : ℕ) (x : A) → Stands one x bytes at middle → (new : B) (result : Result ℕ ItemFault) → Reads (next x) bytes middle new result
        → Reads (followed one next) bytes at new result
    then_reads middle x s new (Ok last) t =
        let r : one.read (drop at bytes) ≡ Ok (x, drop middle bytes) = reads one e x bytes at middle s in
        let q : (next x).read (drop middle bytes) ≡ Ok (new, drop last bytes) = reads (next x) (f x) new bytes middle last t in
        let whole : (followed one next).read (drop at bytes) ≡ Ok (new, drop last bytes) = rw (r, q) refl in
        stands_read (followed one next) (followed_exact one next e f) bytes at last new (begins one x bytes at middle s) t.inside whole
    then_reads middle x s new (Err (faults.Refused which place)) t =
        let r : one.read (drop at bytes) ≡ Ok (x, drop middle bytes) = reads one e x bytes at middle s in
        let q : (next x).read (drop middle bytes) ≡ Err (which, length bytes - place) = reads_fault (next x) (f x) bytes middle which place t in
        let whole : (followed one next).read (drop at bytes) ≡ Err (which, length bytes - place) = rw (r, q) refl in
        fails_read (followed one next) (followed_exact one next e f) bytes at which place (begins one x bytes at middle s) t.inside whole
    then_reads middle x s new (Err faults.Memory) t = tt

-- a part, seen as something else
pub seen_as : {A B : Type 0} (one : Format A) → Exact one → (of : A → B) (x : A) (bytes : List ℕ) (at : ℕ) (result : Result ℕ ItemFault) → Reads one bytes at x result
    → Reads (followed one (λ x. give (of x))) bytes at (of x) result
seen_as one e of x bytes at (Ok last) s = then_reads one (λ x. give (of x)) bytes at e (λ x. give_exact (of x)) last x s (of x) (Ok last) (give_stands (of x) bytes last s.inside)
seen_as one e of x bytes at (Err (faults.Refused which place)) f = first_fails one (λ x. give (of x)) bytes at which place f
seen_as one e of x bytes at (Err faults.Memory) t = t

module _ {A : Type 0} (kind : LoadKind) (test : A → Bool) (one : Format A) (bytes : List ℕ) (at : ℕ) where
  -- the fault of what is to be tested
  pub tested_fails : (which : LoadKind) (place : ℕ) → Fails one bytes at which place → Fails (checked kind 0 test one) bytes at which place
  tested_fails which place f = record { onward = f.onward; inside = f.inside; faulty = inl f.faulty }

  module _ (next : ℕ) (x : A) (s : Stands one x bytes at next) where
    -- what passes the test stands
    pub passes : test x ≡ true → Stands (checked kind 0 test one) x bytes at next
    passes h = record { onward = s.onward; inside = s.inside; spelled = (s.spelled, h) }

    -- what fails it is a fault at its start
    pub falls : Exact one → test x ≡ false → Fails (checked kind 0 test one) bytes at kind at
    falls e h =
        let r : one.read (drop at bytes) ≡ Ok (x, drop next bytes) = reads one e x bytes at next s in
        let here : (checked kind 0 test one).read (drop at bytes) ≡ Err (kind, length (drop at bytes) - 0) = rw (r, h) refl in
        let left : length (drop at bytes) - 0 ≡ length bytes - at = omega (arith, length-drop at bytes) in
        let within : at ≤ length bytes = begins one x bytes at next s in
        fails_read (checked kind 0 test one) (checked_exact kind 0 test one e) bytes at kind at within within (here ∙ ap (λ (n : ℕ). Err (kind, n)) left)
