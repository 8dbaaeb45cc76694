-- Each format reads what it spells, and nothing else, and answers the first fault.
use Rattle.std.proofs.Common.{◌≡◌, ℕ, suc, ◌-◌, ◌≤◌, Bool, true, false, cond, ltb, List, [], ◌∷◌, ◌++◌, length, take, drop, Result, Ok, Err, refl, sym, ap, ◌∙◌, append_assoc, arith, inl, inr, ◌⊎◌}
use Rattle.std.proofs.lemmas.Bool.{ltb-false, ltb-true, le-ltb, lt-ltb}
use Rattle.std.proofs.lemmas.List.{take_at, drop_at, take-append-drop, length-append, length-take}
use Rattle.rdb_grammar.specs.declared.fault.LoadKind.{LoadKind}
use Rattle.rdb_grammar.specs.declared.fault.LoadKind.TheVariants.{Ended}
use Rattle.rdb_grammar.specs.Format.{Fault, ◌>>=◌, Format, give, some_bytes, followed, checked, Branch, Goes, Refuses, branch_read, BranchSpells, BranchFaulty, first_read, pick, turned, by_first}

-- a format is exact: it reads just what it spells, and refuses by just its first faults, each within the bytes
pub record Exact {A : Type 0} (one : Format A) : Type 0 where
  pub takes : (bytes : List ℕ) (x : A) (rest : List ℕ) → one.read bytes ≡ Ok (x, rest) → (word : List ℕ) × (bytes ≡ word ++ rest) × one.Spells x word
  pub again : (x : A) (word rest : List ℕ) → one.Spells x word → one.read (word ++ rest) ≡ Ok (x, rest)
  pub fails : (bytes : List ℕ) (kind : LoadKind) (left : ℕ) → one.read bytes ≡ Err (kind, left) → one.Faulty bytes kind left
  pub first : (bytes : List ℕ) (kind : LoadKind) (left : ℕ) → one.Faulty bytes kind left → one.read bytes ≡ Err (kind, left)
  pub within : (bytes : List ℕ) (kind : LoadKind) (left : ℕ) → one.read bytes ≡ Err (kind, left) → left ≤ length bytes

-- what reading a part gives: its value and the bytes behind it, or a fault
abbrev Read : Type 0 → Type 0
Read A = Result (A × List ℕ) Fault

-- where two steps give an answer the first gave one, and the second this one from it
pub bind_ok : {A B : Type 0} (r : Result A Fault) (f : A → Result B Fault) (y : B) → (r >>= f) ≡ Ok y → (x : A) × (r ≡ Ok x) × (f x ≡ Ok y)
bind_ok (Ok x) f y e = (x, refl, e)
bind_ok (Err d) f y e = absurd cc

-- where two steps end in a fault it is the first one's, or the second's after an answer of the first
pub bind_err : {A B : Type 0} (r : Result A Fault) (f : A → Result B Fault) (d : Fault) → (r >>= f) ≡ Err d → (r ≡ Err d) ⊎ ((x : A) × (r ≡ Ok x) × (f x ≡ Err d))
bind_err (Ok x) f d e = inr (x, refl, e)
bind_err (Err c) f d e = inl cc

-- where a step's answer is known
pub bind_is : {A B : Type 0} (r : Result A Fault) (x : A) (f : A → Result B Fault) → r ≡ Ok x → (r >>= f) ≡ f x
bind_is {A = A} r x f e = ap (λ (q : Result A Fault). q >>= f) e

-- where the first of two steps ends in a fault both do
pub bind_fault : {A B : Type 0} (r : Result A Fault) (d : Fault) (f : A → Result B Fault) → r ≡ Err d → (r >>= f) ≡ Err d
bind_fault {A = A} r d f e = ap (λ (q : Result A Fault). q >>= f) e

-- an answer, and no fault
abbrev done : {A : Type 0} → A → Result A Fault
done x = Ok x

-- equal answers have equal values
ok_is : {A : Type 0} (x y : A) → done x ≡ done y → x ≡ y
ok_is x y e = cc

-- a fault, and no answer
abbrev lost : {A : Type 0} → Fault → Result A Fault
lost d = Err d

-- equal answers of reading have equal values and equal bytes left
pub ok_parts : {A : Type 0} (x y : A) (a b : List ℕ) → done {A = A × List ℕ} (x, a) ≡ done (y, b) → (x ≡ y) × (a ≡ b)
ok_parts {A = A} x y a b e = let p = ok_is {A = A × List ℕ} (x, a) (y, b) e in (ap (λ (q : A × List ℕ). q.0) p, ap (λ (q : A × List ℕ). q.1) p)

-- equal refusals have equal faults
fault_is : {A : Type 0} (d c : Fault) → lost {A = A} d ≡ lost c → d ≡ c
fault_is d c e = cc

-- equal refusals have equal kinds and as many bytes left
pub fault_parts : {A : Type 0} (k l : LoadKind) (m n : ℕ) → lost {A = A} (k, m) ≡ lost (l, n) → (k ≡ l) × (m ≡ n)
fault_parts {A = A} k l m n e = let p = fault_is {A = A} (k, m) (l, n) e in (ap (λ (q : Fault). q.0) p, ap (λ (q : Fault). q.1) p)

-- refusals of equal kinds with as many bytes left are equal
pub make_fault : {A : Type 0} (k l : LoadKind) (m n : ℕ) → k ≡ l → m ≡ n → lost {A = A} (l, n) ≡ lost (k, m)
make_fault {A = A} k l m n e f = ap (λ (q : LoadKind). lost {A = A} (q, n)) (sym e) ∙ ap (λ (q : ℕ). lost {A = A} (k, q)) (sym f)

-- a test that lets through, or is a fault
test_ok : {A : Type 0} (b : Bool) (d : Fault) (x y : A) → cond b (done x) (lost d) ≡ done y → (b ≡ true) × (x ≡ y)
test_ok true d x y e = (refl, cc)
test_ok false d x y e = absurd cc

-- where a test that must hold gives a fault it didn't hold, and the fault is the test's
test_err : {A : Type 0} (b : Bool) (d c : Fault) (x : A) → cond b (done x) (lost d) ≡ lost c → (b ≡ false) × (d ≡ c)
test_err true d c x e = absurd cc
test_err false d c x e = (refl, cc)

-- where a test that must not hold lets an answer through it didn't hold, and the answer is that behind it
turned_ok : {A : Type 0} (b : Bool) (d : Fault) (x y : A) → cond b (lost d) (done x) ≡ done y → (b ≡ false) × (x ≡ y)
turned_ok true d x y e = absurd cc
turned_ok false d x y e = (refl, cc)

-- where a test that must not hold gives a fault it held, and the fault is the test's
turned_err : {A : Type 0} (b : Bool) (d c : Fault) (x : A) → cond b (lost d) (done x) ≡ lost c → (b ≡ true) × (d ≡ c)
turned_err true d c x e = (refl, cc)
turned_err false d c x e = absurd cc

-- a count within the bytes behind a front is within all bytes
behind : (left : ℕ) (front back bytes : List ℕ) → bytes ≡ front ++ back → left ≤ length back → left ≤ length bytes
behind left front back bytes e le = omega (arith, ap length e, length-append front back, le)

-- the format of no byte is exact
pub give_exact : {A : Type 0} (x : A) → Exact (give x)
give_exact {A = A} x = record {
  takes = λ bytes y rest e. let p = ok_parts x y bytes rest e in ([], p.1, (sym p.0, refl));
  again = λ y word rest h. ap (λ (q : A). done (q, word ++ rest)) (sym h.0) ∙ ap (λ (q : List ℕ). done (y, q ++ rest)) h.1;
  fails = λ bytes kind left e. absurd cc;
  first = λ bytes kind left h. absurd h;
  within = λ bytes kind left e. absurd cc;
}

-- the format of so many bytes is exact
pub some_bytes_exact : (n : ℕ) → Exact (some_bytes n)
some_bytes_exact n = record {
  takes = λ bytes y rest e.
      let g = turned_ok (ltb (length bytes) n) (Ended, 0) (take n bytes, drop n bytes) (y, rest) e in
      let p = ok_parts (take n bytes) y (drop n bytes) rest (ap (λ (q : List ℕ × List ℕ). done q) g.1) in
      let le : n ≤ length bytes = ltb-false _ _ g.0 in
      (y, sym (take-append-drop n bytes) ∙ ap (λ (z : List ℕ). z ++ drop n bytes) p.0 ∙ ap (λ (z : List ℕ). y ++ z) p.1, (refl, ap length (sym p.0) ∙ omega (arith, length-take n bytes)));
  again = λ y word rest h.
      let len : length word ≡ n = ap length h.0 ∙ h.1 in
      let long : ltb (length (word ++ rest)) n ≡ false = le-ltb _ _ (omega (arith, length-append word rest)) in
      rw (long, take_at word rest n len, drop_at word rest n len) (ap (λ (q : List ℕ). done (q, rest)) h.0);
  fails = λ bytes kind left e.
      let g = turned_err (ltb (length bytes) n) (Ended, 0) (kind, left) (take n bytes, drop n bytes) e in
      (ltb-true _ _ g.0, (ap (λ (q : Fault). q.0) (sym g.1), ap (λ (q : Fault). q.1) (sym g.1)));
  first = λ bytes kind left h.
      let short : ltb (length bytes) n ≡ true = lt-ltb _ _ h.0 in
      rw short (make_fault kind Ended left 0 h.1.0 h.1.1);
  within = λ bytes kind left e.
      let g = turned_err (ltb (length bytes) n) (Ended, 0) (kind, left) (take n bytes, drop n bytes) e in
      let none : 0 ≡ left = ap (λ (q : Fault). q.1) g.1 in
      omega (arith, none);
}

-- an exact format and behind it one that is exact for each of its values are exact together
pub followed_exact : {A B : Type 0} (one : Format A) (next : A → Format B) → Exact one → ((x : A) → Exact (next x)) → Exact (followed one next)
followed_exact one next e f = record {
  takes = λ bytes y rest h.
      let a = bind_ok (one.read bytes) (λ x. (next x.0).read x.1) (y, rest) h in
      let t = e.takes bytes a.0.0 a.0.1 a.1 in
      let u = (f a.0.0).takes a.0.1 y rest a.2 in
      (t.0 ++ u.0, t.1 ∙ ap (λ (z : List ℕ). t.0 ++ z) u.1 ∙ sym (append_assoc t.0 u.0 rest), (a.0.0, t.0, u.0, refl, t.2, u.2));
  again = λ y word rest h.
      ap (λ (z : List ℕ). one.read (z ++ rest) >>= λ x. (next x.0).read x.1) h.3
      ∙ ap (λ (z : List ℕ). one.read z >>= λ x. (next x.0).read x.1) (append_assoc h.1 h.2 rest)
      ∙ bind_is (one.read (h.1 ++ (h.2 ++ rest))) (h.0, h.2 ++ rest) (λ x. (next x.0).read x.1) (e.again h.0 h.1 (h.2 ++ rest) h.4)
      ∙ (f h.0).again y h.2 rest h.5;
  fails = λ bytes kind left h.
      elim (bind_err (one.read bytes) (λ x. (next x.0).read x.1) (kind, left) h) [
        | inl a ↦ inl (e.fails bytes kind left a)
        | inr a ↦ let t = e.takes bytes a.0.0 a.0.1 a.1 in inr (a.0.0, t.0, a.0.1, t.1, t.2, (f a.0.0).fails a.0.1 kind left a.2)
      ];
  first = λ bytes kind left h.
      elim h [
        | inl a ↦ bind_fault (one.read bytes) (kind, left) (λ x. (next x.0).read x.1) (e.first bytes kind left a)
        | inr a ↦ ap (λ (z : List ℕ). one.read z >>= λ x. (next x.0).read x.1) a.3 ∙ bind_is (one.read (a.1 ++ a.2)) (a.0, a.2) (λ x. (next x.0).read x.1) (e.again a.0 a.1 a.2 a.4)
            ∙ (f a.0).first a.2 kind left a.5
      ];
  within = λ bytes kind left h.
      elim (bind_err (one.read bytes) (λ x. (next x.0).read x.1) (kind, left) h) [
        | inl a ↦ e.within bytes kind left a
        | inr a ↦ let t = e.takes bytes a.0.0 a.0.1 a.1 in let below : left ≤ length a.0.1 = (f a.0.0).within a.0.1 kind left a.2 in behind left t.0 a.0.1 bytes t.1 below
      ];
}

-- an exact format whose value must pass a test is exact
pub checked_exact : {A : Type 0} (is : LoadKind) (skip : ℕ) (test : A → Bool) (one : Format A) → Exact one → Exact (checked is skip test one)
checked_exact {A = A} is skip test one e = record {
  takes = λ bytes y rest h.
      let a = bind_ok (one.read bytes) (λ (x : A × List ℕ). cond (test x.0) (done x) (lost (is, length bytes - skip))) (y, rest) h in
      let g = test_ok (test a.0.0) (is, length bytes - skip) a.0 (y, rest) a.2 in
      let same : one.read bytes ≡ done (y, rest) = a.1 ∙ ap (λ (q : A × List ℕ). done q) g.1 in
      let t = e.takes bytes y rest same in
      (t.0, t.1, (t.2, ap (λ (q : A × List ℕ). test q.0) (sym g.1) ∙ g.0));
  again = λ y word rest h.
      bind_is (one.read (word ++ rest)) (y, rest) (λ (x : A × List ℕ). cond (test x.0) (done x) (lost (is, length (word ++ rest) - skip))) (e.again y word rest h.0)
      ∙ rw h.1 refl;
  fails = λ bytes kind left h.
      elim (bind_err (one.read bytes) (λ (x : A × List ℕ). cond (test x.0) (done x) (lost (is, length bytes - skip))) (kind, left) h) [
        | inl a ↦ inl (e.fails bytes kind left a)
        | inr a ↦
            let t = e.takes bytes a.0.0 a.0.1 a.1 in
            let g = test_err (test a.0.0) (is, length bytes - skip) (kind, left) a.0 a.2 in
            inr (a.0.0, t.0, a.0.1, t.1, t.2, g.0, ap (λ (q : Fault). q.0) (sym g.1), ap (λ (q : Fault). q.1) (sym g.1))
      ];
  first = λ bytes kind left h.
      elim h [
        | inl a ↦ bind_fault (one.read bytes) (kind, left) (λ (x : A × List ℕ). cond (test x.0) (done x) (lost (is, length bytes - skip))) (e.first bytes kind left a)
        | inr a ↦
            bind_is (one.read bytes) (a.0, a.2) (λ (x : A × List ℕ). cond (test x.0) (done x) (lost (is, length bytes - skip))) (ap one.read a.3 ∙ e.again a.0 a.1 a.2 a.4)
            ∙ rw a.5 (make_fault kind is left (length bytes - skip) a.6 a.7)
      ];
  within = λ bytes kind left h.
      elim (bind_err (one.read bytes) (λ (x : A × List ℕ). cond (test x.0) (done x) (lost (is, length bytes - skip))) (kind, left) h) [
        | inl a ↦ e.within bytes kind left a
        | inr a ↦
            let g = test_err (test a.0.0) (is, length bytes - skip) (kind, left) a.0 a.2 in
            let same : length bytes - skip ≡ left = ap (λ (q : Fault). q.1) g.1 in
            omega (arith, same)
      ];
}

-- a branch that goes on is exact; one that refuses asks nothing
abbrev branch_exact : {A : Type 0} → Branch A → Type 0
branch_exact (Goes one) = Exact one
branch_exact (Refuses is) = Unit {0}

-- a branch is exact: where it goes on, it does so by an exact format
pub record BranchExact {A : Type 0} (branch : Branch A) : Type 0 where
  pub exact : branch_exact branch

-- a branch that goes on by an exact format is exact
pub goes_exact : {A : Type 0} (one : Format A) → Exact one → BranchExact (Goes one)
goes_exact one e = record { exact = e }

-- a branch that refuses its byte is exact
pub refuses_exact : {A : Type 0} (is : LoadKind) → BranchExact {A = A} (Refuses is)
refuses_exact is = record { exact = tt }

-- a value that an exact branch reads is spelled by the bytes up to those that are left
branch_takes : {A : Type 0} (branch : Branch A) → BranchExact branch → (rest : List ℕ) (x : A) (left : List ℕ) → branch_read branch rest ≡ Ok (x, left) → (word : List ℕ)
    × (rest ≡ word ++ left) × BranchSpells branch x word
branch_takes (Goes one) e rest x left h = e.exact.takes rest x left h
branch_takes (Refuses is) e rest x left h = absurd cc

-- an exact branch reads each value from its spelling, whatever stands behind it
branch_again : {A : Type 0} (branch : Branch A) → BranchExact branch → (x : A) (word rest : List ℕ) → BranchSpells branch x word → branch_read branch (word ++ rest) ≡ Ok (x, rest)
branch_again (Goes one) e x word rest h = e.exact.again x word rest h
branch_again (Refuses is) e x word rest h = absurd h

-- a fault that an exact branch reads is the first fault of the bytes
branch_fails : {A : Type 0} (branch : Branch A) → BranchExact branch → (rest : List ℕ) (kind : LoadKind) (left : ℕ) → branch_read branch rest ≡ Err (kind, left) → BranchFaulty branch rest kind left
branch_fails (Goes one) e rest kind left h = e.exact.fails rest kind left h
branch_fails {A = A} (Refuses is) e rest kind left h = let p = fault_parts {A = A × List ℕ} is kind (suc (length rest)) left h in (sym p.0, sym p.1)

-- an exact branch reads the first fault of the bytes
branch_first : {A : Type 0} (branch : Branch A) → BranchExact branch → (rest : List ℕ) (kind : LoadKind) (left : ℕ) → BranchFaulty branch rest kind left → branch_read branch rest ≡ Err (kind, left)
branch_first (Goes one) e rest kind left h = e.exact.first rest kind left h
branch_first {A = A} (Refuses is) e rest kind left h = make_fault {A = A × List ℕ} kind is left (suc (length rest)) h.0 h.1

-- a value that is read by its first byte is spelled by the bytes up to those that are left
first_takes : {A : Type 0} (by : ℕ → Branch A) → ((b : ℕ) → BranchExact (by b)) → (bytes : List ℕ) (x : A) (rest : List ℕ) → first_read by bytes ≡ Ok (x, rest) → (word : List ℕ)
    × (bytes ≡ word ++ rest) × (by_first by).Spells x word
first_takes by e [] x rest h = absurd cc
first_takes by e (b ∷ bytes) x rest h =
    let t = branch_takes (by b) (e b) bytes x rest h in
    (b ∷ t.0, ap (λ (z : List ℕ). b ∷ z) t.1, (b, t.0, refl, t.2))

-- a fault that is read by a first byte is the first fault of the bytes
first_fails : {A : Type 0} (by : ℕ → Branch A) → ((b : ℕ) → BranchExact (by b)) → (bytes : List ℕ) (kind : LoadKind) (left : ℕ) → first_read by bytes ≡ Err (kind, left)
    → (by_first by).Faulty bytes kind left
first_fails {A = A} by e [] kind left h = let p = fault_parts {A = A × List ℕ} Ended kind 0 left h in inl (refl, (sym p.0, sym p.1))
first_fails by e (b ∷ bytes) kind left h = inr (b, bytes, refl, branch_fails (by b) (e b) bytes kind left h)

-- a fault that an exact branch reads leaves no more bytes than its first byte and those behind it
branch_within : {A : Type 0} (branch : Branch A) → BranchExact branch → (rest : List ℕ) (kind : LoadKind) (left : ℕ) → branch_read branch rest ≡ Err (kind, left) → left ≤ suc (length rest)
branch_within (Goes one) e rest kind left h = let le : left ≤ length rest = e.exact.within rest kind left h in omega (arith, le)
branch_within {A = A} (Refuses is) e rest kind left h = let p = fault_parts {A = A × List ℕ} is kind (suc (length rest)) left h in let same : suc (length rest) ≡ left = p.1 in omega (arith, same)

-- a fault that is read by a first byte leaves no more bytes than there are
first_within : {A : Type 0} (by : ℕ → Branch A) → ((b : ℕ) → BranchExact (by b)) → (bytes : List ℕ) (kind : LoadKind) (left : ℕ) → first_read by bytes ≡ Err (kind, left) → left ≤ length bytes
first_within {A = A} by e [] kind left h = let p = fault_parts {A = A × List ℕ} Ended kind 0 left h in let same : 0 ≡ left = p.1 in omega (arith, same)
first_within by e (b ∷ bytes) kind left h = branch_within (by b) (e b) bytes kind left h

-- the format whose first byte says what follows is exact, if the branch of each byte is
pub by_first_exact : {A : Type 0} (by : ℕ → Branch A) → ((b : ℕ) → BranchExact (by b)) → Exact (by_first by)
by_first_exact {A = A} by e = record {
  takes = first_takes by e;
  again = λ x word rest h. ap (λ (z : List ℕ). first_read by (z ++ rest)) h.2 ∙ branch_again (by h.0) (e h.0) x h.1 rest h.3;
  fails = first_fails by e;
  within = first_within by e;
  first = λ bytes kind left h.
      elim h [
        | inl a ↦ ap (first_read by) a.0 ∙ make_fault {A = A × List ℕ} kind Ended left 0 a.1.0 a.1.1
        | inr a ↦ ap (first_read by) a.2 ∙ branch_first (by a.0) (e a.0) a.1 kind left a.3
      ];
}

-- the branch that a test picks of two is exact, if both are
pub pick_exact : {A : Type 0} (b : Bool) (x y : Branch A) → BranchExact x → BranchExact y → BranchExact (pick b x y)
pick_exact true x y e f = e
pick_exact false x y e f = f

-- an exact branch whose value is seen as another is exact
pub turned_exact : {A B : Type 0} (of : A → B) (branch : Branch A) → BranchExact branch → BranchExact (turned of branch)
turned_exact of (Goes one) e = goes_exact _ (followed_exact one (λ x. give (of x)) e.exact (λ x. give_exact (of x)))
turned_exact of (Refuses is) e = refuses_exact is
