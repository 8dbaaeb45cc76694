-- A list begins with one entry at most.
use Rattle.std.proofs.Common.{◌≡◌, Bool, true, false, ℕ, pos, ◌*◌, ◌<◌, ◌^◌, List, [], ◌∷◌, ◌++◌, length, map, refl, sym, ap, subst, ◌∙◌, arith, FitsSigned}
use Rattle.std.specs.Int.{w64}
use Rattle.std.specs.List.{flat_map}
use Rattle.std.proofs.lemmas.List.{length-map}
use Rattle.int_text.specs.Decimal.{canonical}
use Rattle.int_text.proofs.Signed.{canonical_injective}
use Rattle.stream_node.specs.declared.id.Id.{Id}
use Rattle.stream_node.specs.Entry.{Pair, Stored, number, flags, moved, IsStart, fields_of, body, size, IsBody, IsEntry}
use Rattle.stream_node.proofs.Lists.{Texts, first, behind, same_fronts}

pub fits_count : (n : ℕ) → n < 2 ^ 63 → FitsSigned w64 (pos n)
fits_count n h = record { sfits = h }

pub same_number : (m n : ℕ) → m < 2 ^ 63 → n < 2 ^ 63 → number m ≡ number n → m ≡ n
same_number m n a b e = ap lib.Signed.mag (canonical_injective (pos m) (pos n) (fits_count m a) (fits_count n b) e)

pub same_id : (a b : Id) → a.ms ≡ b.ms → a.seq ≡ b.seq → a ≡ b
same_id a b p q = λ i. record { ms = p i; seq = q i }

pub same_flags : (a b c d : Bool) → flags a b ≡ flags c d → (a ≡ c) × (b ≡ d)
same_flags true true true true e = (refl, refl)
same_flags true true true false e = absurd (omega (arith, e))
same_flags true true false true e = absurd (omega (arith, e))
same_flags true true false false e = absurd (omega (arith, e))
same_flags true false true true e = absurd (omega (arith, e))
same_flags true false true false e = (refl, refl)
same_flags true false false true e = absurd (omega (arith, e))
same_flags true false false false e = absurd (omega (arith, e))
same_flags false true true true e = absurd (omega (arith, e))
same_flags false true true false e = absurd (omega (arith, e))
same_flags false true false true e = (refl, refl)
same_flags false true false false e = absurd (omega (arith, e))
same_flags false false true true e = absurd (omega (arith, e))
same_flags false false true false e = absurd (omega (arith, e))
same_flags false false false true e = absurd (omega (arith, e))
same_flags false false false false e = (refl, refl)

pub few_flags : (a b : Bool) → flags a b < 2 ^ 63
few_flags true true = omega arith
few_flags true false = omega arith
few_flags false true = omega arith
few_flags false false = omega arith

-- the same entry's beginning
pub record SameStart (a b : Bool) (i : Id) (r : Texts) (c d : Bool) (j : Id) (t : Texts) : Type 0 where
  pub deleted : a ≡ c
  pub same : b ≡ d
  pub id : i ≡ j
  pub rest : r ≡ t

pub one_start : (key : Id) (list : Texts) (a b c d : Bool) (i j : Id) (r t : Texts) → IsStart key list a b i r → IsStart key list c d j t → SameStart a b i r c d j t
one_start key list a b c d i j r t s u =
    let e : number (flags a b) ∷ canonical s.ms ∷ canonical s.seq ∷ r ≡ number (flags c d) ∷ canonical u.ms ∷ canonical u.seq ∷ t = sym s.elements ∙ u.elements in
    let f = same_flags a b c d (same_number (flags a b) (flags c d) (few_flags a b) (few_flags c d) (ap first e)) in
    let ms : s.ms ≡ u.ms = canonical_injective s.ms u.ms s.ms_fits u.ms_fits (ap (λ (x : Texts). first (behind x)) e) in
    let seq : s.seq ≡ u.seq = canonical_injective s.seq u.seq s.seq_fits u.seq_fits (ap (λ (x : Texts). first (behind (behind x))) e) in
    record {
      deleted = f.0;
      same = f.1;
      id = same_id i j (s.ms_is ∙ ap (moved key.ms) ms ∙ sym u.ms_is) (s.seq_is ∙ ap (moved key.seq) seq ∙ sym u.seq_is);
      rest = ap (λ (x : Texts). behind (behind (behind x))) e;
    }

abbrev pub values_of : List Pair → Texts
values_of pairs = map (λ (p : Pair). p.1) pairs

abbrev pub flat : List Pair → Texts
flat pairs = flat_map (λ (p : Pair). p.0 ∷ p.1 ∷ []) pairs

same_pairs : (p q : List Pair) → fields_of p ≡ fields_of q → values_of p ≡ values_of q → p ≡ q
same_pairs [] [] e f = refl
same_pairs [] (y ∷ q) e f = absurd (omega (arith, ap length e))
same_pairs (x ∷ p) [] e f = absurd (omega (arith, ap length e))
same_pairs (x ∷ p) (y ∷ q) e f =
    let more = same_pairs p q (ap behind e) (ap behind f) in
    let a : x.0 ≡ y.0 = ap first e in
    let b : x.1 ≡ y.1 = ap first f in
    λ i. (a i, b i) ∷ more i

pub length_flat_in_same : (p : List Pair) → length (flat p) ≡ 2 * length p
length_flat_in_same [] = refl
length_flat_in_same (x ∷ p) = omega (arith, length_flat_in_same p)

same_flat : (p q : List Pair) → flat p ≡ flat q → p ≡ q
same_flat [] [] e = refl
same_flat [] (y ∷ q) e = absurd (omega (arith, ap length e))
same_flat (x ∷ p) [] e = absurd (omega (arith, ap length e))
same_flat (x ∷ p) (y ∷ q) e =
    let more = same_flat p q (ap (λ (l : Texts). behind (behind l)) e) in
    let a : x.0 ≡ y.0 = ap first e in
    let b : x.1 ≡ y.1 = ap (λ (l : Texts). first (behind l)) e in
    λ i. (a i, b i) ∷ more i

pub one_body : (same : Bool) (master list : Texts) (p q : List Pair) (r t : Texts) → IsBody same master list p r → IsBody same master list q t → (p ≡ q) × (r ≡ t)
one_body true master list p q r t a b =
    let n : length (values_of p) ≡ length (values_of q) =
    omega (arith, length-map p (λ (x : Pair). x.1), length-map q (λ (x : Pair). x.1), length-map p (λ (x : Pair). x.0), length-map q (λ (x : Pair). x.0), ap length (a.fields ∙ sym b.fields)) in
    let e = same_fronts (values_of p) (values_of q) (number (size (values_of p)) ∷ r) (number (size (values_of q)) ∷ t) n (sym a.elements ∙ b.elements) in
    (same_pairs p q (a.fields ∙ sym b.fields) e.0, ap behind e.1)
one_body false master list p q r t a b =
    let e : number (length p) ∷ (flat p ++ number (size (body false p)) ∷ r) ≡ number (length q) ∷ (flat q ++ number (size (body false q)) ∷ t) = sym a.elements ∙ b.elements in
    let m = same_number (length p) (length q) a.fields.1 b.fields.1 (ap first e) in
    let n : length (flat p) ≡ length (flat q) = omega (arith, m, length_flat_in_same p, length_flat_in_same q) in
    let f = same_fronts (flat p) (flat q) (number (size (body false p)) ∷ r) (number (size (body false q)) ∷ t) n (ap behind e) in
    (same_flat p q f.0, ap behind f.1)

pub same_stored : (e f : Stored) → e.id ≡ f.id → e.deleted ≡ f.deleted → e.pairs ≡ f.pairs → e ≡ f
same_stored e f a b c = λ i. record { id = a i; deleted = b i; pairs = c i }

-- the same entry, and the same rest
pub one_entry : (key : Id) (master list : Texts) (e f : Stored) (r t : Texts) → IsEntry key master list e r → IsEntry key master list f t → (e ≡ f) × (r ≡ t)
one_entry key master list e f r t a b =
    let s = one_start key list e.deleted a.same f.deleted b.same e.id f.id a.behind b.behind a.start b.start in
    let moved_body : IsBody a.same master a.behind f.pairs t =
    subst (λ (x : Texts). IsBody a.same master x f.pairs t) (sym s.rest) (subst (λ (x : Bool). IsBody x master b.behind f.pairs t) (sym s.same) b.pairs) in
    let p = one_body a.same master a.behind e.pairs f.pairs r t a.pairs moved_body in
    (same_stored e f s.id s.deleted p.0, p.1)
