-- The order of ids.
use Rattle.std.proofs.Common.{◌≡◌, ◌∙◌, ℕ, zero, suc, ◌+◌, ◌*◌, ◌%◌, ◌^◌, ◌<◌, ◌≤◌, List, [], ◌∷◌, ◌++◌, length, refl, sym, ap, inl, inr, arith}
use Rattle.std.specs.Int.{w64, byte_at, bytes_high_first, to_be_bytes}
use Rattle.std.specs.Ordering.{nat_cmp, ordering_then}
use Rattle.std.specs.declared.cmp.Ordering.{Ordering}
use Rattle.std.specs.declared.cmp.Ordering.TheVariants.{Less, Equal, Greater}
use Rattle.std.specs.Cmp.Lexicographic.{slice_cmp}
use Rattle.std.proofs.Math.Nat as nat
use Rattle.std.proofs.Math.Arith.{mod-mul}
use Rattle.std.proofs.lemmas.Bool.{cases_lt, cases_eq, lt-ltb, le-ltb, cond-true, cond-false, eq-eqb, ne_eqb}
use Rattle.std.proofs.lemmas.Nat.{from_be_bytes-to_be_bytes_8}
use Rattle.stream_node.specs.declared.id.Id.{Id}
use Rattle.stream_node.specs.Entry.{IsBelow}
use Rattle.stream_node.specs.Ids.{IsId, id_number, id_key, key_id, IdLaws}

pub cmp_less : (x y : ℕ) → x < y → nat_cmp x y ≡ Less
cmp_less x y h = cond-true _ _ _ (lt-ltb x y h)

pub cmp_equal : (x y : ℕ) → x ≡ y → nat_cmp x y ≡ Equal
cmp_equal x y h = cond-false _ _ _ (le-ltb x y (omega arith)) ∙ cond-true _ _ _ (eq-eqb x y h)

pub cmp_greater : (x y : ℕ) → y < x → nat_cmp x y ≡ Greater
cmp_greater x y h = cond-false _ _ _ (le-ltb x y (omega arith)) ∙ cond-false _ _ _ (ne_eqb x y (λ e. omega arith))

-- where the first parts of two numbers differ they decide, else the second parts do
pub parts_cmp : (x y r s p : ℕ) → r < p → s < p → nat_cmp (x * p + r) (y * p + s) ≡ ordering_then (nat_cmp x y) (nat_cmp r s)
parts_cmp x y r s p small also = elim (cases_lt x y) [
  | inl less ↦ (let more : suc x * p ≤ y * p = nat.mul-le-mul_right p less in
      let one : suc x * p ≡ x * p + p = omega arith in
      cmp_less (x * p + r) (y * p + s) (omega arith) ∙ sym (ap (λ o. ordering_then o (nat_cmp r s)) (cmp_less x y less)))
  | inr upto ↦ elim (cases_eq x y) [
    | inl same ↦ (let e : x * p ≡ y * p = ap (λ n. n * p) same in same_first (x * p) (y * p) e ∙ sym (ap (λ o. ordering_then o (nat_cmp r s)) (cmp_equal x y same)))
    | inr other ↦ (let more : suc y * p ≤ x * p = nat.mul-le-mul_right p (omega arith) in
        let one : suc y * p ≡ y * p + p = omega arith in
        let more_first : y < x = omega arith in
        cmp_greater (x * p + r) (y * p + s) (omega arith) ∙ sym (ap (λ o. ordering_then o (nat_cmp r s)) (cmp_greater x y more_first)))
  ]
]
  where
    same_first : (a b : ℕ) → a ≡ b → nat_cmp (a + r) (b + s) ≡ nat_cmp r s
    same_first a b e = elim (cases_lt r s) [
      | inl less ↦ cmp_less (a + r) (b + s) (omega arith) ∙ sym (cmp_less r s less)
      | inr upto ↦ elim (cases_eq r s) [
        | inl same ↦ cmp_equal (a + r) (b + s) (omega arith) ∙ sym (cmp_equal r s same)
        | inr other ↦ (let more : s < r = omega arith in cmp_greater (a + r) (b + s) (omega arith) ∙ sym (cmp_greater r s more))
      ]
    ]

some_power : (k : ℕ) → 0 < 256 ^ k
some_power zero = omega arith
some_power (suc k) = omega (arith, some_power k, nat.pow-suc 256 k)

-- a byte of a number above the bytes below it
lowest : (k n : ℕ) → n % 256 ^ suc k ≡ byte_at k n * 256 ^ k + n % 256 ^ k
lowest zero n = omega arith
lowest (suc k) n =
    let some : 0 < 256 ^ suc k = some_power (suc k) in
    let c : ℕ = 256 ^ suc k in
    ap (λ p. n % p) (nat.pow-suc 256 (suc k) ∙ nat.mul_comm (256 ^ suc k) 256) ∙ mod-mul n {m = 256} {c = 256 ^ suc k} (omega arith) some

byte_small : (k n : ℕ) → byte_at k n < 256
byte_small zero n = omega arith
byte_small (suc k) n = omega arith

-- the lowest bytes of two numbers, the highest first, are in the order of the numbers that these bytes are
high_cmp : (k m n : ℕ) → slice_cmp nat_cmp (bytes_high_first k m) (bytes_high_first k n) ≡ nat_cmp (m % 256 ^ k) (n % 256 ^ k)
high_cmp zero m n = sym (cmp_equal (m % 256 ^ 0) (n % 256 ^ 0) (omega arith))
high_cmp (suc k) m n =
    let some : 0 < 256 ^ k = some_power k in
    let a : m % 256 ^ k < 256 ^ k = nat.mod-lt m some in
    let b : n % 256 ^ k < 256 ^ k = nat.mod-lt n some in
    ap (ordering_then (nat_cmp (byte_at k m) (byte_at k n))) (high_cmp k m n)
    ∙ sym (parts_cmp (byte_at k m) (byte_at k n) (m % 256 ^ k) (n % 256 ^ k) (256 ^ k) a b)
    ∙ (λ i. nat_cmp (sym (lowest k m) i) (sym (lowest k n) i))

-- lists that begin with parts of one length
joined_cmp : (a b c d : List ℕ) → length a ≡ length c → slice_cmp nat_cmp (a ++ b) (c ++ d) ≡ ordering_then (slice_cmp nat_cmp a c) (slice_cmp nat_cmp b d)
joined_cmp [] b [] d h = refl
joined_cmp [] b (y ∷ c) d h = absurd (omega arith)
joined_cmp (x ∷ a) b [] d h = absurd (omega arith)
joined_cmp (x ∷ a) b (y ∷ c) d h =
    ap (ordering_then (nat_cmp x y)) (joined_cmp a b c d (omega arith)) ∙ regrouped (nat_cmp x y) (slice_cmp nat_cmp a c) (slice_cmp nat_cmp b d)
  where
    regrouped : (o p q : Ordering) → ordering_then o (ordering_then p q) ≡ ordering_then (ordering_then o p) q
    regrouped Less p q = refl
    regrouped Equal p q = refl
    regrouped Greater p q = refl

number_cmp : (m n : ℕ) → m < 2 ^ 64 → n < 2 ^ 64 → slice_cmp nat_cmp (to_be_bytes w64 m) (to_be_bytes w64 n) ≡ nat_cmp m n
number_cmp m n small also = high_cmp 8 m n ∙ (λ i. nat_cmp (whole m small i) (whole n also i))
  where
    whole : (k : ℕ) → k < 2 ^ 64 → k % 256 ^ 8 ≡ k
    whole k h = omega (arith, h)

bytes_cmp : (a b : Id) → IsId a → IsId b → slice_cmp nat_cmp (id_key a) (id_key b) ≡ nat_cmp (id_number a) (id_number b)
bytes_cmp a b x y =
    joined_cmp (to_be_bytes w64 a.ms) (to_be_bytes w64 a.seq) (to_be_bytes w64 b.ms) (to_be_bytes w64 b.seq) refl
    ∙ (λ i. ordering_then (number_cmp a.ms b.ms x.ms y.ms i) (number_cmp a.seq b.seq x.seq y.seq i))
    ∙ sym (parts_cmp a.ms b.ms a.seq b.seq (2 ^ 64) x.seq y.seq)

below_number : (a b : Id) → IsId a → IsId b → IsBelow a b → id_number a < id_number b
below_number a b x y (inl less) = omega (arith, x.seq, y.seq)
below_number a b x y (inr same) = omega (arith, same.0, same.1)

number_below : (a b : Id) → IsId a → IsId b → id_number a < id_number b → IsBelow a b
number_below a b x y h = elim (cases_lt a.ms b.ms) [
  | inl less ↦ inl less
  | inr upto ↦ inr (omega (arith, x.seq, y.seq, h), omega (arith, x.seq, y.seq, h))
]

key_back : (a : Id) → IsId a → key_id (id_key a) ≡ a
key_back a x = λ i. record { ms = from_be_bytes-to_be_bytes_8 a.ms x.ms i; seq = from_be_bytes-to_be_bytes_8 a.seq x.seq i }

one_id : (a b : Id) → IsId a → IsId b → id_number a ≡ id_number b → a ≡ b
one_id a b x y h =
    let ms : a.ms ≡ b.ms = omega (arith, x.seq, y.seq, h) in
    let seq : a.seq ≡ b.seq = omega (arith, x.seq, y.seq, h) in
    λ i. record { ms = ms i; seq = seq i }

pub id_laws : IdLaws
id_laws = record {
  below = λ a b x y. (below_number a b x y, number_below a b x y);
  bytes = bytes_cmp;
  back = key_back;
  one = one_id;
}
