-- Where a spelling ends: its first bytes tell, whatever follows.
use Rattle.std.proofs.Common.{◌≡◌, ℕ, zero, suc, ◌+◌, ◌-◌, ◌≤◌, List, [], ◌∷◌, ◌++◌, length, take, drop, refl, sym, ap, subst, get_or, ◌∙◌, arith}
use Rattle.std.proofs.lemmas.List.{get_or_append_left, get_or-take, length-take-le, take-append-drop}
use Rattle.std.proofs.lemmas.Slice.{first_rest}
use Rattle.byteorder.specs.Numbers.{little_from-append, little_from-take}
use Rattle.listpack.specs.Entry.{Encoding, SmallNumber, ShortText, ThirteenBits, MediumText, LongText, Signed, NoEncoding, encoding_of, needed, needed_by, IsSpelling}

-- bytes behind those that are needed tell nothing
behind : (e : Encoding) (b : ℕ) (more rest : List ℕ) → needed_by e b more ≤ length more + 1 → needed_by e b (more ++ rest) ≡ needed_by e b more
behind SmallNumber b more rest h = refl
behind ShortText b more rest h = refl
behind ThirteenBits b more rest h = refl
behind MediumText b more rest h = let e = get_or_append_left more rest 0 0 (omega arith) in rw e refl
behind LongText b more rest h = let e = little_from-append 4 more rest (omega arith) in rw e refl
behind (Signed n) b more rest h = refl
behind NoEncoding b more rest h = absurd (omega arith)

-- and those that are needed tell all
before : (e : Encoding) (b : ℕ) (more : List ℕ) (k : ℕ) → needed_by e b more ≤ k + 1 → k ≤ length more → needed_by e b (take k more) ≡ needed_by e b more
before SmallNumber b more k h l = refl
before ShortText b more k h l = refl
before ThirteenBits b more k h l = refl
before MediumText b more k h l = let e = get_or-take k more 0 0 (omega arith) in rw e refl
before LongText b more k h l = let e = little_from-take 0 4 k more (omega arith) in rw e refl
before (Signed n) b more k h l = refl
before NoEncoding b more k h l = absurd (omega arith)

one : (e : Encoding) (b : ℕ) (more : List ℕ) → 1 ≤ needed_by e b more
one SmallNumber b more = omega arith
one ShortText b more = omega arith
one ThirteenBits b more = omega arith
one MediumText b more = omega arith
one LongText b more = omega arith
one (Signed n) b more = omega arith
one NoEncoding b more = omega arith

pub needed_pos : (s : List ℕ) → 1 ≤ needed s
unfolding needed
needed_pos [] = omega arith
needed_pos (b ∷ more) = one (encoding_of b) b more

pub spelling_pos : (s : List ℕ) → IsSpelling s → 1 ≤ length s
spelling_pos s own = let p = needed_pos s in omega (arith, p, own)

pub needed_append : (s rest : List ℕ) → IsSpelling s → needed (s ++ rest) ≡ length s
unfolding needed
needed_append [] rest own = absurd (omega (arith, own))
needed_append (b ∷ more) rest own =
    let h : needed_by (encoding_of b) b more ≤ length more + 1 = omega (arith, own) in
    behind (encoding_of b) b more rest h ∙ sym own

at_suc : (b : ℕ) (more : List ℕ) (n : ℕ) → 1 ≤ n → take n (b ∷ more) ≡ b ∷ take (n - 1) more
at_suc b more zero h = absurd (omega arith)
at_suc b more (suc n) h = let e : suc n - 1 ≡ n = omega arith in rw e refl

pub spelling_take : (w : List ℕ) → needed w ≤ length w → IsSpelling (take (needed w) w)
unfolding needed
spelling_take [] h = absurd (omega arith)
spelling_take (b ∷ more) h =
    let n : ℕ = needed_by (encoding_of b) b more in
    let p : 1 ≤ n = one (encoding_of b) b more in
    let shape : take n (b ∷ more) ≡ b ∷ take (n - 1) more = at_suc b more n p in
    let whole : length (take n (b ∷ more)) ≡ n = length-take-le n (b ∷ more) h in
    let same : needed_by (encoding_of b) b (take (n - 1) more) ≡ n = before (encoding_of b) b more (n - 1) (omega arith) (omega arith) in
    whole ∙ sym (ap needed shape ∙ same)

-- a list cut behind the bytes that are needed
pub split_parts : (rest a b : List ℕ) (n : ℕ) → 1 ≤ length rest → n ≡ needed (get_or rest 0 0 ∷ take (length rest - 1) (drop 1 rest))
    → n ≤ length rest → a ≡ take n rest → b ≡ drop n rest → (rest ≡ a ++ b) × IsSpelling a
split_parts rest a b n some e h front back =
    let whole : rest ≡ get_or rest 0 0 ∷ take (length rest - 1) (drop 1 rest) = first_rest rest 0 some in
    let same : n ≡ needed rest = e ∙ sym (ap needed whole) in
    let own : IsSpelling (take (needed rest) rest) = spelling_take rest (omega arith) in (
      sym (ap (λ (x : List ℕ). x ++ b) front ∙ ap (λ (x : List ℕ). take n rest ++ x) back ∙ take-append-drop n rest),
      subst (λ (x : List ℕ). IsSpelling x) (ap (λ (k : ℕ). take k rest) (sym same) ∙ sym front) own,
    )
