-- How many of some names pass a test.
use Rattle.std.proofs.Common.{◌≡◌, ◌<◌, ◌≤◌, ◌+◌, ◌++◌, inl, inr, get_or, ℕ, Bool, true, false, cond, List, [], ◌∷◌, length, length-append, refl, sym, ap, ◌∙◌, arith}
use Rattle.std.specs.Prelude.{◌&&◌}
use Rattle.std.specs.List.{filter}
use Rattle.std.specs.FinMap.{empty, len, len-empty}
use Rattle.std.specs.Ordering.{nat_cmp}
use Rattle.std.specs.Cmp.Lexicographic.{slice_cmp}
use Rattle.std.proofs.lemmas.List.Elements.{filter-append}
use Rattle.std.proofs.lemmas.Bool.{cond-true, cond-false, cases_Bool, cases_eq, eq-eqb, ne_eqb}
use Rattle.set_object.specs.Strings.{set_of, IsOnce}
use Rattle.set_object.proofs.Sets.{tied, tied_true, among, has_among, has_empty, once_cons, once_parts}
use Rattle.plain_world.specs.Worlds.{World}
use Rattle.plain_model.specs.SetSteps.{has, in_all, at_most}
use Rattle.plain_model.specs.declared.set_command.SetJoin.TheVariants.{Inter}
use Rattle.keyspace.specs.Forms.{set_at}
use Rattle.cmd_sets.specs.Joined.{sets_here, IsCounted}
use Rattle.cmd_sets.proofs.Joined.{none_joined, inter_is}

passing_one : (test : List ℕ → Bool) (q x : List ℕ) (xs : List (List ℕ)) → among q (filter test xs) ≡ (among q xs && test q) → among q (filter test (x ∷ xs)) ≡ (among q (x ∷ xs) && test q)
passing_one test q x xs h = elim (cases_Bool (tied q x)) [
  | inl same ↦ elim (cases_Bool (test x)) [
    | inl passes ↦
        ap (among q) (cond-true _ _ _ passes) ∙ cond-true _ _ _ same
        ∙ sym (ap (λ b. b && test q) (cond-true _ _ _ same) ∙ ap test (tied_true q x same) ∙ passes)
    | inr fails ↦
        ap (among q) (cond-false _ _ _ fails) ∙ h ∙ ap (λ b. among q xs && b) (ap test (tied_true q x same) ∙ fails) ∙ and_false (among q xs)
        ∙ sym (ap (λ b. b && test q) (cond-true _ _ _ same) ∙ ap test (tied_true q x same) ∙ fails)
  ]
  | inr other ↦ elim (cases_Bool (test x)) [
    | inl passes ↦ ap (among q) (cond-true _ _ _ passes) ∙ cond-false _ _ _ other ∙ h ∙ ap (λ b. b && test q) (sym (cond-false _ _ _ other))
    | inr fails ↦ ap (among q) (cond-false _ _ _ fails) ∙ h ∙ ap (λ b. b && test q) (sym (cond-false _ _ _ other))
  ]
]
  where
    and_false : (b : Bool) → (b && false) ≡ false
    and_false true = refl
    and_false false = refl

among_passing : (test : List ℕ → Bool) (q : List ℕ) (xs : List (List ℕ)) → among q (filter test xs) ≡ (among q xs && test q)
among_passing test q [] = refl
among_passing test q (x ∷ xs) = passing_one test q x xs (among_passing test q xs)

pub has_passing : (test : List ℕ → Bool) (xs : List (List ℕ)) (q : List ℕ) → has (set_of (filter test xs)) q ≡ (has (set_of xs) q && test q)
has_passing test xs q = has_among (filter test xs) q ∙ among_passing test q xs ∙ ap (λ b. b && test q) (sym (has_among xs q))

pub once_passing : (test : List ℕ → Bool) (xs : List (List ℕ)) → IsOnce xs → IsOnce (filter test xs)
once_passing test [] once = once
once_passing test (x ∷ xs) once =
    let parts = once_parts x xs once in
    let rest = once_passing test xs parts.1 in
    elim (cases_Bool (test x)) [
      | inl passes ↦ ap (λ l. len (set_of l)) (cond-true _ _ _ passes) ∙ once_cons x (filter test xs) (among_passing test x xs ∙ ap (λ b. b && test x) parts.0) rest
          ∙ sym (ap length (cond-true _ _ _ passes))
      | inr fails ↦ ap (λ l. len (set_of l)) (cond-false _ _ _ fails) ∙ rest ∙ sym (ap length (cond-false _ _ _ fails))
    ]

-- how many names pass, where one stands behind the rest
behind : (test : List ℕ → Bool) (xs rest : List (List ℕ)) (x : List ℕ) → xs ≡ rest ++ x ∷ [] → length (filter test xs) ≡ length (filter test rest) + length (filter test (x ∷ []))
behind test xs rest x is =
    ap (λ (l : List (List ℕ)). length (filter test l)) is ∙ ap length (filter-append test rest (x ∷ [])) ∙ length-append (filter test rest) (filter test (x ∷ []))

pub one_passes : (test : List ℕ → Bool) (xs rest : List (List ℕ)) (x : List ℕ) → xs ≡ rest ++ x ∷ [] → test x ≡ true → length (filter test xs) ≡ length (filter test rest) + 1
one_passes test xs rest x is passes = behind test xs rest x is ∙ ap (λ (b : Bool). length (filter test rest) + length (cond b (x ∷ []) [])) passes

pub one_fails : (test : List ℕ → Bool) (xs rest : List (List ℕ)) (x : List ℕ) → xs ≡ rest ++ x ∷ [] → test x ≡ false → length (filter test xs) ≡ length (filter test rest)
one_fails test xs rest x is fails =
    let both = behind test xs rest x is ∙ ap (λ (b : Bool). length (filter test rest) + length (cond b (x ∷ []) [])) fails in omega (arith, both)

pub none_passes : (test : List ℕ → Bool) (xs : List (List ℕ)) → length xs ≡ 0 → length (filter test xs) ≡ 0
none_passes test [] none = refl
none_passes test (x ∷ xs) none = absurd (omega (arith, none))

-- a number that has come to the limit
pub at_limit : (limit n all : ℕ) → n + 1 ≡ limit → n + 1 ≤ all → n + 1 ≡ at_most limit all
at_limit limit n all is more = sym (cond-false _ _ _ (ne_eqb limit 0 (λ none. omega (arith, none, is))) ∙ omega (arith, is, more))

-- a number below the limit, where there is one
pub below_limit : (limit n : ℕ) → (0 < limit → n < limit) → n ≡ at_most limit n
below_limit limit n below = elim (cases_eq limit 0) [
  | inl none ↦ sym (cond-true _ _ _ (eq-eqb limit 0 none))
  | inr some ↦ (let less : n < limit = below (omega (arith, some)) in sym (cond-false _ _ _ (ne_eqb limit 0 some) ∙ omega (arith, less)))
]

-- ---- the members that are counted

pub none_counted : (limit : ℕ) (world : World) (keys : List (List ℕ)) → length keys ≡ 0 → IsCounted limit (sets_here world keys) 0
none_counted limit world keys none = (
  empty,
  none_joined Inter world keys empty none has_empty,
  below_limit limit 0 (λ some. some) ∙ ap (at_most limit) (sym (len-empty (slice_cmp nat_cmp) (Unit {0}))),
)

pub shared_counted : (limit : ℕ) (world : World) (keys : List (List ℕ)) (i : ℕ) (key : List ℕ) (names : List (List ℕ)) (count : ℕ) → i < length keys → key ≡ get_or keys i key
    → set_of names ≡ set_at world key → IsOnce names
    → count ≡ at_most limit (length (filter (in_all (sets_here world keys)) names)) → IsCounted limit (sets_here world keys) count
shared_counted limit world keys i key names count inside is same once counted =
    let test = in_all (sets_here world keys) in (
      set_of (filter test names),
      inter_is world keys i key (set_of names) (set_of (filter test names)) inside is same (has_passing test names),
      counted ∙ ap (at_most limit) (sym (once_passing test names once)),
    )
