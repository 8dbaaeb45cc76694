use Rattle.std.proofs.Common.{◌≡◌, ℕ, suc, ◌-◌, ◌<◌, ◌^◌, List, [], ◌∷◌, drop, map, length, max, Option, Some, None, refl, sym, ap, ◌∙◌, subst, arith, w64}
use Rattle.std.specs.Prelude.{ℤ, pos}
use Rattle.std.specs.List.{slice_get}
use Rattle.std.proofs.lemmas.Int.{to_z-of_z}
use Rattle.std.proofs.lemmas.Option.{slice_get-get_or}
use lib.Signed.{mag}
use Rattle.int_text.specs.Decimal.{canonical}
use Rattle.set_object.specs.Strings.{longest}
use Rattle.set_object.proofs.Texts.{longest_from, at_fit, AreFit}
use Rattle.set_object.proofs.packs.longest_number.Goals as goal

none_left : (ns : List ℤ) → longest (map canonical (drop (length ns) ns)) ≡ 0
none_left [] = refl
none_left (n ∷ ns) = none_left ns

all_left : (ns : List ℤ) → drop 0 ns ≡ ns
all_left [] = refl
all_left (n ∷ ns) = refl

never : (o : Option ℤ) (n : ℤ) → o ≡ Some n → None ≡ o → ⊥
never o n h k = cc

pub loop-index-init : goal.loop-index-init
loop-index-init c =
    let ns = c.known-numbers.result in
    sym (none_left ns) ∙ ap (λ (k : ℕ). longest (map canonical (drop k ns))) (sym c.len-index.ensures.value)

pub loop-index-preserved-in-Some : goal.loop-index-preserved-in-Some
loop-index-preserved-in-Some c =
    let ns = c.known-numbers.result in
    let k = c.loop-index.index - 1 in
    let n = c.in-Some.n in
    let at : slice_get ns k ≡ Some n = sym c.in-Some.ensures in
    let small : mag n < 2 ^ 63 = at_fit ns k n (subst AreFit (sym c.known-numbers.ensures) c.requires.fit) at in
    let len : c.text_len.result ≡ length (canonical n) = rw (to_z-of_z w64 n (record { sfits = small })) at c.text_len.ensures in
    let next : suc k ≡ c.loop-index.index = omega (arith, c.loop-index-test.true) in
    let here = longest_from ns k n at in
    let rest : longest (map canonical (drop (suc k) ns)) ≡ c.loop-index.most = ap (λ (j : ℕ). longest (map canonical (drop j ns))) next ∙ sym c.loop-index.invariant in
    c.max-most.ensures ∙ ap (λ (a : ℕ). max a c.loop-index.most) len ∙ ap (max (length (canonical n))) (sym rest) ∙ sym here

pub loop-index-preserved : goal.loop-index-preserved
loop-index-preserved c =
    let ns = c.known-numbers.result in
    let k = c.loop-index.index - 1 in
    absurd (never (slice_get ns k) _ (slice_get-get_or ns k (pos 0) (let l = c.len-index.ensures.value in omega (arith, l, c.loop-index.auto.index, c.loop-index-test.true))) c.in_default.ensures)

pub returns : goal.returns
returns c =
    let ns = c.known-numbers.result in
    let first : c.loop-index.index ≡ 0 = omega (arith, c.loop-index-test.false) in
    c.loop-index.invariant ∙ ap (λ (j : ℕ). longest (map canonical (drop j ns))) first ∙ ap (λ (xs : List ℤ). longest (map canonical xs)) (all_left ns ∙ c.known-numbers.ensures)
