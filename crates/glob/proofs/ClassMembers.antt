-- The members of a class, one after the other.
use Rattle.std.proofs.Common.{◌≡◌, ◌≢◌, ℕ, zero, suc, ◌+◌, ◌-◌, ◌<◌, Bool, true, false, cond, ◌||◌, List, [], ◌∷◌, length, take, drop, get_or, refl, sym, ap, subst, ◌∙◌, arith}
use Rattle.glob.specs.declared.class.Member.{Member}
use Rattle.glob.specs.Class.{first_member, is_within, holds_behind, rest_behind}
use Rattle.std.proofs.lemmas.List.{take_rest, drop-drop, get_or-drop, length-drop}
use Rattle.std.proofs.lemmas.Bool.{ne_eqb}

holds_passed : (k : ℕ) (xs : List ℕ) (byte : ℕ) → holds_behind k xs byte ≡ holds_behind 0 (drop k xs) byte
holds_passed zero xs byte = refl
holds_passed (suc k) [] byte = refl
holds_passed (suc k) (x ∷ xs) byte = holds_passed k xs byte

rest_passed : (k : ℕ) (xs : List ℕ) → rest_behind k xs ≡ rest_behind 0 (drop k xs)
rest_passed zero xs = refl
rest_passed (suc k) [] = refl
rest_passed (suc k) (x ∷ xs) = rest_passed k xs

drop_behind : (n x : ℕ) (xs : List ℕ) → 0 < n → drop (n - 1) xs ≡ drop n (x ∷ xs)
drop_behind zero x xs some = absurd (omega arith)
drop_behind (suc n) x xs some = ap (λ k. drop k xs) (omega arith)

holds_step : (l : List ℕ) (byte : ℕ) → 0 < length l → get_or l 0 0 ≢ 93 → 0 < (first_member l).width →
    holds_behind 0 l byte ≡ (is_within (first_member l) byte || holds_behind 0 (drop (first_member l).width l) byte)
holds_step [] byte some other wide = absurd (omega arith)
holds_step (x ∷ xs) byte some other wide =
    let m = first_member (x ∷ xs) in
    ap (λ b. cond b false (is_within m byte || holds_behind (m.width - 1) xs byte)) (ne_eqb x 93 other)
    ∙ ap (λ b. is_within m byte || b) (holds_passed (m.width - 1) xs byte ∙ ap (λ l. holds_behind 0 l byte) (drop_behind m.width x xs wide))

rest_step : (l : List ℕ) → 0 < length l → get_or l 0 0 ≢ 93 → 0 < (first_member l).width → rest_behind 0 l ≡ rest_behind 0 (drop (first_member l).width l)
rest_step [] some other wide = absurd (omega arith)
rest_step (x ∷ xs) some other wide =
    let m = first_member (x ∷ xs) in
    ap (λ b. cond b xs (rest_behind (m.width - 1) xs)) (ne_eqb x 93 other)
    ∙ rest_passed (m.width - 1) xs ∙ ap (rest_behind 0) (drop_behind m.width x xs wide)

or_swap : (a b c : Bool) → ((a || b) || c) ≡ (b || (a || c))
or_swap true true c = refl
or_swap true false c = refl
or_swap false true c = refl
or_swap false false c = refl

first_at : (ms : List ℕ) (at : ℕ) → get_or (drop at ms) 0 0 ≡ get_or ms at 0
first_at ms at = get_or-drop at ms 0 0 ∙ ap (λ k. get_or ms k 0) (omega arith)

-- what is said of the member at hand, of those before and of those behind it
pub takes_step : (ms : List ℕ) (at byte : ℕ) (takes now : Bool) (m : Member) → at < length ms → get_or ms at 0 ≢ 93 →
    m ≡ first_member (take (length ms - at) (drop at ms)) → 0 < m.width → now ≡ (is_within m byte || takes) →
    (now || holds_behind 0 (drop (at + m.width) ms) byte) ≡ (takes || holds_behind 0 (drop at ms) byte)
takes_step ms at byte takes now m lt other is wide t =
    let l = drop at ms in
    let first : m ≡ first_member l = is ∙ ap first_member (take_rest ms at) in
    let head : get_or l 0 0 ≢ 93 = λ e. other (sym (first_at ms at) ∙ e) in
    let wide' : 0 < (first_member l).width = subst (λ n. 0 < n) (ap (λ k. k.width) first) wide in
    let step : holds_behind 0 l byte ≡ (is_within m byte || holds_behind 0 (drop m.width l) byte) =
    holds_step l byte (omega (arith, length-drop at ms)) head wide'
    ∙ ap (λ k. is_within k byte || holds_behind 0 (drop k.width l) byte) (sym first) in
    ap (λ b. b || holds_behind 0 (drop (at + m.width) ms) byte) t
    ∙ or_swap (is_within m byte) takes (holds_behind 0 (drop (at + m.width) ms) byte)
    ∙ ap (λ b. takes || (is_within m byte || b)) (ap (λ k. holds_behind 0 k byte) (sym (drop-drop m.width at ms)))
    ∙ ap (λ b. takes || b) (sym step)

pub rest_loop_step : (ms : List ℕ) (at : ℕ) (m : Member) → at < length ms → get_or ms at 0 ≢ 93 →
    m ≡ first_member (take (length ms - at) (drop at ms)) → 0 < m.width →
    rest_behind 0 (drop (at + m.width) ms) ≡ rest_behind 0 (drop at ms)
rest_loop_step ms at m lt other is wide =
    let l = drop at ms in
    let first : m ≡ first_member l = is ∙ ap first_member (take_rest ms at) in
    let head : get_or l 0 0 ≢ 93 = λ e. other (sym (first_at ms at) ∙ e) in
    let wide' : 0 < (first_member l).width = subst (λ n. 0 < n) (ap (λ k. k.width) first) wide in
    ap (rest_behind 0) (sym (drop-drop m.width at ms))
    ∙ ap (λ k. rest_behind 0 (drop k.width l)) first
    ∙ sym (rest_step l (omega (arith, length-drop at ms)) head wide')
