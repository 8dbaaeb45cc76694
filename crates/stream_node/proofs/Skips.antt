-- What stands behind an entry, by its flags and the number of its pairs.
use Rattle.std.proofs.Common.{◌≡◌, ◌∙◌, Bool, true, false, ℕ, ◌+◌, ◌*◌, ◌<◌, ◌≤◌, ◌^◌, ◌∷◌, length, drop, sym, ap, arith}
use Rattle.std.proofs.lemmas.Bool.Decides.{nat_tests}
use Rattle.std.proofs.lemmas.List.{drop-drop}
use Rattle.stream_node.specs.Entry.{number}
use Rattle.stream_node.specs.Entries.{behind_entry, count, element, has_same, pairs_long}
use Rattle.stream_node.proofs.Lists.{Texts}
use Rattle.stream_node.proofs.ReadBack.{count_back}

with_same : (n : ℕ) → 2 ≤ n → has_same n ≡ true
with_same n h = grind (arith, nat_tests)

without_same : (n : ℕ) → n < 2 → has_same n ≡ false
without_same n h = grind (arith, nat_tests)

count_read : (list more : Texts) (n : ℕ) → list ≡ number n ∷ more → n < 2 ^ 63 → count (element list 0) ≡ n
count_read list more n e small = ap (λ (x : Texts). count (element x 0)) e ∙ count_back n small

-- where the fields are the node's, its flags, differences, values and last element
pub behind_same : (master list more : Texts) (n k : ℕ) → list ≡ number n ∷ more → n < 2 ^ 63 → 2 ≤ n → length master ≡ k → drop (k + 3) more ≡ behind_entry master list
behind_same master list more n k e small h many =
    ap (drop (k + 3)) (sym (ap (drop 1) e))
    ∙ drop-drop (k + 3) 1 list
    ∙ sym
    (ap (λ (f : ℕ). drop (4 + pairs_long (has_same f) master (drop 3 list)) list) (count_read list more n e small)
    ∙ ap (λ (b : Bool). drop (4 + pairs_long b master (drop 3 list)) list) (with_same n h)
    ∙ ap (λ (j : ℕ). drop j list) (omega (arith, many)))

-- else the pairs, and an element behind them
pub behind_own : (master list more pairs : Texts) (n k : ℕ) → list ≡ number n ∷ more → n < 2 ^ 63 → n < 2 → drop 2 more ≡ number k ∷ pairs → k < 2 ^ 63
    → drop 1 (drop (2 * k) pairs) ≡ behind_entry master list
behind_own master list more pairs n k e small h f few =
    let three : drop 3 list ≡ number k ∷ pairs = sym (drop-drop 2 1 list) ∙ ap (λ (x : Texts). drop 2 (drop 1 x)) e ∙ f in
    let told : count (element (drop 3 list) 0) ≡ k = count_read (drop 3 list) pairs k three few in
    let four : drop 4 list ≡ pairs = sym (drop-drop 1 3 list) ∙ ap (drop 1) three in
    let shape : behind_entry master list ≡ drop (4 + (2 * k + 1)) list =
    ap (λ (x : ℕ). drop (4 + pairs_long (has_same x) master (drop 3 list)) list) (count_read list more n e small)
    ∙ ap (λ (b : Bool). drop (4 + pairs_long b master (drop 3 list)) list) (without_same n h)
    ∙ ap (λ (j : ℕ). drop j list) (omega (arith, told)) in
    drop-drop 1 (2 * k) pairs ∙ ap (drop (2 * k + 1)) (sym four) ∙ drop-drop (2 * k + 1) 4 list ∙ sym shape
