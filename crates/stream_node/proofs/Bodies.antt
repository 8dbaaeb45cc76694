-- What reading the body of an entry finds.
use Rattle.std.proofs.Common.{◌≡◌, true, false, ℕ, zero, suc, ◌+◌, ◌*◌, ◌<◌, ◌≤◌, ◌^◌, List, [], ◌∷◌, ◌++◌, length, take, drop, refl, sym, ap, ◌∙◌, arith}
use Rattle.std.specs.List.{zip}
use Rattle.std.proofs.lemmas.List.{drop_at, take-append-drop, length-take-le, length-append, length-map}
use Rattle.std.proofs.lemmas.Slice.Zip.{firsts-zip, seconds-zip}
use Rattle.stream_node.specs.Entry.{Pair, number, body, size, IsBody}
use Rattle.stream_node.specs.Pairs.{alternating}
use Rattle.stream_node.specs.Reading.{LacksBody}
use Rattle.stream_node.proofs.Lists.{Texts, first, behind}
use Rattle.stream_node.proofs.Same.{same_number, values_of, flat, length_flat_in_same}
use Rattle.stream_node.proofs.Heads.{NoCount, NotThis}

-- as many values as the node has fields
many_values : (master list : Texts) (pairs : List Pair) (rest : Texts) → IsBody true master list pairs rest → length (values_of pairs) ≡ length master
many_values master list pairs rest b =
    omega (arith, length-map pairs (λ (p : Pair). p.1), length-map pairs (λ (p : Pair). p.0), ap length b.fields)

pub lacks_values : (master list : Texts) → length list < length master → LacksBody true master list
lacks_values master list few pairs rest b =
    omega (arith, few, many_values master list pairs rest b, ap length b.elements, length-append (values_of pairs) (number (size (values_of pairs)) ∷ rest))

pub lacks_values_end : (master list end : Texts) (n : ℕ) → length master ≡ n → end ≡ drop n list → NotThis (n + 3) end → LacksBody true master list
lacks_values_end master list end n many e none pairs rest b =
    let values = many_values master list pairs rest b in
    let long : size (values_of pairs) ≡ n + 3 = omega (arith, values, many) in
    none rest (e ∙ ap (drop n) b.elements ∙ drop_at (values_of pairs) (number (size (values_of pairs)) ∷ rest) n (values ∙ many) ∙ ap (λ (k : ℕ). number k ∷ rest) long)

pub is_values : (master list end rest : Texts) (n : ℕ) → length master ≡ n → n ≤ length list → end ≡ drop n list → end ≡ number (n + 3) ∷ rest
    → IsBody true master list (zip master (take n list)) rest
is_values master list end rest n many enough e f =
    let long = length-take-le n list enough in
    let same : length (take n list) ≡ length master = omega (arith, long, many) in
    let values = seconds-zip master (take n list) same in
    let size_is : n + 3 ≡ size (values_of (zip master (take n list))) = omega (arith, ap length values, long) in
    record {
      fields = firsts-zip master (take n list) same;
      elements =
          sym (take-append-drop n list)
          ∙ ap (λ (x : Texts). take n list ++ x) (sym e ∙ f)
          ∙ ap (λ (k : ℕ). take n list ++ number k ∷ rest) size_is
          ∙ ap (λ (x : Texts). x ++ number (size (values_of (zip master (take n list)))) ∷ rest) (sym values);
    }

-- the number of pairs, and these
behind_len : (master list a : Texts) (n : ℕ) (pairs : List Pair) (rest : Texts) → n < 2 ^ 63 → list ≡ number n ∷ a → IsBody false master list pairs rest
    → (n ≡ length pairs) × (a ≡ flat pairs ++ number (size (body false pairs)) ∷ rest)
behind_len master list a n pairs rest fits e b =
    let f : number n ∷ a ≡ number (length pairs) ∷ (flat pairs ++ number (size (body false pairs)) ∷ rest) = sym e ∙ b.elements in
    (same_number n (length pairs) fits b.fields.1 (ap first f), ap behind f)

pub lacks_len : (master list : Texts) → NoCount list → LacksBody false master list
lacks_len master list none pairs rest b = none (length pairs) (flat pairs ++ number (size (body false pairs)) ∷ rest) b.fields.1 b.elements

pub lacks_some_pair : (master list a : Texts) (n : ℕ) → n < 2 ^ 63 → list ≡ number n ∷ a → n ≡ 0 → LacksBody false master list
lacks_some_pair master list a n fits e is_zero pairs rest b =
    let s = behind_len master list a n pairs rest fits e b in
    omega (arith, s.0, is_zero, b.fields.0)

pub lacks_pairs : (master list a : Texts) (n : ℕ) → n < 2 ^ 63 → list ≡ number n ∷ a → length a < 2 * n → LacksBody false master list
lacks_pairs master list a n fits e few pairs rest b =
    let s = behind_len master list a n pairs rest fits e b in
    omega (arith, s.0, few, ap length s.1, length-append (flat pairs) (number (size (body false pairs)) ∷ rest), length_flat_in_same pairs)

pub lacks_pairs_end : (master list a end : Texts) (n : ℕ) → n < 2 ^ 63 → list ≡ number n ∷ a → end ≡ drop (2 * n) a → NotThis (2 * n + 4) end → LacksBody false master list
lacks_pairs_end master list a end n fits e f none pairs rest b =
    let s = behind_len master list a n pairs rest fits e b in
    let many : length (flat pairs) ≡ 2 * n = omega (arith, s.0, length_flat_in_same pairs) in
    let long : size (body false pairs) ≡ 2 * n + 4 = omega (arith, many) in
    none rest (f ∙ ap (drop (2 * n)) s.1 ∙ drop_at (flat pairs) (number (size (body false pairs)) ∷ rest) (2 * n) many ∙ ap (λ (k : ℕ). number k ∷ rest) long)

pub length_alternating : (n : ℕ) (list : Texts) → 2 * n ≤ length list → length (alternating n list) ≡ n
unfolding alternating
length_alternating zero list enough = refl
length_alternating (suc n) [] enough = absurd (omega arith)
length_alternating (suc n) (f ∷ []) enough = absurd (omega arith)
length_alternating (suc n) (f ∷ (v ∷ list)) enough = omega (arith, length_alternating n list (omega (arith, enough)))

flat_alternating : (n : ℕ) (list : Texts) → 2 * n ≤ length list → flat (alternating n list) ++ drop (2 * n) list ≡ list
unfolding alternating
flat_alternating zero list enough = refl
flat_alternating (suc n) [] enough = absurd (omega arith)
flat_alternating (suc n) (f ∷ []) enough = absurd (omega arith)
flat_alternating (suc n) (f ∷ (v ∷ list)) enough =
    let twice : 2 * suc n ≡ suc (suc (2 * n)) = omega arith in
    ap (λ (k : ℕ). (f ∷ v ∷ flat (alternating n list)) ++ drop k (f ∷ v ∷ list)) twice ∙ ap (λ (x : Texts). f ∷ v ∷ x) (flat_alternating n list (omega (arith, enough)))

pub is_pairs : (master list a end rest : Texts) (n : ℕ) → n < 2 ^ 63 → 0 < n → list ≡ number n ∷ a → 2 * n ≤ length a → end ≡ drop (2 * n) a → end ≡ number (2 * n + 4) ∷ rest
    → IsBody false master list (alternating n a) rest
is_pairs master list a end rest n fits some e enough f g =
    let many = length_alternating n a enough in
    let long : 2 * n + 4 ≡ size (body false (alternating n a)) = omega (arith, many, length_flat_in_same (alternating n a)) in
    record {
      fields = (omega (arith, many, some), omega (arith, many, fits));
      elements =
          e
          ∙ ap (λ (k : ℕ). number k ∷ a) (sym many)
          ∙ ap (λ (x : Texts). number (length (alternating n a)) ∷ x) (sym (flat_alternating n a enough) ∙ ap (λ (x : Texts). flat (alternating n a) ++ x) (sym f ∙ g))
          ∙ ap (λ (k : ℕ). number (length (alternating n a)) ∷ (flat (alternating n a) ++ number k ∷ rest)) long;
    }
