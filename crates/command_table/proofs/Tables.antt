-- The code's table against the rows of the definition.
use Rattle.std.proofs.Common.{◌≡◌, ◌≢◌, ℕ, List, [], ◌∷◌, length, map, Bool, true, false, Err, Option, Some, None, bytes_eq, refl, sym, ap, subst, ◌∙◌}
use Rattle.std.proofs.lemmas.List.{length-map}
use Rattle.std.specs.Prelude.{if◌then◌else◌, ◌&&◌, ◌||◌, ◌==◌}
use Rattle.std.specs.List.{AllByRecursion}
use Rattle.std.specs.Char.{to_ascii_lowercase}
use Rattle.std.proofs.lemmas.Bool.{eq-eqb, ne_eqb}
use Rattle.std.proofs.lemmas.Slice.Eq.{bytes_eq-Decides}
use Rattle.plain_world.specs.Words.{Words, in_lower_case}
use Rattle.plain_model.specs.Shapes.{Row as Definition}
use Rattle.plain_model.specs.Meant.{rows as all_rows, read_by, meant}
use Rattle.plain_model.specs.declared.command.Command.{Command}
use Rattle.plain_world.specs.declared.refusal.Refusal.TheVariants.{UnknownCommand}
use Rattle.command_table.specs.declared.table.Row.{Row}
use Rattle.command_table.specs.declared.table.Name.{Name}
use Rattle.command_words.proofs.Told.{both}
use Rattle.command_table.specs.Rows.{names, is_among, covered, IsTable, name_of, found_in, Finds}

-- no name is the word
abbrev IsNone : List ℕ → List (List ℕ) → Type 0
IsNone lower ns = AllByRecursion (λ n. bytes_eq lower n ≡ false) ns

-- a word that is no name means no command
unknown : (rows : List (Definition Command)) (lower : List ℕ) (words : Words) → IsNone lower (map (λ row. row.name) rows) → read_by rows lower words ≡ Err UnknownCommand
unknown [] lower words h = refl
unknown (row ∷ rows) lower words h = ap (λ b. if b then row.read words else read_by rows lower words) h.0 ∙ unknown rows lower words h.1

among_none : (lower n : List ℕ) (others : List (List ℕ)) → IsNone lower others → is_among others n ≡ true → bytes_eq lower n ≡ false
among_none lower n [] h e = cc
among_none lower n (other ∷ others) h e =
    elim (bytes_eq n other) as (λ b. bytes_eq n other ≡ b → (b || is_among others n) ≡ true → bytes_eq lower n ≡ false) [
      | true ↦ λ s e. ap (bytes_eq lower) ((bytes_eq-Decides n other).0 s) ∙ h.0
      | false ↦ λ s e. among_none lower n others h.1 e
    ] refl e

none_of_length : (lower : List ℕ) (ns others : List (List ℕ)) → IsNone lower others → covered (length lower) ns others ≡ true → IsNone lower ns
none_of_length lower [] others h e = tt
none_of_length lower (n ∷ ns) others h e =
    let parts = both (if length n == length lower then is_among others n else true) (covered (length lower) ns others) e in
    let here : bytes_eq lower n ≡ false =
    elim (bytes_eq lower n) as (λ b. bytes_eq lower n ≡ b → b ≡ false) [
      | false ↦ λ s. refl
      | true ↦ λ s.
          let same : lower ≡ n = (bytes_eq-Decides lower n).0 s in
          let lengths : (length n == length lower) ≡ true = eq-eqb (length n) (length lower) (ap length (sym same)) in
          let among : is_among others n ≡ true = sym (ap (λ b. if b then is_among others n else true) lengths) ∙ parts.0 in
          sym s ∙ among_none lower n others h among
    ] refl in
    (here, none_of_length lower ns others h parts.1)

-- what the look-up among some rows tells
abbrev FindsIn : List Row → List ℕ → Option Name → Type 0
FindsIn rows lower None = IsNone lower (map (λ row. in_lower_case row.0.now) rows)
FindsIn rows lower (Some found) = lower ≡ name_of found

abbrev pub IsRow : Row → Type 0
IsRow row = in_lower_case row.0.now ≡ name_of row.1

one_more : (row : Row) (rows : List Row) (lower : List ℕ) (answer : Option Name) → bytes_eq lower (in_lower_case row.0.now) ≡ false → FindsIn rows lower answer → FindsIn (row ∷ rows) lower answer
one_more row rows lower None e h = (e, h)
one_more row rows lower (Some found) e h = h

finds_in : (rows : List Row) (word : List ℕ) → AllByRecursion IsRow rows → FindsIn rows (in_lower_case word) (found_in rows word)
finds_in [] word h = tt
finds_in (row ∷ rows) word h =
    let lower = in_lower_case word in
    elim (bytes_eq lower (in_lower_case row.0.now)) as (λ b. bytes_eq lower (in_lower_case row.0.now) ≡ b → FindsIn (row ∷ rows) lower (if b then Some row.1 else found_in rows word)) [
      | true ↦ λ e. (bytes_eq-Decides lower (in_lower_case row.0.now)).0 e ∙ h.0
      | false ↦ λ e. one_more row rows lower (found_in rows word) e (finds_in rows word h.1)
    ] refl

finds_all : (rows : List Row) (word : List ℕ) (answer : Option Name) → covered (length (in_lower_case word)) names (map (λ row. in_lower_case row.0.now) rows) ≡ true
    → FindsIn rows (in_lower_case word) answer → Finds word answer
finds_all rows word None covers h = λ words. unknown all_rows (in_lower_case word) words (none_of_length (in_lower_case word) names _ h covers)
finds_all rows word (Some found) covers h = h

each_row : (rows : List Row) → map (λ row. in_lower_case row.0.now) rows ≡ map (λ row. name_of row.1) rows → AllByRecursion IsRow rows
each_row [] e = tt
each_row (row ∷ rows) e =
    let here : in_lower_case row.0.now ≡ name_of row.1 = cc in
    let behind : map (λ (row : Row). in_lower_case row.0.now) rows ≡ map (λ row. name_of row.1) rows = cc in
    (here, each_row rows behind)

pub finds : (rows : List Row) (word : List ℕ) (answer : Option Name) → IsTable rows (length word) → answer ≡ found_in rows word → Finds word answer
finds rows word answer table e =
    let lengths : length word ≡ length (in_lower_case word) = sym (length-map word to_ascii_lowercase) in
    let C : ℕ → Type 0 = λ n. covered n names (map (λ row. in_lower_case row.0.now) rows) ≡ true in
    subst (Finds word) (sym e) (finds_all rows word (found_in rows word) (subst C lengths table.whole) (finds_in rows word (each_row rows table.right)))

-- a name has one of these lengths
abbrev is_length : ℕ → Bool
is_length n =
    (n == 3) || ((n == 4) || ((n == 5) || ((n == 6) || ((n == 7) || ((n == 8) || ((n == 9) || ((n == 10) || ((n == 11) || ((n == 13) || ((n == 15) || (n == 16)))))))))))

abbrev are_lengths : List (List ℕ) → Bool
are_lengths [] = true
are_lengths (n ∷ ns) = is_length (length n) && are_lengths ns

none_covered : (len : ℕ) → is_length len ≡ false → (ns : List (List ℕ)) → are_lengths ns ≡ true → covered len ns [] ≡ true
none_covered len h [] e = refl
none_covered len h (n ∷ ns) e =
    let parts = both (is_length (length n)) (are_lengths ns) e in
    let differs : length n ≢ len = λ same. cc (sym parts.0 ∙ ap is_length same ∙ h) in
    let other : (length n == len) ≡ false = ne_eqb (length n) len differs in
    ap (λ b. (if b then false else true) && covered len ns []) other ∙ none_covered len h ns parts.1

no_length : (n : ℕ) → n ≢ 3 → n ≢ 4 → n ≢ 5 → n ≢ 6 → n ≢ 7 → n ≢ 8 → n ≢ 9 → n ≢ 10 → n ≢ 11 → n ≢ 13 → n ≢ 15 → n ≢ 16 → is_length n ≡ false
no_length n n3 n4 n5 n6 n7 n8 n9 n10 n11 n13 n15 n16 =
    rw (
      ne_eqb n 3 n3,
      ne_eqb n 4 n4,
      ne_eqb n 5 n5,
      ne_eqb n 6 n6,
      ne_eqb n 7 n7,
      ne_eqb n 8 n8,
      ne_eqb n 9 n9,
      ne_eqb n 10 n10,
      ne_eqb n 11 n11,
      ne_eqb n 13 n13,
      ne_eqb n 15 n15,
      ne_eqb
          n 16 n16,
    ) refl

-- a word with a length that no command's name has names none
pub no_name : (word : List ℕ) → length word ≢ 3 → length word ≢ 4 → length word ≢ 5 → length word ≢ 6 → length word ≢ 7 → length word ≢ 8 → length word ≢ 9 → length word ≢ 10
    → length word ≢ 11 → length word ≢ 13 → length word ≢ 15 → length word ≢ 16 → (words : Words) → meant (word ∷ words) ≡ Err UnknownCommand
no_name word n3 n4 n5 n6 n7 n8 n9 n10 n11 n13 n15 n16 words =
    let lower = in_lower_case word in
    let lengths : length lower ≡ length word = length-map word to_ascii_lowercase in
    let none : is_length (length lower) ≡ false = ap is_length lengths ∙ no_length (length word) n3 n4 n5 n6 n7 n8 n9 n10 n11 n13 n15 n16 in
    unknown all_rows lower words (none_of_length lower names [] tt (none_covered (length lower) none names refl))
