-- WEIGHTS and AGGREGATE: so many scores, and what the options of a join say.
use Rattle.std.proofs.Common.{◌≡◌, ◌≢◌, ℕ, zero, suc, ◌+◌, ◌<◌, ◌≤◌, List, [], ◌∷◌, ◌++◌, length, take, drop, Bool, true, false, Result, Ok, Err, Option, Some, None, refl, sym, ap, subst}
use Rattle.std.proofs.Common.{◌∙◌, arith, add-one, length-drop}
use Rattle.std.specs.Prelude.{ℤ, pos, nat_le, codes, if◌then◌else◌}
use Rattle.std.proofs.lemmas.Bool.{le-leb}
use Rattle.std.proofs.lemmas.List.{append_assoc, drop_all, get_or-drop, get_or-take, length-take-le}
use Rattle.plain_world.specs.Words.{Words, in_lower_case}
use Rattle.plain_model.specs.Shapes.{Score, told, AllTold, all_told, and_then, NamedOption, option_of, read_option, options_read}
use Rattle.plain_model.specs.ZsetWords.{score_kinds, scores_told, ones, weighed, join_options}
use Rattle.plain_world.specs.declared.refusal.Refusal.{Refusal}
use Rattle.plain_world.specs.declared.refusal.Refusal.TheVariants.{Syntax}
use Rattle.command_words.specs.declared.fault.ReadingFault.{ReadingFault}
use Rattle.command_words.specs.declared.fault.ReadingFault.TheVariants.{Refused, Memory}
use Rattle.command_words.specs.declared.joins.JoinOptions.{JoinOptions}
use Rattle.command_words.specs.Readings.{word_at, Passes, Tells}
use Rattle.command_words.specs.Joins.{AreWeights, JoinSays, OptionSays, Said, Within, join_option, own_weights, scores_at, weight_of, weighed_keys, weights_at}
use Rattle.command_words.proofs.OptionWords.{options_read_on}
use Rattle.command_words.proofs.Shapes.{from_place}

-- ---- so many scores

by_parts : (n : ℕ) (r : Result ℤ Refusal) (s : Result (AllTold (score_kinds n)) Refusal)
    → and_then {A = AllTold (score_kinds (suc n))} (and_then r (λ a. and_then s (λ rest. Ok (a, rest)))) (λ own. Ok (scores_told (suc n) own)) ≡ and_then r
    (λ a. and_then (and_then s (λ own. Ok (scores_told n own))) (λ rest. Ok (a ∷ rest)))
by_parts n (Ok a) (Ok own) = refl
by_parts n (Ok a) (Err refusal) = refl
by_parts n (Err refusal) s = refl

-- a first score, and those behind it
first_then : (n : ℕ) (word : List ℕ) (words : Words) → scores_at (suc n) (word ∷ words) ≡ and_then (told Score word) (λ a. and_then (scores_at n words) (λ rest. Ok (a ∷ rest)))
first_then n word words = by_parts n (told Score word) (all_told (score_kinds n) words)

module _ (r : Result ℤ Refusal) (s : Result (List ℤ) Refusal) (own : List ℤ) where
  abbrev Parted : Type 0
  Parted = (a : ℤ) × (rest : List ℤ) × (r ≡ Ok a) × (s ≡ Ok rest) × (own ≡ a ∷ rest)

parted : (r : Result ℤ Refusal) (s : Result (List ℤ) Refusal) (own : List ℤ) → and_then r (λ a. and_then s (λ rest. Ok (a ∷ rest))) ≡ Ok own → Parted r s own
parted (Ok a) (Ok rest) own e = let same : own ≡ a ∷ rest = cc in (a, rest, refl, refl, same)
parted (Ok a) (Err refusal) own e = absurd (cc e)
parted (Err refusal) s own e = absurd (cc e)

first_parted : (n : ℕ) (word : List ℕ) (words : Words) (own : List ℤ) → scores_at (suc n) (word ∷ words) ≡ Ok own → Parted (told Score word) (scores_at n words) own
first_parted n word words own e = parted (told Score word) (scores_at n words) own (sym (first_then n word words) ∙ e)

no_words : (n : ℕ) (own : List ℤ) → scores_at (suc n) [] ≢ Ok own
no_words n own e = cc

-- one score more
pub scores_more : (n : ℕ) (words : Words) (own : List ℤ) (a : ℤ) → n < length words → scores_at n words ≡ Ok own → told Score (word_at words n) ≡ Ok a → scores_at (suc n) words ≡ Ok (own ++ a ∷ [])
scores_more n [] own a h e f = absurd (omega (arith, h))
scores_more zero (word ∷ words) own a h e f =
    let none : ◌≡◌ {A = List ℤ} [] own = cc in
    first_then zero word words ∙ ap (λ r. and_then r (λ a. Ok (a ∷ []))) f ∙ ap (λ (l : List ℤ). Ok (l ++ a ∷ [])) none
scores_more (suc n) (word ∷ words) own a h e f =
    let p = first_parted n word words own e in
    let rest = scores_more n words p.1 a (omega (arith, h)) p.3 f in
    first_then (suc n) word words
    ∙ ap (λ r. and_then r (λ b. and_then (scores_at (suc n) words) (λ rest. Ok (b ∷ rest)))) p.2
    ∙ ap (λ r. and_then r (λ rest. Ok (p.0 ∷ rest))) rest
    ∙ ap (λ (l : List ℤ). Ok (l ++ a ∷ [])) (sym p.4)

-- a word among them that is no score
pub scores_stop : (n m : ℕ) (words : Words) (own : List ℤ) (refusal : Refusal) → n < length words → n < m → scores_at n words ≡ Ok own → told Score (word_at words n) ≡ Err refusal
    → scores_at m words ≡ Err refusal
scores_stop n m [] own refusal h l e f = absurd (omega (arith, h))
scores_stop n zero (word ∷ words) own refusal h l e f = absurd (omega (arith, l))
scores_stop zero (suc m) (word ∷ words) own refusal h l e f = first_then m word words ∙ ap (λ r. and_then r (λ a. and_then (scores_at m words) (λ rest. Ok (a ∷ rest)))) f
scores_stop (suc n) (suc m) (word ∷ words) own refusal h l e f =
    let p = first_parted n word words own e in
    let rest = scores_stop n m words p.1 refusal (omega (arith, h)) (omega (arith, l)) p.3 f in
    first_then m word words
    ∙ ap (λ r. and_then r (λ a. and_then (scores_at m words) (λ rest. Ok (a ∷ rest)))) p.2
    ∙ ap (λ r. and_then r (λ rest. Ok (p.0 ∷ rest))) rest

at_behind : (words : Words) (place i : ℕ) → word_at (drop place words) i ≡ word_at words (place + i)
at_behind words place i = get_or-drop place words i []

-- the same of words behind a place
pub scores_step : (words : Words) (from i : ℕ) (own : List ℤ) (a : ℤ) → from + i < length words → scores_at i (drop from words) ≡ Ok own → told Score (word_at words (from + i)) ≡ Ok a
    → scores_at (i + 1) (drop from words) ≡ Ok (own ++ a ∷ [])
scores_step words from i own a within e f =
    ap (λ n. scores_at n (drop from words)) (add-one i) ∙ scores_more i (drop from words) own a (omega (arith, within, length-drop from words)) e (ap (told Score) (at_behind words from i) ∙ f)

weights_by_test : (words : Words) (n : ℕ) → n ≤ length words → own_weights n words ≡ scores_at n words
weights_by_test words n many = ap (λ b. if b then scores_at n words else Err Syntax) (le-leb n (length words) many)

pub scores_fail : (words : Words) (from i n : ℕ) (own : List ℤ) (fault : ReadingFault) → from + n ≤ length words → i < n → scores_at i (drop from words) ≡ Ok own
    → Tells (told Score (word_at words (from + i))) (Err fault) → Passes (own_weights n (drop from words)) (Err fault)
scores_fail words from i n own (Refused refusal) within l e f =
    weights_by_test (drop from words) n (omega (arith, within, length-drop from words))
    ∙ scores_stop i n (drop from words) own refusal (omega (arith, within, l, length-drop from words)) l e (ap (told Score) (at_behind words from i) ∙ f)
scores_fail words from i n own Memory within l e f = absurd f

-- as many words stand there
scores_within : (n : ℕ) (words : Words) (own : List ℤ) → scores_at n words ≡ Ok own → n ≤ length words
scores_within zero words own e = omega arith
scores_within (suc n) [] own e = absurd (no_words n own e)
scores_within (suc n) (word ∷ words) own e = let p = first_parted n word words own e in omega (arith, scores_within n words p.1 p.3)

-- the score at a place, which stands first of those from there on
module _ (r : Result ℤ Refusal) (own : List ℤ) (i : ℕ) where
  abbrev pub StandsAt : Type 0
  StandsAt = (a : ℤ) × (r ≡ Ok a) × (drop i own ≡ a ∷ drop (suc i) own)

score_in : (n : ℕ) (words : Words) (own : List ℤ) (i : ℕ) → i < n → scores_at n words ≡ Ok own → StandsAt (told Score (word_at words i)) own i
score_in zero words own i l e = absurd (omega (arith, l))
score_in (suc n) [] own i l e = absurd (no_words n own e)
score_in (suc n) (word ∷ words) own zero l e =
    let p = first_parted n word words own e in
    (p.0, p.2, subst (λ (m : List ℤ). m ≡ p.0 ∷ drop 1 m) (sym p.4) refl)
score_in (suc n) (word ∷ words) own (suc i) l e =
    let p = first_parted n word words own e in
    let rest = score_in n words p.1 i (omega (arith, l)) p.3 in
    (rest.0, rest.1, subst (λ (m : List ℤ). drop (suc i) m ≡ rest.0 ∷ drop (suc (suc i)) m) (sym p.4) rest.2)

one_in : (n i : ℕ) → i < n → drop i (ones n) ≡ pos 1 ∷ drop (suc i) (ones n)
one_in zero i l = absurd (omega (arith, l))
one_in (suc n) zero l = refl
one_in (suc n) (suc i) l = one_in n i (omega (arith, l))

-- the weight of a key
pub weight_in : (words : Words) (n : ℕ) (weights : Option ℕ) (own : List ℤ) (i : ℕ) → i < n → weights_at words n weights ≡ Ok own → StandsAt (weight_of words weights i) own i
weight_in words n None own i l e =
    let same : ones n ≡ own = cc in
    (pos 1, refl, subst (λ (m : List ℤ). drop i m ≡ pos 1 ∷ drop (suc i) m) same (one_in n i l))
weight_in words n (Some place) own i l e =
    let score = score_in n (drop place words) own i l e in
    (score.0, ap (told Score) (sym (at_behind words place i)) ∙ score.1, score.2)

pub weights_within : (words : Words) (n : ℕ) (weights : Option ℕ) (i : ℕ) → i < n → AreWeights words n weights → Within words weights i
weights_within words n None i l are = tt
weights_within words n (Some place) i l are = omega (arith, l, scores_within n (drop place words) are.0 are.1, length-drop place words)

-- ---- keys with their weights

abbrev pub keys_of : Words → ℕ → Words
keys_of words n = take n (drop 3 words)

key_in : (words : Words) (n i : ℕ) → i < n → 3 + n ≤ length words → drop i (keys_of words n) ≡ word_at words (3 + i) ∷ drop (suc i) (keys_of words n)
key_in words n i l many =
    let count : length (keys_of words n) ≡ n = length-take-le n (drop 3 words) (omega (arith, many, length-drop 3 words)) in
    let key : word_at (keys_of words n) i ≡ word_at words (3 + i) = get_or-take n (drop 3 words) i [] l ∙ at_behind words 3 i in
    from_place (keys_of words n) i (omega (arith, count, l)) ∙ ap (λ k. k ∷ drop (i + 1) (keys_of words n)) key ∙ ap (λ m. word_at words (3 + i) ∷ drop m (keys_of words n)) (add-one i)

-- a key with its weight more
pub weigh_step : (words : Words) (n : ℕ) (weights : Option ℕ) (own : List ℤ) (list : List (ℤ × List ℕ)) (i : ℕ) (a : ℤ) → i < n → 3 + n ≤ length words → weights_at words n weights ≡ Ok own
    → weight_of words weights i ≡ Ok a → list ++ weighed (drop i own) (drop i (keys_of words n)) ≡ (list ++ (a, word_at words (3 + i)) ∷ [])
    ++ weighed (drop (i + 1) own) (drop (i + 1) (keys_of words n))
weigh_step words n weights own list i a l many e f =
    let stands = weight_in words n weights own i l e in
    let both : ◌≡◌ {A = Result ℤ Refusal} (Ok stands.0) (Ok a) = sym stands.1 ∙ f in
    let same : stands.0 ≡ a = cc in
    let rest = weighed (drop (suc i) own) (drop (suc i) (keys_of words n)) in
    ap (λ m. list ++ weighed m (drop i (keys_of words n))) (stands.2 ∙ ap (λ b. b ∷ drop (suc i) own) same)
    ∙ ap (λ m. list ++ weighed (a ∷ drop (suc i) own) m) (key_in words n i l many)
    ∙ sym (append_assoc list ((a, word_at words (3 + i)) ∷ []) rest)
    ∙ ap (λ m. (list ++ (a, word_at words (3 + i)) ∷ []) ++ weighed (drop m own) (drop m (keys_of words n))) (sym (add-one i))

none_weighed : (own : List ℤ) → weighed own [] ≡ []
none_weighed [] = refl
none_weighed (a ∷ own) = refl

append_none : {A : Type 0} (l : List A) → l ++ [] ≡ l
append_none [] = refl
append_none (a ∷ l) = ap (λ m. a ∷ m) (append_none l)

-- each key has its weight
pub all_weighed : (words : Words) (n : ℕ) (weights : Option ℕ) (own : List ℤ) (list : List (ℤ × List ℕ)) → 3 + n ≤ length words → weights_at words n weights ≡ Ok own → list
    ++ weighed (drop n own) (drop n (keys_of words n)) ≡ weighed own (keys_of words n) → weighed_keys words n weights ≡ Ok list
all_weighed words n weights own list many e h =
    let count : length (keys_of words n) ≡ n = length-take-le n (drop 3 words) (omega (arith, many, length-drop 3 words)) in
    let none : drop n (keys_of words n) ≡ [] = drop_all n (keys_of words n) (omega (arith, count)) in
    let whole : list ≡ weighed own (keys_of words n) = sym (append_none list) ∙ ap (λ m. list ++ m) (sym (none_weighed (drop n own))) ∙ ap (λ m. list ++ weighed (drop n own) m) (sym none) ∙ h in
    ap (λ r. and_then r (λ own. Ok (weighed own (keys_of words n)))) e ∙ ap Ok (sym whole)

pub weighed_told : (words : Words) (n : ℕ) (weights : Option ℕ) (own : List ℤ) → weights_at words n weights ≡ Ok own → weighed_keys words n weights ≡ Ok (weighed own (keys_of words n))
weighed_told words n weights own e = ap (λ r. and_then r (λ own. Ok (weighed own (keys_of words n)))) e

-- weights that are told aren't refused
pub weight_stands : (words : Words) (n : ℕ) (weights : Option ℕ) (own : List ℤ) (i : ℕ) (fault : ReadingFault) → i < n → weights_at words n weights ≡ Ok own
    → Tells (weight_of words weights i) (Err fault) → ⊥
weight_stands words n weights own i (Refused refusal) l e h =
    let stands = weight_in words n weights own i l e in
    let both : ◌≡◌ {A = Result ℤ Refusal} (Ok stands.0) (Err refusal) = sym stands.1 ∙ h in
    absurd (cc both)
weight_stands words n weights own i Memory l e h = h

-- ---- options

kinds_count : (n : ℕ) → length (score_kinds n) ≡ n
kinds_count zero = refl
kinds_count (suc n) = ap suc (kinds_count n)

abbrev weights_option : ℕ → NamedOption Said
weights_option n = record { name = codes "weights"; kinds = score_kinds n; sets = λ own o. (scores_told n own, o.1) }

abbrev weights_set : (n : ℕ) → Said → AllTold (score_kinds n) → Result (Said × ℕ) Refusal
weights_set n before own = Ok ((scores_told n own, before.1), length (score_kinds n))

weights_by : (n : ℕ) (before : Said) (r : Result (AllTold (score_kinds n)) Refusal)
    → and_then r (weights_set n before) ≡ and_then (and_then r (λ own. Ok (scores_told n own))) (λ own. Ok ((own, before.1), n))
weights_by n before (Ok own) = ap (λ m. Ok ((scores_told n own, before.1), m)) (kinds_count n)
weights_by n before (Err refusal) = refl

-- WEIGHTS and the words behind it
weights_read : (n : ℕ) (before : Said) (words : Words) → read_option before (Some (weights_option n)) words ≡ and_then (own_weights n words) (λ own. Ok ((own, before.1), n))
weights_read n before words =
    ap (λ m. by_count (nat_le m (length words))) (kinds_count n) ∙ either (nat_le n (length words))
  where
    by_count : Bool → Result (Said × ℕ) Refusal
    by_count b = if b then and_then (all_told (score_kinds n) words) (weights_set n before) else Err Syntax

    either : (b : Bool) → by_count b ≡ and_then (if b then scores_at n words else Err Syntax) (λ own. Ok ((own, before.1), n))
    either true = weights_by n before (all_told (score_kinds n) words)
    either false = refl

module _ (words : Words) (n : ℕ) (options : JoinOptions) (i : ℕ) (are : AreWeights words n options.weights) where
  abbrev lower : List ℕ
  lower = in_lower_case (word_at words i)

  abbrev behind : Words
  behind = drop (i + 1) words

  abbrev before : Said
  before = (are.0, options.aggregate)

  abbrev means : Result (Said × ℕ) Refusal
  means = join_option words n options i

  option_here : means ≡ read_option before (option_of (join_options n) lower) behind
  option_here = ap (λ r. and_then r (λ own. read_option (own, options.aggregate) (option_of (join_options n) lower) behind)) are.1

  option_is : (option : Option (NamedOption Said)) → option_of (join_options n) lower ≡ option → means ≡ read_option before option behind
  option_is option e = option_here ∙ ap (λ o. read_option before o behind) e

  weights_are : lower ≡ codes "weights" → means ≡ read_option before (Some (weights_option n)) behind
  weights_are e = option_is (Some (weights_option n)) (ap (option_of (join_options n)) e)

  weights_then : lower ≡ codes "weights" → means ≡ and_then (own_weights n behind) (λ own. Ok ((own, options.aggregate), n))
  weights_then e = weights_are e ∙ weights_read n before behind

  pub weights_told : lower ≡ codes "weights" → n ≤ length behind → (own : List ℤ) → own_weights n behind ≡ Ok own → (scores_at n behind ≡ Ok own) × (means ≡ Ok ((own, options.aggregate), n))
  weights_told e many own h =
      let test : nat_le n (length behind) ≡ true = le-leb n (length behind) many in
      (sym (ap (λ b. if b then scores_at n behind else Err Syntax) test) ∙ h, weights_then e ∙ ap (λ r. and_then r (λ own. Ok ((own, options.aggregate), n))) h)

  pub weights_refused : lower ≡ codes "weights" → (fault : ReadingFault) → Passes (own_weights n behind) (Err fault) → OptionSays words n means (Err fault)
  weights_refused e (Refused refusal) h = weights_then e ∙ ap (λ r. and_then r (λ own. Ok ((own, options.aggregate), n))) h
  weights_refused e Memory h = absurd h

  -- ---- one option more

  pub option_step : (next : JoinOptions) (took : ℕ) (says : OptionSays words n means (Ok (next, took))) → i < length words
      → options_read (join_options n) before 0 (drop i words) ≡ options_read (join_options n) (says.0, next.aggregate) 0 (drop (i + 1 + took) words)
  option_step next took says h = options_read_on (join_options n) before (says.0, next.aggregate) took words i h (sym option_here ∙ says.2)

  pub option_fails : (fault : ReadingFault) → i < length words → OptionSays words n means (Err fault) → JoinSays words n (options_read (join_options n) before 0 (drop i words)) (Err fault)
  option_fails (Refused refusal) h says =
      ap (options_read (join_options n) before 0) (from_place words i h) ∙ ap (λ r. and_then r (λ read. options_read (join_options n) read.0 read.1 behind)) (sym option_here ∙ says)
  option_fails Memory h says = absurd says

-- no option more
pub options_end : (words : Words) (n : ℕ) (before : Said) (i : ℕ) → length words ≤ i → options_read (join_options n) before 0 (drop i words) ≡ Ok before
options_end words n before i over = ap (options_read (join_options n) before 0) (drop_all i words over)
