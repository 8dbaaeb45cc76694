-- The words of ZADD: options in front, then scores with their members.
use Rattle.std.proofs.Common.{◌≡◌, ◌≢◌, ◌⊎◌, ℕ, suc, ◌+◌, ◌-◌, ◌*◌, ◌<◌, ◌≤◌, List, [], ◌∷◌, ◌++◌, length, take, drop, Bool, true, false, Result, Ok, Err, Option, Some, None, refl, sym}
use Rattle.std.proofs.Common.{ap, subst, ◌∙◌, inl, inr, arith, length-drop}
use Rattle.std.specs.Prelude.{ℤ, nat_le, is_some, bytes_eq, ◌||◌, if◌then◌else◌}
use Rattle.std.specs.List.{AllByRecursion}
use Rattle.std.specs.Result.{IsOkAnd}
use Rattle.std.proofs.lemmas.Bool.{le-leb, lt-ltb}
use Rattle.std.proofs.lemmas.List.{append_assoc, drop-drop, drop_all}
use Rattle.plain_world.specs.Words.{Words, in_lower_case}
use Rattle.plain_model.specs.Shapes.{Kind, Score, told, AllTold, and_then, NamedOption, option_of, read_option, options_read}
use Rattle.plain_model.specs.ZsetWords.{add_options, options_in_front, scores_read, clash, add_of, add_words}
use Rattle.plain_model.specs.declared.command.Command.{Command}
use Rattle.plain_model.specs.declared.command.Command.TheVariants.{Zsets}
use Rattle.plain_model.specs.declared.zset_command.AddOptions.{AddOptions}
use Rattle.plain_model.specs.declared.zset_command.ZsetCommand.{ZsetCommand}
use Rattle.plain_model.specs.declared.zset_command.ZsetCommand.TheVariants as zsets
use Rattle.plain_world.specs.declared.refusal.Refusal.{Refusal}
use Rattle.plain_world.specs.declared.refusal.Refusal.TheVariants.{WrongNumberOfArguments, Syntax}
use Rattle.command_words.specs.declared.fault.ReadingFault.{ReadingFault}
use Rattle.command_words.specs.declared.fault.ReadingFault.TheVariants.{Refused, Memory}
use Rattle.command_words.specs.Readings.{word_at, keeps_list, front_options, scored, ReadsZset, Gathers, Passes, Tells}
use Rattle.command_words.proofs.Shapes.{from_place}

-- ---- options in front

module _ {A : Type 0} where
  -- the options have no words of their own
  abbrev AreWordless : List (NamedOption A) → Type 0
  AreWordless named = AllByRecursion (λ option. option.kinds ≡ []) named

  abbrev named_by : List ℕ → (kinds : List Kind) → (AllTold kinds → A → A) → NamedOption A
  named_by name kinds sets = record { name = name; kinds = kinds; sets = sets }

  read_set : (before : A) (sets : AllTold [] → A → A) (name : List ℕ) (words : Words) → read_option before (Some (named_by name [] sets)) words ≡ Ok (sets tt before, 0)
  read_set before sets name words =
      let set : Result (A × ℕ) Refusal = Ok (sets tt before, 0) in
      ap (λ b. if b then set else Err Syntax) (le-leb 0 (length words) (omega arith))

  set_by : (before : A) (kinds : List Kind) (sets : AllTold kinds → A → A) → kinds ≡ [] → (words others : Words) (name : List ℕ)
      → read_option before (Some (named_by name kinds sets)) words ≡ read_option before (Some (named_by name kinds sets)) others
  set_by before [] sets e words others name = read_set before sets name words ∙ sym (read_set before sets name others)
  set_by before (kind ∷ kinds) sets e words others name = absurd (cc e)

  -- whatever words follow, an option is read alike
  same_read : (named : List (NamedOption A)) (before : A) (lower : List ℕ) (words others : Words) → AreWordless named
      → read_option before (option_of named lower) words ≡ read_option before (option_of named lower) others
  same_read [] before lower words others h = refl
  same_read (option ∷ named) before lower words others h =
      elim (bytes_eq lower option.name) as
      (λ b. read_option before (if b then Some option else option_of named lower) words ≡ read_option before (if b then Some option else option_of named lower) others) [
        | true ↦ set_by before option.kinds option.sets h.0 words others option.name
        | false ↦ same_read named before lower words others h.1
      ]

  set_always : (before : A) (kinds : List Kind) (sets : AllTold kinds → A → A) (name : List ℕ) (words : Words) (refusal : Refusal) → kinds ≡ []
      → read_option before (Some (named_by name kinds sets)) words ≢ Err refusal
  set_always before [] sets name words refusal e h = let other : ◌≡◌ {A = Result (A × ℕ) Refusal} (Ok (sets tt before, 0)) (Err refusal) = sym (read_set before sets name words)
      ∙ h in absurd (cc other)
  set_always before (kind ∷ kinds) sets name words refusal e h = absurd (cc e)

  -- an option that is refused has another name
  refused_is_none : (named : List (NamedOption A)) (before : A) (lower : List ℕ) (words : Words) (refusal : Refusal) → AreWordless named
      → read_option before (option_of named lower) words ≡ Err refusal → is_some (option_of named lower) ≡ false
  refused_is_none [] before lower words refusal h e = refl
  refused_is_none (option ∷ named) before lower words refusal h e =
      elim (bytes_eq lower option.name) as
      (λ b. read_option before (if b then Some option else option_of named lower) words ≡ Err refusal → is_some (if b then Some option else option_of named lower) ≡ false) [
        | true ↦ λ e. absurd (set_always before option.kinds option.sets option.name words refusal h.0 e)
        | false ↦ λ e. refused_is_none named before lower words refusal h.1 e
      ] e

  read_is_some : (before : A) (option : Option (NamedOption A)) (words : Words) (read : A × ℕ) → read_option before option words ≡ Ok read → is_some option ≡ true
  read_is_some before None words read e = absurd (cc e)
  read_is_some before (Some option) words read e = refl

  own_set : (before : A) (kinds : List Kind) (sets : AllTold kinds → A → A) (name : List ℕ) (words : Words) (read : A × ℕ) → kinds ≡ []
      → read_option before (Some (named_by name kinds sets)) words ≡ Ok read → read.1 ≡ 0
  own_set before [] sets name words read e h =
      let same : ◌≡◌ {A = Result (A × ℕ) Refusal} (Ok (sets tt before, 0)) (Ok read) = sym (read_set before sets name words) ∙ h in
      let both : ◌≡◌ {A = A × ℕ} (sets tt before, 0) read = cc in
      sym (ap (λ p. p.1) both)
  own_set before (kind ∷ kinds) sets name words read e h = absurd (cc e)

  own_none : (named : List (NamedOption A)) (before : A) (lower : List ℕ) (words : Words) (read : A × ℕ) → AreWordless named → read_option before (option_of named lower) words ≡ Ok read → read.1 ≡ 0
  own_none [] before lower words read h e = absurd (cc e)
  own_none (option ∷ named) before lower words read h e =
      elim (bytes_eq lower option.name) as (λ b. read_option before (if b then Some option else option_of named lower) words ≡ Ok read → read.1 ≡ 0) [
        | true ↦ λ e. own_set before option.kinds option.sets option.name words read h.0 e
        | false ↦ λ e. own_none named before lower words read h.1 e
      ] e

wordless : AreWordless add_options
wordless = (refl, (refl, (refl, (refl, (refl, (refl, tt))))))

-- what options say that stand in front of these words, beside those before
abbrev pub front_says : AddOptions → Words → Result AddOptions Refusal
front_says before words = options_read add_options before 0 (take (options_in_front words) words)

-- an option more
pub front_step : (before after : AddOptions) (own : ℕ) (words : Words) (i : ℕ) → i < length words
    → read_option before (option_of add_options (in_lower_case (word_at words i))) (drop (i + 1) words) ≡ Ok (after, own)
    → (front_says before (drop i words) ≡ front_says after (drop (i + 1) words)) × (options_in_front (drop i words) ≡ suc (options_in_front (drop (i + 1) words)))
front_step before after own words i within e =
    let word = word_at words i in
    let rest = drop (i + 1) words in
    let lower = in_lower_case word in
    let here : drop i words ≡ word ∷ rest = from_place words i within in
    let named : is_some (option_of add_options lower) ≡ true = read_is_some before (option_of add_options lower) rest (after, own) e in
    let none : own ≡ 0 = own_none add_options before lower rest (after, own) wordless e in
    let count : options_in_front (word ∷ rest) ≡ suc (options_in_front rest) = ap (λ b. if b then suc (options_in_front rest) else 0) named in
    let front = take (options_in_front rest) rest in
    let read : read_option before (option_of add_options lower) front ≡ Ok (after, 0) = same_read add_options before lower front rest wordless ∙ e ∙ ap (λ n. Ok (after, n)) none in (
      ap (front_says before) here ∙ ap (λ n. options_read add_options before 0 (take n (word ∷ rest))) count ∙ ap (λ r. and_then r (λ read. options_read add_options read.0 read.1 front)) read,
      ap options_in_front here ∙ count,
    )

-- no option more
pub front_end : (before : AddOptions) (words : Words) (i : ℕ) (refusal : Refusal) → i < length words
    → read_option before (option_of add_options (in_lower_case (word_at words i))) (drop (i + 1) words) ≡ Err refusal → (front_says before (drop i words) ≡ Ok before)
    × (options_in_front (drop i words) ≡ 0)
front_end before words i refusal within e =
    let word = word_at words i in
    let rest = drop (i + 1) words in
    let here : drop i words ≡ word ∷ rest = from_place words i within in
    let other : is_some (option_of add_options (in_lower_case word)) ≡ false = refused_is_none add_options before (in_lower_case word) rest refusal wordless e in
    let count : options_in_front (drop i words) ≡ 0 = ap options_in_front here ∙ ap (λ b. if b then suc (options_in_front rest) else 0) other in
    (ap (λ n. options_read add_options before 0 (take n (drop i words))) count, count)

pub front_stops : (before : AddOptions) (words : Words) (i : ℕ) (fault : ReadingFault) → i < length words
    → Tells (read_option before (option_of add_options (in_lower_case (word_at words i))) (drop (i + 1) words)) (Err fault) → (front_says before (drop i words) ≡ Ok before)
    × (options_in_front (drop i words) ≡ 0)
front_stops before words i (Refused refusal) within e = front_end before words i refusal within e
front_stops before words i Memory within e = absurd e

-- ---- scores with their members

-- these pairs stand in front of what the other words are
abbrev pub behind_pairs : List (ℤ × List ℕ) → Words → Result (List (ℤ × List ℕ)) Refusal
behind_pairs pairs words = and_then (scores_read words) (λ rest. Ok (pairs ++ rest))

none_behind : (r : Result (List (ℤ × List ℕ)) Refusal) → r ≡ and_then r (λ rest. Ok ([] ++ rest))
none_behind (Ok rest) = refl
none_behind (Err refusal) = refl

pub no_pairs_yet : (words : Words) → scores_read words ≡ behind_pairs [] words
no_pairs_yet words = none_behind (scores_read words)

shift : (pairs : List (ℤ × List ℕ)) (pair : ℤ × List ℕ) (r : Result (List (ℤ × List ℕ)) Refusal)
    → and_then (and_then r (λ more. Ok (pair ∷ more))) (λ rest. Ok (pairs ++ rest)) ≡ and_then r (λ rest. Ok ((pairs ++ pair ∷ []) ++ rest))
shift pairs pair (Ok rest) = ap Ok (sym (append_assoc pairs (pair ∷ []) rest))
shift pairs pair (Err refusal) = refl

two_places : (words : Words) (i : ℕ) → i + 1 < length words → drop i words ≡ word_at words i ∷ word_at words (i + 1) ∷ drop (i + 2) words
two_places words i within =
    let next : i + 1 + 1 ≡ i + 2 = omega arith in
    from_place words i (omega (arith, within)) ∙ ap (λ l. word_at words i ∷ l) (from_place words (i + 1) within) ∙ ap (λ n. word_at words i ∷ word_at words (i + 1) ∷ drop n words) next

-- a score with its member more
pub pair_step : (pairs : List (ℤ × List ℕ)) (words : Words) (i : ℕ) (n : ℤ) → i + 1 < length words → told Score (word_at words i) ≡ Ok n
    → behind_pairs pairs (drop i words) ≡ behind_pairs (pairs ++ (n, word_at words (i + 1)) ∷ []) (drop (i + 2) words)
pair_step pairs words i n within e =
    let rest = drop (i + 2) words in
    let member = word_at words (i + 1) in
    ap (behind_pairs pairs) (two_places words i within)
    ∙ ap (λ r. and_then (and_then r (λ score. and_then (scores_read rest) (λ more. Ok ((score, member) ∷ more)))) (λ rest. Ok (pairs ++ rest))) e
    ∙ shift pairs (n, member) (scores_read rest)

first_refused : (words : Words) (word : List ℕ) (refusal : Refusal) → told Score word ≡ Err refusal → scores_read (word ∷ words) ≡ Err refusal
first_refused [] word refusal e = ap (λ r. and_then r (λ score. Err Syntax)) e
first_refused (member ∷ words) word refusal e = ap (λ r. and_then r (λ score. and_then (scores_read words) (λ pairs. Ok ((score, member) ∷ pairs)))) e

-- a word that is no score
pub score_refused : (pairs : List (ℤ × List ℕ)) (words : Words) (i : ℕ) (refusal : Refusal) → i < length words → told Score (word_at words i) ≡ Err refusal
    → behind_pairs pairs (drop i words) ≡ Err refusal
score_refused pairs words i refusal within e =
    ap (behind_pairs pairs) (from_place words i within) ∙ ap (λ r. and_then r (λ rest. Ok (pairs ++ rest))) (first_refused (drop (i + 1) words) (word_at words i) refusal e)

pub score_fails : (pairs : List (ℤ × List ℕ)) (words : Words) (i : ℕ) (fault : ReadingFault) (means : Result (List (ℤ × List ℕ)) Refusal) → means ≡ behind_pairs pairs (drop i words)
    → i < length words → Tells (told Score (word_at words i)) (Err fault) → Tells means (Err fault)
score_fails pairs words i (Refused refusal) means h within e = h ∙ score_refused pairs words i refusal within e
score_fails pairs words i Memory means h within e = absurd e

pub as_passes : (means : Result (List (ℤ × List ℕ)) Refusal) (fault : ReadingFault) → Tells means (Err fault) → Passes means (Err fault)
as_passes means (Refused refusal) h = h
as_passes means Memory h = absurd h

pub as_gathers : (means : Result (List (ℤ × List ℕ)) Refusal) (fault : ReadingFault) → Tells means (Err fault) → Gathers means (Err fault)
as_gathers means (Refused refusal) h = h
as_gathers means Memory h = absurd h

pub passes_gathers : (means : Result (List (ℤ × List ℕ)) Refusal) (fault : ReadingFault) → Passes means (Err fault) → Gathers means (Err fault)
passes_gathers means (Refused refusal) h = h
passes_gathers means Memory h = absurd h

-- a last score without a member
pub lone_score : (pairs : List (ℤ × List ℕ)) (words : Words) (i : ℕ) (n : ℤ) → i < length words → length words - i < 2 → told Score (word_at words i) ≡ Ok n
    → behind_pairs pairs (drop i words) ≡ Err Syntax
lone_score pairs words i n within last e =
    let none : drop (i + 1) words ≡ [] = drop_all (i + 1) words (omega (arith, within, last)) in
    ap (behind_pairs pairs) (from_place words i within ∙ ap (λ l. word_at words i ∷ l) none) ∙ ap (λ r. and_then (and_then r (λ score. Err Syntax)) (λ rest. Ok (pairs ++ rest))) e

append_none : {A : Type 0} (l : List A) → l ++ [] ≡ l
append_none [] = refl
append_none (a ∷ l) = ap (λ m. a ∷ m) (append_none l)

-- no word is left
pub all_pairs : (pairs : List (ℤ × List ℕ)) (words : Words) (i : ℕ) → length words ≤ i → behind_pairs pairs (drop i words) ≡ Ok pairs
all_pairs pairs words i over = ap (behind_pairs pairs) (drop_all i words over) ∙ ap Ok (append_none pairs)

-- there are twice as many words as pairs
pub pairs_count : (words : Words) (pairs : List (ℤ × List ℕ)) → scores_read words ≡ Ok pairs → length words ≡ 2 * length pairs
pairs_count [] pairs e = let none : [] ≡ pairs = cc in subst (λ (l : List (ℤ × List ℕ)). 0 ≡ 2 * length l) none refl
pairs_count (word ∷ []) pairs e = absurd (lone (told Score word) e)
  where
    lone : (r : Result ℤ Refusal) → and_then r (λ score. Err Syntax) ≢ Ok pairs
    lone (Ok score) e = cc
    lone (Err refusal) e = cc
pairs_count (word ∷ member ∷ words) pairs e = more (told Score word) (scores_read words) (pairs_count words) e
  where
    more : (r : Result ℤ Refusal) (s : Result (List (ℤ × List ℕ)) Refusal) → ((l : List (ℤ × List ℕ)) → s ≡ Ok l → length words ≡ 2 * length l)
        → and_then r (λ score. and_then s (λ l. Ok ((score, member) ∷ l))) ≡ Ok pairs → length (word ∷ member ∷ words) ≡ 2 * length pairs
    more (Ok score) (Ok l) h e =
        let is : (score, member) ∷ l ≡ pairs = cc in
        subst (λ (p : List (ℤ × List ℕ)). length (word ∷ member ∷ words) ≡ 2 * length p) is (omega (arith, h l refl))
    more (Ok score) (Err refusal) h e = cc
    more (Err refusal) s h e = cc

-- ---- the command

-- words that are refused as scores
pub scored_refused : (key : List ℕ) (options : AddOptions) (words : Words) (refusal : Refusal) → scores_read words ≡ Err refusal → scored key options words ≡ Err refusal
scored_refused key options words refusal e = ap (λ r. and_then r (add_of key options)) e

pub passes_refused : (key : List ℕ) (options : AddOptions) (words : Words) (fault : ReadingFault) → Passes (scores_read words) (Err fault) → Tells (scored key options words) (Err fault)
passes_refused key options words (Refused refusal) h = scored_refused key options words refusal h
passes_refused key options words Memory h = absurd h

breaks : (key : List ℕ) (options : AddOptions) (pairs : List (ℤ × List ℕ)) → (clash options.rules ≡ true) ⊎ (pairs ≡ []) → add_of key options pairs ≡ Err Syntax
breaks key options [] h = refl
breaks key options (pair ∷ pairs) (inl forbids) = rw forbids refl
breaks key options (pair ∷ pairs) (inr none) = cc

-- options that forbid each other, or no pair
pub scored_breaks : (key : List ℕ) (options : AddOptions) (words : Words) (pairs : List (ℤ × List ℕ)) → scores_read words ≡ Ok pairs → (clash options.rules ≡ true) ⊎ (length words ≡ 0)
    → scored key options words ≡ Err Syntax
scored_breaks key options words pairs e h =
    let count = pairs_count words pairs e in
    let why : (clash options.rules ≡ true) ⊎ (pairs ≡ []) = elim h [ inl forbids ↦ inl forbids | inr none ↦ inr (empty pairs (omega (arith, count, none))) ] in
    ap (λ r. and_then r (add_of key options)) e ∙ breaks key options pairs why
  where
    empty : (l : List (ℤ × List ℕ)) → length l ≡ 0 → l ≡ []
    empty [] e = refl
    empty (a ∷ l) e = absurd (omega (arith, e))

more_than_one : (key : List ℕ) (options : AddOptions) (pairs : List (ℤ × List ℕ)) → options.incr ≡ true → length pairs ≢ 1 → add_of key options pairs ≡ Err Syntax
more_than_one key options [] incr many = refl
more_than_one key options (pair ∷ []) incr many = absurd (many refl)
more_than_one key options (pair ∷ next ∷ pairs) incr many = rw (incr, lt-ltb 0 (length (next ∷ pairs)) (omega arith)) (by_clash (clash options.rules))
  where
    by_clash : (b : Bool) → (if b || true then Err Syntax else Ok (zsets.ZIncr key options.rules pair.0 pair.1)) ≡ Err Syntax
    by_clash true = refl
    by_clash false = refl

-- INCR with another number of pairs than one
pub increment_breaks : (key : List ℕ) (options : AddOptions) (words : Words) (pairs : List (ℤ × List ℕ)) → options.incr ≡ true → scores_read words ≡ Ok pairs → length words ≢ 2
    → scored key options words ≡ Err Syntax
increment_breaks key options words pairs incr e many =
    let count = pairs_count words pairs e in
    ap (λ r. and_then r (add_of key options)) e ∙ more_than_one key options pairs incr (λ one. many (count ∙ ap (λ n. 2 * n) one))

-- INCR with one pair
pub increment_made : (key : List ℕ) (options : AddOptions) (words : Words) (from : ℕ) (n : ℤ) → options.incr ≡ true → clash options.rules ≡ false → length words - from ≡ 2
    → told Score (word_at words from) ≡ Ok n → scored key options (drop from words) ≡ Ok (zsets.ZIncr key options.rules n (word_at words (from + 1)))
increment_made key options words from n incr allowed two e =
    let none : drop (from + 2) words ≡ [] = drop_all (from + 2) words (omega (arith, two)) in
    let places = two_places words from (omega (arith, two)) ∙ ap (λ l. word_at words from ∷ word_at words (from + 1) ∷ l) none in
    ap (scored key options) places
    ∙ ap (λ r. and_then (and_then r (λ score. Ok ((score, word_at words (from + 1)) ∷ []))) (add_of key options)) e ∙ rw (allowed, incr) refl

made_of : (key : List ℕ) (options : AddOptions) (pairs : List (ℤ × List ℕ)) → clash options.rules ≡ false → options.incr ≡ false → length pairs ≢ 0
    → add_of key options pairs ≡ Ok (zsets.ZAdd key options.rules options.ch pairs)
made_of key options [] allowed plain some = absurd (some refl)
made_of key options (pair ∷ pairs) allowed plain some = rw (allowed, plain) refl

-- pairs without INCR
pub pairs_made : (key : List ℕ) (options : AddOptions) (words : Words) (pairs : List (ℤ × List ℕ)) → clash options.rules ≡ false → options.incr ≡ false → length words ≢ 0
    → scores_read words ≡ Ok pairs → scored key options words ≡ Ok (zsets.ZAdd key options.rules options.ch pairs)
pairs_made key options words pairs allowed plain some e =
    let count = pairs_count words pairs e in
    ap (λ r. and_then r (add_of key options)) e ∙ made_of key options pairs allowed plain (λ none. some (count ∙ ap (λ n. 2 * n) none))

abbrev pub among_all : Result ZsetCommand Refusal → Result Command Refusal
among_all means = and_then means (λ command. Ok (Zsets command))

-- pairs that can't be gathered
pub pairs_missing : (key : List ℕ) (options : AddOptions) (words : Words) (fault : ReadingFault) → clash options.rules ≡ false → options.incr ≡ false → length words ≢ 0
    → Gathers (scores_read words) (Err fault) → ReadsZset (scored key options words) (Err fault)
pairs_missing key options words (Refused refusal) allowed plain some h = ap among_all (scored_refused key options words refusal h)
pairs_missing key options words Memory allowed plain some h = subst (λ r. IsOkAnd (among_all r) (λ command. keeps_list command ≡ true))
    (sym (pairs_made key options words h.0 allowed plain some h.1)) refl

-- the words behind a name
pub add_then : (words : Words) (options : AddOptions) (from : ℕ) → 4 ≤ length words → front_options (drop 2 words) ≡ Ok options → from ≡ options_in_front (drop 2 words) + 2
    → add_words (drop 1 words) ≡ scored (word_at words 1) options (drop from words)
add_then words options from many e count =
    let rest = drop 2 words in
    let front = options_in_front rest in
    let here : drop 1 words ≡ word_at words 1 ∷ rest = from_place words 1 (omega (arith, many)) in
    let test : nat_le 2 (length rest) ≡ true = le-leb 2 (length rest) (omega (arith, many, length-drop 2 words)) in
    let place : drop front rest ≡ drop from words = drop-drop front 2 words ∙ ap (λ n. drop n words) (omega (arith, count)) in
    ap add_words here
    ∙ ap (λ b. if b then and_then (front_options rest) (λ options. and_then (scores_read (drop front rest)) (add_of (word_at words 1) options)) else Err WrongNumberOfArguments) test
    ∙ ap (λ r. and_then r (λ options. and_then (scores_read (drop front rest)) (add_of (word_at words 1) options))) e
    ∙ ap (scored (word_at words 1) options) place

too_few : (own : Words) → length own < 3 → add_words own ≡ Err WrongNumberOfArguments
too_few [] few = refl
too_few (key ∷ []) few = refl
too_few (key ∷ word ∷ []) few = refl
too_few (key ∷ word ∷ other ∷ words) few = absurd (omega (arith, few))

-- fewer words than a key, a score and a member behind the name
pub add_short : (words : Words) → length words < 4 → add_words (drop 1 words) ≡ Err WrongNumberOfArguments
add_short words few = too_few (drop 1 words) (omega (arith, few, length-drop 1 words))
