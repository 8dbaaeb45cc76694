-- The collections of a file hold short texts.
use Rattle.std.proofs.Common.{◌≡◌, ℕ, zero, suc, ◌/◌, ◌%◌, ◌^◌, ◌≤◌, ◌==◌, Bool, true, false, List, [], ◌∷◌, ◌++◌, map, Result, Ok, Err, refl, sym, subst, arith}
use Rattle.std.specs.Prelude.{◌&&◌, ℤ, pos, neg_ℤ, nat_le, is_none, if◌then◌else◌}
use Rattle.std.specs.List.{AllByRecursion}
use Rattle.std.specs.FinMap.{get, insert}
use Rattle.std.proofs.lemmas.Bool.{and_parts, leb-true}
use Rattle.int_text.specs.Decimal.{canonical}
use Rattle.int_text.specs.declared.score.ScoreFault.{ScoreFault}
use Rattle.plain_world.specs.Worlds.{Value, Str, ListOf, SetOf, HashOf, SortedOf, StreamOf}
use Rattle.plain_world.specs.ScoreTexts.{score_of}
use Rattle.rdb_grammar.specs.declared.fault.LoadKind.{LoadKind}
use Rattle.rdb_grammar.specs.declared.fault.LoadKind.TheVariants as kinds
use Rattle.rdb_grammar.specs.declared.values.Collection.{Collection}
use Rattle.rdb_grammar.specs.declared.values.Collection.TheVariants as of
use Rattle.rdb_grammar.specs.declared.values.Layout.{Layout}
use Rattle.rdb_grammar.specs.declared.values.Layout.TheVariants as layouts
use Rattle.rdb_grammar.specs.declared.values.Packed.{Packed}
use Rattle.rdb_grammar.specs.declared.values.Packed.TheVariants as packs
use Rattle.rdb_grammar.specs.Format.{give, followed, told, next_found}
use Rattle.rdb_grammar.specs.Strings.{string}
use Rattle.rdb_grammar.specs.Scores.{sign, exponent, fraction, over, under, is_zero, is_whole, is_taken, magnitude, signed, score}
use Rattle.rdb_grammar.specs.Elements.{Map, fresh, with_one, without_any}
use Rattle.rdb_grammar.specs.Payloads.{texts_in, numbers_in, Pair, paired, Scored, score_or, score_in, scored, pairs_in, scores_in, all_in, unless_there, with_text, with_pair, with_scored}
use Rattle.rdb_grammar.specs.Layouts.{held, container, with_string, with_node, started, laid_on, laid}
use Rattle.fit_worlds.specs.Fit.{IsShort, AreShort, IsShortPair, IsScore, IsFitGroup}
use Rattle.fit_worlds.proofs.Each.{each_append}
use Rattle.fit_worlds.proofs.Maps.{each_empty, each_insert}
use Rattle.fit_worlds.proofs.Told.{text_score}
use Rattle.fit_files.proofs.Spelled.{Says, MeansOnly, gives, follows, checks, anything, turns, lies_in, refines, then_found, found_is}
use Rattle.fit_files.proofs.Texts.{number_short, string_short, pack_short, ShortValue}
use Rattle.fit_files.proofs.Streams.{stream_short}

-- ---- scores

-- a magnitude that is taken is at most 2^53
taken_small : (e f : ℕ) → is_taken e f ≡ true → magnitude e f ≤ 2 ^ 53
taken_small e f is =
    (elim (is_zero e f) as (λ b. (if b then true else is_whole e f) ≡ true → (if b then 0 else over e f / under e) ≤ 2 ^ 53) [
      | true ↦ λ zero. omega arith
      | false ↦ λ whole. leb-true (over e f / under e) (2 ^ 53) (and_parts (nat_le 1 e && nat_le e 2046 && (over e f % under e == 0)) (nat_le (over e f / under e) (2 ^ 53)) whole).1
    ]) is

signed_small : (sign m : ℕ) → m ≤ 2 ^ 53 → IsScore (signed sign m)
signed_small sign m small =
    elim (sign == 0) as (λ b. IsScore (if b then pos m else neg_ℤ (pos m))) [
      | true ↦ small
      | false ↦ opposite m small
    ]
  where
    opposite : (m : ℕ) → m ≤ 2 ^ 53 → IsScore (neg_ℤ (pos m))
    opposite zero small = omega arith
    opposite (suc m) small = small

score_short : Says score IsScore
score_short x word s =
    subst IsScore (sym s.5.0) (signed_small (sign s.0) (magnitude (exponent s.0) (fraction s.0)) (taken_small (exponent s.0) (fraction s.0) s.4.1))

-- ---- element by element

fresh_short : {A : Type 0} (before : Map A) → Says (fresh before) IsShort
fresh_short before = checks IsShort kinds.DuplicateElement 0 (λ text. is_none (get before text)) string string_short

one_short : (made : Value) → ShortValue made → Says (with_one made) ShortValue
one_short (Str text) short = gives ShortValue (Str text) short
one_short (ListOf elements) short =
    follows IsShort ShortValue string (λ text. give (ListOf (elements ++ text ∷ []))) string_short
    (λ text is. gives ShortValue (ListOf (elements ++ text ∷ [])) (each_append IsShort elements (text ∷ []) short (is, tt)))
one_short (SetOf members) short =
    follows IsShort ShortValue (fresh members) (λ text. give (SetOf (insert members text tt))) (fresh_short members)
    (λ text is. gives ShortValue (SetOf (insert members text tt)) (each_insert (λ member nothing. IsShort member) members text tt short is))
one_short (HashOf fields) short =
    follows IsShort ShortValue (fresh fields) (λ text. followed string λ value. give (HashOf (insert fields text value))) (fresh_short fields) (λ text is.
    follows IsShort ShortValue string (λ value. give (HashOf (insert fields text value))) string_short (λ value so.
    gives ShortValue (HashOf (insert fields text value)) (each_insert (λ field value. IsShort field × IsShort value) fields text value short (is, so))))
one_short (SortedOf scores) short =
    follows IsShort ShortValue (fresh scores) (λ text. followed score λ n. give (SortedOf (insert scores text n))) (fresh_short scores) (λ text is.
    follows IsScore ShortValue score (λ n. give (SortedOf (insert scores text n))) score_short (λ n so.
    gives ShortValue (SortedOf (insert scores text n)) (each_insert (λ member score. IsShort member × IsScore score) scores text n short (is, so))))
one_short (StreamOf stream) short = gives ShortValue (StreamOf stream) short

-- ---- packed in a string

-- the texts of numbers
canonical_short : (numbers : List ℤ) → AreShort (map canonical numbers)
canonical_short [] = tt
canonical_short (n ∷ numbers) = (number_short n, canonical_short numbers)

numbers_short : MeansOnly IsShort numbers_in AreShort
numbers_short bytes short list m = subst AreShort (sym m.1) (canonical_short _)

paired_short : (texts : List (List ℕ)) → AreShort texts → (pairs : List Pair) → paired texts ≡ Ok pairs → AllByRecursion IsShortPair pairs
paired_short [] short pairs e = found_is (AllByRecursion IsShortPair) [] pairs tt e
paired_short (x ∷ []) short pairs e = cc
paired_short (x ∷ y ∷ rest) short pairs e =
    let P = AllByRecursion IsShortPair in
    then_found P P (paired rest) (λ more. Ok ((x, y) ∷ more)) (paired_short rest short.1.1) (λ more is b. found_is P ((x, y) ∷ more) b ((short.0, short.1.0), is)) pairs e

pairs_short : MeansOnly IsShort pairs_in (AllByRecursion IsShortPair)
pairs_short = refines IsShort AreShort (AllByRecursion IsShortPair) texts_in (told paired) pack_short (λ texts short pairs e. paired_short texts short pairs e)

-- a member and its score
abbrev IsShortScored : Scored → Type 0
IsShortScored p = IsShort p.0 × IsScore p.1

score_found : (r : Result ℤ ScoreFault) → ((n : ℤ) → r ≡ Ok n → IsScore n) → (n : ℤ) → score_or r ≡ Ok n → IsScore n
score_found (Ok m) is n e = found_is IsScore m n (is m refl) e
score_found (Err fault) is n e = cc

scored_short : (pairs : List Pair) → AllByRecursion IsShortPair pairs → (list : List Scored) → scored pairs ≡ Ok list → AllByRecursion IsShortScored list
scored_short [] short list e = found_is (AllByRecursion IsShortScored) [] list tt e
scored_short (p ∷ ps) short list e =
    let P = AllByRecursion IsShortScored in
    then_found IsScore P (score_in p.1) (λ n. next_found (scored ps) λ more. Ok ((p.0, n) ∷ more)) (score_found (score_of p.1) (text_score p.1)) (λ n score.
    then_found P P (scored ps) (λ more. Ok ((p.0, n) ∷ more)) (scored_short ps short.1) (λ more is b. found_is P ((p.0, n) ∷ more) b ((short.0.0, score), is))) list e

scores_short : MeansOnly IsShort scores_in (AllByRecursion IsShortScored)
scores_short =
    refines IsShort (AllByRecursion IsShortPair) (AllByRecursion IsShortScored) pairs_in (told scored) pairs_short (λ pairs short list e. scored_short pairs short list e)

-- what is put in, one behind the other
all_short : {E : Type 0} (Is : E → Type 0) (one : Value → E → Result Value LoadKind)
    → ((made : Value) (x : E) → ShortValue made → Is x → (next : Value) → one made x ≡ Ok next → ShortValue next) → (xs : List E) → AllByRecursion Is xs
    → (made : Value) → ShortValue made → (v : Value) → all_in one made xs ≡ Ok v → ShortValue v
all_short Is one h [] is made short v e = found_is ShortValue made v short e
all_short Is one h (x ∷ xs) is made short v e =
    then_found ShortValue ShortValue (one made x) (λ more. all_in one more xs) (h made x short is.0) (λ more so b. all_short Is one h xs is.1 more so b) v e

-- where it isn't there yet
unless_short : {A : Type 0} (before : Map A) (text : List ℕ) (made v : Value) → ShortValue made → unless_there before text made ≡ Ok v → ShortValue v
unless_short before text made v short e =
    (elim (is_none (get before text)) as (λ b. (if b then Ok made else Err kinds.DuplicateElement) ≡ Ok v → ShortValue v) [
      | true ↦ λ f. found_is ShortValue made v short f
      | false ↦ λ f. cc
    ]) e

text_put : (made : Value) (text : List ℕ) → ShortValue made → IsShort text → (next : Value) → with_text made text ≡ Ok next → ShortValue next
text_put (ListOf elements) text short is next e = found_is ShortValue (ListOf (elements ++ text ∷ [])) next (each_append IsShort elements (text ∷ []) short (is, tt)) e
text_put (SetOf members) text short is next e =
    unless_short members text (SetOf (insert members text tt)) next (each_insert (λ member nothing. IsShort member) members text tt short is) e
text_put other text short is next e = found_is ShortValue other next short e

pair_put : (made : Value) (p : Pair) → ShortValue made → IsShortPair p → (next : Value) → with_pair made p ≡ Ok next → ShortValue next
pair_put (HashOf fields) p short is next e =
    unless_short fields p.0 (HashOf (insert fields p.0 p.1)) next (each_insert (λ field value. IsShort field × IsShort value) fields p.0 p.1 short is) e
pair_put other p short is next e = found_is ShortValue other next short e

scored_put : (made : Value) (p : Scored) → ShortValue made → IsShortScored p → (next : Value) → with_scored made p ≡ Ok next → ShortValue next
scored_put (SortedOf scores) p short is next e =
    unless_short scores p.0 (SortedOf (insert scores p.0 p.1)) next (each_insert (λ member score. IsShort member × IsScore score) scores p.0 p.1 short is) e
scored_put other p short is next e = found_is ShortValue other next short e

held_short : (packed : Packed) (made : Value) → ShortValue made → MeansOnly IsShort (held packed made) ShortValue
held_short packs.Numbers made short =
    refines IsShort AreShort ShortValue numbers_in (told (all_in with_text made)) numbers_short (λ texts are v e. all_short IsShort with_text text_put texts are made short v e)
held_short packs.Texts made short =
    refines IsShort AreShort ShortValue texts_in (told (all_in with_text made)) pack_short (λ texts are v e. all_short IsShort with_text text_put texts are made short v e)
held_short packs.Pairs made short =
    refines IsShort (AllByRecursion IsShortPair) ShortValue pairs_in (told (all_in with_pair made)) pairs_short (λ pairs are v e. all_short IsShortPair with_pair pair_put pairs are made short v e)
held_short packs.Scores made short =
    refines IsShort (AllByRecursion IsShortScored) ShortValue scores_in (told (all_in with_scored made)) scores_short
    (λ list are v e. all_short IsShortScored with_scored scored_put list are made short v e)

-- ---- layouts

in_string_short : (plain : Bool) (made : Value) → ShortValue made → Says (with_string plain made) ShortValue
in_string_short true made short = one_short made short
in_string_short false made short = lies_in IsShort ShortValue string (held packs.Texts made) string_short (held_short packs.Texts made short)

node_short : (made : Value) → ShortValue made → Says (with_node made) ShortValue
node_short made short = follows (λ n. Unit {0}) ShortValue container (λ n. with_string (n == 1) made) (anything container) (λ n t. in_string_short (n == 1) made short)

laid_on_short : (layout : Layout) (made : Value) → ShortValue made → Says (laid_on layout made) ShortValue
laid_on_short (layouts.Elements type n) made short = turns ShortValue with_one one_short n made short
laid_on_short (layouts.Packed packed) made short = lies_in IsShort ShortValue string (held packed made) string_short (held_short packed made short)
laid_on_short (layouts.Nodes n) made short = turns ShortValue with_node node_short n made short
laid_on_short (layouts.Stream type) made short = stream_short type

none_short : (type : Collection) → ShortValue (without_any type)
none_short of.List = tt
none_short of.Set = each_empty (λ member nothing. IsShort member)
none_short of.Hash = each_empty (λ field value. IsShort field × IsShort value)
none_short of.SortedSet = each_empty (λ member score. IsShort member × IsScore score)
none_short of.Stream = record { entries = tt; groups = each_empty IsFitGroup }

-- a collection of a file
pub laid_short : (layout : Layout) → Says (laid layout) ShortValue
laid_short layout = laid_on_short layout (without_any (started layout)) (none_short (started layout))
