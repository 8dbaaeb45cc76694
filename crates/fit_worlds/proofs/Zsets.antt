-- Commands on sorted sets leave a fit world.
use Rattle.std.proofs.Common.{◌≡◌, ℕ, ◌≤◌, ◌-◌, ◌^◌, ◌==◌, List, [], ◌∷◌, length, map, take, drop, Bool, true, false, cond, Ok, Err, Option, Some, None, refl, sym, ap, subst, ◌∙◌, arith}
use Rattle.std.specs.Prelude.{nat_le, is_some, ℤ, pos, negsuc, ◌+ℤ◌, codes, if◌then◌else◌}
use Rattle.std.specs.List.{AllByRecursion}
use Rattle.std.specs.Ordering.{nat_cmp, eq_by_cmp}
use Rattle.std.specs.Cmp.Lexicographic.{slice_cmp, nat_list_cmp_total}
use Rattle.std.specs.FinMap.{FinMap, empty, entries, find, get, get-entries, get-from_entries, insert, len}
use Rattle.std.specs.FinMap as finite
use Rattle.std.proofs.lemmas.Bool.{and_parts, leb-true}
use Rattle.int_text.specs.Decimal.{canonical}
use Rattle.plain_world.specs.Words.{Words}
use Rattle.plain_world.specs.Worlds.{World, Value, SetOf, SortedOf, put, remove}
use Rattle.plain_world.specs.declared.refusal.Refusal.TheVariants.{WrongNumberOfArguments, Syntax, NotAWholeScore}
use Rattle.plain_world.specs.declared.reply.Part.{Part}
use Rattle.plain_world.specs.declared.reply.Part.TheVariants.{Bulk, Null}
use Rattle.plain_model.specs.Outcomes.{Outcome, leaves, tells, refused}
use Rattle.plain_model.specs.OfType.{zset_in, keep}
use Rattle.plain_model.specs.Shapes.{Plain, Whole, Score, Bound, Keys, told, and_then, counted, options_read, with_options}
use Rattle.plain_model.specs.ZsetWords.{zset_rows, no_rules, add_options, no_add_options, options_in_front, scores_read, add_breaks, add_of, add_words, direction, with_scores_option}
use Rattle.plain_model.specs.ZsetWords.{limit_option, range_options, no_range_options}
use Rattle.plain_model.specs.ZsetWords.{rank_range_of, score_range_of, asks_scores, range_words, score_range_words, rank_words, join_options, no_join_options, weighed, join_of, join_words}
use Rattle.plain_model.specs.ListSteps.{tells_number}
use Rattle.plain_model.specs.ZsetSteps.{Scores, Scored, on_zset, or_no_scores, keep_zset, ranked, met, without_members, permits, admits, passes, write_score, write_scores, add_scores}
use Rattle.plain_model.specs.ZsetSteps.{add_to, is_score, or_zero, raise_to, raise}
use Rattle.plain_model.specs.ZsetSteps.{drop_members, within, members_of, drop_part, or_one, pop, one_each, scores_in, score_with, weighted, score_from, have_all, IsJoin, are_scores}
use Rattle.plain_model.specs.ZsetSteps.{store_zset, store_scores, StoresScores}
use Rattle.plain_model.specs.ZsetSteps.{weights_of, zsets_at, zset_outcome, may_zsets}
use Rattle.plain_model.specs.ListSteps.{list_range}
use Rattle.plain_model.specs.declared.zset_command.ZsetCommand.{ZsetCommand}
use Rattle.plain_model.specs.declared.zset_command.ZsetCommand.TheVariants as zsets
use Rattle.plain_model.specs.declared.zset_command.Direction.{Direction}
use Rattle.plain_model.specs.declared.zset_command.Direction.TheVariants.{Rising, Falling}
use Rattle.plain_model.specs.declared.zset_command.ScoreBound.{ScoreBound}
use Rattle.plain_model.specs.declared.zset_command.ScoreRules.{ScoreRules}
use Rattle.plain_model.specs.declared.zset_command.ScoreJoin.{ScoreJoin}
use Rattle.plain_model.specs.declared.zset_command.ScoreJoin.TheVariants.{Inter, Union}
use Rattle.plain_model.specs.declared.zset_command.Aggregate.{Aggregate}
use Rattle.plain_model.specs.declared.zset_command.AddOptions.{AddOptions}
use Rattle.plain_model.specs.declared.zset_command.RangeOptions.{RangeOptions}
use Rattle.plain_model.proofs.Told.{then_told, if_has, never, made}
use Rattle.fit_worlds.specs.Fit.{IsShort, AreShort, IsScore, EachIs, IsFitValue, IsFit}
use Rattle.fit_worlds.proofs.Each.{each_drop}
use Rattle.fit_worlds.proofs.Maps.{each_empty, each_insert, each_remove, some_len}
use Rattle.fit_worlds.proofs.Told.{◌⊗◌, RowKeeps, ReadingKeeps, told_keeps, fixed_makes, repeated_makes, options_keep, options_make, amount_keeps, picked_keeps, page_keeps, counted_keeps}
use Rattle.fit_worlds.proofs.Worlds.{fit_put, fit_remove, fit_keep, fit_on_type, fit_told, fit_may_tell, fit_may_do_of, fit_sources, fit_outcome}

-- ---- what the words of a command that writes are

-- a score with its member
abbrev pub IsShortScored : Scored → Type 0
IsShortScored pair = IsScore pair.0 × IsShort pair.1

abbrev pub ShortZsets : ZsetCommand → Type 0
ShortZsets (zsets.ZAdd key rules ch pairs) = IsShort key × AllByRecursion IsShortScored pairs
ShortZsets (zsets.ZIncr key rules by member) = IsShort key × IsShort member
ShortZsets (zsets.ZJoinStore join to keys how) = IsShort to
ShortZsets other = Unit {0}

scores_short : (words : Words) → AreShort words → (pairs : List Scored) → scores_read words ≡ Ok pairs → AllByRecursion IsShortScored pairs
scores_short [] short pairs e = made (AllByRecursion IsShortScored) [] pairs tt e
scores_short (word ∷ []) short pairs e = then_told (AllByRecursion IsShortScored) (told Score word) (λ score. Err Syntax) (λ score is b. never (AllByRecursion IsShortScored) Syntax b) pairs e
scores_short (word ∷ member ∷ words) short pairs e =
    let P = AllByRecursion IsShortScored in
    then_told P (told Score word) (λ score. and_then (scores_read words) (λ rest. Ok ((score, member) ∷ rest))) (λ score is.
    then_told P (scores_read words) (λ rest. Ok ((score, member) ∷ rest)) (λ rest are b.
    made P ((score, member) ∷ rest) b ((told_keeps Score word short.0 score is, short.1.0), scores_short words short.1.1 rest are))) pairs e

add_short : (key : List ℕ) (options : AddOptions) (pairs : List Scored) → IsShort key → AllByRecursion IsShortScored pairs → (c : ZsetCommand) → add_of key options pairs ≡ Ok c → ShortZsets c
add_short key options [] is short c e = cc
add_short key options (pair ∷ pairs) is short c e =
    if_has ShortZsets (add_breaks options pairs) (Err Syntax)
    (if options.incr then Ok (zsets.ZIncr key options.rules pair.0 pair.1) else Ok (zsets.ZAdd key options.rules options.ch (pair ∷ pairs))) (never ShortZsets Syntax)
    (if_has ShortZsets options.incr (Ok (zsets.ZIncr key options.rules pair.0 pair.1)) (Ok (zsets.ZAdd key options.rules options.ch (pair ∷ pairs)))
    (λ b. made ShortZsets (zsets.ZIncr key options.rules pair.0 pair.1) b (is, short.0.1))
    (λ b. made ShortZsets (zsets.ZAdd key options.rules options.ch (pair ∷ pairs)) b (is, short))) c e

add_words_short : ReadingKeeps ShortZsets add_words
add_words_short [] short c e = cc
add_words_short (key ∷ words) short c e =
    let front = options_in_front words in
    let options = options_read add_options no_add_options 0 (take front words) in
    if_has ShortZsets (nat_le 2 (length words)) (and_then options (λ o. and_then (scores_read (drop front words)) (add_of key o))) (Err WrongNumberOfArguments)
    (then_told ShortZsets options (λ o. and_then (scores_read (drop front words)) (add_of key o)) (λ o is.
    then_told ShortZsets (scores_read (drop front words)) (add_of key o) (λ pairs are.
    add_short key o pairs short.0 (scores_short (drop front words) (each_drop IsShort front words short.1) pairs are)))) (never ShortZsets WrongNumberOfArguments) c e

-- a range of scores, from whichever end, writes nothing
range_short : (key : List ℕ) (a b : ScoreBound) (rev : Bool) (options : RangeOptions) → ShortZsets (score_range_of key a b rev options)
range_short key a b false options = tt
range_short key a b true options = tt

rank_range_short : (key : List ℕ) (a b : ℤ) (options : RangeOptions) (c : ZsetCommand) → rank_range_of key a b options ≡ Ok c → ShortZsets c
rank_range_short key a b options c =
    let own : ZsetCommand = zsets.ZRange key a b (direction options.rev) options.with_scores in
    if_has ShortZsets (is_some options.limit) (Err Syntax) (Ok own) (never ShortZsets Syntax) (λ b. made ShortZsets own b tt) c

range_words_short : ReadingKeeps ShortZsets range_words
range_words_short words short c e =
    if_has ShortZsets (asks_scores (drop 3 words))
    (with_options (Plain ∷ Bound ∷ Bound ∷ []) range_options no_range_options (λ a o. Ok (score_range_of a.0 a.1.0 a.1.1.0 o.rev o)) words)
    (with_options (Plain ∷ Whole ∷ Whole ∷ []) range_options no_range_options (λ a o. rank_range_of a.0 a.1.0 a.1.1.0 o) words)
    (options_make ShortZsets (Plain ∷ Bound ∷ Bound ∷ []) range_options no_range_options (λ a o. score_range_of a.0 a.1.0 a.1.1.0 o.rev o) (λ a k o. range_short a.0 a.1.0 a.1.1.0 o.rev o) words short)
    (options_keep ShortZsets (Plain ∷ Whole ∷ Whole ∷ []) range_options no_range_options (λ a o. rank_range_of a.0 a.1.0 a.1.1.0 o) (λ a k o. rank_range_short a.0 a.1.0 a.1.1.0 o) words short) c e

score_range_short : (rev : Bool) → ReadingKeeps ShortZsets (score_range_words rev)
score_range_short rev =
    options_make ShortZsets (Plain ∷ Bound ∷ Bound ∷ []) (with_scores_option ∷ limit_option ∷ []) no_range_options (λ a o. score_range_of a.0 a.1.0 a.1.1.0 rev o)
    (λ a k o. range_short a.0 a.1.0 a.1.1.0 rev o)

rank_short : (from : Direction) → ReadingKeeps ShortZsets (rank_words from)
rank_short from =
    options_make ShortZsets (Plain ∷ Plain ∷ []) (record { name = codes "withscore"; kinds = []; sets = λ own o. true } ∷ []) false (λ a o. zsets.ZRank a.0 a.1.0 from o) (λ a k o. tt)

join_words_short : (join : ScoreJoin) → ReadingKeeps ShortZsets (join_words join)
join_words_short join [] short c e = cc
join_words_short join (to ∷ []) short c e = cc
join_words_short join (to ∷ n ∷ words) short c e =
    if_has ShortZsets (nat_le 1 (length words)) (and_then (told Keys n) (λ count. counted (join_of join to count) count words)) (Err WrongNumberOfArguments)
    (then_told ShortZsets (told Keys n) (λ count. counted (join_of join to count) count words) (λ count is. counted_keeps ShortZsets (join_of join to count) (λ keys rest b.
    then_told ShortZsets (options_read (join_options count) (no_join_options count) 0 rest) (λ read. Ok (zsets.ZJoinStore join to (weighed read.0 keys) read.1)) (λ read are d.
    made ShortZsets (zsets.ZJoinStore join to (weighed read.0 keys) read.1) d short.0) b) count words)) (never ShortZsets WrongNumberOfArguments) c e

pub zset_rows_short : AllByRecursion (RowKeeps ShortZsets) zset_rows
zset_rows_short =
    add_words_short
    ⊗ fixed_makes ShortZsets (Plain ∷ Score ∷ Plain ∷ []) (λ a. zsets.ZIncr a.0 no_rules a.1.0 a.1.1.0) (λ a k. (k.0, k.1.1.0))
    ⊗ repeated_makes ShortZsets (Plain ∷ []) 1 (λ a own. zsets.ZRem a.0 own) (λ a k rest short. tt)
    ⊗ fixed_makes ShortZsets (Plain ∷ Plain ∷ []) (λ a. zsets.ZScore a.0 a.1.0) (λ a k. tt)
    ⊗ repeated_makes ShortZsets (Plain ∷ []) 1 (λ a own. zsets.ZMScore a.0 own) (λ a k rest short. tt)
    ⊗ fixed_makes ShortZsets (Plain ∷ []) (λ a. zsets.ZCard a.0) (λ a k. tt)
    ⊗ fixed_makes ShortZsets (Plain ∷ Bound ∷ Bound ∷ []) (λ a. zsets.ZCount a.0 a.1.0 a.1.1.0) (λ a k. tt)
    ⊗ rank_short Rising
    ⊗ rank_short Falling
    ⊗ range_words_short
    ⊗ options_make ShortZsets (Plain ∷ Whole ∷ Whole ∷ []) (with_scores_option ∷ []) no_range_options (λ a o. zsets.ZRange a.0 a.1.0 a.1.1.0 Falling o.with_scores) (λ a k o. tt)
    ⊗ score_range_short false
    ⊗ score_range_short true
    ⊗ fixed_makes ShortZsets (Plain ∷ Whole ∷ Whole ∷ []) (λ a. zsets.ZRemRangeByRank a.0 a.1.0 a.1.1.0) (λ a k. tt)
    ⊗ fixed_makes ShortZsets (Plain ∷ Bound ∷ Bound ∷ []) (λ a. zsets.ZRemRangeByScore a.0 a.1.0 a.1.1.0) (λ a k. tt)
    ⊗ amount_keeps ShortZsets (λ key n. zsets.ZPop key Rising n) (λ key n. tt)
    ⊗ amount_keeps ShortZsets (λ key n. zsets.ZPop key Falling n) (λ key n. tt)
    ⊗ picked_keeps ShortZsets (codes "withscores") zsets.ZRandMember (λ key n more. tt)
    ⊗ join_words_short Union
    ⊗ join_words_short Inter
    ⊗ page_keeps ShortZsets zsets.ZScan (λ key cursor options. tt)
    ⊗ tt

-- ---- sorted sets of short members

abbrev ShortScores : Scores → Type 0
ShortScores scores = EachIs (λ member score. IsShort member × IsScore score) scores

-- what the model's test takes is a score
tested_score : (n : ℤ) → is_score n ≡ true → IsScore n
tested_score (pos n) is = leb-true n (2 ^ 53) is
tested_score (negsuc n) is =
    let within : n ≤ 2 ^ 53 - 1 = leb-true n (2 ^ 53 - 1) (and_parts (nat_le n (2 ^ 53 - 1)) true is).0 in
    omega (arith, within)

with_score : (scores : Scores) (member : List ℕ) (score : ℤ) → ShortScores scores → IsShort member → IsScore score → ShortScores (insert scores member score)
with_score scores member score short m s = each_insert (λ member score. IsShort member × IsScore score) scores member score short (m, s)

write_short : (rules : ScoreRules) (scores : Scores) (pairs : List Scored) → ShortScores scores → AllByRecursion IsShortScored pairs → ShortScores (write_scores rules scores pairs)
write_short rules scores [] short more = short
write_short rules scores (pair ∷ pairs) short more =
    write_short rules (write_score rules scores pair) pairs
    (elim (permits rules (get scores pair.1) pair.0) as (λ b. ShortScores (if b then insert scores pair.1 pair.0 else scores)) [
      | true ↦ with_score scores pair.1 pair.0 short more.0.1 more.0.0
      | false ↦ short
    ]) more.1

without_short : (scores : Scores) (members : List (List ℕ)) → ShortScores scores → ShortScores (without_members scores members)
without_short scores [] short = short
without_short scores (member ∷ members) short =
    without_short (finite.remove scores member) members (each_remove (λ member score. IsShort member × IsScore score) scores member short)

none_short : ShortScores empty
none_short = each_empty (λ member score. IsShort member × IsScore score)

-- ---- joins

-- members are short, whatever their scores are
abbrev ShortKeyed : Scores → Type 0
ShortKeyed scores = EachIs (λ member score. IsShort member) scores

-- a set as scores has its members
one_found : (es : List (List ℕ × Unit {0})) (q : List ℕ) (n : ℤ) → find (slice_cmp nat_cmp) q (map (λ e. (e.0, pos 1)) es) ≡ Some n → is_some (find (slice_cmp nat_cmp) q es) ≡ true
one_found [] q n is = cc
one_found (e ∷ es) q n is =
    at (eq_by_cmp (slice_cmp nat_cmp) q e.0) (one_found es q n) is
  where
    at : (b : Bool) → (find (slice_cmp nat_cmp) q (map (λ e. (e.0, pos 1)) es) ≡ Some n → is_some (find (slice_cmp nat_cmp) q es) ≡ true)
        → cond b (Some (pos 1)) (find (slice_cmp nat_cmp) q (map (λ e. (e.0, pos 1)) es)) ≡ Some n → is_some (cond b (Some e.1) (find (slice_cmp nat_cmp) q es)) ≡ true
    at true rest is = refl
    at false rest is = rest is

ones_short : (members : FinMap (slice_cmp nat_cmp) (Unit {0})) → EachIs (λ member nothing. IsShort member) members → ShortKeyed (one_each members)
ones_short members short q n is =
    at (get members q) refl (ap is_some (get-entries members q) ∙ one_found (entries members) q n (sym (get-from_entries nat_list_cmp_total (map (λ e. (e.0, pos 1)) (entries members)) q) ∙ is))
  where
    at : (o : Option (Unit {0})) → get members q ≡ o → is_some o ≡ true → IsShort q
    at None e is = cc
    at (Some nothing) e is = short q nothing e

-- the scores that a fit value gives to a join
fit_keyed : (v : Value) (scores : Scores) → scores_in v ≡ Some scores → IsFitValue v → ShortKeyed scores
fit_keyed (SortedOf other) scores is fit = let one : other ≡ scores = cc in subst ShortKeyed one (λ member score at. (fit.1 member score at).0)
fit_keyed (SetOf members) scores is fit = let one : one_each members ≡ scores = cc in subst ShortKeyed one (ones_short members fit.1)
fit_keyed other scores is fit = cc

-- a member that has a score from some sources is one of theirs
from_short : (how : Aggregate) (before : Option ℤ) (weights : List ℤ) (own : List Scores) (member : List ℕ) (n : ℤ) → AllByRecursion ShortKeyed own → (is_some before ≡ true → IsShort member)
    → score_from how before weights own member ≡ Some n → IsShort member
from_short how before [] own member n short was is = was (ap is_some is)
from_short how before (weight ∷ weights) [] member n short was is = was (ap is_some is)
from_short how before (weight ∷ weights) (scores ∷ others) member n short was is =
    from_short how (score_with how before (weighted weight (get scores member))) weights others member n short.1 (at before (get scores member) refl was) is
  where
    at : (before o : Option ℤ) → get scores member ≡ o → (is_some before ≡ true → IsShort member) → is_some (score_with how before (weighted weight o)) ≡ true → IsShort member
    at before (Some score) e was is = short.0 member score e
    at before None e was is = was is

join_short : (join : ScoreJoin) (how : Aggregate) (weights : List ℤ) (own : List Scores) (scores : Scores) → AllByRecursion ShortKeyed own → IsJoin join how weights own scores → ShortKeyed scores
join_short Union how weights own scores short is member n at = from_short how None weights own member n short (λ none. cc) (sym (is member) ∙ at)
join_short Inter how weights own scores short is member n at =
    (elim (have_all own member) as (λ b. (if b then score_from how None weights own member else None) ≡ Some n → IsShort member) [
      | true ↦ λ e. from_short how None weights own member n short (λ none. cc) e
      | false ↦ λ e. cc
    ]) (sym (is member) ∙ at)

-- each of so many scores is one
each_score : (es : List (List ℕ × ℤ)) → are_scores es ≡ true → (q : List ℕ) (n : ℤ) → find (slice_cmp nat_cmp) q es ≡ Some n → IsScore n
each_score [] are q n is = cc
each_score (e ∷ es) are q n is =
    let both = and_parts (is_score e.1) (are_scores es) are in
    (elim (eq_by_cmp (slice_cmp nat_cmp) q e.0) as (λ b. cond b (Some e.1) (find (slice_cmp nat_cmp) q es) ≡ Some n → IsScore n) [
      | true ↦ λ f. let one : e.1 ≡ n = cc in subst IsScore one (tested_score e.1 both.0)
      | false ↦ λ f. each_score es both.1 q n f
    ]) is

-- ---- steps

-- the sorted set that a fit value is
fit_zset : (v : Value) (scores : Scores) → zset_in v ≡ Some scores → IsFitValue v → ShortScores scores
fit_zset (SortedOf other) scores is fit = let one : other ≡ scores = cc in subst ShortScores one fit.1
fit_zset other scores is fit = cc

fit_keep_zset : (old : World) → IsFit old → (key : List ℕ) → IsShort key → (scores : Scores) → ShortScores scores → IsFit (keep_zset old key scores)
fit_keep_zset old fit key is scores short =
    (elim (len scores == 0) as (λ b. (len scores == 0) ≡ b → IsFit (if b then remove old key else keep old key (SortedOf scores))) [
      | true ↦ λ none. fit_remove old key fit
      | false ↦ λ some. fit_keep old fit key (SortedOf scores) is (some_len (len scores) some, short)
    ]) refl

fit_store_zset : (old : World) → IsFit old → (to : List ℕ) → IsShort to → (scores : Scores) → ShortScores scores → IsFit (store_zset old to scores)
fit_store_zset old fit to is scores short =
    (elim (len scores == 0) as (λ b. (len scores == 0) ≡ b → IsFit (if b then remove old to else put old to (record { value = SortedOf scores; deadline = None }))) [
      | true ↦ λ none. fit_remove old to fit
      | false ↦ λ some. fit_put old to (record { value = SortedOf scores; deadline = None }) fit (record { short = is; value = (some_len (len scores) some, short); deadline = tt })
    ]) refl

module _ (old : World) (fit : IsFit old) where
  fit_on_zset : (key : List ℕ) (answer : Option Scores → Outcome) → IsFit (answer None).world → ((scores : Scores) → IsShort key → ShortScores scores → IsFit (answer (Some scores)).world)
      → IsFit (on_zset old key answer).world
  fit_on_zset key answer none some = fit_on_type old fit zset_in ShortScores fit_zset key answer none some

  fit_add : (key : List ℕ) (rules : ScoreRules) (ch : Bool) (pairs : List Scored) → IsShort key → AllByRecursion IsShortScored pairs → IsFit (zset_outcome old (zsets.ZAdd key rules ch pairs)).world
  fit_add key rules ch pairs is short =
      fit_on_zset key (add_to old key rules ch pairs)
      (elim rules.xx as (λ b. IsFit (if b then tells_number (pos 0) old else add_scores old key rules ch pairs empty).world) [
        | true ↦ fit
        | false ↦ fit_keep_zset old fit key is (write_scores rules empty pairs) (write_short rules empty pairs none_short short)
      ]) (λ scores k before. fit_keep_zset old fit key is (write_scores rules scores pairs) (write_short rules scores pairs before short))

  fit_raise : (key : List ℕ) (rules : ScoreRules) (by : ℤ) (member : List ℕ) → IsShort key → IsShort member → (scores : Scores) → ShortScores scores
      → IsFit (raise old key rules by member scores).world
  fit_raise key rules by member is one scores short =
      elim (admits rules (get scores member)) as (λ b. IsFit (if b then raise_to old key rules member scores (or_zero (get scores member) +ℤ by) else tells (Null ∷ []) old).world) [
        | true ↦ to (or_zero (get scores member) +ℤ by)
        | false ↦ fit
      ]
    where
      -- where the rules let it pass, this is left
      raised : ℤ → Outcome
      raised n = leaves (Bulk (canonical n) ∷ []) (keep_zset old key (insert scores member n))

      passing : (n : ℤ) → is_score n ≡ true → IsFit (if passes rules (get scores member) n then raised n else tells (Null ∷ []) old).world
      passing n score =
          elim (passes rules (get scores member) n) as (λ b. IsFit (if b then raised n else tells (Null ∷ []) old).world) [
            | true ↦ fit_keep_zset old fit key is (insert scores member n) (with_score scores member n short one (tested_score n score))
            | false ↦ fit
          ]

      to : (n : ℤ) → IsFit (raise_to old key rules member scores n).world
      to n =
          (elim (is_score n) as
          (λ b. is_score n ≡ b → IsFit (if b then (if passes rules (get scores member) n then raised n else tells (Null ∷ []) old) else refused NotAWholeScore old).world) [
            | true ↦ λ score. passing n score
            | false ↦ λ other. fit
          ]) refl

  -- members go
  fit_without : (key : List ℕ) (scores : Scores) (members : List (List ℕ)) → IsShort key → ShortScores scores → IsFit (keep_zset old key (without_members scores members))
  fit_without key scores members k short = fit_keep_zset old fit key k (without_members scores members) (without_short scores members short)

  outcome_fit : (c : ZsetCommand) → ShortZsets c → IsFit (zset_outcome old c).world
  outcome_fit (zsets.ZAdd key rules ch pairs) short = fit_add key rules ch pairs short.0 short.1
  outcome_fit (zsets.ZIncr key rules by member) short =
      fit_on_zset key (λ before. raise old key rules by member (or_no_scores before)) (fit_raise key rules by member short.0 short.1 empty none_short)
      (λ scores k is. fit_raise key rules by member short.0 short.1 scores is)
  outcome_fit (zsets.ZRem key members) short = fit_on_zset key (drop_members old key members) fit (λ scores k is. fit_without key scores members k is)
  outcome_fit (zsets.ZScore key member) short = fit_told old fit zset_in key _
  outcome_fit (zsets.ZMScore key members) short = fit_told old fit zset_in key _
  outcome_fit (zsets.ZCard key) short = fit_told old fit zset_in key _
  outcome_fit (zsets.ZCount key min max) short = fit_told old fit zset_in key _
  outcome_fit (zsets.ZRank key member from with_score) short = fit_told old fit zset_in key _
  outcome_fit (zsets.ZRange key a b from with_scores) short = fit_told old fit zset_in key _
  outcome_fit (zsets.ZRangeByScore key min max from limit with_scores) short = fit_told old fit zset_in key _
  outcome_fit (zsets.ZRemRangeByRank key a b) short =
      fit_on_zset key (drop_part old key (λ list. list_range list a b)) fit (λ scores k is. fit_without key scores (members_of (list_range (ranked scores) a b)) k is)
  outcome_fit (zsets.ZRemRangeByScore key min max) short =
      fit_on_zset key (drop_part old key (within min max)) fit (λ scores k is. fit_without key scores (members_of (within min max (ranked scores))) k is)
  outcome_fit (zsets.ZPop key from n) short =
      fit_on_zset key (pop old key from (or_one n)) fit (λ scores k is. fit_without key scores (members_of (take (or_one n) (met from (ranked scores)))) k is)
  outcome_fit other short = fit

  fit_store : (to : List ℕ) → IsShort to → (scores : Scores) → ShortKeyed scores → IsFit (store_scores old to scores).world
  fit_store to is scores keyed =
      (elim (are_scores (entries scores)) as
      (λ b. are_scores (entries scores) ≡ b → IsFit (if b then tells_number (pos (len scores)) (store_zset old to scores) else refused NotAWholeScore old).world) [
        | true ↦ λ are. fit_store_zset old fit to is scores (λ member n at. (keyed member n at, each_score (entries scores) are member n (sym (get-entries scores member) ∙ at)))
        | false ↦ λ other. fit
      ]) refl

  fit_stored : (join : ScoreJoin) (to : List ℕ) (keys : List Scored) (how : Aggregate) → IsShort to → (reply : List Part) (new : World)
      → may_zsets 0 old (zsets.ZJoinStore join to keys how) reply new → IsFit new
  fit_stored join to keys how is reply new =
      fit_may_do_of old fit (zsets_at old keys) (StoresScores old to join how (weights_of keys)) reply new (λ own from m.
      let each = fit_sources old fit scores_in empty ShortKeyed fit_keyed (each_empty (λ member score. IsShort member)) (members_of keys) own from in
      subst IsFit (sym m.2.1) (fit_store to is m.0 (join_short join how (weights_of keys) own m.0 each m.1)))

pub zsets_fit : (seed : ℕ) (old : World) → IsFit old → (c : ZsetCommand) → ShortZsets c → (reply : List Part) (new : World) → may_zsets seed old c reply new → IsFit new
zsets_fit seed old fit (zsets.ZRandMember key n with_scores) short reply new m = fit_may_tell old fit zset_in key _ reply new m
zsets_fit seed old fit (zsets.ZJoinStore join to keys how) short reply new m = fit_stored old fit join to keys how short reply new m
zsets_fit seed old fit (zsets.ZScan key cursor options) short reply new m = fit_may_tell old fit zset_in key _ reply new m
zsets_fit seed old fit other short reply new m = fit_outcome (zset_outcome old other) reply new (outcome_fit old fit other short) m
