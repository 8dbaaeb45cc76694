-- What commands on sorted sets answer, and what they leave (Redis command reference, "Commands operating on sorted sets").
use Rattle.std.specs.Prelude.{◌≡◌, ℕ, suc, ◌+◌, ◌-◌, ◌*◌, ◌^◌, ◌==◌, List, [], ◌∷◌, length, take, drop, map, reverse, ℤ, pos, negsuc, neg_ℤ, ◌+ℤ◌, ◌*ℤ◌, int_lt, int_le, Option, None, Some}
use Rattle.std.specs.Prelude.{is_some, Bool, true, false, not, ◌&&◌, ◌||◌, bytes_eq, if◌then◌else◌}
use Rattle.std.specs.List.{filter, flat_map}
use Rattle.std.specs.FinMap.{FinMap, empty, entries, from_entries, keys, get, insert, len}
use Rattle.std.specs.FinMap as finite
use Rattle.std.specs.declared.cmp.Ordering.{Ordering}
use Rattle.std.specs.Cmp.Lexicographic.{slice_cmp}
use Rattle.std.specs.Ordering.{nat_cmp, int_cmp, ordering_then}
use Rattle.int_text.specs.Decimal.{canonical}
use Rattle.plain_world.specs.Worlds.{World, Value, SetOf, SortedOf, look, put, remove}
use Rattle.plain_model.specs.Outcomes.{Outcome, tells, refused, leaves, IsOutcome}
use Rattle.plain_model.specs.OfType.{zset_in, on_type, may_tell, may_do_of, sources, or_no_sources, keep}
use Rattle.plain_model.specs.Scans.{listed_with, IsHeldPage}
use Rattle.plain_model.specs.Scans as scans
use Rattle.plain_world.specs.Picks.{TellsPicks}
use Rattle.plain_model.specs.ListSteps.{tells_number, list_range}
use Rattle.plain_model.specs.declared.zset_command.ZsetCommand.{ZsetCommand}
use Rattle.plain_model.specs.declared.zset_command.ZsetCommand.TheVariants as zsets
use Rattle.plain_model.specs.declared.zset_command.Direction.{Direction}
use Rattle.plain_model.specs.declared.zset_command.Direction.TheVariants.{Rising, Falling}
use Rattle.plain_model.specs.declared.zset_command.ScoreBound.{ScoreBound}
use Rattle.plain_model.specs.declared.zset_command.ScoreBound.TheVariants.{Lowest, Including, Excluding, Highest}
use Rattle.plain_model.specs.declared.zset_command.ScoreRules.{ScoreRules}
use Rattle.plain_model.specs.declared.zset_command.Limit.{Limit}
use Rattle.plain_model.specs.declared.zset_command.ScoreJoin.{ScoreJoin}
use Rattle.plain_model.specs.declared.zset_command.ScoreJoin.TheVariants.{Inter, Union}
use Rattle.plain_model.specs.declared.zset_command.Aggregate.{Aggregate}
use Rattle.plain_model.specs.declared.zset_command.Aggregate.TheVariants.{Sum, Min, Max}
use Rattle.plain_world.specs.declared.refusal.Refusal.TheVariants.{NotAWholeScore}
use Rattle.plain_world.specs.declared.reply.Part.{Part}
use Rattle.plain_world.specs.declared.reply.Part.TheVariants.{Number, Bulk, Null, NullArray, Array}

-- a finite map from members to scores
abbrev pub Scores : Type 0
Scores = FinMap (slice_cmp nat_cmp) ℤ

-- a score and its member
abbrev pub Scored : Type 0
Scored = ℤ × List ℕ

-- by score, and those of one score by the members' bytes
abbrev pub scored_cmp : Scored → Scored → Ordering
scored_cmp a b = ordering_then (int_cmp a.0 b.0) (slice_cmp nat_cmp a.1 b.1)

-- the scores with their members as a set in that order
abbrev pub ordered : Scores → FinMap scored_cmp (Unit {0})
ordered scores = from_entries (map (λ entry. ((entry.1, entry.0), tt)) (entries scores))

-- the one list of them
abbrev pub ranked : Scores → List Scored
ranked scores = keys (ordered scores)

-- with the sorted set at a key, where there is one
abbrev pub on_zset : World → List ℕ → (Option Scores → Outcome) → Outcome
on_zset old key answer = on_type zset_in old (look old key) answer

-- a missing sorted set counts as one without a member
abbrev pub or_no_scores : Option Scores → Scores
or_no_scores None = empty
or_no_scores (Some scores) = scores

-- A sorted set stands at a key and keeps the deadline that is there; one without a member goes with its key.
abbrev pub keep_zset : World → List ℕ → Scores → World
keep_zset old key scores = if len scores == 0 then remove old key else keep old key (SortedOf scores)

-- without these members
abbrev pub without_members : Scores → List (List ℕ) → Scores
without_members scores [] = scores
without_members scores (member ∷ members) = without_members (finite.remove scores member) members

-- what is told of a sorted set
abbrev pub tell_zset : World → List ℕ → (Scores → List Part) → Outcome
tell_zset old key told = on_zset old key (λ before. tells (told (or_no_scores before)) old)

abbrev pub score_or_null : Option ℤ → Part
score_or_null None = Null
score_or_null (Some score) = Bulk (canonical score)

-- ---- scores that are written

-- NX admits only members that aren't there, XX only those that are
abbrev pub admits : ScoreRules → Option ℤ → Bool
admits rules None = not rules.xx
admits rules (Some score) = not rules.nx

-- a member that is there gets only a greater score by GT, and only a lesser one by LT
abbrev pub passes : ScoreRules → Option ℤ → ℤ → Bool
passes rules None new = true
passes rules (Some score) new = (not rules.gt || int_lt score new) && (not rules.lt || int_lt new score)

-- a member gets a new score
abbrev pub permits : ScoreRules → Option ℤ → ℤ → Bool
permits rules old new = admits rules old && passes rules old new

abbrev pub write_score : ScoreRules → Scores → Scored → Scores
write_score rules scores pair =
    if permits rules (get scores pair.1) pair.0 then insert scores pair.1 pair.0 else scores

-- one after the other
abbrev pub write_scores : ScoreRules → Scores → List Scored → Scores
write_scores rules scores [] = scores
write_scores rules scores (pair ∷ pairs) = write_scores rules (write_score rules scores pair) pairs

-- the score of a member is another one, or the first
abbrev pub differs : Option ℤ → ℤ → Bool
differs None new = true
differs (Some score) new = int_lt score new || int_lt new score

-- how many of them change a score, or add a member
abbrev pub changes : ScoreRules → Scores → List Scored → ℕ
changes rules scores [] = 0
changes rules scores (pair ∷ pairs) =
    (if permits rules (get scores pair.1) pair.0 && differs (get scores pair.1) pair.0 then 1 else 0)
    + changes rules (write_score rules scores pair) pairs

-- how many members are new is answered, with CH how many were changed too
abbrev pub add_scores : World → List ℕ → ScoreRules → Bool → List Scored → Scores → Outcome
add_scores old key rules ch pairs scores =
    let now = write_scores rules scores pairs in
    tells_number (pos (if ch then changes rules scores pairs else len now - len scores)) (keep_zset old key now)

-- XX makes no sorted set
abbrev pub add_to : World → List ℕ → ScoreRules → Bool → List Scored → Option Scores → Outcome
add_to old key rules ch pairs None =
    if rules.xx then tells_number (pos 0) old else add_scores old key rules ch pairs empty
add_to old key rules ch pairs (Some scores) = add_scores old key rules ch pairs scores

-- the magnitude of a score is at most 2^53
abbrev pub is_score : ℤ → Bool
is_score n = int_le (neg_ℤ (pos (2 ^ 53))) n && int_le n (pos (2 ^ 53))

abbrev pub or_zero : Option ℤ → ℤ
or_zero None = pos 0
or_zero (Some score) = score

-- a new score is written and told, if it is one and the rules let it pass; else null
abbrev pub raise_to : World → List ℕ → ScoreRules → List ℕ → Scores → ℤ → Outcome
raise_to old key rules member scores n =
    if is_score n
    then (if passes rules (get scores member) n
    then leaves (Bulk (canonical n) ∷ []) (keep_zset old key (insert scores member n)) else tells (Null ∷ []) old)
    else refused NotAWholeScore old

-- a number is added to the score of a member, 0 where it has none; null where the rules don't admit it
abbrev pub raise : World → List ℕ → ScoreRules → ℤ → List ℕ → Scores → Outcome
raise old key rules by member scores =
    if admits rules (get scores member)
    then raise_to old key rules member scores (or_zero (get scores member) +ℤ by) else tells (Null ∷ []) old

-- how many members are removed is answered
abbrev pub drop_members : World → List ℕ → List (List ℕ) → Option Scores → Outcome
drop_members old key members None = tells_number (pos 0) old
drop_members old key members (Some scores) =
    let left = without_members scores members in
    tells_number (pos (len scores - len left)) (keep_zset old key left)

-- ---- parts of the list

-- the list as it is met
abbrev pub met : Direction → List Scored → List Scored
met Rising list = list
met Falling list = reverse list

-- the members, each followed by its score where that is asked for
abbrev pub listed : Bool → List Scored → List Part
listed false list = Array (length list) ∷ map (λ scored. Bulk scored.1) list
listed true list =
    Array (2 * length list) ∷ flat_map (λ scored. Bulk scored.1 ∷ Bulk (canonical scored.0) ∷ []) list

-- a score is above a lower bound
abbrev pub is_above : ScoreBound → ℤ → Bool
is_above Lowest score = true
is_above (Including least) score = not (int_lt score least)
is_above (Excluding below) score = int_lt below score
is_above Highest score = false

-- and below an upper one
abbrev pub is_below : ScoreBound → ℤ → Bool
is_below Lowest score = false
is_below (Including most) score = not (int_lt most score)
is_below (Excluding above) score = int_lt score above
is_below Highest score = true

-- those in the bounds
abbrev pub within : ScoreBound → ScoreBound → List Scored → List Scored
within min max list = filter (λ scored. is_above min scored.0 && is_below max scored.0) list

-- so many are passed over, all for a number below 0
abbrev pub behind : ℤ → List Scored → List Scored
behind (pos n) list = drop n list
behind (negsuc n) list = []

-- then so many are left, all for a number below 0
abbrev pub at_most : ℤ → List Scored → List Scored
at_most (pos n) list = take n list
at_most (negsuc n) list = list

abbrev pub limited : Option Limit → List Scored → List Scored
limited None list = list
limited (Some limit) list = at_most limit.count (behind limit.offset list)

-- where a member stands in a list, counted from a place on, and its score
abbrev pub place_from : ℕ → List ℕ → List Scored → Option (ℕ × ℤ)
place_from at member [] = None
place_from at member (scored ∷ rest) =
    if bytes_eq scored.1 member then Some (at, scored.0) else place_from (suc at) member rest

-- a place, and the score beside it where that is asked for
abbrev pub tell_place : Bool → Option (ℕ × ℤ) → List Part
tell_place false None = Null ∷ []
tell_place true None = NullArray ∷ []
tell_place false (Some place) = Number (pos place.0) ∷ []
tell_place true (Some place) = Array 2 ∷ Number (pos place.0) ∷ Bulk (canonical place.1) ∷ []

abbrev pub members_of : List Scored → List (List ℕ)
members_of list = map (λ scored. scored.1) list

-- a part of the list goes, and how many is answered
abbrev pub drop_part : World → List ℕ → (List Scored → List Scored) → Option Scores → Outcome
drop_part old key part None = tells_number (pos 0) old
drop_part old key part (Some scores) =
    let gone = part (ranked scores) in
    tells_number (pos (length gone)) (keep_zset old key (without_members scores (members_of gone)))

-- without a number one member
abbrev pub or_one : Option ℕ → ℕ
or_one None = 1
or_one (Some n) = n

-- the first members that are met go, and are told with their scores
abbrev pub pop : World → List ℕ → Direction → ℕ → Option Scores → Outcome
pop old key from n None = tells (Array 0 ∷ []) old
pop old key from n (Some scores) =
    let gone = take n (met from (ranked scores)) in
    leaves (listed true gone) (keep_zset old key (without_members scores (members_of gone)))

-- ---- picks and pages

-- these members, each followed by its score
abbrev pub scores_listed : Scores → List (List ℕ) → List Part
scores_listed scores members = listed_with (λ member. score_or_null (get scores member)) members

-- these members, with their scores where they are asked for
abbrev pub members_listed : Bool → Scores → List (List ℕ) → List Part
members_listed false scores members = scans.listed members
members_listed true scores members = scores_listed scores members

-- members that are picked are told
abbrev pub PicksMembers : Option ℤ → Bool → Option Scores → List Part → Type 0
PicksMembers n with_scores before reply =
    let scores = or_no_scores before in
    TellsPicks (λ member. is_some (get scores member)) (len scores) n (members_listed with_scores scores) reply

-- ---- joins

-- the scores of the members of a set
abbrev pub one_each : FinMap (slice_cmp nat_cmp) (Unit {0}) → Scores
one_each members = from_entries (map (λ entry. (entry.0, pos 1)) (entries members))

-- the scores that a value gives to a join: a sorted set its own, and a set 1 for each member
abbrev pub scores_in : Value → Option Scores
scores_in (SortedOf scores) = Some scores
scores_in (SetOf members) = Some (one_each members)
scores_in other = None

-- two scores of a member as one
abbrev pub aggregated : Aggregate → ℤ → ℤ → ℤ
aggregated Sum a b = a +ℤ b
aggregated Min a b = if int_le a b then a else b
aggregated Max a b = if int_le a b then b else a

-- what is there already, and one score more
abbrev pub score_with : Aggregate → Option ℤ → Option ℤ → Option ℤ
score_with how before None = before
score_with how None (Some score) = Some score
score_with how (Some before) (Some score) = Some (aggregated how before score)

abbrev pub weighted : ℤ → Option ℤ → Option ℤ
weighted weight None = None
weighted weight (Some score) = Some (weight *ℤ score)

-- the scores of a member in some sources, each times its weight, as one
abbrev pub score_from : Aggregate → Option ℤ → List ℤ → List Scores → List ℕ → Option ℤ
score_from how before [] scores member = before
score_from how before (weight ∷ weights) [] member = before
score_from how before (weight ∷ weights) (scores ∷ others) member =
    score_from how (score_with how before (weighted weight (get scores member))) weights others member

-- all sources have the member
abbrev pub have_all : List Scores → List ℕ → Bool
have_all [] member = true
have_all (scores ∷ others) member = is_some (get scores member) && have_all others member

-- the score of a member in a join of sources
abbrev pub joined_score : ScoreJoin → Aggregate → List ℤ → List Scores → List ℕ → Option ℤ
joined_score Union how weights own member = score_from how None weights own member
joined_score Inter how weights own member = if have_all own member then score_from how None weights own member else None

-- a map has just the scores of a join
abbrev pub IsJoin : ScoreJoin → Aggregate → List ℤ → List Scores → Scores → Type 0
IsJoin join how weights own scores = (member : List ℕ) → get scores member ≡ joined_score join how weights own member

abbrev pub are_scores : List (List ℕ × ℤ) → Bool
are_scores [] = true
are_scores (entry ∷ entries) = is_score entry.1 && are_scores entries

-- a join takes the place of whatever stands at a key; without a member nothing stands there
abbrev pub store_zset : World → List ℕ → Scores → World
store_zset old to scores =
    if len scores == 0 then remove old to else put old to (record { value = SortedOf scores; deadline = None })

-- how many members a join has, if all its scores are in range
abbrev pub store_scores : World → List ℕ → Scores → Outcome
store_scores old to scores =
    if are_scores (entries scores) then tells_number (pos (len scores)) (store_zset old to scores)
    else refused NotAWholeScore old

abbrev pub StoresScores : World → List ℕ → ScoreJoin → Aggregate → List ℤ → Option (List Scores) → List Part → World
    → Type 0
StoresScores old to join how weights own reply new =
    (scores : Scores) × IsJoin join how weights (or_no_sources own) scores
    × IsOutcome (store_scores old to scores) reply new

-- the weights of keys, and the keys
abbrev pub weights_of : List Scored → List ℤ
weights_of keys = map (λ key. key.0) keys

abbrev pub zsets_at : World → List Scored → Option (List Scores)
zsets_at old keys = sources scores_in empty old (members_of keys)

-- ---- each command

-- What a command answers and leaves, in a live world, where it has one answer: of the others `may_zsets` says what they may
-- answer.
abbrev pub zset_outcome : World → ZsetCommand → Outcome
zset_outcome old (zsets.ZAdd key rules ch pairs) = on_zset old key (add_to old key rules ch pairs)
zset_outcome old (zsets.ZIncr key rules by member) =
    on_zset old key (λ before. raise old key rules by member (or_no_scores before))
zset_outcome old (zsets.ZRem key members) = on_zset old key (drop_members old key members)
zset_outcome old (zsets.ZScore key member) = tell_zset old key (λ scores. score_or_null (get scores member) ∷ [])
zset_outcome old (zsets.ZMScore key members) =
    tell_zset old key
    (λ scores. Array (length members) ∷ map (λ member. score_or_null (get scores member)) members)
zset_outcome old (zsets.ZCard key) = tell_zset old key (λ scores. Number (pos (len scores)) ∷ [])
zset_outcome old (zsets.ZCount key min max) =
    tell_zset old key (λ scores. Number (pos (length (within min max (ranked scores)))) ∷ [])
zset_outcome old (zsets.ZRank key member from with_score) =
    tell_zset old key (λ scores. tell_place with_score (place_from 0 member (met from (ranked scores))))
zset_outcome old (zsets.ZRange key a b from with_scores) =
    tell_zset old key (λ scores. listed with_scores (list_range (met from (ranked scores)) a b))
zset_outcome old (zsets.ZRangeByScore key min max from limit with_scores) =
    tell_zset old key
    (λ scores. listed with_scores (limited limit (within min max (met from (ranked scores)))))
zset_outcome old (zsets.ZRemRangeByRank key a b) =
    on_zset old key (drop_part old key (λ list. list_range list a b))
zset_outcome old (zsets.ZRemRangeByScore key min max) = on_zset old key (drop_part old key (within min max))
zset_outcome old (zsets.ZPop key from n) = on_zset old key (pop old key from (or_one n))
zset_outcome old other = tells [] old

-- under this seed of the hash, and from the world that is live at the moment, the command may be answered by this reply, and
-- leave the new world
abbrev pub may_zsets : ℕ → World → ZsetCommand → List Part → World → Type 0
may_zsets seed old (zsets.ZRandMember key n with_scores) reply new =
    may_tell zset_in old (look old key) (PicksMembers n with_scores) reply new
may_zsets seed old (zsets.ZJoinStore join to keys how) reply new =
    may_do_of old (zsets_at old keys) (StoresScores old to join how (weights_of keys)) reply new
may_zsets seed old (zsets.ZScan key cursor options) reply new =
    may_tell zset_in old (look old key)
    (λ before. IsHeldPage seed old key cursor options (scores_listed (or_no_scores before))) reply new
may_zsets seed old command reply new = IsOutcome (zset_outcome old command) reply new
