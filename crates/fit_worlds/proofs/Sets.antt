-- Commands on sets leave a fit world.
use Rattle.std.proofs.Common.{◌≡◌, ℕ, ◌==◌, List, [], ◌∷◌, length, Bool, true, false, Ok, Err, Option, Some, None, refl, sym, ap, subst, ◌∙◌}
use Rattle.std.specs.Prelude.{◌||◌, not, nat_le, is_some, bytes_eq, pos, if◌then◌else◌}
use Rattle.std.specs.List.{AllByRecursion}
use Rattle.std.specs.FinMap.{empty, get, insert, len}
use Rattle.std.specs.FinMap as finite
use Rattle.std.proofs.lemmas.Bool.{and_parts}
use Rattle.plain_world.specs.Words.{Words}
use Rattle.plain_world.specs.Worlds.{World, Value, SetOf, put, remove}
use Rattle.plain_world.specs.declared.refusal.Refusal.TheVariants.{WrongNumberOfArguments}
use Rattle.plain_world.specs.declared.reply.Part.{Part}
use Rattle.plain_model.specs.Outcomes.{Outcome}
use Rattle.plain_model.specs.OfType.{set_in, keep}
use Rattle.plain_model.specs.Shapes.{Plain, Keys, told, and_then, counted, options_read}
use Rattle.plain_model.specs.SetWords.{set_rows, limit_options, inter_card_of, inter_card_words}
use Rattle.plain_model.specs.ListSteps.{tells_number}
use Rattle.plain_model.specs.SetSteps.{Members, on_set, or_no_members, keep_set, has, add_all, drop_all, add_members, drop_members, move_to, move_from, PopsMembers, in_any, in_all}
use Rattle.plain_model.specs.SetSteps.{is_joined, IsJoin, sets_at, store_set, StoresJoin}
use Rattle.plain_model.specs.SetSteps.{set_outcome, may_sets}
use Rattle.plain_model.specs.declared.set_command.SetCommand.{SetCommand}
use Rattle.plain_model.specs.declared.set_command.SetCommand.TheVariants as sets
use Rattle.plain_model.specs.declared.set_command.SetJoin.{SetJoin}
use Rattle.plain_model.specs.declared.set_command.SetJoin.TheVariants.{Inter, Union, Diff}
use Rattle.plain_model.proofs.Told.{then_told, if_has, never, made}
use Rattle.fit_worlds.specs.Fit.{IsShort, AreShort, EachIs, IsFitValue, IsFit}
use Rattle.fit_worlds.proofs.Maps.{each_empty, each_insert, each_remove, some_len}
use Rattle.fit_worlds.proofs.Told.{◌⊗◌, RowKeeps, ReadingKeeps, fixed_makes, repeated_makes, amount_keeps, picks_keep, page_keeps, counted_keeps}
use Rattle.fit_worlds.proofs.Worlds.{fit_put, fit_remove, fit_keep, fit_on_type, fit_told, fit_may_tell, fit_may_tell_of, fit_may_do, fit_may_do_of, fit_sources, fit_outcome}

-- ---- what the words of a command that writes are

abbrev pub ShortSets : SetCommand → Type 0
ShortSets (sets.SAdd key members) = IsShort key × AreShort members
ShortSets (sets.SMove from to member) = IsShort to × IsShort member
ShortSets (sets.SJoinStore how to keys) = IsShort to
ShortSets other = Unit {0}

card_short : (keys rest : Words) (c : SetCommand) → inter_card_of keys rest ≡ Ok c → ShortSets c
card_short keys rest c = then_told ShortSets (options_read limit_options 0 0 rest) (λ limit. Ok (sets.SInterCard keys limit)) (λ limit is b. made ShortSets (sets.SInterCard keys limit) b tt) c

card_words_short : ReadingKeeps ShortSets inter_card_words
card_words_short [] short c e = cc
card_words_short (n ∷ words) short c e =
    if_has ShortSets (nat_le 1 (length words)) (and_then (told Keys n) (λ count. counted inter_card_of count words)) (Err WrongNumberOfArguments)
    (then_told ShortSets (told Keys n) (λ count. counted inter_card_of count words) (λ count is. counted_keeps ShortSets inter_card_of card_short count words))
    (never ShortSets WrongNumberOfArguments) c e

pub set_rows_short : AllByRecursion (RowKeeps ShortSets) set_rows
set_rows_short =
    repeated_makes ShortSets (Plain ∷ []) 1 (λ a own. sets.SAdd a.0 own) (λ a k rest short. (k.0, short))
    ⊗ repeated_makes ShortSets (Plain ∷ []) 1 (λ a own. sets.SRem a.0 own) (λ a k rest short. tt)
    ⊗ fixed_makes ShortSets (Plain ∷ Plain ∷ []) (λ a. sets.SIsMember a.0 a.1.0) (λ a k. tt)
    ⊗ repeated_makes ShortSets (Plain ∷ []) 1 (λ a own. sets.SMIsMember a.0 own) (λ a k rest short. tt)
    ⊗ fixed_makes ShortSets (Plain ∷ []) (λ a. sets.SMembers a.0) (λ a k. tt)
    ⊗ fixed_makes ShortSets (Plain ∷ []) (λ a. sets.SCard a.0) (λ a k. tt)
    ⊗ fixed_makes ShortSets (Plain ∷ Plain ∷ Plain ∷ []) (λ a. sets.SMove a.0 a.1.0 a.1.1.0) (λ a k. (k.1.0, k.1.1.0))
    ⊗ amount_keeps ShortSets sets.SPop (λ key n. tt)
    ⊗ picks_keep ShortSets sets.SRandMember (λ key n. tt)
    ⊗ repeated_makes ShortSets [] 1 (λ a keys. sets.SJoin Inter keys) (λ a k rest short. tt)
    ⊗ repeated_makes ShortSets [] 1 (λ a keys. sets.SJoin Union keys) (λ a k rest short. tt)
    ⊗ repeated_makes ShortSets [] 1 (λ a keys. sets.SJoin Diff keys) (λ a k rest short. tt)
    ⊗ repeated_makes ShortSets (Plain ∷ []) 1 (λ a keys. sets.SJoinStore Inter a.0 keys) (λ a k rest short. k.0)
    ⊗ repeated_makes ShortSets (Plain ∷ []) 1 (λ a keys. sets.SJoinStore Union a.0 keys) (λ a k rest short. k.0)
    ⊗ repeated_makes ShortSets (Plain ∷ []) 1 (λ a keys. sets.SJoinStore Diff a.0 keys) (λ a k rest short. k.0)
    ⊗ card_words_short
    ⊗ page_keeps ShortSets sets.SScan (λ key cursor options. tt)
    ⊗ tt

-- ---- sets of short members

abbrev ShortMembers : Members → Type 0
ShortMembers members = EachIs (λ member nothing. IsShort member) members

add_all_short : (members : Members) (others : List (List ℕ)) → ShortMembers members → AreShort others → ShortMembers (add_all members others)
add_all_short members [] short more = short
add_all_short members (member ∷ others) short more =
    add_all_short (insert members member tt) others (each_insert (λ member nothing. IsShort member) members member tt short more.0) more.1

drop_all_short : (members : Members) (others : List (List ℕ)) → ShortMembers members → ShortMembers (drop_all members others)
drop_all_short members [] short = short
drop_all_short members (member ∷ others) short =
    drop_all_short (finite.remove members member) others (each_remove (λ member nothing. IsShort member) members member short)

-- a member that a set has
has_short : (members : Members) (member : List ℕ) → ShortMembers members → has members member ≡ true → IsShort member
has_short members member short is = at (get members member) refl (is)
  where
    at : (o : Option (Unit {0})) → get members member ≡ o → is_some o ≡ true → IsShort member
    at None e is = cc
    at (Some nothing) e is = short member nothing e

any_short : (own : List Members) (member : List ℕ) → AllByRecursion ShortMembers own → in_any own member ≡ true → IsShort member
any_short [] member short is = cc
any_short (members ∷ others) member short is = at (has members member) refl (any_short others member short.1) is
  where
    at : (b : Bool) → has members member ≡ b → (in_any others member ≡ true → IsShort member) → (b || in_any others member) ≡ true → IsShort member
    at true e rest is = has_short members member short.0 e
    at false e rest is = rest is

joined_short : (how : SetJoin) (own : List Members) (member : List ℕ) → AllByRecursion ShortMembers own → is_joined how own member ≡ true → IsShort member
joined_short how [] member short is = cc
joined_short Inter (members ∷ others) member short is = has_short members member short.0 (and_parts (has members member) (in_all others member) is).0
joined_short Union (members ∷ others) member short is = any_short (members ∷ others) member short is
joined_short Diff (members ∷ others) member short is = has_short members member short.0 (and_parts (has members member) (not (in_any others member)) is).0

join_short : (how : SetJoin) (own : List Members) (members : Members) → AllByRecursion ShortMembers own → IsJoin how own members → ShortMembers members
join_short how own members short is member nothing at = joined_short how own member short (sym (is member) ∙ ap is_some at)

-- ---- steps

-- the set that a fit value is
fit_set : (v : Value) (members : Members) → set_in v ≡ Some members → IsFitValue v → ShortMembers members
fit_set (SetOf other) members is fit = let one : other ≡ members = cc in subst ShortMembers one fit.1
fit_set other members is fit = cc

none_short : ShortMembers empty
none_short = each_empty (λ member nothing. IsShort member)

fit_keep_set : (old : World) → IsFit old → (key : List ℕ) → IsShort key → (members : Members) → ShortMembers members → IsFit (keep_set old key members)
fit_keep_set old fit key is members short =
    (elim (len members == 0) as (λ b. (len members == 0) ≡ b → IsFit (if b then remove old key else keep old key (SetOf members))) [
      | true ↦ λ none. fit_remove old key fit
      | false ↦ λ some. fit_keep old fit key (SetOf members) is (some_len (len members) some, short)
    ]) refl

fit_store_set : (old : World) → IsFit old → (to : List ℕ) → IsShort to → (members : Members) → ShortMembers members → IsFit (store_set old to members)
fit_store_set old fit to is members short =
    (elim (len members == 0) as (λ b. (len members == 0) ≡ b → IsFit (if b then remove old to else put old to (record { value = SetOf members; deadline = None }))) [
      | true ↦ λ none. fit_remove old to fit
      | false ↦ λ some. fit_put old to (record { value = SetOf members; deadline = None }) fit (record { short = is; value = (some_len (len members) some, short); deadline = tt })
    ]) refl

module _ (old : World) (fit : IsFit old) where
  fit_on_set : (key : List ℕ) (answer : Option Members → Outcome) → IsFit (answer None).world → ((members : Members) → IsShort key → ShortMembers members → IsFit (answer (Some members)).world)
      → IsFit (on_set old key answer).world
  fit_on_set key answer none some = fit_on_type old fit set_in ShortMembers fit_set key answer none some

  fit_add : (key : List ℕ) (others : List (List ℕ)) → IsShort key → AreShort others → IsFit (set_outcome old (sets.SAdd key others)).world
  fit_add key others is short =
      fit_on_set key (λ before. add_members old key others (or_no_members before)) (fit_keep_set old fit key is (add_all empty others) (add_all_short empty others none_short short))
      (λ members k before. fit_keep_set old fit key is (add_all members others) (add_all_short members others before short))

  fit_move : (from to member : List ℕ) → IsShort to → IsShort member → IsFit (set_outcome old (sets.SMove from to member)).world
  fit_move from to member is one =
      fit_on_set from (move_from old from to member) fit (λ members k short.
      fit_on_set to (move_to old from to member members) (moved k members short None none_short) (λ target t there. moved k members short (Some target) there))
    where
      moved : IsShort from → (members : Members) → ShortMembers members → (target : Option Members) → ShortMembers (or_no_members target) → IsFit (move_to old from to member members target).world
      moved k members short target there =
          let taken : World = keep_set old from (finite.remove members member) in
          let kept : IsFit taken = fit_keep_set old fit from k (finite.remove members member) (each_remove (λ member nothing. IsShort member) members member short) in
          let both : IsFit (keep_set taken to (insert (or_no_members target) member tt)) =
          fit_keep_set taken kept to is (insert (or_no_members target) member tt) (each_insert (λ member nothing. IsShort member) (or_no_members target) member tt there one) in
          let both_left : Outcome = tells_number (pos 1) (keep_set taken to (insert (or_no_members target) member tt)) in
          elim (has members member) as (λ b. IsFit (if b then (if bytes_eq from to then tells_number (pos 1) old else both_left) else tells_number (pos 0) old).world) [
            | true ↦ elim (bytes_eq from to) as (λ b. IsFit (if b then tells_number (pos 1) old else both_left).world) [
              | true ↦ fit
              | false ↦ both
            ]
            | false ↦ fit
          ]

  outcome_fit : (c : SetCommand) → ShortSets c → IsFit (set_outcome old c).world
  outcome_fit (sets.SAdd key others) short = fit_add key others short.0 short.1
  outcome_fit (sets.SRem key others) short =
      fit_on_set key (drop_members old key others) fit (λ members k is. fit_keep_set old fit key k (drop_all members others) (drop_all_short members others is))
  outcome_fit (sets.SIsMember key member) short = fit_told old fit set_in key _
  outcome_fit (sets.SMIsMember key others) short = fit_told old fit set_in key _
  outcome_fit (sets.SCard key) short = fit_told old fit set_in key _
  outcome_fit (sets.SMove from to member) short = fit_move from to member short.0 short.1
  outcome_fit other short = fit

  fit_popped : (key : List ℕ) (n : Option ℕ) (reply : List Part) (new : World) → may_sets 0 old (sets.SPop key n) reply new → IsFit new
  fit_popped key n reply new =
      fit_may_do old fit set_in ShortMembers fit_set key (PopsMembers old key n) reply new (λ m. subst IsFit (sym m.1) fit)
      (λ members k short m. subst IsFit (sym m.3) (fit_keep_set old fit key k (drop_all members m.0) (drop_all_short members m.0 short)))

  fit_stored : (how : SetJoin) (to : List ℕ) (keys : List (List ℕ)) → IsShort to → (reply : List Part) (new : World) → may_sets 0 old (sets.SJoinStore how to keys) reply new → IsFit new
  fit_stored how to keys is reply new =
      fit_may_do_of old fit (sets_at old keys) (StoresJoin old to how) reply new (λ own from m.
      subst IsFit (sym m.2.1) (fit_store_set old fit to is m.0 (join_short how own m.0 (fit_sources old fit set_in empty ShortMembers fit_set none_short keys own from) m.1)))

pub sets_fit : (seed : ℕ) (old : World) → IsFit old → (c : SetCommand) → ShortSets c → (reply : List Part) (new : World) → may_sets seed old c reply new → IsFit new
sets_fit seed old fit (sets.SMembers key) short reply new m = fit_may_tell old fit set_in key _ reply new m
sets_fit seed old fit (sets.SPop key n) short reply new m = fit_popped old fit key n reply new m
sets_fit seed old fit (sets.SRandMember key n) short reply new m = fit_may_tell old fit set_in key _ reply new m
sets_fit seed old fit (sets.SJoin how keys) short reply new m = fit_may_tell_of old fit (sets_at old keys) _ reply new m
sets_fit seed old fit (sets.SJoinStore how to keys) short reply new m = fit_stored old fit how to keys short reply new m
sets_fit seed old fit (sets.SInterCard keys limit) short reply new m = fit_may_tell_of old fit (sets_at old keys) _ reply new m
sets_fit seed old fit (sets.SScan key cursor options) short reply new m = fit_may_tell old fit set_in key _ reply new m
sets_fit seed old fit other short reply new m = fit_outcome (set_outcome old other) reply new (outcome_fit old fit other short) m
