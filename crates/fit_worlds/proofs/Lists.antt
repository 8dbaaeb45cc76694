-- Commands on lists leave a fit world.
use Rattle.std.proofs.Common.{◌≡◌, ℕ, zero, suc, ◌-◌, List, [], ◌∷◌, length, take, drop, true, false, Option, Some, None, refl, subst, arith}
use Rattle.std.specs.Prelude.{ℤ, pos, negsuc, bytes_eq, not, reverse, if◌then◌else◌}
use Rattle.std.specs.List.{AllByRecursion}
use Rattle.plain_world.specs.Worlds.{World, Value, ListOf}
use Rattle.plain_world.specs.declared.reply.Part.{Part}
use Rattle.plain_world.specs.declared.reply.Part.TheVariants.{Bulk}
use Rattle.plain_model.specs.Outcomes.{Outcome, leaves}
use Rattle.plain_model.specs.OfType.{list_in}
use Rattle.plain_model.specs.Shapes.{Plain, Whole, OnSide, AtEnd}
use Rattle.plain_model.specs.ListWords.{position_options, no_position_options, list_rows}
use Rattle.plain_model.specs.ListSteps.{Elements, on_list, or_none, keep_list, counted, from_end, pushed, added, push, push_there, push_if_there, without, pop_of, pop, replaced, set_place}
use Rattle.plain_model.specs.ListSteps.{set_at, place_of, range_start, range_end}
use Rattle.plain_model.specs.ListSteps.{list_range, trim, beside, behind_first, inserted_beside, insert_there, insert_beside, without_first, without_equal, remove_equal, move_first}
use Rattle.plain_model.specs.ListSteps.{move_there, move_element, list_outcome, may_lists}
use Rattle.plain_model.specs.declared.list_command.ListCommand.{ListCommand}
use Rattle.plain_model.specs.declared.list_command.ListCommand.TheVariants as lists
use Rattle.plain_model.specs.declared.list_command.ListEnd.{ListEnd}
use Rattle.plain_model.specs.declared.list_command.ListEnd.TheVariants.{Head, Tail}
use Rattle.plain_model.specs.declared.list_command.Side.{Side}
use Rattle.plain_model.specs.declared.list_command.Side.TheVariants.{Before, After}
use Rattle.fit_worlds.specs.Fit.{IsShort, AreShort, IsFitValue, IsFit}
use Rattle.fit_worlds.proofs.Each.{each_append, each_take, each_drop, each_filter, each_reverse}
use Rattle.fit_worlds.proofs.Told.{◌⊗◌, RowKeeps, fixed_makes, repeated_makes, options_make, amount_keeps}
use Rattle.fit_worlds.proofs.Worlds.{fit_remove, fit_keep, fit_on_type, fit_told, fit_outcome}

-- ---- what the words of a command that writes are

abbrev pub ShortLists : ListCommand → Type 0
ShortLists (lists.LPush key elements) = IsShort key × AreShort elements
ShortLists (lists.RPush key elements) = IsShort key × AreShort elements
ShortLists (lists.LPushX key elements) = IsShort key × AreShort elements
ShortLists (lists.RPushX key elements) = IsShort key × AreShort elements
ShortLists (lists.LSet key index element) = IsShort element
ShortLists (lists.LInsert key side pivot element) = IsShort element
ShortLists (lists.LMove from to end other) = IsShort to
ShortLists (lists.RPopLPush from to) = IsShort to
ShortLists other = Unit {0}

pub list_rows_short : AllByRecursion (RowKeeps ShortLists) list_rows
list_rows_short =
    repeated_makes ShortLists (Plain ∷ []) 1 (λ a elements. lists.LPush a.0 elements) (λ a k rest short. (k.0, short))
    ⊗ repeated_makes ShortLists (Plain ∷ []) 1 (λ a elements. lists.RPush a.0 elements) (λ a k rest short. (k.0, short))
    ⊗ repeated_makes ShortLists (Plain ∷ []) 1 (λ a elements. lists.LPushX a.0 elements) (λ a k rest short. (k.0, short))
    ⊗ repeated_makes ShortLists (Plain ∷ []) 1 (λ a elements. lists.RPushX a.0 elements) (λ a k rest short. (k.0, short))
    ⊗ amount_keeps ShortLists lists.LPop (λ key n. tt)
    ⊗ amount_keeps ShortLists lists.RPop (λ key n. tt)
    ⊗ fixed_makes ShortLists (Plain ∷ []) (λ a. lists.LLen a.0) (λ a k. tt)
    ⊗ fixed_makes ShortLists (Plain ∷ Whole ∷ []) (λ a. lists.LIndex a.0 a.1.0) (λ a k. tt)
    ⊗ fixed_makes ShortLists (Plain ∷ Whole ∷ Plain ∷ []) (λ a. lists.LSet a.0 a.1.0 a.1.1.0) (λ a k. k.1.1.0)
    ⊗ fixed_makes ShortLists (Plain ∷ Whole ∷ Whole ∷ []) (λ a. lists.LRange a.0 a.1.0 a.1.1.0) (λ a k. tt)
    ⊗ fixed_makes ShortLists (Plain ∷ Whole ∷ Whole ∷ []) (λ a. lists.LTrim a.0 a.1.0 a.1.1.0) (λ a k. tt)
    ⊗ fixed_makes ShortLists (Plain ∷ OnSide ∷ Plain ∷ Plain ∷ []) (λ a. lists.LInsert a.0 a.1.0 a.1.1.0 a.1.1.1.0) (λ a k. k.1.1.1.0)
    ⊗ fixed_makes ShortLists (Plain ∷ Whole ∷ Plain ∷ []) (λ a. lists.LRem a.0 a.1.0 a.1.1.0) (λ a k. tt)
    ⊗ options_make ShortLists (Plain ∷ Plain ∷ []) position_options no_position_options (λ a o. lists.LPos a.0 a.1.0 o) (λ a k o. tt)
    ⊗ fixed_makes ShortLists (Plain ∷ Plain ∷ AtEnd ∷ AtEnd ∷ []) (λ a. lists.LMove a.0 a.1.0 a.1.1.0 a.1.1.1.0) (λ a k. k.1.0)
    ⊗ fixed_makes ShortLists (Plain ∷ Plain ∷ []) (λ a. lists.RPopLPush a.0 a.1.0) (λ a k. k.1.0)
    ⊗ tt

-- ---- lists of short elements

from_end_short : (end : ListEnd) (list : Elements) → AreShort list → AreShort (from_end end list)
from_end_short Head list short = short
from_end_short Tail list short = each_reverse IsShort list short

pushed_short : (list elements : Elements) → AreShort list → AreShort elements → AreShort (pushed list elements)
pushed_short list [] short more = short
pushed_short list (element ∷ elements) short more = pushed_short (element ∷ list) elements (more.0, short) more.1

added_short : (end : ListEnd) (list elements : Elements) → AreShort list → AreShort elements → AreShort (added end list elements)
added_short Head list elements short more = pushed_short list elements short more
added_short Tail list elements short more = each_append IsShort list elements short more

without_short : (end : ListEnd) (n : ℕ) (list : Elements) → AreShort list → AreShort (without end n list)
without_short end n list short =
    from_end_short end (drop n (from_end end list)) (each_drop IsShort n (from_end end list) (from_end_short end list short))

replaced_short : (list : Elements) (n : ℕ) (element : List ℕ) → AreShort list → IsShort element → AreShort (replaced list n element)
replaced_short list n element short is = each_append IsShort (take n list) (element ∷ drop (suc n) list) (each_take IsShort n list short) (is, each_drop IsShort (suc n) list short)

range_short : (list : Elements) (a b : ℤ) → AreShort list → AreShort (list_range list a b)
range_short list a b short =
    each_take IsShort (range_end (length list) b - range_start (length list) a) (drop (range_start (length list) a) list)
    (each_drop IsShort (range_start (length list) a) list short)

beside_short : (side : Side) (first element : List ℕ) (rest : Elements) → IsShort first → IsShort element → AreShort rest → AreShort (beside side first element rest)
beside_short Before first element rest f e short = (e, (f, short))
beside_short After first element rest f e short = (f, (e, short))

-- what is inserted, where it is
inserted_short : (side : Side) (pivot element : List ℕ) (list : Elements) → IsShort element → AreShort list → (left : Elements) → inserted_beside side pivot element list ≡ Some left → AreShort left
inserted_short side pivot element [] e short left is = cc
inserted_short side pivot element (first ∷ rest) e short left is =
    (elim (bytes_eq first pivot) as (λ b. (if b then Some (beside side first element rest) else behind_first first (inserted_beside side pivot element rest)) ≡ Some left → AreShort left) [
      | true ↦ λ f. let one : beside side first element rest ≡ left = cc in subst AreShort one (beside_short side first element rest short.0 e short.1)
      | false ↦ behind (inserted_beside side pivot element rest) (inserted_short side pivot element rest e short.1)
    ]) is
  where
    behind : (o : Option Elements) → ((list : Elements) → o ≡ Some list → AreShort list) → behind_first first o ≡ Some left → AreShort left
    behind None each f = cc
    behind (Some list) each f = let one : first ∷ list ≡ left = cc in subst AreShort one (short.0, each list refl)

without_first_short : (n : ℕ) (element : List ℕ) (list : Elements) → AreShort list → AreShort (without_first n element list)
without_first_short n element [] short = tt
without_first_short zero element (first ∷ rest) short = short
without_first_short (suc n) element (first ∷ rest) short =
    elim (bytes_eq first element) as (λ b. AreShort (if b then without_first n element rest else first ∷ without_first (suc n) element rest)) [
      | true ↦ without_first_short n element rest short.1
      | false ↦ (short.0, without_first_short (suc n) element rest short.1)
    ]

without_equal_short : (n : ℤ) (element : List ℕ) (list : Elements) → AreShort list → AreShort (without_equal n element list)
without_equal_short (pos zero) element list short = each_filter IsShort (λ other. not (bytes_eq other element)) list short
without_equal_short (pos (suc n)) element list short = without_first_short (suc n) element list short
without_equal_short (negsuc n) element list short =
    each_reverse IsShort (without_first (suc n) element (reverse list)) (without_first_short (suc n) element (reverse list) (each_reverse IsShort list short))

-- ---- steps

-- the list that a fit value is
fit_list : (v : Value) (list : Elements) → list_in v ≡ Some list → IsFitValue v → AreShort list
fit_list (ListOf other) list is fit = let one : other ≡ list = cc in subst AreShort one fit.1
fit_list other list is fit = cc

-- a list stands at a key, or it goes with its key
fit_keep_list : (old : World) → IsFit old → (key : List ℕ) → IsShort key → (list : Elements) → AreShort list → IsFit (keep_list old key list)
fit_keep_list old fit key is [] short = fit_remove old key fit
fit_keep_list old fit key is (element ∷ list) short = fit_keep old fit key (ListOf (element ∷ list)) is (omega arith, short)

module _ (old : World) (fit : IsFit old) where
  -- what is made of a list at a key
  fit_on_list : (key : List ℕ) (answer : Option Elements → Outcome) → IsFit (answer None).world → ((list : Elements) → IsShort key → AreShort list → IsFit (answer (Some list)).world)
      → IsFit (on_list old key answer).world
  fit_on_list key answer none some = fit_on_type old fit list_in AreShort fit_list key answer none some

  fit_push : (end : ListEnd) (key : List ℕ) (elements : Elements) → IsShort key → AreShort elements → IsFit (push old end key elements).world
  fit_push end key elements is short =
      fit_on_list key (λ before. counted old key (added end (or_none before) elements)) (fit_keep_list old fit key is (added end [] elements) (added_short end [] elements tt short))
      (λ list k before. fit_keep_list old fit key is (added end list elements) (added_short end list elements before short))

  fit_push_there : (end : ListEnd) (key : List ℕ) (elements : Elements) → IsShort key → AreShort elements → IsFit (push_if_there old end key elements).world
  fit_push_there end key elements is short =
      fit_on_list key (push_there old end key elements) fit (λ list k before. fit_keep_list old fit key is (added end list elements) (added_short end list elements before short))

  fit_pop : (end : ListEnd) (key : List ℕ) (n : Option ℕ) → IsFit (pop old end key n).world
  fit_pop end key None = fit_on_list key (pop_of old end key None) fit (λ list k short. fit_keep_list old fit key k (without end 1 list) (without_short end 1 list short))
  fit_pop end key (Some n) = fit_on_list key (pop_of old end key (Some n)) fit (λ list k short. fit_keep_list old fit key k (without end n list) (without_short end n list short))

  fit_set_at : (key : List ℕ) (index : ℤ) (element : List ℕ) → IsShort element → IsFit (list_outcome old (lists.LSet key index element)).world
  fit_set_at key index element is = fit_on_list key (set_at old key index element) fit (λ list k short. at list k short (place_of (length list) index))
    where
      at : (list : Elements) → IsShort key → AreShort list → (place : Option ℕ) → IsFit (set_place old key element list place).world
      at list k short None = fit
      at list k short (Some n) = fit_keep_list old fit key k (replaced list n element) (replaced_short list n element short is)

  fit_insert : (key : List ℕ) (side : Side) (pivot element : List ℕ) → IsShort element → IsFit (list_outcome old (lists.LInsert key side pivot element)).world
  fit_insert key side pivot element is =
      fit_on_list key (insert_beside old key side pivot element) fit
      (λ list k short. there k (inserted_beside side pivot element list) (inserted_short side pivot element list is short))
    where
      there : IsShort key → (o : Option Elements) → ((list : Elements) → o ≡ Some list → AreShort list) → IsFit (insert_there old key o).world
      there k None short = fit
      there k (Some list) short = fit_keep_list old fit key k list (short list refl)

  fit_move : (from to : List ℕ) (end other : ListEnd) → IsShort to → IsFit (move_element old from to end other).world
  fit_move from to end other is = fit_on_list from (move_there old from to end other) fit (λ list k short. first k list (from_end end list) (from_end_short end list short))
    where
      first : IsShort from → (list met : Elements) → AreShort met → IsFit (move_first old from to end other list met).world
      first k list [] short = fit
      first k list (element ∷ met) short =
          let rest = from_end end met in
          let rest_short : AreShort rest = from_end_short end met short.1 in
          let left : Outcome = on_list old to (λ before. leaves (Bulk element ∷ []) (keep_list (keep_list old from rest) to (added other (or_none before) (element ∷ [])))) in
          let kept : IsFit (keep_list old from rest) = fit_keep_list old fit from k rest rest_short in
          elim (bytes_eq from to) as (λ b. IsFit (if b then leaves (Bulk element ∷ []) (keep_list old from (added other rest (element ∷ []))) else left).world) [
            | true ↦ fit_keep_list old fit from k (added other rest (element ∷ [])) (added_short other rest (element ∷ []) rest_short (short.0, tt))
            | false ↦ fit_on_list to (λ before. leaves (Bulk element ∷ []) (keep_list (keep_list old from rest) to (added other (or_none before) (element ∷ []))))
                (fit_keep_list (keep_list old from rest) kept to is (added other [] (element ∷ [])) (added_short other [] (element ∷ []) tt (short.0, tt)))
                (λ target t there. fit_keep_list (keep_list old from rest) kept to is (added other target (element ∷ [])) (added_short other target (element ∷ []) there (short.0, tt)))
          ]

  outcome_fit : (c : ListCommand) → ShortLists c → IsFit (list_outcome old c).world
  outcome_fit (lists.LPush key elements) short = fit_push Head key elements short.0 short.1
  outcome_fit (lists.RPush key elements) short = fit_push Tail key elements short.0 short.1
  outcome_fit (lists.LPushX key elements) short = fit_push_there Head key elements short.0 short.1
  outcome_fit (lists.RPushX key elements) short = fit_push_there Tail key elements short.0 short.1
  outcome_fit (lists.LPop key n) short = fit_pop Head key n
  outcome_fit (lists.RPop key n) short = fit_pop Tail key n
  outcome_fit (lists.LLen key) short = fit_told old fit list_in key _
  outcome_fit (lists.LIndex key index) short = fit_told old fit list_in key _
  outcome_fit (lists.LSet key index element) short = fit_set_at key index element short
  outcome_fit (lists.LRange key a b) short = fit_told old fit list_in key _
  outcome_fit (lists.LTrim key a b) short =
      fit_on_list key (trim old key a b) fit (λ list k is. fit_keep_list old fit key k (list_range list a b) (range_short list a b is))
  outcome_fit (lists.LInsert key side pivot element) short = fit_insert key side pivot element short
  outcome_fit (lists.LRem key n element) short =
      fit_on_list key (remove_equal old key n element) fit (λ list k is. fit_keep_list old fit key k (without_equal n element list) (without_equal_short n element list is))
  outcome_fit (lists.LPos key element options) short = fit_told old fit list_in key _
  outcome_fit (lists.LMove from to end other) short = fit_move from to end other short
  outcome_fit (lists.RPopLPush from to) short = fit_move from to Tail Head short

pub lists_fit : (old : World) → IsFit old → (c : ListCommand) → ShortLists c → (reply : List Part) (new : World) → may_lists old c reply new → IsFit new
lists_fit old fit c short reply new m = fit_outcome (list_outcome old c) reply new (outcome_fit old fit c short) m
