-- What commands on lists, sets, hashes, sorted sets and streams leave where they don't write.
use Rattle.std.proofs.Common.{◌≡◌, ℕ, Bool, List, [], ◌∷◌, Option, None, Some, Result, Ok, Err, sym, ap, ◌∙◌, subst}
use Rattle.std.specs.Prelude.{ℤ, is_some, ◌==◌, bytes_eq, length, ◌+ℤ◌}
use Rattle.std.specs.List.{list_any}
use Rattle.std.specs.FinMap.{empty, get, insert, len, entries, contains_key}
use Rattle.std.specs.FinMap as finite
use Rattle.int_text.specs.Decimal.{is_i64, canonical}
use Rattle.stream_groups.specs.Groups.{Id, Group}
use Rattle.plain_world.specs.Streams.{Stream}
use Rattle.plain_world.specs.Worlds.{World, Value, ListOf, SetOf, HashOf, SortedOf, StreamOf, Entry, look, look_in, put, remove, deadline_of}
use Rattle.plain_world.specs.declared.refusal.Refusal.{Refusal}
use Rattle.plain_world.specs.declared.reply.Part.{Part}
use Rattle.plain_model.specs.Outcomes.{Outcome}
use Rattle.plain_model.specs.OfType.{keep, may_tell, may_tell_of, may_do, may_do_of, list_in, set_in, hash_in, zset_in, stream_in}
use Rattle.plain_model.specs.ListSteps as list_steps
use Rattle.plain_model.specs.ListSteps.{Elements, on_list, keep_list, list_outcome, from_end, added, or_none, move_first, move_there, move_element}
use Rattle.plain_model.specs.SetSteps as set_steps
use Rattle.plain_model.specs.SetSteps.{Members, on_set, keep_set, set_outcome, may_sets, sets_at}
use Rattle.plain_model.specs.HashSteps as hash_steps
use Rattle.plain_model.specs.HashSteps.{Fields, on_hash, keep_hash, hash_outcome, may_hashes}
use Rattle.plain_model.specs.ZsetSteps as zset_steps
use Rattle.plain_model.specs.ZsetSteps.{Scores, on_zset, keep_zset, zset_outcome, may_zsets}
use Rattle.plain_model.specs.StreamSteps as stream_steps
use Rattle.plain_model.specs.StreamSteps.{Asked, on_stream, keep_stream}
use Rattle.plain_model.specs.GroupSteps as group_steps
use Rattle.plain_model.specs.GroupSteps.{stream_outcome}
use Rattle.plain_model.specs.declared.list_command.ListEnd.{ListEnd}
use Rattle.plain_model.specs.declared.list_command.ListEnd.TheVariants.{Head, Tail}
use Rattle.plain_model.specs.declared.list_command.ListCommand.{ListCommand}
use Rattle.plain_model.specs.declared.list_command.ListCommand.TheVariants as lists
use Rattle.plain_model.specs.declared.set_command.SetCommand.{SetCommand}
use Rattle.plain_model.specs.declared.set_command.SetCommand.TheVariants as sets
use Rattle.plain_model.specs.declared.hash_command.HashCommand.{HashCommand}
use Rattle.plain_model.specs.declared.hash_command.HashCommand.TheVariants as hashes
use Rattle.plain_model.specs.declared.zset_command.ZsetCommand.{ZsetCommand}
use Rattle.plain_model.specs.declared.zset_command.ZsetCommand.TheVariants as zsets
use Rattle.plain_model.specs.declared.zset_command.ScoreRules.{ScoreRules}
use Rattle.plain_model.specs.declared.stream_command.StreamCommand.{StreamCommand}
use Rattle.plain_model.specs.declared.stream_command.StreamCommand.TheVariants as streams
use Rattle.plain_model.specs.declared.stream_command.Trim.{Trim}
use Rattle.plain_model.specs.declared.stream_command.NewId.{NewId}
use Rattle.plain_model.specs.declared.stream_command.AppendOptions.{AppendOptions}
use Rattle.plain_model.specs.declared.zset_command.Direction.{Direction}
use Rattle.written_keys.specs.Written.{at, asked_at, list_places, set_places, hash_places, zset_places, stream_places}
use Rattle.written_keys.proofs.Base.{Stays, Apart, Off, Leaves, apart_first, off_rest, none, onward, put_stays, remove_stays, if_stays, if_leaves, on_type_leaves}

module _ (d : ℕ) (q : List ℕ) where
  keep_stays : (old : World) (key : List ℕ) (value : Value) → Apart d q old.selected key → Stays d q old (keep old key value)
  keep_stays old key value apart = put_stays d q old key (record { value = value; deadline = deadline_of (look old key) }) apart

  -- at a key that is another place, a collection is kept, or goes without an element
  keep_list_stays : (old : World) (key : List ℕ) (list : Elements) → Apart d q old.selected key → Stays d q old (keep_list old key list)
  keep_list_stays old key [] apart = remove_stays d q old key apart
  keep_list_stays old key (element ∷ list) apart = keep_stays old key (ListOf (element ∷ list)) apart

  keep_set_stays : (old : World) (key : List ℕ) (members : Members) → Apart d q old.selected key → Stays d q old (keep_set old key members)
  keep_set_stays old key members apart = if_stays d q old (len members == 0) (remove old key) (keep old key (SetOf members)) (remove_stays d q old key apart) (keep_stays old key (SetOf members) apart)

  keep_hash_stays : (old : World) (key : List ℕ) (fields : Fields) → Apart d q old.selected key → Stays d q old (keep_hash old key fields)
  keep_hash_stays old key fields apart = if_stays d q old (len fields == 0) (remove old key) (keep old key (HashOf fields)) (remove_stays d q old key apart) (keep_stays old key (HashOf fields) apart)

  keep_zset_stays : (old : World) (key : List ℕ) (scores : Scores) → Apart d q old.selected key → Stays d q old (keep_zset old key scores)
  keep_zset_stays old key scores apart = if_stays d q old (len scores == 0) (remove old key) (keep old key (SortedOf scores)) (remove_stays d q old key apart) (keep_stays old key (SortedOf scores) apart)

  keep_stream_stays : (old : World) (key : List ℕ) (s : Stream) → Apart d q old.selected key → Stays d q old (keep_stream old key s)
  keep_stream_stays old key s apart = keep_stays old key (StreamOf s) apart

  -- two keys, one after the other
  both_stay : (old mid new : World) (to : List ℕ) → Stays d q old mid → (Apart d q mid.selected to → Stays d q mid new) → Apart d q old.selected to → Stays d q old new
  both_stay old mid new to first second apart = onward d q old mid new first (second (subst (λ n. Apart d q n to) (sym first.selected) apart))

  -- ---- what is told, or done, of a value of one type

  told_stays : {A : Type 0} (in_value : Value → Option A) (old : World) (entry : Option Entry) (told : Option A → List Part → Type 0) (reply : List Part) (new : World)
      → may_tell in_value old entry told reply new → look_in new d q ≡ look_in old d q
  told_stays in_value old None told reply new m = ap (λ w. look_in w d q) m.1
  told_stays {A} in_value old (Some entry) told reply new m = of_value (in_value entry.value) m
    where
      of_value : (own : Option A) → may_tell_of old own told reply new → look_in new d q ≡ look_in old d q
      of_value None n = ap (λ w. look_in w d q) n.1
      of_value (Some own) n = ap (λ w. look_in w d q) n.1

  told_of_stays : {A : Type 0} (old : World) (own : Option A) (told : Option A → List Part → Type 0) (reply : List Part) (new : World) → may_tell_of old own told reply new
      → look_in new d q ≡ look_in old d q
  told_of_stays old None told reply new m = ap (λ w. look_in w d q) m.1
  told_of_stays old (Some own) told reply new m = ap (λ w. look_in w d q) m.1

  done_of_stays : {A : Type 0} (old : World) (own : Option A) (does : Option A → List Part → World → Type 0) (reply : List Part) (new : World)
      → ((before : Option A) → does before reply new → look_in new d q ≡ look_in old d q) → may_do_of old own does reply new → look_in new d q ≡ look_in old d q
  done_of_stays old None does reply new h m = ap (λ w. look_in w d q) m.1
  done_of_stays old (Some own) does reply new h m = h (Some own) m

  done_stays : {A : Type 0} (in_value : Value → Option A) (old : World) (entry : Option Entry) (does : Option A → List Part → World → Type 0) (reply : List Part) (new : World)
      → ((before : Option A) → does before reply new → look_in new d q ≡ look_in old d q) → may_do in_value old entry does reply new → look_in new d q ≡ look_in old d q
  done_stays in_value old None does reply new h m = h None m
  done_stays in_value old (Some entry) does reply new h m = done_of_stays old (in_value entry.value) does reply new h m

module _ (d : ℕ) (q : List ℕ) (old : World) where
  abbrev Leave : Outcome → Type 0
  Leave outcome = Leaves d q old outcome

  -- ---- lists

  on_list_leaves : (key : List ℕ) (answer : Option Elements → Outcome) → ((before : Option Elements) → Leave (answer before)) → Leave (on_list old key answer)
  on_list_leaves key answer h = on_type_leaves d q old list_in (look old key) answer h

  push_there_leaves : (end : ListEnd) (key : List ℕ) (elements : Elements) (before : Option Elements) → Apart d q old.selected key → Leave (list_steps.push_there old end key elements before)
  push_there_leaves end key elements None apart = none d q old
  push_there_leaves end key elements (Some list) apart = keep_list_stays d q old key (added end list elements) apart

  pop_leaves : (end : ListEnd) (key : List ℕ) (n : Option ℕ) (before : Option Elements) → Apart d q old.selected key → Leave (list_steps.pop_of old end key n before)
  pop_leaves end key None None apart = none d q old
  pop_leaves end key None (Some list) apart = keep_list_stays d q old key (list_steps.without end 1 list) apart
  pop_leaves end key (Some n) None apart = none d q old
  pop_leaves end key (Some n) (Some list) apart = keep_list_stays d q old key (list_steps.without end n list) apart

  set_at_leaves : (key : List ℕ) (index : ℤ) (element : List ℕ) (before : Option Elements) → Apart d q old.selected key → Leave (list_steps.set_at old key index element before)
  set_at_leaves key index element None apart = none d q old
  set_at_leaves key index element (Some list) apart = of_place (list_steps.place_of (length list) index)
    where
      of_place : (place : Option ℕ) → Leave (list_steps.set_place old key element list place)
      of_place None = none d q old
      of_place (Some n) = keep_list_stays d q old key (list_steps.replaced list n element) apart

  trim_list_leaves : (key : List ℕ) (a b : ℤ) (before : Option Elements) → Apart d q old.selected key → Leave (list_steps.trim old key a b before)
  trim_list_leaves key a b None apart = none d q old
  trim_list_leaves key a b (Some list) apart = keep_list_stays d q old key (list_steps.list_range list a b) apart

  insert_leaves : (key : List ℕ) (list : Option Elements) → Apart d q old.selected key → Leave (list_steps.insert_there old key list)
  insert_leaves key None apart = none d q old
  insert_leaves key (Some list) apart = keep_list_stays d q old key list apart

  remove_equal_leaves : (key : List ℕ) (n : ℤ) (element : List ℕ) (before : Option Elements) → Apart d q old.selected key → Leave (list_steps.remove_equal old key n element before)
  remove_equal_leaves key n element None apart = none d q old
  remove_equal_leaves key n element (Some list) apart = keep_list_stays d q old key (list_steps.without_equal n element list) apart

  move_first_leaves : (from to : List ℕ) (end other : ListEnd) (list met : Elements) → Apart d q old.selected from → Apart d q old.selected to → Leave (move_first old from to end other list met)
  move_first_leaves from to end other list [] a b = none d q old
  move_first_leaves from to end other list (element ∷ met) a b =
      let rest = from_end end met in
      if_leaves d q old (bytes_eq from to) _ _ (keep_list_stays d q old from (added other rest (element ∷ [])) a)
      (on_list_leaves to _ (λ before. both_stay d q old (keep_list old from rest) (keep_list (keep_list old from rest) to (added other (or_none before) (element ∷ []))) to
      (keep_list_stays d q old from rest a) (λ apart. keep_list_stays d q (keep_list old from rest) to (added other (or_none before) (element ∷ [])) apart) b))

  move_leaves : (from to : List ℕ) (end other : ListEnd) → Off d q (at old.selected from ∷ at old.selected to ∷ []) → Leave (move_element old from to end other)
  move_leaves from to end other off = on_list_leaves from (move_there old from to end other) there
    where
      there : (before : Option Elements) → Leave (move_there old from to end other before)
      there None = none d q old
      there (Some list) =
          move_first_leaves from to end other list (from_end end list) (apart_first d q old.selected from (at old.selected to ∷ []) off)
          (apart_first d q old.selected to [] (off_rest d q (at old.selected from) (at old.selected to ∷ []) off))

  alone : (key : List ℕ) → Off d q (at old.selected key ∷ []) → Apart d q old.selected key
  alone key off = apart_first d q old.selected key [] off

  pub lists_leave : (command : ListCommand) → Off d q (list_places old.selected command) → Leave (list_outcome old command)
  lists_leave (lists.LPush key elements) off = on_list_leaves key _ (λ before. keep_list_stays d q old key (added Head (or_none before) elements) (alone key off))
  lists_leave (lists.RPush key elements) off = on_list_leaves key _ (λ before. keep_list_stays d q old key (added Tail (or_none before) elements) (alone key off))
  lists_leave (lists.LPushX key elements) off = on_list_leaves key (list_steps.push_there old Head key elements) (λ before. push_there_leaves Head key elements before (alone key off))
  lists_leave (lists.RPushX key elements) off = on_list_leaves key (list_steps.push_there old Tail key elements) (λ before. push_there_leaves Tail key elements before (alone key off))
  lists_leave (lists.LPop key n) off = on_list_leaves key (list_steps.pop_of old Head key n) (λ before. pop_leaves Head key n before (alone key off))
  lists_leave (lists.RPop key n) off = on_list_leaves key (list_steps.pop_of old Tail key n) (λ before. pop_leaves Tail key n before (alone key off))
  lists_leave (lists.LLen key) off = on_list_leaves key _ (λ before. none d q old)
  lists_leave (lists.LIndex key index) off = on_list_leaves key _ (λ before. none d q old)
  lists_leave (lists.LSet key index element) off = on_list_leaves key (list_steps.set_at old key index element) (λ before. set_at_leaves key index element before (alone key off))
  lists_leave (lists.LRange key a b) off = on_list_leaves key _ (λ before. none d q old)
  lists_leave (lists.LTrim key a b) off = on_list_leaves key (list_steps.trim old key a b) (λ before. trim_list_leaves key a b before (alone key off))
  lists_leave (lists.LInsert key side pivot element) off = on_list_leaves key (list_steps.insert_beside old key side pivot element) there
    where
      there : (before : Option Elements) → Leave (list_steps.insert_beside old key side pivot element before)
      there None = none d q old
      there (Some list) = insert_leaves key (list_steps.inserted_beside side pivot element list) (alone key off)
  lists_leave (lists.LRem key n element) off = on_list_leaves key (list_steps.remove_equal old key n element) (λ before. remove_equal_leaves key n element before (alone key off))
  lists_leave (lists.LPos key element options) off = on_list_leaves key _ (λ before. none d q old)
  lists_leave (lists.LMove from to end other) off = move_leaves from to end other off
  lists_leave (lists.RPopLPush from to) off = move_leaves from to Tail Head off

  -- ---- sets

  on_set_leaves : (key : List ℕ) (answer : Option Members → Outcome) → ((before : Option Members) → Leave (answer before)) → Leave (on_set old key answer)
  on_set_leaves key answer h = on_type_leaves d q old set_in (look old key) answer h

  drop_set_leaves : (key : List ℕ) (others : List (List ℕ)) (before : Option Members) → Apart d q old.selected key → Leave (set_steps.drop_members old key others before)
  drop_set_leaves key others None apart = none d q old
  drop_set_leaves key others (Some members) apart = keep_set_stays d q old key (set_steps.drop_all members others) apart

  move_to_leaves : (from to member : List ℕ) (members : Members) (target : Option Members) → Apart d q old.selected from → Apart d q old.selected to
      → Leave (set_steps.move_to old from to member members target)
  move_to_leaves from to member members target a b =
      let mid = keep_set old from (finite.remove members member) in
      let own = insert (set_steps.or_no_members target) member tt in
      if_leaves d q old (set_steps.has members member) _ _
      (if_leaves d q old (bytes_eq from to) _ _ (none d q old)
      (both_stay d q old mid (keep_set mid to own) to (keep_set_stays d q old from (finite.remove members member) a) (λ apart. keep_set_stays d q mid to own apart) b))
      (none d q old)

  move_from_leaves : (from to member : List ℕ) (before : Option Members) → Off d q (at old.selected from ∷ at old.selected to ∷ []) → Leave (set_steps.move_from old from to member before)
  move_from_leaves from to member None off = none d q old
  move_from_leaves from to member (Some members) off =
      on_set_leaves to (set_steps.move_to old from to member members) (λ target. move_to_leaves from to member members target
      (apart_first d q old.selected from (at old.selected to ∷ []) off) (apart_first d q old.selected to [] (off_rest d q (at old.selected from) (at old.selected to ∷ []) off)))

  set_outcome_leaves : (command : SetCommand) → Off d q (set_places old.selected command) → Leave (set_outcome old command)
  set_outcome_leaves (sets.SAdd key others) off = on_set_leaves key _ (λ before. keep_set_stays d q old key (set_steps.add_all (set_steps.or_no_members before) others) (alone key off))
  set_outcome_leaves (sets.SRem key others) off = on_set_leaves key (set_steps.drop_members old key others) (λ before. drop_set_leaves key others before (alone key off))
  set_outcome_leaves (sets.SIsMember key member) off = on_set_leaves key _ (λ before. none d q old)
  set_outcome_leaves (sets.SMIsMember key others) off = on_set_leaves key _ (λ before. none d q old)
  set_outcome_leaves (sets.SCard key) off = on_set_leaves key _ (λ before. none d q old)
  set_outcome_leaves (sets.SMove from to member) off = on_set_leaves from (set_steps.move_from old from to member) (λ before. move_from_leaves from to member before off)
  set_outcome_leaves other off = none d q old

  store_set_stays : (to : List ℕ) (members : Members) → Apart d q old.selected to → Stays d q old (set_steps.store_set old to members)
  store_set_stays to members apart =
      if_stays d q old (len members == 0) (remove old to) (put old to (record { value = SetOf members; deadline = None })) (remove_stays d q old to apart)
      (put_stays d q old to (record { value = SetOf members; deadline = None }) apart)

  pub sets_stay : (seed : ℕ) (command : SetCommand) (reply : List Part) (new : World) → may_sets seed old command reply new → Off d q (set_places old.selected command)
      → look_in new d q ≡ look_in old d q
  sets_stay seed (sets.SMembers key) reply new m off = told_stays d q set_in old (look old key) _ reply new m
  sets_stay seed (sets.SPop key n) reply new m off = done_stays d q set_in old (look old key) (set_steps.PopsMembers old key n) reply new pops m
    where
      pops : (before : Option Members) → set_steps.PopsMembers old key n before reply new → look_in new d q ≡ look_in old d q
      pops None p = ap (λ w. look_in w d q) p.1
      pops (Some members) p = ap (λ w. look_in w d q) p.3 ∙ (keep_set_stays d q old key (set_steps.drop_all members p.0) (alone key off)).same
  sets_stay seed (sets.SRandMember key n) reply new m off = told_stays d q set_in old (look old key) _ reply new m
  sets_stay seed (sets.SJoin how keys) reply new m off = told_of_stays d q old (sets_at old keys) _ reply new m
  sets_stay seed (sets.SJoinStore how to keys) reply new m off =
      done_of_stays d q old (sets_at old keys) (set_steps.StoresJoin old to how) reply new
      (λ own s. ap (λ w. look_in w d q) s.2.1 ∙ (store_set_stays to s.0 (alone to off)).same) m
  sets_stay seed (sets.SInterCard keys limit) reply new m off = told_of_stays d q old (sets_at old keys) _ reply new m
  sets_stay seed (sets.SScan key cursor options) reply new m off = told_stays d q set_in old (look old key) _ reply new m
  sets_stay seed other reply new m off = ap (λ w. look_in w d q) m.1 ∙ (set_outcome_leaves other off).same

  -- ---- hashes

  on_hash_leaves : (key : List ℕ) (answer : Option Fields → Outcome) → ((before : Option Fields) → Leave (answer before)) → Leave (on_hash old key answer)
  on_hash_leaves key answer h = on_type_leaves d q old hash_in (look old key) answer h

  unset_leaves : (key : List ℕ) (others : List (List ℕ)) (before : Option Fields) → Apart d q old.selected key → Leave (hash_steps.unset_fields old key others before)
  unset_leaves key others None apart = none d q old
  unset_leaves key others (Some fields) apart = keep_hash_stays d q old key (hash_steps.unset_all fields others) apart

  count_field_leaves : (key field : List ℕ) (fields : Fields) (by : ℤ) (n : Option ℤ) → Apart d q old.selected key → Leave (hash_steps.count_on_field old key field fields by n)
  count_field_leaves key field fields by None apart = none d q old
  count_field_leaves key field fields by (Some n) apart =
      if_leaves d q old (is_i64 (n +ℤ by)) _ _ (keep_hash_stays d q old key (insert fields field (canonical (n +ℤ by))) apart) (none d q old)

  hash_outcome_leaves : (command : HashCommand) → Off d q (hash_places old.selected command) → Leave (hash_outcome old command)
  hash_outcome_leaves (hashes.HSet key pairs) off = on_hash_leaves key _ (λ before. keep_hash_stays d q old key (hash_steps.set_all (hash_steps.or_no_fields before) pairs) (alone key off))
  hash_outcome_leaves (hashes.HMSet key pairs) off = on_hash_leaves key _ (λ before. keep_hash_stays d q old key (hash_steps.set_all (hash_steps.or_no_fields before) pairs) (alone key off))
  hash_outcome_leaves (hashes.HSetNx key field value) off =
      on_hash_leaves key _ (λ before. if_leaves d q old (is_some (get (hash_steps.or_no_fields before) field)) _ _ (none d q old)
      (keep_hash_stays d q old key (insert (hash_steps.or_no_fields before) field value) (alone key off)))
  hash_outcome_leaves (hashes.HGet key field) off = on_hash_leaves key _ (λ before. none d q old)
  hash_outcome_leaves (hashes.HMGet key others) off = on_hash_leaves key _ (λ before. none d q old)
  hash_outcome_leaves (hashes.HDel key others) off = on_hash_leaves key (hash_steps.unset_fields old key others) (λ before. unset_leaves key others before (alone key off))
  hash_outcome_leaves (hashes.HExists key field) off = on_hash_leaves key _ (λ before. none d q old)
  hash_outcome_leaves (hashes.HLen key) off = on_hash_leaves key _ (λ before. none d q old)
  hash_outcome_leaves (hashes.HStrLen key field) off = on_hash_leaves key _ (λ before. none d q old)
  hash_outcome_leaves (hashes.HIncrBy key field by) off =
      on_hash_leaves key _ (λ before. count_field_leaves key field (hash_steps.or_no_fields before) by (hash_steps.number_in (get (hash_steps.or_no_fields before) field)) (alone key off))
  hash_outcome_leaves other off = none d q old

  pub hashes_stay : (seed : ℕ) (command : HashCommand) (reply : List Part) (new : World) → may_hashes seed old command reply new → Off d q (hash_places old.selected command)
      → look_in new d q ≡ look_in old d q
  hashes_stay seed (hashes.HKeys key) reply new m off = told_stays d q hash_in old (look old key) _ reply new m
  hashes_stay seed (hashes.HVals key) reply new m off = told_stays d q hash_in old (look old key) _ reply new m
  hashes_stay seed (hashes.HGetAll key) reply new m off = told_stays d q hash_in old (look old key) _ reply new m
  hashes_stay seed (hashes.HRandField key n more) reply new m off = told_stays d q hash_in old (look old key) _ reply new m
  hashes_stay seed (hashes.HScan key cursor options) reply new m off = told_stays d q hash_in old (look old key) _ reply new m
  hashes_stay seed other reply new m off = ap (λ w. look_in w d q) m.1 ∙ (hash_outcome_leaves other off).same

  -- ---- sorted sets

  on_zset_leaves : (key : List ℕ) (answer : Option Scores → Outcome) → ((before : Option Scores) → Leave (answer before)) → Leave (on_zset old key answer)
  on_zset_leaves key answer h = on_type_leaves d q old zset_in (look old key) answer h

  add_to_leaves : (key : List ℕ) (rules : ScoreRules) (ch : Bool) (pairs : List (ℤ × List ℕ)) (before : Option Scores) → Apart d q old.selected key
      → Leave (zset_steps.add_to old key rules ch pairs before)
  add_to_leaves key rules ch pairs None apart = if_leaves d q old rules.xx _ _ (none d q old) (keep_zset_stays d q old key (zset_steps.write_scores rules empty pairs) apart)
  add_to_leaves key rules ch pairs (Some scores) apart = keep_zset_stays d q old key (zset_steps.write_scores rules scores pairs) apart

  raise_leaves : (key : List ℕ) (rules : ScoreRules) (by : ℤ) (member : List ℕ) (scores : Scores) → Apart d q old.selected key → Leave (zset_steps.raise old key rules by member scores)
  raise_leaves key rules by member scores apart =
      let n = zset_steps.or_zero (get scores member) +ℤ by in
      if_leaves d q old (zset_steps.admits rules (get scores member)) _ _
      (if_leaves d q old (zset_steps.is_score n) _ _
      (if_leaves d q old (zset_steps.passes rules (get scores member) n) _ _ (keep_zset_stays d q old key (insert scores member n) apart) (none d q old)) (none d q old)) (none d q old)

  drop_zset_leaves : (key : List ℕ) (members : List (List ℕ)) (before : Option Scores) → Apart d q old.selected key → Leave (zset_steps.drop_members old key members before)
  drop_zset_leaves key members None apart = none d q old
  drop_zset_leaves key members (Some scores) apart = keep_zset_stays d q old key (zset_steps.without_members scores members) apart

  drop_part_leaves : (key : List ℕ) (part : List zset_steps.Scored → List zset_steps.Scored) (before : Option Scores) → Apart d q old.selected key → Leave (zset_steps.drop_part old key part before)
  drop_part_leaves key part None apart = none d q old
  drop_part_leaves key part (Some scores) apart = keep_zset_stays d q old key _ apart

  zset_outcome_leaves : (command : ZsetCommand) → Off d q (zset_places old.selected command) → Leave (zset_outcome old command)
  zset_outcome_leaves (zsets.ZAdd key rules ch pairs) off = on_zset_leaves key (zset_steps.add_to old key rules ch pairs) (λ before. add_to_leaves key rules ch pairs before (alone key off))
  zset_outcome_leaves (zsets.ZIncr key rules by member) off = on_zset_leaves key _ (λ before. raise_leaves key rules by member (zset_steps.or_no_scores before) (alone key off))
  zset_outcome_leaves (zsets.ZRem key members) off = on_zset_leaves key (zset_steps.drop_members old key members) (λ before. drop_zset_leaves key members before (alone key off))
  zset_outcome_leaves (zsets.ZScore key member) off = on_zset_leaves key _ (λ before. none d q old)
  zset_outcome_leaves (zsets.ZMScore key members) off = on_zset_leaves key _ (λ before. none d q old)
  zset_outcome_leaves (zsets.ZCard key) off = on_zset_leaves key _ (λ before. none d q old)
  zset_outcome_leaves (zsets.ZCount key min max) off = on_zset_leaves key _ (λ before. none d q old)
  zset_outcome_leaves (zsets.ZRank key member from more) off = on_zset_leaves key _ (λ before. none d q old)
  zset_outcome_leaves (zsets.ZRange key a b from more) off = on_zset_leaves key _ (λ before. none d q old)
  zset_outcome_leaves (zsets.ZRangeByScore key min max from limit more) off = on_zset_leaves key _ (λ before. none d q old)
  zset_outcome_leaves (zsets.ZRemRangeByRank key a b) off = on_zset_leaves key (zset_steps.drop_part old key (λ list. list_steps.list_range list a b)) (λ before. drop_part_leaves key (λ list. list_steps.list_range list a b) before (alone key off))
  zset_outcome_leaves (zsets.ZRemRangeByScore key min max) off =
      on_zset_leaves key (zset_steps.drop_part old key (zset_steps.within min max)) (λ before. drop_part_leaves key (zset_steps.within min max) before (alone key off))
  zset_outcome_leaves (zsets.ZPop key from n) off = on_zset_leaves key (zset_steps.pop old key from (zset_steps.or_one n)) pops
    where
      pops : (before : Option Scores) → Leave (zset_steps.pop old key from (zset_steps.or_one n) before)
      pops None = none d q old
      pops (Some scores) = keep_zset_stays d q old key _ (alone key off)
  zset_outcome_leaves other off = none d q old

  store_zset_leaves : (to : List ℕ) (scores : Scores) → Apart d q old.selected to → Leave (zset_steps.store_scores old to scores)
  store_zset_leaves to scores apart =
      if_leaves d q old (zset_steps.are_scores (entries scores)) _ _
      (if_stays d q old (len scores == 0) (remove old to) (put old to (record { value = SortedOf scores; deadline = None })) (remove_stays d q old to apart)
      (put_stays d q old to (record { value = SortedOf scores; deadline = None }) apart)) (none d q old)

  pub zsets_stay : (seed : ℕ) (command : ZsetCommand) (reply : List Part) (new : World) → may_zsets seed old command reply new → Off d q (zset_places old.selected command)
      → look_in new d q ≡ look_in old d q
  zsets_stay seed (zsets.ZRandMember key n more) reply new m off = told_stays d q zset_in old (look old key) _ reply new m
  zsets_stay seed (zsets.ZJoinStore join to keys how) reply new m off =
      done_of_stays d q old (zset_steps.zsets_at old keys) (zset_steps.StoresScores old to join how (zset_steps.weights_of keys)) reply new
      (λ own s. ap (λ w. look_in w d q) s.2.1 ∙ (store_zset_leaves to s.0 (alone to off)).same) m
  zsets_stay seed (zsets.ZScan key cursor options) reply new m off = told_stays d q zset_in old (look old key) _ reply new m
  zsets_stay seed other reply new m off = ap (λ w. look_in w d q) m.1 ∙ (zset_outcome_leaves other off).same

  -- ---- streams

  on_stream_leaves : (key : List ℕ) (answer : Option Stream → Outcome) → ((before : Option Stream) → Leave (answer before)) → Leave (on_stream old key answer)
  on_stream_leaves key answer h = on_type_leaves d q old stream_in (look old key) answer h

  append_as_leaves : (key : List ℕ) (trim : Option Trim) (pairs : List stream_steps.Pair) (s : Stream) (id : Result Id Refusal) → Apart d q old.selected key
      → Leave (stream_steps.append_as old key trim pairs s id)
  append_as_leaves key trim pairs s (Err refusal) apart = none d q old
  append_as_leaves key trim pairs s (Ok id) apart = keep_stream_stays d q old key (stream_steps.trimmed_by trim (stream_steps.with_entry s id pairs)) apart

  append_leaves : (moment : ℕ) (key : List ℕ) (options : AppendOptions) (asked : NewId) (pairs : List stream_steps.Pair) (before : Option Stream) → Apart d q old.selected key
      → Leave (stream_steps.append old moment key options asked pairs before)
  append_leaves moment key options asked pairs None apart =
      if_leaves d q old options.only_there _ _ (none d q old)
      (append_as_leaves key options.trim pairs stream_steps.no_stream (stream_steps.id_for moment stream_steps.no_stream.last asked) apart)
  append_leaves moment key options asked pairs (Some s) apart = append_as_leaves key options.trim pairs s (stream_steps.id_for moment s.last asked) apart

  delete_leaves : (key : List ℕ) (ids : List Id) (before : Option Stream) → Apart d q old.selected key → Leave (stream_steps.delete old key ids before)
  delete_leaves key ids None apart = none d q old
  delete_leaves key ids (Some s) apart = keep_stream_stays d q old key (stream_steps.without_all s ids) apart

  trim_stream_leaves : (key : List ℕ) (trim : Trim) (before : Option Stream) → Apart d q old.selected key → Leave (stream_steps.trim_to old key trim before)
  trim_stream_leaves key trim None apart = none d q old
  trim_stream_leaves key trim (Some s) apart = keep_stream_stays d q old key (stream_steps.trimmed trim s) apart

  range_leaves : (from to : Id) (order : Direction) (limit : Option ℕ) (before : Option Stream) → Leave (stream_steps.tell_range old from to order limit before)
  range_leaves from to order limit None = none d q old
  range_leaves from to order limit (Some s) = none d q old

  create_in_leaves : (key name : List ℕ) (id : Option Id) (s : Stream) → Apart d q old.selected key → Leave (group_steps.create_in old key name id s)
  create_in_leaves key name id s apart = if_leaves d q old (contains_key s.groups name) _ _ (none d q old) (keep_stream_stays d q old key _ apart)

  create_leaves : (key name : List ℕ) (id : Option Id) (make : Bool) (before : Option Stream) → Apart d q old.selected key → Leave (group_steps.create old key name id make before)
  create_leaves key name id make None apart = if_leaves d q old make _ _ (create_in_leaves key name id stream_steps.no_stream apart) (none d q old)
  create_leaves key name id make (Some s) apart = create_in_leaves key name id s apart

  destroy_leaves : (key name : List ℕ) (before : Option Stream) → Apart d q old.selected key → Leave (group_steps.destroy old key name before)
  destroy_leaves key name None apart = none d q old
  destroy_leaves key name (Some s) apart = if_leaves d q old (contains_key s.groups name) _ _ (keep_stream_stays d q old key _ apart) (none d q old)

  ack_leaves : (key name : List ℕ) (ids : List Id) (before : Option Stream) → Apart d q old.selected key → Leave (group_steps.ack old key name ids before)
  ack_leaves key name ids None apart = none d q old
  ack_leaves key name ids (Some s) apart = of_group (get s.groups name)
    where
      of_group : (group : Option Group) → Leave (group_steps.ack_in old key name ids s group)
      of_group None = none d q old
      of_group (Some group) = keep_stream_stays d q old key _ apart

  pending_leaves : (name : List ℕ) (before : Option Stream) → Leave (group_steps.tell_pending old name before)
  pending_leaves name None = none d q old
  pending_leaves name (Some s) = of_group (get s.groups name)
    where
      of_group : (group : Option Group) → Leave (group_steps.pending_in old group)
      of_group None = none d q old
      of_group (Some group) = none d q old

-- keys that are read for a group, in turn
module _ (d : ℕ) (q : List ℕ) (reader : group_steps.Reader) where
  hand_at_stays : (old : World) (key : List ℕ) (id : Option Id) (before : Option Stream) → Apart d q old.selected key → Stays d q old (group_steps.hand_at old reader key id before).1
  hand_at_stays old key id None apart = none d q old
  hand_at_stays old key id (Some s) apart = keep_stream_stays d q old key _ apart

  hand_out_stays : (old : World) (asked : List Asked) → Off d q (asked_at old.selected asked) → Stays d q old (group_steps.hand_out old reader asked).1
  hand_out_stays old [] off = none d q old
  hand_out_stays old (one ∷ more) off =
      let mid = (group_steps.hand_at old reader one.0 one.1 (stream_steps.stream_there (look old one.0))).1 in
      let rest = asked_at old.selected more in
      let first = hand_at_stays old one.0 one.1 (stream_steps.stream_there (look old one.0)) (apart_first d q old.selected one.0 rest off) in
      onward d q old mid (group_steps.hand_out mid reader more).1 first
      (hand_out_stays mid more (subst (λ n. Off d q (asked_at n more)) (sym first.selected) (off_rest d q (at old.selected one.0) rest off)))

module _ (d : ℕ) (q : List ℕ) (old : World) (moment : ℕ) where
  read_group_leaves : (reader : group_steps.Reader) (asked : List Asked) → Off d q (asked_at old.selected asked) → Leaves d q old (group_steps.read_group old reader asked)
  read_group_leaves reader asked off = of_refusal (group_steps.first_refusal old reader.group asked)
    where
      of_refusal : (refusal : Option Refusal) → Leaves d q old (group_steps.unless_refused old refusal (group_steps.hand_out old reader asked))
      of_refusal None = hand_out_stays d q reader old asked off
      of_refusal (Some refusal) = none d q old

  pub streams_leave : (command : StreamCommand) → Off d q (stream_places old.selected command) → Leaves d q old (stream_outcome old moment command)
  streams_leave (streams.XAdd key options id pairs) off =
      on_stream_leaves d q old key (stream_steps.append old moment key options id pairs) (λ before. append_leaves d q old moment key options id pairs before (alone d q old key off))
  streams_leave (streams.XLen key) off = on_stream_leaves d q old key _ (λ before. none d q old)
  streams_leave (streams.XRange key from to order limit) off = on_stream_leaves d q old key (stream_steps.tell_range old from to order limit) (λ before. range_leaves d q old from to order limit before)
  streams_leave (streams.XDel key ids) off = on_stream_leaves d q old key (stream_steps.delete old key ids) (λ before. delete_leaves d q old key ids before (alone d q old key off))
  streams_leave (streams.XTrim key trim) off = on_stream_leaves d q old key (stream_steps.trim_to old key trim) (λ before. trim_stream_leaves d q old key trim before (alone d q old key off))
  streams_leave (streams.XRead limit asked) off = if_leaves d q old (list_any (λ (one : Asked). stream_steps.is_other (look old one.0)) asked) _ _ (none d q old) (none d q old)
  streams_leave (streams.XGroupCreate key name id make) off =
      on_stream_leaves d q old key (group_steps.create old key name id make) (λ before. create_leaves d q old key name id make before (alone d q old key off))
  streams_leave (streams.XGroupDestroy key name) off = on_stream_leaves d q old key (group_steps.destroy old key name) (λ before. destroy_leaves d q old key name before (alone d q old key off))
  streams_leave (streams.XReadGroup name consumer limit asked) off = read_group_leaves (record { moment = moment; group = name; consumer = consumer; limit = limit }) asked off
  streams_leave (streams.XAck key name ids) off = on_stream_leaves d q old key (group_steps.ack old key name ids) (λ before. ack_leaves d q old key name ids before (alone d q old key off))
  streams_leave (streams.XPending key name) off = on_stream_leaves d q old key (group_steps.tell_pending old name) (λ before. pending_leaves d q old name before)
