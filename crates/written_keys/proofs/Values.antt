-- What commands on strings, on keys and on the server leave where they don't write.
use Rattle.std.proofs.Common.{◌≡◌, ℕ, Bool, true, false, List, [], ◌∷◌, Option, None, Some, refl, sym, ap, ◌∙◌, subst}
use Rattle.std.specs.Prelude.{ℤ, pos, int_lt, is_some, ◌==◌, ◌&&◌, not, bytes_eq, length, nat_le, ◌++◌, ◌+ℤ◌, ◌-ℤ◌}
use Rattle.int_text.specs.Decimal.{is_i64, canonical}
use Rattle.plain_world.specs.Words.{longest}
use Rattle.plain_world.specs.Worlds.{World, Value, Str, Entry, look, look_in, put, put_in, remove, stand, deadline_of}
use Rattle.plain_world.specs.declared.refusal.Refusal.TheVariants.{InvalidExpireTime, ValueOutOfRange, Overflow, SameSourceAndDestination}
use Rattle.plain_world.specs.declared.reply.Part.{Part}
use Rattle.plain_world.specs.declared.reply.Part.TheVariants.{Number}
use Rattle.plain_model.specs.Outcomes.{Outcome, refused, leaves, tells}
use Rattle.plain_model.specs.Deadlines.{with_due, due, from_zero, lasts_until, lasts, expire, persist}
use Rattle.plain_model.specs.StringSteps.{with_string, on_string, change, replace, replace_all, any_there, allows, with_lifetime, set, append, set_range, written_over, or_empty, number_at, counted, count_on, count, set_outcome, set_for, getex_outcome, string_outcome, or_null, ok}
use Rattle.plain_model.specs.KeySteps.{counts, remove_all, permits, expire_where_permitted, expire_outcome, rename, rename_outcome, renamenx_outcome, or_selected, copy, copy_outcome, move, move_outcome, key_outcome, may_keys}
use Rattle.plain_model.specs.declared.command.Condition.{Condition}
use Rattle.plain_model.specs.declared.times.Time.{Time}
use Rattle.plain_model.specs.declared.times.TimeUnit.{TimeUnit}
use Rattle.plain_model.specs.declared.times.TimeUnit.TheVariants.{Seconds, Milliseconds}
use Rattle.plain_model.specs.declared.times.TimeOrigin.TheVariants.{Now, Epoch}
use Rattle.plain_model.specs.declared.times.Lifetime.{Lifetime}
use Rattle.plain_model.specs.declared.times.Lifetime.TheVariants as lifetimes
use Rattle.plain_model.specs.declared.times.Renewal.{Renewal}
use Rattle.plain_model.specs.declared.times.Renewal.TheVariants as renewals
use Rattle.plain_model.specs.declared.command.StringCommand.{StringCommand}
use Rattle.plain_model.specs.declared.command.StringCommand.TheVariants as strings
use Rattle.plain_model.specs.declared.keys.KeyCommand.{KeyCommand}
use Rattle.plain_model.specs.declared.keys.KeyCommand.TheVariants as keys
use Rattle.plain_model.specs.declared.keys.ExpireOptions.{ExpireOptions}
use Rattle.plain_model.specs.declared.keys.CopyOptions.{CopyOptions}
use Rattle.written_keys.specs.Written.{at, each_at, firsts_at, number_or, string_places, key_places}
use Rattle.written_keys.proofs.Base.{Stays, Apart, Off, Leaves, apart_first, off_rest, none, onward, put_stays, remove_stays, if_stays, stand_stays, put_in_stays, if_leaves}

module _ (d : ℕ) (q : List ℕ) (old : World) where
  -- ---- deadlines

  due_leaves : (moment : ℕ) (time : Time) (answer : ℤ → Outcome) → ((deadline : ℤ) → Leaves d q old (answer deadline)) → Leaves d q old (with_due old moment time answer)
  due_leaves moment time answer h = if_leaves d q old (is_i64 (due moment time)) (answer (due moment time)) (refused InvalidExpireTime old) (h (due moment time)) (none d q old)

  expire_stays : (moment : ℕ) (key : List ℕ) (deadline : ℤ) (entry : Option Entry) → Apart d q old.selected key → Stays d q old (expire old moment key deadline entry)
  expire_stays moment key deadline None apart = none d q old
  expire_stays moment key deadline (Some entry) apart = if_stays d q old (int_lt (pos moment) deadline) (put old key (lasts_until entry.value (from_zero deadline))) (remove old key)
      (put_stays d q old key (lasts_until entry.value (from_zero deadline)) apart) (remove_stays d q old key apart)

  persist_stays : (key : List ℕ) (entry : Option Entry) → Apart d q old.selected key → Stays d q old (persist old key entry)
  persist_stays key None apart = none d q old
  persist_stays key (Some entry) apart = if_stays d q old (is_some entry.deadline) (put old key (lasts entry.value)) old (put_stays d q old key (lasts entry.value) apart) (none d q old)

  -- ---- strings

  on_string_leaves : (entry : Option Entry) (answer : Option (List ℕ) → Outcome) → ((before : Option (List ℕ)) → Leaves d q old (answer before)) → Leaves d q old (on_string old entry answer)
  on_string_leaves None answer h = h None
  on_string_leaves (Some entry) answer h = of_value entry.value
    where
      of_value : (value : Value) → Leaves d q old (with_string old value (λ bytes. answer (Some bytes)))
      of_value (Str bytes) = h (Some bytes)
      of_value other = none d q old

  change_stays : (key bytes : List ℕ) → Apart d q old.selected key → Stays d q old (change old key bytes)
  change_stays key bytes apart = put_stays d q old key (record { value = Str bytes; deadline = deadline_of (look old key) }) apart

  lifetime_leaves : (moment : ℕ) (key : List ℕ) (lifetime : Lifetime) (answer : Option ℕ → Outcome) → ((deadline : Option ℕ) → Leaves d q old (answer deadline))
      → Leaves d q old (with_lifetime old moment key lifetime answer)
  lifetime_leaves moment key lifetimes.Forever answer h = h None
  lifetime_leaves moment key lifetimes.Kept answer h = h (deadline_of (look old key))
  lifetime_leaves moment key (lifetimes.Until time) answer h = due_leaves moment time (λ deadline. answer (Some (from_zero deadline))) (λ deadline. h (Some (from_zero deadline)))

  set_stays : (moment : ℕ) (key : List ℕ) (entry : Entry) (condition : Condition) → Apart d q old.selected key → Stays d q old (set old moment key entry condition)
  set_stays moment key entry condition apart =
      if_stays d q old (allows condition (is_some (look old key))) (stand old moment key entry) old (stand_stays d q old moment key entry apart) (none d q old)

  set_leaves : (moment : ℕ) (key : List ℕ) (entry : Entry) (condition : Condition) (get : Bool) → Apart d q old.selected key → Leaves d q old (set_outcome old moment key entry condition get)
  set_leaves moment key entry condition true apart =
      on_string_leaves (look old key) (λ before. leaves (or_null before ∷ []) (set old moment key entry condition)) (λ before. set_stays moment key entry condition apart)
  set_leaves moment key entry condition false apart = set_stays moment key entry condition apart

  set_for_leaves : (moment : ℕ) (key : List ℕ) (unit : TimeUnit) (n : ℤ) (value : List ℕ) → Apart d q old.selected key → Leaves d q old (set_for old moment key unit n value)
  set_for_leaves moment key unit n value apart =
      due_leaves moment (record { unit = unit; from = Now; n = n }) (λ deadline. leaves (ok ∷ []) (stand old moment key (lasts_until (Str value) (from_zero deadline))))
      (λ deadline. stand_stays d q old moment key (lasts_until (Str value) (from_zero deadline)) apart)

  append_leaves : (key tail : List ℕ) (before : Option (List ℕ)) → Apart d q old.selected key → Leaves d q old (append old key tail before)
  append_leaves key tail before apart =
      let bytes = or_empty before ++ tail in
      if_leaves d q old (nat_le (length bytes) longest) (leaves (Number (pos (length bytes)) ∷ []) (change old key bytes)) (refused ValueOutOfRange old) (change_stays key bytes apart) (none d q old)

  set_range_leaves : (key : List ℕ) (from : ℕ) (piece : List ℕ) (before : Option (List ℕ)) → Apart d q old.selected key → Leaves d q old (set_range old key from piece before)
  set_range_leaves key from piece before apart =
      let bytes = written_over (or_empty before) from piece in
      if_leaves d q old (length piece == 0) (tells (Number (pos (length (or_empty before))) ∷ []) old) (leaves (Number (pos (length bytes)) ∷ []) (change old key bytes))
      (none d q old) (change_stays key bytes apart)

  count_leaves : (key : List ℕ) (next : ℤ → ℤ) → Apart d q old.selected key → Leaves d q old (count old key next)
  count_leaves key next apart = on_string_leaves (look old key) (λ before. count_on old key next (number_at before)) (λ before. on_number (number_at before))
    where
      counted_leaves : (n : ℤ) → Leaves d q old (counted old key n)
      counted_leaves n = if_leaves d q old (is_i64 n) (leaves (Number n ∷ []) (change old key (canonical n))) (refused Overflow old) (change_stays key (canonical n) apart) (none d q old)

      on_number : (n : Option ℤ) → Leaves d q old (count_on old key next n)
      on_number None = none d q old
      on_number (Some n) = counted_leaves (next n)

  getex_leaves : (moment : ℕ) (key : List ℕ) (renewal : Renewal) → Apart d q old.selected key → Leaves d q old (getex_outcome old moment key renewal)
  getex_leaves moment key renewals.Unchanged apart = on_string_leaves (look old key) (λ before. tells (or_null before ∷ []) old) (λ before. none d q old)
  getex_leaves moment key renewals.Persist apart =
      on_string_leaves (look old key) (λ before. leaves (or_null before ∷ []) (persist old key (look old key))) (λ before. persist_stays key (look old key) apart)
  getex_leaves moment key (renewals.Until time) apart =
      due_leaves moment time (λ deadline. on_string old (look old key) (λ before. leaves (or_null before ∷ []) (expire old moment key deadline (look old key))))
      (λ deadline. on_string_leaves (look old key) (λ before. leaves (or_null before ∷ []) (expire old moment key deadline (look old key))) (λ before. expire_stays moment key deadline (look old key) apart))

-- each key in turn
replace_all_stays : (d : ℕ) (q : List ℕ) (old : World) (pairs : List (List ℕ × List ℕ)) → Off d q (firsts_at old.selected pairs) → Stays d q old (replace_all old pairs)
replace_all_stays d q old [] off = none d q old
replace_all_stays d q old (pair ∷ pairs) off =
    let mid = replace old pair.0 pair.1 in
    let rest = firsts_at old.selected pairs in
    onward d q old mid (replace_all mid pairs) (put_stays d q old pair.0 (record { value = Str pair.1; deadline = None }) (apart_first d q old.selected pair.0 rest off))
    (replace_all_stays d q mid pairs (off_rest d q (at old.selected pair.0) rest off))

module _ (d : ℕ) (q : List ℕ) (old : World) (moment : ℕ) where
  abbrev only : List ℕ → Type 0
  only key = Off d q (at old.selected key ∷ [])

  alone : (key : List ℕ) → only key → Apart d q old.selected key
  alone key off = apart_first d q old.selected key [] off

  told_string : (key : List ℕ) (told : Option (List ℕ) → List Part) → Leaves d q old (on_string old (look old key) (λ before. tells (told before) old))
  told_string key told = on_string_leaves d q old (look old key) (λ before. tells (told before) old) (λ before. none d q old)

  pub strings_leave : (command : StringCommand) → Off d q (string_places old.selected command) → Leaves d q old (string_outcome moment old command)
  strings_leave (strings.Get key) off = told_string key _
  strings_leave (strings.Set key value options) off =
      lifetime_leaves d q old moment key options.lifetime (λ deadline. set_outcome old moment key (record { value = Str value; deadline = deadline }) options.condition options.get)
      (λ deadline. set_leaves d q old moment key (record { value = Str value; deadline = deadline }) options.condition options.get (alone key off))
  strings_leave (strings.SetNx key value) off =
      if_leaves d q old (is_some (look old key)) (tells (Number (pos 0) ∷ []) old) (leaves (Number (pos 1) ∷ []) (replace old key value)) (none d q old)
      (put_stays d q old key (record { value = Str value; deadline = None }) (alone key off))
  strings_leave (strings.SetEx key n value) off = set_for_leaves d q old moment key Seconds n value (alone key off)
  strings_leave (strings.PSetEx key n value) off = set_for_leaves d q old moment key Milliseconds n value (alone key off)
  strings_leave (strings.GetSet key value) off =
      on_string_leaves d q old (look old key) (λ before. leaves (or_null before ∷ []) (replace old key value)) (λ before. put_stays d q old key (record { value = Str value; deadline = None }) (alone key off))
  strings_leave (strings.GetDel key) off = on_string_leaves d q old (look old key) (λ before. leaves (or_null before ∷ []) (remove old key)) (λ before. remove_stays d q old key (alone key off))
  strings_leave (strings.GetEx key renewal) off = getex_leaves d q old moment key renewal (alone key off)
  strings_leave (strings.MGet keys) off = none d q old
  strings_leave (strings.MSet pairs) off = replace_all_stays d q old pairs off
  strings_leave (strings.MSetNx pairs) off =
      if_leaves d q old (any_there old pairs) (tells (Number (pos 0) ∷ []) old) (leaves (Number (pos 1) ∷ []) (replace_all old pairs)) (none d q old) (replace_all_stays d q old pairs off)
  strings_leave (strings.Append key tail) off = on_string_leaves d q old (look old key) (append old key tail) (λ before. append_leaves d q old key tail before (alone key off))
  strings_leave (strings.StrLen key) off = told_string key _
  strings_leave (strings.GetRange key a b) off = told_string key _
  strings_leave (strings.SetRange key from piece) off =
      on_string_leaves d q old (look old key) (set_range old key from piece) (λ before. set_range_leaves d q old key from piece before (alone key off))
  strings_leave (strings.Incr key) off = count_leaves d q old key (λ n. n +ℤ pos 1) (alone key off)
  strings_leave (strings.Decr key) off = count_leaves d q old key (λ n. n -ℤ pos 1) (alone key off)
  strings_leave (strings.IncrBy key by) off = count_leaves d q old key (λ n. n +ℤ by) (alone key off)
  strings_leave (strings.DecrBy key by) off = count_leaves d q old key (λ n. n -ℤ by) (alone key off)

-- ---- keys

remove_all_stays : (d : ℕ) (q : List ℕ) (old : World) (words : List (List ℕ)) → Off d q (each_at old.selected words) → Stays d q old (remove_all old words)
remove_all_stays d q old [] off = none d q old
remove_all_stays d q old (key ∷ words) off =
    let mid = remove old key in
    let rest = each_at old.selected words in
    onward d q old mid (remove_all mid words) (remove_stays d q old key (apart_first d q old.selected key rest off)) (remove_all_stays d q mid words (off_rest d q (at old.selected key) rest off))

module _ (d : ℕ) (q : List ℕ) (old : World) (moment : ℕ) where
  expire_leaves : (key : List ℕ) (time : Time) (options : ExpireOptions) → Off d q (at old.selected key ∷ []) → Leaves d q old (expire_outcome old moment key time options)
  expire_leaves key time options off =
      due_leaves d q old moment time (λ deadline. expire_where_permitted old moment key options deadline (look old key)) (λ deadline. where_permitted deadline (look old key))
    where
      where_permitted : (deadline : ℤ) (entry : Option Entry) → Leaves d q old (expire_where_permitted old moment key options deadline entry)
      where_permitted deadline None = none d q old
      where_permitted deadline (Some entry) =
          if_leaves d q old (permits options entry.deadline deadline) (counts 1 (expire old moment key deadline (Some entry))) (counts 0 old)
          (expire_stays d q old moment key deadline (Some entry) (apart_first d q old.selected key [] off)) (none d q old)

  rename_stays : (from to : List ℕ) (entry : Entry) → Off d q (at old.selected from ∷ at old.selected to ∷ []) → Stays d q old (rename old from to entry)
  rename_stays from to entry off =
      if_stays d q old (bytes_eq from to) old (put (remove old from) to entry) (none d q old)
      (onward d q old (remove old from) (put (remove old from) to entry) (remove_stays d q old from (apart_first d q old.selected from (at old.selected to ∷ []) off))
      (put_stays d q (remove old from) to entry (apart_first d q old.selected to [] (off_rest d q (at old.selected from) (at old.selected to ∷ []) off))))

  rename_leaves : (from to : List ℕ) (entry : Option Entry) → Off d q (at old.selected from ∷ at old.selected to ∷ []) → Leaves d q old (rename_outcome old from to entry)
  rename_leaves from to None off = none d q old
  rename_leaves from to (Some entry) off = rename_stays from to entry off

  renamenx_leaves : (from to : List ℕ) (entry : Option Entry) → Off d q (at old.selected from ∷ at old.selected to ∷ []) → Leaves d q old (renamenx_outcome old from to entry)
  renamenx_leaves from to None off = none d q old
  renamenx_leaves from to (Some entry) off =
      if_leaves d q old (is_some (look old to)) (counts 0 old) (counts 1 (rename old from to entry)) (none d q old) (rename_stays from to entry off)

  or_is : (db : Option ℕ) → or_selected old db ≡ number_or old.selected db
  or_is None = refl
  or_is (Some number) = refl

  copy_leaves : (from to : List ℕ) (options : CopyOptions) → Off d q (at (number_or old.selected options.db) to ∷ []) → Leaves d q old (copy_outcome old from to options)
  copy_leaves from to options off =
      let number = or_selected old options.db in
      if_leaves d q old ((number == old.selected) && bytes_eq from to) (refused SameSourceAndDestination old) (copy old number to options.replace (look old from)) (none d q old) (of_entry (look old from))
    where
      of_entry : (entry : Option Entry) → Leaves d q old (copy old (or_selected old options.db) to options.replace entry)
      of_entry None = none d q old
      of_entry (Some entry) =
          let number = or_selected old options.db in
          if_leaves d q old (is_some (look_in old number to) && not options.replace) (counts 0 old) (counts 1 (put_in old number to entry)) (none d q old)
          (put_in_stays d q old number to entry (apart_first d q number to [] (subst (λ n. Off d q (at n to ∷ [])) (sym (or_is options.db)) off)))

  move_leaves : (key : List ℕ) (number : ℕ) → Off d q (at old.selected key ∷ at number key ∷ []) → Leaves d q old (move_outcome old key number)
  move_leaves key number off = if_leaves d q old (number == old.selected) (refused SameSourceAndDestination old) (move old key number (look old key)) (none d q old) (of_entry (look old key))
    where
      of_entry : (entry : Option Entry) → Leaves d q old (move old key number entry)
      of_entry None = none d q old
      of_entry (Some entry) =
          if_leaves d q old (is_some (look_in old number key)) (counts 0 old) (counts 1 (put_in (remove old key) number key entry)) (none d q old)
          (onward d q old (remove old key) (put_in (remove old key) number key entry) (remove_stays d q old key (apart_first d q old.selected key (at number key ∷ []) off))
          (put_in_stays d q (remove old key) number key entry (apart_first d q number key [] (off_rest d q (at old.selected key) (at number key ∷ []) off))))

  outcome_leaves : (command : KeyCommand) → Off d q (key_places old.selected command) → Leaves d q old (key_outcome moment old command)
  outcome_leaves (keys.Del words) off = remove_all_stays d q old words off
  outcome_leaves (keys.Unlink words) off = remove_all_stays d q old words off
  outcome_leaves (keys.Expire key n options) off = expire_leaves key (record { unit = Seconds; from = Now; n = n }) options off
  outcome_leaves (keys.PExpire key n options) off = expire_leaves key (record { unit = Milliseconds; from = Now; n = n }) options off
  outcome_leaves (keys.ExpireAt key n options) off = expire_leaves key (record { unit = Seconds; from = Epoch; n = n }) options off
  outcome_leaves (keys.PExpireAt key n options) off = expire_leaves key (record { unit = Milliseconds; from = Epoch; n = n }) options off
  outcome_leaves (keys.Persist key) off = persist_stays d q old key (look old key) (apart_first d q old.selected key [] off)
  outcome_leaves (keys.Rename from to) off = rename_leaves from to (look old from) off
  outcome_leaves (keys.RenameNx from to) off = renamenx_leaves from to (look old from) off
  outcome_leaves (keys.Copy from to options) off = copy_leaves from to options off
  outcome_leaves (keys.MoveKey key number) off = move_leaves key number off
  outcome_leaves other off = none d q old

  pub keys_stay : (seed : ℕ) (command : KeyCommand) (reply : List Part) (new : World) → may_keys seed old moment command reply new → Off d q (key_places old.selected command)
      → look_in new d q ≡ look_in old d q
  keys_stay seed keys.RandomKey reply new m off = ap (λ w. look_in w d q) m.1
  keys_stay seed (keys.ObjectEncoding key) reply new m off = ap (λ w. look_in w d q) m.1
  keys_stay seed (keys.KeysLike pattern) reply new m off = ap (λ w. look_in w d q) m.1
  keys_stay seed (keys.Scan cursor options) reply new m off = ap (λ w. look_in w d q) m.1
  keys_stay seed other reply new m off = ap (λ w. look_in w d q) m.1 ∙ (outcome_leaves other off).same
