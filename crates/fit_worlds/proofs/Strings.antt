-- Commands on strings leave a fit world.
use Rattle.std.proofs.Common.{◌≡◌, ℕ, ◌<◌, ◌≤◌, ◌+◌, ◌^◌, ◌-◌, ◌==◌, List, [], ◌∷◌, ◌++◌, length, take, drop, replicate, Bool, true, false, Ok, Err, Option, Some, None, refl, ap, ◌∙◌, arith}
use Rattle.std.specs.Prelude.{◌&&◌, ◌||◌, nat_le, is_some, ℤ, pos, neg_ℤ, ◌+ℤ◌, ◌-ℤ◌, if◌then◌else◌}
use Rattle.std.specs.List.{AllByRecursion}
use Rattle.std.proofs.lemmas.Bool.{leb-true, ltb-true}
use Rattle.std.proofs.lemmas.List.{length-append, length-take, length-drop}
use Rattle.std.proofs.lemmas.Fmt.{length_signed_le}
use Rattle.std.specs.Fmt.{signed_decimal}
use lib.Signed.{mag}
use Rattle.int_text.specs.Decimal.{canonical, is_i64}
use Rattle.plain_world.specs.Words.{longest}
use Rattle.plain_world.specs.Worlds.{World, Value, Str, Entry, look, stand, deadline_of}
use Rattle.plain_world.specs.declared.refusal.Refusal.TheVariants.{Syntax, ValueOutOfRange, Overflow}
use Rattle.plain_world.specs.declared.reply.Part.{Part}
use Rattle.plain_world.specs.declared.reply.Part.TheVariants.{Number}
use Rattle.plain_model.specs.Outcomes.{Outcome, tells, refused, leaves}
use Rattle.plain_model.specs.Deadlines.{from_zero, lasts_until, expire}
use Rattle.plain_model.specs.Shapes.{Plain, Whole, Offset, Span}
use Rattle.plain_model.specs.StringWords.{set_options, no_set_options, getex_options, no_getex_options, pairs_of, string_rows, set_of, getex_of, set_range_of, decrease_of}
use Rattle.plain_model.specs.StringSteps.{with_string, on_string, or_empty, change, replace, replace_all, any_there, allows, written_over, with_lifetime, set, append, set_range, number_at}
use Rattle.plain_model.specs.StringSteps.{counted, count_on, count, set_outcome}
use Rattle.plain_model.specs.StringSteps.{ok, or_null, set_for, getex_outcome, string_outcome, may_strings, plain}
use Rattle.plain_model.specs.declared.command.Condition.{Condition}
use Rattle.plain_model.specs.declared.command.SetOptionsRead.{SetOptionsRead}
use Rattle.plain_model.specs.declared.command.GetExOptionsRead.{GetExOptionsRead}
use Rattle.plain_model.specs.declared.command.StringCommand.{StringCommand}
use Rattle.plain_model.specs.declared.command.StringCommand.TheVariants as strings
use Rattle.plain_model.specs.declared.command.Condition.TheVariants.{Always, IfMissing, IfThere}
use Rattle.plain_model.specs.declared.times.TimeUnit.{TimeUnit}
use Rattle.plain_model.specs.declared.times.TimeUnit.TheVariants.{Seconds, Milliseconds}
use Rattle.plain_model.specs.declared.times.TimeOrigin.TheVariants.{Now}
use Rattle.plain_model.specs.declared.times.Lifetime.{Lifetime}
use Rattle.plain_model.specs.declared.times.Lifetime.TheVariants as lifetimes
use Rattle.plain_model.specs.declared.times.Renewal.{Renewal}
use Rattle.plain_model.specs.declared.times.Renewal.TheVariants as renewals
use Rattle.plain_model.proofs.Asked.{Fits}
use Rattle.plain_model.proofs.Told.{if_has, never, made}
use Rattle.fit_worlds.specs.Fit.{IsShort, IsShortPair, IsFitDeadline, IsFitValue, IsFit}
use Rattle.fit_worlds.proofs.Told.{◌⊗◌, RowKeeps, fixed_keeps, fixed_makes, repeated_makes, options_keep, pairs_short}
use Rattle.fit_worlds.proofs.Deadlines.{fit_due, fit_expire, fit_persist}
use Rattle.fit_worlds.proofs.Worlds.{fit_put, fit_remove, fit_stand, fit_there, fit_deadline, fit_keep, fit_outcome}

-- ---- what the words of a command that writes are

abbrev pub ShortStrings : StringCommand → Type 0
ShortStrings (strings.Set key value options) = IsShort key × IsShort value
ShortStrings (strings.SetNx key value) = IsShort key × IsShort value
ShortStrings (strings.SetEx key n value) = IsShort key × IsShort value
ShortStrings (strings.PSetEx key n value) = IsShort key × IsShort value
ShortStrings (strings.GetSet key value) = IsShort key × IsShort value
ShortStrings (strings.MSet pairs) = AllByRecursion IsShortPair pairs
ShortStrings (strings.MSetNx pairs) = AllByRecursion IsShortPair pairs
ShortStrings (strings.Append key tail) = IsShort key
ShortStrings (strings.SetRange key at piece) = IsShort key
ShortStrings (strings.Incr key) = IsShort key
ShortStrings (strings.Decr key) = IsShort key
ShortStrings (strings.IncrBy key by) = IsShort key
ShortStrings (strings.DecrBy key by) = IsShort key
ShortStrings other = Unit {0}

set_short : (key value : List ℕ) (o : SetOptionsRead) → IsShort key × IsShort value → (c : StringCommand) → set_of key value o ≡ Ok c → ShortStrings c
set_short key value o short c =
    let own : StringCommand = strings.Set key value (record { condition = if o.nx then IfMissing else (if o.xx then IfThere else Always); get = o.get; lifetime = o.lifetime }) in
    if_has ShortStrings (o.nx && o.xx || o.twice) (Err Syntax) (Ok own) (never ShortStrings Syntax) (λ b. made ShortStrings own b short) c

getex_short : (key : List ℕ) (o : GetExOptionsRead) (c : StringCommand) → getex_of key o ≡ Ok c → ShortStrings c
getex_short key o c = if_has ShortStrings o.twice (Err Syntax) (Ok (strings.GetEx key o.renewal)) (never ShortStrings Syntax) (λ b. made ShortStrings (strings.GetEx key o.renewal) b tt) c

range_short : (key : List ℕ) (at : ℕ) (piece : List ℕ) → IsShort key → (c : StringCommand) → set_range_of key at piece ≡ Ok c → ShortStrings c
range_short key at piece short =
    let own : StringCommand = strings.SetRange key at piece in
    if_has ShortStrings (length piece == 0) (Ok own) (if nat_le (at + length piece) longest then Ok own else Err ValueOutOfRange) (λ b. made ShortStrings own b short)
    (if_has ShortStrings (nat_le (at + length piece) longest) (Ok own) (Err ValueOutOfRange) (λ b. made ShortStrings own b short) (never ShortStrings ValueOutOfRange))

decrease_short : (key : List ℕ) (n : ℤ) → IsShort key → (c : StringCommand) → decrease_of key n ≡ Ok c → ShortStrings c
decrease_short key n short =
    let own : StringCommand = strings.DecrBy key n in
    if_has ShortStrings (is_i64 (neg_ℤ n)) (Ok own) (Err Overflow) (λ b. made ShortStrings own b short) (never ShortStrings Overflow)

pub string_rows_short : AllByRecursion (RowKeeps ShortStrings) string_rows
string_rows_short =
    fixed_makes ShortStrings (Plain ∷ []) (λ a. strings.Get a.0) (λ a k. tt)
    ⊗ options_keep ShortStrings (Plain ∷ Plain ∷ []) set_options no_set_options (λ a o. set_of a.0 a.1.0 o) (λ a k o. set_short a.0 a.1.0 o (k.0, k.1.0))
    ⊗ fixed_makes ShortStrings (Plain ∷ Plain ∷ []) (λ a. strings.SetNx a.0 a.1.0) (λ a k. (k.0, k.1.0))
    ⊗ fixed_makes ShortStrings (Plain ∷ Span ∷ Plain ∷ []) (λ a. strings.SetEx a.0 a.1.0 a.1.1.0) (λ a k. (k.0, k.1.1.0))
    ⊗ fixed_makes ShortStrings (Plain ∷ Span ∷ Plain ∷ []) (λ a. strings.PSetEx a.0 a.1.0 a.1.1.0) (λ a k. (k.0, k.1.1.0))
    ⊗ fixed_makes ShortStrings (Plain ∷ Plain ∷ []) (λ a. strings.GetSet a.0 a.1.0) (λ a k. (k.0, k.1.0))
    ⊗ fixed_makes ShortStrings (Plain ∷ []) (λ a. strings.GetDel a.0) (λ a k. tt)
    ⊗ options_keep ShortStrings (Plain ∷ []) getex_options no_getex_options (λ a o. getex_of a.0 o) (λ a k o. getex_short a.0 o)
    ⊗ repeated_makes ShortStrings [] 1 (λ a keys. strings.MGet keys) (λ a k rest short. tt)
    ⊗ repeated_makes ShortStrings [] 2 (λ a words. strings.MSet (pairs_of words)) (λ a k rest short. pairs_short rest short)
    ⊗ repeated_makes ShortStrings [] 2 (λ a words. strings.MSetNx (pairs_of words)) (λ a k rest short. pairs_short rest short)
    ⊗ fixed_makes ShortStrings (Plain ∷ Plain ∷ []) (λ a. strings.Append a.0 a.1.0) (λ a k. k.0)
    ⊗ fixed_makes ShortStrings (Plain ∷ []) (λ a. strings.StrLen a.0) (λ a k. tt)
    ⊗ fixed_makes ShortStrings (Plain ∷ Whole ∷ Whole ∷ []) (λ a. strings.GetRange a.0 a.1.0 a.1.1.0) (λ a k. tt)
    ⊗ fixed_keeps ShortStrings (Plain ∷ Offset ∷ Plain ∷ []) (λ a. set_range_of a.0 a.1.0 a.1.1.0) (λ a k. range_short a.0 a.1.0 a.1.1.0 k.0)
    ⊗ fixed_makes ShortStrings (Plain ∷ []) (λ a. strings.Incr a.0) (λ a k. k.0)
    ⊗ fixed_makes ShortStrings (Plain ∷ []) (λ a. strings.Decr a.0) (λ a k. k.0)
    ⊗ fixed_makes ShortStrings (Plain ∷ Whole ∷ []) (λ a. strings.IncrBy a.0 a.1.0) (λ a k. k.0)
    ⊗ fixed_keeps ShortStrings (Plain ∷ Whole ∷ []) (λ a. decrease_of a.0 a.1.0) (λ a k. decrease_short a.0 a.1.0 k.0)
    ⊗ tt

-- ---- texts

-- the text of a number of 64 bits
pub number_short : (n : ℤ) → is_i64 n ≡ true → IsShort (canonical n)
number_short n is =
    let fits : mag n < 2 ^ 63 = ltb-true (mag n) (2 ^ 63) is in
    let few : length (signed_decimal n) ≤ 20 = length_signed_le 19 n (omega (arith, fits)) fits in
    omega (arith, few)

-- a piece that ends at the greatest length at most
written_short : (bytes : List ℕ) (at : ℕ) (piece : List ℕ) → IsShort bytes → at + length piece ≤ longest → IsShort (written_over bytes at piece)
written_short bytes at piece short within =
    let front : length (take at (bytes ++ replicate at 0)) ≤ at = rw (length-take at (bytes ++ replicate at 0)) (omega arith) in
    let back : length (drop (at + length piece) bytes) ≡ length bytes - (at + length piece) = length-drop (at + length piece) bytes in
    let whole : length (written_over bytes at piece) ≡ (length (take at (bytes ++ replicate at 0)) + length piece) + length (drop (at + length piece) bytes)
    = length-append (take at (bytes ++ replicate at 0) ++ piece) (drop (at + length piece) bytes)
    ∙ ap (λ n. n + length (drop (at + length piece) bytes)) (length-append (take at (bytes ++ replicate at 0)) piece) in
    omega (arith, front, back, whole, short, within)

-- a piece that isn't empty has a byte
some_length : (piece : List ℕ) → (length piece == 0) ≡ false → 0 < length piece
some_length [] e = absurd (cc)
some_length (b ∷ piece) e = omega arith

-- ---- steps

module _ (old : World) (fit : IsFit old) where
  -- what is made of a string at a key
  fit_on_string : (key : List ℕ) (answer : Option (List ℕ) → Outcome) → IsFit (answer None).world → ((bytes : List ℕ) → IsShort bytes → IsFit (answer (Some bytes)).world)
      → IsFit (on_string old (look old key) answer).world
  fit_on_string key answer none some = at (look old key) refl
    where
      own : (v : Value) → IsFitValue v → IsFit (with_string old v (λ bytes. answer (Some bytes))).world
      own (Str bytes) is = some bytes is
      own other is = fit

      at : (o : Option Entry) → look old key ≡ o → IsFit (on_string old o answer).world
      at None is = none
      at (Some e) is = own e.value (fit_there old fit key e is).value

  -- the same of what doesn't look at it
  fit_anyway : (key : List ℕ) (answer : Option (List ℕ) → Outcome) → ((before : Option (List ℕ)) → IsFit (answer before).world) → IsFit (on_string old (look old key) answer).world
  fit_anyway key answer h = fit_on_string key answer (h None) (λ bytes short. h (Some bytes))

  fit_replace : (key bytes : List ℕ) → IsShort key → IsShort bytes → IsFit (replace old key bytes)
  fit_replace key bytes short is = fit_put old key (plain bytes) fit (record { short = short; value = is; deadline = tt })

  fit_set : (moment : ℕ) (key value : List ℕ) (deadline : Option ℕ) (condition : Condition) → IsShort key → IsShort value → IsFitDeadline deadline
      → IsFit (set old moment key (record { value = Str value; deadline = deadline }) condition)
  fit_set moment key value deadline condition short is within =
      let e : Entry = record { value = Str value; deadline = deadline } in
      elim (allows condition (is_some (look old key))) as (λ b. IsFit (if b then stand old moment key e else old)) [
        | true ↦ fit_stand old moment key e fit (record { short = short; value = is; deadline = within })
        | false ↦ fit
      ]

  fit_set_outcome : (moment : ℕ) (key value : List ℕ) (deadline : Option ℕ) (condition : Condition) (get : Bool) → IsShort key → IsShort value → IsFitDeadline deadline
      → IsFit (set_outcome old moment key (record { value = Str value; deadline = deadline }) condition get).world
  fit_set_outcome moment key value deadline condition true short is within = fit_anyway key _ (λ before. fit_set moment key value deadline condition short is within)
  fit_set_outcome moment key value deadline condition false short is within = fit_set moment key value deadline condition short is within

  fit_lifetime : (moment : ℕ) (key : List ℕ) (lifetime : Lifetime) (answer : Option ℕ → Outcome) → ((deadline : Option ℕ) → IsFitDeadline deadline → IsFit (answer deadline).world)
      → IsFit (with_lifetime old moment key lifetime answer).world
  fit_lifetime moment key lifetimes.Forever answer h = h None tt
  fit_lifetime moment key lifetimes.Kept answer h = h (deadline_of (look old key)) (fit_deadline old fit key)
  fit_lifetime moment key (lifetimes.Until time) answer h = fit_due old fit moment time (λ deadline. answer (Some (from_zero deadline))) (λ deadline within. h (Some (from_zero deadline)) within)

  fit_change : (key bytes : List ℕ) → IsShort key → IsShort bytes → IsFit (change old key bytes)
  fit_change key bytes short is = fit_keep old fit key (Str bytes) short is

  fit_append : (key tail : List ℕ) → IsShort key → (before : Option (List ℕ)) → IsFit (append old key tail before).world
  fit_append key tail short before =
      let bytes = or_empty before ++ tail in
      (elim (nat_le (length bytes) longest) as
      (λ b. nat_le (length bytes) longest ≡ b → IsFit (if b then leaves (Number (pos (length bytes)) ∷ []) (change old key bytes) else refused ValueOutOfRange old).world) [
        | true ↦ λ within. fit_change key bytes short (leb-true (length bytes) longest within)
        | false ↦ λ over. fit
      ]) refl

  fit_range : (key : List ℕ) (at : ℕ) (piece : List ℕ) → IsShort key → (0 < length piece → at + length piece ≤ longest) → (before : Option (List ℕ)) → IsShort (or_empty before)
      → IsFit (set_range old key at piece before).world
  fit_range key at piece short within before is =
      let bytes = written_over (or_empty before) at piece in
      (elim (length piece == 0) as
      (λ b. (length piece == 0) ≡ b →
      IsFit (if b then tells (Number (pos (length (or_empty before))) ∷ []) old else leaves (Number (pos (length bytes)) ∷ []) (change old key bytes)).world) [
        | true ↦ λ none. fit
        | false ↦ λ some. fit_change key bytes short (written_short (or_empty before) at piece is (within (some_length piece some)))
      ]) refl

  fit_counted : (key : List ℕ) (n : ℤ) → IsShort key → IsFit (counted old key n).world
  fit_counted key n short =
      (elim (is_i64 n) as (λ b. is_i64 n ≡ b → IsFit (if b then leaves (Number n ∷ []) (change old key (canonical n)) else refused Overflow old).world) [
        | true ↦ λ is. fit_change key (canonical n) short (number_short n is)
        | false ↦ λ over. fit
      ]) refl

  fit_count : (key : List ℕ) (next : ℤ → ℤ) → IsShort key → IsFit (count old key next).world
  fit_count key next short = fit_anyway key _ (λ before. on (number_at before))
    where
      on : (o : Option ℤ) → IsFit (count_on old key next o).world
      on None = fit
      on (Some n) = fit_counted key (next n) short

  fit_for : (moment : ℕ) (key : List ℕ) (unit : TimeUnit) (n : ℤ) (value : List ℕ) → IsShort key → IsShort value → IsFit (set_for old moment key unit n value).world
  fit_for moment key unit n value short is =
      fit_due old fit moment (record { unit = unit; from = Now; n = n })
      (λ deadline. leaves (ok ∷ []) (stand old moment key (lasts_until (Str value) (from_zero deadline))))
      (λ deadline within. fit_stand old moment key (lasts_until (Str value) (from_zero deadline)) fit (record { short = short; value = is; deadline = within }))

  fit_getex : (moment : ℕ) (key : List ℕ) (renewal : Renewal) → IsFit (getex_outcome old moment key renewal).world
  fit_getex moment key renewals.Unchanged = fit_anyway key _ (λ before. fit)
  fit_getex moment key renewals.Persist = fit_anyway key _ (λ before. fit_persist old fit key (look old key) refl)
  fit_getex moment key (renewals.Until time) =
      fit_due old fit moment time (λ deadline. on_string old (look old key) (λ before. leaves (or_null before ∷ []) (expire old moment key deadline (look old key))))
      (λ deadline within.
      fit_anyway key (λ before. leaves (or_null before ∷ []) (expire old moment key deadline (look old key))) (λ before. fit_expire old fit moment key deadline within (look old key) refl))

replaced_fit : (old : World) → IsFit old → (pairs : List (List ℕ × List ℕ)) → AllByRecursion IsShortPair pairs → IsFit (replace_all old pairs)
replaced_fit old fit [] short = fit
replaced_fit old fit (pair ∷ pairs) short = replaced_fit (replace old pair.0 pair.1) (fit_replace old fit pair.0 pair.1 short.0.0 short.0.1) pairs short.1

module _ (old : World) (fit : IsFit old) (moment : ℕ) where
  outcome_fit : (c : StringCommand) → ShortStrings c → Fits c → IsFit (string_outcome moment old c).world
  outcome_fit (strings.Get key) short fits = fit_anyway old fit key _ (λ before. fit)
  outcome_fit (strings.Set key value options) short fits =
      fit_lifetime old fit moment key options.lifetime _ (λ deadline within. fit_set_outcome old fit moment key value deadline options.condition options.get short.0 short.1 within)
  outcome_fit (strings.SetNx key value) short fits =
      elim (is_some (look old key)) as (λ b. IsFit (if b then tells (Number (pos 0) ∷ []) old else leaves (Number (pos 1) ∷ []) (replace old key value)).world) [
        | true ↦ fit
        | false ↦ fit_replace old fit key value short.0 short.1
      ]
  outcome_fit (strings.SetEx key n value) short fits = fit_for old fit moment key Seconds n value short.0 short.1
  outcome_fit (strings.PSetEx key n value) short fits = fit_for old fit moment key Milliseconds n value short.0 short.1
  outcome_fit (strings.GetSet key value) short fits = fit_anyway old fit key _ (λ before. fit_replace old fit key value short.0 short.1)
  outcome_fit (strings.GetDel key) short fits = fit_anyway old fit key _ (λ before. fit_remove old key fit)
  outcome_fit (strings.GetEx key renewal) short fits = fit_getex old fit moment key renewal
  outcome_fit (strings.MGet keys) short fits = fit
  outcome_fit (strings.MSet pairs) short fits = replaced_fit old fit pairs short
  outcome_fit (strings.MSetNx pairs) short fits =
      elim (any_there old pairs) as (λ b. IsFit (if b then tells (Number (pos 0) ∷ []) old else leaves (Number (pos 1) ∷ []) (replace_all old pairs)).world) [
        | true ↦ fit
        | false ↦ replaced_fit old fit pairs short
      ]
  outcome_fit (strings.Append key tail) short fits = fit_anyway old fit key _ (fit_append old fit key tail short)
  outcome_fit (strings.StrLen key) short fits = fit_anyway old fit key _ (λ before. fit)
  outcome_fit (strings.GetRange key a b) short fits = fit_anyway old fit key _ (λ before. fit)
  outcome_fit (strings.SetRange key at piece) short fits =
      fit_on_string old fit key (set_range old key at piece) (fit_range old fit key at piece short fits None (omega arith))
      (λ bytes is. fit_range old fit key at piece short fits (Some bytes) is)
  outcome_fit (strings.Incr key) short fits = fit_count old fit key (λ n. n +ℤ pos 1) short
  outcome_fit (strings.Decr key) short fits = fit_count old fit key (λ n. n -ℤ pos 1) short
  outcome_fit (strings.IncrBy key by) short fits = fit_count old fit key (λ n. n +ℤ by) short
  outcome_fit (strings.DecrBy key by) short fits = fit_count old fit key (λ n. n -ℤ by) short

pub strings_fit : (old : World) → IsFit old → (moment : ℕ) (c : StringCommand) → ShortStrings c → Fits c → (reply : List Part) (new : World) → may_strings old moment c reply new → IsFit new
strings_fit old fit moment c short fits reply new m = fit_outcome (string_outcome moment old c) reply new (outcome_fit old fit moment c short fits) m
