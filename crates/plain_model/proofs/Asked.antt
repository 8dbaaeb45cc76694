-- What the words of a request tell of a command.
use Rattle.std.proofs.Common.{◌≡◌, ℕ, ◌+◌, ◌<◌, ◌≤◌, ◌==◌, ◌%◌, ◌-◌, ◌^◌, List, [], ◌∷◌, ◌++◌, map, length, take, drop, Bool, true, false, Result, Ok, Err, Option, Some, None, refl, arith}
use Rattle.std.specs.Prelude.{◌&&◌, ◌||◌, bytes_eq, nat_le, nat_lt, int_lt, ℤ, pos, is_some, codes, if◌then◌else◌}
use Rattle.std.specs.List.{AllByRecursion}
use Rattle.std.proofs.lemmas.Bool.Decides.{Decides-eqb}
use Rattle.std.proofs.lemmas.Bool.{leb-true, ltb-true}
use Rattle.plain_world.specs.Words.{Words, longest, in_lower_case}
use Rattle.plain_model.specs.Shapes.{Kind, Plain, Whole, Offset, Span, Database, Steps, Cursor, Amount, OnSide, AtEnd, Score, Bound}
use Rattle.plain_model.specs.Shapes.{Picks, told, AllTold, and_then, whole, count, cursor, Row}
use Rattle.plain_model.specs.Shapes.{NamedOption, options_read, with_options, with_amount, with_picks, with_picked, counted}
use Rattle.plain_model.specs.Shapes as shapes
use Rattle.plain_model.specs.StringWords.{set_options, no_set_options, getex_options, no_getex_options, pairs_of, string_rows, set_of, getex_of, set_range_of, decrease_of}
use Rattle.plain_model.specs.KeyWords.{expire_options, no_expire_options, expire_of, clash, copy_options, no_copy_options, scan_options, page_options, page_words, no_scan_options}
use Rattle.plain_model.specs.KeyWords.{object_rows, key_rows}
use Rattle.plain_model.specs.ListWords.{push_words, position_options, no_position_options, list_rows}
use Rattle.plain_model.specs.SetWords.{set_rows, limit_options, inter_card_of, inter_card_words}
use Rattle.plain_model.specs.declared.set_command.SetCommand.{SetCommand}
use Rattle.plain_model.specs.declared.set_command.SetCommand.TheVariants as sets
use Rattle.plain_model.specs.declared.set_command.SetJoin.TheVariants.{Inter, Union, Diff}
use Rattle.plain_model.specs.HashWords.{hash_rows}
use Rattle.plain_model.specs.declared.hash_command.HashCommand.{HashCommand}
use Rattle.plain_model.specs.declared.hash_command.HashCommand.TheVariants as hashes
use Rattle.plain_model.specs.ZsetWords.{zset_rows, no_rules, add_options, no_add_options, options_in_front, scores_read, add_breaks, add_of, add_words, direction, with_scores_option}
use Rattle.plain_model.specs.ZsetWords.{limit_option, range_options, no_range_options, rank_range_of, score_range_of, asks_scores, range_words, score_range_words, rank_words, join_options}
use Rattle.plain_model.specs.ZsetWords.{no_join_options, weighed, join_of}
use Rattle.plain_model.specs.ZsetWords as zset_words
use Rattle.plain_model.specs.declared.zset_command.ZsetCommand.{ZsetCommand}
use Rattle.plain_model.specs.declared.zset_command.ZsetCommand.TheVariants as zsets
use Rattle.plain_model.specs.declared.zset_command.Direction.{Direction}
use Rattle.plain_model.specs.declared.zset_command.Direction.TheVariants.{Rising, Falling}
use Rattle.plain_model.specs.declared.zset_command.ScoreBound.{ScoreBound}
use Rattle.plain_model.specs.declared.zset_command.ScoreJoin.{ScoreJoin}
use Rattle.plain_model.specs.declared.zset_command.ScoreJoin.TheVariants as score_joins
use Rattle.plain_model.specs.declared.zset_command.AddOptions.{AddOptions}
use Rattle.plain_model.specs.declared.zset_command.RangeOptions.{RangeOptions}
use Rattle.plain_model.specs.StreamWords.{stream_rows}
use Rattle.plain_model.specs.declared.list_command.ListCommand.{ListCommand}
use Rattle.plain_model.specs.declared.list_command.ListCommand.TheVariants as lists
use Rattle.plain_model.specs.ConnectionWords.{ping_words, flush_options, memory_rows, debug_rows, connection_rows}
use Rattle.std.specs.Prelude.{neg_ℤ}
use Rattle.int_text.specs.Decimal.{is_i64}
use Rattle.plain_model.specs.Meant.{of_family, rows, read_by, meant}
use Rattle.plain_model.specs.declared.command.Command.{Command}
use Rattle.plain_model.specs.declared.command.Command.TheVariants.{Strings, Lists, Sets, Hashes, Zsets, Streams, Keys, Connection}
use Rattle.plain_model.specs.declared.command.SetOptionsRead.{SetOptionsRead}
use Rattle.plain_model.specs.declared.command.GetExOptionsRead.{GetExOptionsRead}
use Rattle.plain_model.specs.declared.command.StringCommand.{StringCommand}
use Rattle.plain_model.specs.declared.command.StringCommand.TheVariants as strings
use Rattle.plain_model.specs.declared.keys.KeyCommand.{KeyCommand}
use Rattle.plain_model.specs.declared.keys.KeyCommand.TheVariants as keys
use Rattle.plain_model.specs.declared.keys.ExpireOptions.{ExpireOptions}
use Rattle.plain_model.specs.declared.keys.CopyOptions.{CopyOptions}
use Rattle.plain_model.specs.declared.keys.ScanOptions.{ScanOptions}
use Rattle.plain_model.specs.declared.connection.ConnectionCommand.{ConnectionCommand}
use Rattle.plain_model.specs.declared.connection.ConnectionCommand.TheVariants as connection
use Rattle.plain_model.specs.declared.times.Lifetime.{Lifetime}
use Rattle.plain_model.specs.declared.times.Lifetime.TheVariants as lifetimes
use Rattle.plain_model.specs.declared.times.Renewal.{Renewal}
use Rattle.plain_model.specs.declared.times.Renewal.TheVariants as renewals
use Rattle.plain_world.specs.declared.refusal.Refusal.{Refusal}
use Rattle.plain_world.specs.declared.refusal.Refusal.TheVariants.{WrongNumberOfArguments, Syntax, Overflow, ValueOutOfRange}
use Rattle.plain_model.specs.declared.command.Condition.TheVariants.{Always, IfMissing, IfThere}
use Rattle.plain_model.proofs.Told.{EachKeeps, by_second_fits, fixed_fits, if_has, if_true, made, never, repeated_fits, then_told}
use Rattle.plain_model.proofs.Told.{with_options_fits}

-- a time that words give is above 0
abbrev pub LastsLong : Lifetime → Type 0
LastsLong lifetimes.Forever = Unit {0}
LastsLong lifetimes.Kept = Unit {0}
LastsLong (lifetimes.Until time) = int_lt (pos 0) time.n ≡ true

-- the time of a renewal, where it has one, is above 0
abbrev pub RenewsLong : Renewal → Type 0
RenewsLong renewals.Unchanged = Unit {0}
RenewsLong renewals.Persist = Unit {0}
RenewsLong (renewals.Until time) = int_lt (pos 0) time.n ≡ true

-- a piece that SETRANGE writes ends at the greatest length at most, and times are above 0
abbrev pub Fits : StringCommand → Type 0
Fits (strings.SetRange key at piece) = 0 < length piece → at + length piece ≤ 536870912
Fits (strings.Set key value options) = LastsLong options.lifetime
Fits (strings.SetEx key n value) = int_lt (pos 0) n ≡ true
Fits (strings.PSetEx key n value) = int_lt (pos 0) n ≡ true
Fits (strings.GetEx key renewal) = RenewsLong renewal
Fits other = Unit {0}

-- a database is one of 16
abbrev pub IsOneOf16 : Option ℕ → Type 0
IsOneOf16 None = Unit {0}
IsOneOf16 (Some number) = number < 16

-- a scan meets one element at least, and its cursor has 64 bits
abbrev pub IsPageAsked : ℕ → ScanOptions → Type 0
IsPageAsked cursor options = (0 < options.count) × (cursor < 2 ^ 64)

abbrev pub FitsKeys : KeyCommand → Type 0
FitsKeys (keys.Copy from to options) = IsOneOf16 options.db
FitsKeys (keys.MoveKey key number) = number < 16
FitsKeys (keys.Scan cursor options) = IsPageAsked cursor options
FitsKeys other = Unit {0}

-- SELECT names one of 16 databases, and DEBUG asks for 1,000,000 steps at most
abbrev pub FitsConnection : ConnectionCommand → Type 0
FitsConnection (connection.Select number) = number < 16
FitsConnection (connection.DebugRehash n) = n ≤ 1000000
FitsConnection (connection.DebugDefrag n) = n ≤ 1000000
FitsConnection other = Unit {0}

-- what is pushed has an element
abbrev pub FitsLists : ListCommand → Type 0
FitsLists (lists.LPush key elements) = 0 < length elements
FitsLists (lists.RPush key elements) = 0 < length elements
FitsLists (lists.LPushX key elements) = 0 < length elements
FitsLists (lists.RPushX key elements) = 0 < length elements
FitsLists other = Unit {0}

abbrev pub FitsSets : SetCommand → Type 0
FitsSets (sets.SScan key cursor options) = IsPageAsked cursor options
FitsSets other = Unit {0}

abbrev pub FitsHashes : HashCommand → Type 0
FitsHashes (hashes.HScan key cursor options) = IsPageAsked cursor options
FitsHashes other = Unit {0}

abbrev pub FitsZsets : ZsetCommand → Type 0
FitsZsets (zsets.ZScan key cursor options) = IsPageAsked cursor options
FitsZsets other = Unit {0}

-- a command of any family has its numbers and pieces in range
abbrev pub FitsCommand : Command → Type 0
FitsCommand (Strings c) = Fits c
FitsCommand (Lists c) = FitsLists c
FitsCommand (Sets c) = FitsSets c
FitsCommand (Hashes c) = FitsHashes c
FitsCommand (Zsets c) = FitsZsets c
FitsCommand (Streams c) = Unit {0}
FitsCommand (Keys c) = FitsKeys c
FitsCommand (Connection c) = FitsConnection c

-- a piece of SETRANGE that the words don't refuse ends at the greatest length at most, if it has a byte
range_fits : (key : List ℕ) (at : ℕ) (piece : List ℕ) (c : StringCommand) → set_range_of key at piece ≡ Ok c → Fits c
range_fits key at piece c e =
    elim (length piece == 0) as
    (λ b. (length piece == 0) ≡ b →
    (if b then Ok (strings.SetRange key at piece) else (if nat_le (at + length piece) longest then Ok (strings.SetRange key at piece) else Err ValueOutOfRange)) ≡ Ok c → Fits c) [
      | true ↦ λ none. made Fits (strings.SetRange key at piece) c (λ some. absurd (no_length piece none some))
      | false ↦ λ some f. if_true Fits (nat_le (at + length piece) longest) (Ok (strings.SetRange key at piece)) ValueOutOfRange
          (λ t b. made Fits (strings.SetRange key at piece) b (λ h. leb-true (at + length piece) longest t)) c f
    ] refl e
  where
    no_length : (piece : List ℕ) → (length piece == 0) ≡ true → 0 < length piece → ⊥
    no_length piece e h = omega (arith, (Decides-eqb (length piece) 0).0 e)

-- no option of SET sets a time that isn't above 0
set_options_keep : EachKeeps (λ (o : SetOptionsRead). LastsLong o.lifetime) set_options
set_options_keep = (
  λ own o keeps q. q,
  (λ own o keeps q. q, (λ own o keeps q. q, (λ own o keeps q. tt, (λ own o keeps q. keeps.0, (λ own o keeps q. keeps.0, (λ own o keeps q. keeps.0, (λ own o keeps q. keeps.0, tt))))))),
)

-- the time of a SET is above 0, if that of its options is
set_fits : (key value : List ℕ) (o : SetOptionsRead) → LastsLong o.lifetime → (c : StringCommand) → set_of key value o ≡ Ok c → Fits c
set_fits key value o long c =
    let own : StringCommand = strings.Set key value (record { condition = if o.nx then IfMissing else (if o.xx then IfThere else Always); get = o.get; lifetime = o.lifetime }) in
    if_has Fits (o.nx && o.xx || o.twice) (Err Syntax) (Ok own) (never Fits Syntax) (λ b. made Fits own b long) c

-- no option of GETEX sets a time that isn't above 0
getex_options_keep : EachKeeps (λ (o : GetExOptionsRead). RenewsLong o.renewal) getex_options
getex_options_keep = (λ own o keeps q. tt, (λ own o keeps q. keeps.0, (λ own o keeps q. keeps.0, (λ own o keeps q. keeps.0, (λ own o keeps q. keeps.0, tt)))))

-- the time of a GETEX is above 0, if that of its options is
getex_fits : (key : List ℕ) (o : GetExOptionsRead) → RenewsLong o.renewal → (c : StringCommand) → getex_of key o ≡ Ok c → Fits c
getex_fits key o long c = if_has Fits o.twice (Err Syntax) (Ok (strings.GetEx key o.renewal)) (never Fits Syntax) (λ b. made Fits (strings.GetEx key o.renewal) b long) c

-- nothing is asked of the options of EXPIRE
expire_options_keep : EachKeeps (λ (o : ExpireOptions). Unit {0}) expire_options
expire_options_keep = (λ own o keeps q. tt, (λ own o keeps q. tt, (λ own o keeps q. tt, (λ own o keeps q. tt, tt))))

-- no option of COPY names a database that isn't one of 16
copy_options_keep : EachKeeps (λ (o : CopyOptions). IsOneOf16 o.db) copy_options
copy_options_keep = (λ own o keeps q. keeps.0, (λ own o keeps q. q, tt))

-- no option of SCAN sets a count of 0
scan_options_keep : EachKeeps (λ (o : ScanOptions). 0 < o.count) scan_options
scan_options_keep = (λ own o keeps q. q, (λ own o keeps q. keeps.0, (λ own o keeps q. q, tt)))

-- nor does one of HSCAN, SSCAN or ZSCAN
page_options_keep : EachKeeps (λ (o : ScanOptions). 0 < o.count) page_options
page_options_keep = (λ own o keeps q. q, (λ own o keeps q. keeps.0, tt))

-- options of which nothing is asked
free : {A : Type 0} (named : List (NamedOption A)) → EachKeeps (λ o. Unit {0}) named
free [] = tt
free (option ∷ named) = (λ own o keeps q. tt, free named)

-- nothing is asked of the options of FLUSHDB and FLUSHALL
flush_options_keep : EachKeeps (λ (o : Unit {0}). Unit {0}) flush_options
flush_options_keep = (λ own o keeps q. tt, (λ own o keeps q. tt, tt))

-- whatever PING makes of words is a command in range
ping_fits : (words : Words) (c : ConnectionCommand) → ping_words words ≡ Ok c → FitsConnection c
ping_fits [] c e = made FitsConnection (connection.Ping None) c tt e
ping_fits (text ∷ []) c e = made FitsConnection (connection.Ping (Some text)) c tt e
ping_fits (text ∷ more ∷ words) c e = cc

-- whatever a row makes of words has the property
abbrev pub RowFits : {A : Type 0} → (A → Type 0) → Row A → Type 0
RowFits {A} P row = (words : Words) (c : A) → row.read words ≡ Ok c → P c

-- the rows of string commands make only commands whose pieces and times are in range
string_rows_fit : AllByRecursion (RowFits Fits) string_rows
string_rows_fit = (
  fixed_fits Fits (Plain ∷ []) (λ a. Ok (strings.Get a.0)) (λ a keeps c. made Fits (strings.Get a.0) c tt),
  (
    with_options_fits Fits (Plain ∷ Plain ∷ []) set_options no_set_options (λ a o. set_of a.0 a.1.0 o) (λ o. LastsLong o.lifetime) (set_options_keep, tt)
        (λ a keeps o long c. set_fits a.0 a.1.0 o long c),
    (
      fixed_fits Fits (Plain ∷ Plain ∷ []) (λ a. Ok (strings.SetNx a.0 a.1.0)) (λ a keeps c. made Fits (strings.SetNx a.0 a.1.0) c tt),
      (
        fixed_fits Fits (Plain ∷ Span ∷ Plain ∷ []) (λ a. Ok (strings.SetEx a.0 a.1.0 a.1.1.0)) (λ a keeps c. made Fits (strings.SetEx a.0 a.1.0 a.1.1.0) c keeps.1.0),
        (
          fixed_fits Fits (Plain ∷ Span ∷ Plain ∷ []) (λ a. Ok (strings.PSetEx a.0 a.1.0 a.1.1.0)) (λ a keeps c. made Fits (strings.PSetEx a.0 a.1.0 a.1.1.0) c keeps.1.0),
          (
            fixed_fits Fits (Plain ∷ Plain ∷ []) (λ a. Ok (strings.GetSet a.0 a.1.0)) (λ a keeps c. made Fits (strings.GetSet a.0 a.1.0) c tt),
            (
              fixed_fits Fits (Plain ∷ []) (λ a. Ok (strings.GetDel a.0)) (λ a keeps c. made Fits (strings.GetDel a.0) c tt),
              (
                with_options_fits Fits (Plain ∷ []) getex_options no_getex_options (λ a o. getex_of a.0 o) (λ o. RenewsLong o.renewal) (getex_options_keep, tt)
                    (λ a keeps o long c. getex_fits a.0 o long c),
                (
                  repeated_fits Fits [] 1 (λ a words. Ok (strings.MGet words)) (λ a words c. made Fits (strings.MGet words) c tt),
                  (
                    repeated_fits Fits [] 2 (λ a words. Ok (strings.MSet (pairs_of words))) (λ a words c. made Fits (strings.MSet (pairs_of words)) c tt),
                    (
                      repeated_fits Fits [] 2 (λ a words. Ok (strings.MSetNx (pairs_of words))) (λ a words c. made Fits (strings.MSetNx (pairs_of words)) c tt),
                      (
                        fixed_fits Fits (Plain ∷ Plain ∷ []) (λ a. Ok (strings.Append a.0 a.1.0)) (λ a keeps c. made Fits (strings.Append a.0 a.1.0) c tt),
                        (
                          fixed_fits Fits (Plain ∷ []) (λ a. Ok (strings.StrLen a.0)) (λ a keeps c. made Fits (strings.StrLen a.0) c tt),
                          (
                            fixed_fits Fits (Plain ∷ Whole ∷ Whole ∷ []) (λ a. Ok (strings.GetRange a.0 a.1.0 a.1.1.0)) (λ a keeps c. made Fits (strings.GetRange a.0 a.1.0 a.1.1.0) c tt),
                            (
                              fixed_fits Fits (Plain ∷ Offset ∷ Plain ∷ []) (λ a. set_range_of a.0 a.1.0 a.1.1.0) (λ a keeps c. range_fits a.0 a.1.0 a.1.1.0 c),
                              (
                                fixed_fits Fits (Plain ∷ []) (λ a. Ok (strings.Incr a.0)) (λ a keeps c. made Fits (strings.Incr a.0) c tt),
                                (
                                  fixed_fits Fits (Plain ∷ []) (λ a. Ok (strings.Decr a.0)) (λ a keeps c. made Fits (strings.Decr a.0) c tt),
                                  (
                                    fixed_fits Fits (Plain ∷ Whole ∷ []) (λ a. Ok (strings.IncrBy a.0 a.1.0)) (λ a keeps c. made Fits (strings.IncrBy a.0 a.1.0) c tt),
                                    (
                                      fixed_fits Fits (Plain ∷ Whole ∷ []) (λ a. decrease_of a.0 a.1.0)
                                          (λ a keeps c. if_has Fits (is_i64 (neg_ℤ a.1.0)) (Ok (strings.DecrBy a.0 a.1.0)) (Err Overflow) (λ b. made Fits (strings.DecrBy a.0 a.1.0) b tt)
                                          (never Fits Overflow) c),
                                      tt,
                                    ),
                                  ),
                                ),
                              ),
                            ),
                          ),
                        ),
                      ),
                    ),
                  ),
                ),
              ),
            ),
          ),
        ),
      ),
    ),
  ),
)

-- the rows of commands on keys make only commands whose databases, counts and cursors are in range
key_rows_fit : AllByRecursion (RowFits FitsKeys) key_rows
key_rows_fit = (
  repeated_fits FitsKeys [] 1 (λ a words. Ok (keys.Del words)) (λ a words c. made FitsKeys (keys.Del words) c tt),
  (
    repeated_fits FitsKeys [] 1 (λ a words. Ok (keys.Unlink words)) (λ a words c. made FitsKeys (keys.Unlink words) c tt),
    (
      repeated_fits FitsKeys [] 1 (λ a words. Ok (keys.Exists words)) (λ a words c. made FitsKeys (keys.Exists words) c tt),
      (
        repeated_fits FitsKeys [] 1 (λ a words. Ok (keys.Touch words)) (λ a words c. made FitsKeys (keys.Touch words) c tt),
        (
          fixed_fits FitsKeys (Plain ∷ []) (λ a. Ok (keys.TypeOf a.0)) (λ a keeps c. made FitsKeys (keys.TypeOf a.0) c tt),
          (
            with_options_fits FitsKeys (Plain ∷ Whole ∷ []) expire_options no_expire_options (λ a o. expire_of keys.Expire a.0 a.1.0 o) (λ o. Unit {0}) (expire_options_keep, tt)
                (λ a keeps o long c. if_has FitsKeys (clash o) (Err Syntax) (Ok (keys.Expire a.0 a.1.0 o)) (never FitsKeys Syntax) (λ b. made FitsKeys (keys.Expire a.0 a.1.0 o) b tt) c),
            (
              with_options_fits FitsKeys (Plain ∷ Whole ∷ []) expire_options no_expire_options (λ a o. expire_of keys.PExpire a.0 a.1.0 o) (λ o. Unit {0}) (expire_options_keep, tt)
                  (λ a keeps o long c. if_has FitsKeys (clash o) (Err Syntax) (Ok (keys.PExpire a.0 a.1.0 o)) (never FitsKeys Syntax) (λ b. made FitsKeys (keys.PExpire a.0 a.1.0 o) b tt) c),
              (
                with_options_fits FitsKeys (Plain ∷ Whole ∷ []) expire_options no_expire_options (λ a o. expire_of keys.ExpireAt a.0 a.1.0 o) (λ o. Unit {0}) (expire_options_keep, tt)
                    (λ a keeps o long c. if_has FitsKeys (clash o) (Err Syntax) (Ok (keys.ExpireAt a.0 a.1.0 o)) (never FitsKeys Syntax) (λ b. made FitsKeys (keys.ExpireAt a.0 a.1.0 o) b tt) c),
                (
                  with_options_fits FitsKeys (Plain ∷ Whole ∷ []) expire_options no_expire_options (λ a o. expire_of keys.PExpireAt a.0 a.1.0 o) (λ o. Unit {0}) (expire_options_keep, tt)
                      (λ a keeps o long c. if_has FitsKeys (clash o) (Err Syntax) (Ok (keys.PExpireAt a.0 a.1.0 o)) (never FitsKeys Syntax) (λ b. made FitsKeys (keys.PExpireAt a.0 a.1.0 o) b tt) c),
                  (
                    fixed_fits FitsKeys (Plain ∷ []) (λ a. Ok (keys.Ttl a.0)) (λ a keeps c. made FitsKeys (keys.Ttl a.0) c tt),
                    (
                      fixed_fits FitsKeys (Plain ∷ []) (λ a. Ok (keys.PTtl a.0)) (λ a keeps c. made FitsKeys (keys.PTtl a.0) c tt),
                      (
                        fixed_fits FitsKeys (Plain ∷ []) (λ a. Ok (keys.ExpireTime a.0)) (λ a keeps c. made FitsKeys (keys.ExpireTime a.0) c tt),
                        (
                          fixed_fits FitsKeys (Plain ∷ []) (λ a. Ok (keys.PExpireTime a.0)) (λ a keeps c. made FitsKeys (keys.PExpireTime a.0) c tt),
                          (
                            fixed_fits FitsKeys (Plain ∷ []) (λ a. Ok (keys.Persist a.0)) (λ a keeps c. made FitsKeys (keys.Persist a.0) c tt),
                            (
                              fixed_fits FitsKeys (Plain ∷ Plain ∷ []) (λ a. Ok (keys.Rename a.0 a.1.0)) (λ a keeps c. made FitsKeys (keys.Rename a.0 a.1.0) c tt),
                              (
                                fixed_fits FitsKeys (Plain ∷ Plain ∷ []) (λ a. Ok (keys.RenameNx a.0 a.1.0)) (λ a keeps c. made FitsKeys (keys.RenameNx a.0 a.1.0) c tt),
                                (
                                  with_options_fits FitsKeys (Plain ∷ Plain ∷ []) copy_options no_copy_options (λ a o. Ok (keys.Copy a.0 a.1.0 o)) (λ o. IsOneOf16 o.db) (copy_options_keep, tt)
                                      (λ a keeps o within c. made FitsKeys (keys.Copy a.0 a.1.0 o) c within),
                                  (
                                    fixed_fits FitsKeys (Plain ∷ Database ∷ []) (λ a. Ok (keys.MoveKey a.0 a.1.0)) (λ a keeps c. made FitsKeys (keys.MoveKey a.0 a.1.0) c keeps.1.0),
                                    (
                                      fixed_fits FitsKeys [] (λ a. Ok keys.RandomKey) (λ a keeps c. made FitsKeys keys.RandomKey c tt),
                                      (
                                        by_second_fits FitsKeys 2 object_rows
                                            (fixed_fits FitsKeys (Plain ∷ []) (λ a. Ok (keys.ObjectEncoding a.0)) (λ a keeps c. made FitsKeys (keys.ObjectEncoding a.0) c tt), tt),
                                        (
                                          fixed_fits FitsKeys (Plain ∷ []) (λ a. Ok (keys.KeysLike a.0)) (λ a keeps c. made FitsKeys (keys.KeysLike a.0) c tt),
                                          (
                                            with_options_fits FitsKeys (Cursor ∷ []) scan_options no_scan_options (λ a o. Ok (keys.Scan a.0 o)) (λ o. 0 < o.count) (scan_options_keep, omega arith)
                                                (λ a keeps o above c. made FitsKeys (keys.Scan a.0 o) c (above, keeps.0)),
                                            tt,
                                          ),
                                        ),
                                      ),
                                    ),
                                  ),
                                ),
                              ),
                            ),
                          ),
                        ),
                      ),
                    ),
                  ),
                ),
              ),
            ),
          ),
        ),
      ),
    ),
  ),
)

-- the rows of commands on the connection make only commands whose databases and steps are in range
connection_rows_fit : AllByRecursion (RowFits FitsConnection) connection_rows
connection_rows_fit = (
  ping_fits,
  (
    fixed_fits FitsConnection (Plain ∷ []) (λ a. Ok (connection.Echo a.0)) (λ a keeps c. made FitsConnection (connection.Echo a.0) c tt),
    (
      (λ words c. made FitsConnection connection.Quit c tt),
      (
        fixed_fits FitsConnection (Database ∷ []) (λ a. Ok (connection.Select a.0)) (λ a keeps c. made FitsConnection (connection.Select a.0) c keeps.0),
        (
          fixed_fits FitsConnection [] (λ a. Ok connection.DbSize) (λ a keeps c. made FitsConnection connection.DbSize c tt),
          (
            with_options_fits FitsConnection [] flush_options tt (λ a o. Ok connection.FlushDb) (λ o. Unit {0}) (flush_options_keep, tt)
                (λ a keeps o long c. made FitsConnection connection.FlushDb c tt),
            (
              with_options_fits FitsConnection [] flush_options tt (λ a o. Ok connection.FlushAll) (λ o. Unit {0}) (flush_options_keep, tt)
                  (λ a keeps o long c. made FitsConnection connection.FlushAll c tt),
              (
                by_second_fits FitsConnection 1 memory_rows (fixed_fits FitsConnection [] (λ a. Ok connection.MemorySlabs) (λ a keeps c. made FitsConnection connection.MemorySlabs c tt), tt),
                (
                  by_second_fits FitsConnection 2 debug_rows (
                    fixed_fits FitsConnection (Steps ∷ []) (λ a. Ok (connection.DebugRehash a.0)) (λ a keeps c. made FitsConnection (connection.DebugRehash a.0) c keeps.0),
                    (fixed_fits FitsConnection (Steps ∷ []) (λ a. Ok (connection.DebugDefrag a.0)) (λ a keeps c. made FitsConnection (connection.DebugDefrag a.0) c keeps.0), tt),
                  ),
                  tt,
                ),
              ),
            ),
          ),
        ),
      ),
    ),
  ),
)

-- a family's rows and the others behind them make only commands in range, if each of both parts does
family_fits : {A : Type 0} (family : A → Command) (P : A → Type 0) → ((a : A) → P a → FitsCommand (family a)) → (own : List (Row A)) → AllByRecursion (RowFits P) own
    → (others : List (Row Command)) → AllByRecursion (RowFits FitsCommand) others → AllByRecursion (RowFits FitsCommand) (map (of_family family) own ++ others)
family_fits family P fits [] h others k = k
family_fits family P fits (row ∷ own) h others k = (
  λ words c e. then_told FitsCommand (row.read words) (λ command. Ok (family command)) (λ a is b f. made FitsCommand (family a) b (fits a (h.0 words a is)) f) c e,
  family_fits family P
      fits own h.1 others k,
)

-- a family's rows make only commands in range among those of all families, if they do in their own
family_alone : {A : Type 0} (family : A → Command) (P : A → Type 0) → ((a : A) → P a → FitsCommand (family a)) → (own : List (Row A)) → AllByRecursion (RowFits P) own
    → AllByRecursion (RowFits FitsCommand) (map (of_family family) own)
family_alone family P fits [] h = tt
family_alone family P fits (row ∷ own) h = (
  λ words c e. then_told FitsCommand (row.read words) (λ command. Ok (family command)) (λ a is b f. made FitsCommand (family a) b (fits a (h.0 words a is)) f) c e,
  family_alone family P
      fits own h.1,
)

-- where two tests hold together the first one holds
first_holds : (a b : Bool) → (a && b) ≡ true → a ≡ true
first_holds true b e = refl
first_holds false b e = cc

-- a command that pushes has an element
push_fits : (make : List ℕ → Words → ListCommand) → ((key : List ℕ) (elements : Words) → 0 < length elements → FitsLists (make key elements)) → (words : Words) (c : ListCommand)
    → push_words make words ≡ Ok c → FitsLists c
push_fits make h [] c e = cc
push_fits make h (key ∷ rest) c e =
    let least = nat_lt 1 (length (key ∷ rest)) in
    let whole = (length (key ∷ rest) - 1) % 1 == 0 in
    if_true FitsLists (least && whole) (Ok (make key rest)) WrongNumberOfArguments
    (λ t b f. made FitsLists (make key rest) b (h key rest (omega (arith, ltb-true 1 (length (key ∷ rest)) (first_holds least whole t)))) f) c e

-- whatever a row of a word and perhaps a number makes has what is asked of all that it makes
module _ {B : Type 0} (P : B → Type 0) where
  amount_fits : (make : List ℕ → Option ℕ → B) → ((key : List ℕ) (n : Option ℕ) → P (make key n)) → (words : Words) (c : B) → with_amount make words ≡ Ok c → P c
  amount_fits make h [] c e = cc
  amount_fits make h (key ∷ []) c e = made P (make key None) c (h key None) e
  amount_fits make h (key ∷ n ∷ []) c e = then_told P (told Amount n) (λ a. Ok (make key (Some a))) (λ a is b f. made P (make key (Some a)) b (h key (Some a)) f) c e
  amount_fits make h (key ∷ n ∷ more ∷ words) c e = cc

  picks_fit : (make : List ℕ → Option ℤ → B) → ((key : List ℕ) (n : Option ℤ) → P (make key n)) → (words : Words) (c : B) → with_picks make words ≡ Ok c → P c
  picks_fit make h [] c e = cc
  picks_fit make h (key ∷ []) c e = made P (make key None) c (h key None) e
  picks_fit make h (key ∷ n ∷ []) c e = then_told P (told Picks n) (λ a. Ok (make key (Some a))) (λ a is b f. made P (make key (Some a)) b (h key (Some a)) f) c e
  picks_fit make h (key ∷ n ∷ more ∷ words) c e = cc

  -- a row with options of which nothing is asked
  freely_fits : {A : Type 0} (kinds : List Kind) (named : List (NamedOption A)) (start : A) (make : AllTold kinds → A → Result B Refusal)
      → ((a : AllTold kinds) (o : A) (c : B) → make a o ≡ Ok c → P c) → (words : Words) (c : B) → with_options kinds named start make words ≡ Ok c → P c
  freely_fits kinds named start make h words c e = with_options_fits P kinds named start make (λ o. Unit {0}) (free named, tt) (λ a keeps o q b f. h a o b f) words c e

  picked_fit : (name : List ℕ) (make : List ℕ → Option ℤ → Bool → B) → ((key : List ℕ) (n : Option ℤ) (more : Bool) → P (make key n more)) → (words : Words) (c : B)
      → with_picked name make words ≡ Ok c → P c
  picked_fit name make h [] c e = cc
  picked_fit name make h (key ∷ []) c e = made P (make key None false) c (h key None false) e
  picked_fit name make h (key ∷ n ∷ words) c e = freely_fits (Plain ∷ Picks ∷ []) (record { name = name; kinds = []; sets = λ own o. true } ∷ []) false
      (λ a option. Ok (make a.0 (Some a.1.0) option)) (λ a o b f. made P (make a.0 (Some a.1.0) o) b (h a.0 (Some a.1.0) o) f) (key ∷ n ∷ words) c e

  -- a page has a count and a cursor in range
  page_fits : (make : List ℕ → ℕ → ScanOptions → B) → ((key : List ℕ) (cursor : ℕ) (options : ScanOptions) → IsPageAsked cursor options → P (make key cursor options))
      → (words : Words) (c : B) → page_words make words ≡ Ok c → P c
  page_fits make h words c e = with_options_fits P (Plain ∷ Cursor ∷ []) page_options no_scan_options (λ a o. Ok (make a.0 a.1.0 o)) (λ o. 0 < o.count) (page_options_keep, omega arith)
      (λ a keeps o above b f. made P (make a.0 a.1.0 o) b (h a.0 a.1.0 o (above, keeps.1.0)) f) words c e

  -- keys that are counted
  counted_fits : (make : Words → Words → Result B Refusal) → ((keys rest : Words) (c : B) → make keys rest ≡ Ok c → P c) → (n : ℕ) (words : Words) (c : B) → counted make n words ≡ Ok c → P c
  counted_fits make h n words c e = if_has P (nat_le n (length words)) (make (take n words) (drop n words)) (Err Syntax) (h (take n words) (drop n words)) (never P Syntax) c e

-- the rows of commands on lists make only commands that push an element at least, if they push
list_rows_fit : AllByRecursion (RowFits FitsLists) list_rows
list_rows_fit = (
  push_fits lists.LPush (λ key elements some. some),
  (
    push_fits lists.RPush (λ key elements some. some),
    (
      push_fits lists.LPushX (λ key elements some. some),
      (
        push_fits lists.RPushX (λ key elements some. some),
        (
          amount_fits FitsLists lists.LPop (λ key n. tt),
          (
            amount_fits FitsLists lists.RPop (λ key n. tt),
            (
              fixed_fits FitsLists (Plain ∷ []) (λ a. Ok (lists.LLen a.0)) (λ a keeps c. made FitsLists (lists.LLen a.0) c tt),
              (
                fixed_fits FitsLists (Plain ∷ Whole ∷ []) (λ a. Ok (lists.LIndex a.0 a.1.0)) (λ a keeps c. made FitsLists (lists.LIndex a.0 a.1.0) c tt),
                (
                  fixed_fits FitsLists (Plain ∷ Whole ∷ Plain ∷ []) (λ a. Ok (lists.LSet a.0 a.1.0 a.1.1.0)) (λ a keeps c. made FitsLists (lists.LSet a.0 a.1.0 a.1.1.0) c tt),
                  (
                    fixed_fits FitsLists (Plain ∷ Whole ∷ Whole ∷ []) (λ a. Ok (lists.LRange a.0 a.1.0 a.1.1.0)) (λ a keeps c. made FitsLists (lists.LRange a.0 a.1.0 a.1.1.0) c tt),
                    (
                      fixed_fits FitsLists (Plain ∷ Whole ∷ Whole ∷ []) (λ a. Ok (lists.LTrim a.0 a.1.0 a.1.1.0)) (λ a keeps c. made FitsLists (lists.LTrim a.0 a.1.0 a.1.1.0) c tt),
                      (
                        fixed_fits FitsLists (Plain ∷ OnSide ∷ Plain ∷ Plain ∷ []) (λ a. Ok (lists.LInsert a.0 a.1.0 a.1.1.0 a.1.1.1.0))
                            (λ a keeps c. made FitsLists (lists.LInsert a.0 a.1.0 a.1.1.0 a.1.1.1.0) c tt),
                        (
                          fixed_fits FitsLists (Plain ∷ Whole ∷ Plain ∷ []) (λ a. Ok (lists.LRem a.0 a.1.0 a.1.1.0)) (λ a keeps c. made FitsLists (lists.LRem a.0 a.1.0 a.1.1.0) c tt),
                          (
                            with_options_fits FitsLists (Plain ∷ Plain ∷ []) position_options no_position_options (λ a o. Ok (lists.LPos a.0 a.1.0 o)) (λ o. Unit {0})
                                ((λ own o keeps q. tt, (λ own o keeps q. tt, (λ own o keeps q. tt, tt))), tt) (λ a keeps o q c. made FitsLists (lists.LPos a.0 a.1.0 o) c tt),
                            (
                              fixed_fits FitsLists (Plain ∷ Plain ∷ AtEnd ∷ AtEnd ∷ []) (λ a. Ok (lists.LMove a.0 a.1.0 a.1.1.0 a.1.1.1.0))
                                  (λ a keeps c. made FitsLists (lists.LMove a.0 a.1.0 a.1.1.0 a.1.1.1.0) c tt),
                              (fixed_fits FitsLists (Plain ∷ Plain ∷ []) (λ a. Ok (lists.RPopLPush a.0 a.1.0)) (λ a keeps c. made FitsLists (lists.RPopLPush a.0 a.1.0) c tt), tt),
                            ),
                          ),
                        ),
                      ),
                    ),
                  ),
                ),
              ),
            ),
          ),
        ),
      ),
    ),
  ),
)

-- whatever SINTERCARD makes of words is no scan
inter_card_fits : (words : Words) (c : SetCommand) → inter_card_words words ≡ Ok c → FitsSets c
inter_card_fits [] c e = cc
inter_card_fits (n ∷ words) c e =
    if_has FitsSets (nat_le 1 (length words)) (and_then (told shapes.Keys n) (λ count. counted inter_card_of count words)) (Err WrongNumberOfArguments)
    (then_told FitsSets (told shapes.Keys n) (λ count. counted inter_card_of count words) (λ count is. counted_fits FitsSets inter_card_of (λ keys rest.
    then_told FitsSets (options_read limit_options 0 0 rest) (λ limit. Ok (sets.SInterCard keys limit)) (λ limit are b f. made FitsSets (sets.SInterCard keys limit) b tt f)) count words))
    (never FitsSets WrongNumberOfArguments) c e

-- the rows of commands on sets make only pages in range
set_rows_fit : AllByRecursion (RowFits FitsSets) set_rows
set_rows_fit = (
  repeated_fits FitsSets (Plain ∷ []) 1 (λ a own. Ok (sets.SAdd a.0 own)) (λ a own c. made FitsSets (sets.SAdd a.0 own) c tt),
  (
    repeated_fits FitsSets (Plain ∷ []) 1 (λ a own. Ok (sets.SRem a.0 own)) (λ a own c. made FitsSets (sets.SRem a.0 own) c tt),
    (
      fixed_fits FitsSets (Plain ∷ Plain ∷ []) (λ a. Ok (sets.SIsMember a.0 a.1.0)) (λ a keeps c. made FitsSets (sets.SIsMember a.0 a.1.0) c tt),
      (
        repeated_fits FitsSets (Plain ∷ []) 1 (λ a own. Ok (sets.SMIsMember a.0 own)) (λ a own c. made FitsSets (sets.SMIsMember a.0 own) c tt),
        (
          fixed_fits FitsSets (Plain ∷ []) (λ a. Ok (sets.SMembers a.0)) (λ a keeps c. made FitsSets (sets.SMembers a.0) c tt),
          (
            fixed_fits FitsSets (Plain ∷ []) (λ a. Ok (sets.SCard a.0)) (λ a keeps c. made FitsSets (sets.SCard a.0) c tt),
            (
              fixed_fits FitsSets (Plain ∷ Plain ∷ Plain ∷ []) (λ a. Ok (sets.SMove a.0 a.1.0 a.1.1.0)) (λ a keeps c. made FitsSets (sets.SMove a.0 a.1.0 a.1.1.0) c tt),
              (
                amount_fits FitsSets sets.SPop (λ key n. tt),
                (
                  picks_fit FitsSets sets.SRandMember (λ key n. tt),
                  (
                    repeated_fits FitsSets [] 1 (λ a keys. Ok (sets.SJoin Inter keys)) (λ a keys c. made FitsSets (sets.SJoin Inter keys) c tt),
                    (
                      repeated_fits FitsSets [] 1 (λ a keys. Ok (sets.SJoin Union keys)) (λ a keys c. made FitsSets (sets.SJoin Union keys) c tt),
                      (
                        repeated_fits FitsSets [] 1 (λ a keys. Ok (sets.SJoin Diff keys)) (λ a keys c. made FitsSets (sets.SJoin Diff keys) c tt),
                        (
                          repeated_fits FitsSets (Plain ∷ []) 1 (λ a keys. Ok (sets.SJoinStore Inter a.0 keys)) (λ a keys c. made FitsSets (sets.SJoinStore Inter a.0 keys) c tt),
                          (
                            repeated_fits FitsSets (Plain ∷ []) 1 (λ a keys. Ok (sets.SJoinStore Union a.0 keys)) (λ a keys c. made FitsSets (sets.SJoinStore Union a.0 keys) c tt),
                            (
                              repeated_fits FitsSets (Plain ∷ []) 1 (λ a keys. Ok (sets.SJoinStore Diff a.0 keys)) (λ a keys c. made FitsSets (sets.SJoinStore Diff a.0 keys) c tt),
                              (inter_card_fits, (page_fits FitsSets sets.SScan (λ key cursor options asked. asked), tt)),
                            ),
                          ),
                        ),
                      ),
                    ),
                  ),
                ),
              ),
            ),
          ),
        ),
      ),
    ),
  ),
)

-- the rows of commands on hashes make only pages in range
hash_rows_fit : AllByRecursion (RowFits FitsHashes) hash_rows
hash_rows_fit = (
  repeated_fits FitsHashes (Plain ∷ []) 2 (λ a own. Ok (hashes.HSet a.0 (pairs_of own))) (λ a own c. made FitsHashes (hashes.HSet a.0 (pairs_of own)) c tt),
  (
    repeated_fits FitsHashes (Plain ∷ []) 2 (λ a own. Ok (hashes.HMSet a.0 (pairs_of own))) (λ a own c. made FitsHashes (hashes.HMSet a.0 (pairs_of own)) c tt),
    (
      fixed_fits FitsHashes (Plain ∷ Plain ∷ Plain ∷ []) (λ a. Ok (hashes.HSetNx a.0 a.1.0 a.1.1.0)) (λ a keeps c. made FitsHashes (hashes.HSetNx a.0 a.1.0 a.1.1.0) c tt),
      (
        fixed_fits FitsHashes (Plain ∷ Plain ∷ []) (λ a. Ok (hashes.HGet a.0 a.1.0)) (λ a keeps c. made FitsHashes (hashes.HGet a.0 a.1.0) c tt),
        (
          repeated_fits FitsHashes (Plain ∷ []) 1 (λ a own. Ok (hashes.HMGet a.0 own)) (λ a own c. made FitsHashes (hashes.HMGet a.0 own) c tt),
          (
            repeated_fits FitsHashes (Plain ∷ []) 1 (λ a own. Ok (hashes.HDel a.0 own)) (λ a own c. made FitsHashes (hashes.HDel a.0 own) c tt),
            (
              fixed_fits FitsHashes (Plain ∷ Plain ∷ []) (λ a. Ok (hashes.HExists a.0 a.1.0)) (λ a keeps c. made FitsHashes (hashes.HExists a.0 a.1.0) c tt),
              (
                fixed_fits FitsHashes (Plain ∷ []) (λ a. Ok (hashes.HLen a.0)) (λ a keeps c. made FitsHashes (hashes.HLen a.0) c tt),
                (
                  fixed_fits FitsHashes (Plain ∷ Plain ∷ []) (λ a. Ok (hashes.HStrLen a.0 a.1.0)) (λ a keeps c. made FitsHashes (hashes.HStrLen a.0 a.1.0) c tt),
                  (
                    fixed_fits FitsHashes (Plain ∷ []) (λ a. Ok (hashes.HKeys a.0)) (λ a keeps c. made FitsHashes (hashes.HKeys a.0) c tt),
                    (
                      fixed_fits FitsHashes (Plain ∷ []) (λ a. Ok (hashes.HVals a.0)) (λ a keeps c. made FitsHashes (hashes.HVals a.0) c tt),
                      (
                        fixed_fits FitsHashes (Plain ∷ []) (λ a. Ok (hashes.HGetAll a.0)) (λ a keeps c. made FitsHashes (hashes.HGetAll a.0) c tt),
                        (
                          fixed_fits FitsHashes (Plain ∷ Plain ∷ Whole ∷ []) (λ a. Ok (hashes.HIncrBy a.0 a.1.0 a.1.1.0)) (λ a keeps c. made FitsHashes (hashes.HIncrBy a.0 a.1.0 a.1.1.0) c tt),
                          (picked_fit FitsHashes (codes "withvalues") hashes.HRandField (λ key n more. tt), (page_fits FitsHashes hashes.HScan (λ key cursor options asked. asked), tt)),
                        ),
                      ),
                    ),
                  ),
                ),
              ),
            ),
          ),
        ),
      ),
    ),
  ),
)

-- whatever ZADD makes of words is no scan
add_of_fits : (key : List ℕ) (o : AddOptions) (pairs : List (ℤ × List ℕ)) (c : ZsetCommand) → add_of key o pairs ≡ Ok c → FitsZsets c
add_of_fits key o [] c e = cc
add_of_fits key o (pair ∷ pairs) c e =
    let one : Result ZsetCommand Refusal = Ok (zsets.ZIncr key o.rules pair.0 pair.1) in
    let all : Result ZsetCommand Refusal = Ok (zsets.ZAdd key o.rules o.ch (pair ∷ pairs)) in
    if_has FitsZsets (add_breaks o pairs) (Err Syntax) (if o.incr then one else all) (never FitsZsets Syntax)
    (if_has FitsZsets o.incr one all (λ b. made FitsZsets (zsets.ZIncr key o.rules pair.0 pair.1) b tt) (λ b. made FitsZsets (zsets.ZAdd key o.rules o.ch (pair ∷ pairs)) b tt)) c e

add_fits : (words : Words) (c : ZsetCommand) → add_words words ≡ Ok c → FitsZsets c
add_fits [] c e = cc
add_fits (key ∷ words) c e =
    let front = options_read add_options no_add_options 0 (take (options_in_front words) words) in
    let behind = scores_read (drop (options_in_front words) words) in
    if_has FitsZsets (nat_le 2 (length words)) (and_then front (λ options. and_then behind (add_of key options))) (Err WrongNumberOfArguments)
    (then_told FitsZsets front (λ options. and_then behind (add_of key options)) (λ o is. then_told FitsZsets behind (add_of key o) (λ pairs are. add_of_fits key o pairs)))
    (never FitsZsets WrongNumberOfArguments) c e

-- whatever a rank or a range makes of words is no scan
rank_fits : (from : Direction) (words : Words) (c : ZsetCommand) → rank_words from words ≡ Ok c → FitsZsets c
rank_fits from = freely_fits FitsZsets (Plain ∷ Plain ∷ []) (record { name = codes "withscore"; kinds = []; sets = λ own o. true } ∷ []) false (λ a o. Ok (zsets.ZRank a.0 a.1.0 from o))
    (λ a o c. made FitsZsets (zsets.ZRank a.0 a.1.0 from o) c tt)

score_range_is : (key : List ℕ) (a b : ScoreBound) (rev : Bool) (o : RangeOptions) → FitsZsets (score_range_of key a b rev o)
score_range_is key a b false o = tt
score_range_is key a b true o = tt

score_range_fits : (rev : Bool) (words : Words) (c : ZsetCommand) → score_range_words rev words ≡ Ok c → FitsZsets c
score_range_fits rev = freely_fits FitsZsets (Plain ∷ Bound ∷ Bound ∷ []) (with_scores_option ∷ limit_option ∷ []) no_range_options (λ a o. Ok (score_range_of a.0 a.1.0 a.1.1.0 rev o))
    (λ a o c. made FitsZsets (score_range_of a.0 a.1.0 a.1.1.0 rev o) c (score_range_is a.0 a.1.0 a.1.1.0 rev o))

range_fits_scores : (words : Words) (c : ZsetCommand) → range_words words ≡ Ok c → FitsZsets c
range_fits_scores words c e =
    if_has FitsZsets (asks_scores (drop 3 words)) (with_options (Plain ∷ Bound ∷ Bound ∷ []) range_options no_range_options (λ a o. Ok (score_range_of a.0 a.1.0 a.1.1.0 o.rev o)) words)
    (with_options (Plain ∷ Whole ∷ Whole ∷ []) range_options no_range_options (λ a o. rank_range_of a.0 a.1.0 a.1.1.0 o) words)
    (freely_fits FitsZsets (Plain ∷ Bound ∷ Bound ∷ []) range_options no_range_options (λ a o. Ok (score_range_of a.0 a.1.0 a.1.1.0 o.rev o))
    (λ a o b. made FitsZsets (score_range_of a.0 a.1.0 a.1.1.0 o.rev o) b (score_range_is a.0 a.1.0 a.1.1.0 o.rev o)) words)
    (freely_fits FitsZsets (Plain ∷ Whole ∷ Whole ∷ []) range_options no_range_options (λ a o. rank_range_of a.0 a.1.0 a.1.1.0 o)
    (λ a o b. if_has FitsZsets (is_some o.limit) (Err Syntax) (Ok (zsets.ZRange a.0 a.1.0 a.1.1.0 (direction o.rev) o.with_scores)) (never FitsZsets Syntax)
    (λ b. made FitsZsets (zsets.ZRange a.0 a.1.0 a.1.1.0 (direction o.rev) o.with_scores) b tt) b) words) c e

-- whatever a join makes of words is no scan
join_fits : (join : ScoreJoin) (words : Words) (c : ZsetCommand) → zset_words.join_words join words ≡ Ok c → FitsZsets c
join_fits join [] c e = cc
join_fits join (to ∷ []) c e = cc
join_fits join (to ∷ n ∷ words) c e =
    if_has FitsZsets (nat_le 1 (length words)) (and_then (told shapes.Keys n) (λ count. counted (join_of join to count) count words)) (Err WrongNumberOfArguments)
    (then_told FitsZsets (told shapes.Keys n) (λ count. counted (join_of join to count) count words) (λ count is. counted_fits FitsZsets (join_of join to count) (λ keys rest.
    then_told FitsZsets (options_read (join_options count) (no_join_options count) 0 rest) (λ read. Ok (zsets.ZJoinStore join to (weighed read.0 keys) read.1))
    (λ read are b f. made FitsZsets (zsets.ZJoinStore join to (weighed read.0 keys) read.1) b tt f)) count words))
    (never FitsZsets WrongNumberOfArguments) c e

-- the rows of commands on sorted sets make only pages in range
zset_rows_fit : AllByRecursion (RowFits FitsZsets) zset_rows
zset_rows_fit = (
  add_fits,
  (
    fixed_fits FitsZsets (Plain ∷ Score ∷ Plain ∷ []) (λ a. Ok (zsets.ZIncr a.0 no_rules a.1.0 a.1.1.0)) (λ a keeps c. made FitsZsets (zsets.ZIncr a.0 no_rules a.1.0 a.1.1.0) c tt),
    (
      repeated_fits FitsZsets (Plain ∷ []) 1 (λ a own. Ok (zsets.ZRem a.0 own)) (λ a own c. made FitsZsets (zsets.ZRem a.0 own) c tt),
      (
        fixed_fits FitsZsets (Plain ∷ Plain ∷ []) (λ a. Ok (zsets.ZScore a.0 a.1.0)) (λ a keeps c. made FitsZsets (zsets.ZScore a.0 a.1.0) c tt),
        (
          repeated_fits FitsZsets (Plain ∷ []) 1 (λ a own. Ok (zsets.ZMScore a.0 own)) (λ a own c. made FitsZsets (zsets.ZMScore a.0 own) c tt),
          (
            fixed_fits FitsZsets (Plain ∷ []) (λ a. Ok (zsets.ZCard a.0)) (λ a keeps c. made FitsZsets (zsets.ZCard a.0) c tt),
            (
              fixed_fits FitsZsets (Plain ∷ Bound ∷ Bound ∷ []) (λ a. Ok (zsets.ZCount a.0 a.1.0 a.1.1.0)) (λ a keeps c. made FitsZsets (zsets.ZCount a.0 a.1.0 a.1.1.0) c tt),
              (
                rank_fits Rising,
                (
                  rank_fits Falling,
                  (
                    range_fits_scores,
                    (
                      freely_fits FitsZsets (Plain ∷ Whole ∷ Whole ∷ []) (with_scores_option ∷ []) no_range_options (λ a o. Ok (zsets.ZRange a.0 a.1.0 a.1.1.0 Falling o.with_scores))
                          (λ a o c. made FitsZsets (zsets.ZRange a.0 a.1.0 a.1.1.0 Falling o.with_scores) c tt),
                      (
                        score_range_fits false,
                        (
                          score_range_fits true,
                          (
                            fixed_fits FitsZsets (Plain ∷ Whole ∷ Whole ∷ []) (λ a. Ok (zsets.ZRemRangeByRank a.0 a.1.0 a.1.1.0))
                                (λ a keeps c. made FitsZsets (zsets.ZRemRangeByRank a.0 a.1.0 a.1.1.0) c tt),
                            (
                              fixed_fits FitsZsets (Plain ∷ Bound ∷ Bound ∷ []) (λ a. Ok (zsets.ZRemRangeByScore a.0 a.1.0 a.1.1.0))
                                  (λ a keeps c. made FitsZsets (zsets.ZRemRangeByScore a.0 a.1.0 a.1.1.0) c tt),
                              (
                                amount_fits FitsZsets (λ key n. zsets.ZPop key Rising n) (λ key n. tt),
                                (
                                  amount_fits FitsZsets (λ key n. zsets.ZPop key Falling n) (λ key n. tt),
                                  (
                                    picked_fit FitsZsets (codes "withscores") zsets.ZRandMember (λ key n more. tt),
                                    (join_fits score_joins.Union, (join_fits score_joins.Inter, (page_fits FitsZsets zsets.ZScan (λ key cursor options asked. asked), tt))),
                                  ),
                                ),
                              ),
                            ),
                          ),
                        ),
                      ),
                    ),
                  ),
                ),
              ),
            ),
          ),
        ),
      ),
    ),
  ),
)

-- of commands of which nothing is asked
all_fit : {A : Type 0} (own : List (Row A)) → AllByRecursion (RowFits (λ a. Unit {0})) own
all_fit [] = tt
all_fit (row ∷ own) = (λ words c e. tt, all_fit own)

-- the rows of all commands make only commands whose numbers and pieces are in range
rows_fit : AllByRecursion (RowFits FitsCommand) rows
rows_fit =
    let last = map (of_family Connection) connection_rows in
    let behind = map (of_family Keys) key_rows ++ last in
    let streams = map (of_family Streams) stream_rows ++ behind in
    let zsets = map (of_family Zsets) zset_rows ++ streams in
    let hashes = map (of_family Hashes) hash_rows ++ zsets in
    let sets = map (of_family Sets) set_rows ++ hashes in
    family_fits Strings Fits (λ a h. h) string_rows string_rows_fit (map (of_family Lists) list_rows ++ sets)
    (family_fits Lists FitsLists (λ a h. h) list_rows list_rows_fit sets
    (family_fits Sets FitsSets (λ a h. h) set_rows set_rows_fit hashes
    (family_fits Hashes FitsHashes (λ a h. h) hash_rows hash_rows_fit zsets
    (family_fits Zsets FitsZsets (λ a h. h) zset_rows zset_rows_fit streams
    (family_fits Streams (λ a. Unit {0}) (λ a h. h) stream_rows (all_fit stream_rows) behind
    (family_fits Keys FitsKeys (λ a h. h) key_rows key_rows_fit last
    (family_alone Connection FitsConnection (λ a h. h) connection_rows connection_rows_fit)))))))

-- what the row of a name makes of words is in range, if all rows make only commands that are
found_fits : (all : List (Row Command)) → AllByRecursion (RowFits FitsCommand) all → (name : List ℕ) (words : Words) (c : Command) → read_by all name words ≡ Ok c → FitsCommand c
found_fits [] h name words c e = cc
found_fits (row ∷ all) h name words c e = if_has FitsCommand (bytes_eq name row.name) (row.read words) (read_by all name words) (λ b f. h.0 words b f) (λ b f. found_fits all h.1 name words b f) c e

-- what each command keeps that words mean
pub command_fits : (words : Words) (c : Command) → meant words ≡ Ok c → FitsCommand c
command_fits [] c e = cc
command_fits (name ∷ words) c e = found_fits rows rows_fit (in_lower_case name) words c e

-- a string command that words mean has its times above 0 and its piece within the greatest length
pub meant_fits : (words : Words) (c : StringCommand) → meant words ≡ Ok (Strings c) → Fits c
meant_fits words c e = command_fits words (Strings c) e

-- a command on lists that words mean pushes an element at least, if it pushes
pub lists_fit : (words : Words) (c : ListCommand) → meant words ≡ Ok (Lists c) → FitsLists c
lists_fit words c e = command_fits words (Lists c) e

-- a page that words ask for is in range
pub sets_fit : (words : Words) (c : SetCommand) → meant words ≡ Ok (Sets c) → FitsSets c
sets_fit words c e = command_fits words (Sets c) e

pub hashes_fit : (words : Words) (c : HashCommand) → meant words ≡ Ok (Hashes c) → FitsHashes c
hashes_fit words c e = command_fits words (Hashes c) e

pub zsets_fit : (words : Words) (c : ZsetCommand) → meant words ≡ Ok (Zsets c) → FitsZsets c
zsets_fit words c e = command_fits words (Zsets c) e
