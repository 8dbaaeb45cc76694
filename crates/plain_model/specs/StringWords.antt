-- What the words of string commands mean (Redis command reference, "Commands operating on strings").
use Rattle.std.specs.Prelude.{ℕ, ◌+◌, ◌==◌, List, [], ◌∷◌, length, ℤ, neg_ℤ, Bool, true, false, ◌&&◌, ◌||◌, nat_le, Result, Ok, Err, codes, if◌then◌else◌}
use Rattle.plain_world.specs.Words.{Words, longest}
use Rattle.int_text.specs.Decimal.{is_i64}
use Rattle.plain_model.specs.Shapes.{Plain, Whole, Offset, Span, Row, fixed, repeated, NamedOption, with_options}
use Rattle.plain_model.specs.declared.command.SetOptionsRead.{SetOptionsRead}
use Rattle.plain_model.specs.declared.command.GetExOptionsRead.{GetExOptionsRead}
use Rattle.plain_model.specs.declared.command.StringCommand.{StringCommand}
use Rattle.plain_model.specs.declared.command.StringCommand.TheVariants as strings
use Rattle.plain_model.specs.declared.command.Condition.TheVariants.{Always, IfMissing, IfThere}
use Rattle.plain_model.specs.declared.times.Time.{Time}
use Rattle.plain_model.specs.declared.times.TimeUnit.{TimeUnit}
use Rattle.plain_model.specs.declared.times.TimeOrigin.{TimeOrigin}
use Rattle.plain_model.specs.declared.times.TimeUnit.TheVariants.{Seconds, Milliseconds}
use Rattle.plain_model.specs.declared.times.TimeOrigin.TheVariants.{Now, Epoch}
use Rattle.plain_model.specs.declared.times.Lifetime.{Lifetime}
use Rattle.plain_model.specs.declared.times.Lifetime.TheVariants as lifetimes
use Rattle.plain_model.specs.declared.times.Renewal.{Renewal}
use Rattle.plain_model.specs.declared.times.Renewal.TheVariants as renewals
use Rattle.plain_world.specs.declared.refusal.Refusal.{Refusal}
use Rattle.plain_world.specs.declared.refusal.Refusal.TheVariants.{Syntax, Overflow, ValueOutOfRange}

abbrev pub Read : Type 0
Read = Result StringCommand Refusal

-- words in pairs
abbrev pub pairs_of : Words → List (List ℕ × List ℕ)
pairs_of [] = []
pairs_of (key ∷ []) = []
pairs_of (key ∷ value ∷ words) = (key, value) ∷ pairs_of words

-- an option that gives a time, which is above 0
abbrev pub time_option : {A : Type 0} → List ℕ → TimeUnit → TimeOrigin → (Time → A → A) → NamedOption A
time_option name unit from until =
    record { name = name; kinds = Span ∷ []; sets = λ own c. until (record { unit = unit; from = from; n = own.0 }) c }

abbrev pub time_options : {A : Type 0} → (Time → A → A) → List (NamedOption A)
time_options until =
    time_option (codes "ex") Seconds Now until
    ∷ time_option (codes "px") Milliseconds Now until
    ∷ time_option (codes "exat") Seconds Epoch until
    ∷ time_option (codes "pxat") Milliseconds Epoch until
    ∷ []

abbrev pub is_given : Lifetime → Bool
is_given lifetimes.Forever = false
is_given lifetimes.Kept = true
is_given (lifetimes.Until time) = true

-- one more option gives a lifetime
abbrev pub lasting : Lifetime → SetOptionsRead → SetOptionsRead
lasting lifetime c =
    record { nx = c.nx; xx = c.xx; get = c.get; lifetime = lifetime; twice = c.twice || is_given c.lifetime }

abbrev pub set_options : List (NamedOption SetOptionsRead)
set_options =
    record {
      name = codes "nx";
      kinds = [];
      sets = λ own c.
          record { nx = true; xx = c.xx; get = c.get; lifetime = c.lifetime; twice = c.twice };
    }
    ∷ record {
      name = codes "xx";
      kinds = [];
      sets = λ own c.
          record { nx = c.nx; xx = true; get = c.get; lifetime = c.lifetime; twice = c.twice };
    }
    ∷ record {
      name = codes "get";
      kinds = [];
      sets = λ own c.
          record { nx = c.nx; xx = c.xx; get = true; lifetime = c.lifetime; twice = c.twice };
    }
    ∷ record { name = codes "keepttl"; kinds = []; sets = λ own c. lasting lifetimes.Kept c }
    ∷ time_options (λ time. lasting (lifetimes.Until time))

-- none of the options of SET
abbrev pub no_set_options : SetOptionsRead
no_set_options = record { nx = false; xx = false; get = false; lifetime = lifetimes.Forever; twice = false }

abbrev pub set_of : List ℕ → List ℕ → SetOptionsRead → Read
set_of key value c =
    if c.nx && c.xx || c.twice then Err Syntax
    else Ok (strings.Set key value
    (record {
      condition = if c.nx then IfMissing
          else (if c.xx then IfThere else Always);
      get = c.get;
      lifetime = c.lifetime;
    }))

abbrev pub is_renewed : Renewal → Bool
is_renewed renewals.Unchanged = false
is_renewed renewals.Persist = true
is_renewed (renewals.Until time) = true

-- one more option stands
abbrev pub renewed : Renewal → GetExOptionsRead → GetExOptionsRead
renewed renewal c = record { renewal = renewal; twice = c.twice || is_renewed c.renewal }

abbrev pub getex_options : List (NamedOption GetExOptionsRead)
getex_options = record { name = codes "persist"; kinds = []; sets = λ own c. renewed renewals.Persist c }
    ∷ time_options (λ time. renewed (renewals.Until time))

-- none of the options of GETEX
abbrev pub no_getex_options : GetExOptionsRead
no_getex_options = record { renewal = renewals.Unchanged; twice = false }

abbrev pub getex_of : List ℕ → GetExOptionsRead → Read
getex_of key c = if c.twice then Err Syntax else Ok (strings.GetEx key c.renewal)

-- a piece that would end past the greatest length is refused by the words
abbrev pub set_range_of : List ℕ → ℕ → List ℕ → Read
set_range_of key at piece =
    if (length piece == 0) then Ok (strings.SetRange key at piece)
    else (if nat_le (at + length piece) longest then Ok (strings.SetRange key at piece) else Err ValueOutOfRange)

-- -2^63 has no opposite number
abbrev pub decrease_of : List ℕ → ℤ → Read
decrease_of key n = if is_i64 (neg_ℤ n) then Ok (strings.DecrBy key n) else Err Overflow

abbrev pub string_rows : List (Row StringCommand)
string_rows =
    record { name = codes "get"; read = fixed (Plain ∷ []) (λ a. Ok (strings.Get a.0)) }
    ∷ record {
      name = codes "set";
      read = with_options (Plain ∷ Plain ∷ []) set_options no_set_options (λ a c. set_of a.0 a.1.0 c);
    }
    ∷ record { name = codes "setnx"; read = fixed (Plain ∷ Plain ∷ []) (λ a. Ok (strings.SetNx a.0 a.1.0)) }
    ∷ record {
      name = codes "setex";
      read = fixed (Plain ∷ Span ∷ Plain ∷ []) (λ a. Ok (strings.SetEx a.0 a.1.0 a.1.1.0));
    }
    ∷ record {
      name = codes "psetex";
      read = fixed (Plain ∷ Span ∷ Plain ∷ []) (λ a. Ok (strings.PSetEx a.0 a.1.0 a.1.1.0));
    }
    ∷ record { name = codes "getset"; read = fixed (Plain ∷ Plain ∷ []) (λ a. Ok (strings.GetSet a.0 a.1.0)) }
    ∷ record { name = codes "getdel"; read = fixed (Plain ∷ []) (λ a. Ok (strings.GetDel a.0)) }
    ∷ record {
      name = codes "getex";
      read = with_options (Plain ∷ []) getex_options no_getex_options (λ a c. getex_of a.0 c);
    }
    ∷ record { name = codes "mget"; read = repeated [] 1 (λ a keys. Ok (strings.MGet keys)) }
    ∷ record { name = codes "mset"; read = repeated [] 2 (λ a words. Ok (strings.MSet (pairs_of words))) }
    ∷ record { name = codes "msetnx"; read = repeated [] 2 (λ a words. Ok (strings.MSetNx (pairs_of words))) }
    ∷ record { name = codes "append"; read = fixed (Plain ∷ Plain ∷ []) (λ a. Ok (strings.Append a.0 a.1.0)) }
    ∷ record { name = codes "strlen"; read = fixed (Plain ∷ []) (λ a. Ok (strings.StrLen a.0)) }
    ∷ record {
      name = codes "getrange";
      read = fixed (Plain ∷ Whole ∷ Whole ∷ []) (λ a. Ok (strings.GetRange a.0 a.1.0 a.1.1.0));
    }
    ∷ record {
      name = codes "setrange";
      read = fixed (Plain ∷ Offset ∷ Plain ∷ []) (λ a. set_range_of a.0 a.1.0 a.1.1.0);
    }
    ∷ record { name = codes "incr"; read = fixed (Plain ∷ []) (λ a. Ok (strings.Incr a.0)) }
    ∷ record { name = codes "decr"; read = fixed (Plain ∷ []) (λ a. Ok (strings.Decr a.0)) }
    ∷ record { name = codes "incrby"; read = fixed (Plain ∷ Whole ∷ []) (λ a. Ok (strings.IncrBy a.0 a.1.0)) }
    ∷ record { name = codes "decrby"; read = fixed (Plain ∷ Whole ∷ []) (λ a. decrease_of a.0 a.1.0) }
    ∷ []
