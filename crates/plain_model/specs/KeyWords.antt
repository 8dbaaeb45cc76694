-- What the words of commands on keys mean (Redis command reference, "Generic").
use Rattle.std.specs.Prelude.{ℕ, List, [], ◌∷◌, ◌++◌, ℤ, None, Some, Bool, true, false, ◌&&◌, ◌||◌, Result, Ok, Err, codes, if◌then◌else◌}
use Rattle.plain_world.specs.Words.{Words}
use Rattle.plain_model.specs.Shapes.{Plain, Whole, Database, Count, Cursor, Row, fixed, by_second, repeated, NamedOption, with_options}
use Rattle.plain_model.specs.declared.keys.KeyCommand.{KeyCommand}
use Rattle.plain_model.specs.declared.keys.KeyCommand.TheVariants as keys
use Rattle.plain_model.specs.declared.keys.ExpireOptions.{ExpireOptions}
use Rattle.plain_model.specs.declared.keys.CopyOptions.{CopyOptions}
use Rattle.plain_model.specs.declared.keys.ScanOptions.{ScanOptions}
use Rattle.plain_world.specs.declared.refusal.Refusal.{Refusal}
use Rattle.plain_world.specs.declared.refusal.Refusal.TheVariants.{Syntax}

abbrev pub Read : Type 0
Read = Result KeyCommand Refusal

abbrev pub expire_options : List (NamedOption ExpireOptions)
expire_options =
    record { name = codes "nx"; kinds = []; sets = λ own o. record { nx = true; xx = o.xx; gt = o.gt; lt = o.lt } }
    ∷ record { name = codes "xx"; kinds = []; sets = λ own o. record { nx = o.nx; xx = true; gt = o.gt; lt = o.lt } }
    ∷ record { name = codes "gt"; kinds = []; sets = λ own o. record { nx = o.nx; xx = o.xx; gt = true; lt = o.lt } }
    ∷ record { name = codes "lt"; kinds = []; sets = λ own o. record { nx = o.nx; xx = o.xx; gt = o.gt; lt = true } }
    ∷ []

-- none of the options of EXPIRE
abbrev pub no_expire_options : ExpireOptions
no_expire_options = record { nx = false; xx = false; gt = false; lt = false }

-- NX stands with another one, or GT with LT
abbrev pub clash : ExpireOptions → Bool
clash o = o.nx && (o.xx || o.gt || o.lt) || o.gt && o.lt

-- a key, a number and options
abbrev pub expire_of : (List ℕ → ℤ → ExpireOptions → KeyCommand) → List ℕ → ℤ → ExpireOptions → Read
expire_of make key n options = if clash options then Err Syntax else Ok (make key n options)

abbrev pub expire_words : (List ℕ → ℤ → ExpireOptions → KeyCommand) → Words → Read
expire_words make =
    with_options (Plain ∷ Whole ∷ []) expire_options no_expire_options (λ a options. expire_of make a.0 a.1.0 options)

abbrev pub copy_options : List (NamedOption CopyOptions)
copy_options =
    record { name = codes "db"; kinds = Database ∷ []; sets = λ own o. record { db = Some own.0; replace = o.replace } }
    ∷ record { name = codes "replace"; kinds = []; sets = λ own o. record { db = o.db; replace = true } }
    ∷ []

-- none of the options of COPY
abbrev pub no_copy_options : CopyOptions
no_copy_options = record { db = None; replace = false }

-- the options of SCAN that HSCAN, SSCAN and ZSCAN have too
abbrev pub page_options : List (NamedOption ScanOptions)
page_options =
    record {
      name = codes "match";
      kinds = Plain
          ∷ [];
      sets = λ own o. record { pattern = Some own.0; count = o.count; type_name = o.type_name };
    }
    ∷ record {
      name = codes "count";
      kinds = Count
          ∷ [];
      sets = λ own o. record { pattern = o.pattern; count = own.0; type_name = o.type_name };
    }
    ∷ []

abbrev pub type_option : NamedOption ScanOptions
type_option =
    record {
      name = codes "type";
      kinds = Plain
          ∷ [];
      sets = λ own o. record { pattern = o.pattern; count = o.count; type_name = Some own.0 };
    }

abbrev pub scan_options : List (NamedOption ScanOptions)
scan_options = page_options ++ type_option ∷ []

-- none of the options of SCAN: ten keys are to be met
abbrev pub no_scan_options : ScanOptions
no_scan_options = record { pattern = None; count = 10; type_name = None }

-- a key, a cursor and options
abbrev pub page_words : {A : Type 0} → (List ℕ → ℕ → ScanOptions → A) → Words → Result A Refusal
page_words make =
    with_options (Plain ∷ Cursor ∷ []) page_options no_scan_options (λ a options. Ok (make a.0 a.1.0 options))

-- the second words of OBJECT
abbrev pub object_rows : List (Row KeyCommand)
object_rows = record { name = codes "encoding"; read = fixed (Plain ∷ []) (λ a. Ok (keys.ObjectEncoding a.0)) } ∷ []

abbrev pub key_rows : List (Row KeyCommand)
key_rows =
    record { name = codes "del"; read = repeated [] 1 (λ a words. Ok (keys.Del words)) }
    ∷ record { name = codes "unlink"; read = repeated [] 1 (λ a words. Ok (keys.Unlink words)) }
    ∷ record { name = codes "exists"; read = repeated [] 1 (λ a words. Ok (keys.Exists words)) }
    ∷ record { name = codes "touch"; read = repeated [] 1 (λ a words. Ok (keys.Touch words)) }
    ∷ record { name = codes "type"; read = fixed (Plain ∷ []) (λ a. Ok (keys.TypeOf a.0)) }
    ∷ record { name = codes "expire"; read = expire_words keys.Expire }
    ∷ record { name = codes "pexpire"; read = expire_words keys.PExpire }
    ∷ record { name = codes "expireat"; read = expire_words keys.ExpireAt }
    ∷ record { name = codes "pexpireat"; read = expire_words keys.PExpireAt }
    ∷ record { name = codes "ttl"; read = fixed (Plain ∷ []) (λ a. Ok (keys.Ttl a.0)) }
    ∷ record { name = codes "pttl"; read = fixed (Plain ∷ []) (λ a. Ok (keys.PTtl a.0)) }
    ∷ record { name = codes "expiretime"; read = fixed (Plain ∷ []) (λ a. Ok (keys.ExpireTime a.0)) }
    ∷ record { name = codes "pexpiretime"; read = fixed (Plain ∷ []) (λ a. Ok (keys.PExpireTime a.0)) }
    ∷ record { name = codes "persist"; read = fixed (Plain ∷ []) (λ a. Ok (keys.Persist a.0)) }
    ∷ record { name = codes "rename"; read = fixed (Plain ∷ Plain ∷ []) (λ a. Ok (keys.Rename a.0 a.1.0)) }
    ∷ record { name = codes "renamenx"; read = fixed (Plain ∷ Plain ∷ []) (λ a. Ok (keys.RenameNx a.0 a.1.0)) }
    ∷ record {
      name = codes "copy";
      read = with_options (Plain ∷ Plain ∷ []) copy_options no_copy_options
          (λ a options. Ok (keys.Copy a.0 a.1.0 options));
    }
    ∷ record { name = codes "move"; read = fixed (Plain ∷ Database ∷ []) (λ a. Ok (keys.MoveKey a.0 a.1.0)) }
    ∷ record { name = codes "randomkey"; read = fixed [] (λ a. Ok keys.RandomKey) }
    ∷ record { name = codes "object"; read = by_second 2 object_rows }
    ∷ record { name = codes "keys"; read = fixed (Plain ∷ []) (λ a. Ok (keys.KeysLike a.0)) }
    ∷ record {
      name = codes "scan";
      read = with_options (Cursor ∷ []) scan_options no_scan_options (λ a options. Ok (keys.Scan a.0 options));
    }
    ∷ []
