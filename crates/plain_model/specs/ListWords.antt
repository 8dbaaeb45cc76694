-- What the words of commands on lists mean (Redis command reference, "Commands operating on lists").
use Rattle.std.specs.Prelude.{ℕ, List, [], ◌∷◌, pos, None, Some, Result, Ok, codes}
use Rattle.plain_world.specs.Words.{Words}
use Rattle.plain_model.specs.Shapes.{Plain, Whole, Amount, Rank, OnSide, AtEnd, Row, fixed, with_amount, repeated, NamedOption, with_options}
use Rattle.plain_model.specs.declared.list_command.PositionOptions.{PositionOptions}
use Rattle.plain_model.specs.declared.list_command.ListCommand.{ListCommand}
use Rattle.plain_model.specs.declared.list_command.ListCommand.TheVariants as lists
use Rattle.plain_world.specs.declared.refusal.Refusal.{Refusal}

abbrev pub Read : Type 0
Read = Result ListCommand Refusal

abbrev pub position_options : List (NamedOption PositionOptions)
position_options =
    record {
      name = codes "rank";
      kinds = Rank
          ∷ [];
      sets = λ own o. record { rank = own.0; count = o.count; most = o.most };
    }
    ∷ record {
      name = codes "count";
      kinds = Amount
          ∷ [];
      sets = λ own o. record { rank = o.rank; count = Some own.0; most = o.most };
    }
    ∷ record {
      name = codes "maxlen";
      kinds = Amount
          ∷ [];
      sets = λ own o. record { rank = o.rank; count = o.count; most = own.0 };
    }
    ∷ []

-- none of the options of LPOS: the first match among all elements
abbrev pub no_position_options : PositionOptions
no_position_options = record { rank = pos 1; count = None; most = 0 }

-- a key and one element or more
abbrev pub push_words : (List ℕ → Words → ListCommand) → Words → Read
push_words make = repeated (Plain ∷ []) 1 (λ a elements. Ok (make a.0 elements))

abbrev pub list_rows : List (Row ListCommand)
list_rows =
    record { name = codes "lpush"; read = push_words lists.LPush }
    ∷ record { name = codes "rpush"; read = push_words lists.RPush }
    ∷ record { name = codes "lpushx"; read = push_words lists.LPushX }
    ∷ record { name = codes "rpushx"; read = push_words lists.RPushX }
    ∷ record { name = codes "lpop"; read = with_amount lists.LPop }
    ∷ record { name = codes "rpop"; read = with_amount lists.RPop }
    ∷ record { name = codes "llen"; read = fixed (Plain ∷ []) (λ a. Ok (lists.LLen a.0)) }
    ∷ record { name = codes "lindex"; read = fixed (Plain ∷ Whole ∷ []) (λ a. Ok (lists.LIndex a.0 a.1.0)) }
    ∷ record {
      name = codes "lset";
      read = fixed (Plain ∷ Whole ∷ Plain ∷ []) (λ a. Ok (lists.LSet a.0 a.1.0 a.1.1.0));
    }
    ∷ record {
      name = codes "lrange";
      read = fixed (Plain ∷ Whole ∷ Whole ∷ []) (λ a. Ok (lists.LRange a.0 a.1.0 a.1.1.0));
    }
    ∷ record {
      name = codes "ltrim";
      read = fixed (Plain ∷ Whole ∷ Whole ∷ []) (λ a. Ok (lists.LTrim a.0 a.1.0 a.1.1.0));
    }
    ∷ record {
      name = codes "linsert";
      read = fixed (Plain ∷ OnSide ∷ Plain ∷ Plain ∷ []) (λ a. Ok (lists.LInsert a.0 a.1.0 a.1.1.0 a.1.1.1.0));
    }
    ∷ record {
      name = codes "lrem";
      read = fixed (Plain ∷ Whole ∷ Plain ∷ []) (λ a. Ok (lists.LRem a.0 a.1.0 a.1.1.0));
    }
    ∷ record {
      name = codes "lpos";
      read = with_options (Plain ∷ Plain ∷ []) position_options no_position_options
          (λ a options. Ok (lists.LPos a.0 a.1.0 options));
    }
    ∷ record {
      name = codes "lmove";
      read = fixed (Plain ∷ Plain ∷ AtEnd ∷ AtEnd ∷ []) (λ a. Ok (lists.LMove a.0 a.1.0 a.1.1.0 a.1.1.1.0));
    }
    ∷ record { name = codes "rpoplpush"; read = fixed (Plain ∷ Plain ∷ []) (λ a. Ok (lists.RPopLPush a.0 a.1.0)) }
    ∷ []
