-- What the words of commands on hashes mean (Redis command reference, "Commands operating on hashes").
use Rattle.std.specs.Prelude.{List, [], ◌∷◌, Ok, codes}
use Rattle.plain_model.specs.Shapes.{Plain, Whole, Row, fixed, repeated, with_picked}
use Rattle.plain_model.specs.KeyWords.{page_words}
use Rattle.plain_model.specs.StringWords.{pairs_of}
use Rattle.plain_model.specs.declared.hash_command.HashCommand.{HashCommand}
use Rattle.plain_model.specs.declared.hash_command.HashCommand.TheVariants as hashes

abbrev pub hash_rows : List (Row HashCommand)
hash_rows =
    record { name = codes "hset"; read = repeated (Plain ∷ []) 2 (λ a own. Ok (hashes.HSet a.0 (pairs_of own))) }
    ∷ record { name = codes "hmset"; read = repeated (Plain ∷ []) 2 (λ a own. Ok (hashes.HMSet a.0 (pairs_of own))) }
    ∷ record {
      name = codes "hsetnx";
      read = fixed (Plain ∷ Plain ∷ Plain ∷ []) (λ a. Ok (hashes.HSetNx a.0 a.1.0 a.1.1.0));
    }
    ∷ record { name = codes "hget"; read = fixed (Plain ∷ Plain ∷ []) (λ a. Ok (hashes.HGet a.0 a.1.0)) }
    ∷ record { name = codes "hmget"; read = repeated (Plain ∷ []) 1 (λ a own. Ok (hashes.HMGet a.0 own)) }
    ∷ record { name = codes "hdel"; read = repeated (Plain ∷ []) 1 (λ a own. Ok (hashes.HDel a.0 own)) }
    ∷ record { name = codes "hexists"; read = fixed (Plain ∷ Plain ∷ []) (λ a. Ok (hashes.HExists a.0 a.1.0)) }
    ∷ record { name = codes "hlen"; read = fixed (Plain ∷ []) (λ a. Ok (hashes.HLen a.0)) }
    ∷ record { name = codes "hstrlen"; read = fixed (Plain ∷ Plain ∷ []) (λ a. Ok (hashes.HStrLen a.0 a.1.0)) }
    ∷ record { name = codes "hkeys"; read = fixed (Plain ∷ []) (λ a. Ok (hashes.HKeys a.0)) }
    ∷ record { name = codes "hvals"; read = fixed (Plain ∷ []) (λ a. Ok (hashes.HVals a.0)) }
    ∷ record { name = codes "hgetall"; read = fixed (Plain ∷ []) (λ a. Ok (hashes.HGetAll a.0)) }
    ∷ record {
      name = codes "hincrby";
      read = fixed (Plain ∷ Plain ∷ Whole ∷ []) (λ a. Ok (hashes.HIncrBy a.0 a.1.0 a.1.1.0));
    }
    ∷ record { name = codes "hrandfield"; read = with_picked (codes "withvalues") hashes.HRandField }
    ∷ record { name = codes "hscan"; read = page_words hashes.HScan }
    ∷ []
