-- The commands that the words of a generator of numbers say.
use Rattle.std.specs.Prelude.{ℕ, ◌+◌, ◌*◌, ◌/◌, ◌%◌, List, [], ◌∷◌, ◌++◌, zero, suc, codes, slice_index_or}
use Rattle.std.specs.Fmt.{decimal}
use Rattle.plain_world.specs.Words.{Words}
use Rattle.rand_core.specs.Pcg32Seed.{pcg32_seed}
use Rattle.rand_pcg.specs.Lcg.{Lcg, advance}
use Rattle.rand_pcg.specs.Pcg.{multiplier_64, pcg32, pcg32_of_seed}
use Rattle.generator.specs.declared.commands.Kind.{Kind}
use Rattle.generator.specs.declared.commands.Kind.TheVariants as kinds

-- the kinds by the rest of a word divided by 16
abbrev pub kinds_by_rest : List Kind
kinds_by_rest =
    kinds.Set ∷ kinds.Set ∷ kinds.Set ∷ kinds.Get ∷ kinds.Get ∷ kinds.IncrBy ∷ kinds.RPush ∷ kinds.LRange
    ∷ kinds.SAdd ∷ kinds.SIsMember ∷ kinds.HSet ∷ kinds.HGet ∷ kinds.ZAdd ∷ kinds.ZRange ∷ kinds.XAdd ∷ kinds.Del
    ∷ []

abbrev pub kind_of : ℕ → Kind
kind_of word = slice_index_or kinds_by_rest (word % 16) kinds.Set

-- a letter, a colon, and a number
abbrev pub key_of : ℕ → ℕ → List ℕ
key_of letter number = (letter ∷ 58 ∷ []) ++ decimal number

-- the words of a command on the key of a number, with a second word
abbrev pub words_of : Kind → ℕ → ℕ → Words
words_of kinds.Set k x = codes "SET" ∷ (codes "s:" ++ decimal k) ∷ decimal x ∷ []
words_of kinds.Get k x = codes "GET" ∷ (codes "s:" ++ decimal k) ∷ []
words_of kinds.IncrBy k x = codes "INCRBY" ∷ (codes "n:" ++ decimal k) ∷ decimal (x % 1000) ∷ []
words_of kinds.RPush k x = codes "RPUSH" ∷ (codes "l:" ++ decimal k) ∷ decimal x ∷ []
words_of kinds.LRange k x = codes "LRANGE" ∷ (codes "l:" ++ decimal k) ∷ decimal 0 ∷ decimal 9 ∷ []
words_of kinds.SAdd k x = codes "SADD" ∷ (codes "t:" ++ decimal k) ∷ decimal (x % 64) ∷ []
words_of kinds.SIsMember k x = codes "SISMEMBER" ∷ (codes "t:" ++ decimal k) ∷ decimal (x % 64) ∷ []
words_of kinds.HSet k x = codes "HSET" ∷ (codes "h:" ++ decimal k) ∷ (codes "f" ++ decimal (x % 32)) ∷ decimal x ∷ []
words_of kinds.HGet k x = codes "HGET" ∷ (codes "h:" ++ decimal k) ∷ (codes "f" ++ decimal (x % 32)) ∷ []
words_of kinds.ZAdd k x =
    codes "ZADD" ∷ (codes "z:" ++ decimal k) ∷ decimal (x % 1000) ∷ (codes "m" ++ decimal (x % 64)) ∷ []
words_of kinds.ZRange k x = codes "ZRANGE" ∷ (codes "z:" ++ decimal k) ∷ decimal 0 ∷ decimal 9 ∷ []
words_of kinds.XAdd k x = codes "XADD" ∷ (codes "x:" ++ decimal k) ∷ codes "*" ∷ codes "f" ∷ decimal x ∷ []
words_of kinds.Del k x = codes "DEL" ∷ key_of (slice_index_or (codes "snlthz") (x % 6) 0) k ∷ []

-- the generator of a seed after so many words
abbrev pub drawn : ℕ → ℕ → Lcg
drawn seed number = advance 64 multiplier_64 number (pcg32_of_seed (pcg32_seed 16 seed))

-- the word of this number, from 0 on, that a seed gives
abbrev pub word : ℕ → ℕ → ℕ
word seed number = (pcg32 (drawn seed number)).0

-- the command that two words say: the first its kind, and the number of its key
abbrev pub command_of : ℕ → ℕ → Words
command_of w x = words_of (kind_of w) (w / 16 % 1000) x

-- the command that comes after so many others
abbrev pub command_after : ℕ → ℕ → Words
command_after seed before = command_of (word seed (2 * before)) (word seed (2 * before + 1))

-- the commands of a seed, of which so many come, after so many others
abbrev pub commands_after : ℕ → ℕ → ℕ → List Words
commands_after seed before zero = []
commands_after seed before (suc n) = command_after seed before ∷ commands_after seed (suc before) n

-- the first n commands
abbrev pub commands : ℕ → ℕ → List Words
commands seed n = commands_after seed 0 n
