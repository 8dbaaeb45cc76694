-- What is read of the words of SINTERCARD, ZUNIONSTORE and ZINTERSTORE.
use Rattle.std.specs.Prelude.{◌≡◌, ℕ, ◌+◌, ◌<◌, List, length, take, drop, ℤ, pos, Option, Some, None, Result, Ok, Err, nat_le, if◌then◌else◌}
use Rattle.plain_world.specs.Words.{Words, in_lower_case}
use Rattle.plain_world.specs.declared.refusal.Refusal.{Refusal}
use Rattle.plain_world.specs.declared.refusal.Refusal.TheVariants.{Syntax}
use Rattle.plain_model.specs.Shapes.{Keys, Score, told, all_told, and_then, counted, option_of, read_option, options_read}
use Rattle.plain_model.specs.ZsetWords.{score_kinds, scores_told, ones, weighed, join_options, no_join_options}
use Rattle.plain_model.specs.declared.zset_command.Aggregate.{Aggregate}
use Rattle.command_words.specs.declared.joins.JoinOptions.{JoinOptions}
use Rattle.command_words.specs.declared.fault.ReadingFault.{ReadingFault}
use Rattle.command_words.specs.declared.fault.ReadingFault.TheVariants.{Refused, Memory}
use Rattle.command_words.specs.Readings.{word_at}

-- how many keys stand behind the number at this place, where so many words do
abbrev pub key_count : Words → ℕ → Result ℕ Refusal
key_count words i = and_then (told Keys (word_at words i)) (λ n. counted (λ keys behind. Ok n) n (drop (i + 1) words))

-- the first words as so many scores
abbrev pub scores_at : ℕ → Words → Result (List ℤ) Refusal
scores_at n words = and_then (all_told (score_kinds n) words) (λ own. Ok (scores_told n own))

-- the same, where so many words are there
abbrev pub own_weights : ℕ → Words → Result (List ℤ) Refusal
own_weights n words = if nat_le n (length words) then scores_at n words else Err Syntax

-- so many weights: scores from a place on, or each 1
abbrev pub weights_at : Words → ℕ → Option ℕ → Result (List ℤ) Refusal
weights_at words n None = Ok (ones n)
weights_at words n (Some place) = scores_at n (drop place words)

abbrev pub AreWeights : Words → ℕ → Option ℕ → Type 0
AreWeights words n weights = (own : List ℤ) × (weights_at words n weights ≡ Ok own)

-- one of the weights, by its place among them
abbrev pub weight_of : Words → Option ℕ → ℕ → Result ℤ Refusal
weight_of words None i = Ok (pos 1)
weight_of words (Some place) i = told Score (word_at words (place + i))

abbrev pub Within : Words → Option ℕ → ℕ → Type 0
Within words None i = Unit {0}
Within words (Some place) i = place + i < length words

-- the keys behind the third word, with these weights
abbrev pub weighed_keys : Words → ℕ → Option ℕ → Result (List (ℤ × List ℕ)) Refusal
weighed_keys words n weights =
    and_then (weights_at words n weights) (λ own. Ok (weighed own (take n (drop 3 words))))

-- weights and an aggregate, as the options of a join of so many keys say
abbrev pub Said : Type 0
Said = List ℤ × Aggregate

abbrev pub all_join_options : ℕ → Words → Result Said Refusal
all_join_options n words = options_read (join_options n) (no_join_options n) 0 words

-- the option at this place, behind what these options say
abbrev pub join_option : Words → ℕ → JoinOptions → ℕ → Result (Said × ℕ) Refusal
join_option words n options i =
    and_then (weights_at words n options.weights)
    (λ own. read_option (own, options.aggregate) (option_of (join_options n) (in_lower_case (word_at words i)))
    (drop (i + 1) words))

-- The answer is what the options say by these words, or their refusal. No memory is asked for.
abbrev pub JoinSays : Words → ℕ → Result Said Refusal → Result JoinOptions ReadingFault → Type 0
JoinSays words n means (Ok options) =
    (own : List ℤ) × (weights_at words n options.weights ≡ Ok own) × (means ≡ Ok (own, options.aggregate))
JoinSays words n means (Err (Refused refusal)) = means ≡ Err refusal
JoinSays words n means (Err Memory) = ⊥

-- the same of one option, with how many words are its own
abbrev pub OptionSays : Words → ℕ → Result (Said × ℕ) Refusal → Result (JoinOptions × ℕ) ReadingFault → Type 0
OptionSays words n means (Ok read) =
    (own : List ℤ) × (weights_at words n read.0.weights ≡ Ok own) × (means ≡ Ok ((own, read.0.aggregate), read.1))
OptionSays words n means (Err (Refused refusal)) = means ≡ Err refusal
OptionSays words n means (Err Memory) = ⊥
