-- The words of SINTERCARD, ZUNIONSTORE and ZINTERSTORE: how many keys there are, the keys, and options.
use Rattle.std.proofs.Common.{◌≡◌, ℕ, ◌+◌, ◌<◌, ◌≤◌, List, [], ◌∷◌, length, take, drop, Bool, true, false, Result, Ok, Err, refl, sym, ap, subst, ◌∙◌, arith, length-drop}
use Rattle.std.specs.Prelude.{ℤ, nat_le, if◌then◌else◌}
use Rattle.std.proofs.lemmas.Bool.{le-leb}
use Rattle.std.proofs.lemmas.List.{drop-drop}
use Rattle.plain_world.specs.Words.{Words}
use Rattle.plain_model.specs.Shapes.{Keys, told, and_then, counted, options_read}
use Rattle.plain_model.specs.SetWords.{limit_options, inter_card_of, inter_card_words}
use Rattle.plain_model.specs.ZsetWords.{weighed, join_of, join_words}
use Rattle.plain_model.specs.declared.command.Command.TheVariants.{Sets, Zsets}
use Rattle.plain_model.specs.declared.set_command.SetCommand.{SetCommand}
use Rattle.plain_model.specs.declared.set_command.SetCommand.TheVariants as sets
use Rattle.plain_model.specs.declared.zset_command.ScoreJoin.{ScoreJoin}
use Rattle.plain_model.specs.declared.zset_command.Aggregate.{Aggregate}
use Rattle.plain_model.specs.declared.zset_command.ZsetCommand.{ZsetCommand}
use Rattle.plain_model.specs.declared.zset_command.ZsetCommand.TheVariants as zsets
use Rattle.plain_world.specs.declared.refusal.Refusal.{Refusal}
use Rattle.plain_world.specs.declared.refusal.Refusal.TheVariants.{WrongNumberOfArguments, Syntax}
use Rattle.command_words.specs.declared.fault.ReadingFault.{ReadingFault}
use Rattle.command_words.specs.declared.fault.ReadingFault.TheVariants.{Refused, Memory}
use Rattle.command_words.specs.declared.joins.JoinOptions.{JoinOptions}
use Rattle.command_words.specs.Readings.{word_at, Gathers, ReadsSet, ReadsZset, Tells}
use Rattle.command_words.specs.Joins.{JoinSays, all_join_options, key_count, weighed_keys}
use Rattle.command_words.proofs.Lifted.{lifted}
use Rattle.command_words.proofs.Shapes.{from_place}

-- what is refused first refuses the whole
refused : {A B : Type 0} (means : Result A Refusal) (rest : A → Result B Refusal) (fault : ReadingFault) → Tells means (Err fault) → Tells (and_then means rest) (Err fault)
refused means rest (Refused refusal) h = ap (λ r. and_then r rest) h
refused means rest Memory h = absurd h

-- ---- how many keys there are

module _ {A : Type 0} (make : ℕ → Words → Words → Result A Refusal) (own : Words) where
  abbrev parted : ℕ → Result A Refusal
  parted n = make n (take n own) (drop n own)

  by_test : (b : Bool) (n : ℕ) → (if b then parted n else Err Syntax) ≡ and_then (if b then Ok n else Err Syntax) parted
  by_test true n = refl
  by_test false n = refl

  -- keys that are counted are parted from what stands behind them
  count_then : (r : Result ℕ Refusal) → and_then r (λ n. counted (make n) n own) ≡ and_then (and_then r (λ n. counted (λ keys behind. Ok n) n own)) parted
  count_then (Ok n) = by_test (nat_le n (length own)) n
  count_then (Err refusal) = refl

-- ---- SINTERCARD

card_few : (own : Words) → length own < 2 → inter_card_words own ≡ Err WrongNumberOfArguments
card_few [] few = refl
card_few (n ∷ []) few = refl
card_few (n ∷ word ∷ words) few = absurd (omega (arith, few))

pub card_short : (words : Words) → length words < 3 → ReadsSet (inter_card_words (drop 1 words)) (Err (Refused WrongNumberOfArguments))
card_short words few = lifted Sets (inter_card_words (drop 1 words)) (Err (Refused WrongNumberOfArguments)) (card_few (drop 1 words) (omega (arith, few, length-drop 1 words)))

module _ (words : Words) (many : 3 ≤ length words) where
  abbrev card : Result SetCommand Refusal
  card = inter_card_words (drop 1 words)

  abbrev card_rest : ℕ → Result SetCommand Refusal
  card_rest n = inter_card_of (take n (drop 2 words)) (drop n (drop 2 words))

  card_then : card ≡ and_then (key_count words 1) card_rest
  card_then =
      let rest = drop 2 words in
      let here : drop 1 words ≡ word_at words 1 ∷ rest = from_place words 1 (omega (arith, many)) in
      let test : nat_le 1 (length rest) ≡ true = le-leb 1 (length rest) (omega (arith, many, length-drop 2 words)) in
      ap inter_card_words here
      ∙ ap (λ b. if b then and_then (told Keys (word_at words 1)) (λ n. counted inter_card_of n rest) else Err WrongNumberOfArguments) test
      ∙ count_then (λ n. inter_card_of) rest (told Keys (word_at words 1))

  pub card_count_refused : (fault : ReadingFault) → Tells (key_count words 1) (Err fault) → ReadsSet card (Err fault)
  card_count_refused fault h = lifted Sets card (Err fault) (subst (λ r. Tells r (Err fault)) (sym card_then) (refused (key_count words 1) card_rest fault h))

  module _ (n : ℕ) (e : key_count words 1 ≡ Ok n) where
    abbrev limits : Result ℕ Refusal
    limits = options_read limit_options 0 0 (drop (2 + n) words)

    abbrev card_of : ℕ → Result SetCommand Refusal
    card_of limit = Ok (sets.SInterCard (take n (drop 2 words)) limit)

    card_counted : card ≡ and_then limits card_of
    card_counted = card_then ∙ ap (λ r. and_then r card_rest) e ∙ ap (λ own. and_then (options_read limit_options 0 0 own) card_of) (drop-drop n 2 words)

    pub card_limit_refused : (fault : ReadingFault) → Tells limits (Err fault) → ReadsSet card (Err fault)
    card_limit_refused fault h = lifted Sets card (Err fault) (subst (λ r. Tells r (Err fault)) (sym card_counted) (refused limits card_of fault h))

    card_made : (limit : ℕ) → limits ≡ Ok limit → card ≡ card_of limit
    card_made limit h = card_counted ∙ ap (λ r. and_then r card_of) h

    pub card_keys_told : (limit : ℕ) → limits ≡ Ok limit → (keys : Words) → Gathers (Ok (take n (drop 2 words))) (Ok keys) → card ≡ Ok (sets.SInterCard keys limit)
    card_keys_told limit h keys g =
        let same : take n (drop 2 words) ≡ keys = cc in
        card_made limit h ∙ ap (λ own. Ok (sets.SInterCard own limit)) same

    pub card_keys_missing : (limit : ℕ) (fault : ReadingFault) → limits ≡ Ok limit → Gathers (Ok (take n (drop 2 words))) (Err fault) → ReadsSet card (Err fault)
    card_keys_missing limit (Refused refusal) h g = absurd (cc g)
    card_keys_missing limit Memory h g = subst (λ r. ReadsSet r (Err Memory)) (sym (card_made limit h)) refl

-- ---- ZUNIONSTORE and ZINTERSTORE

join_few : (join : ScoreJoin) (own : Words) → length own < 3 → join_words join own ≡ Err WrongNumberOfArguments
join_few join [] few = refl
join_few join (to ∷ []) few = refl
join_few join (to ∷ n ∷ []) few = refl
join_few join (to ∷ n ∷ word ∷ words) few = absurd (omega (arith, few))

pub join_short : (join : ScoreJoin) (words : Words) → length words < 4 → ReadsZset (join_words join (drop 1 words)) (Err (Refused WrongNumberOfArguments))
join_short join words few = lifted Zsets (join_words join (drop 1 words)) (Err (Refused WrongNumberOfArguments)) (join_few join (drop 1 words) (omega (arith, few, length-drop 1 words)))

module _ (join : ScoreJoin) (words : Words) (many : 4 ≤ length words) where
  abbrev joined : Result ZsetCommand Refusal
  joined = join_words join (drop 1 words)

  abbrev join_rest : ℕ → Result ZsetCommand Refusal
  join_rest n = join_of join (word_at words 1) n (take n (drop 3 words)) (drop n (drop 3 words))

  join_then : joined ≡ and_then (key_count words 2) join_rest
  join_then =
      let rest = drop 3 words in
      let next : drop 2 words ≡ word_at words 2 ∷ rest = from_place words 2 (omega (arith, many)) in
      let here : drop 1 words ≡ word_at words 1 ∷ word_at words 2 ∷ rest = from_place words 1 (omega (arith, many)) ∙ ap (λ l. word_at words 1 ∷ l) next in
      let test : nat_le 1 (length rest) ≡ true = le-leb 1 (length rest) (omega (arith, many, length-drop 3 words)) in
      ap (join_words join) here
      ∙ ap (λ b. if b then and_then (told Keys (word_at words 2)) (λ n. counted (join_of join (word_at words 1) n) n rest) else Err WrongNumberOfArguments) test
      ∙ count_then (join_of join (word_at words 1)) rest (told Keys (word_at words 2))

  pub join_count_refused : (fault : ReadingFault) → Tells (key_count words 2) (Err fault) → ReadsZset joined (Err fault)
  join_count_refused fault h = lifted Zsets joined (Err fault) (subst (λ r. Tells r (Err fault)) (sym join_then) (refused (key_count words 2) join_rest fault h))

  module _ (n : ℕ) (e : key_count words 2 ≡ Ok n) where
    abbrev said : Result (List ℤ × Aggregate) Refusal
    said = all_join_options n (drop (3 + n) words)

    abbrev join_made_of : List ℤ × Aggregate → Result ZsetCommand Refusal
    join_made_of read = Ok (zsets.ZJoinStore join (word_at words 1) (weighed read.0 (take n (drop 3 words))) read.1)

    join_counted : joined ≡ and_then said join_made_of
    join_counted = join_then ∙ ap (λ r. and_then r join_rest) e ∙ ap (λ own. and_then (all_join_options n own) join_made_of) (drop-drop n 3 words)

    as_told : (fault : ReadingFault) → JoinSays words n said (Err fault) → Tells said (Err fault)
    as_told (Refused refusal) h = h
    as_told Memory h = absurd h

    pub join_options_refused : (fault : ReadingFault) → JoinSays words n said (Err fault) → ReadsZset joined (Err fault)
    join_options_refused fault h = lifted Zsets joined (Err fault) (subst (λ r. Tells r (Err fault)) (sym join_counted) (refused said join_made_of fault (as_told fault h)))

    module _ (options : JoinOptions) (says : JoinSays words n said (Ok options)) where
      join_is : joined ≡ join_made_of (says.0, options.aggregate)
      join_is = join_counted ∙ ap (λ r. and_then r join_made_of) says.2

      keys_are : weighed_keys words n options.weights ≡ Ok (weighed says.0 (take n (drop 3 words)))
      keys_are = ap (λ r. and_then r (λ own. Ok (weighed own (take n (drop 3 words))))) says.1

      pub join_keys_missing : (fault : ReadingFault) → Gathers (weighed_keys words n options.weights) (Err fault) → ReadsZset joined (Err fault)
      join_keys_missing (Refused refusal) g = absurd (cc (sym keys_are ∙ g))
      join_keys_missing Memory g = subst (λ r. ReadsZset r (Err Memory)) (sym join_is) refl

      pub join_made : (keys : List (ℤ × List ℕ)) → Gathers (weighed_keys words n options.weights) (Ok keys) → joined ≡ Ok (zsets.ZJoinStore join (word_at words 1) keys options.aggregate)
      join_made keys g =
          let both : ◌≡◌ {A = Result (List (ℤ × List ℕ)) Refusal} (Ok (weighed says.0 (take n (drop 3 words)))) (Ok keys) = sym keys_are ∙ g in
          let same : weighed says.0 (take n (drop 3 words)) ≡ keys = cc in
          join_is ∙ ap (λ l. Ok (zsets.ZJoinStore join (word_at words 1) l options.aggregate)) same
