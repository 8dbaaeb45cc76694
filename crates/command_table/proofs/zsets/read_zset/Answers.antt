use Rattle.std.proofs.Common.{[], ◌∷◌, drop, Ok, true, false, refl, rules}
use Rattle.std.specs.Prelude.{codes}
use Rattle.plain_model.specs.Shapes.{Plain, Whole, Score, Bound}
use Rattle.plain_model.specs.KeyWords.{page_words}
use Rattle.plain_model.specs.ZsetWords.{no_rules, no_range_options, with_scores_option, limit_option, range_words, score_range_of}
use Rattle.plain_model.specs.declared.command.Command.TheVariants.{Zsets}
use Rattle.plain_model.specs.declared.zset_command.Direction.TheVariants.{Rising, Falling}
use Rattle.plain_model.specs.declared.zset_command.ZsetCommand.TheVariants as zsets
use Rattle.command_words.specs.Readings.{rank_options}
use Rattle.command_words.proofs.Lifted.{lifted}
use Rattle.command_table.proofs.Arms.{fixed_made, keyed_made, options_made, popped_made}
use Rattle.command_table.proofs.PickWords.{picked_made}
use Rattle.command_table.proofs.zsets.read_zset.Goals as goal

pub returns-in-ZAdd : goal.returns-in-ZAdd
returns-in-ZAdd c = rw c.in-ZAdd.is c.add.ensures

pub returns-in-ZIncrBy : goal.returns-in-ZIncrBy
returns-in-ZIncrBy c = rw c.in-ZIncrBy.is
    (fixed_made Zsets (Plain ∷ Score ∷ Plain ∷ []) (λ a. (a.0, (a.1, (a.2, tt)))) (λ a. Ok (zsets.ZIncr a.0 no_rules a.1.0 a.1.1.0)) (λ a. zsets.ZIncr a.0 no_rules a.1 a.2) (λ a. refl)
    c.args.request.now c.one_score_one.result _ c.one_score_one.ensures (search rules))

pub returns-in-ZRem : goal.returns-in-ZRem
returns-in-ZRem c = rw c.in-ZRem.is (keyed_made Zsets 1 (λ w. w) zsets.ZRem (λ key list. refl) c.args.request.now c.one_and_words.result _ c.one_and_words.ensures (search rules))

pub returns-in-ZScore : goal.returns-in-ZScore
returns-in-ZScore c = rw c.in-ZScore.is
    (fixed_made Zsets (Plain ∷ Plain ∷ []) (λ a. (a.0, (a.1, tt))) (λ a. Ok (zsets.ZScore a.0 a.1.0)) (λ a. zsets.ZScore a.0 a.1) (λ a. refl) c.args.request.now c.two.result _
    c.two.ensures (search rules))

pub returns-in-ZMScore : goal.returns-in-ZMScore
returns-in-ZMScore c = rw c.in-ZMScore.is
    (keyed_made Zsets 1 (λ w. w) zsets.ZMScore (λ key list. refl) c.args.request.now c.one_and_words-in-ZMScore.result _ c.one_and_words-in-ZMScore.ensures (search rules))

pub returns-in-ZCard : goal.returns-in-ZCard
returns-in-ZCard c = rw c.in-ZCard.is (fixed_made Zsets (Plain ∷ []) (λ a. (a, tt)) (λ a. Ok (zsets.ZCard a.0)) zsets.ZCard (λ a. refl) c.args.request.now c.one.result _ c.one.ensures (search rules))

pub returns-in-ZCount : goal.returns-in-ZCount
returns-in-ZCount c = rw c.in-ZCount.is
    (fixed_made Zsets (Plain ∷ Bound ∷ Bound ∷ []) (λ a. (a.0, (a.1, (a.2, tt)))) (λ a. Ok (zsets.ZCount a.0 a.1.0 a.1.1.0)) (λ a. zsets.ZCount a.0 a.1 a.2) (λ a. refl) c.args.request.now
    c.one_and_bounds.result _ c.one_and_bounds.ensures (search rules))

pub returns-in-ZRank : goal.returns-in-ZRank
returns-in-ZRank c = rw c.in-ZRank.is
    (options_made Zsets (Plain ∷ Plain ∷ []) rank_options false (λ a. ((a.0, (a.1, tt)), a.2)) (λ a o. Ok (zsets.ZRank a.0 a.1.0 Rising o)) (λ a. zsets.ZRank a.0 a.1 Rising a.2)
    (λ a. refl) c.args.request.now c.two_and_options.result _ c.two_and_options.ensures (search rules))

pub returns-in-ZRevRank : goal.returns-in-ZRevRank
returns-in-ZRevRank c = rw c.in-ZRevRank.is
    (options_made Zsets (Plain ∷ Plain ∷ []) rank_options false (λ a. ((a.0, (a.1, tt)), a.2)) (λ a o. Ok (zsets.ZRank a.0 a.1.0 Falling o)) (λ a. zsets.ZRank a.0 a.1 Falling a.2)
    (λ a. refl) c.args.request.now c.two_and_options-in-ZRevRank.result _ c.two_and_options-in-ZRevRank.ensures (search rules))

pub returns-in-ZRange : goal.returns-in-ZRange
returns-in-ZRange c = rw c.in-ZRange.is (lifted Zsets (range_words (drop 1 c.args.request.now)) c.range.result c.range.ensures)

pub returns-in-ZRevRange : goal.returns-in-ZRevRange
returns-in-ZRevRange c = rw c.in-ZRevRange.is
    (options_made Zsets (Plain ∷ Whole ∷ Whole ∷ []) (with_scores_option ∷ []) no_range_options (λ a. ((a.0, (a.1, (a.2, tt))), a.3))
    (λ a o. Ok (zsets.ZRange a.0 a.1.0 a.1.1.0 Falling o.with_scores)) (λ a. zsets.ZRange a.0 a.1 a.2 Falling a.3.with_scores) (λ a. refl) c.args.request.now c.numbers_and_options.result _
    (rw c.no_range_options.ensures at c.numbers_and_options.ensures) (search rules))

pub returns-in-ZRangeByScore : goal.returns-in-ZRangeByScore
returns-in-ZRangeByScore c = rw c.in-ZRangeByScore.is
    (options_made Zsets (Plain ∷ Bound ∷ Bound ∷ []) (with_scores_option ∷ limit_option ∷ []) no_range_options (λ a. ((a.0, (a.1, (a.2, tt))), a.3))
    (λ a o. Ok (score_range_of a.0 a.1.0 a.1.1.0 false o)) (λ a. score_range_of a.0 a.1 a.2 false a.3) (λ a. refl) c.args.request.now c.bounds_and_options.result _
    (rw c.no_range_options-in-ZRangeByScore.ensures at c.bounds_and_options.ensures) (search rules))

pub returns-in-ZRevRangeByScore : goal.returns-in-ZRevRangeByScore
returns-in-ZRevRangeByScore c = rw c.in-ZRevRangeByScore.is
    (options_made Zsets (Plain ∷ Bound ∷ Bound ∷ []) (with_scores_option ∷ limit_option ∷ []) no_range_options (λ a. ((a.0, (a.1, (a.2, tt))), a.3))
    (λ a o. Ok (score_range_of a.0 a.1.0 a.1.1.0 true o)) (λ a. score_range_of a.0 a.1 a.2 true a.3) (λ a. refl) c.args.request.now c.bounds_and_options-in-ZRevRangeByScore.result _
    (rw c.no_range_options-in-ZRevRangeByScore.ensures at c.bounds_and_options-in-ZRevRangeByScore.ensures) (search rules))

pub returns-in-ZRemRangeByRank : goal.returns-in-ZRemRangeByRank
returns-in-ZRemRangeByRank c = rw c.in-ZRemRangeByRank.is
    (fixed_made Zsets (Plain ∷ Whole ∷ Whole ∷ []) (λ a. (a.0, (a.1, (a.2, tt)))) (λ a. Ok (zsets.ZRemRangeByRank a.0 a.1.0 a.1.1.0)) (λ a. zsets.ZRemRangeByRank a.0 a.1 a.2) (λ a. refl)
    c.args.request.now c.one_and_numbers.result _ c.one_and_numbers.ensures (search rules))

pub returns-in-ZRemRangeByScore : goal.returns-in-ZRemRangeByScore
returns-in-ZRemRangeByScore c = rw c.in-ZRemRangeByScore.is
    (fixed_made Zsets (Plain ∷ Bound ∷ Bound ∷ []) (λ a. (a.0, (a.1, (a.2, tt)))) (λ a. Ok (zsets.ZRemRangeByScore a.0 a.1.0 a.1.1.0)) (λ a. zsets.ZRemRangeByScore a.0 a.1 a.2) (λ a. refl)
    c.args.request.now c.one_and_bounds-in-ZRemRangeByScore.result _ c.one_and_bounds-in-ZRemRangeByScore.ensures (search rules))

pub returns-in-ZPopMin : goal.returns-in-ZPopMin
returns-in-ZPopMin c = rw c.in-ZPopMin.is (popped_made Zsets (λ key n. zsets.ZPop key Rising n) c.args.request.now c.one_and_perhaps.result _ c.one_and_perhaps.ensures (search rules))

pub returns-in-ZPopMax : goal.returns-in-ZPopMax
returns-in-ZPopMax c = rw c.in-ZPopMax.is
    (popped_made Zsets (λ key n. zsets.ZPop key Falling n) c.args.request.now c.one_and_perhaps-in-ZPopMax.result _ c.one_and_perhaps-in-ZPopMax.ensures (search rules))

pub returns-in-ZRandMember : goal.returns-in-ZRandMember
returns-in-ZRandMember c = rw c.in-ZRandMember.is (picked_made Zsets (codes "withscores") zsets.ZRandMember c.args.request.now c.one_and_picked.result _ c.one_and_picked.ensures (search rules))

pub returns-in-ZUnionStore : goal.returns-in-ZUnionStore
returns-in-ZUnionStore c = rw c.in-ZUnionStore.is c.join_store.ensures

pub returns-in-ZInterStore : goal.returns-in-ZInterStore
returns-in-ZInterStore c = rw c.in-ZInterStore.is c.join_store-in-ZInterStore.ensures

pub returns-in-ZScan : goal.returns-in-ZScan
returns-in-ZScan c = rw c.in-ZScan.is (lifted Zsets (page_words zsets.ZScan (drop 1 c.args.request.now)) c.scan.result c.scan.ensures)
