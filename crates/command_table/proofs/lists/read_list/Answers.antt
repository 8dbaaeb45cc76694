use Rattle.std.proofs.Common.{[], ◌∷◌, Ok, refl, rules}
use Rattle.plain_model.specs.Shapes.{Plain, Whole, OnSide, AtEnd}
use Rattle.plain_model.specs.ListWords.{position_options, no_position_options}
use Rattle.plain_model.specs.declared.command.Command.TheVariants.{Lists}
use Rattle.plain_model.specs.declared.list_command.ListCommand.TheVariants as lists
use Rattle.command_table.proofs.Arms.{fixed_made, keyed_made, options_made, popped_made}
use Rattle.command_table.proofs.lists.read_list.Goals as goal

pub returns-in-LPush : goal.returns-in-LPush
returns-in-LPush c = rw c.in-LPush.is (keyed_made Lists 1 (λ w. w) lists.LPush (λ key elements. refl) c.args.request.now c.one_and_words.result _ c.one_and_words.ensures (search rules))

pub returns-in-RPush : goal.returns-in-RPush
returns-in-RPush c = rw c.in-RPush.is
    (keyed_made Lists 1 (λ w. w) lists.RPush (λ key elements. refl) c.args.request.now c.one_and_words-in-RPush.result _ c.one_and_words-in-RPush.ensures (search rules))

pub returns-in-LPushX : goal.returns-in-LPushX
returns-in-LPushX c = rw c.in-LPushX.is
    (keyed_made Lists 1 (λ w. w) lists.LPushX (λ key elements. refl) c.args.request.now c.one_and_words-in-LPushX.result _ c.one_and_words-in-LPushX.ensures (search rules))

pub returns-in-RPushX : goal.returns-in-RPushX
returns-in-RPushX c = rw c.in-RPushX.is
    (keyed_made Lists 1 (λ w. w) lists.RPushX (λ key elements. refl) c.args.request.now c.one_and_words-in-RPushX.result _ c.one_and_words-in-RPushX.ensures (search rules))

pub returns-in-LPop : goal.returns-in-LPop
returns-in-LPop c = rw c.in-LPop.is (popped_made Lists lists.LPop c.args.request.now c.one_and_perhaps.result _ c.one_and_perhaps.ensures (search rules))

pub returns-in-RPop : goal.returns-in-RPop
returns-in-RPop c = rw c.in-RPop.is (popped_made Lists lists.RPop c.args.request.now c.one_and_perhaps-in-RPop.result _ c.one_and_perhaps-in-RPop.ensures (search rules))

pub returns-in-LLen : goal.returns-in-LLen
returns-in-LLen c = rw c.in-LLen.is (fixed_made Lists (Plain ∷ []) (λ a. (a, tt)) (λ a. Ok (lists.LLen a.0)) lists.LLen (λ a. refl) c.args.request.now c.one.result _ c.one.ensures (search rules))

pub returns-in-LIndex : goal.returns-in-LIndex
returns-in-LIndex c = rw c.in-LIndex.is
    (fixed_made Lists (Plain ∷ Whole ∷ []) (λ a. (a.0, (a.1, tt))) (λ a. Ok (lists.LIndex a.0 a.1.0)) (λ a. lists.LIndex a.0 a.1) (λ a. refl) c.args.request.now c.one_and_number.result _
    c.one_and_number.ensures (search rules))

pub returns-in-LSet : goal.returns-in-LSet
returns-in-LSet c = rw c.in-LSet.is
    (fixed_made Lists (Plain ∷ Whole ∷ Plain ∷ []) (λ a. (a.0, (a.1, (a.2, tt)))) (λ a. Ok (lists.LSet a.0 a.1.0 a.1.1.0)) (λ a. lists.LSet a.0 a.1 a.2) (λ a. refl) c.args.request.now
    c.one_number_one.result _ c.one_number_one.ensures (search rules))

pub returns-in-LRange : goal.returns-in-LRange
returns-in-LRange c = rw c.in-LRange.is
    (fixed_made Lists (Plain ∷ Whole ∷ Whole ∷ []) (λ a. (a.0, (a.1, (a.2, tt)))) (λ a. Ok (lists.LRange a.0 a.1.0 a.1.1.0)) (λ a. lists.LRange a.0 a.1 a.2) (λ a. refl) c.args.request.now
    c.one_and_numbers.result _ c.one_and_numbers.ensures (search rules))

pub returns-in-LTrim : goal.returns-in-LTrim
returns-in-LTrim c = rw c.in-LTrim.is
    (fixed_made Lists (Plain ∷ Whole ∷ Whole ∷ []) (λ a. (a.0, (a.1, (a.2, tt)))) (λ a. Ok (lists.LTrim a.0 a.1.0 a.1.1.0)) (λ a. lists.LTrim a.0 a.1 a.2) (λ a. refl) c.args.request.now
    c.one_and_numbers-in-LTrim.result _ c.one_and_numbers-in-LTrim.ensures (search rules))

pub returns-in-LInsert : goal.returns-in-LInsert
returns-in-LInsert c = rw c.in-LInsert.is
    (fixed_made Lists (Plain ∷ OnSide ∷ Plain ∷ Plain ∷ []) (λ a. (a.0, (a.1, (a.2, (a.3, tt))))) (λ a. Ok (lists.LInsert a.0 a.1.0 a.1.1.0 a.1.1.1.0)) (λ a. lists.LInsert a.0 a.1 a.2 a.3)
    (λ a. refl) c.args.request.now c.one_side_two.result _ c.one_side_two.ensures (search rules))

pub returns-in-LRem : goal.returns-in-LRem
returns-in-LRem c = rw c.in-LRem.is
    (fixed_made Lists (Plain ∷ Whole ∷ Plain ∷ []) (λ a. (a.0, (a.1, (a.2, tt)))) (λ a. Ok (lists.LRem a.0 a.1.0 a.1.1.0)) (λ a. lists.LRem a.0 a.1 a.2) (λ a. refl) c.args.request.now
    c.one_number_one-in-LRem.result _ c.one_number_one-in-LRem.ensures (search rules))

pub returns-in-LPos : goal.returns-in-LPos
returns-in-LPos c = rw c.in-LPos.is
    (options_made Lists (Plain ∷ Plain ∷ []) position_options no_position_options (λ a. ((a.0, (a.1, tt)), a.2)) (λ a options. Ok (lists.LPos a.0 a.1.0 options))
    (λ a. lists.LPos a.0 a.1 a.2) (λ a. refl) c.args.request.now c.two_and_options.result _ (rw c.no_position_options.ensures at c.two_and_options.ensures) (search rules))

pub returns-in-LMove : goal.returns-in-LMove
returns-in-LMove c = rw c.in-LMove.is
    (fixed_made Lists (Plain ∷ Plain ∷ AtEnd ∷ AtEnd ∷ []) (λ a. (a.0, (a.1, (a.2, (a.3, tt))))) (λ a. Ok (lists.LMove a.0 a.1.0 a.1.1.0 a.1.1.1.0)) (λ a. lists.LMove a.0 a.1 a.2 a.3)
    (λ a. refl) c.args.request.now c.two_and_ends.result _ c.two_and_ends.ensures (search rules))

pub returns-in-RPopLPush : goal.returns-in-RPopLPush
returns-in-RPopLPush c = rw c.in-RPopLPush.is
    (fixed_made Lists (Plain ∷ Plain ∷ []) (λ a. (a.0, (a.1, tt))) (λ a. Ok (lists.RPopLPush a.0 a.1.0)) (λ a. lists.RPopLPush a.0 a.1) (λ a. refl) c.args.request.now c.two.result _
    c.two.ensures (search rules))
