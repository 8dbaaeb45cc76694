use Rattle.std.proofs.Common.{[], ◌∷◌, drop, Ok, refl, rules}
use Rattle.std.specs.Prelude.{codes}
use Rattle.plain_model.specs.Shapes.{Plain, Whole}
use Rattle.plain_model.specs.KeyWords.{page_words}
use Rattle.plain_model.specs.StringWords.{pairs_of}
use Rattle.plain_model.specs.declared.command.Command.TheVariants.{Hashes}
use Rattle.plain_model.specs.declared.hash_command.HashCommand.TheVariants as hashes
use Rattle.command_words.proofs.Lifted.{lifted}
use Rattle.command_table.proofs.Arms.{fixed_made, keyed_made}
use Rattle.command_table.proofs.PickWords.{picked_made}
use Rattle.command_table.proofs.hashes.read_hash.Goals as goal

pub returns-in-HSet : goal.returns-in-HSet
returns-in-HSet c = rw c.in-HSet.is (keyed_made Hashes 2 pairs_of hashes.HSet (λ key list. refl) c.args.request.now c.one_and_pairs.result _ c.one_and_pairs.ensures (search rules))

pub returns-in-HMSet : goal.returns-in-HMSet
returns-in-HMSet c = rw c.in-HMSet.is
    (keyed_made Hashes 2 pairs_of hashes.HMSet (λ key list. refl) c.args.request.now c.one_and_pairs-in-HMSet.result _ c.one_and_pairs-in-HMSet.ensures (search rules))

pub returns-in-HSetNx : goal.returns-in-HSetNx
returns-in-HSetNx c = rw c.in-HSetNx.is
    (fixed_made Hashes (Plain ∷ Plain ∷ Plain ∷ []) (λ a. (a.0, (a.1, (a.2, tt)))) (λ a. Ok (hashes.HSetNx a.0 a.1.0 a.1.1.0)) (λ a. hashes.HSetNx a.0 a.1 a.2) (λ a. refl)
    c.args.request.now c.three.result _ c.three.ensures (search rules))

pub returns-in-HGet : goal.returns-in-HGet
returns-in-HGet c = rw c.in-HGet.is
    (fixed_made Hashes (Plain ∷ Plain ∷ []) (λ a. (a.0, (a.1, tt))) (λ a. Ok (hashes.HGet a.0 a.1.0)) (λ a. hashes.HGet a.0 a.1) (λ a. refl) c.args.request.now c.two.result _ c.two.ensures
    (search rules))

pub returns-in-HMGet : goal.returns-in-HMGet
returns-in-HMGet c = rw c.in-HMGet.is (keyed_made Hashes 1 (λ w. w) hashes.HMGet (λ key list. refl) c.args.request.now c.one_and_words.result _ c.one_and_words.ensures (search rules))

pub returns-in-HDel : goal.returns-in-HDel
returns-in-HDel c = rw c.in-HDel.is (keyed_made Hashes 1 (λ w. w) hashes.HDel (λ key list. refl) c.args.request.now c.one_and_words-in-HDel.result _ c.one_and_words-in-HDel.ensures (search rules))

pub returns-in-HExists : goal.returns-in-HExists
returns-in-HExists c = rw c.in-HExists.is
    (fixed_made Hashes (Plain ∷ Plain ∷ []) (λ a. (a.0, (a.1, tt))) (λ a. Ok (hashes.HExists a.0 a.1.0)) (λ a. hashes.HExists a.0 a.1) (λ a. refl) c.args.request.now
    c.two-in-HExists.result _ c.two-in-HExists.ensures (search rules))

pub returns-in-HLen : goal.returns-in-HLen
returns-in-HLen c = rw c.in-HLen.is (fixed_made Hashes (Plain ∷ []) (λ a. (a, tt)) (λ a. Ok (hashes.HLen a.0)) hashes.HLen (λ a. refl) c.args.request.now c.one.result _ c.one.ensures (search rules))

pub returns-in-HStrLen : goal.returns-in-HStrLen
returns-in-HStrLen c = rw c.in-HStrLen.is
    (fixed_made Hashes (Plain ∷ Plain ∷ []) (λ a. (a.0, (a.1, tt))) (λ a. Ok (hashes.HStrLen a.0 a.1.0)) (λ a. hashes.HStrLen a.0 a.1) (λ a. refl) c.args.request.now
    c.two-in-HStrLen.result _ c.two-in-HStrLen.ensures (search rules))

pub returns-in-HKeys : goal.returns-in-HKeys
returns-in-HKeys c = rw c.in-HKeys.is
    (fixed_made Hashes (Plain ∷ []) (λ a. (a, tt)) (λ a. Ok (hashes.HKeys a.0)) hashes.HKeys (λ a. refl) c.args.request.now c.one-in-HKeys.result _ c.one-in-HKeys.ensures (search rules))

pub returns-in-HVals : goal.returns-in-HVals
returns-in-HVals c = rw c.in-HVals.is
    (fixed_made Hashes (Plain ∷ []) (λ a. (a, tt)) (λ a. Ok (hashes.HVals a.0)) hashes.HVals (λ a. refl) c.args.request.now c.one-in-HVals.result _ c.one-in-HVals.ensures (search rules))

pub returns-in-HGetAll : goal.returns-in-HGetAll
returns-in-HGetAll c = rw c.in-HGetAll.is
    (fixed_made Hashes (Plain ∷ []) (λ a. (a, tt)) (λ a. Ok (hashes.HGetAll a.0)) hashes.HGetAll (λ a. refl) c.args.request.now c.one-in-HGetAll.result _ c.one-in-HGetAll.ensures
    (search rules))

pub returns-in-HIncrBy : goal.returns-in-HIncrBy
returns-in-HIncrBy c = rw c.in-HIncrBy.is
    (fixed_made Hashes (Plain ∷ Plain ∷ Whole ∷ []) (λ a. (a.0, (a.1, (a.2, tt)))) (λ a. Ok (hashes.HIncrBy a.0 a.1.0 a.1.1.0)) (λ a. hashes.HIncrBy a.0 a.1 a.2) (λ a. refl)
    c.args.request.now c.two_and_number.result _ c.two_and_number.ensures (search rules))

pub returns-in-HRandField : goal.returns-in-HRandField
returns-in-HRandField c = rw c.in-HRandField.is (picked_made Hashes (codes "withvalues") hashes.HRandField c.args.request.now c.one_and_picked.result _ c.one_and_picked.ensures (search rules))

pub returns-in-HScan : goal.returns-in-HScan
returns-in-HScan c = rw c.in-HScan.is (lifted Hashes (page_words hashes.HScan (drop 1 c.args.request.now)) c.scan.result c.scan.ensures)
