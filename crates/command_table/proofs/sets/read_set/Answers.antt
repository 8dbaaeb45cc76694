use Rattle.std.proofs.Common.{[], ◌∷◌, drop, Ok, refl, rules}
use Rattle.plain_model.specs.Shapes.{Plain}
use Rattle.plain_model.specs.KeyWords.{page_words}
use Rattle.plain_model.specs.declared.command.Command.TheVariants.{Sets}
use Rattle.plain_model.specs.declared.set_command.SetCommand.TheVariants as sets
use Rattle.plain_model.specs.declared.set_command.SetJoin.TheVariants.{Inter, Union, Diff}
use Rattle.command_words.proofs.Lifted.{lifted}
use Rattle.command_table.proofs.Arms.{fixed_made, gathered, keyed_made, popped_made}
use Rattle.command_table.proofs.PickWords.{picks_made}
use Rattle.command_table.proofs.sets.read_set.Goals as goal

pub returns-in-SAdd : goal.returns-in-SAdd
returns-in-SAdd c = rw c.in-SAdd.is (keyed_made Sets 1 (λ w. w) sets.SAdd (λ key list. refl) c.args.request.now c.one_and_words.result _ c.one_and_words.ensures (search rules))

pub returns-in-SRem : goal.returns-in-SRem
returns-in-SRem c = rw c.in-SRem.is (keyed_made Sets 1 (λ w. w) sets.SRem (λ key list. refl) c.args.request.now c.one_and_words-in-SRem.result _ c.one_and_words-in-SRem.ensures (search rules))

pub returns-in-SIsMember : goal.returns-in-SIsMember
returns-in-SIsMember c = rw c.in-SIsMember.is
    (fixed_made Sets (Plain ∷ Plain ∷ []) (λ a. (a.0, (a.1, tt))) (λ a. Ok (sets.SIsMember a.0 a.1.0)) (λ a. sets.SIsMember a.0 a.1) (λ a. refl) c.args.request.now c.two.result _
    c.two.ensures (search rules))

pub returns-in-SMIsMember : goal.returns-in-SMIsMember
returns-in-SMIsMember c = rw c.in-SMIsMember.is
    (keyed_made Sets 1 (λ w. w) sets.SMIsMember (λ key list. refl) c.args.request.now c.one_and_words-in-SMIsMember.result _ c.one_and_words-in-SMIsMember.ensures (search rules))

pub returns-in-SMembers : goal.returns-in-SMembers
returns-in-SMembers c = rw c.in-SMembers.is
    (fixed_made Sets (Plain ∷ []) (λ a. (a, tt)) (λ a. Ok (sets.SMembers a.0)) sets.SMembers (λ a. refl) c.args.request.now c.one.result _ c.one.ensures (search rules))

pub returns-in-SCard : goal.returns-in-SCard
returns-in-SCard c = rw c.in-SCard.is
    (fixed_made Sets (Plain ∷ []) (λ a. (a, tt)) (λ a. Ok (sets.SCard a.0)) sets.SCard (λ a. refl) c.args.request.now c.one-in-SCard.result _ c.one-in-SCard.ensures (search rules))

pub returns-in-SMove : goal.returns-in-SMove
returns-in-SMove c = rw c.in-SMove.is
    (fixed_made Sets (Plain ∷ Plain ∷ Plain ∷ []) (λ a. (a.0, (a.1, (a.2, tt)))) (λ a. Ok (sets.SMove a.0 a.1.0 a.1.1.0)) (λ a. sets.SMove a.0 a.1 a.2) (λ a. refl) c.args.request.now
    c.three.result _ c.three.ensures (search rules))

pub returns-in-SPop : goal.returns-in-SPop
returns-in-SPop c = rw c.in-SPop.is (popped_made Sets sets.SPop c.args.request.now c.one_and_perhaps.result _ c.one_and_perhaps.ensures (search rules))

pub returns-in-SRandMember : goal.returns-in-SRandMember
returns-in-SRandMember c = rw c.in-SRandMember.is (picks_made Sets sets.SRandMember c.args.request.now c.one_and_picks.result _ c.one_and_picks.ensures (search rules))

pub returns-in-SInter : goal.returns-in-SInter
returns-in-SInter c = rw c.in-SInter.is (gathered Sets 1 (λ w. w) (sets.SJoin Inter) (λ list. refl) c.args.request.now c.words.result _ c.words.ensures (search rules))

pub returns-in-SUnion : goal.returns-in-SUnion
returns-in-SUnion c = rw c.in-SUnion.is (gathered Sets 1 (λ w. w) (sets.SJoin Union) (λ list. refl) c.args.request.now c.words-in-SUnion.result _ c.words-in-SUnion.ensures (search rules))

pub returns-in-SDiff : goal.returns-in-SDiff
returns-in-SDiff c = rw c.in-SDiff.is (gathered Sets 1 (λ w. w) (sets.SJoin Diff) (λ list. refl) c.args.request.now c.words-in-SDiff.result _ c.words-in-SDiff.ensures (search rules))

pub returns-in-SInterStore : goal.returns-in-SInterStore
returns-in-SInterStore c = rw c.in-SInterStore.is
    (keyed_made Sets 1 (λ w. w) (sets.SJoinStore Inter) (λ key list. refl) c.args.request.now c.one_and_words-in-SInterStore.result _ c.one_and_words-in-SInterStore.ensures (search rules))

pub returns-in-SUnionStore : goal.returns-in-SUnionStore
returns-in-SUnionStore c = rw c.in-SUnionStore.is
    (keyed_made Sets 1 (λ w. w) (sets.SJoinStore Union) (λ key list. refl) c.args.request.now c.one_and_words-in-SUnionStore.result _ c.one_and_words-in-SUnionStore.ensures (search rules))

pub returns-in-SDiffStore : goal.returns-in-SDiffStore
returns-in-SDiffStore c = rw c.in-SDiffStore.is
    (keyed_made Sets 1 (λ w. w) (sets.SJoinStore Diff) (λ key list. refl) c.args.request.now c.one_and_words-in-SDiffStore.result _ c.one_and_words-in-SDiffStore.ensures (search rules))

pub returns-in-SInterCard : goal.returns-in-SInterCard
returns-in-SInterCard c = rw c.in-SInterCard.is c.inter_card.ensures

pub returns-in-SScan : goal.returns-in-SScan
returns-in-SScan c = rw c.in-SScan.is (lifted Sets (page_words sets.SScan (drop 1 c.args.request.now)) c.scan.result c.scan.ensures)
