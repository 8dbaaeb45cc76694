use Rattle.std.proofs.Common.{◌∙◌, ◌++◌, ◌+◌, ◌-◌, sym, ap, refl}
use Rattle.rehash_dict.specs.Chains.{chain_left}
use Rattle.rehash_dict.specs.Scan.{turns_from, turn_at, first_of}
use Rattle.rehash_dict.proofs.Turns.{turns_step, turns_end, first_of_append}
use Rattle.rehash_dict.proofs.scan.first_from.Goals as goal

pub loop-number-init : goal.loop-number-init
loop-number-init g c = refl

pub returns-in-Some : goal.returns-in-Some
returns-in-Some g c =
    sym (ap (λ n. first_of (turns_from c.args.chains.now.older c.args.chains.now.newer c.args.cursor (n - c.args.from) c.args.from)) (sym c.turns-number-end.ensures)
    ∙ sym c.loop-number.invariant
    ∙ ap first_of (turns_step c.args.chains.now.older c.args.chains.now.newer c.args.cursor c.turns-number-end.result c.loop-number.number c.loop-number-test.true)
    ∙ first_of_append (turn_at c.args.chains.now.older c.args.chains.now.newer c.args.cursor c.loop-number.number) _ c.in-Some.at (chain_left c.next.new.self)
    (sym c.turn.ensures ∙ c.in-Some.ensures.steps))

pub loop-number-preserved : goal.loop-number-preserved
loop-number-preserved g c =
    ap first_of
    (ap (λ r. r ++ turns_from c.args.chains.now.older c.args.chains.now.newer c.args.cursor (c.turns-number-end.result - (c.loop-number.number + 1)) (c.loop-number.number + 1))
    (sym (sym c.turn.ensures ∙ c.in_default.ensures.steps.0))
    ∙ sym (turns_step c.args.chains.now.older c.args.chains.now.newer c.args.cursor c.turns-number-end.result c.loop-number.number c.loop-number-test.true))
    ∙ c.loop-number.invariant

pub returns : goal.returns
returns g c =
    sym (ap (λ n. first_of (turns_from c.args.chains.now.older c.args.chains.now.newer c.args.cursor (n - c.args.from) c.args.from)) (sym c.turns-number-end.ensures)
    ∙ sym c.loop-number.invariant
    ∙ ap first_of (turns_end c.args.chains.now.older c.args.chains.now.newer c.args.cursor c.turns-number-end.result c.loop-number.number c.loop-number-test.false))
