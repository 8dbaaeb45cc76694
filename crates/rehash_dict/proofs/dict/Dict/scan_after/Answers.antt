use Rattle.std.proofs.Common.{◌<◌, subst, sym, arith}
use Rattle.rev_cursor.specs.Span.{times}
use Rattle.rehash_dict.proofs.Scanning.{whole_move, after_found, after_last}
use Rattle.rehash_dict.proofs.dict.Dict.scan_after.Goals as goal

pub turn_of-number-requires-clause-there : goal.turn_of-number-requires-clause-there
turn_of-number-requires-clause-there g c = subst (λ l. 0 < times c.args.at l)
    (sym
    (whole_move c.chains-chains.result.now c.args.self.now.position c.args.self.now.seed c.args.self.now.top c.args.self.now c.args.cursor c.chains-chains.ensures.value
    c.chains-chains.ensures.placed)) c.requires

pub overflow_add-number : goal.overflow_add-number
overflow_add-number g c = omega (arith, c.turn_of-number.ensures.fits)

pub returns-in-Some : goal.returns-in-Some
returns-in-Some g c = after_found c.chains-chains.result.now c.args.self.now.position c.args.self.now.seed c.args.self.now.top c.args.self.now c.args.cursor c.chains-chains.ensures.value
    c.chains-chains.ensures.placed c.args.at c.turn_of-number.result c.in-Some.next _ c.turn_of-number.ensures.turn c.turn_of-number.ensures.gives c.turn.ensures c.in-Some.ensures

pub returns-in-None : goal.returns-in-None
returns-in-None g c = after_last c.chains-chains.result.now c.args.self.now.position c.args.self.now.seed c.args.self.now.top c.args.self.now c.args.cursor c.chains-chains.ensures.value
    c.chains-chains.ensures.placed c.args.at c.turn_of-number.result _ c.first_from.result c.turn_of-number.ensures.turn c.turn_of-number.ensures.gives c.turn.ensures c.in-None.ensures
    c.first_from.ensures
