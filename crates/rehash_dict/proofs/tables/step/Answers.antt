use Rattle.std.proofs.Common.{sym, refl, arith}
use Rattle.rehash_dict.proofs.Passes.{position_fits, passed_more, at_below, at_fits, passed_at, step_none, step_some, moved_some}
use Rattle.rehash_dict.proofs.tables.step.Goals as goal

pub overflow_add-result : goal.overflow_add-result
overflow_add-result g c = omega (arith, position_fits c.args.chains.now.items c.args.chains.now.older c.args.chains.now.newer c.args.position c.requires.kept c.requires.going)

pub move_bucket-requires-clause-bucket : goal.move_bucket-requires-clause-bucket
move_bucket-requires-clause-bucket g c = at_below c.args.chains.now.items c.args.chains.now.older c.args.chains.now.newer c.args.position c.requires.kept c.requires.going c.in-Some.at
    (sym c.in-Some.ensures)

pub overflow_add-at : goal.overflow_add-at
overflow_add-at g c = omega
    (arith, at_fits c.args.chains.now.items c.args.chains.now.older c.args.chains.now.newer c.args.position c.requires.kept c.requires.going c.in-Some.at (sym c.in-Some.ensures))

pub end_if_moved-requires-clause-passed : goal.end_if_moved-requires-clause-passed
end_if_moved-requires-clause-passed g c = passed_at c.args.chains.now.items c.args.chains.now.older c.args.chains.now.newer c.args.position c.requires.kept c.requires.going c.in-Some.at
    (sym c.in-Some.ensures) c.move_bucket.new.self.older c.move_bucket.ensures.older

pub end_if_moved-requires-clause-begins : goal.end_if_moved-requires-clause-begins
end_if_moved-requires-clause-begins g c h = absurd (omega (arith, c.requires.going, moved_some c.args.chains.now c.move_bucket.new.self c.in-Some.at c.move_bucket.ensures))

pub returns-in-None-clause-tables : goal.returns-in-None-clause-tables
returns-in-None-clause-tables g c names agrees = step_none names c.args.chains.now c.args.position (sym c.in-None.ensures)

pub returns-in-None-clause-rebuilds : goal.returns-in-None-clause-rebuilds
returns-in-None-clause-rebuilds g c = record {
  items = refl;
  capacity = refl;
  kept = passed_more c.args.chains.now.items c.args.chains.now.older c.args.chains.now.newer c.args.position c.requires.kept c.requires.going
      (sym c.in-None.ensures);
}

pub returns-in-Some-clause-tables : goal.returns-in-Some-clause-tables
returns-in-Some-clause-tables g c names agrees = step_some names c.args.chains.now c.move_bucket.new.self c.args.position c.in-Some.at _ (sym c.in-Some.ensures) c.move_bucket.ensures
    agrees c.end_if_moved.ensures.tables
