use Rattle.std.proofs.Common.{rules, ◌-◌, ◌<◌, arith}
use Rattle.score_list.proofs.Searching.{descent_begins, stands_lower, descends, way_on, way_path}
use Rattle.score_list.proofs.towers.Towers.path_to.Goals as goal

pub loop-level-init : goal.loop-level-init
loop-level-init c = record {
  descent = descent_begins c.args.self.now c.args.to c.requires.rank;
  way = record { long = search rules; came = λ j le lt. absurd (omega arith) };
}

pub advance-place-requires-clause-stands : goal.advance-place-requires-clause-stands
advance-place-requires-clause-stands c = stands_lower c.args.self.now c.args.to c.loop-level.level c.loop-level.place.owner c.loop-level.place.rank c.loop-level-test.true
    c.loop-level.invariant.descent.stands

pub loop-level-preserved : goal.loop-level-preserved
loop-level-preserved c =
    let low : c.loop-level.level - 1 < 16 = omega (arith, c.loop-level.invariant.descent.bound, c.loop-level-test.true) in
    record {
      descent = descends c.args.self.now c.args.to (c.loop-level.level - 1) c.advance-place.result.owner c.advance-place.result.rank low c.advance-place.ensures;
      way = way_on c.args.self.now c.args.to c.loop-level.level c.loop-level.path c.advance-place.result c.loop-level-test.true low c.advance-place.ensures c.loop-level.invariant.way;
    }

pub returns-clause-path : goal.returns-clause-path
returns-clause-path c = way_path c.args.self.now c.args.to c.loop-level.level c.loop-level.path c.loop-level-test.false c.loop-level.invariant.way

pub returns-clause-long : goal.returns-clause-long
returns-clause-long c = c.loop-level.invariant.way.long
