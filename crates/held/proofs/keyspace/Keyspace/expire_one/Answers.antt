use Rattle.std.proofs.Common.{◌≤◌, subst, sym}
use Rattle.blocks.specs.Blocks.{times}
use Rattle.held.proofs.Finds.{front_once}
use Rattle.held.proofs.Turns.{passed_intact, step_expires, step_changes, step_lives}
use Rattle.held.specs.Databases.{deadlines_at}
use Rattle.expiry.specs.Found.{move_of}
use Rattle.held.proofs.keyspace.Keyspace.expire_one.Goals as goal

pub drop_found-requires-clause-intact : goal.drop_found-requires-clause-intact
drop_found-requires-clause-intact g c =
    passed_intact g.V.Stored.refs_of g.V.Stored.value_of g.met.V.Stored.reads_own c.args.self.now.bases c.pass_turn.new.self c.cycle.new.self (g.B.BlockStore.blocks c.args.self.now.store)
    c.turn-db.result c.args.moment c.requires.intact.arranged c.turn-db.ensures c.cycle.ensures.changes c.cycle.ensures.table c.pass_turn.ensures c.requires.intact

pub drop_found-requires-clause-once : goal.drop_found-requires-clause-once
drop_found-requires-clause-once g c =
    subst (λ found. (r : _) → times r found ≤ 1) (sym c.cycle.ensures.found)
    (front_once (g.B.BlockStore.blocks c.args.self.now.store) (deadlines_at c.args.self.now.bases c.turn-db.result).table (c.requires.intact.arranged.timed c.turn-db.result).keyed
    c.args.moment 16 (move_of (deadlines_at c.args.self.now.bases c.turn-db.result)).0 c.cycle.ensures.once)

pub returns-clause-step : goal.returns-clause-step
returns-clause-step g c =
    step_expires g.V.Stored.refs_of g.V.Stored.value_of g.met.V.Stored.reads_own c.args.self.now.bases c.pass_turn.new.self c.cycle.new.self (g.B.BlockStore.blocks c.args.self.now.store)
    c.turn-db.result c.args.moment c.requires.intact.arranged c.turn-db.ensures c.cycle.ensures.changes c.cycle.ensures.table c.pass_turn.ensures
    c.drop_found.new.self.bases (g.B.BlockStore.blocks c.drop_found.new.self.store) c.cycle.new.found c.drop_found.ensures.thinned c.cycle.ensures.found c.cycle.ensures.cursor
    c.drop_found.ensures.cursor c.drop_found.ensures.settings

pub returns-clause-lives : goal.returns-clause-lives
returns-clause-lives g c =
    step_lives g.V.Stored.refs_of g.V.Stored.value_of g.met.V.Stored.reads_own c.args.self.now.bases c.pass_turn.new.self c.cycle.new.self (g.B.BlockStore.blocks c.args.self.now.store)
    c.turn-db.result c.args.moment c.requires.intact.arranged c.turn-db.ensures c.cycle.ensures.changes c.cycle.ensures.table c.pass_turn.ensures
    c.drop_found.new.self.bases (g.B.BlockStore.blocks c.drop_found.new.self.store) c.cycle.new.found c.drop_found.ensures.thinned _ c.drop_found.ensures.thins

pub returns-clause-changes : goal.returns-clause-changes
returns-clause-changes g c =
    step_changes g.V.Stored.refs_of g.V.Stored.value_of g.met.V.Stored.reads_own c.args.self.now.bases c.pass_turn.new.self c.cycle.new.self (g.B.BlockStore.blocks c.args.self.now.store)
    c.turn-db.result c.args.moment c.requires.intact.arranged c.turn-db.ensures c.cycle.ensures.changes c.cycle.ensures.table c.pass_turn.ensures
    c.drop_found.new.self.bases (g.B.BlockStore.blocks c.drop_found.new.self.store) c.cycle.new.found c.drop_found.ensures.thinned c.requires.intact c.drop_found.ensures.changes
