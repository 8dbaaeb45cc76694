use Rattle.blocks.specs.Blocks.{no_blocks}
use Rattle.rdb_reader.proofs.Anew.{refs_none}
use Rattle.rdb_reader.proofs.building.begin.Goals as goal

pub returns-in_ok-new-in-List-clause-refs : goal.returns-in_ok-new-in-List-clause-refs
returns-in_ok-new-in-List-clause-refs c m = rw c.in_ok-new-in-List.ensures.ok (refs_none _ (c.new.ensures.quick no_blocks).chain.owned)

pub returns-in_ok-new-in-List-clause-sound : goal.returns-in_ok-new-in-List-clause-sound
returns-in_ok-new-in-List-clause-sound c m = rw c.in_ok-new-in-List.ensures.ok (c.new.ensures.quick m)

pub returns-in_ok-new-in-Set-clause-sound : goal.returns-in_ok-new-in-Set-clause-sound
returns-in_ok-new-in-Set-clause-sound c m = rw c.in_ok-new-in-Set.ensures.ok (c.new-in-Set.ensures.sound m, c.new-in-Set.ensures.limits, c.new-in-Set.ensures.seed)

pub returns-in_ok-new-in-Hash-clause-sound : goal.returns-in_ok-new-in-Hash-clause-sound
returns-in_ok-new-in-Hash-clause-sound c m = rw c.in_ok-new-in-Hash.ensures.ok (c.new-in-Hash.ensures.sound m, c.new-in-Hash.ensures.limits, c.new-in-Hash.ensures.seed)

pub returns-in_ok-new-in-SortedSet-clause-sound : goal.returns-in_ok-new-in-SortedSet-clause-sound
returns-in_ok-new-in-SortedSet-clause-sound c m = rw c.in_ok-new-in-SortedSet.ensures.ok (c.new-in-SortedSet.ensures.sound m, c.new-in-SortedSet.ensures.limits, c.new-in-SortedSet.ensures.seed)

pub returns-in_ok-new-in-Stream-clause-sound : goal.returns-in_ok-new-in-Stream-clause-sound
returns-in_ok-new-in-Stream-clause-sound c m = rw c.in_ok-new-in-Stream.ensures.ok (c.new-in-Stream.ensures.is_stream m)
