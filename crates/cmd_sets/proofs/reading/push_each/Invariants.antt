use Rattle.std.proofs.Common.{◌≡◌, ◌++◌, length}
use Rattle.set_object.specs.Members.{members}
use Rattle.cmd_sets.specs.Found.{told_each}
use Rattle.cmd_sets.proofs.reading.push_each.Given as goal

abbrev pub invariant-words : goal.invariant-words
invariant-words g l =
    let set = members (g.B.BlockStore.blocks l.store) l.set in
    l.parts ++ told_each set l.rest ≡ l.fn.parts ++ told_each set l.words

abbrev pub decreases-words : goal.decreases-words
decreases-words g l = length l.rest
