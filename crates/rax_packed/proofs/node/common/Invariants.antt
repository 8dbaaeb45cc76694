use Rattle.std.proofs.Common.{◌≡◌, ◌-◌, ◌≤◌, length, take}
use Rattle.rax_packed.proofs.node.common.Given as goal

abbrev pub invariant-loop-shared : goal.invariant-loop-shared
invariant-loop-shared l = (l.shared ≤ length l.prefix) × (l.shared ≤ length l.key) × (take l.shared l.prefix ≡ take l.shared l.key)

abbrev pub decreases-loop-shared : goal.decreases-loop-shared
decreases-loop-shared l = length l.prefix - l.shared
