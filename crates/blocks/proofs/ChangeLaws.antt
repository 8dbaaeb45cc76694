-- The laws of changes, together.
use Rattle.std.proofs.Common.{◌≡◌, List, ◌++◌, arith}
use Rattle.blocks.specs.declared.BlockRef.{BlockRef}
use Rattle.blocks.specs.Blocks.{Blocks, times, IsIn, Changes, Owned, Owns}
use Rattle.blocks.specs.Laws.{ChangesLaws}
use Rattle.blocks.proofs.Times.{times-append}
use Rattle.blocks.proofs.Change.{changes_same, changes_then, changes_both, changes_beside, changes_owned, owned_others, owns_changed, live_once}

-- others' blocks stay
outside : (a b : Blocks) (xs ys others : List BlockRef) (r : BlockRef) → Owned (others ++ xs) a → Changes a b xs ys → IsIn r others → b r ≡ a r
outside a b xs ys others r own p is = owned_others a b xs ys (others ++ xs) own p r (omega (arith, times-append r others xs, is)) (omega (arith, times-append r others xs, own r, live_once a r, is))

-- the references of all owners after one owner's change
owned : (a b : Blocks) (xs ys others : List BlockRef) → Owned (others ++ xs) a → Changes a b xs ys → Owned (others ++ ys) b
owned a b xs ys others own p = changes_owned a b (others ++ xs) (others ++ ys)
    (changes_beside a b xs ys (others ++ xs) (others ++ ys) p own (λ r. times r others) (λ r. omega (arith, times-append r others xs)) (λ r. omega (arith, times-append r others ys)))

owns : (a b : Blocks) (xs ys others : List BlockRef) → Owns (others ++ xs) a → Changes a b xs ys → Owns (others ++ ys) b
owns a b xs ys others own p = owns_changed a b xs ys (others ++ xs) (others ++ ys) own p (λ r. omega (arith, times-append r others xs))
    (λ r. omega (arith, times-append r others xs, times-append r others ys))

pub changes_hold : ChangesLaws
changes_hold = record { same = changes_same; goes_on = changes_then; both = changes_both; outside = outside; owned = owned; owns = owns }
