-- Laws of changes and of what a store was served.
use Rattle.std.specs.Prelude.{◌≡◌, List, ◌++◌}
use Rattle.blocks.specs.declared.BlockRef.{BlockRef}
use Rattle.blocks.specs.Blocks.{Blocks, IsIn, Changes, Owned, Owns, Served}
use Rattle.blocks.specs.Slabs.{Heap}
use Rattle.blocks.specs.Steps.{IsStep}

-- What holds of `Changes`.
pub record ChangesLaws : Type 0 where
  -- it holds of a store and itself
  pub same : (a : Blocks) (refs : List BlockRef) → Owned refs a → Changes a a refs refs
  -- it goes on from one call to the next
  pub goes_on : (a b c : Blocks) (xs ys zs : List BlockRef) → Changes a b xs ys → Changes b c ys zs → Changes a c xs zs
  -- changes of disjoint references compose
  pub both : (a b c : Blocks) (xs ys us vs : List BlockRef) → Owned (xs ++ us) a → Changes a b xs ys → Changes b c us vs
      → Changes a c (xs ++ us) (ys ++ vs)
  -- what is outside keeps its bytes, and stays owned with what the change leaves
  pub outside : (a b : Blocks) (xs ys others : List BlockRef) (r : BlockRef) → Owned (others ++ xs) a
      → Changes a b xs ys → IsIn r others → b r ≡ a r
  pub owned : (a b : Blocks) (xs ys others : List BlockRef) → Owned (others ++ xs) a → Changes a b xs ys
      → Owned (others ++ ys) b
  -- who owned each live block and no other does so afterwards
  pub owns : (a b : Blocks) (xs ys others : List BlockRef) → Owns (others ++ xs) a → Changes a b xs ys
      → Owns (others ++ ys) b

-- What holds of `Served` over a store.
pub record ServedLaws {S : Type 0} (blocks : S → Blocks) (heap : S → Heap) (step : S → S → Type 0) : Type 0 where
  -- it holds of a store and itself, and of one call
  pub same : (s : S) → Served step s s
  pub once : (s t : S) → step s t → Served step s t
  -- it goes on from one list of calls to the next
  pub goes_on : (s t u : S) → Served step s t → Served step t u → Served step s u
  -- each call is a placing, a return, a write or a stretch
  pub kinds : (s t : S) → Served step s t
      → Served (λ before after. IsStep (blocks before) (heap before) (blocks after) (heap after)) s t
  -- an open pass stays open
  pub passing : (s t : S) → Served step s t → (heap t).passing ≡ (heap s).passing
