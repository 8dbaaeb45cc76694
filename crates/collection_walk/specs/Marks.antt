-- The marks of a collection's blocks, and which of them a bounded call passes.
use Rattle.std.specs.Prelude.{◌≡◌, ℕ, zero, suc, ◌+◌, ◌<◌, ◌≤◌, Bool, true, false, ◌&&◌, nat_le, nat_lt, List, [], ◌∷◌, ◌++◌, count_by, Option, Some, None, IfSome, slice_get}
use Rattle.blocks.specs.declared.BlockRef.{BlockRef}
use Rattle.blocks.specs.declared.Moved.{Moved}
use Rattle.blocks.specs.Slabs.{Heap, wants}
use Rattle.rehash_dict.specs.Table.{Table, Element, item}

module _ {V : Type 0} where
  -- the item numbers of the elements, where the first place has this number
  abbrev pub items_from : ℕ → List (Option (Element V)) → List ℕ
  items_from n [] = []
  items_from n (None ∷ items) = items_from (suc n) items
  items_from n (Some e ∷ items) = n ∷ items_from (suc n) items

  -- an item number where it is vacant
  abbrev pub vacant_mark : ℕ → Option (Element V) → List ℕ
  vacant_mark n None = n ∷ []
  vacant_mark n (Some e) = []

  -- the vacant item numbers below a number
  abbrev pub vacant_below : Table V → ℕ → List ℕ
  vacant_below t zero = []
  vacant_below t (suc n) = vacant_mark n (item t n) ++ vacant_below t n

  -- the blocks of the keys of these item numbers want no move
  abbrev pub IsCalm : Heap → Table V → ℕ → ℕ → Type 0
  IsCalm heap t start end =
      (at : ℕ) (e : Element V) → start ≤ at → at < end → item t at ≡ Some e → wants heap e.key ≡ false

-- the mark is below the next one to go on from, or none is left
abbrev pub is_before : Option ℕ → ℕ → Bool
is_before None mark = true
is_before (Some next) mark = nat_lt mark next

-- the mark is passed by a call that begins at `from`
abbrev pub is_passed : ℕ → Option ℕ → ℕ → Bool
is_passed from next mark = nat_le from mark && is_before next mark

-- the mark is from `start` to below `end`
abbrev pub is_within : ℕ → ℕ → ℕ → Bool
is_within start end mark = nat_le start mark && nat_lt mark end

-- The references whose marks are passed want no move, and the others stay.
pub record ArePassed (heap : Heap) (passed : ℕ → Bool) (marks : List ℕ) (old new : List BlockRef) : Type 0 where
  pub calm : (index mark : ℕ) (r : BlockRef) → slice_get marks index ≡ Some mark → slice_get new index ≡ Some r
      → passed mark ≡ true → wants heap r ≡ false
  pub stays : (index mark : ℕ) → slice_get marks index ≡ Some mark
      → passed mark ≡ false → slice_get new index ≡ slice_get old index

-- The answer says how many blocks and vacant item numbers were passed: no more than there was room for, and where some
-- are left, as many.
pub record IsCounted (marks vacant : List ℕ) (end from room : ℕ) (answer : Moved) : Type 0 where
  pub used : answer.used
      ≡ count_by (is_passed from answer.next) marks + count_by (is_passed from answer.next) vacant
  pub within : answer.used ≤ room
  pub on : IfSome answer.next (λ next. (from < next) × (next < end) × (answer.used ≡ room))
