-- What the forms in memory do by the number of a call: some are to fail, and a list bounds the others.
use Rattle.std.specs.Prelude.{◌≡◌, ℕ, ◌&&◌, ◌||◌, Bool, not, min, max, List, None, Some, Result, is_ok, nat_eq, nat_lt, slice_get}
use Rattle.std.specs.List.{list_any}
use Rattle.outside.specs.Counts.{Rose}

-- the call of this number is to fail
abbrev pub is_failing : List ℕ → ℕ → Bool
is_failing failing call = list_any (λ k. nat_eq k call) failing

-- what a form in memory goes by: the numbers of the calls that are to fail, and how many calls there were, up to the
-- greatest u64
pub record Script : Type 0 where
  pub failing : List ℕ
  pub calls : ℕ

-- a call is counted, and fails exactly where its number is to fail or it can't be done
pub record IsCall {T E : Type 0} (old new : Script) (can_be_done : Bool) (result : Result T E) : Type 0 where
  pub same : new.failing ≡ old.failing
  pub counted : Rose old.calls new.calls
  pub fails : is_ok result ≡ (not (is_failing old.failing old.calls) && can_be_done)

-- as many as there are, up to the piece of the call's number, where 0 counts as 1; behind the list of pieces all
abbrev pub bounded : List ℕ → ℕ → ℕ → ℕ
bounded pieces call most = elim (slice_get pieces call) [ None ↦ most | Some piece ↦ min most (max piece 1) ]

-- a piece has place where it is empty or any room is left
abbrev pub has_place : ℕ → ℕ → Bool
has_place room piece = nat_eq piece 0 || nat_lt 0 room
