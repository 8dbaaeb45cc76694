-- Other blocks were placed, and the old ones were given back; and what stays beside blocks that change.
use Rattle.std.proofs.Common.{◌≡◌, cond, is_some, inl, inr, ap, List, [], ◌++◌, append-nil, subst, arith}
use Rattle.blocks.specs.declared.BlockRef.{BlockRef}
use Rattle.blocks.specs.Blocks.{Blocks, live, times, IsIn, Changes, Owned}
use Rattle.blocks.proofs.Times.{times-append}
use Rattle.blocks.proofs.Change.{cases_in, changes_beside, changes_both, changes_owned, owned_others, live_once}

module _ (a b c : Blocks) (old new : List BlockRef) (own : Owned old a) (p : Changes a b [] new) where
  pub both_owned : Owned (new ++ old) b
  both_owned = changes_owned a b old (new ++ old) (changes_beside a b [] new old (new ++ old) p own (λ r. times r old) (λ r. omega arith) (λ r. times-append r new old))

  pub old_owned : Owned old b
  old_owned r = omega (arith, both_owned r, times-append r new old)

  pub new_kept : Changes b c old [] → (r : BlockRef) → IsIn r new → c r ≡ b r
  new_kept q r isin = owned_others b c old [] (new ++ old) both_owned q r (omega (arith, isin, times-append r new old)) (omega (arith, isin, both_owned r, times-append r new old, live_once b r))

  pub replaced : Changes b c old [] → Changes a c old new
  replaced q = subst (Changes a c old) (append-nil new) (changes_both a b c [] new old [] own p q)

-- ---- blocks beside those that change

-- blocks that keep their bytes are still owned
pub still_owned : (a b : Blocks) (list : List BlockRef) → ((r : BlockRef) → IsIn r list → b r ≡ a r) → Owned list a → Owned list b
still_owned a b list same o r = elim (cases_in r list) [
  | inl out ↦ omega (arith, out)
  | inr isin ↦ let e : live b r ≡ live a r = ap (λ x. cond (is_some x) 1 0) (same r isin) in omega (arith, o r, e)
]

pub beside : (a b : Blocks) (refs old new : List BlockRef) → Owned (refs ++ old) a → Changes a b old new → (r : BlockRef) → IsIn r refs → b r ≡ a r
beside a b refs old new o p r isin =
    owned_others a b old new (refs ++ old) o p r (omega (arith, isin, times-append r refs old)) (omega (arith, isin, o r, times-append r refs old, live_once a r))
