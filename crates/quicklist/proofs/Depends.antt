-- Lists over blocks that others change.
use Rattle.std.proofs.Common.{◌≡◌, List, ◌++◌, length, get_or, ap, ◌∙◌, sym, inl, inr, arith, is_some, cond}
use Rattle.blocks.specs.declared.BlockRef.{BlockRef}
use Rattle.blocks.specs.Blocks.{Blocks, live, IsIn, Changes, Owned}
use Rattle.blocks.proofs.Change.{cases_in, live_once, owned_others}
use Rattle.blocks.proofs.Times.{times-append}
use Rattle.quicklist.specs.Chain.{Chain, IsQuick, elements, refs}
use Rattle.quicklist.specs.Laws.{QuickLaws}
use Rattle.quicklist.proofs.Chains.{elements_same, each_same}
use Rattle.quicklist.proofs.Overwriting.{node_exact}

own : (a b : Blocks) (q : Chain) → ((r : BlockRef) → IsIn r (refs q) → b r ≡ a r) → elements b q ≡ elements a q
own a b q same = elements_same a b q.nodes same

still_owned : (a b : Blocks) (refs : List BlockRef) → ((r : BlockRef) → IsIn r refs → b r ≡ a r) → Owned refs a → Owned refs b
still_owned a b refs same o r = elim (cases_in r refs) [
  | inl out ↦ omega (arith, out)
  | inr isin ↦ let e : live b r ≡ live a r = ap (λ x. cond (is_some x) 1 0) (same r isin) in omega (arith, o r, e)
]

sound : (a b : Blocks) (q : Chain) → ((r : BlockRef) → IsIn r (refs q) → b r ≡ a r) → IsQuick a q → IsQuick b q
sound a b q same s = record {
  chain = record { owned = still_owned a b (refs q) same s.chain.owned; each = each_same a b q.nodes same s.chain.each };
  counted = s.counted ∙ ap length (sym (own a b q same));
  formed = s.formed;
}

beside : (a b : Blocks) (q : Chain) (old new : List BlockRef) → Owned (refs q ++ old) a → Changes a b old new → (r : BlockRef) → IsIn r (refs q) → b r ≡ a r
beside a b q old new o p r isin =
    owned_others a b old new (refs q ++ old) o p r (omega (arith, isin, times-append r (refs q) old)) (omega (arith, isin, o r, times-append r (refs q) old, live_once a r))

pub quick_laws_hold : QuickLaws
quick_laws_hold = record {
  own = own;
  sound = sound;
  others = λ a b q old new o p. own a b q (beside a b q old new o p);
  stays = λ a b q old new o p. sound a b q (beside a b q old new o p);
  exact = λ a q s k d h. node_exact a (get_or q.nodes k d) (s.chain.each k d h);
}
