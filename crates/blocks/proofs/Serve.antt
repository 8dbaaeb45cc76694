-- How what a store was served goes on.
use Rattle.std.proofs.Common.{◌≡◌, sym, subst, refl, ap, ◌∙◌}
use Rattle.blocks.specs.Blocks.{Blocks, Served, no_step, one_more}
use Rattle.blocks.specs.Slabs.{Heap}
use Rattle.blocks.specs.Steps.{IsStep, stayed, placed, returned, written, stretched}

-- a store and itself
pub served_same : {S : Type 0} {step : S → S → Type 0} (a b : S) → b ≡ a → Served step a b
served_same {step = step} a b same = subst (λ s. Served step a s) (sym same) no_step

-- one call
pub served_once : {S : Type 0} {step : S → S → Type 0} (a b : S) → step a b → Served step a b
served_once a b s = one_more a b no_step s

-- one call more
pub served_next : {S : Type 0} {step : S → S → Type 0} (a b c : S) → Served step a b → step b c → Served step a c
served_next a b c p s = one_more b c p s

-- one list of calls after another
pub served_then : {S : Type 0} {step : S → S → Type 0} (a b c : S) → Served step a b → Served step b c → Served step a c
served_then a b _ p no_step = p
served_then a b _ p (one_more mid last q s) = one_more mid last (served_then a b mid p q) s

-- what holds over each call holds over a list of them
pub served_keeps : {S : Type 0} {step : S → S → Type 0} (P : S → S → Type 0) → ((a : S) → P a a) → ((a b c : S) → P a b → step b c → P a c) → (a b : S) → Served step a b → P a b
served_keeps P same next a _ no_step = same a
served_keeps P same next a _ (one_more mid last q s) = next a mid last (served_keeps P same next a mid q) s

-- a weaker kind of call
pub served_weaker : {S : Type 0} {step weaker : S → S → Type 0} → ((a b : S) → step a b → weaker a b) → (a b : S) → Served step a b → Served weaker a b
served_weaker f a _ no_step = no_step
served_weaker f a _ (one_more mid last q s) = one_more mid last (served_weaker f a mid q) (f mid last s)

-- an open pass stays open
pub step_passing : (m n : Blocks) (h k : Heap) → IsStep m h n k → k.passing ≡ h.passing
step_passing m n h k (stayed same kept) = ap (λ x. x.passing) kept
step_passing m n h k (placed at len fresh is open') = open'
step_passing m n h k (returned at was is open') = open'
step_passing m n h k (written at from piece was room is kept) = ap (λ x. x.passing) kept
step_passing m n h k (stretched at len was fits is kept) = ap (λ x. x.passing) kept

pub served_passing : {S : Type 0} {step : S → S → Type 0} (blocks : S → Blocks) (heap : S → Heap) → ((a b : S) → step a b → IsStep (blocks a) (heap a) (blocks b) (heap b)) → (a b : S)
    → Served step a b → (heap b).passing ≡ (heap a).passing
served_passing blocks heap kinds a b p = served_keeps (λ s t. (heap t).passing ≡ (heap s).passing) (λ s. refl)
    (λ s t u e step. step_passing (blocks t) (blocks u) (heap t) (heap u) (kinds t u step) ∙ e) a b p
