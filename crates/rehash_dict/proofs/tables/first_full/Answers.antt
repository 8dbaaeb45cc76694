use Rattle.std.proofs.Common.{inl, inr, sym, arith, refl, ap, ◌∙◌}
use Rattle.std.proofs.lemmas.Bool.{cases_eq, cases_lt}
use Rattle.rehash_dict.specs.Tables.{bucket}
use Rattle.rehash_dict.proofs.Counts.{bucket_past}
use Rattle.rehash_dict.proofs.Fulls.{full_found, full_none}
use Rattle.rehash_dict.proofs.tables.first_full.Goals as goal

pub loop-at-init : goal.loop-at-init
loop-at-init g c k from to = absurd (omega arith)

pub returns-then-not-is_empty : goal.returns-then-not-is_empty
returns-then-not-is_empty g c =
    sym
    (full_found c.args.chains.now.older 10 c.args.position c.loop-at.at c.loop-at.auto.at (omega (arith, c.min-at-end.ensures, c.saturating_add.ensures)) c.loop-at.invariant
    (λ h. let q = c.if-not-is_empty.ensures.1 h in cc))

pub loop-at-preserved : goal.loop-at-preserved
loop-at-preserved g c k from to = elim (cases_eq k c.loop-at.at) [
  | inl here ↦ ap (bucket c.args.chains.now.older) here ∙ c.if-not-is_empty.ensures.0 refl
  | inr other ↦ c.loop-at.invariant k from (omega arith)
]

pub returns : goal.returns
returns g c = sym (full_none c.args.chains.now.older 10 c.args.position (λ k from to. elim (cases_lt k c.loop-at.at) [
  | inl before ↦ c.loop-at.invariant k from before
  | inr over ↦ bucket_past c.args.chains.now.older k (omega (arith, c.buckets-buckets.ensures, c.min-at-end.ensures, c.saturating_add.ensures))
]))
