-- A sorted set whose blocks move means what it meant.
use Rattle.std.proofs.Common.{◌≡◌, ◌≢◌, ◌⊎◌, ℕ, ◌+◌, ◌<◌, ◌≤◌, [], unwrap_or, sym, ap, ◌∙◌, subst, arith, inl, inr}
use Rattle.blocks.specs.Blocks.{Blocks, bytes_at}
use Rattle.blocks.proofs.Change.{changes_then}
use Rattle.object_codec.specs.declared.limits.Limits.{Limits}
use Rattle.score_table.specs.declared.table.ScoreTable.{ScoreTable}
use Rattle.score_table.specs.Scored.{refs}
use Rattle.score_table.specs.Relocation.{IsRelocatedTable}
use Rattle.zset_object.specs.declared.scored.Packed.{Packed}
use Rattle.zset_object.specs.declared.scored.Body.TheVariants.{Pack}
use Rattle.zset_object.specs.Scored.{IsBody, IsMemberPack, scores_of, ranked_of}

-- ---- one member's block after the other

pub settled_more : (a b c : Blocks) (t u v : ScoreTable) (start k : ℕ) → start ≤ k → IsRelocatedTable a b t u (λ i. (i < start) ⊎ (k ≤ i)) → IsRelocatedTable b c u v (λ i. i ≢ k)
    → IsRelocatedTable a c t v (λ i. (i < start) ⊎ (k + 1 ≤ i))
settled_more a b c t u v start k low p q = record {
  sound = q.sound;
  scores_are = q.scores_are ∙ p.scores_are;
  ranked_are = q.ranked_are ∙ p.ranked_are;
  tables_are = q.tables_are ∙ p.tables_are;
  changes = changes_then a b c (refs t) (refs u) (refs v) p.changes q.changes;
  seed = q.seed ∙ p.seed;
  top = q.top ∙ p.top;
  same_items = λ i. q.same_items i ∙ p.same_items i;
  others = λ i h. elim h [
    | inl before' ↦ q.others i (λ same. omega (arith, before', low, same)) ∙ p.others i (inl before')
    | inr behind ↦ q.others i (λ same. omega (arith, behind, same)) ∙ p.others i (inr (omega (arith, behind)))
  ];
}

pub settled_weaker : (a b : Blocks) (t u : ScoreTable) (stays fewer : ℕ → Type 0) → ((i : ℕ) → fewer i → stays i) → IsRelocatedTable a b t u stays → IsRelocatedTable a b t u fewer
settled_weaker a b t u stays fewer weaker p = record {
  sound = p.sound;
  scores_are = p.scores_are;
  ranked_are = p.ranked_are;
  tables_are = p.tables_are;
  changes = p.changes;
  seed = p.seed;
  top = p.top;
  same_items = p.same_items;
  others = λ i h. p.others i (weaker i h);
}

-- ---- the block of a listpack

module _ (m n : Blocks) (limits : Limits) (seed : ℕ) (old new : Packed) (same : n new.at ≡ m old.at) (len : new.len ≡ old.len) where
  bytes_same : bytes_at n new.at ≡ bytes_at m old.at
  bytes_same = ap (λ o. unwrap_or o []) same

  pub pack_moved : IsBody m limits seed (Pack old) → IsBody n limits seed (Pack new)
  pack_moved is = subst (λ k. IsMemberPack limits k (bytes_at n new.at)) (sym len) (subst (IsMemberPack limits old.len) (sym bytes_same) is)
