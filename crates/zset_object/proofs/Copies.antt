-- Bodies that are copied.
use Rattle.std.proofs.Common.{◌≡◌, ℕ, [], ◌∷◌, Some, refl, sym, ap, ◌∙◌, subst, arith}
use Rattle.blocks.specs.declared.BlockRef.{BlockRef}
use Rattle.blocks.specs.Blocks.{Blocks, bytes_at, with_block, Changes}
use Rattle.blocks.proofs.Change.{changes_same}
use Rattle.object_codec.specs.declared.limits.Limits.{Limits}
use Rattle.rehash_dict.specs.Keyed.{hash_of}
use Rattle.rehash_dict.proofs.Growing.{grown_same}
use Rattle.score_table.specs.declared.table.ScoreTable.{ScoreTable}
use Rattle.score_table.specs.Scored as table
use Rattle.score_table.specs.Copied.{IsCopied}
use Rattle.zset_object.specs.declared.scored.Packed.{Packed}
use Rattle.zset_object.specs.declared.scored.Body.{Body}
use Rattle.zset_object.specs.declared.scored.Body.TheVariants.{Empty, Pack, Table}
use Rattle.zset_object.specs.Scored.{IsBody, IsMemberPack, IsPlacedBody, scores_of}
use Rattle.zset_object.proofs.Bodies.{pack_len}
use Rattle.zset_object.proofs.Placing.{pack_placed}

pub pack_copied : (m n : Blocks) (limits : Limits) (seed : ℕ) (body : Body) (p : Packed) (at : BlockRef) → IsBody m limits seed body → n ≡ with_block m at (Some (bytes_at m p.at))
    → Changes m n [] (at ∷ []) → body ≡ Pack p
    → IsPlacedBody m n limits seed (Pack (record { at = at; len = p.len })) (scores_of m body)
pack_copied m n limits seed body p at sound placed changes is =
    let old : IsMemberPack limits p.len (bytes_at m p.at) = subst (IsBody m limits seed) is sound in
    pack_placed m n limits seed at p.len (bytes_at m p.at) placed changes (scores_of m body) old.pack (sym (ap (scores_of m) is)) (pack_len m limits seed body p is sound) old.few old.short

pub empty_copied : (m : Blocks) (limits : Limits) (seed : ℕ) (body : Body) → body ≡ Empty → IsPlacedBody m m limits seed Empty (scores_of m body)
empty_copied m limits seed body is = record {
  sound = tt;
  scores_are = ap (scores_of m) (sym is);
  changes = changes_same m [] (λ r. omega arith);
  grown = grown_same (hash_of seed) table.no_tables table.no_tables refl;
}

pub table_copied : (m n : Blocks) (limits : Limits) (seed : ℕ) (body : Body) (t copy : ScoreTable) → body ≡ Table t → IsCopied m n seed copy (table.scores m t)
    → IsPlacedBody m n limits seed (Table copy) (scores_of m body)
table_copied m n limits seed body t copy is h = record {
  sound = record { sound = h.sound; seed_is = h.seed_is };
  scores_are = h.scores_are ∙ ap (scores_of m) (sym is);
  changes = h.changes;
  grown = h.grown;
}
