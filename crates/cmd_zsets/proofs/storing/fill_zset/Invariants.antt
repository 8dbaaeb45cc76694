use Rattle.std.proofs.Common.{◌≡◌, ◌≤◌, ℕ, List, true, length, map}
use Rattle.std.specs.FinMap.{get, len}
use Rattle.blocks.specs.Blocks.{Changes, Served}
use Rattle.object_codec.specs.Forms.{IsLeast}
use Rattle.zset_object.specs.Orders.{FitsScored}
use Rattle.rehash_dict.specs.Grown.{Grown}
use Rattle.rehash_dict.specs.Keyed.{hash_of}
use Rattle.zset_object.specs.Scored.{IsScored, KeepsSettings, scores, refs, form_of, tables}
use Rattle.plain_model.specs.ZsetSteps.{are_scores}
use Rattle.cmd_zsets.specs.Joined.{entry_of, gathered, or_else}
use Rattle.cmd_zsets.proofs.storing.fill_zset.Given as goal

abbrev pub invariant-members : goal.invariant-members
invariant-members g l =
    let blocks = g.B.BlockStore.blocks in
    let first = l.fn.zset in
    record {
      sound : IsScored (blocks l.store) l.zset;
      settings : KeepsSettings first l.zset;
      range : are_scores (map entry_of l.sums.entries) ≡ true;
      is : (q : List ℕ) → or_else (get (gathered l.sums) q) (get (scores (blocks l.store) l.zset) q) ≡ or_else (get (gathered l.fn.sums) q) (get (scores (blocks l.fn.store) first) q);
      least : IsLeast (FitsScored first.limits (scores (blocks l.fn.store) first)) (form_of first) → IsLeast (FitsScored first.limits (scores (blocks l.store) l.zset)) (form_of l.zset);
      changes : Changes (blocks l.fn.store) (blocks l.store) (refs first) (refs l.zset);
      grown : Grown (hash_of first.seed) (tables (blocks l.fn.store) first) (tables (blocks l.store) l.zset);
      more : len (scores (blocks l.fn.store) first) ≤ len (scores (blocks l.store) l.zset);
      served : Served g.B.BlockStore.step l.fn.store l.store;
    }

abbrev pub decreases-members : goal.decreases-members
decreases-members g l = length l.sums.entries
