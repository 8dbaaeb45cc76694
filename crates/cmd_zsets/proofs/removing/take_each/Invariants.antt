use Rattle.std.proofs.Common.{◌≡◌, ℕ, drop}
use Rattle.std.specs.FinMap.{len}
use Rattle.blocks.specs.Blocks.{Changes, Served}
use Rattle.rehash_dict.specs.Grown.{Grown}
use Rattle.rehash_dict.specs.Keyed.{hash_of}
use Rattle.zset_object.specs.Scored.{IsScored, KeepsSettings, scores, form_of, refs, tables}
use Rattle.plain_model.specs.ZsetSteps.{without_members}
use Rattle.keyspace.specs.Insides.{SettledBelow}
use Rattle.cmd_zsets.proofs.removing.take_each.Given as goal

abbrev pub invariant-loop-member : goal.invariant-loop-member
invariant-loop-member g l =
    let blocks = g.B.BlockStore.blocks in
    record {
      sound : IsScored (blocks l.store) l.zset;
      settings : KeepsSettings l.fn.zset l.zset;
      is : without_members (scores (blocks l.store) l.zset) (drop l.member-index l.members) ≡ without_members (scores (blocks l.fn.store) l.fn.zset) l.members;
      form : form_of l.zset ≡ form_of l.fn.zset;
      changes : Changes (blocks l.fn.store) (blocks l.store) (refs l.fn.zset) (refs l.zset);
      grown : Grown (hash_of l.fn.zset.seed) (tables (blocks l.fn.store) l.fn.zset) (tables (blocks l.store) l.zset);
      settles : (most : ℕ) → SettledBelow most (len (scores (blocks l.fn.store) l.fn.zset)) (tables (blocks l.fn.store) l.fn.zset)
          → SettledBelow most (len (scores (blocks l.store) l.zset)) (tables (blocks l.store) l.zset);
      served : Served g.B.BlockStore.step l.fn.store l.store;
    }
