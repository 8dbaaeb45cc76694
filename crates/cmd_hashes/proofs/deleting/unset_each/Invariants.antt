use Rattle.std.proofs.Common.{◌≡◌, ℕ, drop}
use Rattle.std.specs.FinMap.{len}
use Rattle.blocks.specs.Blocks.{Changes, Served}
use Rattle.rehash_dict.specs.Grown.{Grown}
use Rattle.rehash_dict.specs.Keyed.{hash_of}
use Rattle.hash_object.specs.Fields.{IsFields, KeepsSettings, fields, form_of, refs, tables}
use Rattle.plain_model.specs.HashSteps.{unset_all}
use Rattle.keyspace.specs.Insides.{SettledBelow}
use Rattle.cmd_hashes.proofs.deleting.unset_each.Given as goal

abbrev pub invariant-loop-name : goal.invariant-loop-name
invariant-loop-name g l =
    let blocks = g.B.BlockStore.blocks in
    record {
      sound : IsFields (blocks l.store) l.hash;
      settings : KeepsSettings l.fn.hash l.hash;
      is : unset_all (fields (blocks l.store) l.hash) (drop l.name-index l.names) ≡ unset_all (fields (blocks l.fn.store) l.fn.hash) l.names;
      form : form_of l.hash ≡ form_of l.fn.hash;
      changes : Changes (blocks l.fn.store) (blocks l.store) (refs l.fn.hash) (refs l.hash);
      grown : Grown (hash_of l.fn.hash.seed) (tables (blocks l.fn.store) l.fn.hash) (tables (blocks l.store) l.hash);
      settles : (most : ℕ) → SettledBelow most (len (fields (blocks l.fn.store) l.fn.hash)) (tables (blocks l.fn.store) l.fn.hash)
          → SettledBelow most (len (fields (blocks l.store) l.hash)) (tables (blocks l.store) l.hash);
      served : Served g.B.BlockStore.step l.fn.store l.store;
    }
