use Rattle.std.proofs.Common.{◌≡◌, ◌+◌, ◌≤◌, drop}
use Rattle.blocks.specs.Blocks.{Changes, Served}
use Rattle.object_codec.specs.declared.form.Form.{Form}
use Rattle.rehash_dict.specs.Grown.{Grown}
use Rattle.rehash_dict.specs.Keyed.{hash_of}
use Rattle.zset_object.specs.Scored.{IsScored, KeepsSettings, scores, form_of, refs, tables}
use Rattle.plain_model.specs.ZsetSteps.{write_scores}
use Rattle.plain_model.specs.ZsetSteps as model
use Rattle.keyspace.specs.Forms.{RisesUnder}
use Rattle.cmd_zsets.proofs.adding.write_each.Given as goal

abbrev pub invariant-loop-pair : goal.invariant-loop-pair
invariant-loop-pair g l =
    let blocks = g.B.BlockStore.blocks in
    let before = scores (blocks l.fn.store) l.fn.zset in
    let now = scores (blocks l.store) l.zset in
    record {
      sound : IsScored (blocks l.store) l.zset;
      settings : KeepsSettings l.fn.zset l.zset;
      is : write_scores l.rules now (drop l.pair-index l.pairs) ≡ write_scores l.rules before l.pairs;
      few : l.changed ≤ l.pair-index;
      counted : l.changed + model.changes l.rules now (drop l.pair-index l.pairs) ≡ model.changes l.rules before l.pairs;
      risen : (form : Form) → RisesUnder l.rules l.fn.zset.limits (form_of l.zset) now (drop l.pair-index l.pairs) form → RisesUnder l.rules l.fn.zset.limits (form_of l.fn.zset) before l.pairs form;
      changes : Changes (blocks l.fn.store) (blocks l.store) (refs l.fn.zset) (refs l.zset);
      grown : Grown (hash_of l.fn.zset.seed) (tables (blocks l.fn.store) l.fn.zset) (tables (blocks l.store) l.zset);
      served : Served g.B.BlockStore.step l.fn.store l.store;
    }
