use Rattle.std.proofs.Common.{◌≡◌, drop}
use Rattle.blocks.specs.Blocks.{Changes, Served}
use Rattle.object_codec.specs.declared.form.Form.{Form}
use Rattle.rehash_dict.specs.Grown.{Grown}
use Rattle.rehash_dict.specs.Keyed.{hash_of}
use Rattle.hash_object.specs.Fields.{IsFields, KeepsSettings, fields, form_of, refs, tables}
use Rattle.plain_model.specs.HashSteps.{set_all}
use Rattle.keyspace.specs.Forms.{RisesBy}
use Rattle.cmd_hashes.proofs.setting.set_each.Given as goal

abbrev pub invariant-loop-pair : goal.invariant-loop-pair
invariant-loop-pair g l =
    let blocks = g.B.BlockStore.blocks in
    let before = fields (blocks l.fn.store) l.fn.hash in
    let now = fields (blocks l.store) l.hash in
    record {
      sound : IsFields (blocks l.store) l.hash;
      settings : KeepsSettings l.fn.hash l.hash;
      is : set_all now (drop l.pair-index l.pairs) ≡ set_all before l.pairs;
      risen : (form : Form) → RisesBy l.fn.hash.limits (form_of l.hash) now (drop l.pair-index l.pairs) form → RisesBy l.fn.hash.limits (form_of l.fn.hash) before l.pairs form;
      changes : Changes (blocks l.fn.store) (blocks l.store) (refs l.fn.hash) (refs l.hash);
      grown : Grown (hash_of l.fn.hash.seed) (tables (blocks l.fn.store) l.fn.hash) (tables (blocks l.store) l.hash);
      served : Served g.B.BlockStore.step l.fn.store l.store;
    }
