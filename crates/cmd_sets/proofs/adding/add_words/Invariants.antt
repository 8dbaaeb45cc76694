use Rattle.std.proofs.Common.{◌≡◌, drop}
use Rattle.blocks.specs.Blocks.{Changes, Served}
use Rattle.object_codec.specs.declared.form.Form.{Form}
use Rattle.rehash_dict.specs.Grown.{Grown}
use Rattle.rehash_dict.specs.Keyed.{hash_of}
use Rattle.set_object.specs.Members.{IsMembers, KeepsSettings, members, refs, form_of, tables}
use Rattle.plain_model.specs.SetSteps.{add_all}
use Rattle.keyspace.specs.Forms.{RisesWith}
use Rattle.cmd_sets.proofs.adding.add_words.Given as goal

abbrev pub invariant-loop-word : goal.invariant-loop-word
invariant-loop-word g l =
    let blocks = g.B.BlockStore.blocks in
    let first = l.fn.set in
    record {
      sound : IsMembers (blocks l.store) l.set;
      settings : KeepsSettings first l.set;
      is : add_all (members (blocks l.store) l.set) (drop l.word-index l.words) ≡ add_all (members (blocks l.fn.store) first) l.words;
      risen : (form : Form) → RisesWith first.limits (form_of l.set) (members (blocks l.store) l.set) (drop l.word-index l.words) form
          → RisesWith first.limits (form_of first) (members (blocks l.fn.store) first) l.words form;
      changes : Changes (blocks l.fn.store) (blocks l.store) (refs first) (refs l.set);
      grown : Grown (hash_of first.seed) (tables (blocks l.fn.store) first) (tables (blocks l.store) l.set);
      served : Served g.B.BlockStore.step l.fn.store l.store;
    }
