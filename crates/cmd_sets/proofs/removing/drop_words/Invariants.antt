use Rattle.std.proofs.Common.{◌≡◌, ◌<◌, ℕ, drop}
use Rattle.std.specs.FinMap.{len}
use Rattle.blocks.specs.Blocks.{Changes, Served}
use Rattle.rehash_dict.specs.Grown.{Grown}
use Rattle.rehash_dict.specs.Keyed.{hash_of}
use Rattle.set_object.specs.Members.{IsMembers, KeepsSettings, members, refs, form_of, tables}
use Rattle.plain_model.specs.SetSteps.{drop_all}
use Rattle.keyspace.specs.Insides.{SettledBelow}
use Rattle.cmd_sets.proofs.removing.drop_words.Given as goal

abbrev pub invariant-loop-word : goal.invariant-loop-word
invariant-loop-word g l =
    let blocks = g.B.BlockStore.blocks in
    let first = l.fn.set in
    record {
      sound : IsMembers (blocks l.store) l.set;
      settings : KeepsSettings first l.set;
      is : drop_all (members (blocks l.store) l.set) (drop l.word-index l.words) ≡ drop_all (members (blocks l.fn.store) first) l.words;
      kept : 0 < len (members (blocks l.store) l.set) → form_of l.set ≡ form_of first;
      changes : Changes (blocks l.fn.store) (blocks l.store) (refs first) (refs l.set);
      grown : Grown (hash_of first.seed) (tables (blocks l.fn.store) first) (tables (blocks l.store) l.set);
      settles : (most : ℕ) → SettledBelow most (len (members (blocks l.fn.store) first)) (tables (blocks l.fn.store) first)
          → SettledBelow most (len (members (blocks l.store) l.set)) (tables (blocks l.store) l.set);
      served : Served g.B.BlockStore.step l.fn.store l.store;
    }
