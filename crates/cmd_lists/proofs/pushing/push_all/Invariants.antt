use Rattle.std.proofs.Common.{◌≡◌, drop}
use Rattle.blocks.specs.Blocks.{Changes, Served}
use Rattle.quicklist.specs.Chain.{elements, refs, IsQuick}
use Rattle.plain_model.specs.ListSteps.{added}
use Rattle.cmd_lists.proofs.Rising.{RisesSoFar}
use Rattle.cmd_lists.proofs.pushing.push_all.Given as goal

abbrev pub invariant-loop-word : goal.invariant-loop-word
invariant-loop-word g l =
    let blocks = g.B.BlockStore.blocks in
    record {
      quick : IsQuick (blocks l.store) l.list;
      is : added l.end (elements (blocks l.store) l.list) (drop l.word-index l.words) ≡ added l.fn.end (elements (blocks l.fn.store) l.fn.list) l.words;
      form : RisesSoFar l.words (drop l.word-index l.words) l.fn.list.form (elements (blocks l.store) l.list) l.list.form;
      changes : Changes (blocks l.fn.store) (blocks l.store) (refs l.fn.list) (refs l.list);
      served : Served g.B.BlockStore.step l.fn.store l.store;
    }
