use Rattle.std.proofs.Common.{refl}
use Rattle.blocks.proofs.Sweeps.{calmer_same}
use Rattle.collection_walk.specs.Marks.{is_passed}
use Rattle.stream_object.specs.Streams.{marks, refs}
use Rattle.stream_object.proofs.Passed.{passes_calm, passes_indexed}
use Rattle.stream_object.proofs.Walkings.{marks_many, moves_none, relocated}
use Rattle.stream_object.proofs.stream.Stream.relocate_part.Goals as goal

pub returns-then-is_calm : goal.returns-then-is_calm
returns-then-is_calm g c =
    let m = g.B.BlockStore.blocks c.args.store.now in
    let s = c.args.self.now in
    let h = g.B.BlockStore.heap c.args.store.now in
    let moves = moves_none m s.tree c.requires.is_stream.parts in
    record {
      relocated = record { is_stream = c.requires.is_stream; value_is = refl; marks_are = refl; changes = moves.changes };
      passed = passes_indexed _ _ _ _ _ (passes_calm h (is_passed c.args.from c.count_keys.result.next) (marks m s) (refs m s) (marks_many m s.tree) c.if-is_calm.ensures);
      bounded = c.count_keys.ensures;
      calmer = calmer_same h;
    }

pub returns-clause-relocated : goal.returns-clause-relocated
returns-clause-relocated g c =
    relocated (g.B.BlockStore.blocks c.args.store.now) (g.B.BlockStore.blocks c.pass_keys-moved.new.store) c.args.self.now _ c.requires.is_stream c.pass_keys-moved.ensures.moves refl refl
    refl refl refl refl

pub returns-clause-passed : goal.returns-clause-passed
returns-clause-passed g c = passes_indexed _ _ _ _ _ c.pass_keys-moved.ensures.passed
