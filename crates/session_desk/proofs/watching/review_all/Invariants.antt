use Rattle.std.specs.List.{All}
use Rattle.session_desk.specs.Engines.{seen}
use Rattle.session_desk.specs.Kept.{all_kept, new_kept}
use Rattle.session_desk.specs.Watching.{Reviews, IsWithin}
use Rattle.session_desk.specs.Passing.{Passed}
use Rattle.session_desk.specs.Writing.{IsAmong}
use Rattle.session_desk.proofs.Lists.{Upto}
use Rattle.session_desk.proofs.watching.review_all.Given as goal

abbrev pub invariant-loop-index : goal.invariant-loop-index
invariant-loop-index g l =
    let told = g.E.DeskEngine.told in
    record {
      upto : Upto new_kept (Reviews (λ one new. Passed (IsAmong l.written one.db one.key) (seen g.E.DeskEngine.model l.moment l.engine) one new)) l.index
          (all_kept told l.initial.sessions.items) (all_kept told l.sessions.items);
      within : All IsWithin l.sessions.items;
    }
