use Rattle.std.proofs.Common.{◌≡◌, ◌≤◌, ◌-◌, ◌++◌, map, take, drop}
use Rattle.session_desk.specs.Engines.{seen}
use Rattle.session_desk.specs.Kept.{looks, kept_of, watching}
use Rattle.session_desk.specs.Watching.{watch, IsWithin}
use Rattle.session_desk.proofs.watching.watch_keys.Given as goal

abbrev pub invariant-loop-index : goal.invariant-loop-index
invariant-loop-index g l =
    let told = g.E.DeskEngine.told in
    let sees = seen g.E.DeskEngine.model l.moment l.engine in
    record {
      low : 1 ≤ l.index;
      kept : kept_of told l.session ≡ watching (kept_of told l.initial.session) (looks told l.initial.session.watched.items ++ map (watch sees l.initial.session.db) (take (l.index - 1) (drop 1 l.request)));
      within : IsWithin l.session;
    }
