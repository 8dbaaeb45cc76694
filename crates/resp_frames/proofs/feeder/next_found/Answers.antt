use Rattle.std.proofs.Common.{sym, subst, drop, ◌+◌}
use Rattle.std.proofs.lemmas.List.{take_rest}
use Rattle.resp_frames.specs.RequestRead.{IsBrokenAt, Stands}
use Rattle.resp_frames.specs.declared.request.Progress.{Progress}
use Rattle.resp_frames.proofs.Feeds.{stands_at_start}
use Rattle.resp_frames.proofs.FeederSteps.{passed_further}
use Rattle.resp_frames.proofs.feeder.next_found.Goals as goal

pub returns-in-Broken : goal.returns-in-Broken
returns-in-Broken c = record {
  gives = c.passed.invariant.gives;
  within = c.passed.invariant.within;
  reads = subst (λ l. IsBrokenAt l c.in-Broken.rule c.in-Broken.place) (take_rest c.args.bytes.now c.passed.at) (rw c.in-Broken.is at c.in_ok-open.ensures);
}

pub passed-preserved : goal.passed-preserved
passed-preserved c =
    let f = passed_further c.args.bytes.now c.passed.at c.in-Passed.end c.read_request.new.spans.items c.passed.invariant.gives c.passed.invariant.within (rw c.in-Passed.is at c.in_ok-open.ensures) in
    let P : Progress → Type 0 = λ p. Stands (drop (c.passed.at + c.in-Passed.end) c.args.bytes.now) p.read c.read_request.new.spans.items p.due in
    record {
      gives = f.gives;
      within = f.within;
      stands = subst P (sym c.start-read.ensures)
          (stands_at_start (drop (c.passed.at + c.in-Passed.end) c.args.bytes.now) c.read_request.new.spans.items f.none);
    }
