use Rattle.std.proofs.Common.{◌∙◌, ◌++◌, ap}
use Rattle.rehash_dict.specs.Scan.{scanned}
use Rattle.rehash_dict.proofs.Scans.{move_spans, move_starts}
use Rattle.rehash_dict.proofs.scan.DictBucketScan.scan_at.Goals as goal

pub returns-in-Err-clause-spans : goal.returns-in-Err-clause-spans
returns-in-Err-clause-spans g c place_of can = move_spans c.args.self.now place_of c.args.cursor can

pub returns-in-Err-clause-starts : goal.returns-in-Err-clause-starts
returns-in-Err-clause-starts g c place_of can = move_starts c.args.self.now place_of c.args.cursor can

pub returns-in-Ok-clause-spans : goal.returns-in-Ok-clause-spans
returns-in-Ok-clause-spans g c place_of can = move_spans c.args.self.now place_of c.args.cursor can

pub returns-in-Ok-clause-starts : goal.returns-in-Ok-clause-starts
returns-in-Ok-clause-starts g c place_of can = move_starts c.args.self.now place_of c.args.cursor can

pub returns-in-Ok-clause-found : goal.returns-in-Ok-clause-found
returns-in-Ok-clause-found g c = c.in-Ok.ensures.found ∙ ap (λ x. c.args.found.now.items ++ (scanned x.older x.newer c.args.cursor).0) c.chains.ensures.value

pub returns-in-Ok-clause-next : goal.returns-in-Ok-clause-next
returns-in-Ok-clause-next g c = c.in-Ok.ensures.next ∙ ap (λ x. (scanned x.older x.newer c.args.cursor).1) c.chains.ensures.value
