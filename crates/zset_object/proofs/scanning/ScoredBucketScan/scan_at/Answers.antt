use Rattle.zset_object.proofs.Spans.{set_spans, set_starts}
use Rattle.zset_object.proofs.scanning.ScoredBucketScan.scan_at.Goals as goal

pub returns-in-Empty-clause-spans : goal.returns-in-Empty-clause-spans
returns-in-Empty-clause-spans c place_of can = set_spans c.args.self.now.body place_of c.args.cursor can

pub returns-in-Pack-clause-spans : goal.returns-in-Pack-clause-spans
returns-in-Pack-clause-spans c place_of can = set_spans c.args.self.now.body place_of c.args.cursor can

pub returns-in-Table-clause-spans : goal.returns-in-Table-clause-spans
returns-in-Table-clause-spans c place_of can = set_spans c.args.self.now.body place_of c.args.cursor can

pub returns-in-Empty-clause-starts : goal.returns-in-Empty-clause-starts
returns-in-Empty-clause-starts c place_of can = set_starts c.args.self.now.body place_of c.args.cursor can

pub returns-in-Pack-clause-starts : goal.returns-in-Pack-clause-starts
returns-in-Pack-clause-starts c place_of can = set_starts c.args.self.now.body place_of c.args.cursor can

pub returns-in-Table-clause-starts : goal.returns-in-Table-clause-starts
returns-in-Table-clause-starts c place_of can = set_starts c.args.self.now.body place_of c.args.cursor can
