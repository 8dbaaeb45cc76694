use Rattle.std.proofs.Common.{◌∙◌, ap, length, sym, subst, arith}
use Rattle.rehash_dict.specs.Placed.{IsSize}
use Rattle.rehash_dict.specs.Scan.{bits_of}
use Rattle.rehash_dict.proofs.Edited.{side_size}
use Rattle.rehash_dict.proofs.Scanning.{stand_held, end_none, end_some}
use Rattle.rehash_dict.proofs.dict.Dict.scan_end.Goals as goal

pub returns-then-buckets-eq0 : goal.returns-then-buckets-eq0
returns-then-buckets-eq0 g c = end_none c.chains-chains.result.now c.args.self.now.position c.args.self.now.seed c.args.self.now.top c.args.self.now c.args.cursor
    c.chains-chains.ensures.value c.chains-chains.ensures.placed (omega (arith, c.buckets.ensures, c.if-buckets-eq0.true))

pub behind-requires-clause-size : goal.behind-requires-clause-size
behind-requires-clause-size g c = subst IsSize (sym c.buckets-2.ensures)
    (side_size c.smaller.result c.chains-chains.result.now
    (stand_held c.chains-chains.result.now c.args.self.now.position c.args.self.now.seed c.args.self.now.top c.args.self.now c.args.cursor c.chains-chains.ensures.value
    c.chains-chains.ensures.placed))

pub returns : goal.returns
returns g c = end_some c.chains-chains.result.now c.args.self.now.position c.args.self.now.seed c.args.self.now.top c.args.self.now c.args.cursor c.chains-chains.ensures.value
    c.chains-chains.ensures.placed (bits_of c.buckets-2.result) c.behind.result (omega (arith, c.buckets.ensures, c.if-buckets-eq0.false))
    (ap bits_of c.buckets-2.ensures ∙ ap (λ r. bits_of (length r)) c.smaller.ensures) c.behind.ensures
