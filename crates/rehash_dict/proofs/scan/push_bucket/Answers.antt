use Rattle.std.proofs.Common.{◌∙◌, ◌%◌, ◌++◌, sym, ap, subst}
use Rattle.rehash_dict.specs.Placed.{IsSize}
use Rattle.rehash_dict.specs.Sides.{side_rows}
use Rattle.rehash_dict.proofs.Edited.{side_size}
use Rattle.rehash_dict.proofs.Turns.{turn_bucket}
use Rattle.rehash_dict.proofs.scan.push_bucket.Goals as goal

pub bucket_of-requires-clause-size : goal.bucket_of-requires-clause-size
bucket_of-requires-clause-size g c = subst IsSize (sym c.buckets-buckets.ensures) (side_size c.args.side c.args.chains.now c.requires.stand)

pub behind-requires-clause-size : goal.behind-requires-clause-size
behind-requires-clause-size g c = subst IsSize (sym c.buckets-buckets.ensures) (side_size c.args.side c.args.chains.now c.requires.stand)

pub returns-clause-found : goal.returns-clause-found
returns-clause-found g c =
    c.in_ok-push_all.ensures.found
    ∙ ap (λ l. c.args.found.now.items ++ l)
    (c.chain.ensures ∙ turn_bucket c.args.chains.now.items c.args.chains.now.older c.args.chains.now.newer c.args.cursor c.requires.stand (side_rows c.args.side c.args.chains.now)
    c.args.cursor c.bucket_of.result (side_size c.args.side c.args.chains.now c.requires.stand) c.requires.table
    (c.bucket_of.ensures ∙ ap (λ n. c.args.cursor % n) c.buckets-buckets.ensures))
