use Rattle.std.proofs.Common.{◌≡◌, ◌<◌, ◌%◌, ◌∙◌, length, sym, ap, subst}
use Rattle.rev_cursor.specs.Span.{times}
use Rattle.rehash_dict.specs.Tables.{bucket}
use Rattle.rehash_dict.specs.Placed.{IsSize}
use Rattle.rehash_dict.specs.Sides.{side_rows}
use Rattle.rehash_dict.specs.Steps.{table_rows, Takes}
use Rattle.rehash_dict.proofs.Leaves.{in_split}
use Rattle.rehash_dict.proofs.Edited.{table_of, side_table, side_size, takes}
use Rattle.rehash_dict.proofs.dict.Dict.take.Goals as goal

pub bucket_of-number-requires-clause-size : goal.bucket_of-number-requires-clause-size
bucket_of-number-requires-clause-size g c = subst IsSize (sym c.buckets.ensures) (side_size c.args.side c.self.inside.chains c.self.invariant.kept.stand)

pub returns : goal.returns
returns g c =
    let rows : side_rows c.args.side c.self.inside.chains ≡ table_rows c.args.side c.args.self.now =
    side_table c.args.side c.self.inside.chains c.self.inside.position c.self.inside.seed c.self.inside.top c.args.self.now c.self.view_is in
    let row : bucket (side_rows c.args.side c.self.inside.chains) c.bucket_of-number.result ≡ bucket (table_rows c.args.side c.args.self.now)
    (c.args.hash % length (table_rows c.args.side c.args.self.now))
    = ap (bucket (side_rows c.args.side c.self.inside.chains)) (c.bucket_of-number.ensures ∙ ap (λ n. c.args.hash % n) c.buckets.ensures) ∙ ap (λ rs. bucket rs (c.args.hash % length rs)) rows in
    let inside : 0 < times c.args.spot.at (bucket (side_rows c.args.side c.self.inside.chains) c.bucket_of-number.result)
    = in_split c.requires.behind.front c.requires.behind.rest _ c.args.spot.at (row ∙ c.requires.behind.is) in
    subst
    (λ old. Takes old (table_of c.end_if_moved-self-inside.new.chains c.end_if_moved-self-inside.result c.self.inside.seed c.self.inside.top) c.args.spot.at c.remove-pair.result.0
    c.remove-pair.result.1) c.self.view_is
    (takes c.self.inside.chains c.remove-pair.new.self c.end_if_moved-self-inside.new.chains c.self.inside.position c.end_if_moved-self-inside.result c.self.inside.seed c.self.inside.top
    c.bucket_of-number.result c.args.spot.at c.remove-pair.result.0 c.remove-pair.result.1
    c.self.invariant c.end_if_moved-self-inside.ensures.rebuilds c.end_if_moved-self-inside.ensures.tables c.args.side c.remove-pair.ensures inside)
