use Rattle.std.specs.Int.{w64}
use Rattle.std.proofs.lemmas.Int.{to_z-of_z}
use Rattle.rdb_parts.proofs.Penned.{writes_then}
use Rattle.rdb_writer.proofs.Ranked.{magnitude}
use Rattle.rdb_writer.proofs.sorted.write_member.Goals as goal

pub write_score-requires : goal.write_score-requires
write_score-requires g c = rw (to_z-of_z w64 c.args.score c.ranges.score) (magnitude c.args.score c.requires)

pub returns : goal.returns
returns g c =
    let score = rw (to_z-of_z w64 c.args.score c.ranges.score) at c.write_score.ensures in
    writes_then _ _ _ _ _ _ _ _ c.write_score.result c.in_ok-write_element.ensures score
