-- A move of a scan over a packed form gives all items at once.
use Rattle.std.proofs.Common.{ℕ, [], Option}
use Rattle.rev_cursor.specs.Span.{Span, StartsAt}
use Rattle.rehash_dict.proofs.Scans.{move_spans, move_starts}
use Rattle.zset_object.specs.declared.scored.Body.{Body}
use Rattle.zset_object.specs.declared.scored.Body.TheVariants.{Empty, Pack, Table}
use Rattle.zset_object.specs.Scan.{moved, CanStand}
use Rattle.collection_walk.proofs.Spans.{all_spans, all_starts}
use Rattle.collection_walk.specs.Places.{upto}

pub set_spans : (body : Body) (place_of : ℕ → Option ℕ) (cursor : ℕ) → CanStand body place_of → Span place_of cursor (moved body cursor).1 (moved body cursor).0
set_spans Empty place_of cursor can = all_spans 0 cursor place_of can
set_spans (Pack p) place_of cursor can = all_spans p.len cursor place_of can
set_spans (Table t) place_of cursor can = move_spans t.table place_of cursor can

pub set_starts : (body : Body) (place_of : ℕ → Option ℕ) (cursor : ℕ) → CanStand body place_of → StartsAt place_of (moved body cursor).1 (moved body (moved body cursor).1).0
set_starts Empty place_of cursor can = all_starts place_of []
set_starts (Pack p) place_of cursor can = all_starts place_of (upto p.len)
set_starts (Table t) place_of cursor can = move_starts t.table place_of cursor can
