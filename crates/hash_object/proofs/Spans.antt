-- A move of a scan over a packed form gives all items at once.
use Rattle.std.proofs.Common.{ℕ, [], Option}
use Rattle.rev_cursor.specs.Span.{Span, StartsAt}
use Rattle.rehash_dict.proofs.Scans.{move_spans, move_starts}
use Rattle.hash_object.specs.declared.fields.Body.{Body}
use Rattle.hash_object.specs.declared.fields.Body.TheVariants.{Empty, Pack, Table}
use Rattle.hash_object.specs.Scan.{moved, CanStand}
use Rattle.collection_walk.proofs.Spans.{all_spans, all_starts}
use Rattle.collection_walk.specs.Places.{upto}

pub hash_spans : (body : Body) (place_of : ℕ → Option ℕ) (cursor : ℕ) → CanStand body place_of → Span place_of cursor (moved body cursor).1 (moved body cursor).0
hash_spans Empty place_of cursor can = all_spans 0 cursor place_of can
hash_spans (Pack p) place_of cursor can = all_spans p.len cursor place_of can
hash_spans (Table t) place_of cursor can = move_spans t place_of cursor can

pub hash_starts : (body : Body) (place_of : ℕ → Option ℕ) (cursor : ℕ) → CanStand body place_of → StartsAt place_of (moved body cursor).1 (moved body (moved body cursor).1).0
hash_starts Empty place_of cursor can = all_starts place_of []
hash_starts (Pack p) place_of cursor can = all_starts place_of (upto p.len)
hash_starts (Table t) place_of cursor can = move_starts t place_of cursor can
