-- What is seen behind a node of which no entry is marked deleted.
use Rattle.std.proofs.Common.{◌≡◌, Bool, List, [], ◌∷◌, refl, sym, ap, ◌∙◌}
use Rattle.std.specs.Prelude.{Option, Some, None, if◌then◌else◌}
use Rattle.stream_node.specs.declared.id.Id.{Id}
use Rattle.stream_node.specs.Entry.{Stored}
use Rattle.stream_node.specs.Node.{marked, last_id}
use Rattle.stream_object.proofs.Wholes.{none_marked}
use Rattle.rdb_streams.specs.declared.nodes.Seen.{Seen}
use Rattle.rdb_streams.specs.Seeing.{seen_more, seen_behind}

-- an id is the last one, and the greatest of an entry that isn't marked
abbrev pub both : Id → Seen
both id = record { before = Some id; greatest = Some id }

abbrev pub seen_at : Seen → Option Id → Seen
seen_at seen None = seen
seen_at seen (Some id) = both id

behind_some : (before : Option Id) (seen : Seen) (e : Stored) (es : List Stored) → marked (e ∷ es) ≡ 0 → (id : Id) × (last_id before (e ∷ es) ≡ Some id) × (seen_behind seen (e ∷ es) ≡ both id)
unfolding last_id
behind_some before seen e [] none = (
  e.id,
  refl,
  ap (λ (b : Bool). record { before = Some e.id; greatest = if b then seen.greatest else Some e.id }) (none_marked e [] none).0,
)
behind_some before seen e (f ∷ es) none = behind_some (Some e.id) (seen_more seen e) f es (none_marked e (f ∷ es) none).1

pub unmarked_seen : (seen : Seen) (es : List Stored) → marked es ≡ 0 → seen_behind seen es ≡ seen_at seen (last_id None es)
unfolding last_id
unmarked_seen seen [] none = refl
unmarked_seen seen (e ∷ es) none =
    let some = behind_some None seen e es none in
    some.2 ∙ sym (ap (seen_at seen) some.1)
