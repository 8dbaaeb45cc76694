-- The first entry of a stream.
use Rattle.std.proofs.Common.{◌≡◌, ◌<◌, true, false, List, [], ◌∷◌, ◌++◌, length, map, refl, sym, ap, subst, ◌∙◌, arith}
use Rattle.std.specs.List.{AllByRecursion}
use Rattle.std.specs.Prelude.{not}
use Rattle.blocks.specs.Blocks.{Blocks}
use Rattle.stream_node.specs.declared.id.Id.{Id}
use Rattle.stream_node.specs.declared.entry.Entry.{Entry}
use Rattle.stream_node.specs.Entry.{Stored}
use Rattle.stream_node.specs.Ids.{id_number}
use Rattle.stream_node.specs.View.{stored}
use Rattle.plain_world.specs.Streams.{StreamEntry}
use Rattle.stream_object.specs.Found.{IsNear, Misses}
use Rattle.stream_object.specs.Parts.{Part, IsPart, live_of, live_in, entries_in, plain, is_live}
use Rattle.stream_object.specs.Streams.{pair_of}
use Rattle.stream_object.proofs.Marking.{live_append}
use Rattle.std.proofs.lemmas.Bool.{cond-true}
use Rattle.std.specs.List.{filter}
use Rattle.rdb_stream_writer.specs.Streams.{first_of}

-- an entry that is live, behind others that aren't
pub first_is : (xs : List Entry) (x : Entry) (left rest all : List Stored) → map stored xs ++ left ≡ all → left ≡ stored x ∷ rest → live_of (map stored xs) ≡ [] → (stored x).deleted ≡ false
    → pair_of (stored x).id ≡ first_of (live_of all)
first_is xs x left rest all is next none live =
    let here : live_of (stored x ∷ rest) ≡ plain (stored x) ∷ live_of rest = ap (map plain) (cond-true (is_live (stored x)) (stored x ∷ filter is_live rest) (filter is_live rest) (ap not live)) in
    sym (ap (λ es. first_of (live_of es)) (sym is) ∙ ap first_of (live_append (map stored xs) left) ∙ ap (λ es. first_of (es ++ live_of left)) none ∙ ap (λ es. first_of (live_of es)) next ∙ ap first_of here)

first_append : (es fs : List StreamEntry) → 0 < length es → first_of (es ++ fs) ≡ first_of es
first_append [] fs some = absurd (omega (arith, some))
first_append (e ∷ es) fs some = refl

node_at : (m : Blocks) (before after : List Part) (p : Part) → AllByRecursion (IsPart m) (before ++ p ∷ after) → IsPart m p
node_at m [] after p h = h.0
node_at m (q ∷ before) after p h = node_at m before after p h.1

none_before : (id : Id) (ps : List Part) → id_number id ≡ 0 → AllByRecursion (Misses true id) ps → ps ≡ []
none_before id [] zero h = refl
none_before id (p ∷ ps) zero h = absurd (omega (arith, zero, h.0))

module _ (m : Blocks) (ps : List Part) (id : Id) (zero : id_number id ≡ 0) (each : AllByRecursion (IsPart m) ps) where
  pub found_node : (p : Part) → IsNear true ps id p → IsPart m p
  found_node p near = node_at m near.before near.after p (subst (AllByRecursion (IsPart m)) near.place each)

  pub found_first : (p : Part) → IsNear true ps id p → first_of (live_in p) ≡ first_of (entries_in ps)
  found_first p near =
      let at_once : ps ≡ p ∷ near.after = near.place ∙ ap (λ qs. qs ++ p ∷ near.after) (none_before id near.before zero near.passes) in
      sym (ap (λ qs. first_of (entries_in qs)) at_once ∙ first_append (live_in p) (entries_in near.after) (found_node p near).is_node.some)

  pub found_none : AllByRecursion (Misses true id) ps → first_of (entries_in ps) ≡ (0, 0)
  found_none h = ap (λ qs. first_of (entries_in qs)) (none_before id ps zero h)
