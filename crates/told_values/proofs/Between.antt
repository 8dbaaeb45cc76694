-- All entries of a stream are between the least id and the greatest.
use Rattle.std.proofs.Common.{◌≡◌, ◌∙◌, ℕ, ◌+◌, ◌^◌, ◌<◌, ◌≤◌, false, true, List, [], ◌∷◌, length, take, refl, ap, arith}
use Rattle.std.specs.Prelude.{not, ◌&&◌, if◌then◌else◌}
use Rattle.std.specs.List.{filter}
use Rattle.std.specs.Ordering.{is_lt}
use Rattle.std.proofs.lemmas.List.{take_all}
use Rattle.stream_groups.specs.Groups.{id_cmp}
use Rattle.stream_node.specs.declared.id.Id.{Id}
use Rattle.stream_node.specs.Ids.{IsId, id_number}
use Rattle.plain_world.specs.Streams.{Stream, StreamEntry}
use Rattle.stream_object.specs.Streams.{pair_of}
use Rattle.stream_object.specs.Ranges.{is_between, range_of}
use Rattle.stream_object.proofs.Losing.{pair_cmp}
use Rattle.stream_object.proofs.Rises.{id_of, Fit}
use Rattle.stream_object.proofs.Later.{not_less}

below_end : (id : Id) → IsId id → id_number id < 2 ^ 128
below_end id fits = omega (arith, fits.ms, fits.seq)

module _ (from top : Id) (ff : IsId from) (ft : IsId top) (least : id_number from ≡ 0) (greatest : id_number top + 1 ≡ 2 ^ 128) where
  between : (e : StreamEntry) → IsId (id_of e) → is_between from top e ≡ true
  between e x =
      let end = below_end (id_of e) x in
      let lower : is_lt (id_cmp e.id (pair_of from)) ≡ false = ap is_lt (pair_cmp (id_of e) from x ff) ∙ not_less (id_number (id_of e)) (id_number from) (omega (arith, least)) in
      let upper : is_lt (id_cmp (pair_of top) e.id) ≡ false = ap is_lt (pair_cmp top (id_of e) ft x) ∙ not_less (id_number top) (id_number (id_of e)) (omega (arith, end, greatest)) in
      λ i. not (lower i) && not (upper i)

  all_between : (es : List StreamEntry) → Fit es → filter (is_between from top) es ≡ es
  all_between [] h = refl
  all_between (e ∷ es) h = λ i. (if between e h.0 i then e ∷ all_between es h.1 i else all_between es h.1 i)

  pub all_in_range : (s : Stream) (limit : ℕ) → Fit s.entries → length s.entries ≤ limit → range_of s from top false limit ≡ s.entries
  all_in_range s limit fit few = ap (take limit) (all_between s.entries fit) ∙ take_all limit s.entries few
