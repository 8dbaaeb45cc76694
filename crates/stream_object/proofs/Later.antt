-- Entries after the last id that a group has handed out.
use Rattle.std.proofs.Common.{◌≡◌, ◌∙◌, ℕ, zero, suc, ◌+◌, ◌<◌, ◌≤◌, ◌^◌, Bool, false, List, [], ◌∷◌, map, take, Option, Some, None, refl, sym, ap, inl, inr, arith}
use Rattle.std.specs.Prelude.{not, ◌&&◌, if◌then◌else◌}
use Rattle.std.specs.List.{AllByRecursion, filter}
use Rattle.std.specs.Option.{option_map}
use Rattle.std.specs.Ordering.{nat_cmp, is_lt}
use Rattle.std.specs.FinMap.{get}
use Rattle.std.proofs.lemmas.Bool.{cases_lt}
use Rattle.stream_groups.specs.Groups.{Group, Groups, id_cmp, last_of, changed, changed_from, delivered}
use Rattle.stream_node.specs.declared.id.Id.{Id}
use Rattle.stream_node.specs.Ids.{IsId, id_number}
use Rattle.stream_node.proofs.Ids.{cmp_less, cmp_equal, cmp_greater}
use Rattle.plain_world.specs.Streams.{Stream, StreamEntry}
use Rattle.stream_object.specs.declared.owned.Owned.{Owned}
use Rattle.stream_object.specs.Streams.{pair_of}
use Rattle.stream_object.specs.Ranges.{taken, is_between}
use Rattle.stream_object.specs.Handing.{is_later, fresh, handed}
use Rattle.stream_object.proofs.Losing.{pair_cmp}
use Rattle.stream_object.proofs.Rises.{id_of, Fit}
use Rattle.stream_object.proofs.Walks.{filter_none}

-- two tests that agree at each of these elements keep the same ones
pub filter_same : {X : Type 0} (f g : X → Bool) (xs : List X) → AllByRecursion (λ x. f x ≡ g x) xs → filter f xs ≡ filter g xs
filter_same f g [] h = refl
filter_same f g (x ∷ xs) h = λ i. (if h.0 i then x ∷ filter_same f g xs h.1 i else filter_same f g xs h.1 i)

below_end : (id : Id) → IsId id → id_number id < 2 ^ 128
below_end id fits = omega (arith, fits.ms, fits.seq)

pub not_less : (a b : ℕ) → b ≤ a → is_lt (nat_cmp a b) ≡ false
not_less a b h = elim (cases_lt b a) [ inl more ↦ ap is_lt (cmp_greater a b more) | inr also ↦ ap is_lt (cmp_equal a b (omega arith)) ]

module _ (last : Id) (fits : IsId last) where
  -- the entries above an id are those from the next one on
  module _ (from top : Id) (ff : IsId from) (ft : IsId top) (next : id_number from ≡ id_number last + 1) (all : id_number top + 1 ≡ 2 ^ 128) where
    same_test : (e : StreamEntry) → IsId (id_of e) → is_between from top e ≡ is_later (pair_of last) e
    same_test e x =
        let end = below_end (id_of e) x in
        let upper : is_lt (id_cmp (pair_of top) e.id) ≡ false = ap is_lt (pair_cmp top (id_of e) ft x) ∙ not_less (id_number top) (id_number (id_of e)) (omega (arith, end, all)) in
        elim (cases_lt (id_number last) (id_number (id_of e))) [
          | inl more ↦
              (λ i. not ((ap is_lt (pair_cmp (id_of e) from x ff) ∙ not_less (id_number (id_of e)) (id_number from) (omega (arith, next, more))) i) && not (upper i))
              ∙ sym (ap is_lt (pair_cmp last (id_of e) fits x ∙ cmp_less (id_number last) (id_number (id_of e)) more))
          | inr upto ↦
              (λ i. not ((ap is_lt (pair_cmp (id_of e) from x ff ∙ cmp_less (id_number (id_of e)) (id_number from) (omega (arith, next, upto)))) i) && not (upper i))
              ∙ sym (ap is_lt (pair_cmp last (id_of e) fits x) ∙ not_less (id_number last) (id_number (id_of e)) upto)
        ]

    tests : (es : List StreamEntry) → Fit es → AllByRecursion (λ e. is_between from top e ≡ is_later (pair_of last) e) es
    tests [] h = tt
    tests (e ∷ es) h = (same_test e h.0, tests es h.1)

    pub later_range : (es : List StreamEntry) → Fit es → filter (is_between from top) es ≡ filter (is_later (pair_of last)) es
    later_range es h = filter_same (is_between from top) (is_later (pair_of last)) es (tests es h)

  -- none is above the greatest id
  pub none_later : id_number last + 1 ≡ 2 ^ 128 → (es : List StreamEntry) → Fit es → filter (is_later (pair_of last)) es ≡ []
  none_later end es h = filter_none (is_later (pair_of last)) es (each es h)
    where
      each : (xs : List StreamEntry) → Fit xs → AllByRecursion (λ e. is_later (pair_of last) e ≡ false) xs
      each [] f = tt
      each (e ∷ xs) f = (ap is_lt (pair_cmp last (id_of e) fits f.0) ∙ not_less (id_number last) (id_number (id_of e)) (omega (arith, below_end (id_of e) f.0, end)), each xs f.1)

pub ids_taken : (given : List Owned) → map (λ (o : Owned). pair_of o.id) given ≡ map (λ (e : StreamEntry). e.id) (map taken given)
ids_taken [] = refl
ids_taken (o ∷ given) = ap (λ ids. pair_of o.id ∷ ids) (ids_taken given)

-- what a group gives, where it is there
module _ (s : Stream) (consumer : List ℕ) (limit moment : ℕ) (last : ℕ × ℕ) (given : List Owned) (has : map taken given ≡ take limit (filter (is_later last) s.entries)) where
  pub given_is : (group : Option Group) → Some last ≡ last_of group → Some (map taken given) ≡ option_map (fresh s limit) group
  given_is None h = cc
  given_is (Some group) h =
      let same : last ≡ group.last = cc in
      ap (λ es. Some es) (has ∙ ap (λ l. take limit (filter (is_later l) s.entries)) same)

  changes_from : (groups : Groups) (name : List ℕ) (ids : List (ℕ × ℕ)) (group : Option Group) → ids ≡ map (λ (e : StreamEntry). e.id) (map taken given) → Some last ≡ last_of group
      → changed_from groups name (delivered consumer ids moment) group ≡ changed_from groups name (handed s consumer limit moment) group
  changes_from groups name ids None is h = refl
  changes_from groups name ids (Some group) is h =
      let same : last ≡ group.last = cc in
      ap (λ is. changed_from groups name (delivered consumer is moment) (Some group))
      (is ∙ ap (map (λ (e : StreamEntry). e.id)) (has ∙ ap (λ l. take limit (filter (is_later l) s.entries)) same))

  pub handed_is : (groups : Groups) (name : List ℕ) (ids : List (ℕ × ℕ)) → ids ≡ map (λ (o : Owned). pair_of o.id) given → Some last ≡ last_of (get groups name)
      → changed groups name (delivered consumer ids moment) ≡ changed groups name (handed s consumer limit moment)
  handed_is groups name ids is h = changes_from groups name ids (get groups name) (is ∙ ids_taken given) h

-- nothing changes where there is no such group
pub none_changed : (groups : Groups) (name : List ℕ) (change : Group → Group) → None ≡ last_of (get groups name) → groups ≡ changed groups name change
none_changed groups name change h = by_case (get groups name) h
  where
    by_case : (group : Option Group) → None ≡ last_of group → groups ≡ changed_from groups name change group
    by_case None h = refl
    by_case (Some group) h = cc

pub none_given : (s : Stream) (limit : ℕ) (group : Option Group) → None ≡ last_of group → None ≡ option_map (fresh s limit) group
none_given s limit None h = refl
none_given s limit (Some group) h = cc

pub none_taken : (n : ℕ) → take {A = StreamEntry} n [] ≡ []
none_taken zero = refl
none_taken (suc n) = refl
