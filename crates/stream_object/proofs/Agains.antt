-- What is handed out again.
use Rattle.std.proofs.Common.{◌≡◌, ◌∙◌, ℕ, ◌+◌, ◌<◌, Bool, true, false, List, [], ◌∷◌, ◌++◌, length, map, take, get_or, Option, Some, None, is_some, refl, sym, ap, inl, inr, arith}
use Rattle.std.specs.Prelude.{not, ◌&&◌}
use Rattle.std.specs.List.{AllByRecursion, filter, find}
use Rattle.std.specs.Option.{option_map, option_to_list}
use Rattle.std.specs.Ordering.{is_lt, is_eq, eq_by_cmp}
use Rattle.std.specs.FinMap as fin
use Rattle.std.specs.Cmp.{tied_itself}
use Rattle.std.proofs.lemmas.Bool.{cases_lt, cases_Bool, cond-true, cond-false}
use Rattle.std.proofs.lemmas.List.{length-append, length-map, map-append, take_more}
use Rattle.stream_groups.specs.Groups.{Group, Groups, Id as Pair, name_cmp, changed, changed_from, ids_of, with_again, with_consumer}
use Rattle.stream_groups.proofs.Orders.{name_total, name_same}
use Rattle.stream_groups.proofs.Changing.{put_same_in_changing}
use Rattle.stream_node.specs.declared.id.Id.{Id}
use Rattle.stream_node.specs.Ids.{IsId, id_number}
use Rattle.stream_node.proofs.Ids.{cmp_less, cmp_equal, cmp_greater}
use Rattle.plain_world.specs.Streams.{StreamEntry}
use Rattle.stream_object.specs.declared.again.Again.{Again}
use Rattle.stream_object.specs.declared.owned.Owned.{Owned}
use Rattle.stream_object.specs.Streams.{pair_of, has_id}
use Rattle.stream_object.specs.Ranges.{taken, is_between}
use Rattle.stream_object.specs.Handing.{told, with_entries, waiting, once_more, all_again, handed_again}
use Rattle.stream_object.proofs.Losing.{pair_cmp}
use Rattle.stream_object.proofs.Rises.{id_of, Fit}
use Rattle.stream_object.proofs.Later.{filter_same}

-- the entries between an id and itself are those of the id
module _ (id : Id) (fits : IsId id) where
  same_test : (e : StreamEntry) → IsId (id_of e) → is_between id id e ≡ has_id (pair_of id) e
  same_test e x =
      let low = pair_cmp (id_of e) id x fits in
      let high = pair_cmp id (id_of e) fits x in
      let n = id_number (id_of e) in
      let k = id_number id in
      elim (cases_lt n k) [
        | inl less ↦ (λ i. not (is_lt ((low ∙ cmp_less n k less) i)) && not (is_lt (high i))) ∙ sym (ap is_eq (low ∙ cmp_less n k less))
        | inr upto ↦ elim (cases_lt k n) [
          | inl more ↦ (λ i. not (is_lt ((low ∙ cmp_greater n k more) i)) && not (is_lt ((high ∙ cmp_less k n more) i))) ∙ sym (ap is_eq (low ∙ cmp_greater n k more))
          | inr also ↦ (let same : n ≡ k = omega arith in
              (λ i. not (is_lt ((low ∙ cmp_equal n k same) i)) && not (is_lt ((high ∙ cmp_equal k n (sym same)) i))) ∙ sym (ap is_eq (low ∙ cmp_equal n k same)))
        ]
      ]

  tests : (es : List StreamEntry) → Fit es → AllByRecursion (λ e. is_between id id e ≡ has_id (pair_of id) e) es
  tests [] h = tt
  tests (e ∷ es) h = (same_test e h.0, tests es h.1)

  first_found : (f : StreamEntry → Bool) (es : List StreamEntry) → take 1 (filter f es) ≡ option_to_list (find f es)
  first_found f [] = refl
  first_found f (e ∷ es) = by_test (first_found f es) (f e) refl
    where
      by_test : take 1 (filter f es) ≡ option_to_list (find f es) → (b : Bool) → f e ≡ b → take 1 (filter f (e ∷ es)) ≡ option_to_list (find f (e ∷ es))
      by_test more true is =
          ap (take 1) (cond-true (f e) (e ∷ filter f es) (filter f es) is) ∙ sym (ap option_to_list (cond-true (f e) (Some e) (find f es) is))
      by_test more false is =
          ap (take 1) (cond-false (f e) (e ∷ filter f es) (filter f es) is) ∙ more ∙ sym (ap option_to_list (cond-false (f e) (Some e) (find f es) is))

  pub range_one : (es : List StreamEntry) → Fit es → take 1 (filter (is_between id id) es) ≡ option_to_list (find (has_id (pair_of id)) es)
  range_one es h = ap (take 1) (filter_same (is_between id id) (has_id (pair_of id)) es (tests es h)) ∙ first_found (has_id (pair_of id)) es

-- the last of one
pub popped : (items new : List Owned) (r : Option Owned) (o : Option StreamEntry) → items ≡ new ++ option_to_list r → (0 < length items → is_some r ≡ true)
    → map taken items ≡ option_to_list o → option_map taken r ≡ o
popped items new None None is some has = refl
popped items new None (Some e) is some has =
    let one : 0 < length items = omega (arith, ap length has, length-map items taken) in
    let bad : false ≡ true = some one in cc
popped items new (Some x) None is some has = absurd (omega (arith, ap length has, length-map items taken, ap length is, length-append new (x ∷ [])))
popped items [] (Some x) (Some e) is some has =
    let one : taken x ∷ [] ≡ e ∷ [] = sym (ap (map taken) is) ∙ has in cc
popped items (y ∷ new) (Some x) (Some e) is some has = absurd (omega (arith, ap length has, length-map items taken, ap length is, length-append (y ∷ new) (x ∷ [])))

-- a group that changes twice
insert_twice : (groups : Groups) (q : List ℕ) (a b : Group) → fin.insert (fin.insert groups q a) q b ≡ fin.insert groups q b
insert_twice groups q a b = fin.same_map name_total name_same _ _ (λ p. elim (cases_Bool (eq_by_cmp name_cmp p q)) [
  | inl same ↦ fin.get-insert name_total (fin.insert groups q a) q b p ∙ cond-true _ _ _ same ∙ sym (fin.get-insert name_total groups q b p ∙ cond-true _ _ _ same)
  | inr other ↦
      fin.get-insert name_total (fin.insert groups q a) q b p ∙ cond-false _ _ _ other ∙ fin.get-insert name_total groups q a p ∙ cond-false _ _ _ other
      ∙ sym (fin.get-insert name_total groups q b p ∙ cond-false _ _ _ other)
])

pub changed_twice : (groups : Groups) (name : List ℕ) (f h : Group → Group) → changed (changed groups name f) name h ≡ changed groups name (λ group. h (f group))
changed_twice groups name f h = by (fin.get groups name) refl
  where
    by : (o : Option Group) → fin.get groups name ≡ o → changed (changed_from groups name f o) name h ≡ changed_from groups name (λ group. h (f group)) o
    by None is = ap (changed_from groups name h) is
    by (Some group) is =
        ap (changed_from (fin.insert groups name (f group)) name h) (fin.get-insert name_total groups name (f group) name ∙ cond-true _ _ _ (ap is_eq (tied_itself name_total name)))
        ∙ insert_twice groups name (f group) (h (f group))

pub unchanged : (groups : Groups) (name : List ℕ) → groups ≡ changed groups name (λ group. group)
unchanged groups name = by (fin.get groups name) refl
  where
    by : (o : Option Group) → fin.get groups name ≡ o → groups ≡ changed_from groups name (λ group. group) o
    by None is = refl
    by (Some group) is = sym (put_same_in_changing groups name group is)

-- an id is counted where its entry is there
pub none_once : (groups : Groups) (name : List ℕ) (moment : ℕ) (id : Pair) (pairs : Option Owned) → is_some pairs ≡ false → groups ≡ changed groups name (once_more moment id (option_map taken pairs))
none_once groups name moment id None is = unchanged groups name
none_once groups name moment id (Some x) is = cc

pub some_once : (groups now : Groups) (name : List ℕ) (moment : ℕ) (id : Pair) (pairs : Option Owned) → is_some pairs ≡ true → now ≡ changed groups name (with_again id moment)
    → now ≡ changed groups name (once_more moment id (option_map taken pairs))
some_once groups now name moment id None is h = cc
some_once groups now name moment id (Some x) is h = h

pub map_more : {X Y : Type 0} (f : X → Y) (xs : List X) (i : ℕ) (x : X) → i < length xs → x ≡ get_or xs i x → map f (take (i + 1) xs) ≡ map f (take i xs) ++ f x ∷ []
map_more f xs i x inside is = ap (map f) (take_more xs i x inside) ∙ map-append f (take i xs) (get_or xs i x ∷ []) ∙ ap (λ y. map f (take i xs) ++ f y ∷ []) (sym is)

again_append : (moment : ℕ) (ts : List (Pair × Option StreamEntry)) (t : Pair × Option StreamEntry) (group : Group)
    → all_again moment (ts ++ t ∷ []) group ≡ once_more moment t.0 t.1 (all_again moment ts group)
again_append moment [] t group = refl
again_append moment (s ∷ ts) t group = again_append moment ts t (once_more moment s.0 s.1 group)

-- one id more
pub counted_more : (moment : ℕ) (groups mid now : Groups) (name : List ℕ) (ts more : List (Pair × Option StreamEntry)) (t : Pair × Option StreamEntry)
    → mid ≡ changed groups name (all_again moment ts) → now ≡ changed mid name (once_more moment t.0 t.1) → more ≡ ts ++ t ∷ [] → now ≡ changed groups name (all_again moment more)
counted_more moment groups mid now name ts more t was is all =
    is ∙ ap (λ (g : Groups). changed g name (once_more moment t.0 t.1)) was
    ∙ changed_twice groups name (all_again moment ts) (once_more moment t.0 t.1)
    ∙ (λ i. changed groups name (λ group. sym (again_append moment ts t group) i))
    ∙ ap (λ ts. changed groups name (all_again moment ts)) (sym all)

-- what is handed out again, where the group is there
module _ (es : List StreamEntry) (consumer : List ℕ) (above : Pair) (limit moment : ℕ) (ids : List Pair) (found : List Again) (has : map told found ≡ with_entries es ids) where
  pub again_is : (group : Option Group) → Some ids ≡ option_map (λ g. ids_of g.pending consumer above limit) group → Some (map told found) ≡ option_map (waiting es consumer above limit) group
  again_is None h = cc
  again_is (Some group) h =
      let same : ids ≡ ids_of group.pending consumer above limit = cc in
      ap (λ ts. Some ts) (has ∙ ap (with_entries es) same)

  pub again_changed : (groups mid now : Groups) (name : List ℕ) → mid ≡ changed groups name (with_consumer consumer) → now ≡ changed mid name (all_again moment (map told found))
      → Some ids ≡ option_map (λ g. ids_of g.pending consumer above limit) (fin.get groups name) → now ≡ changed groups name (handed_again es consumer above limit moment)
  again_changed groups mid now name was is h =
      is ∙ ap (λ (g : Groups). changed g name (all_again moment (map told found))) was
      ∙ changed_twice groups name (with_consumer consumer) (all_again moment (map told found))
      ∙ by (fin.get groups name) h
    where
      by : (o : Option Group) → Some ids ≡ option_map (λ g. ids_of g.pending consumer above limit) o
          → changed_from groups name (λ group. all_again moment (map told found) (with_consumer consumer group)) o ≡ changed_from groups name (handed_again es consumer above limit moment) o
      by None h = refl
      by (Some group) h =
          let same : ids ≡ ids_of group.pending consumer above limit = cc in
          ap (λ ts. fin.insert groups name (all_again moment ts (with_consumer consumer group))) (has ∙ ap (with_entries es) same)

-- nothing changes where there is no such group
pub none_again : (groups : Groups) (name consumer : List ℕ) (above : Pair) (limit : ℕ) (change : Group → Group)
    → None ≡ option_map (λ g. ids_of g.pending consumer above limit) (fin.get groups name) → groups ≡ changed groups name change
none_again groups name consumer above limit change h = by (fin.get groups name) h
  where
    by : (group : Option Group) → None ≡ option_map (λ g. ids_of g.pending consumer above limit) group → groups ≡ changed_from groups name change group
    by None h = refl
    by (Some group) h = cc

pub none_waiting : (es : List StreamEntry) (consumer : List ℕ) (above : Pair) (limit : ℕ) (group : Option Group) → None ≡ option_map (λ g. ids_of g.pending consumer above limit) group
    → None ≡ option_map (waiting es consumer above limit) group
none_waiting es consumer above limit None h = refl
none_waiting es consumer above limit (Some group) h = cc

-- one id more with its entry
pub entries_more : (es : List StreamEntry) (ids : List Pair) (i : ℕ) (id : Pair) (found now : List Again) (a : Again) → map told found ≡ with_entries es (take i ids) → now ≡ found ++ a
    ∷ [] → pair_of a.id ≡ id → option_map taken a.pairs ≡ find (has_id (pair_of a.id)) es
    → i < length ids → id ≡ get_or ids i id → map told now ≡ with_entries es (take (i + 1) ids)
entries_more es ids i id found now a has more same is inside at =
    ap (map told) more ∙ map-append told found (a ∷ [])
    ∙ (λ k. has k ++ (same k, (is ∙ ap (λ (p : Pair). find (has_id p) es) same) k) ∷ [])
    ∙ sym (map_more (λ (p : Pair). (p, find (has_id p) es)) ids i id inside at)
