-- The groups of a stream, read out one after the other.
use Rattle.std.proofs.Common.{◌≡◌, inl, inr, ℕ, zero, suc, ◌+◌, ◌<◌, ◌≤◌, Bool, List, [], ◌∷◌, ◌++◌, map, length, take, drop, Option, None, Some, IsSome, refl, sym, ap, subst, ◌∙◌, arith}
use Rattle.std.specs.Prelude.{T, slice_get}
use Rattle.std.specs.List.{filter, AllByRecursion}
use Rattle.std.specs.Option.{option_map}
use Rattle.std.specs.Ordering.{is_lt, is_eq, eq_by_cmp, ordering_reverse}
use Rattle.std.specs.declared.cmp.Ordering.{Ordering}
use Rattle.std.specs.declared.cmp.Ordering.TheVariants.{Less, Greater}
use Rattle.std.specs.Cmp.{IsTotalOrder, tied_itself}
use Rattle.std.specs.FinMap.{FinMap, empty, entries, entries_sorted, find, from_sorted, get, get-entries, is_sorted, keys, len, len-entries, same_entries_map, entries-from_sorted, values}
use Rattle.std.specs.FinMap.Entries.{below_all}
use Rattle.std.proofs.lemmas.Bool.{cases_Bool, cond-true, cond-false}
use Rattle.std.proofs.lemmas.List.{map_push, take_more, take_all, length-map}
use Rattle.std.proofs.lemmas.Option.{slice_get-map, slice_get_within, get_or_from_slice_get, same_Some}
use Rattle.stream_groups.proofs.Maps.{first, second, equal, less, find_below}
use Rattle.stream_groups.proofs.Orders.{id_total, name_total}
use Rattle.stream_groups.specs.Groups as groups
use Rattle.stream_groups.specs.Groups.{Names, Pending, Pendings, Group, Groups, id_cmp, name_cmp, is_above, later, last_of}
use Rattle.stream_groups.specs.Waits.{consumer_at, TellsEntry, TellsAfter}
use Rattle.stream_groups.specs.Kept.{Name, bytes_of}
use Rattle.stream_object.specs.declared.groups.PendingEntry.{PendingEntry}
use Rattle.stream_object.specs.Groups.{entry_of}
use Rattle.stream_object.specs.Streams.{pair_of}
use Rattle.told_values.specs.declared.groups.ToldPending.{ToldPending}
use Rattle.told_values.specs.declared.groups.ToldGroup.{ToldGroup}
use Rattle.told_values.specs.Told.{texts_told, consumer_told, pending_told, group_told, groups_told, IsOrderedGroup, AreOrdered}
use Rattle.std.specs.Bool.{Decides}
use Rattle.std.proofs.lemmas.Bool.Decides.{Decides-like}
use Rattle.told_values.specs.Reading.{consumers_in, pending_in, group_listed, TellsGroup}

no_some : {A P : Type 0} (x : A) → None ≡ Some x → P
no_some x e = absurd cc

-- ---- entries whose keys rise

module _ {K X : Type 0} {R : K → K → Ordering} (o : IsTotalOrder R) where
  -- each is found by its key
  find_at : (es : List (K × X)) (n : ℕ) (e : K × X) → T (is_sorted R es) → slice_get es n ≡ Some e → find R e.0 es ≡ Some e.1
  find_at [] n e sorted is = no_some e is
  find_at (x ∷ es) zero e sorted is =
      let one : x ≡ e = same_Some x e is in
      cond-true _ _ _ (ap (λ (y : K × X). eq_by_cmp R e.0 y.0) one ∙ ap is_eq (tied_itself o e.0)) ∙ ap (λ (y : K × X). Some y.1) one
  find_at (x ∷ es) (suc n) e sorted is =
      let found = find_at es n e (second _ _ sorted) is in
      elim (cases_Bool (eq_by_cmp R e.0 x.0)) [
        | inl t ↦ no_some e.1 (sym (find_below o e.0 x.0 es (equal _ t) (first _ _ sorted)) ∙ found)
        | inr f ↦ cond-false _ _ _ f ∙ found
      ]

  below_at : (x : K) (es : List (K × X)) (n : ℕ) (e : K × X) → T (below_all R x es) → slice_get es n ≡ Some e → R x e.0 ≡ Less
  below_at x [] n e below is = no_some e is
  below_at x (y ∷ es) zero e below is = ap (λ (z : K × X). R x z.0) (sym (same_Some y e is)) ∙ less _ (first _ _ below)
  below_at x (y ∷ es) (suc n) e below is = below_at x es n e (second _ _ below) is

  all_above : (x : K) (es : List (K × X)) → T (below_all R x es) → filter (λ y. is_lt (R x y.0)) es ≡ es
  all_above x [] below = refl
  all_above x (e ∷ es) below =
      let above : K × X → Bool = λ y. is_lt (R x y.0) in
      let up : R x e.0 ≡ Less = less (R x e.0) (first (is_lt (R x e.0)) (below_all R x es) below) in
      cond-true (is_lt (R x e.0)) (e ∷ filter above es) (filter above es) (ap is_lt up)
      ∙ ap (λ ys. e ∷ ys) (all_above x es (second (is_lt (R x e.0)) (below_all R x es) below))

  -- those above one are those behind it
  above_at : (es : List (K × X)) (n : ℕ) (e : K × X) → T (is_sorted R es) → slice_get es n ≡ Some e → filter (λ y. is_lt (R e.0 y.0)) es ≡ drop (suc n) es
  above_at [] n e sorted is = no_some e is
  above_at (x ∷ es) zero e sorted is =
      let one : x ≡ e = same_Some x e is in
      subst (λ (y : K × X). filter (λ z. is_lt (R y.0 z.0)) (x ∷ es) ≡ es) one
      (cond-false _ _ _ (ap is_lt (tied_itself o x.0)) ∙ all_above x.0 es (first _ _ sorted))
  above_at (x ∷ es) (suc n) e sorted is =
      let before : R e.0 x.0 ≡ Greater = o.antisymm e.0 x.0 ∙ ap ordering_reverse (below_at x.0 es n e (first _ _ sorted) is) in
      cond-false _ _ _ (ap is_lt before) ∙ above_at es n e (second _ _ sorted) is

first_left : {A : Type 0} (xs : List A) (n : ℕ) → slice_get (drop n xs) 0 ≡ slice_get xs n
first_left xs zero = refl
first_left [] (suc n) = refl
first_left (x ∷ xs) (suc n) = first_left xs n

-- the map of the entries that a map has is that map
own_entries : {K X : Type 0} {R : K → K → Ordering} (m : FinMap R X) (es : List (K × X)) → es ≡ entries m → from_sorted es ≡ m
own_entries {R = R} m es is = ap from_sorted is ∙ same_entries_map _ _ (entries-from_sorted R (entries m) (entries_sorted m))

-- ---- the consumers of a group

pub consumer_is : (found : Option Group) (n : ℕ) → consumer_at found n ≡ slice_get (consumers_in found) n
consumer_is None n = refl
consumer_is (Some group) n = refl

-- one text more
pub text_more : (list : List (List ℕ)) (n : ℕ) (texts : List Name) (name : Name) → slice_get list n ≡ Some name.items → texts_told texts ≡ take n list
    → texts_told (texts ++ name ∷ []) ≡ take (n + 1) list
text_more list n texts name is so_far =
    map_push bytes_of texts name ∙ ap (λ l. l ++ name.items ∷ []) so_far
    ∙ sym (take_more list n [] (slice_get_within list n name.items is) ∙ ap (λ x. take n list ++ x ∷ []) (get_or_from_slice_get list n name.items [] is))

none_past : {A : Type 0} (xs : List A) (n : ℕ) → slice_get xs n ≡ None → length xs ≤ n
none_past [] n is = omega arith
none_past (x ∷ xs) zero is = absurd cc
none_past (x ∷ xs) (suc n) is = omega (arith, none_past xs n is)

pub all_read : {A : Type 0} (xs : List A) (n : ℕ) → slice_get xs n ≡ None → take n xs ≡ xs
all_read xs n is = take_all n xs (none_past xs n is)

-- ---- what is pending in a group

abbrev names_in : Option Group → Names
names_in None = empty
names_in (Some group) = group.consumers

-- the pending entry of this number comes next, exactly where there is one
abbrev pub Comes : Option Group → ℕ → Option PendingEntry → Type 0
Comes found n next = TellsEntry (names_in found) (slice_get (pending_in found) n) (option_map entry_of next)

pub comes_first : (found : Option Group) (next : Option PendingEntry) → TellsAfter found None (option_map entry_of next) → Comes found 0 next
comes_first None None h = tt
comes_first None (Some entry) h = absurd cc
comes_first (Some group) next h = h

pub comes_next : (found : Option Group) (n : ℕ) (entry : PendingEntry) (next : Option PendingEntry) → Comes found n (Some entry)
    → TellsAfter found (Some (pair_of entry.id)) (option_map entry_of next) → Comes found (n + 1) next
comes_next None n entry next now h = absurd now
comes_next (Some group) n entry next now h = by (slice_get (entries group.pending) n) refl now
  where
    by : (e : Option (groups.Id × Pending)) → slice_get (entries group.pending) n ≡ e → TellsEntry group.consumers e (Some (entry_of entry)) → Comes (Some group) (n + 1) next
    by None is told = absurd told
    by (Some e) is told =
        let L = entries group.pending in
        let one : n + 1 ≡ suc n = omega arith in
        let behind : filter (is_above (pair_of entry.id)) L ≡ drop (suc n) L =
        ap (λ (id : groups.Id). filter (is_above id) L) told.same_id ∙ above_at id_total L n e (entries_sorted group.pending) is in
        subst (λ (x : Option (groups.Id × Pending)). TellsEntry group.consumers x (option_map entry_of next))
        (ap (λ es. slice_get es 0) behind ∙ first_left L (suc n) ∙ ap (slice_get L) (sym one)) h

-- its consumer is there
pub consumer_there : (found : Option Group) (n : ℕ) (entry : PendingEntry) → Comes found n (Some entry) → IsSome (consumer_at found entry.consumer)
consumer_there None n entry now = absurd now
consumer_there (Some group) n entry now = by (slice_get (entries group.pending) n) now
  where
    by : (e : Option (groups.Id × Pending)) → TellsEntry group.consumers e (Some (entry_of entry)) → IsSome (slice_get (keys group.consumers) entry.consumer)
    by None told = absurd told
    by (Some e) told = subst (λ o. IsSome o) (sym told.place) refl

-- what a pending entry is where its consumer has this name
abbrev pub Says : Option Group → PendingEntry → ToldPending → Type 0
Says found entry told = (name : List ℕ) → consumer_at found entry.consumer ≡ Some name
    → pending_told told ≡ (pair_of entry.id, record { consumer = name; moment = entry.moment; count = entry.count })

-- one pending entry more
pub pending_more : (found : Option Group) (n : ℕ) (entry : PendingEntry) (so_far : List ToldPending) (told : ToldPending) → Comes found n (Some entry) → Says found entry told
    → map pending_told so_far ≡ take n (pending_in found) → (map pending_told (so_far ++ told ∷ []) ≡ take (n + 1) (pending_in found)) × (n < length (pending_in found))
pending_more None n entry so_far told now says is = absurd now
pending_more (Some group) n entry so_far told now says is = by (slice_get L n) refl now
  where
    L : List (groups.Id × Pending)
    L = entries group.pending

    by : (e : Option (groups.Id × Pending)) → slice_get (entries group.pending) n ≡ e → TellsEntry group.consumers e (Some (entry_of entry))
        → (map pending_told (so_far ++ told ∷ []) ≡ take (n + 1) (entries group.pending)) × (n < length (entries group.pending))
    by None there tells = absurd tells
    by (Some e) there tells =
        let es = entries group.pending in
        let same : pending_told told ≡ e =
        says e.1.consumer tells.place ∙ (λ i. (tells.same_id i, record { consumer = e.1.consumer; moment = tells.same_moment i; count = tells.same_count i })) in
        let inside : n < length es = slice_get_within es n e there in (
          map_push pending_told so_far told ∙ ap (λ l. l ++ pending_told told ∷ []) is ∙ ap (λ x. take n es ++ x ∷ []) same
              ∙ sym (take_more es n e inside ∙ ap (λ x. take n es ++ x ∷ []) (get_or_from_slice_get es n e e there)),
          inside,
        )

-- none comes past the last
pub none_comes : (found : Option Group) (n : ℕ) (next : Option PendingEntry) → next ≡ None → Comes found n next → slice_get (pending_in found) n ≡ None
none_comes found n (Some entry) none now = absurd cc
none_comes None n None none now = refl
none_comes (Some group) n None none now = by (slice_get (entries group.pending) n) refl now
  where
    by : (e : Option (groups.Id × Pending)) → slice_get (entries group.pending) n ≡ e → TellsEntry group.consumers e None → slice_get (entries group.pending) n ≡ None
    by None is told = is
    by (Some e) is told = absurd told

-- ---- a group, and all groups

named_all : (names : List Name) → map consumer_told names ≡ map (λ (k : List ℕ). (k, tt)) (texts_told names)
named_all [] = refl
named_all (name ∷ names) = ap (λ l. (name.items, tt) ∷ l) (named_all names)

keys_back : (es : List (List ℕ × Unit {0})) → map (λ (k : List ℕ). (k, tt)) (map (λ (e : List ℕ × Unit {0}). e.0) es) ≡ es
keys_back [] = refl
keys_back (e ∷ es) = ap (λ l. e ∷ l) (keys_back es)

module _ (all : Groups) (at : ℕ) (g : ToldGroup) (inside : at < len all) (named : Some g.name.items ≡ slice_get (keys all) at)
    (last : Some (pair_of g.last) ≡ last_of (get all g.name.items))
    (consumers : texts_told g.consumers.items ≡ consumers_in (slice_get (values all) at))
    (pending : map pending_told g.pending.items ≡ pending_in (slice_get (values all) at)) where
  pub group_tells : TellsGroup (slice_get (entries all) at) g
  group_tells = by (slice_get (entries all) at) refl
    where
      by : (found : Option (List ℕ × Group)) → slice_get (entries all) at ≡ found → TellsGroup (slice_get (entries all) at) g
      by None is = absurd (omega (arith, none_past (entries all) at is, len-entries all, inside))
      by (Some e) is =
          let key : slice_get (keys all) at ≡ Some e.0 = slice_get-map (λ (x : List ℕ × Group). x.0) (entries all) at ∙ ap (option_map (λ (x : List ℕ × Group). x.0)) is in
          let value : slice_get (values all) at ≡ Some e.1 = slice_get-map (λ (x : List ℕ × Group). x.1) (entries all) at ∙ ap (option_map (λ (x : List ℕ × Group). x.1)) is in
          let same : g.name.items ≡ e.0 = same_Some _ _ (named ∙ key) in
          let found : get all g.name.items ≡ Some e.1 = ap (get all) same ∙ get-entries all e.0 ∙ find_at name_total (entries all) at e (entries_sorted all) is in
          let ended : pair_of g.last ≡ e.1.last = same_Some _ _ (last ∙ ap last_of found) in
          let members : map consumer_told g.consumers.items ≡ entries e.1.consumers =
          named_all g.consumers.items ∙ ap (map (λ (k : List ℕ). (k, tt))) (consumers ∙ ap consumers_in value) ∙ keys_back (entries e.1.consumers) in
          let waiting : map pending_told g.pending.items ≡ entries e.1.pending = pending ∙ ap pending_in value in
          record {
            told = is ∙ (λ i. Some (
              sym same i,
              record {
                last = sym ended i;
                consumers = sym (own_entries e.1.consumers (map consumer_told g.consumers.items) members) i;
                pending = sym (own_entries e.1.pending (map pending_told g.pending.items) waiting) i;
              },
            ));
            ordered = record {
              consumers = subst (λ es. T (is_sorted name_cmp es)) (sym members) (entries_sorted e.1.consumers);
              pending = subst (λ es. T (is_sorted id_cmp es)) (sym waiting) (entries_sorted e.1.pending);
            };
          }

-- a name stands at each place, and the last id of a group by each name
pub named_there : (all : Groups) (at : ℕ) → at < len all → None ≡ slice_get (keys all) at → ⊥
named_there all at inside none = omega (arith, inside, none_past (keys all) at (sym none), length-map (entries all) (λ (x : List ℕ × Group). x.0), len-entries all)

pub last_there : (all : Groups) (at : ℕ) (name : List ℕ) → Some name ≡ slice_get (keys all) at → None ≡ last_of (get all name) → ⊥
last_there all at name named none = by (slice_get (entries all) at) refl
  where
    by : (found : Option (List ℕ × Group)) → slice_get (entries all) at ≡ found → ⊥
    by None is = no_some name (sym (named ∙ slice_get-map (λ (x : List ℕ × Group). x.0) (entries all) at ∙ ap (option_map (λ (x : List ℕ × Group). x.0)) is))
    by (Some e) is =
        let key : Some name ≡ Some e.0 = named ∙ slice_get-map (λ (x : List ℕ × Group). x.0) (entries all) at ∙ ap (option_map (λ (x : List ℕ × Group). x.0)) is in
        let found : get all name ≡ Some e.1 = ap (get all) (same_Some name e.0 key) ∙ get-entries all e.0 ∙ find_at name_total (entries all) at e (entries_sorted all) is in
        no_some e.1.last (none ∙ ap last_of found)

-- one group more
pub group_more : (all : Groups) (at : ℕ) (so_far : List ToldGroup) (g : ToldGroup) → TellsGroup (slice_get (entries all) at) g → map group_told so_far ≡ take at (entries all)
    → map group_told (so_far ++ g ∷ []) ≡ take (at + 1) (entries all)
group_more all at so_far g tells is =
    let es = entries all in
    let e = group_told g in
    map_push group_told so_far g ∙ ap (λ l. l ++ e ∷ []) is
    ∙ sym (take_more es at e (slice_get_within es at e tells.told) ∙ ap (λ x. take at es ++ x ∷ []) (get_or_from_slice_get es at e e tells.told))

pub each_more : (so_far : List ToldGroup) (g : ToldGroup) → AllByRecursion IsOrderedGroup so_far → IsOrderedGroup g → AllByRecursion IsOrderedGroup (so_far ++ g ∷ [])
each_more [] g each one = (one, tt)
each_more (x ∷ so_far) g each one = (each.0, each_more so_far g each.1 one)

-- all groups
module _ (all : Groups) (at : ℕ) (told : List ToldGroup) (whole : len all ≤ at) (is : map group_told told ≡ take at (entries all)) where
  list_is : map group_told told ≡ entries all
  list_is = is ∙ take_all at (entries all) (omega (arith, whole, len-entries all))

  pub groups_are : groups_told told ≡ all
  groups_are = own_entries all (map group_told told) list_is

  pub groups_ordered : AllByRecursion IsOrderedGroup told → AreOrdered told
  groups_ordered each = record { names = subst (λ es. T (is_sorted name_cmp es)) (sym list_is) (entries_sorted all); each = each }

-- ---- groups that are compared

-- a group as it is listed
abbrev Listed : Type 0
Listed = List ℕ × groups.Id × List (List ℕ) × List (groups.Id × Pending)

abbrev of_listed : Listed → List ℕ × Group
of_listed l = (l.0, record { last = l.1; consumers = from_sorted (map (λ (k : List ℕ). (k, tt)) l.2); pending = from_sorted l.3 })

abbrev to_listed : List ℕ × Group → Listed
to_listed e = (e.0, e.1.last, keys e.1.consumers, entries e.1.pending)

told_listed : (gs : List ToldGroup) → map group_told gs ≡ map of_listed (map group_listed gs)
told_listed [] = refl
told_listed (g ∷ gs) = λ i.
    (g.name.items, record { last = pair_of g.last; consumers = from_sorted (named_all g.consumers.items i); pending = from_sorted (map pending_told g.pending.items) })
    ∷ told_listed gs i

firsts : (names : List Name) → map (λ (e : List ℕ × Unit {0}). e.0) (map consumer_told names) ≡ texts_told names
firsts [] = refl
firsts (name ∷ names) = ap (λ l. name.items ∷ l) (firsts names)

listed_told : (gs : List ToldGroup) → AllByRecursion IsOrderedGroup gs → map group_listed gs ≡ map to_listed (map group_told gs)
listed_told [] each = refl
listed_told (g ∷ gs) each =
    let members : texts_told g.consumers.items ≡ keys (from_sorted {R = name_cmp} (map consumer_told g.consumers.items)) =
    sym (ap (map (λ (e : List ℕ × Unit {0}). e.0)) (entries-from_sorted name_cmp (map consumer_told g.consumers.items) each.0.consumers) ∙ firsts g.consumers.items) in
    let waiting : map pending_told g.pending.items ≡ entries (from_sorted {R = id_cmp} (map pending_told g.pending.items)) =
    sym (entries-from_sorted id_cmp (map pending_told g.pending.items) each.0.pending) in
    λ i. (g.name.items, pair_of g.last, members i, waiting i) ∷ listed_told gs each.1 i

pub groups_tell : (gs hs : List ToldGroup) → AreOrdered gs → AreOrdered hs → (t : Bool) → Decides t (map group_listed gs ≡ map group_listed hs) → Decides t (groups_told gs ≡ groups_told hs)
groups_tell gs hs ordered other t tells = Decides-like t forth back tells
  where
    forth : map group_listed gs ≡ map group_listed hs → groups_told gs ≡ groups_told hs
    forth e = ap from_sorted (told_listed gs ∙ ap (map of_listed) e ∙ sym (told_listed hs))

    back : groups_told gs ≡ groups_told hs → map group_listed gs ≡ map group_listed hs
    back e =
        let same : map group_told gs ≡ map group_told hs =
        sym (entries-from_sorted name_cmp (map group_told gs) ordered.names) ∙ ap entries e ∙ entries-from_sorted name_cmp (map group_told hs) other.names in
        listed_told gs ordered.each ∙ ap (map to_listed) same ∙ sym (listed_told hs other.each)
