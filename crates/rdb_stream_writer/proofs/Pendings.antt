-- The walks of what is pending in a group: of all entries, and of those of a consumer.
use Rattle.std.proofs.Common.{◌≡◌, ℕ, ◌<◌, ◌^◌, Bool, true, false, cond, List, [], ◌∷◌, ◌++◌, length, map, Option, Some, None, refl, sym, ap, subst, ◌∙◌, arith}
use Rattle.std.specs.Prelude.{slice_get, flat_map, T}
use Rattle.std.specs.List.{filter, AllByRecursion}
use Rattle.std.specs.FinMap.{entries, entries_sorted, is_sorted, len, len-entries}
use Rattle.std.proofs.lemmas.Bool.{cond-true, cond-false}
use Rattle.std.proofs.lemmas.List.{length-map}
use Rattle.std.proofs.lemmas.Option.{same_Some}
use Rattle.outside.specs.Files.{ShelfSeen}
use Rattle.stream_groups.specs.Groups.{Id, Names, Pending, Pendings, id_cmp, is_above, is_of, later, own_ids}
use Rattle.stream_groups.specs.Waits.{IsEntry, TellsEntry}
use Rattle.stream_groups.specs.declared.waiting.WaitingEntry.{WaitingEntry}
use Rattle.stream_groups.proofs.Orders.{id_total}
use Rattle.rdb_parts.specs.declared.pen.Pen.{Pen}
use Rattle.rdb_parts.specs.Pens.{Adds}
use Rattle.rdb_parts.specs.Words.{length_word}
use Rattle.rdb_stream_writer.specs.Ids.{id_word, counted_by, IsStoredId}
use Rattle.rdb_stream_writer.specs.Consumers.{moment_word}
use Rattle.rdb_stream_writer.specs.Groups.{pending_word, IsStoredEntry}
use Rattle.rdb_stream_writer.proofs.Maps.{sorted_filter}
use Rattle.rdb_stream_writer.proofs.Walks.{left, AreRising, Walked, walk_begins, walk_on, walk_shorter, walk_ends, entries_rise, not_over_itself}
use Rattle.rdb_stream_writer.proofs.Places.{each_more}
use Rattle.rdb_stream_writer.proofs.Written.{adds_one, adds_head}

abbrev Entry : Type 0
Entry = Id × Pending

abbrev pub id_of : Entry → Id
id_of e = e.0

-- those behind an id, or all
abbrev pub over : Option Id → List Entry → List Entry
over above es = left id_of is_above above es

-- a walk of entries
abbrev pub Walk : (List Entry → Type 0) → List Entry → Option Id → Type 0
Walk Holds es above = Walked id_of is_above Holds es above

not_itself : (e : Entry) → is_above (e.0) e ≡ false
not_itself = not_over_itself id_total

rising : (es : List Entry) → T (is_sorted id_cmp es) → AreRising id_of is_above es
rising = entries_rise id_total

module _ (es : List Entry) (sorted : T (is_sorted id_cmp es)) (above : Option Id) (e : Entry) (is : slice_get (over above es) 0 ≡ Some e) where
  more : (Holds Holds' : List Entry → Type 0) (w : Walk Holds es above) → (Holds w.before → Holds' (w.before ++ e ∷ [])) → Walk Holds' es (Some (e.0))
  more Holds Holds' w step = walk_on id_of is_above not_itself Holds es above (rising es sorted) w e is Holds' step

  shorter : (Holds : List Entry → Type 0) → Walk Holds es above → length (over (Some (e.0)) es) < length (over above es)
  shorter Holds w = walk_shorter id_of is_above not_itself Holds es above (rising es sorted) w e is

ends : (es : List Entry) (sorted : T (is_sorted id_cmp es)) (above : Option Id) (Holds : List Entry → Type 0) → Walk Holds es above → slice_get (over above es) 0 ≡ None → Holds es
ends es sorted above Holds w none = walk_ends id_of is_above not_itself Holds es above (rising es sorted) w none

-- ---- lists

swapped : {A : Type 0} (f g : A → Bool) (xs : List A) → filter f (filter g xs) ≡ filter g (filter f xs)
swapped f g [] = refl
swapped f g (x ∷ xs) =
    elim (g x) as (λ b. g x ≡ b → filter f (cond b (x ∷ filter g xs) (filter g xs)) ≡ filter g (cond (f x) (x ∷ filter f xs) (filter f xs))) [
      | true ↦ λ is. elim (f x) as (λ c. cond c (x ∷ filter f (filter g xs)) (filter f (filter g xs)) ≡ filter g (cond c (x ∷ filter f xs) (filter f xs))) [
        | true ↦ ap (λ ys. x ∷ ys) (swapped f g xs) ∙ sym (cond-true _ _ _ is)
        | false ↦ swapped f g xs
      ]
      | false ↦ λ is. elim (f x) as (λ c. filter f (filter g xs) ≡ filter g (cond c (x ∷ filter f xs) (filter f xs))) [
        | true ↦ swapped f g xs ∙ sym (cond-false _ _ _ is)
        | false ↦ swapped f g xs
      ]
    ] refl

head_seen : (es : List Entry) (id : Id) → Some id ≡ slice_get (map id_of es) 0 → (e : Entry) × (slice_get es 0 ≡ Some e) × (e.0 ≡ id)
head_seen [] id is = absurd cc
head_seen (e ∷ es) id is = (e, refl, same_Some (e.0) id (sym is))

none_seen : (es : List Entry) → None ≡ slice_get (map id_of es) 0 → slice_get es 0 ≡ None
none_seen [] is = refl
none_seen (e ∷ es) is = absurd cc

flat_ids : (es : List Entry) → flat_map (λ (e : Entry). id_word (e.0)) es ≡ flat_map id_word (map id_of es)
flat_ids [] = refl
flat_ids (e ∷ es) = ap (λ l. id_word (e.0) ++ l) (flat_ids es)

-- ---- the entries of a consumer

module _ (pending : Pendings) (name : List ℕ) where
  abbrev pub own_entries : List Entry
  own_entries = filter (is_of name) (entries pending)

  own_sorted : T (is_sorted id_cmp own_entries)
  own_sorted = sorted_filter id_total (is_of name) (entries pending) (entries_sorted pending)

  own_is : (above : Option Id) → own_ids pending name above ≡ map id_of (over above own_entries)
  own_is None = refl
  own_is (Some above) = ap (map id_of) (swapped (is_of name) (is_above above) (entries pending))

  -- their number is written, and the ids of those that were seen
  abbrev pub OwnAdds : ShelfSeen → ShelfSeen → Pen → Pen → List Entry → Type 0
  OwnAdds o n b c es = Adds o n b c (length_word (length (own_ids pending name None)) ++ flat_map (λ (e : Entry). id_word (e.0)) es)

  pub own_begins : (o n : ShelfSeen) (b c : Pen) → Adds o n b c (length_word (length (own_ids pending name None))) → Walk (OwnAdds o n b c) own_entries None
  own_begins o n b c p = walk_begins id_of is_above (OwnAdds o n b c) own_entries (adds_head o n b c (λ (e : Entry). id_word (e.0)) (length_word (length (own_ids pending name None))) p)

  module _ (o m : ShelfSeen) (b c : Pen) (above : Option Id) (w : Walk (OwnAdds o m b c) own_entries above) where
    module _ (id : Id) (is : Some id ≡ slice_get (own_ids pending name above) 0) where
      seen : (e : Entry) × (slice_get (over above own_entries) 0 ≡ Some e) × (e.0 ≡ id)
      seen = head_seen (over above own_entries) id (is ∙ ap (λ ids. slice_get ids 0) (own_is above))

      pub own_more : (n : ShelfSeen) (d : Pen) → Adds m n c d (id_word id) → Walk (OwnAdds o n b d) own_entries (Some id)
      own_more n d q =
          let e = seen in
          subst (λ (i : Id). Walk (OwnAdds o n b d) own_entries (Some i)) (e.2)
          (more own_entries own_sorted above (e.0) (e.1) (OwnAdds o m b c) (OwnAdds o n b d) w
          (λ p. adds_one o m n b c d (λ (e : Entry). id_word (e.0)) (length_word (length (own_ids pending name None))) w.before (e.0) p (subst (λ (i : Id). Adds m n c d (id_word i)) (sym (e.2)) q)))

      pub own_shorter : length (own_ids pending name (Some id)) < length (own_ids pending name above)
      own_shorter =
          let e = seen in
          let less : length (over (Some id) own_entries) < length (over above own_entries) =
          subst (λ (i : Id). length (over (Some i) own_entries) < length (over above own_entries)) (e.2) (shorter own_entries own_sorted above (e.0) (e.1) (OwnAdds o m b c) w) in
          omega (
            arith,
            less,
            ap length (own_is (Some id)),
            ap length (own_is above),
            length-map (over (Some id) own_entries) id_of,
            length-map (over above own_entries) id_of,
          )

    pub own_ends : None ≡ slice_get (own_ids pending name above) 0 → Adds o m b c (counted_by id_word (own_ids pending name None))
    own_ends none =
        let all : OwnAdds o m b c own_entries = ends own_entries own_sorted above (OwnAdds o m b c) w (none_seen (over above own_entries) (none ∙ ap (λ ids. slice_get ids 0) (own_is above))) in
        subst (λ l. Adds o m b c (length_word (length (own_ids pending name None)) ++ l)) (flat_ids own_entries) all

-- ---- all entries

-- what is told of an entry that is seen, and of none
told_one : (names : Names) (found : Option Entry) (told : WaitingEntry) → TellsEntry names found (Some told) → (e : Entry) × (found ≡ Some e) × IsEntry names (e.0) (e.1) told
told_one names None told h = absurd h
told_one names (Some e) told h = (e, refl, h)

told_none : (names : Names) (found : Option Entry) → TellsEntry names found None → found ≡ None
told_none names None h = refl
told_none names (Some e) h = absurd h

later_is : (pending : Pendings) (above : Option Id) → later above pending ≡ over above (entries pending)
later_is pending None = refl
later_is pending (Some above) = refl

module _ (pending : Pendings) (names : Names) where
  -- Their number is written, and those that were seen, which have 64 bits.
  pub record PendingAdds (o n : ShelfSeen) (b c : Pen) (es : List Entry) : Type 0 where
    pub adds : Adds o n b c (length_word (len pending) ++ flat_map pending_word es)
    pub stored : AllByRecursion IsStoredEntry es

  pub pending_begins : (o n : ShelfSeen) (b c : Pen) → Adds o n b c (length_word (len pending)) → Walk (PendingAdds o n b c) (entries pending) None
  pending_begins o n b c p = walk_begins id_of is_above (PendingAdds o n b c) (entries pending) (record { adds = adds_head o n b c pending_word (length_word (len pending)) p; stored = tt })

  module _ (o m : ShelfSeen) (b c : Pen) (above : Option Id) (w : Walk (PendingAdds o m b c) (entries pending) above) where
    module _ (told : WaitingEntry) (is : TellsEntry names (slice_get (later above pending) 0) (Some told)) where
      seen_one : (e : Entry) × (slice_get (over above (entries pending)) 0 ≡ Some e) × IsEntry names (e.0) (e.1) told
      seen_one = told_one names (slice_get (over above (entries pending)) 0) told (subst (λ (es : List Entry). TellsEntry names (slice_get es 0) (Some told)) (later_is pending above) is)

      pub pending_more : (n : ShelfSeen) (d : Pen) → Adds m n c d (id_word told.id ++ (moment_word told.moment ++ length_word told.count)) → IsStoredId told.id → told.moment < 2 ^ 64 → told.count < 2 ^ 64
          → Walk (PendingAdds o n b d) (entries pending) (Some told.id)
      pending_more n d q id moment count =
          let e = seen_one in
          let same = e.2 in
          let word : id_word told.id ++ (moment_word told.moment ++ length_word told.count) ≡ pending_word (e.0) =
          λ i. id_word (same.same_id i) ++ (moment_word (same.same_moment i) ++ length_word (same.same_count i)) in
          let stored : IsStoredEntry (e.0) = record {
            id = subst IsStoredId same.same_id id;
            moment = subst (λ n. n < 2 ^ 64) same.same_moment moment;
            count = subst (λ n. n < 2 ^ 64) same.same_count count;
          } in
          subst (λ (i : Id). Walk (PendingAdds o n b d) (entries pending) (Some i)) (sym same.same_id)
          (more (entries pending) (entries_sorted pending) above (e.0) (e.1) (PendingAdds o m b c) (PendingAdds o n b d) w
          (λ p. record {
            adds = adds_one o m n b c d pending_word (length_word (len pending)) w.before (e.0) p.adds (subst (Adds m n c d) word q);
            stored = each_more IsStoredEntry w.before (e.0) p.stored stored;
          }))

      pub pending_shorter : length (later (Some told.id) pending) < length (later above pending)
      pending_shorter =
          let e = seen_one in
          let less : length (over (Some told.id) (entries pending)) < length (over above (entries pending)) =
          subst (λ (i : Id). length (over (Some i) (entries pending)) < length (over above (entries pending))) (sym e.2.same_id)
          (shorter (entries pending) (entries_sorted pending) above (e.0) (e.1) (PendingAdds o m b c) w) in
          omega (arith, less, ap length (later_is pending (Some told.id)), ap length (later_is pending above))

    pub pending_ends : TellsEntry names (slice_get (later above pending) 0) None → Adds o m b c (counted_by pending_word (entries pending)) × AllByRecursion IsStoredEntry (entries pending)
    pending_ends none =
        let all : PendingAdds o m b c (entries pending) =
        ends (entries pending) (entries_sorted pending) above (PendingAdds o m b c) w (told_none names (slice_get (over above (entries pending)) 0) (subst (λ (es : List Entry). TellsEntry names (slice_get es 0) None) (later_is pending above) none)) in
        (subst (λ n. Adds o m b c (length_word n ++ flat_map pending_word (entries pending))) (len-entries pending) all.adds, all.stored)
