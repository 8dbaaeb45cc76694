-- What groups hand out, from what streams do.
use Rattle.std.proofs.Common.{◌≡◌, ℕ, ◌+◌, ◌≤◌, Bool, List, [], ◌∷◌, ◌++◌, length, map, take, drop, Option, None, Some, refl, sym, ap, ◌∙◌, arith}
use Rattle.std.specs.List.{filter, find}
use Rattle.std.specs.Option.{option_map}
use Rattle.std.specs.FinMap.{get, insert, len, entries, len-entries}
use Rattle.std.proofs.lemmas.List.{length-map, append_assoc}
use Rattle.std.proofs.lemmas.List.Sums.{length-filter, count_by-le-length}
use Rattle.stream_groups.specs.Groups.{Id, Group, Groups, changed, changed_from, delivered, is_above, is_of, later, with_consumer}
use Rattle.stream_object.specs.Handing as object
use Rattle.plain_world.specs.Streams.{Stream, StreamEntry}
use Rattle.plain_world.specs.Worlds.{World, look}
use Rattle.plain_world.specs.declared.reply.Part.{Part}
use Rattle.plain_model.specs.StreamSteps.{Asked, has_id, is_later, keep_stream, of_key, or_no_stream, some_listed, stream_there, up_to}
use Rattle.plain_model.specs.GroupSteps.{Reader, Waits, all_again, fresh, hand_at, hand_out, left_of, once_more, told_in, waiting, waits_listed}
use Rattle.cmd_streams.specs.Changed.{HasStream, IsBefore}
use Rattle.cmd_streams.specs.Found.{FoundOther}
use Rattle.cmd_streams.specs.declared.delivering.Handed.{Handed}
use Rattle.cmd_streams.specs.Handed.{Hands, told_of_key}
use Rattle.cmd_streams.proofs.Gone.{same_before}

-- ---- what wasn't handed out yet

module _ (who : Reader) (s : Stream) (most : ℕ) (same : (test : StreamEntry → Bool) → take most (filter test s.entries) ≡ up_to who.limit (filter test s.entries)) where
  fresh_is : (group : Group) → object.fresh s most group ≡ fresh who s group
  fresh_is group = same (is_later group.last)

  pub fresh_left : (groups : Groups) → changed groups who.group (object.handed s who.consumer most who.moment) ≡ changed groups who.group (left_of who None s)
  fresh_left groups = λ i. changed groups who.group (λ group. delivered who.consumer (map (λ (e : StreamEntry). e.id) (fresh_is group i)) who.moment group)

  pub none_fresh : (group : Option Group) → None ≡ option_map (object.fresh s most) group → (key : List ℕ) → [] ≡ told_in who key None s group
  none_fresh None is key = refl
  none_fresh (Some group) is key = cc

  pub some_fresh : (list : List StreamEntry) (group : Option Group) → Some list ≡ option_map (object.fresh s most) group → (key : List ℕ) → some_listed key list ≡ told_in who key None s group
  some_fresh list None is key = cc
  some_fresh list (Some group) is key =
      let own : list ≡ object.fresh s most group = cc in
      ap (some_listed key) (own ∙ fresh_is group)

-- ---- what is handed out once more

same_once : (moment : ℕ) (id : Id) (entry : Option StreamEntry) (group : Group) → object.once_more moment id entry group ≡ once_more moment id entry group
same_once moment id None group = refl
same_once moment id (Some e) group = refl

same_again : (moment : ℕ) (list : List Waits) (group : Group) → object.all_again moment list group ≡ all_again moment list group
same_again moment [] group = refl
same_again moment (one ∷ list) group = same_again moment list (object.once_more moment one.0 one.1 group) ∙ ap (all_again moment list) (same_once moment one.0 one.1 group)

-- so many ids at most are all that are asked for
abbrev pub Suffice : Reader → ℕ → Group → Type 0
Suffice who most group = (list : List Id) → length list ≤ len group.pending → take most list ≡ up_to who.limit list

module _ (who : Reader) (s : Stream) (above : Id) (most : ℕ) where
  abbrev own_ids : Group → List Id
  own_ids group = map (λ e. e.0) (filter (is_of who.consumer) (later (Some above) group.pending))

  few_ids : (group : Group) → length (own_ids group) ≤ len group.pending
  few_ids group =
      let all = entries group.pending in
      let behind = later (Some above) group.pending in
      omega (
        arith,
        length-map (filter (is_of who.consumer) behind) (λ e. e.0),
        length-filter (is_of who.consumer) behind,
        count_by-le-length (is_of who.consumer) behind,
        length-filter
            (is_above above) all,
        count_by-le-length (is_above above) all,
        len-entries group.pending,
      )

  waits_is : (group : Group) → Suffice who most group → object.waiting s.entries who.consumer above most group ≡ waiting who s above group
  waits_is group same = ap (λ (ids : List Id). map (λ id. (id, find (has_id id) s.entries)) ids) (same (own_ids group) (few_ids group))

  module _ (groups : Groups) (same : (group : Group) → get groups who.group ≡ Some group → Suffice who most group) where
    pub again_left : changed groups who.group (object.handed_again s.entries who.consumer above most who.moment) ≡ changed groups who.group (left_of who (Some above) s)
    again_left = by (get groups who.group) refl
      where
        by : (o : Option Group) → get groups who.group ≡ o → changed_from groups who.group (object.handed_again s.entries who.consumer above most who.moment) o ≡ changed_from groups
            who.group (left_of who (Some above) s) o
        by None is = refl
        by (Some group) is =
            let read = with_consumer who.consumer group in
            ap (insert groups who.group) (ap (λ ts. object.all_again who.moment ts read) (waits_is group (same group is)) ∙ same_again who.moment (waiting who s above group) read)

    pub none_again : None ≡ option_map (object.waiting s.entries who.consumer above most) (get groups who.group) → (key : List ℕ) → [] ≡ told_in who key (Some above) s (get groups who.group)
    none_again is key = by (get groups who.group) is
      where
        by : (o : Option Group) → None ≡ option_map (object.waiting s.entries who.consumer above most) o → [] ≡ told_in who key (Some above) s o
        by None is = refl
        by (Some group) is = cc

    pub some_again : (list : List Waits) → Some list ≡ option_map (object.waiting s.entries who.consumer above most) (get groups who.group) → (key : List ℕ)
        → of_key key (waits_listed list) ∷ [] ≡ told_in who key (Some above) s (get groups who.group)
    some_again list is key = by (get groups who.group) refl is
      where
        by : (o : Option Group) → get groups who.group ≡ o → Some list ≡ option_map (object.waiting s.entries who.consumer above most) o → of_key key (waits_listed list)
            ∷ [] ≡ told_in who key (Some above) s o
        by None at is = cc
        by (Some group) at is =
            let own : list ≡ object.waiting s.entries who.consumer above most group = cc in
            ap (λ l. of_key key (waits_listed l) ∷ []) (own ∙ waits_is group (same group at))

-- ---- what is handed out of a key

pub none_handed : (world : World) (who : Reader) (key : List ℕ) (above : Option Id) → look world key ≡ None → hand_at world who key above (stream_there (look world key)) ≡ ([], world)
none_handed world who key above none = ap (λ o. hand_at world who key above (stream_there o)) none

pub other_handed : (world : World) (who : Reader) (key : List ℕ) (above : Option Id) → FoundOther world key → hand_at world who key above (stream_there (look world key)) ≡ ([], world)
other_handed world who key above found = ap (hand_at world who key above) (ap stream_there found.stands ∙ found.other)

pub stream_handed : (world new : World) (who : Reader) (key : List ℕ) (above : Option Id) (handed : Option Handed) (s : Stream) (was : Option Stream) (now : Stream) → HasStream world key s
    → IsBefore world key was → Hands who above handed (or_no_stream was) now → new ≡ keep_stream world key now
    → hand_at world who key above (stream_there (look world key)) ≡ (told_of_key key handed, new)
stream_handed world new who key above handed s was now has stands hands is =
    let same : s ≡ or_no_stream was = ap or_no_stream (same_before world key (Some s) was has stands) in
    ap (hand_at world who key above) (ap stream_there has.stands)
    ∙ ap (λ (t : Stream). hand_at world who key above (Some t)) same
    ∙ (λ i. (sym (hands.told key) i, (ap (keep_stream world key) (sym hands.is) ∙ sym is) i))

-- ---- one key after the other

module _ (w new : World) (who : Reader) (asked : List Asked) (i : ℕ) (one : Asked) (told : List (List Part)) (rest : drop i asked ≡ one ∷ drop (i + 1) asked)
    (is : hand_at w who one.0 one.1 (stream_there (look w one.0)) ≡ (told, new)) where
  step : hand_out w who (drop i asked) ≡ (told ++ (hand_out new who (drop (i + 1) asked)).0, (hand_out new who (drop (i + 1) asked)).1)
  step = ap (hand_out w who) rest ∙ ap (λ (first : List (List Part) × World). (first.0 ++ (hand_out first.1 who (drop (i + 1) asked)).0, (hand_out first.1 who (drop (i + 1) asked)).1)) is

  pub world_step : (last : World) → (hand_out w who (drop i asked)).1 ≡ last → (hand_out new who (drop (i + 1) asked)).1 ≡ last
  world_step last so_far = sym (ap (λ (r : List (List Part) × World). r.1) step) ∙ so_far

  pub told_step : (found more all : List (List Part)) → more ≡ found ++ told → found ++ (hand_out w who (drop i asked)).0 ≡ all → more ++ (hand_out new who (drop (i + 1) asked)).0 ≡ all
  told_step found more all put so_far =
      let others = (hand_out new who (drop (i + 1) asked)).0 in
      ap (λ l. l ++ others) put ∙ append_assoc found told others ∙ ap (λ l. found ++ l) (sym (ap (λ (r : List (List Part) × World). r.0) step)) ∙ so_far
