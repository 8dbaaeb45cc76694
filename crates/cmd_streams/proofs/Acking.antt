-- Ids that are acknowledged, one after the other.
use Rattle.std.proofs.Common.{◌≡◌, ℕ, zero, suc, ◌+◌, ◌-◌, ◌<◌, Bool, true, false, cond, List, [], ◌∷◌, ◌++◌, length, take, get_or, Option, None, Some, is_some, inl, inr, refl, sym, ap}
use Rattle.std.proofs.Common.{subst, ◌∙◌, arith}
use Rattle.std.specs.Prelude.{pos}
use Rattle.std.specs.Ordering.{is_eq}
use Rattle.std.specs.Cmp.{tied_itself}
use Rattle.std.specs.FinMap as fin
use Rattle.std.proofs.lemmas.Bool.{cases_lt, cases_Bool, cond-true, cond-false, true≢false}
use Rattle.std.proofs.lemmas.List.{take_more}
use Rattle.blocks.specs.Blocks.{Blocks}
use Rattle.stream_groups.specs.Groups.{Id, Group, Groups, Pendings, id_cmp, changed, changed_from, is_pending, without}
use Rattle.stream_groups.proofs.Orders.{name_total, id_total}
use Rattle.stream_object.specs.Streams.{stream_of}
use Rattle.stream_object.specs.declared.stream.Stream.{Stream as Log}
use Rattle.stream_object.proofs.Agains.{changed_twice}
use Rattle.plain_world.specs.Streams.{Stream}
use Rattle.plain_world.specs.Worlds.{World}
use Rattle.plain_world.specs.declared.reply.Part.TheVariants.{Number}
use Rattle.plain_model.specs.Outcomes.{leaves}
use Rattle.plain_model.specs.StreamSteps.{keep_stream, on_stream, or_no_stream}
use Rattle.plain_model.specs.GroupSteps.{ack, ack_in, regrouped, without_ids}
use Rattle.cmd_streams.specs.Changed.{IsBefore}
use Rattle.cmd_streams.specs.Found.{FoundStream}
use Rattle.cmd_streams.specs.Acknowledged.{Acknowledges, waits}
use Rattle.cmd_streams.proofs.Gone.{on_before}
use Rattle.cmd_streams.proofs.Regrouped.{has_found, found_is}

one_less : (m : Pendings) (id : Id) → cond (fin.contains_key m id) 1 0 + fin.len (fin.remove m id) ≡ fin.len m
one_less m id = elim (cases_Bool (fin.contains_key m id)) [
  | inl there ↦ elim (cases_lt 0 (fin.len m)) [
    | inl some ↦
        (let less : fin.len (fin.remove m id) ≡ fin.len m - 1 = fin.len-remove id_total m id ∙ cond-true _ _ _ there in
        let sum : 1 + fin.len (fin.remove m id) ≡ fin.len m = omega (arith, less, some) in
        ap (λ b. cond b 1 0 + fin.len (fin.remove m id)) there ∙ sum)
    | inr none ↦
        (let gone : m ≡ fin.empty = fin.empty_of_len m (omega (arith, none)) in
        absurd (true≢false (sym there ∙ ap (λ (k : Pendings). fin.contains_key k id) gone ∙ ap is_some (fin.get-empty id_cmp id))))
  ]
  | inr out ↦
      (let same : fin.len (fin.remove m id) ≡ fin.len m = fin.len-remove id_total m id ∙ cond-false _ _ _ out in
      let sum : 0 + fin.len (fin.remove m id) ≡ fin.len m = omega (arith, same) in
      ap (λ b. cond b 1 0 + fin.len (fin.remove m id)) out ∙ sum)
]

-- the group that has changed
pub changed_there : (groups : Groups) (name : List ℕ) (change : Group → Group) (group : Group) → fin.get groups name ≡ Some group → fin.get (changed groups name change) name ≡ Some (change group)
changed_there groups name change group is =
    ap (λ o. fin.get (changed_from groups name change o) name) is
    ∙ fin.get-insert name_total groups name (change group) name
    ∙ cond-true _ _ _ (ap is_eq (tied_itself name_total name))

-- one id fewer is pending, where it was
pub one_acked : (groups : Groups) (name : List ℕ) (id : Id) → cond (is_pending id (fin.get groups name)) 1 0 + waits (fin.get (changed groups name (without id)) name) ≡ waits (fin.get groups name)
one_acked groups name id = by (fin.get groups name) refl
  where
    by : (o : Option Group) → fin.get groups name ≡ o → cond (is_pending id (fin.get groups name)) 1 0 + waits (fin.get (changed groups name (without id)) name) ≡ waits (fin.get groups name)
    by None is =
        let none : waits (fin.get (changed groups name (without id)) name) ≡ 0 = ap (λ o. waits (fin.get (changed_from groups name (without id) o) name)) is ∙ ap waits is in
        let was : waits (fin.get groups name) ≡ 0 = ap waits is in
        let sum : 0 + waits (fin.get (changed groups name (without id)) name) ≡ waits (fin.get groups name) = omega (arith, none, was) in
        ap (λ o. cond (is_pending id o) 1 0 + waits (fin.get (changed groups name (without id)) name)) is ∙ sum
    by (Some group) is =
        ap (λ o. cond (is_pending id o) 1 0 + waits (fin.get (changed groups name (without id)) name)) is
        ∙ ap (λ o. cond (fin.contains_key group.pending id) 1 0 + waits o) (changed_there groups name (without id) group is)
        ∙ one_less group.pending id
        ∙ sym (ap waits is)

pub counted_hit : (old new : Log) (name : List ℕ) (id : Id) (hit told : Bool) → hit ≡ is_pending id (fin.get old.groups name) → hit ≡ told
    → new ≡ record old { groups = changed old.groups name (without id) } → cond told 1 0 + waits (fin.get new.groups name) ≡ waits (fin.get old.groups name)
counted_hit old new name id hit told is was now =
    ap (λ b. cond b 1 0 + waits (fin.get new.groups name)) (sym was ∙ is)
    ∙ ap (λ (s : Log). cond (is_pending id (fin.get old.groups name)) 1 0 + waits (fin.get s.groups name)) now
    ∙ one_acked old.groups name id

acked_append : (ids : List Id) (id : Id) (group : Group) → without_ids (ids ++ id ∷ []) group ≡ without id (without_ids ids group)
acked_append [] id group = refl
acked_append (a ∷ ids) id group = acked_append ids id (without a group)

-- one id more is acknowledged
pub more_acked : (groups : Groups) (name : List ℕ) (ids : List Id) (i : ℕ) (id : Id) → i < length ids → id ≡ get_or ids i id
    → changed (changed groups name (without_ids (take i ids))) name (without id) ≡ changed groups name (without_ids (take (i + 1) ids))
more_acked groups name ids i id inside is =
    changed_twice groups name (without_ids (take i ids)) (without id)
    ∙ (λ k. changed groups name (λ group. sym (acked_append (take i ids) id group) k))
    ∙ ap (λ (x : Id). changed groups name (without_ids (take i ids ++ x ∷ []))) is
    ∙ ap (λ xs. changed groups name (without_ids xs)) (sym (take_more ids i id inside))

pub more_stream : (old mid new : Log) (name : List ℕ) (ids : List Id) (i : ℕ) (id : Id) → i < length ids → id ≡ get_or ids i id
    → mid ≡ record old { groups = changed old.groups name (without_ids (take i ids)) } → new ≡ record mid { groups = changed mid.groups name (without id) }
    → new ≡ record old { groups = changed old.groups name (without_ids (take (i + 1) ids)) }
more_stream old mid new name ids i id inside is was now =
    now
    ∙ ap (λ (s : Log). record s { groups = changed s.groups name (without id) }) was
    ∙ ap (λ (g : Groups). record old { groups = g }) (more_acked old.groups name ids i id inside is)

same_get : (ids : List Id) (i : ℕ) (d : Id) → get_or ids i d ≡ get_or ids i (get_or ids i d)
same_get [] i d = refl
same_get (x ∷ ids) zero d = refl
same_get (x ∷ ids) (suc i) d = same_get ids i d

pub more_at : (old mid new : Log) (name : List ℕ) (ids : List Id) (i : ℕ) (d : Id) → i < length ids → mid ≡ record old { groups = changed old.groups name (without_ids (take i ids)) }
    → new ≡ record mid { groups = changed mid.groups name (without (get_or ids i d)) }
    → new ≡ record old { groups = changed old.groups name (without_ids (take (i + 1) ids)) }
more_at old mid new name ids i d inside was now = more_stream old mid new name ids i (get_or ids i d) inside (same_get ids i d) was now

-- ---- what is told

pub no_acks : (old : World) (m : Blocks) (key name : List ℕ) (ids : List Id) (stream : Log) → FoundStream old m key stream → fin.contains_key stream.groups name ≡ false
    → on_stream old key (ack old key name ids) ≡ leaves (Number (pos 0) ∷ []) old
no_acks old m key name ids stream found none =
    on_before old key (Some (stream_of m stream)) (ack old key name ids) (has_found old m key stream found) ∙ by (fin.get stream.groups name) none
  where
    by : (o : Option Group) → is_some o ≡ false → ack_in old key name ids (stream_of m stream) o ≡ leaves (Number (pos 0) ∷ []) old
    by None is = refl
    by (Some group) is = absurd (true≢false is)

acked_in : (old : World) (key name : List ℕ) (ids : List Id) (s now : Stream) (gone : ℕ) → fin.contains_key s.groups name ≡ true → Acknowledges name ids gone s now
    → ack_in old key name ids s (fin.get s.groups name) ≡ leaves (Number (pos gone) ∷ []) (keep_stream old key now)
acked_in old key name ids s now gone there made = by (fin.get s.groups name) refl
  where
    by : (o : Option Group) → fin.get s.groups name ≡ o → ack_in old key name ids s o ≡ leaves (Number (pos gone) ∷ []) (keep_stream old key now)
    by None is = absurd (true≢false (sym there ∙ ap is_some is))
    by (Some group) is =
        let left : waits (fin.get now.groups name) ≡ fin.len (without_ids ids group).pending =
        ap (λ (t : Stream). waits (fin.get t.groups name)) made.is ∙ ap waits (changed_there s.groups name (without_ids ids) group is) in
        let same : gone ≡ fin.len group.pending - fin.len (without_ids ids group).pending =
        made.counted ∙ ap (λ o. waits o - waits (fin.get now.groups name)) is ∙ ap (λ n. fin.len group.pending - n) left in
        ap (λ n. leaves (Number (pos n) ∷ []) (keep_stream old key (regrouped s (changed s.groups name (without_ids ids))))) (sym same)
        ∙ ap (λ (t : Stream). leaves (Number (pos gone) ∷ []) (keep_stream old key t)) (sym made.is)

pub acked : (old new : World) (m : Blocks) (key name : List ℕ) (ids : List Id) (stream : Log) (was : Option Stream) (now : Stream) (gone : ℕ) → FoundStream old m key stream
    → fin.contains_key stream.groups name ≡ true → IsBefore old key was → Acknowledges name ids gone (or_no_stream was) now → new ≡ keep_stream old key now
    → on_stream old key (ack old key name ids) ≡ leaves (Number (pos gone) ∷ []) new
acked old new m key name ids stream was now gone found there stands made world =
    let s = stream_of m stream in
    on_before old key (Some s) (ack old key name ids) (has_found old m key stream found)
    ∙ acked_in old key name ids s now gone there (subst (λ (t : Stream). Acknowledges name ids gone t now) (found_is old m key stream found was stands) made)
    ∙ ap (leaves (Number (pos gone) ∷ [])) (sym world)
