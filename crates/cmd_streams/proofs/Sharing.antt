-- What is pending in a group, and what is told of it.
use Rattle.std.proofs.Common.{◌≡◌, ℕ, zero, suc, ◌+◌, ◌<◌, Bool, true, false, cond, List, [], ◌∷◌, ◌++◌, length, map, flat_map, Option, None, Some, Result, Ok, Err, IfOk, is_some, inl}
use Rattle.std.proofs.Common.{inr, refl, sym, ap, subst, ◌∙◌, arith}
use Rattle.std.specs.Prelude.{T, pos, slice_get, ◌-◌, ◌&&◌}
use Rattle.std.specs.List.{count_by}
use Rattle.std.specs.Option.{option_map}
use Rattle.std.specs.Fmt.{decimal}
use Rattle.std.specs.Ordering.{is_lt, eq_by_cmp}
use Rattle.std.specs.Cmp.{eq_by_cmp_equiv}
use Rattle.std.specs.FinMap as fin
use Rattle.std.specs.FinMap.{find, is_sorted, entries, entries_sorted, keys, get-entries, get-from_entries}
use Rattle.std.specs.FinMap.Entries.{same_entries, below_all}
use Rattle.std.proofs.lemmas.Bool.{cases_Bool, cond-true, cond-false}
use Rattle.std.proofs.lemmas.List.Sums.{sum_by-cons}
use Rattle.std.proofs.Math.Dec.{eqb-suc-zero}
use Rattle.stream_groups.specs.Groups.{Id, Group, Pending, Pendings, name_cmp, is_of, some_if_any, tallied}
use Rattle.stream_groups.specs.Waits.{owner_pairs, IsWaiting, Tells}
use Rattle.stream_groups.specs.declared.waiting.Owner.{Owner}
use Rattle.stream_groups.specs.declared.waiting.Waiting.{Waiting}
use Rattle.stream_groups.proofs.Maps.{equal}
use Rattle.stream_groups.proofs.Orders.{name_total, name_same}
use Rattle.stream_object.specs.Groups.{waiting_of}
use Rattle.stream_object.specs.declared.groups.Pending.{Pending as Told}
use Rattle.plain_world.specs.Worlds.{World}
use Rattle.plain_world.specs.declared.refusal.Refusal.TheVariants.{NoSuchGroup}
use Rattle.plain_world.specs.declared.reply.Part.{Part}
use Rattle.plain_world.specs.declared.reply.Part.TheVariants.{Number, Bulk, NullArray, Array, Refused}
use Rattle.plain_world.specs.Parts.{IsReply, following}
use Rattle.plain_model.specs.Outcomes.{leaves}
use Rattle.plain_model.specs.GroupSteps.{id_or_null, owners, pending_in, pending_parts, shares, shares_parts}
use Rattle.cmd_streams.specs.Pending.{owner_told, owners_told, waiting_told}
use Rattle.cmd_streams.proofs.Replies.{Many, single, array, one_behind, each, is_reply}

-- ---- the consumers, each with its number

abbrev Numbered : Type 0
Numbered = List (List ℕ × ℕ)

module _ {X : Type 0} (number : List ℕ → ℕ) where
  abbrev numbered : List (List ℕ × X) → Numbered
  numbered es = map (λ (name : List ℕ). (name, number name)) (map (λ (e : List ℕ × X). e.0) es)

  numbered_below : (x : List ℕ) (es : List (List ℕ × X)) → T (below_all name_cmp x es) → T (below_all name_cmp x (numbered es))
  numbered_below x [] h = tt
  numbered_below x (e ∷ es) h = elim (is_lt (name_cmp x e.0)) as (λ b. T (b && below_all name_cmp x es) → T (b && below_all name_cmp x (numbered es)))
      [ true ↦ λ t. numbered_below x es t | false ↦ λ t. t ] h

  numbered_sorted : (es : List (List ℕ × X)) → T (is_sorted name_cmp es) → T (is_sorted name_cmp (numbered es))
  numbered_sorted [] h = tt
  numbered_sorted (e ∷ es) h = both (below_all name_cmp e.0 es) (below_all name_cmp e.0 (numbered es)) (numbered_below e.0 es) (numbered_sorted es) h
    where
      both : (a b : Bool) → (T a → T b) → (T (is_sorted name_cmp es) → T (is_sorted name_cmp (numbered es))) → T (a && is_sorted name_cmp es) → T (b && is_sorted name_cmp (numbered es))
      both true true f rest t = rest t
      both true false f rest t = absurd (f tt)
      both false b f rest t = absurd t

  find_numbered : (q : List ℕ) (es : List (List ℕ × X)) → find name_cmp q (numbered es) ≡ cond (is_some (find name_cmp q es)) (Some (number q)) None
  find_numbered q [] = refl
  find_numbered q (e ∷ es) = elim (cases_Bool (eq_by_cmp name_cmp q e.0)) [
    | inl same ↦
        cond-true _ _ _ same
        ∙ ap (λ n. Some (number n)) (sym (name_same q e.0 (equal _ same)))
        ∙ sym (ap (λ o. cond (is_some o) (Some (number q)) None) (cond-true (eq_by_cmp name_cmp q e.0) (Some e.1) (find name_cmp q es) same))
    | inr other ↦
        cond-false _ _ _ other
        ∙ find_numbered q es
        ∙ sym (ap (λ o. cond (is_some o) (Some (number q)) None) (cond-false (eq_by_cmp name_cmp q e.0) (Some e.1) (find name_cmp q es) other))
  ]

-- ---- the consumers for which ids are pending

abbrev names_of : List (Id × Pending) → List (List ℕ × Unit {0})
names_of es = map (λ (e : Id × Pending). (e.1.consumer, tt)) es

abbrev IsCounted : Bool → ℕ → Type 0
IsCounted true n = 0 < n
IsCounted false n = n ≡ 0

some_counted : (b : Bool) (n : ℕ) → IsCounted b n → cond b (Some n) None ≡ some_if_any n
some_counted true zero h = absurd (omega (arith, h))
some_counted true (suc n) h = sym (cond-false _ _ _ (eqb-suc-zero n))
some_counted false n h = subst (λ k. None ≡ some_if_any k) (sym h) refl

count-cons : (q : List ℕ) (e : Id × Pending) (rest : List (Id × Pending)) → count_by (is_of q) (e ∷ rest) ≡ cond (is_of q e) 1 0 + count_by (is_of q) rest
count-cons q e rest = sum_by-cons (λ x. cond (is_of q x) 1 0) e rest

counted : (q : List ℕ) (es : List (Id × Pending)) → IsCounted (is_some (find name_cmp q (names_of es))) (count_by (is_of q) es)
counted q [] = refl
counted q (e ∷ es) = elim (cases_Bool (eq_by_cmp name_cmp q e.1.consumer)) [
  | inl same ↦
      (let hit : is_of q e ≡ true = (eq_by_cmp_equiv name_total).symm e.1.consumer q ∙ same in
      let n : count_by (is_of q) (e ∷ es) ≡ 1 + count_by (is_of q) es = count-cons q e es ∙ ap (λ b. cond b 1 0 + count_by (is_of q) es) hit in
      let some : 0 < count_by (is_of q) (e ∷ es) = omega (arith, n) in
      subst (λ b. IsCounted b (count_by (is_of q) (e ∷ es))) (sym (ap (λ b. is_some (cond b (Some tt) (find name_cmp q (names_of es)))) same)) some)
  | inr other ↦
      (let miss : is_of q e ≡ false = (eq_by_cmp_equiv name_total).symm e.1.consumer q ∙ other in
      let n : count_by (is_of q) (e ∷ es) ≡ 0 + count_by (is_of q) es = count-cons q e es ∙ ap (λ b. cond b 1 0 + count_by (is_of q) es) miss in
      let same : count_by (is_of q) es ≡ count_by (is_of q) (e ∷ es) = omega (arith, n) in
      subst (λ b. IsCounted b (count_by (is_of q) (e ∷ es))) (sym (ap (λ b. is_some (cond b (Some tt) (find name_cmp q (names_of es)))) other))
      (subst (IsCounted (is_some (find name_cmp q (names_of es)))) same (counted q es)))
]

shares_found : (pending : Pendings) (q : List ℕ) → find name_cmp q (shares pending) ≡ tallied pending q
shares_found pending q =
    let es = entries pending in
    let number : List ℕ → ℕ = λ name. count_by (is_of name) es in
    find_numbered number q (entries (owners pending))
    ∙ ap (λ o. cond (is_some o) (Some (number q)) None) (sym (get-entries (owners pending) q) ∙ get-from_entries name_total (names_of es) q)
    ∙ some_counted (is_some (find name_cmp q (names_of es))) (number q) (counted q es)

shares_sorted : (pending : Pendings) → T (is_sorted name_cmp (shares pending))
shares_sorted pending = numbered_sorted (λ name. count_by (is_of name) (entries pending)) (entries (owners pending)) (entries_sorted (owners pending))

shares_are : (pending : Pendings) (w : Waiting) → IsWaiting pending w → owner_pairs w.owners.items ≡ shares pending
shares_are pending w is = same_entries name_cmp name_total name_same (owner_pairs w.owners.items) (shares pending) is.rising (shares_sorted pending) (λ q. is.owners q ∙ sym (shares_found pending q))

-- ---- what is told

abbrev share_told : List ℕ × ℕ → List Part
share_told share = Array 2 ∷ Bulk share.0 ∷ Bulk (decimal share.1) ∷ []

each_share : (list : List Owner) → flat_map owner_told list ≡ flat_map share_told (owner_pairs list)
each_share [] = refl
each_share (o ∷ list) = ap (λ l. owner_told o ++ l) (each_share list)

long_share : (list : List Owner) → length list ≡ length (owner_pairs list)
long_share [] = refl
long_share (o ∷ list) = ap suc (long_share list)

owners_share : (list : List Owner) → owners_told list ≡ shares_parts (owner_pairs list)
owners_share [] = refl
owners_share (o ∷ list) = ap (λ n. Array n ∷ flat_map owner_told (o ∷ list)) (long_share (o ∷ list)) ∙ ap (λ l. Array (length (owner_pairs (o ∷ list))) ∷ l) (each_share (o ∷ list))

waiting_is : (pending : Pendings) (w : Waiting) → IsWaiting pending w → waiting_told w ≡ pending_parts pending
waiting_is pending w is =
    let least = slice_get (keys pending) 0 in
    let greatest = slice_get (keys pending) (fin.len pending - 1) in
    ap (λ n. Array 4 ∷ Number (pos n) ∷ id_or_null w.least ∷ id_or_null w.greatest ∷ owners_told w.owners.items) is.count
    ∙ ap (λ o. Array 4 ∷ Number (pos (fin.len pending)) ∷ id_or_null o ∷ id_or_null w.greatest ∷ owners_told w.owners.items) is.least
    ∙ ap (λ o. Array 4 ∷ Number (pos (fin.len pending)) ∷ id_or_null least ∷ id_or_null o ∷ owners_told w.owners.items) is.greatest
    ∙ ap (λ l. Array 4 ∷ Number (pos (fin.len pending)) ∷ id_or_null least ∷ id_or_null greatest ∷ l) (owners_share w.owners.items ∙ ap shares_parts (shares_are pending w is))

-- what is pending in a group is told
pub waiting_leaves : {X : Type 0} (group : Option Group) (told : Told) (given : Option Told) → Some told ≡ given → Tells group (option_map waiting_of given)
    → (result : Result (List Part) X) → IfOk result (λ reply. reply ≡ waiting_told (waiting_of told))
    → IfOk result (λ reply. (world : World) → pending_in world group ≡ leaves reply world)
waiting_leaves group told given is tells (Err x) replied = tt
waiting_leaves group told given is tells (Ok reply) replied = λ world. by group (subst (λ o. Tells group (option_map waiting_of o)) (sym is) tells) world
  where
    by : (o : Option Group) → Tells o (Some (waiting_of told)) → (world : World) → pending_in world o ≡ leaves reply world
    by None t world = absurd t
    by (Some g) t world = ap (λ l. leaves l world) (sym (replied ∙ waiting_is g.pending (waiting_of told) t))

-- or there is no such group
pub none_leaves : {X : Type 0} (group : Option Group) (given : Option Told) → None ≡ given → Tells group (option_map waiting_of given) → (result : Result (List Part) X)
    → IfOk result (λ reply. reply ≡ Refused NoSuchGroup ∷ [])
    → IfOk result (λ reply. (world : World) → pending_in world group ≡ leaves reply world)
none_leaves group given is tells (Err x) replied = tt
none_leaves group given is tells (Ok reply) replied = λ world. by group (subst (λ o. Tells group (option_map waiting_of o)) (sym is) tells) world
  where
    by : (o : Option Group) → Tells o None → (world : World) → pending_in world o ≡ leaves reply world
    by None t world = ap (λ l. leaves l world) (sym replied)
    by (Some g) t world = absurd t

-- ---- it is a reply

owner_one : (o : Owner) → Many 1 (owner_told o)
owner_one o = array 2 (Bulk o.name ∷ Bulk (decimal o.count) ∷ []) (one_behind 1 (Bulk o.name ∷ []) (Bulk (decimal o.count) ∷ []) (single (Bulk o.name) refl) (single (Bulk (decimal o.count)) refl))

owners_one : (list : List Owner) → Many 1 (owners_told list)
owners_one [] = single NullArray refl
owners_one (o ∷ list) = array (length (o ∷ list)) (flat_map owner_told (o ∷ list)) (each owner_told owner_one (o ∷ list))

id_alone : (id : Option Id) → following (id_or_null id) ≡ 0
id_alone None = refl
id_alone (Some id) = refl

pub waiting_reply : (w : Waiting) → IsReply (waiting_told w)
waiting_reply w =
    let own = owners_told w.owners.items in
    is_reply (waiting_told w)
    (array 4 (Number (pos w.count) ∷ id_or_null w.least ∷ id_or_null w.greatest ∷ own)
    (one_behind 3 (Number (pos w.count) ∷ []) (id_or_null w.least ∷ id_or_null w.greatest ∷ own) (single (Number (pos w.count)) refl)
    (one_behind 2 (id_or_null w.least ∷ []) (id_or_null w.greatest ∷ own) (single (id_or_null w.least) (id_alone w.least))
    (one_behind 1 (id_or_null w.greatest ∷ []) own (single (id_or_null w.greatest) (id_alone w.greatest)) (owners_one w.owners.items)))))
