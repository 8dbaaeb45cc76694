-- The entries between two ids, node by node.
use Rattle.std.proofs.Common.{◌≡◌, ◌∙◌, ℕ, zero, suc, ◌+◌, ◌<◌, ◌≤◌, Bool, true, false, List, [], ◌∷◌, ◌++◌, length, map, take, Option, Some, None, refl, sym, ap, subst, inl, inr, arith}
use Rattle.std.specs.Prelude.{not, ◌&&◌, reverse, IfSome, IfNone}
use Rattle.std.specs.List.{AllByRecursion, filter}
use Rattle.std.specs.Ordering.{nat_cmp, is_lt}
use Rattle.std.proofs.lemmas.Bool.{cases_lt, cond-true, cond-false}
use Rattle.std.proofs.lemmas.List.{append-nil, append_assoc, reverse-append, take-append-le, take_all, length-append, length-map}
use Rattle.std.proofs.lemmas.List.Elements.{filter-append}
use Rattle.blocks.specs.Blocks.{Blocks}
use Rattle.listpack.specs.Pack.{texts}
use Rattle.stream_groups.specs.Groups.{id_cmp}
use Rattle.stream_node.specs.declared.id.Id.{Id}
use Rattle.stream_node.specs.Entry.{Stored}
use Rattle.stream_node.specs.Ids.{IsId, id_number}
use Rattle.stream_node.proofs.Ids.{cmp_less, cmp_equal, cmp_greater}
use Rattle.rax_packed.proofs.Entries.{all_front, all_back, all_weaker}
use Rattle.plain_world.specs.Streams.{StreamEntry}
use Rattle.stream_object.specs.declared.owned.Owned.{Owned}
use Rattle.stream_object.specs.declared.wanted.Wanted.{Wanted}
use Rattle.stream_object.specs.Parts.{Part, stored_in, plain, is_live, live_of, live_in, entries_in, IsPart, EndsBefore, Rising}
use Rattle.stream_object.specs.Found.{IsNear, Misses}
use Rattle.stream_object.specs.Streams.{pair_of}
use Rattle.stream_object.specs.Ranges.{taken, is_between, turned, wanted_of, wanted_in, is_ahead, ahead, Goes, Follows, Ends}
use Rattle.stream_object.proofs.Parts.{keys_rise, rising_back}
use Rattle.stream_object.proofs.Losing.{pair_cmp}
use Rattle.stream_object.proofs.Marking.{node_ids}
use Rattle.stream_object.proofs.Grows.{entries_append}

-- so many of the first ones, and more behind them
pub take_again : {X : Type 0} (n : ℕ) (xs ys : List X) → take n (take n xs ++ ys) ≡ take n (xs ++ ys)
take_again zero xs ys = refl
take_again (suc n) [] ys = refl
take_again (suc n) (x ∷ xs) ys = ap (λ zs. x ∷ zs) (take_again n xs ys)

pub filter_none : {X : Type 0} (f : X → Bool) (xs : List X) → AllByRecursion (λ x. f x ≡ false) xs → filter f xs ≡ []
filter_none f [] h = refl
filter_none f (x ∷ xs) h = cond-false _ _ _ h.0 ∙ filter_none f xs h.1

pub filter_all : {X : Type 0} (f : X → Bool) (xs : List X) → AllByRecursion (λ x. f x ≡ true) xs → filter f xs ≡ xs
filter_all f [] h = refl
filter_all f (x ∷ xs) h = cond-true _ _ _ h.0 ∙ ap (λ ys. x ∷ ys) (filter_all f xs h.1)

pub all_both : {X : Type 0} (P Q R : X → Type 0) (xs : List X) → ((x : X) → P x → Q x → R x) → AllByRecursion P xs → AllByRecursion Q xs → AllByRecursion R xs
all_both P Q R [] h a b = tt
all_both P Q R (x ∷ xs) h a b = (h x a.0 b.0, all_both P Q R xs h a.1 b.1)

-- what holds of entries holds of those that aren't deleted
pub all_live : (P : StreamEntry → Type 0) (es : List Stored) → AllByRecursion (λ e. P (plain e)) es → AllByRecursion P (live_of es)
all_live P [] h = tt
all_live P (e ∷ es) h = by_mark (all_live P es h.1) e.deleted refl
  where
    by_mark : AllByRecursion P (live_of es) → (b : Bool) → e.deleted ≡ b → AllByRecursion P (live_of (e ∷ es))
    by_mark rest true is = subst (AllByRecursion P) (sym (ap (map plain) (cond-false _ (e ∷ filter is_live es) (filter is_live es) (ap not is)))) rest
    by_mark rest false is = subst (AllByRecursion P) (sym (ap (map plain) (cond-true _ (e ∷ filter is_live es) (filter is_live es) (ap not is)))) (h.0, rest)

and_false : (b : Bool) → (b && false) ≡ false
and_false true = refl
and_false false = refl

-- tests on numbers
pub less_test : (a b : ℕ) → a < b → not (is_lt (nat_cmp a b)) ≡ false
less_test a b h = ap (λ o. not (is_lt o)) (cmp_less a b h)

pub upto_test : (a b : ℕ) → a ≤ b → not (is_lt (nat_cmp b a)) ≡ true
upto_test a b h = elim (cases_lt a b) [
  | inl less ↦ ap (λ o. not (is_lt o)) (cmp_greater b a less)
  | inr also ↦ ap (λ o. not (is_lt o)) (cmp_equal b a (omega arith))
]

pub part_ids : (m : Blocks) (p : Part) → IsPart m p → AllByRecursion (λ e. IsId e.id) (stored_in p)
part_ids m p is = node_ids p.key (texts p.bytes) is.is_node.node

-- entries below the lower id, or above the upper one
module _ (from to : Id) (ff : IsId from) (ft : IsId to) where
  abbrev test : StreamEntry → Bool
  test e = is_between from to e

  below_from : (e : Stored) → IsId e.id → id_number e.id < id_number from → test (plain e) ≡ false
  below_from e x less =
      ap (λ o. not (is_lt o) && not (is_lt (id_cmp (pair_of to) (pair_of e.id)))) (pair_cmp e.id from x ff ∙ cmp_less (id_number e.id) (id_number from) less)

  above_to : (e : Stored) → IsId e.id → id_number to < id_number e.id → test (plain e) ≡ false
  above_to e x more =
      ap (λ o. not (is_lt (id_cmp (pair_of e.id) (pair_of from))) && not (is_lt o)) (pair_cmp to e.id ft x ∙ cmp_less (id_number to) (id_number e.id) more)
      ∙ and_false (not (is_lt (id_cmp (pair_of e.id) (pair_of from))))

  low_none : (es : List Stored) → AllByRecursion (λ e. IsId e.id) es → AllByRecursion (λ e. id_number e.id < id_number from) es → filter test (live_of es) ≡ []
  low_none es ids less =
      filter_none test (live_of es)
      (all_live (λ e. test e ≡ false) es (all_both (λ (e : Stored). IsId e.id) (λ e. id_number e.id < id_number from) (λ e. test (plain e) ≡ false) es below_from ids less))

  high_none : (es : List Stored) → AllByRecursion (λ e. IsId e.id) es → AllByRecursion (λ e. id_number to < id_number e.id) es → filter test (live_of es) ≡ []
  high_none es ids more =
      filter_none test (live_of es) (all_live (λ e. test e ≡ false) es (all_both (λ (e : Stored). IsId e.id) (λ e. id_number to < id_number e.id) (λ e. test (plain e) ≡ false) es above_to ids more))

  joined : (p : Part) (ps : List Part) → filter test (entries_in (p ∷ ps)) ≡ filter test (live_in p) ++ filter test (entries_in ps)
  joined p ps = filter-append test (live_in p) (entries_in ps)

  module _ (m : Blocks) where
    part_high : (p : Part) → IsPart m p → id_number to < id_number p.key → filter test (live_in p) ≡ []
    part_high p is more =
        high_none (stored_in p) (part_ids m p is)
        (all_weaker (λ (e : Stored). id_number p.key ≤ id_number e.id) (λ e. id_number to < id_number e.id) (stored_in p) (λ e upto. omega (arith, more)) is.is_node.from)

    parts_high : (ps : List Part) → AllByRecursion (IsPart m) ps → AllByRecursion (λ p. id_number to < id_number p.key) ps → filter test (entries_in ps) ≡ []
    parts_high [] each more = refl
    parts_high (p ∷ ps) each more = joined p ps ∙ (λ i. part_high p each.0 more.0 i ++ parts_high ps each.1 more.1 i)

    parts_low : (ps after : List Part) (p : Part) → AllByRecursion (IsPart m) ps → Rising (ps ++ p ∷ after) → id_number p.key ≤ id_number from → filter test (entries_in ps) ≡ []
    parts_low [] after p each r upto = refl
    parts_low (q ∷ ps) after p each r upto =
        let ends = (all_back (EndsBefore q) ps (p ∷ after) r.0).0 in
        let here = low_none (stored_in q) (part_ids m q each.0)
        (all_weaker (λ (e : Stored). id_number e.id < id_number p.key) (λ e. id_number e.id < id_number from) (stored_in q) (λ e less. omega (arith, upto)) ends) in
        joined q ps ∙ (λ i. here i ++ parts_low ps after p each.1 r.1 upto i)

    -- nodes above the upper id have nothing that is wanted
    skips_high : (ps : List Part) → AllByRecursion (IsPart m) ps → filter test (entries_in (filter (is_ahead true to) ps)) ≡ filter test (entries_in ps)
    skips_high [] each = refl
    skips_high (p ∷ ps) each = elim (cases_lt (id_number to) (id_number p.key)) [
      | inl more ↦
          ap (λ qs. filter test (entries_in qs)) (cond-false _ (p ∷ filter (is_ahead true to) ps) (filter (is_ahead true to) ps) (less_test (id_number to) (id_number p.key) more))
          ∙ skips_high ps each.1 ∙ sym (joined p ps ∙ ap (λ es. es ++ filter test (entries_in ps)) (part_high p each.0 more))
      | inr upto ↦
          ap (λ qs. filter test (entries_in qs)) (cond-true _ (p ∷ filter (is_ahead true to) ps) (filter (is_ahead true to) ps) (upto_test (id_number p.key) (id_number to) upto))
          ∙ joined p (filter (is_ahead true to) ps) ∙ ap (λ es. filter test (live_in p) ++ es) (skips_high ps each.1) ∙ sym (joined p ps)
    ]

-- the keys of the nodes around one of them
module _ (m : Blocks) (before after : List Part) (p : Part) (each : AllByRecursion (IsPart m) (before ++ p ∷ after)) (rising : Rising (before ++ p ∷ after)) where
  pub keys_before : AllByRecursion (λ q. id_number q.key < id_number p.key) before
  keys_before = walk before (all_front (IsPart m) before (p ∷ after) each) rising
    where
      walk : (qs : List Part) → AllByRecursion (IsPart m) qs → Rising (qs ++ p ∷ after) → AllByRecursion (λ q. id_number q.key < id_number p.key) qs
      walk [] a r = tt
      walk (q ∷ qs) a r = (keys_rise m q p a.0 (all_back (EndsBefore q) qs (p ∷ after) r.0).0, walk qs a.1 r.1)

  mine : IsPart m p × AllByRecursion (IsPart m) after
  mine = all_back (IsPart m) before (p ∷ after) each

  pub keys_after : AllByRecursion (λ q. id_number p.key < id_number q.key) after
  keys_after = all_weaker (EndsBefore p) (λ q. id_number p.key < id_number q.key) after (λ q ends. keys_rise m p q mine.0 ends) (rising_back before (p ∷ after) rising).0

  -- what a walk has before it: from this node on, and behind it
  pub up_from : (at : Id) → AllByRecursion (λ q. id_number q.key < id_number at) before → id_number at ≤ id_number p.key → filter (is_ahead false at) (before ++ p ∷ after) ≡ p ∷ after
  up_from at less upto =
      filter-append (is_ahead false at) before (p ∷ after)
      ∙
      (λ i. filter_none (is_ahead false at) before
      (all_weaker (λ (q : Part). id_number q.key < id_number at) (λ q. is_ahead false at q ≡ false) before (λ q h. less_test (id_number q.key) (id_number at) h) less) i
      ++ filter_all (is_ahead false at) (p ∷ after) (
        upto_test (id_number at) (id_number p.key) upto,
        all_weaker (λ (q : Part). id_number p.key < id_number q.key) (λ q. is_ahead false at q ≡ true) after
            (λ q h. upto_test (id_number at) (id_number q.key) (omega (arith, upto, h))) keys_after,
      ) i)

  pub up_behind : (at : Id) → id_number at ≡ id_number p.key + 1 → filter (is_ahead false at) (before ++ p ∷ after) ≡ after
  up_behind at is =
      filter-append (is_ahead false at) before (p ∷ after)
      ∙
      (λ i. filter_none (is_ahead false at) before
      (all_weaker (λ (q : Part). id_number q.key < id_number p.key) (λ q. is_ahead false at q ≡ false) before (λ q h. less_test (id_number q.key) (id_number at) (omega (arith, is, h)))
      keys_before) i
      ++ filter (is_ahead false at) (p ∷ after))
      ∙ cond-false _ (p ∷ filter (is_ahead false at) after) (filter (is_ahead false at) after) (less_test (id_number p.key) (id_number at) (omega (arith, is)))
      ∙ filter_all (is_ahead false at) after
      (all_weaker (λ (q : Part). id_number p.key < id_number q.key) (λ q. is_ahead false at q ≡ true) after (λ q h. upto_test (id_number at) (id_number q.key) (omega (arith, is, h)))
      keys_after)

  none_after : (at : Id) → id_number at ≤ id_number p.key → filter (is_ahead true at) after ≡ []
  none_after at upto = filter_none (is_ahead true at) after
      (all_weaker (λ (q : Part). id_number p.key < id_number q.key) (λ q. is_ahead true at q ≡ false) after (λ q h. less_test (id_number at) (id_number q.key) (omega (arith, upto, h)))
      keys_after)

  all_before : (at : Id) → id_number p.key ≤ id_number at + 1 → filter (is_ahead true at) before ≡ before
  all_before at upto = filter_all (is_ahead true at) before
      (all_weaker (λ (q : Part). id_number q.key < id_number p.key) (λ q. is_ahead true at q ≡ true) before (λ q h. upto_test (id_number q.key) (id_number at) (omega (arith, upto, h)))
      keys_before)

  down_from : (at : Id) → id_number p.key ≤ id_number at → AllByRecursion (λ q. id_number at < id_number q.key) after → filter (is_ahead true at) (before ++ p ∷ after) ≡ before ++ p ∷ []
  down_from at upto more =
      filter-append (is_ahead true at) before (p ∷ after)
      ∙ (λ i. all_before at (omega (arith, upto)) i ++ filter (is_ahead true at) (p ∷ after))
      ∙ ap (λ qs. before ++ qs) (cond-true _ (p ∷ filter (is_ahead true at) after) (filter (is_ahead true at) after) (upto_test (id_number p.key) (id_number at) upto)
      ∙ ap (λ qs. p ∷ qs)
      (filter_none (is_ahead true at) after
      (all_weaker (λ (q : Part). id_number at < id_number q.key) (λ q. is_ahead true at q ≡ false) after (λ q h. less_test (id_number at) (id_number q.key) h) more)))

  down_behind : (at : Id) → id_number at + 1 ≡ id_number p.key → filter (is_ahead true at) (before ++ p ∷ after) ≡ before
  down_behind at is =
      filter-append (is_ahead true at) before (p ∷ after)
      ∙ (λ i. all_before at (omega (arith, is)) i ++ filter (is_ahead true at) (p ∷ after))
      ∙ ap (λ qs. before ++ qs) (cond-false _ (p ∷ filter (is_ahead true at) after) (filter (is_ahead true at) after) (less_test (id_number at) (id_number p.key) (omega (arith, is)))
      ∙ none_after at (omega (arith, is)))
      ∙ append-nil before

-- the nodes behind one of them, as a walk goes
abbrev rest : Bool → List Part → List Part → List Part
rest false before after = after
rest true before after = before

pub turned_none : (back : Bool) → turned back [] ≡ []
turned_none false = refl
turned_none true = refl

abbrev pub want : Id → Id → Bool → ℕ → Wanted
want from to back limit = record { from = from; to = to; back = back; limit = limit }

module _ (m : Blocks) (from to : Id) (limit : ℕ) (ff : IsId from) (ft : IsId to) (ps : List Part) (each : AllByRecursion (IsPart m) ps) (rising : Rising ps) (at : Id) where
  -- no node comes any more
  pub goes_nowhere : (back : Bool) (found : List Owned) → length found ≤ limit → AllByRecursion (Misses (not back) at) ps → Goes (want from to back limit) ps at found found None
  goes_nowhere false found within miss = record {
    same = ap (λ qs. take limit (map taken found ++ wanted_in (want from to false limit) qs))
        (sym (filter_none (is_ahead false at) ps (all_weaker (Misses true at) (λ q. is_ahead false at q ≡ false) ps (λ q h. less_test (id_number q.key) (id_number at) h) miss)));
    within = within;
    fewer = omega arith;
  }
  goes_nowhere true found within miss = record {
    same = ap (λ qs. take limit (map taken found ++ wanted_in (want from to true limit) qs))
        (sym (filter_none (is_ahead true at) ps (all_weaker (Misses false at) (λ q. is_ahead true at q ≡ false) ps (λ q h. less_test (id_number at) (id_number q.key) h) miss)));
    within = within;
    fewer = omega arith;
  }

  module _ (p : Part) where
    -- the nodes that a walk has before it, and those behind the next one
    from_here : (back : Bool) (n : IsNear (not back) ps at p) → wanted_in (want from to back limit) (ahead back (Some at) ps) ≡ wanted_of (want from to back limit) (live_in p)
        ++ wanted_in (want from to back limit) (rest back n.before n.after)
    from_here false n =
        ap (λ qs. wanted_in (want from to false limit) (filter (is_ahead false at) qs)) n.place
        ∙ ap (wanted_in (want from to false limit)) (up_from m n.before n.after p (subst (AllByRecursion (IsPart m)) n.place each) (subst Rising n.place rising) at n.passes n.reaches)
        ∙ joined from to ff ft p n.after
    from_here true n =
        ap (λ qs. wanted_in (want from to true limit) (filter (is_ahead true at) qs)) n.place
        ∙ ap (wanted_in (want from to true limit)) (down_from m n.before n.after p (subst (AllByRecursion (IsPart m)) n.place each) (subst Rising n.place rising) at n.reaches n.passes)
        ∙ ap (wanted_of (want from to true limit)) (entries_append n.before (p ∷ []) ∙ ap (λ es. entries_in n.before ++ es) (append-nil (live_in p)))
        ∙ ap reverse (filter-append (is_between from to) (entries_in n.before) (live_in p))
        ∙ reverse-append (filter (is_between from to) (entries_in n.before)) (filter (is_between from to) (live_in p))

    some_here : (back : Bool) (n : IsNear (not back) ps at p) → length (ahead back (Some at) ps) ≡ length (rest back n.before n.after) + 1
    some_here false n =
        let is = ap (filter (is_ahead false at)) n.place ∙ up_from m n.before n.after p (subst (AllByRecursion (IsPart m)) n.place each) (subst Rising n.place rising) at n.passes n.reaches in
        omega (arith, ap length is)
    some_here true n =
        let is = ap (filter (is_ahead true at)) n.place ∙ down_from m n.before n.after p (subst (AllByRecursion (IsPart m)) n.place each) (subst Rising n.place rising) at n.reaches n.passes in
        omega (arith, ap length is, length-append n.before (p ∷ []))

    behind_is : (back : Bool) (n : IsNear (not back) ps at p) (next : Id) → Follows back p.key next → ahead back (Some next) ps ≡ rest back n.before n.after
    behind_is false n next is = ap (filter (is_ahead false next)) n.place ∙ up_behind m n.before n.after p (subst (AllByRecursion (IsPart m)) n.place each) (subst Rising n.place rising) next is
    behind_is true n next is = ap (filter (is_ahead true next)) n.place ∙ down_behind m n.before n.after p (subst (AllByRecursion (IsPart m)) n.place each) (subst Rising n.place rising) next is

    none_behind : (back : Bool) (n : IsNear (not back) ps at p) → Ends (want from to back limit) back p.key → wanted_in (want from to back limit) (rest back n.before n.after) ≡ []
    none_behind false n is =
        let all = subst (AllByRecursion (IsPart m)) n.place each in
        parts_high from to ff ft m n.after (all_back (IsPart m) n.before (p ∷ n.after) all).1
        (all_weaker (λ (q : Part). id_number p.key < id_number q.key) (λ q. id_number to < id_number q.key) n.after (λ q h. omega (arith, is, h))
        (keys_after m n.before n.after p all (subst Rising n.place rising)))
    none_behind true n is =
        ap reverse (parts_low from to ff ft m n.before n.after p (all_front (IsPart m) n.before (p ∷ n.after) (subst (AllByRecursion (IsPart m)) n.place each)) (subst Rising n.place rising) is)

    module _ (back : Bool) (n : IsNear (not back) ps at p) (old new : List Owned) (has : map taken new ≡ take limit (map taken old ++ wanted_of (want from to back limit) (live_in p)))
        (within : length new ≤ limit) where
      abbrev pub w : Wanted
      w = want from to back limit

      total : take limit (map taken new ++ wanted_in w (rest back n.before n.after)) ≡ take limit (map taken old ++ wanted_in w (ahead back (Some at) ps))
      total =
          ap (λ es. take limit (es ++ wanted_in w (rest back n.before n.after))) has
          ∙ take_again limit (map taken old ++ wanted_of w (live_in p)) (wanted_in w (rest back n.before n.after))
          ∙ ap (take limit) (append_assoc (map taken old) (wanted_of w (live_in p)) (wanted_in w (rest back n.before n.after)) ∙ ap (λ es. map taken old ++ es) (sym (from_here back n)))

      pub goes_on : (next : Id) → Follows back p.key next → Goes w ps at old new (Some next)
      goes_on next is = record {
        same = ap (λ qs. take limit (map taken new ++ wanted_in w qs)) (behind_is back n next is) ∙ total;
        within = within;
        fewer = omega (arith, some_here back n, ap length (behind_is back n next is));
      }

      pub goes_end : Ends w back p.key → Goes w ps at old new None
      goes_end is = record {
        same = ap (λ es. take limit (map taken new ++ es)) (turned_none back ∙ sym (none_behind back n is)) ∙ total;
        within = within;
        fewer = omega arith;
      }

      pub goes_full : limit ≤ length new → Goes w ps at old new None
      goes_full full =
          let upto : limit ≤ length (map taken new) = omega (arith, full, length-map new taken) in
          record {
            same = take-append-le limit (map taken new) (turned back []) upto ∙ sym (take-append-le limit (map taken new) (wanted_in w (rest back n.before n.after)) upto) ∙ total;
            within = within;
            fewer = omega arith;
          }

      pub goes_next : (next : Option Id) → IfSome next (Follows back p.key) → IfNone next (Ends w back p.key) → Goes w ps at old new next
      goes_next None follows ends = goes_end ends
      goes_next (Some next) follows ends = goes_on next follows

-- where a walk begins
module _ (m : Blocks) (from to : Id) (limit : ℕ) (ff : IsId from) (ft : IsId to) (ps : List Part) (each : AllByRecursion (IsPart m) ps) (rising : Rising ps) where
  pub begins_down : wanted_in (want from to true limit) (ahead true (Some to) ps) ≡ wanted_in (want from to true limit) ps
  begins_down = ap reverse (skips_high from to ff ft m ps each)

  pub begins_first : AllByRecursion (Misses false from) ps → wanted_in (want from to false limit) (ahead false (Some from) ps) ≡ wanted_in (want from to false limit) ps
  begins_first miss =
      ap (wanted_in (want from to false limit))
      (filter_all (is_ahead false from) ps
      (all_weaker (Misses false from) (λ q. is_ahead false from q ≡ true) ps (λ q h. upto_test (id_number from) (id_number q.key) (omega (arith, h))) miss))

  pub begins_near : (p : Part) → IsNear false ps from p → wanted_in (want from to false limit) (ahead false (Some p.key) ps) ≡ wanted_in (want from to false limit) ps
  begins_near p n =
      let all = subst (AllByRecursion (IsPart m)) n.place each in
      let rises = subst Rising n.place rising in
      ap (λ qs. filter (is_between from to) (entries_in (filter (is_ahead false p.key) qs))) n.place
      ∙ ap (λ qs. filter (is_between from to) (entries_in qs)) (up_from m n.before n.after p all rises p.key (keys_before m n.before n.after p all rises) (omega arith))
      ∙ ap (λ es. es ++ filter (is_between from to) (entries_in (p ∷ n.after))) (sym (parts_low from to ff ft m n.before n.after p (all_front (IsPart m) n.before (p ∷ n.after) all) rises n.reaches))
      ∙ sym
      (ap (λ qs. filter (is_between from to) (entries_in qs)) n.place ∙ ap (filter (is_between from to)) (entries_append n.before (p ∷ n.after))
      ∙ filter-append (is_between from to) (entries_in n.before) (entries_in (p ∷ n.after)))

-- a walk that has ended has found all
pub ended : (w : Wanted) (ps : List Part) (found : List Owned) (all : List StreamEntry) (next : Option Id) → next ≡ None → length found ≤ w.limit
    → take w.limit (map taken found ++ wanted_in w (ahead w.back next ps)) ≡ all → map taken found ≡ all
ended w ps found all next none within is =
    sym (take_all w.limit (map taken found) (omega (arith, within, length-map found taken)))
    ∙ ap (take w.limit) (sym (append-nil (map taken found)))
    ∙ ap (λ es. take w.limit (map taken found ++ es)) (sym (turned_none w.back))
    ∙ ap (λ n. take w.limit (map taken found ++ wanted_in w (ahead w.back n ps))) (sym none) ∙ is
