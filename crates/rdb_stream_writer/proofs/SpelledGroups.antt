-- Consumers and groups are spelled.
use Rattle.std.proofs.Common.{◌≡◌, ℕ, ◌<◌, ◌≤◌, ◌^◌, Bool, true, false, cond, not, List, [], ◌∷◌, ◌++◌, length, map, Option, Some, None, is_some, refl, sym, ap, subst, ◌∙◌, append_assoc, arith}
use Rattle.std.specs.Prelude.{T, is_none, flat_map, ◌==◌}
use Rattle.std.specs.List.{filter, AllByRecursion}
use Rattle.std.specs.Option.{option_map}
use Rattle.std.specs.FinMap as maps
use Rattle.std.specs.FinMap.{get, insert, entries, entries_sorted, get-entries, is_sorted, keys, len, len-entries, len-empty}
use Rattle.std.proofs.lemmas.List.{append-nil, length-map}
use Rattle.stream_groups.specs.Groups.{Id, Names, Pending, Pendings, Group, Groups, id_cmp, name_cmp, is_of, with_consumer as with_name}
use Rattle.stream_groups.proofs.Maps.{first, second, equal}
use Rattle.stream_groups.proofs.Orders.{id_total, id_same, name_total, name_same}
use Rattle.fit_worlds.specs.Fit.{IsShort, EachIs, IsFitGroup}
use Rattle.rdb_grammar.specs.declared.values.StreamType.TheVariants as types
use Rattle.rdb_grammar.specs.Format.{in_turn}
use Rattle.rdb_grammar.specs.StreamParts.{Begun, begun, counted, times, group_last, is_claimed, named_group, with_unclaimed, with_claim, with_consumer, with_group}
use Rattle.rdb_parts.specs.Words.{length_word, string_word}
use Rattle.rdb_parts.proofs.Spelled.{length_spelled, string_spelled}
use Rattle.rdb_stream_writer.specs.Ids.{id_word, lengths_word, counted_by}
use Rattle.rdb_stream_writer.specs.Consumers.{moment_word, consumer_word}
use Rattle.rdb_stream_writer.specs.Groups.{pending_word, group_word, IsStoredEntry, IsStoredGroup}
use Rattle.rdb_stream_writer.proofs.Maps.{each_got, sorted_filter, taking, taking_all, AreFree, still_free, none_taken, taken_is, found_filter, Shows, shows_nothing, shows_more, shows_alike, shows_all, shows_none, not_there}
use Rattle.rdb_stream_writer.proofs.SpelledParts.{lengths_spelled, turns_none, turns_more, counted_spelled}
use Rattle.rdb_stream_writer.proofs.SpelledClaims.{handed_of, handed_in, ids_in, Pended, pendings_spelled, Split, Claimed, IsMine, claims_spelled}

-- ---- lists

some_of : {A : Type 0} (P : A → Type 0) (test : A → Bool) (xs : List A) → AllByRecursion P xs → AllByRecursion (λ x. P x × (test x ≡ true)) (filter test xs)
some_of P test [] h = tt
some_of P test (x ∷ xs) h =
    elim (test x) as (λ b. test x ≡ b → AllByRecursion (λ y. P y × (test y ≡ true)) (cond b (x ∷ filter test xs) (filter test xs))) [
      | true ↦ λ is. ((h.0, is), some_of P test xs h.1)
      | false ↦ λ is. some_of P test xs h.1
    ] refl

not_more : {A : Type 0} (test : A → Bool) (xs : List A) → length (filter test xs) ≤ length xs
not_more test [] = omega arith
not_more test (x ∷ xs) = elim (test x) as (λ b. length (cond b (x ∷ filter test xs) (filter test xs)) ≤ length (x ∷ xs)) [ true ↦ omega (arith, not_more test xs) | false ↦ omega (arith, not_more test xs) ]

both_of : {A : Type 0} (P Q : A → Type 0) (xs : List A) → AllByRecursion P xs → AllByRecursion Q xs → AllByRecursion (λ x. P x × Q x) xs
both_of P Q [] p q = tt
both_of P Q (x ∷ xs) p q = ((p.0, q.0), both_of P Q xs p.1 q.1)

each_so : {A : Type 0} (P Q : A → Type 0) (xs : List A) → ((x : A) → P x → Q x) → AllByRecursion P xs → AllByRecursion Q xs
each_so P Q [] is h = tt
each_so P Q (x ∷ xs) is h = (is x h.0, each_so P Q xs is h.1)

some_not : {A : Type 0} (o : Option A) → o ≡ None → not (is_some o) ≡ true
some_not o is = ap (λ p. not (is_some p)) is

-- what was handed out is of an entry
handed_some : (how : ℕ × ℕ) (found : Option Pending) → option_map handed_of found ≡ Some how → (p : Pending) × (found ≡ Some p)
handed_some how None is = absurd cc
handed_some how (Some p) is = (p, refl)

-- ---- consumers

abbrev names_in : List (List ℕ × Unit {0}) → List (List ℕ)
names_in es = map (λ e. e.0) es

-- whether an entry is of one of these consumers
abbrev owner_in : (List ℕ → Bool) → Option Pending → Bool
owner_in known None = false
owner_in known (Some p) = known p.consumer

abbrev of_known : Pendings → (List ℕ → Bool) → Id → Bool
of_known pending known q = owner_in known (get pending q)

times_spelled : (moment : ℕ) → (times types.Third).Spells tt (moment_word moment ++ moment_word moment)
times_spelled moment =
    let word = moment_word moment in
    (word, word, word, refl, (refl, refl), (word, word, [], sym (append-nil word), (refl, refl), (refl, refl)))

module _ (pending : Pendings) (moment : ℕ) (few : len pending < 2 ^ 64) (stored : AllByRecursion IsStoredEntry (entries pending)) where
  -- the entries of a consumer
  abbrev own : List ℕ → List (Id × Pending)
  own name = filter (is_of name) (entries pending)

  abbrev named : List ℕ → Begun → Begun
  named name made = record { group = with_name name made.group; unclaimed = made.unclaimed }

  own_mine : (name : List ℕ) → AllByRecursion (IsMine pending name) (own name)
  own_mine name =
      each_so (λ (e : Id × Pending). ((get pending (e.0) ≡ Some (e.1)) × IsStoredEntry e) × (is_of name e ≡ true)) (IsMine pending name) (own name)
      (λ e h. record { got = h.0.0; mine = name_same e.1.consumer name (equal _ h.1); fits = h.0.1 })
      (some_of (λ (e : Id × Pending). (get pending (e.0) ≡ Some (e.1)) × IsStoredEntry e) (is_of name) (entries pending)
      (both_of (λ (e : Id × Pending). get pending (e.0) ≡ Some (e.1)) IsStoredEntry (entries pending) (each_got id_total pending) stored))

  own_free : (name : List ℕ) (known : List ℕ → Bool) → known name ≡ false → AreFree (of_known pending known) (own name)
  own_free name known free =
      each_so (IsMine pending name) (λ (e : Id × Pending). of_known pending known (e.0) ≡ false) (own name)
      (λ e is. ap (owner_in known) is.got ∙ ap known is.mine ∙ free) (own_mine name)

  own_sorted : (name : List ℕ) → T (is_sorted id_cmp (own name))
  own_sorted name = sorted_filter id_total (is_of name) (entries pending) (entries_sorted pending)

  own_few : (name : List ℕ) → length (ids_in (own name)) < 2 ^ 64
  own_few name = omega (arith, length-map (own name) (λ (e : Id × Pending). e.0), not_more (is_of name) (entries pending), len-entries pending, few)

  -- what was claimed is what is of the consumers so far
  claimed_is : (name : List ℕ) (known : List ℕ → Bool) (q : Id) (p : Pending) → get pending q ≡ Some p
      → taking_all id_cmp (own name) (of_known pending known) q ≡ of_known pending (taking name_cmp name known) q
  claimed_is name known q p is =
      taken_is id_total (own name) (of_known pending known) q
      ∙ (λ i. cond (found_filter id_total (is_of name) (entries pending) q p id_same (entries_sorted pending) (sym (get-entries pending q) ∙ is) i) true (owner_in known (is i)))
      ∙ sym (ap (owner_in (taking name_cmp name known)) is)

  claims_split : (name : List ℕ) (known : List ℕ → Bool) (made : Begun) → Split pending made (taking_all id_cmp (own name) (of_known pending known)) → Split pending made (of_known pending (taking name_cmp name known))
  claims_split name known made split =
      let was : Id → Bool = taking_all id_cmp (own name) (of_known pending known) in
      let now : Id → Bool = of_known pending (taking name_cmp name known) in
      record {
        mine = shows_alike id_total id_same (get pending) was now made.group.pending (claimed_is name known) split.mine;
        left = shows_alike id_total id_same (handed_in pending) (λ q. not (was q)) (λ q. not (now q)) made.unclaimed
            (λ q how is. let p = handed_some how (get pending q) is in ap not (claimed_is name known q (p.0) (p.1))) split.left;
      }

  -- One consumer more.
  record Consumed (name : List ℕ) (known : List ℕ → Bool) (made : Begun) : Type 0 where
    final : Begun
    spelled : (with_consumer types.Third made).Spells final (consumer_word moment pending name)
    split : Split pending final (of_known pending (taking name_cmp name known))
    last : final.group.last ≡ made.group.last
    consumers : final.group.consumers ≡ insert made.group.consumers name tt

  consumer_spelled : (name : List ℕ) (known : List ℕ → Bool) (made : Begun) → IsShort name → known name ≡ false → get made.group.consumers name ≡ None → Split pending made (of_known pending known)
      → Consumed name known made
  consumer_spelled name known made short free none split =
      let c : Claimed pending name (own name) (named name made) (of_known pending known) =
      claims_spelled pending name (own name) (named name made) (of_known pending known) (own_sorted name) (own_mine name) (own_free name known free) (record { mine = split.mine; left = split.left }) in
      let word = moment_word moment in
      let ids = counted_by id_word (ids_in (own name)) in
      let claims : (counted (with_claim name) (named name made)).Spells c.final ids = counted_spelled (with_claim name) id_word (ids_in (own name)) (named name made) c.final (own_few name) c.spelled in
      record {
        final = c.final;
        spelled = (
          name,
          string_word name,
          word ++ (word ++ ids),
          refl,
          (string_spelled name short, some_not (get made.group.consumers name) none),
          (tt, word ++ word, ids, sym (append_assoc word word ids), times_spelled moment, claims),
        );
        split = claims_split name known c.final c.split;
        last = c.last;
        consumers = c.consumers;
      }

  module _ (consumers : Names) where
    -- All consumers are spelled, with what is pending for them.
    record AllConsumed (es : List (List ℕ × Unit {0})) (known : List ℕ → Bool) (made : Begun) : Type 0 where
      final : Begun
      spelled : (in_turn (with_consumer types.Third) (length (names_in es)) made).Spells final (flat_map (consumer_word moment pending) (names_in es))
      split : Split pending final (of_known pending (taking_all name_cmp es known))
      last : final.group.last ≡ made.group.last
      shows : Shows (get consumers) (taking_all name_cmp es known) final.group.consumers

    consumers_spelled : (es : List (List ℕ × Unit {0})) (known : List ℕ → Bool) (made : Begun) → T (is_sorted name_cmp es) → AllByRecursion (λ e. (get consumers (e.0) ≡ Some (e.1)) × IsShort (e.0)) es → AreFree known es
        → Shows (get consumers) known made.group.consumers → Split pending made (of_known pending known) → AllConsumed es known made
    consumers_spelled [] known made sorted each free shows split = record { final = made; spelled = turns_none (with_consumer types.Third) made; split = split; last = refl; shows = shows }
    consumers_spelled (e ∷ es) known made sorted each free shows split =
        let name : List ℕ = e.0 in
        let one : Consumed name known made =
        consumer_spelled name known made each.0.1 free.0 (not_there name_total name_same (get consumers) known made.group.consumers name shows free.0) split in
        let now : Shows (get consumers) (taking name_cmp name known) one.final.group.consumers =
        subst (λ (m : Names). Shows (get consumers) (taking name_cmp name known) m) (sym one.consumers)
        (shows_more name_total name_same (get consumers) known made.group.consumers name tt shows each.0.0) in
        let rest : AllConsumed es (taking name_cmp name known) one.final =
        consumers_spelled es (taking name_cmp name known) one.final (second _ _ sorted) each.1 (still_free name_total e es known (first _ _ sorted) free.1) now one.split in
        record {
          final = rest.final;
          spelled = turns_more (with_consumer types.Third) (length (names_in es)) made one.final rest.final (consumer_word moment pending name) (flat_map (consumer_word moment pending) (names_in es)) one.spelled rest.spelled;
          split = rest.split;
          last = rest.last ∙ one.last;
          shows = rest.shows;
        }

-- ---- a group

known_all : (consumers : Names) (name : List ℕ) → is_some (get consumers name) ≡ true → taking_all name_cmp (entries consumers) (λ q. false) name ≡ true
known_all consumers name is = taken_is name_total (entries consumers) (λ q. false) name ∙ ap (λ b. cond b true false) (ap is_some (sym (get-entries consumers name)) ∙ is)

module _ (moment : ℕ) (g : List ℕ × Group) (stored : IsStoredGroup g) (fit : IsFitGroup (g.0) (g.1)) where
  abbrev pending : Pendings
  pending = g.1.pending

  abbrev consumers : Names
  consumers = g.1.consumers

  abbrev all_known : List ℕ → Bool
  all_known = taking_all name_cmp (entries consumers) (λ q. false)

  pended : Pended pending (entries pending) (begun g.1.last) (λ q. false)
  pended =
      pendings_spelled pending (entries pending) (begun g.1.last) (λ q. false) (entries_sorted pending) stored.pending (each_got id_total pending) (none_taken (entries pending))
      (shows_nothing id_total id_same (handed_in pending))

  all_taken : (q : Id) (how : ℕ × ℕ) → handed_in pending q ≡ Some how → taking_all id_cmp (entries pending) (λ q. false) q ≡ true
  all_taken q how is =
      taken_is id_total (entries pending) (λ q. false) q
      ∙ ap (λ b. cond b true false) (ap is_some (sym (get-entries pending q)) ∙ ap is_some (handed_some how (get pending q) is).1)

  none_known : (q : Id) (p : Option Pending) → owner_in (λ q. false) p ≡ false
  none_known q None = refl
  none_known q (Some p) = refl

  split : Split pending pended.final (of_known pending (λ q. false))
  split = record {
    mine = subst (λ (group : Group). Shows (get pending) (of_known pending (λ q. false)) group.pending) (sym pended.group)
        (shows_alike id_total id_same (get pending) (λ q. false) (of_known pending (λ q. false)) maps.empty (λ q p is. sym (none_known q (get pending q))) (shows_nothing id_total id_same (get pending)));
    left = shows_alike id_total id_same (handed_in pending) (taking_all id_cmp (entries pending) (λ q. false)) (λ q. not (of_known pending (λ q. false) q)) pended.final.unclaimed
        (λ q how is. all_taken q how is ∙ sym (ap not (none_known q (get pending q)))) pended.shows;
  }

  consumed : AllConsumed pending moment stored.few_pending stored.pending consumers (entries consumers) (λ q. false) pended.final
  consumed =
      consumers_spelled pending moment stored.few_pending stored.pending consumers (entries consumers) (λ q. false) pended.final (entries_sorted consumers)
      (each_so (λ (e : List ℕ × Unit {0}). get consumers (e.0) ≡ Some (e.1)) (λ (e : List ℕ × Unit {0}). (get consumers (e.0) ≡ Some (e.1)) × IsShort (e.0)) (entries consumers)
      (λ e is. (is, fit.consumers (e.0) (e.1) is)) (each_got name_total consumers))
      (none_taken (entries consumers))
      (subst (λ (group : Group). Shows (get consumers) (λ q. false) group.consumers) (sym pended.group) (shows_nothing name_total name_same (get consumers)))
      split

  -- each entry is of a consumer
  owner_known : (q : Id) (p : Pending) → get pending q ≡ Some p → of_known pending all_known q ≡ true
  owner_known q p is = ap (owner_in all_known) is ∙ known_all consumers p.consumer (stored.owned q p is)

  made_pending : consumed.final.group.pending ≡ pending
  made_pending =
      shows_all id_total id_same consumed.final.group.pending pending
      (shows_alike id_total id_same (get pending) (of_known pending all_known) (λ q. true) consumed.final.group.pending owner_known consumed.split.mine)

  made_consumers : consumed.final.group.consumers ≡ consumers
  made_consumers =
      shows_all name_total name_same consumed.final.group.consumers consumers
      (shows_alike name_total name_same (get consumers) all_known (λ q. true) consumed.final.group.consumers (λ name x is. known_all consumers name (ap is_some is)) consumed.shows)

  none_left : consumed.final.unclaimed ≡ maps.empty
  none_left =
      shows_none id_total id_same (handed_in pending) consumed.final.unclaimed
      (shows_alike id_total id_same (handed_in pending) (λ q. not (of_known pending all_known q)) (λ q. false) consumed.final.unclaimed
      (λ q how is. let p = handed_some how (get pending q) is in ap not (owner_known q (p.0) (p.1))) consumed.split.left)

  made_is : consumed.final.group ≡ g.1
  made_is = λ i. record { last = (consumed.last ∙ ap (λ (group : Group). group.last) pended.group) i; consumers = made_consumers i; pending = made_pending i }

  all_claimed : is_claimed (g.0, consumed.final) ≡ true
  all_claimed = ap (λ m. len m == 0) none_left ∙ ap (λ n. n == 0) (len-empty id_cmp (ℕ × ℕ))

  last_spelled : (group_last types.Third).Spells g.1.last (lengths_word g.1.last ++ length_word 0)
  last_spelled =
      let zero_word = length_word 0 in (
        g.1.last,
        lengths_word g.1.last,
        zero_word,
        refl,
        lengths_spelled g.1.last stored.last,
        (tt, zero_word, [], refl, (0, zero_word, [], refl, length_spelled 0 (omega arith), (refl, refl)), (refl, refl)),
      )

  few_names : length (names_in (entries consumers)) < 2 ^ 64
  few_names = omega (arith, length-map (entries consumers) (λ (e : List ℕ × Unit {0}). e.0), len-entries consumers, stored.few_consumers)

  few_entries : length (entries pending) < 2 ^ 64
  few_entries = omega (arith, len-entries pending, stored.few_pending)

  pub group_spelled : (groups : Groups) → get groups (g.0) ≡ None → (with_group types.Third groups).Spells (insert groups (g.0) (g.1)) (group_word moment g)
  group_spelled groups none =
      let last = lengths_word g.1.last in
      let waiting = counted_by pending_word (entries pending) in
      let owners = counted_by (consumer_word moment pending) (keys consumers) in
      let word = group_word moment g in
      let p : (counted with_unclaimed (begun g.1.last)).Spells pended.final waiting = counted_spelled with_unclaimed pending_word (entries pending) (begun g.1.last) pended.final few_entries pended.spelled in
      let c : (counted (with_consumer types.Third) pended.final).Spells consumed.final owners =
      counted_spelled (with_consumer types.Third) (consumer_word moment pending) (keys consumers) pended.final consumed.final few_names consumed.spelled in
      let whole : (named_group types.Third groups).Spells (g.0, consumed.final) word = (
        g.0,
        string_word (g.0),
        last ++ (length_word 0 ++ (waiting ++ owners)),
        refl,
        (string_spelled (g.0) fit.short, ap is_none none),
        (
          g.1.last,
          last ++ length_word 0,
          waiting ++ owners,
          sym (append_assoc last (length_word 0) (waiting ++ owners)),
          last_spelled,
          (pended.final, waiting, owners, refl, p, (consumed.final, owners, [], sym (append-nil owners), c, (refl, refl))),
        ),
      ) in
      ((g.0, consumed.final), word, [], sym (append-nil word), (whole, all_claimed), (ap (insert groups (g.0)) (sym made_is), refl))

-- ---- all groups

module _ (moment : ℕ) (all : Groups) where
  -- All groups are spelled, and are there.
  pub record Grouped (es : List (List ℕ × Group)) (made : Groups) (known : List ℕ → Bool) : Type 0 where
    pub final : Groups
    pub spelled : (in_turn (with_group types.Third) (length es) made).Spells final (flat_map (group_word moment) es)
    pub shows : Shows (get all) (taking_all name_cmp es known) final

  some_groups : (es : List (List ℕ × Group)) (made : Groups) (known : List ℕ → Bool) → T (is_sorted name_cmp es) → AllByRecursion (λ e. get all (e.0) ≡ Some (e.1)) es → AllByRecursion IsStoredGroup es → EachIs IsFitGroup all → AreFree known es
      → Shows (get all) known made → Grouped es made known
  some_groups [] made known sorted got stored fit free shows = record { final = made; spelled = turns_none (with_group types.Third) made; shows = shows }
  some_groups (e ∷ es) made known sorted got stored fit free shows =
      let more : Groups = insert made (e.0) (e.1) in
      let none : get made (e.0) ≡ None = not_there name_total name_same (get all) known made (e.0) shows free.0 in
      let rest : Grouped es more (taking name_cmp (e.0) known) =
      some_groups es more (taking name_cmp (e.0) known) (second _ _ sorted) got.1 stored.1 fit (still_free name_total e es known (first _ _ sorted) free.1)
      (shows_more name_total name_same (get all) known made (e.0) (e.1) shows got.0) in
      record {
        final = rest.final;
        spelled = turns_more (with_group types.Third) (length es) made more rest.final (group_word moment e) (flat_map (group_word moment) es) (group_spelled moment e stored.0 (fit (e.0) (e.1) got.0) made none) rest.spelled;
        shows = rest.shows;
      }

  pub groups_spelled : AllByRecursion IsStoredGroup (entries all) → EachIs IsFitGroup all → len all < 2 ^ 64 → (counted (with_group types.Third) maps.empty).Spells all (counted_by (group_word moment) (entries all))
  groups_spelled stored fit few =
      let g : Grouped (entries all) maps.empty (λ q. false) =
      some_groups (entries all) maps.empty (λ q. false) (entries_sorted all) (each_got name_total all) stored fit (none_taken (entries all)) (shows_nothing name_total name_same (get all)) in
      let is : g.final ≡ all =
      shows_all name_total name_same g.final all (shows_alike name_total name_same (get all) (taking_all name_cmp (entries all) (λ q. false)) (λ q. true) g.final (λ name x found. known_there name (ap is_some found)) g.shows) in
      subst (λ (m : Groups). (counted (with_group types.Third) maps.empty).Spells m (counted_by (group_word moment) (entries all))) is
      (counted_spelled (with_group types.Third) (group_word moment) (entries all) maps.empty g.final (omega (arith, len-entries all, few)) g.spelled)
    where
      known_there : (name : List ℕ) → is_some (get all name) ≡ true → taking_all name_cmp (entries all) (λ q. false) name ≡ true
      known_there name is = taken_is name_total (entries all) (λ q. false) name ∙ ap (λ b. cond b true false) (ap is_some (sym (get-entries all name)) ∙ is)
