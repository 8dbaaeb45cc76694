-- What the calls on a dictionary make of it, from what its parts do.
use Rattle.std.proofs.Common.{◌≡◌, ◌≢◌, inl, inr, ℕ, zero, suc, ◌+◌, ◌%◌, ◌<◌, Bool, true, false, cond, eqb, List, [], ◌∷◌, ◌++◌, set, length, map, max, Option, Some, None, IsSome}
use Rattle.std.proofs.Common.{is_some, refl, sym, ap, ◌∙◌, subst, arith}
use Rattle.std.specs.Prelude.{MatchBool, unwrap_or}
use Rattle.std.proofs.lemmas.Bool.{cases_eq, cases_lt, cond-true, cond-false}
use Rattle.std.proofs.lemmas.Bool.Decides.{nat_tests}
use Rattle.std.proofs.lemmas.List.{length-set}
use Rattle.blocks.specs.declared.BlockRef.{BlockRef}
use Rattle.blocks.specs.Blocks.{Blocks}
use Rattle.rev_cursor.specs.Span.{times}
use Rattle.rehash_dict.specs.declared.chains.Side.{Side}
use Rattle.rehash_dict.specs.declared.chains.Side.TheVariants.{Older, Newer}
use Rattle.rehash_dict.specs.Tables.{Tables, bucket, count, is_rehashing, ended, with_room, rehashed, joined, inserted, without, removed, begun, wants_shrink, shrunk, least_power}
use Rattle.rehash_dict.specs.Table.{Element, Table, Chaining, at_item, item, Agrees, Updates}
use Rattle.rehash_dict.specs.Placed.{IsSize, Stand, IsKept, IsPlaced}
use Rattle.rehash_dict.specs.Sides.{last_of, SwapsIn, AddsTo, LeavesFrom, Rebuilds, side_rows, held_tables}
use Rattle.rehash_dict.specs.Keyed.{hash_of, same_key, Stands, Lacks, Keyed, key_tables}
use Rattle.rehash_dict.specs.Steps.{table_rows, IsSpot, Adds, Renames, Takes, IsOther}
use Rattle.rehash_dict.proofs.Counts.{without_none}
use Rattle.rehash_dict.proofs.Stands.{one_bucket, one_table, flip}
use Rattle.rehash_dict.proofs.Keys.{keyed_from, key_tables_same, key_same_in_keys, keyed_added, key_tables_added, key_tables_removed}

-- taking out an item number that stands in no bucket leaves all buckets
rows_kept : (at : ℕ) (rows : List (List ℕ)) → ((j : ℕ) → times at (bucket rows j) ≡ 0) → map (without eqb at) rows ≡ rows
rows_kept at [] out = refl
rows_kept at (r ∷ rest) out = λ i. without_none at r (out 0) i ∷ rows_kept at rest (λ j. out (suc j)) i

-- taking out an item number that stands in no other bucket than this one changes this one only
rows_without : (at : ℕ) (rows : List (List ℕ)) (k : ℕ) → ((j : ℕ) → j ≢ k → times at (bucket rows j) ≡ 0) → map (without eqb at) rows ≡ set rows k (without eqb at (bucket rows k))
rows_without at [] k out = refl
rows_without at (r ∷ rest) zero out = ap (λ t. without eqb at r ∷ t) (rows_kept at rest (λ j. out (suc j) (λ e. omega arith)))
rows_without at (r ∷ rest) (suc k) out = λ i. without_none at r (out 0 (λ e. omega arith)) i ∷ rows_without at rest k (λ j ne. out (suc j) (λ e. ne (omega arith))) i

module _ {V : Type 0} where
  -- the dictionary of these elements and buckets
  abbrev pub table_of : Chaining V → ℕ → ℕ → ℕ → Table V
  table_of h position seed top = record { items = h.items; older = h.older; newer = h.newer; position = position; seed = seed; top = top }

  -- ---- a look at one element

  -- the comparison of a block's bytes with the key tells whether the item number is that of the key
  pub key_answer : (blocks : Blocks) (t : Table V) (at hash : ℕ) (key bytes : List ℕ) (e : Element V) (b : Bool) → item t at ≡ Some e → blocks e.key ≡ Some bytes → (b ≡ true → bytes ≡ key)
      → (bytes ≡ key → b ≡ true) → MatchBool b (Stands blocks t at key) (IsOther blocks t hash key at)
  key_answer blocks t at hash key bytes e true found live is back = record { element = e; found = found; bytes = live ∙ ap Some (is refl) }
  key_answer blocks t at hash key bytes e false found live is back = λ f h same bad.
      let one : f ≡ e = (let q : Some f ≡ Some e = sym h ∙ found in cc) in
      let two : bytes ≡ key = (let q : Some bytes ≡ Some key = sym live ∙ ap (λ (x : Element V). blocks x.key) (sym one) ∙ bad in cc) in
      let q : false ≡ true = back two in
      cc

  -- ---- a key is named by another block

  module _ (h later : Chaining V) (position seed top at : ℕ) (ref : BlockRef) (p : IsPlaced (table_of h position seed top))
      (s : SwapsIn h later at (λ e. at_item later.items at ≡ Some (record e { key = ref }))) where
    -- an item number that has an element afterwards had one before
    was_there : (i : ℕ) → IsSome (at_item later.items i) → IsSome (at_item h.items i)
    was_there i there = elim (cases_eq i at) [
      | inl here ↦ ap (λ n. is_some (at_item h.items n)) here ∙ ap is_some s.found
      | inr other ↦ ap is_some (sym (s.others i other)) ∙ there
    ]

    -- with the key named by another block, what holds of a dictionary's tables at every moment still holds
    placed_renamed : IsPlaced (table_of later position seed top)
    placed_renamed = record {
      kept = record {
        stand = s.stand;
        waits = λ going. subst (λ t. 0 < count t) (sym s.older) (p.kept.waits (subst (λ t. 0 < length t) s.newer going));
        passed = λ k lt. ap (λ t. bucket t k) s.older ∙ p.kept.passed k lt;
        begins = λ none. p.kept.begins (ap length (sym s.newer) ∙ none);
      };
      below = λ i there. p.below i (was_there i there);
    }

    -- only the element's key block changes, and where all keys keep their bytes the dictionary means what it meant
    pub renames : Renames (table_of h position seed top) (table_of later position seed top) at ref
    renames = record {
      element = s.element;
      found = s.found;
      updates = record { changed = s.swapped; others = s.others };
      tables = λ i. record { older = s.older i; newer = s.newer i; position = position };
      seed = refl;
      top = refl;
      keyed = λ before after k same keeps. (
        keyed_from before after (table_of h position seed top) (table_of later position seed top) k placed_renamed refl
            (λ i f there. elim (cases_eq i at) [
              | inl here ↦
                  (let one : f ≡ record s.element { key = ref } = (let q : Some f ≡ Some (record s.element { key = ref }) = sym there ∙ ap (at_item later.items) here ∙ s.swapped in cc) in
                  (s.element, ap (at_item h.items) here ∙ s.found, ap (λ x. x.hash) one, ap (λ (x : Element V). after x.key) one ∙ same))
              | inr other ↦ (f, sym (s.others i other) ∙ there, refl, keeps i f other (sym (s.others i other) ∙ there))
            ]),
        key_tables_same before after (table_of h position seed top) (table_of later position seed top) p (λ i. record { older = s.older i; newer = s.newer i; position = position })
            (λ i e there. elim (cases_eq i at) [
              | inl here ↦
                  (let one : e ≡ s.element = (let q : Some e ≡ Some s.element = sym there ∙ ap (at_item h.items) here ∙ s.found in cc) in
                  key_same_in_keys before after (table_of h position seed top) (table_of later position seed top) i e (record s.element { key = ref }) there
                  (ap (at_item later.items) here ∙ s.swapped) (same ∙ ap (λ (x : Element V). before x.key) (sym one)))
              | inr other ↦ key_same_in_keys before after (table_of h position seed top) (table_of later position seed top) i e e there (s.others i other ∙ there) (keeps i e other there)
            ]),
      );
    }

  -- ---- an element leaves

  module _ (h mid last : Chaining V) (position later seed top number at : ℕ) (key : BlockRef) (value : V) (p : IsPlaced (table_of h position seed top)) (b : Rebuilds mid last later)
      (e : held_tables last later ≡ ended (held_tables mid position)) where
    -- the tables with the item number taken out of all buckets
    abbrev without_all : Tables ℕ
    without_all = record { older = map (without eqb at) h.older; newer = map (without eqb at) h.newer; position = position }

    -- where an element left its bucket and the tables are those without its item number, it is taken out
    finish : {side : Side} → LeavesFrom side h mid number at key value → held_tables mid position ≡ without_all → Takes (table_of h position seed top) (table_of last later seed top) at key value
    unfolding removed
    finish l same =
        let items : last.items ≡ mid.items = b.items in
        let other : (i : ℕ) → i ≢ at → at_item last.items i ≡ at_item h.items i = λ i ne. ap (λ xs. at_item xs i) items ∙ l.updates.others i ne in
        let gone : at_item last.items at ≡ None = ap (λ xs. at_item xs at) items ∙ l.updates.changed in
        record {
          hash = l.hash;
          found = l.found;
          updates = record { changed = gone; others = other };
          tables = e ∙ ap ended same;
          seed = refl;
          top = refl;
          placed = record {
            kept = b.kept;
            below = λ i there. elim (cases_eq i at) [
              | inl here ↦ (let q : is_some (at_item last.items i) ≡ false = ap (λ n. is_some (at_item last.items n)) here ∙ ap is_some gone in cc)
              | inr ne ↦ p.below i (ap is_some (sym (other i ne)) ∙ there)
            ];
          };
        }

    -- an element that leaves the bucket of the older table in which it stands is taken out of the dictionary
    pub takes_older : LeavesFrom Older h mid number at key value → 0 < times at (bucket h.older number) → Takes (table_of h position seed top) (table_of last later seed top) at key value
    takes_older l inside = finish l (λ i. record {
      older = (l.rows.0 ∙ sym (rows_without at h.older number (λ j ne. one_bucket h.items h.older h.newer number j at p.kept.stand inside ne))) i;
      newer = (l.rows.1 ∙ sym (rows_kept at h.newer (λ j. one_table h.items h.older h.newer number j at p.kept.stand inside))) i;
      position = position;
    })

    -- an element that leaves the bucket of the newer table in which it stands is taken out of the dictionary
    pub takes_newer : LeavesFrom Newer h mid number at key value → 0 < times at (bucket h.newer number) → Takes (table_of h position seed top) (table_of last later seed top) at key value
    takes_newer l inside = finish l (λ i. record {
      older = (l.rows.1 ∙ sym (rows_kept at h.older (λ j. one_table h.items h.newer h.older number j at (flip h.items h.older h.newer p.kept.stand) inside))) i;
      newer = (l.rows.0 ∙ sym (rows_without at h.newer number (λ j ne. one_bucket h.items h.newer h.older number j at (flip h.items h.older h.newer p.kept.stand) inside ne))) i;
      position = position;
    })

    -- an element that leaves the bucket in which it stands, in either table, is taken out of the dictionary
    pub takes : (side : Side) → LeavesFrom side h mid number at key value → 0 < times at (bucket (side_rows side h) number)
        → Takes (table_of h position seed top) (table_of last later seed top) at key value
    takes Older l inside = takes_older l inside
    takes Newer l inside = takes_newer l inside

  -- ---- an element joins

  module _ (h room mid last : Chaining V) (position later seed top at : ℕ) (element : Element V) (side : Side) (p : IsPlaced (table_of h position seed top))
      (room_items : room.items ≡ h.items) (room_tables : held_tables room position ≡ with_room (held_tables h position))
      (b : Rebuilds room mid later) (stepped : (names : ℕ → ℕ) → Agrees names room.items → held_tables mid later ≡ rehashed names (held_tables room position) 1)
      (side_is : side ≡ (cond (is_rehashing (held_tables mid 0)) Newer Older)) (a : AddsTo side mid last at element) where
    -- making room and the rehash step before the insert leave all elements as they were
    same_items : mid.items ≡ h.items
    same_items = b.items ∙ room_items

    -- the item number of the new element was vacant before the insert
    vacant : at_item h.items at ≡ None
    vacant = ap (λ xs. at_item xs at) (sym same_items) ∙ a.vacant

    -- the insert puts the new element at its item number and changes no other item number
    updates : Updates h.items last.items at (Some element)
    updates = record { changed = a.updates.changed; others = λ i ne. a.updates.others i ne ∙ ap (λ xs. at_item xs i) same_items }

    -- hashes that agree with the elements after the insert agree with those before the rehash step
    agrees_before : (names : ℕ → ℕ) → Agrees names last.items → Agrees names room.items
    agrees_before names agrees i e found = elim (cases_eq i at) [
      | inl here ↦ (let q : Some e ≡ None = sym found ∙ ap (at_item room.items) here ∙ ap (λ xs. at_item xs at) (sym b.items) ∙ a.vacant in cc)
      | inr other ↦ agrees i e (a.updates.others i other ∙ ap (λ xs. at_item xs i) b.items ∙ found)
    ]

    -- during a rehash the element's side is the newer table, else the older, and equal tables tell the same of a rehash
    by_side : (going : Bool) → is_rehashing (held_tables mid 0) ≡ going → (side ≡ cond going Newer Older) × ((names : ℕ → ℕ) (u : Tables ℕ) → held_tables mid later ≡ u → is_rehashing u ≡ going)
    by_side going is = (side_is ∙ ap (λ c. cond c Newer Older) is, λ names u same. ap is_rehashing (sym same) ∙ is)

    -- the tables and what is kept of them
    record Joined : Type 0 where
      tables_joined : (names : ℕ → ℕ) → Agrees names last.items → held_tables last later ≡ joined names (held_tables mid later) at
      kept_joined : IsKept last.items last.older last.newer later

    -- whether or not a rehash is going on, the item number joins the tables, and what holds of them still holds
    at_side : (going : Bool) → is_rehashing (held_tables mid 0) ≡ going → Joined
    at_side true is =
        let newer : side ≡ Newer = side_is ∙ ap (λ c. cond c Newer Older) is in
        let n : AddsTo Newer mid last at element = subst (λ s. AddsTo s mid last at element) newer a in
        record {
          tables_joined = λ names agrees.
              let mine : names at ≡ element.hash = agrees at element a.updates.changed in
              (λ i. record { older = n.rows.1 i; newer = (n.rows.0 ∙ ap (λ m. set mid.newer (m % length mid.newer) (at ∷ bucket mid.newer (m % length mid.newer))) (sym mine)) i; position = later })
              ∙ sym (cond-true (is_rehashing (held_tables mid later)) _ _ is);
          kept_joined = record {
            stand = n.stand;
            waits = λ going. subst (λ t. 0 < count t) (sym n.rows.1) (b.kept.waits (subst (λ m. 0 < m) (ap length n.rows.0 ∙ length-set mid.newer _ _) going));
            passed = λ k lt. ap (λ t. bucket t k) n.rows.1 ∙ b.kept.passed k lt;
            begins = λ none. b.kept.begins (sym (ap length n.rows.0 ∙ length-set mid.newer _ _) ∙ none);
          };
        }
    at_side false is =
        let older : side ≡ Older = side_is ∙ ap (λ c. cond c Newer Older) is in
        let n : AddsTo Older mid last at element = subst (λ s. AddsTo s mid last at element) older a in
        let still : length mid.newer ≡ 0 = grind (arith, nat_tests) in
        let start : later ≡ 0 = b.kept.begins still in
        record {
          tables_joined = λ names agrees.
              let mine : names at ≡ element.hash = agrees at element a.updates.changed in
              (λ i. record { older = (n.rows.0 ∙ ap (λ m. set mid.older (m % length mid.older) (at ∷ bucket mid.older (m % length mid.older))) (sym mine)) i; newer = n.rows.1 i; position = later })
              ∙ sym (cond-false (is_rehashing (held_tables mid later)) _ _ is);
          kept_joined = record {
            stand = n.stand;
            waits = λ going. absurd (omega (arith, ap length n.rows.1));
            passed = λ k lt. absurd (omega arith);
            begins = λ none. start;
          };
        }

    -- the item number joins the tables that the rehash step left, and what holds of them still holds
    all_joined : Joined
    all_joined = at_side (is_rehashing (held_tables mid 0)) refl

    -- by hashes that agree with the elements, the tables are the old ones with the item number inserted
    tables_inserted : (names : ℕ → ℕ) → Agrees names last.items → held_tables last later ≡ inserted names (held_tables h position) at
    unfolding inserted
    tables_inserted names agrees =
        all_joined.tables_joined names agrees
        ∙ ap (λ u. joined names u at) (stepped names (agrees_before names agrees) ∙ ap (λ u. rehashed names u 1) room_tables)

    -- with the new element and a top above it, what holds of a dictionary's tables at every moment still holds
    placed_added : IsPlaced (table_of last later seed (max top (at + 1)))
    placed_added = record {
      kept = all_joined.kept_joined;
      below = λ i there. elim (cases_eq i at) [
        | inl here ↦ omega arith
        | inr other ↦ omega (arith, p.below i (ap is_some (sym (updates.others i other)) ∙ there))
      ];
    }

    -- the element joins the dictionary, and over a store where its key is live and new that is an insert of this key
    pub adds : Adds (table_of h position seed top) (table_of last later seed (max top (at + 1))) at element
    adds = record {
      vacant = vacant;
      updates = updates;
      seed = refl;
      top = refl;
      placed = placed_added;
      keyed = λ blocks k live hashed lacks. (
        keyed_added blocks (table_of h position seed top) (table_of last later seed (max top (at + 1))) at element k vacant updates refl placed_added live hashed lacks,
        key_tables_added blocks (table_of h position seed top) (table_of last later seed (max top (at + 1))) at element k vacant updates refl placed_added live hashed lacks tables_inserted,
      );
    }

  -- ---- sides

  -- the buckets of a side are those of the dictionary's table on that side
  pub side_table : (side : Side) (h : Chaining V) (position seed top : ℕ) (t : Table V) → table_of h position seed top ≡ t → side_rows side h ≡ table_rows side t
  side_table Older h position seed top t same = ap (λ x. x.older) same
  side_table Newer h position seed top t same = ap (λ x. x.newer) same

  -- either side has no bucket, or as many as a power of two of at least 4
  pub side_size : (side : Side) (h : Chaining V) → Stand h.items h.older h.newer → IsSize (length (side_rows side h))
  side_size Older h s = s.older_size
  side_size Newer h s = s.newer_size

  -- the answer of a look through one bucket
  pub spot_found : (blocks : Blocks) (t : Table V) (side : Side) (hash at : ℕ) (key : List ℕ) (before : Option ℕ) (front rest : List ℕ) → 0 < length (table_rows side t)
      → bucket (table_rows side t) (hash % length (table_rows side t)) ≡ front ++ at ∷ rest → before ≡ last_of front → Stands blocks t at key → IsSpot blocks t side hash key before at
  spot_found blocks t side hash at key before front rest some row last stands = record { table = some; behind = record { front = front; rest = rest; is = row; last = last }; stands = stands }

  -- a key that stands in neither bucket of its hash stands nowhere
  pub lacks_both : (blocks : Blocks) (t : Table V) (hash : ℕ) (key : List ℕ) → Keyed blocks t → hash ≡ hash_of t.seed key
      → ((at : ℕ) → 0 < times at (bucket t.older (hash % length t.older)) → IsOther blocks t hash key at)
      → ((at : ℕ) → 0 < times at (bucket t.newer (hash % length t.newer)) → IsOther blocks t hash key at) → Lacks blocks t key
  lacks_both blocks t hash key k is older newer = record {
    each = λ at e found bytes.
        let mine : e.hash ≡ hash = k.hashed at e found ∙ ap (λ o. hash_of t.seed (unwrap_or o [])) bytes ∙ sym is in
        let once : times at (bucket t.older (hash % length t.older)) + times at (bucket t.newer (hash % length t.newer)) ≡ 1
        = subst (λ n. times at (bucket t.older (n % length t.older)) + times at (bucket t.newer (n % length t.newer)) ≡ 1) mine (k.placed.kept.stand.once at e found) in
        elim (cases_lt 0 (times at (bucket t.older (hash % length t.older)))) [
          | inl here ↦ older at here e found mine bytes
          | inr none ↦ newer at (omega arith) e found mine bytes
        ];
  }

  -- ---- removal, by its key

  -- where the element of a key was taken out, the tables by key bytes are those with the key removed
  pub removed_tables : (blocks : Blocks) (old new : Table V) (at : ℕ) (key : List ℕ) (ref : BlockRef) (value : V) → Keyed blocks old → Stands blocks old at key → Takes old new at ref value
      → key_tables blocks new ≡ removed same_key (key_tables blocks old) key
  removed_tables blocks old new at key ref value k s t =
      let one : s.element ≡ record { key = ref; hash = t.hash; value = value } = (let q : Some s.element ≡ Some (record { key = ref; hash = t.hash; value = value }) = sym s.found ∙ t.found in cc) in
      key_tables_removed blocks old new at s.element key k s.found s.bytes t.updates t.seed t.placed t.tables

-- ---- shrinking

-- where no shrinking is wanted, a call of `shrink` changes nothing
pub shrinks_not : (t : Tables ℕ) → wants_shrink t ≡ false → shrunk t ≡ t
unfolding shrunk
shrinks_not t no' = cond-false (wants_shrink t) _ _ no'

-- where shrinking is wanted, a rehash begins to the least power of two not below the count, and at least 4
pub shrinks : (t : Tables ℕ) → wants_shrink t ≡ true → shrunk t ≡ begun t (max 4 (least_power (count t.older)))
unfolding shrunk
shrinks t yes' = cond-true (wants_shrink t) _ _ yes'
