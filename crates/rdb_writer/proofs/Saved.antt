-- What stands at the item numbers of a keyspace, one behind the other, makes its world.
use Rattle.std.proofs.Common.{◌≡◌, inl, inr, ℕ, suc, ◌+◌, ◌-◌, ◌^◌, ◌<◌, ◌≤◌, Bool, true, false, cond, List, [], ◌++◌, length, min, Option, Some, None, IsSome, is_some, refl, sym, ap, subst, ◌∙◌, arith}
use Rattle.std.specs.Prelude.{nat_lt}
use Rattle.std.specs.Int.{from_bool}
use Rattle.std.proofs.lemmas.List.{get_or_past}
use Rattle.std.proofs.lemmas.Bool.{cases_Bool, cases_lt, cases_eq, cond-true, cond-false, eq-eqb, ne_eqb, lt-ltb, le-ltb, ltb-true}
use Rattle.std.specs.Ordering.{nat_cmp, eq_by_cmp, is_eq}
use Rattle.std.specs.declared.cmp.Ordering.{Ordering}
use Rattle.std.specs.declared.cmp.Ordering.TheVariants.{Less, Equal, Greater}
use Rattle.std.specs.Cmp.Lexicographic.{slice_cmp, nat_list_cmp_total}
use Rattle.std.specs.FinMap.{get, len, insert, get-empty, get-insert, len-insert, len-empty, slice_cmp-IsAntisymmetric, nat_cmp-IsAntisymmetric}
use Rattle.blocks.specs.Blocks.{Blocks}
use Rattle.plain_world.proofs.Maps.{maps_alike, get_inserted}
use Rattle.plain_world.proofs.Lives.{live_none, was_in_time}
use Rattle.plain_world.specs.Worlds.{World, Database, Entry, Value, Str, ListOf, SetOf, HashOf, SortedOf, StreamOf, in_time, no_keys, new_world, live, live_keys, look, put, selecting}
use Rattle.fit_worlds.specs.Fit.{IsFitValue}
use Rattle.rdb_grammar.specs.Files.{file_world, is_void}
use Rattle.rdb_grammar.specs.Items.{Key, item}
use Rattle.held.specs.Table.{item as element_at}
use Rattle.held.specs.Databases.{base_at, base_means, no_base}
use Rattle.held.specs.Calls.{StandsAt, IsDeadline}
use Rattle.held.proofs.Calls.{no_base_means}
use Rattle.held.proofs.Picking.{there_seen, there_at}
use Rattle.keyspace.specs.Databases.{Bases, means, table_at}
use Rattle.keyspace.specs.Sound.{IsArranged}
use Rattle.keyspace.specs.Values.{value_of, value_refs, value_own}
use Rattle.rdb_parts.specs.Leading.{Leads, between}
use Rattle.rdb_parts.specs.Words.{select_word, deadline_word}
use Rattle.rdb_parts.proofs.Led.{leads_nothing, leads_then, leads_database, leads_key}
use Rattle.rdb_writer.specs.Saving.{saved, keys_below, HasBelow, SavesTo, Saves}

some_is : {X : Type 0} (x y : X) → Some x ≡ Some y → x ≡ y
some_is x y e = cc

tied : (q k : List ℕ) → eq_by_cmp (slice_cmp nat_cmp) q k ≡ true → q ≡ k
tied q k h = slice_cmp-IsAntisymmetric nat_cmp-IsAntisymmetric q k (equal (slice_cmp nat_cmp q k) h)
  where
    equal : (o : Ordering) → is_eq o ≡ true → o ≡ Equal
    equal Less h = cc
    equal Equal h = refl
    equal Greater h = cc

none_empty : (q : List ℕ) → get no_keys q ≡ None
none_empty q = get-empty (slice_cmp nat_cmp) q

-- a database without a key has no keys
no_key : 0 ≡ len no_keys
no_key = sym (len-empty (slice_cmp nat_cmp) Entry)

-- a key that wasn't there is one more
one_key_more : (base : Database) (name : List ℕ) (entry : Entry) → get base name ≡ None → len (insert base name entry) ≡ len base + 1
one_key_more base name entry none = len-insert nat_list_cmp_total base name entry ∙ cond-false _ _ _ (ap is_some none)

module _ (bases : Bases) (blocks : Blocks) (moment : ℕ) (arranged : IsArranged bases blocks) where
  module _ (db : ℕ) where
    abbrev There : ℕ → List ℕ → Type 0
    There at key = StandsAt bases blocks db key moment at

    -- a key has one item number
    one_item : (key : List ℕ) (at other : ℕ) → There at key → There other key → at ≡ other
    one_item key at other s t =
        (arranged.keyed db).apart at other s.stands.element t.stands.element s.stands.found t.stands.found (s.stands.bytes ∙ sym t.stands.bytes)

    -- and an item number one key
    one_key : (at : ℕ) (key name : List ℕ) → There at key → There at name → key ≡ name
    one_key at key name s t =
        let same : s.stands.element ≡ t.stands.element = some_is _ _ (sym s.stands.found ∙ t.stands.found) in
        some_is _ _ (sym s.stands.bytes ∙ ap (λ e. blocks e.key) same ∙ t.stands.bytes)

    none_below : (base : Database) → base ≡ no_keys → HasBelow bases blocks moment db 0 base
    none_below base none = record {
      got = λ i key below s. absurd (omega (arith, below));
      lacks = λ key no. ap (λ b. get b key) none ∙ none_empty key;
    }

    -- where nothing is there at an item number
    passed_below : (at : ℕ) (base : Database) → ((key : List ℕ) → There at key → ⊥) → HasBelow bases blocks moment db at base → HasBelow bases blocks moment db (at + 1) base
    passed_below at base none h = record {
      got = λ i key below s. elim (cases_lt i at) [
        | inl under ↦ h.got i key under s
        | inr over ↦ let same : i ≡ at = omega (arith, below, over) in absurd (none key (subst (λ n. There n key) same s))
      ];
      lacks = λ key no. h.lacks key (λ i under s. no i (omega (arith, under)) s);
    }

    -- a key that is there comes first there
    fresh_below : (at : ℕ) (base : Database) (name : List ℕ) → There at name → HasBelow bases blocks moment db at base → get base name ≡ None
    fresh_below at base name there h = h.lacks name (λ i under s. let same : i ≡ at = one_item name i at s there in absurd (omega (arith, under, same)))

    -- where a key is there at an item number
    put_below : (at : ℕ) (base : Database) (name : List ℕ) (entry : Entry) → There at name → look (live (means db bases blocks) moment) name ≡ Some entry
        → HasBelow bases blocks moment db at base → HasBelow bases blocks moment db (at + 1) (insert base name entry)
    put_below at base name entry there is h = record {
      got = λ i key below s. elim (cases_lt i at) [
        | inl under ↦ elim (cases_Bool (eq_by_cmp (slice_cmp nat_cmp) key name)) [
          | inl same ↦ let one : i ≡ at = one_item name i at (subst (There i) (tied key name same) s) there in absurd (omega (arith, under, one))
          | inr other ↦ get-insert nat_list_cmp_total base name entry key ∙ cond-false _ _ _ other ∙ h.got i key under s
        ]
        | inr over ↦
            let same : i ≡ at = omega (arith, below, over) in
            let key_is : key ≡ name = one_key at key name (subst (λ n. There n key) same s) there in
            ap (get (insert base name entry)) key_is ∙ get_inserted base name entry ∙ sym is ∙ ap (look (live (means db bases blocks) moment)) (sym key_is)
      ];
      lacks = λ key no. elim (cases_Bool (eq_by_cmp (slice_cmp nat_cmp) key name)) [
        | inl same ↦ absurd (no at (omega arith) (subst (There at) (sym (tied key name same)) there))
        | inr other ↦ get-insert nat_list_cmp_total base name entry key ∙ cond-false _ _ _ other ∙ h.lacks key (λ i under s. no i (omega (arith, under)) s)
      ];
    }

    abbrev Seen : List ℕ → Option Entry
    Seen key = look (live (means db bases blocks) moment) key

    seen_below : (top : ℕ) (base : Database) → ((at : ℕ) → IsSome (element_at (table_at bases db) at) → at < top) → HasBelow bases blocks moment db top base → (key : List ℕ) (o : Option Entry)
        → Seen key ≡ o → get base key ≡ Seen key
    seen_below top base above h key None none =
        h.lacks key (λ at under s. let seen : is_some (Seen key) ≡ true = there_seen value_refs value_of value_own bases db moment blocks arranged at key s in
        let bad : false ≡ true = sym (ap is_some none) ∙ seen in absurd (cc)) ∙ sym none
    seen_below top base above h key (Some e) some =
        let there = there_at value_refs value_of value_own bases db moment blocks arranged key (ap is_some some) in
        h.got there.0 key (above there.0 (ap is_some there.1.stands.found)) there.1

    -- where all item numbers are passed the database is that of the world
    all_below : (top : ℕ) (base : Database) → ((at : ℕ) → IsSome (element_at (table_at bases db) at) → at < top) → HasBelow bases blocks moment db top base
        → base ≡ (saved bases blocks moment).bases db
    all_below top base above h = maps_alike _ _ (λ key. seen_below top base above h key _ refl)

  -- ---- worlds

  pub nothing_saved : SavesTo bases blocks moment 0 0 0 new_world
  nothing_saved = record {
    before = λ number below. absurd (omega (arith, below));
    part = none_below 0 no_keys refl;
    behind = λ number above. refl;
    named = λ some. absurd (omega (arith, some));
    counted = no_key;
  }

  -- a world that has the databases below one
  abbrev begun : ℕ → World
  begun db = record { bases = λ number. cond (nat_lt number db) ((saved bases blocks moment).bases number) no_keys; selected = 0 }

  begun_saved : (db : ℕ) → SavesTo bases blocks moment db 0 0 (begun db)
  begun_saved db =
      let none : (begun db).bases db ≡ no_keys = cond-false _ _ _ (le-ltb db db (omega arith)) in
      record {
        before = λ number below. cond-true _ _ _ (lt-ltb number db below);
        part = none_below db ((begun db).bases db) none;
        behind = λ number over. cond-false _ _ _ (le-ltb number db (omega (arith, over)));
        named = λ some. absurd (omega (arith, some));
        counted = no_key ∙ ap len (sym none);
      }

  -- one database more
  pub database_saved : (db top count : ℕ) (world : World) → ((at : ℕ) → IsSome (element_at (table_at bases db) at) → at < top) → SavesTo bases blocks moment db top count world
      → SavesTo bases blocks moment (db + 1) 0 0 world
  database_saved db top count world above s =
      let none : world.bases (db + 1) ≡ no_keys = s.behind (db + 1) (omega arith) in
      record {
        before = λ number below. elim (cases_lt number db) [
          | inl under ↦ s.before number under
          | inr over ↦
              let same : number ≡ db = omega (arith, below, over) in
              subst (λ n. world.bases n ≡ (saved bases blocks moment).bases n) (sym same) (all_below db top (world.bases db) above s.part)
        ];
        part = none_below (db + 1) (world.bases (db + 1)) none;
        behind = λ number over. s.behind number (omega (arith, over));
        named = λ some. absurd (omega (arith, some));
        counted = no_key ∙ ap len (sym none);
      }

  -- an item number at which nothing is there
  pub item_passed : (db at count : ℕ) (world : World) → ((key : List ℕ) → StandsAt bases blocks db key moment at → ⊥) → SavesTo bases blocks moment db at count world
      → SavesTo bases blocks moment db (at + 1) count world
  item_passed db at count world none s =
      record { before = s.before; part = passed_below db at (world.bases db) none s.part; behind = s.behind; named = s.named; counted = s.counted }

  -- a key that is there wasn't written yet
  pub item_fresh : (db at count : ℕ) (world : World) (name : List ℕ) → StandsAt bases blocks db name moment at → SavesTo bases blocks moment db at count world
      → look (selecting world db) name ≡ None
  item_fresh db at count world name there s = fresh_below db at (world.bases db) name there s.part

  -- an item number at which a key is there
  pub item_saved : (db at count : ℕ) (world : World) (name : List ℕ) (entry : Entry) → StandsAt bases blocks db name moment at
      → look (live (means db bases blocks) moment) name ≡ Some entry → SavesTo bases blocks moment db at count world
      → SavesTo bases blocks moment db (at + 1) (count + 1) (put (selecting world db) name entry)
  item_saved db at count world name entry there is s =
      let base = insert (world.bases db) name entry in
      let here : base ≡ (put (selecting world db) name entry).bases db = sym (cond-true _ _ _ (eq-eqb db db refl)) in
      let more : len base ≡ len (world.bases db) + 1 = one_key_more (world.bases db) name entry (fresh_below db at (world.bases db) name there s.part) in
      record {
        before = λ number below. cond-false _ _ _ (ne_eqb number db (λ e. omega (arith, below, e))) ∙ s.before number below;
        part = subst (HasBelow bases blocks moment db (at + 1)) here (put_below db at (world.bases db) name entry there is s.part);
        behind = λ number over. cond-false _ _ _ (ne_eqb number db (λ e. omega (arith, over, e))) ∙ s.behind number over;
        named = λ some. refl;
        counted = ap (λ n. n + 1) s.counted ∙ sym more ∙ ap len here;
      }

  -- where all 16 databases are passed, the world is the keyspace's
  pub all_saved : (world : World) → SavesTo bases blocks moment 16 0 0 world → file_world (between world) ≡ saved bases blocks moment
  all_saved world s = λ i. record { bases = λ number. each number i; selected = 0 }
    where
      empty : (base : Database) (db : ℕ) → HasBelow bases blocks moment db 0 base → base ≡ no_keys
      empty base db h = maps_alike _ _ (λ key. h.lacks key (λ i below there. absurd (omega (arith, below))) ∙ sym (none_empty key))

      past : (number : ℕ) → 16 ≤ number → (saved bases blocks moment).bases number ≡ no_keys
      past number over =
          let none : base_at bases number ≡ no_base 0 = get_or_past bases.bases number (no_base 0) (omega (arith, over, arranged.sixteen)) in
          ap (λ b. live_keys (base_means value_of blocks b) moment) none ∙ ap (λ d. live_keys d moment) (no_base_means value_of blocks 0) ∙ live_none moment

      each : (number : ℕ) → world.bases number ≡ (saved bases blocks moment).bases number
      each number = elim (cases_lt number 16) [
        | inl under ↦ s.before number under
        | inr over ↦ elim (cases_eq number 16) [
          | inl same ↦ subst (λ n. world.bases n ≡ (saved bases blocks moment).bases n) (sym same) (empty (world.bases 16) 16 s.part ∙ sym (past 16 (omega arith)))
          | inr other ↦ s.behind number (omega (arith, over, other)) ∙ sym (past number over)
        ]
      ]

-- ---- the database is named before its first key

pub select_leads : (moment : ℕ) (world : World) (db : ℕ) (named : Bool) → db < 16 → (named ≡ true → world.selected ≡ db) → Leads moment (between world) (between (selecting world db)) (select_word named db)
select_leads moment world db false low is = leads_database moment world db low
select_leads moment world db true low is =
    let same : world ≡ selecting world db = λ i. record { bases = world.bases; selected = is refl i } in
    subst (λ w. Leads moment (between world) (between w) []) same (leads_nothing moment (between world))

-- ---- keys, and databases

-- a value that can be written is kept
pub fit_some : (value : Value) → IsFitValue value → is_void value ≡ false
fit_some (Str text) fit = refl
fit_some (ListOf texts) fit = ne_eqb (length texts) 0 (λ e. omega (arith, fit.0, e))
fit_some (SetOf members) fit = ne_eqb (len members) 0 (λ e. omega (arith, fit.0, e))
fit_some (HashOf fields) fit = ne_eqb (len fields) 0 (λ e. omega (arith, fit.0, e))
fit_some (SortedOf scores) fit = ne_eqb (len scores) 0 (λ e. omega (arith, fit.0, e))
fit_some (StreamOf stream) fit = refl

module _ (bases : Bases) (blocks : Blocks) (moment : ℕ) where
  pub saves_nothing : (db at count : ℕ) → Saves bases blocks moment db at count db at count []
  saves_nothing db at count old s = (old, s, leads_nothing moment (between old))

  pub saves_then : (a b c d e f x y z : ℕ) (v w : List ℕ) → Saves bases blocks moment a b c d e f v → Saves bases blocks moment d e f x y z w → Saves bases blocks moment a b c x y z (v ++ w)
  saves_then a b c d e f x y z v w p q old s =
      let mid = p old s in
      let last = q mid.0 mid.1 in
      (last.0, last.1, leads_then moment (between old) (between mid.0) (between last.0) v w mid.2 last.2)

  module _ (arranged : IsArranged bases blocks) (db : ℕ) (low : db < 16) where
    -- an item number at which nothing is there
    pub saves_passed : (at count : ℕ) → ((key : List ℕ) → StandsAt bases blocks db key moment at → ⊥) → Saves bases blocks moment db at count db (at + 1) (count + 0) []
    saves_passed at count none old s =
        let same : count ≡ count + 0 = omega arith in
        (old, subst (λ n. SavesTo bases blocks moment db (at + 1) n old) same (item_passed bases blocks moment arranged db at count old none s), leads_nothing moment (between old))

    -- an item number at which a key is there
    pub saves_item : (at count : ℕ) (named : Bool) (name : List ℕ) (value : Value) (deadline : Option ℕ) (word : List ℕ) → named ≡ nat_lt 0 count → StandsAt bases blocks db name moment at
        → look (live (means db bases blocks) moment) name ≡ Some (record { value = value; deadline = deadline }) → IsDeadline deadline → IsFitValue value → item.Spells (Key name value) word
        → Saves bases blocks moment db at count db (at + 1) (count + 1) (select_word named db ++ (deadline_word deadline ++ word))
    saves_item at count named name value deadline word named_is there is low_enough fit spelled old s =
        let entry : Entry = record { value = value; deadline = deadline } in
        let new = put (selecting old db) name entry in
        let time : in_time moment deadline ≡ true = (was_in_time (means db bases blocks) moment name entry is).1 in
        let fresh : look (selecting old db) name ≡ None = item_fresh bases blocks moment arranged db at count old name there s in
        let here : named ≡ true → old.selected ≡ db = λ t. s.named (ltb-true 0 count (sym named_is ∙ t)) in
        let key : Leads moment (between (selecting old db)) (between new) (deadline_word deadline ++ word) =
        leads_key moment (selecting old db) name value deadline word spelled low_enough fresh (fit_some value fit) time in (
          new,
          item_saved bases blocks moment arranged db at count old name entry there is s,
          leads_then moment (between old) (between (selecting old db)) (between new) (select_word named db) (deadline_word deadline ++ word) (select_leads moment old db named low here) key,
        )

    -- all item numbers of a database are passed
    pub saves_all : (top count : ℕ) (word : List ℕ) → ((at : ℕ) → IsSome (element_at (table_at bases db) at) → at < top) → Saves bases blocks moment db 0 0 db top count word
        → Saves bases blocks moment db 0 0 (db + 1) 0 0 word
    saves_all top count word above p old s =
        let last = p old s in
        (last.0, database_saved bases blocks moment arranged db top count last.0 above last.1, last.2)

    -- and these are so many keys
    pub saves_count : (top count : ℕ) (word : List ℕ) → ((at : ℕ) → IsSome (element_at (table_at bases db) at) → at < top) → Saves bases blocks moment db 0 0 db top count word
        → count ≡ len ((saved bases blocks moment).bases db)
    saves_count top count word above p =
        let last = p (begun bases blocks moment arranged db) (begun_saved bases blocks moment arranged db) in
        last.1.counted ∙ ap len (all_below bases blocks moment arranged db top (last.0.bases db) above last.1.part)

-- ---- how many keys there are in all

pub one_at_most : (there : Bool) → from_bool there ≤ 1
one_at_most true = omega arith
one_at_most false = omega arith

pub none_counted : (bases : ℕ → Database) → 0 ≡ min (keys_below 0 bases) (2 ^ 64 - 1)
unfolding keys_below
none_counted bases = refl

below_more : (db : ℕ) (bases : ℕ → Database) → keys_below db bases + len (bases db) ≡ keys_below (db + 1) bases
unfolding keys_below
below_more db bases = let e : suc db ≡ db + 1 = omega arith in ap (λ n. keys_below n bases) e

capped : (a b top : ℕ) → min (min a top + b) top ≡ min (a + b) top
capped a b top = omega arith

-- the keys of one database more, up to the greatest u64
pub more_counted : (bases : ℕ → Database) (db count keys sum : ℕ) → count ≡ min (keys_below db bases) (2 ^ 64 - 1) → keys ≡ len (bases db) → sum ≡ min (count + keys) (2 ^ 64 - 1)
    → sum ≡ min (keys_below (db + 1) bases) (2 ^ 64 - 1)
more_counted bases db count keys sum so_far is added =
    added ∙ (λ i. min (so_far i + is i) (2 ^ 64 - 1)) ∙ capped (keys_below db bases) (len (bases db)) (2 ^ 64 - 1) ∙ ap (λ n. min n (2 ^ 64 - 1)) (below_more db bases)
