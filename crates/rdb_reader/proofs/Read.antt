-- One turn of the loader.
use Rattle.std.proofs.Common.{◌≡◌, ℕ, zero, suc, ◌+◌, ◌<◌, ◌≤◌, List, [], ◌∷◌, ◌++◌, Option, Some, None, Result, Ok, Err, true, false, cond, inl, inr, take, refl, sym, ap, subst, ◌∙◌, arith, lit<}
use Rattle.std.specs.Prelude.{is_none, is_some}
use Rattle.std.specs.FinMap.{len, len-insert, len-empty}
use Rattle.std.specs.Cmp.Lexicographic.{slice_cmp, nat_list_cmp_total}
use Rattle.std.specs.Ordering.{nat_cmp}
use Rattle.std.proofs.lemmas.Bool.{cases_lt, eq-eqb, ne_eqb, cond-true, cond-false}
use Rattle.plain_world.specs.Worlds.{World, Database as Keys, Entry, Value, new_world, look, put, selecting}
use Rattle.rdb_grammar.specs.Items.{Item, Passed, Deadline, Database, End, Key, Opens, part, item}
use Rattle.rdb_grammar.specs.declared.fault.LoadKind.TheVariants as kinds
use Rattle.rdb_grammar.specs.Places.{Stands}
use Rattle.rdb_grammar.specs.Files.{State, Reached, header, after, is_fresh, is_end, sum_field, IsFault}
use Rattle.rdb_grammar.proofs.Loading.{begins, begins_items, goes_on, goes_on_items, longer, is_file, is_file_items, item_fault, twice, sum_fault}
use Rattle.rdb_grammar.proofs.Fitting.{deadline_fits, database_fits}
use Rattle.rdb_grammar.specs.declared.fault.ItemFault.{ItemFault}
use Rattle.rdb_grammar.specs.declared.fault.ItemFault.TheVariants as faults
use Rattle.rdb_grammar.specs.Returns.{IsPartAt, IsItemAt, SaysFault}
use Rattle.rdb_grammar.specs.Views.{key_of}
use Rattle.rdb_grammar.specs.declared.values.Layout.{Layout}
use Rattle.rdb_grammar.specs.declared.values.FileValue.{FileValue}
use Rattle.rdb_grammar.specs.declared.values.FileValue.TheVariants as values
use Rattle.rdb_grammar.proofs.Turns.{opened_stands, opened_fails}
use Rattle.rdb_reader.specs.declared.keys.Put.{Put}
use Rattle.rdb_reader.specs.declared.fault.LoadFault.{LoadFault}
use Rattle.rdb_reader.specs.declared.fault.LoadFault.TheVariants as loads
use Rattle.rdb_reader.specs.Building.{ReadsCollection}
use Rattle.rdb_grammar.specs.Returns.IsItemFault.{OfItem, OfSum}
use Rattle.rdb_reader.specs.declared.items.Progress.{Progress}
use Rattle.rdb_reader.specs.declared.keys.Put.TheVariants as puts
use Rattle.rdb_reader.specs.Loads.{keys_below, keys_of, keys_among, Puts, state_at, Holds, IsRead, ReadsKey, ReadsItem, load_fault}

-- ---- the counts

among_more : (xs : List Item) (x : Item) → keys_among (xs ++ x ∷ []) ≡ keys_among xs + keys_of x
among_more [] x = omega arith
among_more (y ∷ ys) x = omega (arith, among_more ys x)

module _ (world : World) (name : List ℕ) (entry : Entry) where
  abbrev pub db : ℕ
  db = world.selected

  abbrev pub new : ℕ → Keys
  new = (put world name entry).bases

  below : (n : ℕ) → n ≤ db → keys_below n new ≡ keys_below n world.bases
  unfolding keys_below
  below zero le = refl
  below (suc n) le =
      let other : len (new n) ≡ len (world.bases n) = ap len (cond-false _ _ _ (ne_eqb n db (λ e. absurd (omega (arith, e, le))))) in
      omega (arith, below n (omega (arith, le)), other)

  -- a key that joins a database is one more of all
  pub one_more : (n : ℕ) → db < n → look world name ≡ None → keys_below n new ≡ keys_below n world.bases + 1
  unfolding keys_below
  one_more zero lt none = absurd (omega (arith, lt))
  one_more (suc n) lt none = elim (cases_lt db n) [
    | inl earlier ↦
        let other : len (new n) ≡ len (world.bases n) = ap len (cond-false _ _ _ (ne_eqb n db (λ e. absurd (omega (arith, e, earlier))))) in
        omega (arith, one_more n earlier none, other)
    | inr here ↦
        let same : n ≡ db = omega (arith, here, lt) in
        let joined : len (new n) ≡ len (world.bases n) + 1 =
        ap len (cond-true _ _ _ (eq-eqb n db same)) ∙ len-insert nat_list_cmp_total (world.bases db) name entry
        ∙ ap (λ o. cond (is_some o) (len (world.bases db)) (len (world.bases db) + 1)) none ∙ ap (λ k. len (world.bases k) + 1) (sym same) in
        omega (arith, below n (omega (arith, here)), joined)
  ]

none_below : (n : ℕ) → keys_below n (new_world.bases) ≡ 0
unfolding keys_below
none_below zero = refl
none_below (suc n) = omega (arith, none_below n, len-empty (slice_cmp nat_cmp) Entry)

-- ---- a turn

module _ (bytes : List ℕ) (moment : ℕ) (world : World) (p : Progress) (h : Holds bytes moment world p) where
  abbrev state : State
  state = state_at world p

  -- an item more, with the count of its keys
  abbrev Further : ℕ → State → ℕ → Type 0
  Further next to count = (r : Reached bytes moment next to) × (p.keys + p.passed + count ≡ keys_among r.items)

  further : (x : Item) (next : ℕ) → Stands item x bytes p.at next → is_end x ≡ false → is_fresh state x ≡ true → Further next (after moment state x) (keys_of x)
  further x next s e fresh = (
    goes_on bytes moment p.at state x next h.reached s e fresh,
    omega
        (arith, h.items, among_more h.reached.items x, ap keys_among (goes_on_items bytes moment p.at state x next h.reached s e fresh)),
  )

  module _ (next : ℕ) where
    pub passed_read : Stands item Passed bytes p.at next → Holds bytes moment world (record p { at = next }) × (p.at < next)
    passed_read s = let f = further Passed next s refl refl in let lt : p.at < next = longer Passed bytes p.at next s in
        (record { reached = f.0; items = omega (arith, f.1); keys = h.keys; few = omega (arith, h.few, lt); within = s.inside; selected = h.selected; latest = h.latest }, lt)

    pub deadline_read : (n : ℕ) → Stands item (Deadline n) bytes p.at next → Holds bytes moment world (record p { at = next; deadline = Some n }) × (p.at < next)
    deadline_read n s = let f = further (Deadline n) next s refl refl in let lt : p.at < next = longer (Deadline n) bytes p.at next s in
        (record { reached = f.0; items = omega (arith, f.1); keys = h.keys; few = omega (arith, h.few, lt); within = s.inside; selected = h.selected; latest = deadline_fits n bytes p.at next s }, lt)

    pub database_read : (n : ℕ) → Stands item (Database n) bytes p.at next → Holds bytes moment world (record p { at = next; db = n }) × (p.at < next)
    database_read n s = let f = further (Database n) next s refl refl in let lt : p.at < next = longer (Database n) bytes p.at next s in
        (record { reached = f.0; items = omega (arith, f.1); keys = h.keys; few = omega (arith, h.few, lt); within = s.inside; selected = database_fits n bytes p.at next s; latest = h.latest }, lt)

    module _ (name : List ℕ) (value : Value) (s : Stands item (Key name value) bytes p.at next) where
      lt : p.at < next
      lt = longer (Key name value) bytes p.at next s

      abbrev pub entry : Entry
      entry = record { value = value; deadline = p.deadline }

      behind : (look (selecting world p.db) name ≡ None) → Further next (after moment state (Key name value)) 1
      behind none = further (Key name value) next s refl (ap is_none none)

      pub key_kept : (new : World) → Puts moment (selecting world p.db) (selecting new p.db) name entry puts.Kept
          → Holds bytes moment new (record p { at = next; deadline = None; keys = p.keys + 1 }) × (p.at < next)
      key_kept new k =
          let leads : (after moment state (Key name value)).world ≡ selecting new p.db = cond-true _ _ _ k.1 ∙ sym k.2 in
          let f = subst (λ w. Further next (record { world = w; deadline = None }) 1) leads (behind k.0) in
          let more : keys_below 16 new.bases ≡ keys_below 16 world.bases + 1 = ap (λ (w : World). keys_below 16 w.bases) k.2 ∙ one_more (selecting world p.db) name entry 16 h.selected k.0 in
          (record { reached = f.0; items = omega (arith, f.1); keys = omega (arith, h.keys, more); few = omega (arith, h.few, lt); within = s.inside; selected = h.selected; latest = tt }, lt)

      pub key_passed : (new : World) → Puts moment (selecting world p.db) (selecting new p.db) name entry puts.Passed
          → Holds bytes moment new (record p { at = next; deadline = None; passed = p.passed + 1 }) × (p.at < next)
      key_passed new k =
          let leads : (after moment state (Key name value)).world ≡ selecting new p.db = cond-false _ _ _ k.1 ∙ sym k.2 in
          let f = subst (λ w. Further next (record { world = w; deadline = None }) 1) leads (behind k.0) in
          let same : keys_below 16 new.bases ≡ keys_below 16 world.bases = ap (λ (w : World). keys_below 16 w.bases) k.2 in
          (record { reached = f.0; items = omega (arith, f.1); keys = h.keys ∙ sym same; few = omega (arith, h.few, lt); within = s.inside; selected = h.selected; latest = tt }, lt)

      pub key_again : ((look (selecting world p.db) name ≡ None) → ⊥) → IsFault bytes moment kinds.DuplicateKey (p.at + 1)
      key_again some = twice bytes moment p.at state (Key name value) next h.reached s (there (look (selecting world p.db) name) some)
        where
          there : (o : Option Entry) → (o ≡ None → ⊥) → is_none o ≡ false
          there None e = absurd (e refl)
          there (Some x) e = refl

    pub file_ends : (sum last : ℕ) → Stands item End bytes p.at next → Stands (sum_field (take next bytes)) sum bytes next last
        → IsRead bytes moment (selecting world 0) (record { keys = p.keys; passed = p.passed })
    file_ends sum last s k = record {
      file = is_file bytes moment p.at state next sum last h.reached s k;
      keys = h.keys;
      passed = h.items ∙ sym (ap keys_among (is_file_items bytes moment p.at state next sum last h.reached s k));
    }

  -- what a fault of a key makes of loading
  pub key_fault : (old new later : World) (name : List ℕ) (fault : LoadFault) → ReadsKey bytes moment p old new name (Err fault) → ReadsItem bytes moment p world later (Err fault)
  key_fault old new later name (loads.Refused what place) f = item_fault bytes moment p.at state what place h.reached f
  key_fault old new later name loads.Host f = f
  key_fault old new later name loads.Limit f = f
  key_fault old new later name loads.Memory f = f

  -- what a fault of an item makes of loading
  pub fault_read : (later : World) (f : ItemFault) → SaysFault bytes p.at f → ReadsItem bytes moment p world later (Err (load_fault f))
  fault_read later faults.Memory i = absurd i
  fault_read later (faults.Refused what place) (OfItem f) = item_fault bytes moment p.at state what place h.reached f
  fault_read later (faults.Refused what place) (OfSum ended s f) = sum_fault bytes moment p.at state ended what place h.reached s f

-- a key is no end
pub key_part : (bytes : List ℕ) (at next : ℕ) (name : List ℕ) (value : FileValue) → IsItemAt bytes at next (key_of name value) → IsPartAt bytes at next (key_of name value)
key_part bytes at next name (values.Text chunk) h = h
key_part bytes at next name (values.Laid layout) h = h

-- a collection that was read makes the key read
pub collection_key : (bytes : List ℕ) (moment : ℕ) (so_far : Progress) (old new : World) (name : List ℕ) (layout : Layout) (next : ℕ) → Stands part (Opens name layout) bytes so_far.at next
    → (result : Result (Put × ℕ) LoadFault) → ReadsCollection bytes moment old new name layout next so_far.deadline result → ReadsKey bytes moment so_far old new name result
collection_key bytes moment so_far old new name layout next s (Ok x) r = record { value = r.value; stands = opened_stands bytes so_far.at next x.1 name layout r.value s r.stands; puts = r.puts }
collection_key bytes moment so_far old new name layout next s (Err (loads.Refused what place)) r = opened_fails bytes so_far.at next name layout what place s r
collection_key bytes moment so_far old new name layout next s (Err loads.Host) r = r
collection_key bytes moment so_far old new name layout next s (Err loads.Limit) r = r
collection_key bytes moment so_far old new name layout next s (Err loads.Memory) r = inr (record { name = name; layout = layout; next = next; stands = s })

-- nothing is read yet
pub holds_nothing : (bytes text : List ℕ) (moment next : ℕ) (world : World) → world ≡ new_world → Stands header text bytes 0 next
    → Holds bytes moment world (record { at = next; db = 0; deadline = None; keys = 0; passed = 0 })
holds_nothing bytes text moment next world e s =
    let P : World → Type 0 = λ w. Holds bytes moment w (record { at = next; db = 0; deadline = None; keys = 0; passed = 0 }) in
    subst P (sym e)
    (record {
      reached = begins bytes text moment next s;
      items = sym (ap keys_among (begins_items bytes text moment next s));
      keys = sym (none_below 16);
      few = omega arith;
      within =
          s.inside;
      selected = lit< tt;
      latest = tt;
    })
