-- Keys leave that blocks name: what one removal does to the tables, and what several do.
use Rattle.std.proofs.Common.{◌≡◌, ◌≢◌, ◌⊎◌, inl, inr, ℕ, List, [], ◌∷◌, ◌++◌, Some, None, refl, sym, ap, ◌∙◌, subst, arith, ◌<◌}
use Rattle.object_codec.specs.declared.limits.Limits.{Limits}
use Rattle.std.proofs.lemmas.Bool.{cases_eq, cond-false}
use Rattle.blocks.specs.declared.BlockRef.{BlockRef}
use Rattle.blocks.specs.Blocks.{Blocks, ref_eq, times, no_step}
use Rattle.blocks.proofs.Refs.{cases_ref}
use Rattle.blocks.proofs.Change.{one_if}
use Rattle.blocks.proofs.Serve.{served_same, served_once, served_then}
use Rattle.blocks.proofs.Times.{times-append}
use Rattle.rehash_dict.specs.Tables.{removed}
use Rattle.rehash_dict.specs.Keyed.{same_key, key_tables}
use Rattle.rehash_dict.proofs.Keys.{keyed_frame}
use Rattle.expiry.specs.Timed.{Timed}
use Rattle.expiry.specs.Changes.{Clears}
use Rattle.held.specs.declared.databases.Base.{Base}
use Rattle.held.specs.Table.{Table, Element, item, Keyed, Lacks, Removes}
use Rattle.held.specs.Databases.{Bases, table_at, deadlines_at, ChangesTable, ChangesDeadlines}
use Rattle.held.specs.Sound.{Names, IsArranged}
use Rattle.held.specs.Scopes.{Stayed, Within, no_key}
use Rattle.held.proofs.Tables.{key_itself}
use Rattle.held.specs.Expiry.{Shed, Drops, Thinned}

-- ---- references

-- another reference isn't this one
out_one : (a b : BlockRef) → a ≢ b → times a (b ∷ []) ≡ 0
out_one a b other = elim (cases_ref b a) [
  | inl same ↦ absurd (other (sym same))
  | inr apart ↦ (let none : one_if (ref_eq b a) ≡ 0 = cond-false _ _ _ apart in omega (arith, none))
]

out_other : (a b : BlockRef) → times a (b ∷ []) ≡ 0 → a ≢ b
out_other a b out same = (let none : times a (a ∷ []) ≡ 0 = subst (λ x. times a (x ∷ []) ≡ 0) (sym same) out in omega (arith, none, key_itself a))

-- ---- one table

module _ {X : Type 0} where
  -- elements whose keys have the same bytes name them by one block
  one_ref : (m : Blocks) (t : Table X) → Keyed m t → (i j : ℕ) (e f : Element X) → item t i ≡ Some e → item t j ≡ Some f → m e.key ≡ m f.key → e.key ≡ f.key
  one_ref m t k i j e f found there same =
      let both : Some e ≡ Some f = sym found ∙ ap (item t) (k.apart i j e f found there same) ∙ there in
      let one : e ≡ f = cc in
      ap (λ (x : Element X). x.key) one

  pub drops_none : (t : Table X) → Drops [] t t
  drops_none t = record { left = λ i e found. (found, refl); stay = λ i e found out. found; seed = refl; top = refl }

  pub drops_then : (xs ys : List BlockRef) (a b c : Table X) → Drops xs a b → Drops ys b c → Drops (xs ++ ys) a c
  drops_then xs ys a b c p q = record {
    left = λ i e found. (let last = q.left i e found in let first = p.left i e last.0 in (first.0, omega (arith, first.1, last.1, times-append e.key xs ys)));
    stay = λ i e found out. q.stay i e (p.stay i e found (omega (arith, out, times-append e.key xs ys))) (omega (arith, out, times-append e.key xs ys));
    seed = q.seed ∙ p.seed;
    top = q.top ∙ p.top;
  }

  -- the element of a key leaves
  removes_drops : (m : Blocks) (t u : Table X) (name ref : BlockRef) (key : List ℕ) (value : X) → Keyed m t → m name ≡ Some key → ref ≡ name → Removes m t u key ref value → Drops (name ∷ []) t u
  removes_drops m t u name ref key value k is same l = record {
    left = λ i e found. elim (cases_eq i l.at) [
      | inl here ↦ (let none : Some e ≡ None = sym found ∙ ap (item u) here ∙ l.updates.changed in absurd cc)
      | inr other ↦
          (let stood : item t i ≡ Some e = sym (l.updates.others i other) ∙ found in
          (stood, out_one e.key name (λ named. other (k.apart i l.at e _ stood l.found (ap m named ∙ is ∙ sym l.bytes)))))
    ];
    stay = λ i e found out. elim (cases_eq i l.at) [
      | inl here ↦
          (let both : Some e ≡ Some (record { key = ref; hash = l.hash; value = value }) = sym found ∙ ap (item t) here ∙ l.found in
          let one : e ≡ record { key = ref; hash = l.hash; value = value } = cc in
          absurd (out_other e.key name out (ap (λ (x : Element X). x.key) one ∙ same)))
      | inr other ↦ l.updates.others i other ∙ found
    ];
    seed = l.seed;
    top = l.top;
  }

  -- no element has the key
  lacks_drops : (m : Blocks) (t : Table X) (name : BlockRef) (key : List ℕ) → m name ≡ Some key → Lacks m t key → Drops (name ∷ []) t t
  lacks_drops m t name key is lacks = record {
    left = λ i e found. (found, out_one e.key name (λ named. lacks.each i e found (ap m named ∙ is)));
    stay = λ i e found out. found;
    seed = refl;
    top = refl;
  }

-- ---- databases

module _ {V : Type 0} (refs_of : Blocks → V → List BlockRef) where
  pub stayed_none : (old : Bases V) (m : Blocks) (db at : ℕ) (e : Element V) → item (table_at old db) at ≡ Some e → Stayed refs_of old m m db at e
  stayed_none old m db at e found = record { stood = found; bytes = λ r owns. refl; refs = refl }

  pub stayed_then : (a b : Bases V) (m mid after : Blocks) (db at : ℕ) (e : Element V) → Stayed refs_of b mid after db at e → Stayed refs_of a m mid db at e → Stayed refs_of a m after db at e
  stayed_then a b m mid after db at e last first = record
      { stood = first.stood; bytes = λ r owns. last.bytes r (subst (λ list. 0 < times r (e.key ∷ list)) (sym first.refs) owns) ∙ first.bytes r owns; refs = last.refs ∙ first.refs }

  pub thinned_none : (old : Bases V) (m : Blocks) (db : ℕ) → Thinned refs_of [] old old m m db
  thinned_none old m db = record {
    others = λ number other. refl;
    keys = drops_none (table_at old db);
    deadlines = drops_none (deadlines_at old db).table;
    keys_shed = λ number. no_step;
    deadlines_shed = λ number. no_step;
    stayed = stayed_none old m;
  }

  pub thinned_then : (xs ys : List BlockRef) (a b c : Bases V) (m mid after : Blocks) (db : ℕ) → Thinned refs_of xs a b m mid db → Thinned refs_of ys b c mid after db
      → Thinned refs_of (xs ++ ys) a c m after db
  thinned_then xs ys a b c m mid after db p q = record {
    others = λ number other. q.others number other ∙ p.others number other;
    keys = drops_then xs ys (table_at a db) (table_at b db) (table_at c db) p.keys q.keys;
    deadlines = drops_then xs ys (deadlines_at a db).table (deadlines_at b db).table (deadlines_at c db).table p.deadlines q.deadlines;
    keys_shed = λ number. served_then _ _ _ (p.keys_shed number) (q.keys_shed number);
    deadlines_shed = λ number. served_then _ _ _ (p.deadlines_shed number) (q.deadlines_shed number);
    stayed = λ number at e found. (let last = q.stayed number at e found in stayed_then a b m mid after number at e last (p.stayed number at e last.stood));
  }

  -- a key's deadline goes, then the key that a block names, and its blocks are given back
  module _ {IsSound : Limits → ℕ → Blocks → V → Type 0} (old mid new : Bases V) (m after : Blocks) (db : ℕ) (name ref : BlockRef) (key : List ℕ) (value : V) (a : IsArranged IsSound old m)
      (n : Names (table_at old db) name) (is : m name ≡ Some key)
      (c : ChangesDeadlines old mid db) (cleared : Clears m (deadlines_at old db).table (deadlines_at mid db).table key ⊎ ((mid ≡ old) × Lacks m (deadlines_at old db).table key))
      (d : ChangesTable mid new db) (l : Removes m (table_at mid db) (table_at new db) key ref value) (tables : key_tables m (table_at new db) ≡ removed same_key (key_tables m (table_at mid db)) key)
      (b : IsArranged IsSound new after) (w : Within refs_of (no_key db) old new m after) where
    mid_keyed : Keyed m (table_at mid db)
    mid_keyed = subst (Keyed m) (sym c.keys) (a.keyed db)

    ref_named : ref ≡ name
    ref_named = one_ref m (table_at mid db) mid_keyed l.at n.at _ n.element l.found (ap (λ (t : Table V). item t n.at) c.keys ∙ n.found) (l.bytes ∙ sym is ∙ sym (ap m n.same)) ∙ n.same

    keys_drop : Drops (name ∷ []) (table_at old db) (table_at new db)
    keys_drop = subst (λ (t : Table V). Drops (name ∷ []) t (table_at new db)) c.keys (removes_drops m (table_at mid db) (table_at new db) name ref key value mid_keyed is ref_named l)

    times_drop : Clears m (deadlines_at old db).table (deadlines_at mid db).table key ⊎ ((mid ≡ old) × Lacks m (deadlines_at old db).table key)
        → Drops (name ∷ []) (deadlines_at old db).table (deadlines_at mid db).table
    times_drop (inl cl) =
        let there = (a.timed db).names cl.removes.at _ cl.removes.found in
        removes_drops m (deadlines_at old db).table (deadlines_at mid db).table name cl.ref key cl.deadline (a.timed db).keyed is
        (sym there.same ∙ one_ref m (table_at old db) (a.keyed db) there.at n.at there.element n.element there.found n.found
        (ap m there.same ∙ cl.removes.bytes ∙ sym is ∙ sym (ap m n.same)) ∙ n.same) cl.removes
    times_drop (inr same) = subst (λ (x : Bases V). Drops (name ∷ []) (deadlines_at old db).table (deadlines_at x db).table) (sym same.0) (lacks_drops m (deadlines_at old db).table name key is same.1)

    deadlines_drop : Drops (name ∷ []) (deadlines_at old db).table (deadlines_at new db).table
    deadlines_drop = subst (λ (t : Timed). Drops (name ∷ []) (deadlines_at old db).table t.table) (sym d.deadlines) (times_drop cleared)

    -- the keys that are left have the bytes that they had
    kept : (number at : ℕ) (e : Element V) → item (table_at new number) at ≡ Some e → m e.key ≡ after e.key
    kept number at e found = sym ((w.stayed number at e found (λ named. named.1)).bytes e.key (omega (arith, key_itself e.key)))

    keys_frame : (number : ℕ) → key_tables after (table_at new number) ≡ key_tables m (table_at new number)
    keys_frame number = sym (keyed_frame after m (table_at new number) (b.keyed number) (kept number)).1

    times_frame : (number : ℕ) → key_tables after (deadlines_at new number).table ≡ key_tables m (deadlines_at new number).table
    times_frame number =
        sym (keyed_frame after m (deadlines_at new number).table (b.timed number).keyed (λ at e found.
        (let there = (b.timed number).names at e found in ap m (sym there.same) ∙ kept number there.at there.element there.found ∙ ap after there.same))).1

    keys_less : (number : ℕ) → Shed (key_tables m (table_at old number)) (key_tables after (table_at new number))
    keys_less number = elim (cases_eq number db) [
      | inl here ↦ subst (λ k. Shed (key_tables m (table_at old k)) (key_tables after (table_at new k))) (sym here)
          (served_once _ _ (record { key = key; without = keys_frame db ∙ tables ∙ ap (λ (t : Table V). removed same_key (key_tables m t) key) c.keys }))
      | inr other ↦ served_same _ _ (keys_frame number ∙ ap (λ (x : Base V). key_tables m x.keys) (w.same number other))
    ]

    cleared_less : Clears m (deadlines_at old db).table (deadlines_at mid db).table key ⊎ ((mid ≡ old) × Lacks m (deadlines_at old db).table key)
        → Shed (key_tables m (deadlines_at old db).table) (key_tables m (deadlines_at mid db).table)
    cleared_less (inl cl) = served_once _ _ (record { key = key; without = cl.tables })
    cleared_less (inr same) = served_same _ _ (ap (λ (x : Bases V). key_tables m (deadlines_at x db).table) same.0)

    times_less : (number : ℕ) → Shed (key_tables m (deadlines_at old number).table) (key_tables after (deadlines_at new number).table)
    times_less number = elim (cases_eq number db) [
      | inl here ↦ subst (λ k. Shed (key_tables m (deadlines_at old k).table) (key_tables after (deadlines_at new k).table)) (sym here)
          (served_then _ _ _ (cleared_less cleared) (served_same _ _ (times_frame db ∙ ap (λ (t : Timed). key_tables m t.table) d.deadlines)))
      | inr other ↦ served_same _ _ (times_frame number ∙ ap (λ (x : Base V). key_tables m x.deadlines.table) (w.same number other))
    ]

    pub named_thinned : Thinned refs_of (name ∷ []) old new m after db
    named_thinned = record {
      others = λ number other. w.same number other;
      keys = keys_drop;
      deadlines = deadlines_drop;
      keys_shed = keys_less;
      deadlines_shed = times_less;
      stayed = λ number at e found. w.stayed number at e found (λ named. named.1);
    }

-- ---- the tables over several steps
