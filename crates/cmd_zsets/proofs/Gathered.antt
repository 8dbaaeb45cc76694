-- Scores that are gathered, and the maps that they make.
use Rattle.std.proofs.Common.{◌≡◌, ℕ, ℤ, Bool, true, false, cond, List, [], ◌∷◌, map, length, Option, None, Some, refl, sym, ap, ◌∙◌, arith}
use Rattle.std.specs.List.{AllByRecursion}
use Rattle.std.specs.List.Sorted.{IsStrictlySortedBy}
use Rattle.std.specs.BTreeMap.{BTreeMap, insert_entry}
use Rattle.std.specs.Map.{lookup}
use Rattle.std.specs.declared.vec.Vec.{Vec}
use Rattle.std.specs.declared.cmp.Ordering.{Ordering}
use Rattle.std.specs.declared.cmp.Ordering.TheVariants.{Less, Equal, Greater}
use Rattle.std.specs.Ordering.{nat_cmp, is_eq, match_ordering}
use Rattle.std.specs.Cmp.Lexicographic.{slice_cmp, nat_list_cmp_total}
use Rattle.std.specs.FinMap.{empty, entries, from_entries, get, insert, len, find, put, entries-insert, get-empty, get-from_entries, get-insert, len-empty, len-entries}
use Rattle.std.specs.FinMap.Entries.{by_order, find-put}
use Rattle.std.proofs.lemmas.List.{length-map}
use Rattle.std.proofs.lemmas.Map.Keys.{sorted_head, sorted_tail}
use Rattle.set_object.proofs.Sets.{tied, tied_true}
use Rattle.plain_world.proofs.Maps.{maps_alike}
use Rattle.plain_model.specs.ZsetSteps.{Scores}
use Rattle.cmd_zsets.specs.Joined.{entry_of, gathered, or_else}

none_in : entries (empty {X = ℤ} {R = slice_cmp nat_cmp}) ≡ []
none_in = no_length _ (sym (len-entries (empty {X = ℤ} {R = slice_cmp nat_cmp})) ∙ len-empty (slice_cmp nat_cmp) ℤ)
  where
    no_length : (es : List (List ℕ × ℤ)) → length es ≡ 0 → es ≡ []
    no_length [] h = refl
    no_length (e ∷ es) h = absurd (omega (arith, h))

over_one : (t : Bool) (g z : Option ℤ) (v : ℤ) → (t ≡ true → g ≡ None) → or_else g (cond t (Some v) z) ≡ or_else (cond t (Some v) g) z
over_one true g z v h = ap (λ o. or_else o (Some v)) (h refl)
over_one false g z v h = refl

module _ {Z : Type 0} where
  -- names in the order of their bytes
  abbrev pub by_bytes : Vec ℕ Z → Vec ℕ Z → Ordering
  by_bytes x y = slice_cmp nat_cmp x.items y.items

  -- a name has these bytes
  abbrev pub is_name : List ℕ → Vec ℕ Z → Bool
  is_name name k = is_eq (slice_cmp nat_cmp name k.items)

  found : (q : List ℕ) (es : List (Vec ℕ Z × ℤ)) → find (slice_cmp nat_cmp) q (map entry_of es) ≡ lookup (is_name q) es
  found q [] = refl
  found q (e ∷ es) = ap (cond (is_name q e.0) (Some e.1)) (found q es)

  put_entry : (es : List (Vec ℕ Z × ℤ)) (k : Vec ℕ Z) (v : ℤ) → map entry_of (insert_entry by_bytes es k v) ≡ put (slice_cmp nat_cmp) k.items v (map entry_of es)
  put_entry [] k v = refl
  put_entry (e ∷ es) k v =
      elim (by_bytes k e.0) as
      (λ o. map entry_of (match_ordering o ((k, v) ∷ e ∷ es) ((e.0, v) ∷ es) (e ∷ insert_entry by_bytes es k v)) ≡ by_order o ((k.items, v) ∷ entry_of e ∷ map entry_of es)
      ((e.0.items, v) ∷ map entry_of es) (entry_of e ∷ put (slice_cmp nat_cmp) k.items v (map entry_of es))) [
        | Less ↦ refl
        | Equal ↦ refl
        | Greater ↦ ap (λ l. entry_of e ∷ l) (put_entry es k v)
      ]

  -- what was gathered of a member
  pub get_gathered : (m : BTreeMap (Vec ℕ Z) ℤ) (q : List ℕ) → get (gathered m) q ≡ lookup (is_name q) m.entries
  get_gathered m q = get-from_entries nat_list_cmp_total (map entry_of m.entries) q ∙ found q m.entries

  pub put_gathered : (old new : BTreeMap (Vec ℕ Z) ℤ) (k : Vec ℕ Z) (v : ℤ) → new.entries ≡ insert_entry by_bytes old.entries k v → gathered new ≡ insert (gathered old) k.items v
  put_gathered old new k v e = maps_alike _ _ (λ q.
      get-from_entries nat_list_cmp_total (map entry_of new.entries) q
      ∙ ap (λ (es : List (Vec ℕ Z × ℤ)). find (slice_cmp nat_cmp) q (map entry_of es)) e
      ∙ ap (find (slice_cmp nat_cmp) q) (put_entry old.entries k v)
      ∙ find-put (slice_cmp nat_cmp) nat_list_cmp_total q k.items v (map entry_of old.entries)
      ∙ sym (get-insert nat_list_cmp_total (gathered old) k.items v q ∙ ap (cond (tied q k.items) (Some v)) (get-from_entries nat_list_cmp_total (map entry_of old.entries) q)))

  -- ---- nothing was gathered

  pub none_left : (es : List (Vec ℕ Z × ℤ)) → length es ≡ 0 → es ≡ []
  none_left [] none = refl
  none_left (e ∷ es) none = absurd (omega (arith, none))

  pub none_gathered : (m : BTreeMap (Vec ℕ Z) ℤ) → m.entries ≡ [] → gathered m ≡ empty
  none_gathered m none = ap (λ (es : List (Vec ℕ Z × ℤ)). from_entries {R = slice_cmp nat_cmp} (map entry_of es)) none

  -- ---- the entries in their order

  put_first : (e : Vec ℕ Z × ℤ) (es : List (Vec ℕ Z × ℤ)) → AllByRecursion (λ y. by_bytes e.0 y ≡ Less) (map (λ (f : Vec ℕ Z × ℤ). f.0) es)
      → put (slice_cmp nat_cmp) e.0.items e.1 (map entry_of es) ≡ entry_of e ∷ map entry_of es
  put_first e [] below = refl
  put_first e (f ∷ es) below = ap
      (λ o. by_order o (entry_of e ∷ entry_of f ∷ map entry_of es) ((f.0.items, e.1) ∷ map entry_of es) (entry_of f ∷ put (slice_cmp nat_cmp) e.0.items e.1 (map entry_of es))) below.0

  sorted_entries : (es : List (Vec ℕ Z × ℤ)) → IsStrictlySortedBy by_bytes (map (λ (f : Vec ℕ Z × ℤ). f.0) es) → entries (from_entries {R = slice_cmp nat_cmp} (map entry_of es)) ≡ map entry_of es
  sorted_entries [] sorted = none_in
  sorted_entries (e ∷ es) sorted =
      let names = map (λ (f : Vec ℕ Z × ℤ). f.0) es in
      entries-insert nat_list_cmp_total (from_entries (map entry_of es)) e.0.items e.1
      ∙ ap (put (slice_cmp nat_cmp) e.0.items e.1) (sorted_entries es (sorted_tail by_bytes e.0 names sorted))
      ∙ put_first e es (sorted_head by_bytes e.0 names sorted)

  pub entries_gathered : (m : BTreeMap (Vec ℕ Z) ℤ) → IsStrictlySortedBy by_bytes (map (λ (f : Vec ℕ Z × ℤ). f.0) m.entries) → entries (gathered m) ≡ map entry_of m.entries
  entries_gathered m sorted = sorted_entries m.entries sorted

  pub len_gathered : (m : BTreeMap (Vec ℕ Z) ℤ) → IsStrictlySortedBy by_bytes (map (λ (f : Vec ℕ Z × ℤ). f.0) m.entries) → len (gathered m) ≡ length m.entries
  len_gathered m sorted = len-entries (gathered m) ∙ ap length (sorted_entries m.entries sorted) ∙ length-map m.entries entry_of

  -- ---- the first score goes over into a sorted set

  pub one_over : (old new : BTreeMap (Vec ℕ Z) ℤ) (k : Vec ℕ Z) (v : ℤ) (zset : Scores) → old.entries ≡ (k, v) ∷ new.entries → lookup (is_name k.items) new.entries ≡ None
      → (q : List ℕ) → or_else (get (gathered new) q) (get (insert zset k.items v) q) ≡ or_else (get (gathered old) q) (get zset q)
  one_over old new k v zset e none q =
      ap (or_else (get (gathered new) q)) (get-insert nat_list_cmp_total zset k.items v q)
      ∙ over_one (tied q k.items) (get (gathered new) q) (get zset q) v (λ same. ap (get (gathered new)) (tied_true q k.items same) ∙ get_gathered new k.items ∙ none)
      ∙ ap (λ o. or_else o (get zset q))
      (sym (ap (λ (es : List (Vec ℕ Z × ℤ)). get (from_entries {R = slice_cmp nat_cmp} (map entry_of es)) q) e ∙ get-insert nat_list_cmp_total (gathered new) k.items v q))

  pub none_over : (m : BTreeMap (Vec ℕ Z) ℤ) (zset : Scores) → m.entries ≡ [] → (q : List ℕ) → or_else (get (gathered m) q) (get zset q) ≡ get zset q
  none_over m zset none q = ap (λ o. or_else o (get zset q)) (ap (λ s. get s q) (none_gathered m none) ∙ get-empty (slice_cmp nat_cmp) q)
