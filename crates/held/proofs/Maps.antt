-- Databases as their values beside their deadlines.
use Rattle.std.proofs.Common.{◌≡◌, inl, inr, ℕ, suc, Bool, true, false, cond, List, [], ◌∷◌, length, Option, Some, None, refl, sym, ap, ◌∙◌, subst}
use Rattle.std.specs.Prelude.{◌&&◌, map, T}
use Rattle.std.proofs.lemmas.Bool.{cases_Bool, cond-true, cond-false}
use Rattle.std.specs.Ordering.{nat_cmp, eq_by_cmp, is_eq, is_lt}
use Rattle.std.specs.declared.cmp.Ordering.{Ordering}
use Rattle.std.specs.declared.cmp.Ordering.TheVariants.{Less, Equal, Greater}
use Rattle.std.specs.Cmp.{eq_by_cmp_equiv}
use Rattle.std.specs.Cmp.Lexicographic.{slice_cmp, nat_list_cmp_total}
use Rattle.std.specs.FinMap.{empty, entries, entries_sorted, entries-from_sorted, find, is_sorted, get, get-entries, get-from_sorted, insert, remove, len, len-entries, get-empty}
use Rattle.std.specs.FinMap.{get-insert, get-remove, slice_cmp-IsAntisymmetric, nat_cmp-IsAntisymmetric}
use Rattle.std.specs.FinMap.Entries.{below_all}
use Rattle.plain_world.specs.Worlds.{Value, Entry, Database, no_keys}
use Rattle.held.specs.Databases.{Values, Moments, with_deadlines, with_deadline}
use Rattle.plain_world.proofs.Maps.{maps_alike}

abbrev tied : List ℕ → List ℕ → Bool
tied q k = eq_by_cmp (slice_cmp nat_cmp) q k

tied_true : (q k : List ℕ) → tied q k ≡ true → q ≡ k
tied_true q k h = slice_cmp-IsAntisymmetric nat_cmp-IsAntisymmetric q k (equal (slice_cmp nat_cmp q k) h)
  where
    equal : (o : Ordering) → is_eq o ≡ true → o ≡ Equal
    equal Less h = cc
    equal Equal h = refl
    equal Greater h = cc

tied_refl : (q : List ℕ) → tied q q ≡ true
tied_refl q = (eq_by_cmp_equiv nat_list_cmp_total).refl q

-- what stands at a key that has this value and this deadline, or none of them
abbrev pub entry_with : Option Value → Option ℕ → Option Entry
entry_with None deadline = None
entry_with (Some value) deadline = Some (record { value = value; deadline = deadline })

module _ (moments : Moments) where
  abbrev timed : List ℕ × Value → List ℕ × Entry
  timed e = (e.0, record { value = e.1; deadline = get moments e.0 })

  find_timed : (es : List (List ℕ × Value)) (q : List ℕ) → find (slice_cmp nat_cmp) q (map timed es) ≡ entry_with (find (slice_cmp nat_cmp) q es) (get moments q)
  find_timed [] q = refl
  find_timed (e ∷ es) q = elim (cases_Bool (tied q e.0)) [
    | inl same ↦
        cond-true _ _ _ same ∙ ap (λ k. Some (record { value = e.1; deadline = get moments k })) (sym (tied_true q e.0 same))
        ∙ sym (ap (λ o. entry_with o (get moments q)) (cond-true (tied q e.0) (Some e.1) (find (slice_cmp nat_cmp) q es) same))
    | inr other ↦
        cond-false _ _ _ other ∙ find_timed es q
        ∙ sym (ap (λ o. entry_with o (get moments q)) (cond-false (tied q e.0) (Some e.1) (find (slice_cmp nat_cmp) q es) other))
  ]

  below_timed : (k : List ℕ) (es : List (List ℕ × Value)) → below_all (slice_cmp nat_cmp) k (map timed es) ≡ below_all (slice_cmp nat_cmp) k es
  below_timed k [] = refl
  below_timed k (e ∷ es) = ap (λ b. is_lt (slice_cmp nat_cmp k e.0) && b) (below_timed k es)

  sorted_timed : (es : List (List ℕ × Value)) → is_sorted (slice_cmp nat_cmp) (map timed es) ≡ is_sorted (slice_cmp nat_cmp) es
  sorted_timed [] = refl
  sorted_timed (e ∷ es) = λ i. below_timed e.0 es i && sorted_timed es i

  length_timed : (es : List (List ℕ × Value)) → length (map timed es) ≡ length es
  length_timed [] = refl
  length_timed (e ∷ es) = ap (λ n. suc n) (length_timed es)

  is_rising : (values : Values) → T (is_sorted (slice_cmp nat_cmp) (map timed (entries values)))
  is_rising values = subst T (sym (sorted_timed (entries values))) (entries_sorted values)

  -- what stands at a key
  pub get_with : (values : Values) (q : List ℕ) → get (with_deadlines values moments) q ≡ entry_with (get values q) (get moments q)
  unfolding with_deadlines
  get_with values q = get-from_sorted (slice_cmp nat_cmp) (map timed (entries values)) q (is_rising values) ∙ find_timed (entries values) q
      ∙ ap (λ o. entry_with o (get moments q)) (sym (get-entries values q))

  pub len_with : (values : Values) → len (with_deadlines values moments) ≡ len values
  unfolding with_deadlines
  len_with values = len-entries _ ∙ ap length (entries-from_sorted (slice_cmp nat_cmp) (map timed (entries values)) (is_rising values)) ∙ length_timed (entries values) ∙ sym (len-entries values)

-- what stands at a key where a value and a deadline are put at another
chosen : (same : Bool) (v : Value) (d : Option ℕ) (w : Option Value) (e : Option ℕ)
    → entry_with (cond same (Some v) w) (cond same d e) ≡ cond same (Some (record { value = v; deadline = d })) (entry_with w e)
chosen true v d w e = refl
chosen false v d w e = refl

get_deadline : (moments : Moments) (key : List ℕ) (deadline : Option ℕ) (q : List ℕ) → get (with_deadline moments key deadline) q ≡ cond (tied q key) deadline (get moments q)
get_deadline moments key None q = get-remove nat_list_cmp_total moments key q
get_deadline moments key (Some deadline) q = get-insert nat_list_cmp_total moments key deadline q

-- a key gets a value and a deadline
pub with_put : (values : Values) (moments : Moments) (key : List ℕ) (value : Value) (deadline : Option ℕ)
    → with_deadlines (insert values key value) (with_deadline moments key deadline) ≡ insert (with_deadlines values moments) key (record { value = value; deadline = deadline })
with_put values moments key value deadline =
    maps_alike _ _ (λ q.
    get_with (with_deadline moments key deadline) (insert values key value) q
    ∙ (λ i. entry_with (get-insert nat_list_cmp_total values key value q i) (get_deadline moments key deadline q i))
    ∙ chosen (tied q key) value deadline (get values q) (get moments q)
    ∙ ap (cond (tied q key) (Some (record { value = value; deadline = deadline }))) (sym (get_with moments values q))
    ∙ sym (get-insert nat_list_cmp_total (with_deadlines values moments) key (record { value = value; deadline = deadline }) q))

-- the deadline that a key has is the one that it gets
pub same_deadline : (moments : Moments) (key : List ℕ) (deadline : Option ℕ) → get moments key ≡ deadline → with_deadline moments key deadline ≡ moments
same_deadline moments key deadline is =
    maps_alike _ _ (λ q. get_deadline moments key deadline q ∙ elim (cases_Bool (tied q key)) [
      | inl same ↦ cond-true _ _ _ same ∙ sym is ∙ ap (get moments) (sym (tied_true q key same))
      | inr other ↦ cond-false _ _ _ other
    ])

-- a key that had no deadline gets one, and loses it again
pub undone_deadline : (moments : Moments) (key : List ℕ) (deadline : Option ℕ) → get moments key ≡ None → remove (with_deadline moments key deadline) key ≡ moments
undone_deadline moments key deadline none =
    maps_alike _ _ (λ q. get-remove nat_list_cmp_total (with_deadline moments key deadline) key q ∙ elim (cases_Bool (tied q key)) [
      | inl same ↦ cond-true _ _ _ same ∙ sym none ∙ ap (get moments) (sym (tied_true q key same))
      | inr other ↦ cond-false _ _ _ other ∙ get_deadline moments key deadline q ∙ cond-false _ _ _ other
    ])

-- the value that a key has is the one that it gets
pub same_value : (values : Values) (key : List ℕ) (value : Value) → get values key ≡ Some value → insert values key value ≡ values
same_value values key value is =
    maps_alike _ _ (λ q. get-insert nat_list_cmp_total values key value q ∙ elim (cases_Bool (tied q key)) [
      | inl same ↦ cond-true _ _ _ same ∙ sym is ∙ ap (get values) (sym (tied_true q key same))
      | inr other ↦ cond-false _ _ _ other
    ])

-- what stands at a key is what is put there
pub same_entry : (base : Database) (key : List ℕ) (e : Entry) → get base key ≡ Some e → insert base key e ≡ base
same_entry base key e is =
    maps_alike _ _ (λ q. get-insert nat_list_cmp_total base key e q ∙ elim (cases_Bool (tied q key)) [
      | inl same ↦ cond-true _ _ _ same ∙ sym is ∙ ap (get base) (sym (tied_true q key same))
      | inr other ↦ cond-false _ _ _ other
    ])

-- a key leaves at which something was put
pub put_removed : (base : Database) (key : List ℕ) (e : Entry) → remove (insert base key e) key ≡ remove base key
put_removed base key e =
    maps_alike _ _ (λ q. get-remove nat_list_cmp_total (insert base key e) key q
    ∙ ap (λ o. cond (tied q key) None o) (get-insert nat_list_cmp_total base key e q)
    ∙ shadowed (tied q key) (get base q) ∙ sym (get-remove nat_list_cmp_total base key q))
  where
    shadowed : (t : Bool) (o : Option Entry) → cond t None (cond t (Some e) o) ≡ cond t None o
    shadowed true o = refl
    shadowed false o = refl

-- the same while something is put at another key
pub moved_base : (base : Database) (key to : List ℕ) (a e : Entry) → (key ≡ to → ⊥) → remove (insert (insert base key a) to e) key ≡ insert (remove base key) to e
moved_base base key to a e apart =
    maps_alike _ _ (λ q. get-remove nat_list_cmp_total (insert (insert base key a) to e) key q
    ∙ ap (λ o. cond (tied q key) None o) (get-insert nat_list_cmp_total (insert base key a) to e q ∙ ap (λ o. cond (tied q to) (Some e) o) (get-insert nat_list_cmp_total base key a q))
    ∙ both q (tied q key) (tied q to) refl refl (get base q)
    ∙ sym (get-insert nat_list_cmp_total (remove base key) to e q ∙ ap (λ o. cond (tied q to) (Some e) o) (get-remove nat_list_cmp_total base key q)))
  where
    both : (q : List ℕ) (s t : Bool) → tied q key ≡ s → tied q to ≡ t → (o : Option Entry) → cond s None (cond t (Some e) (cond s (Some a) o)) ≡ cond t (Some e) (cond s None o)
    both q true true x y o = absurd (apart (sym (tied_true q key x) ∙ tied_true q to y))
    both q true false x y o = refl
    both q false true x y o = refl
    both q false false x y o = refl

-- a key has the deadline that it got
pub got_deadline : (moments : Moments) (key : List ℕ) (deadline : Option ℕ) → get (with_deadline moments key deadline) key ≡ deadline
got_deadline moments key deadline = get_deadline moments key deadline key ∙ cond-true _ _ _ (tied_refl key)

-- a key leaves with its deadline
pub with_removed : (values : Values) (moments : Moments) (key : List ℕ) → with_deadlines (remove values key) (remove moments key) ≡ remove (with_deadlines values moments) key
with_removed values moments key =
    maps_alike _ _ (λ q.
    get_with (remove moments key) (remove values key) q
    ∙ (λ i. entry_with (get-remove nat_list_cmp_total values key q i) (get-remove nat_list_cmp_total moments key q i))
    ∙ left (tied q key) (get values q) (get moments q)
    ∙ ap (cond (tied q key) None) (sym (get_with moments values q))
    ∙ sym (get-remove nat_list_cmp_total (with_deadlines values moments) key q))
  where
    left : (same : Bool) (w : Option Value) (e : Option ℕ) → entry_with (cond same None w) (cond same None e) ≡ cond same None (entry_with w e)
    left true w e = refl
    left false w e = refl

-- a key leaves that isn't there
pub removed_same : (base : Database) (key : List ℕ) → get base key ≡ None → remove base key ≡ base
removed_same base key none =
    maps_alike _ _ (λ q. get-remove nat_list_cmp_total base key q ∙ elim (cases_Bool (tied q key)) [
      | inl same ↦ cond-true _ _ _ same ∙ sym none ∙ ap (get base) (sym (tied_true q key same))
      | inr other ↦ cond-false _ _ _ other
    ])

-- no value, no key
pub with_none : (moments : Moments) → with_deadlines empty moments ≡ no_keys
with_none moments = maps_alike _ _ (λ q. get_with moments empty q ∙ ap (λ o. entry_with o (get moments q)) (get-empty (slice_cmp nat_cmp) q) ∙ sym (get-empty (slice_cmp nat_cmp) q))
