-- A set of names that takes the place of what stands at a key.
use Rattle.std.proofs.Common.{◌≡◌, ◌≤◌, inl, inr, ℕ, Bool, true, false, cond, List, [], ◌∷◌, length, Option, None, Some, is_some, refl, sym, ap, subst, ◌∙◌, arith}
use Rattle.std.specs.Prelude.{◌==◌}
use Rattle.std.specs.Ordering.{nat_cmp, eq_by_cmp}
use Rattle.std.specs.Cmp.Lexicographic.{slice_cmp, nat_list_cmp_total}
use Rattle.std.specs.FinMap.{empty, insert, len, keys, get, get-insert, get-remove, len-empty}
use Rattle.std.specs.FinMap as map
use Rattle.std.proofs.lemmas.Bool.{cond-true, cond-false, cases_Bool, cases_eq, eq-eqb, ne_eqb, and_from}
use Rattle.blocks.specs.Blocks.{Blocks}
use Rattle.int_text.specs.Decimal.{number_of}
use Rattle.object_codec.specs.declared.form.Form.{Form}
use Rattle.object_codec.specs.declared.form.Form.TheVariants.{Intset, Listpack, Hashtable, Skiplist, Quicklist, Stream}
use Rattle.object_codec.specs.declared.limits.Limits.{Limits}
use Rattle.object_codec.specs.Forms.{IsLeast}
use Rattle.set_object.specs.Strings.{FitsMembers, are_numbers, longest, set_of}
use Rattle.set_object.proofs.Sets.{tied, tied_same, among, has_among, has_empty, has_put, sets_alike}
use Rattle.set_object.proofs.Forms.{keys_among, numbers_each, longest_each}
use Rattle.plain_world.specs.Worlds.{World, Database, Entry, SetOf, look, put, remove, deadline_of}
use Rattle.plain_world.proofs.Maps.{maps_alike}
use Rattle.plain_model.specs.SetSteps.{Members, has, add_all, or_no_members, keep_set, store_set}
use Rattle.plain_model.specs.declared.ctx.Ctx.{Ctx}
use Rattle.held.specs.Calls.{AllAt}
use Rattle.held.proofs.Timing.{some_none}
use Rattle.keyspace.specs.Databases.{Keyspace}
use Rattle.keyspace.specs.Scopes.{one_key, no_key}
use Rattle.keyspace.specs.Forms.{IsNewSet, IsSourceForm, RisesIf, RisesWith}
use Rattle.keyspace.specs.Commands.{KeepsTo, visible}
use Rattle.keyspace.proofs.Absent.{look_removed}
use Rattle.keyspace.proofs.Running.{held_then, held_at_key}
use Rattle.cmd_sets.specs.Changed.{IsBefore, SetChanged, IsLasting}
use Rattle.cmd_sets.specs.Edited.{Adds}
use Rattle.cmd_sets.proofs.Growing.{insert_there, one_more}

-- ---- a set that was made by putting in members has its least form

numbers_all : (xs : List (List ℕ)) → ((q : List ℕ) → among q xs ≡ true → is_some (number_of q) ≡ true) → are_numbers xs ≡ true
numbers_all [] each = refl
numbers_all (x ∷ xs) each = and_from _ _ (each x (first x xs)) (numbers_all xs (λ q h. each q (later q x xs h)))
  where
    first : (y : List ℕ) (ys : List (List ℕ)) → among y (y ∷ ys) ≡ true
    first y ys = cond-true _ _ _ (tied_same y y refl)

    later : (q y : List ℕ) (ys : List (List ℕ)) → among q ys ≡ true → among q (y ∷ ys) ≡ true
    later q y ys h = elim (cases_Bool (tied q y)) [ inl t ↦ cond-true _ _ _ t | inr f ↦ cond-false _ _ _ f ∙ h ]

longest_all : (xs : List (List ℕ)) (v : ℕ) → ((q : List ℕ) → among q xs ≡ true → length q ≤ v) → longest xs ≤ v
longest_all [] v each = omega arith
longest_all (x ∷ xs) v each = omega (arith, each x (first x xs), longest_all xs v (λ q h. each q (later q x xs h)))
  where
    first : (y : List ℕ) (ys : List (List ℕ)) → among y (y ∷ ys) ≡ true
    first y ys = cond-true _ _ _ (tied_same y y refl)

    later : (q y : List ℕ) (ys : List (List ℕ)) → among q ys ≡ true → among q (y ∷ ys) ≡ true
    later q y ys h = elim (cases_Bool (tied q y)) [ inl t ↦ cond-true _ _ _ t | inr f ↦ cond-false _ _ _ f ∙ h ]

module _ (limits : Limits) (set : Members) (x : List ℕ) where
  -- what is in the set is in it with one member more
  still : (q : List ℕ) → among q (keys set) ≡ true → among q (keys (insert set x tt)) ≡ true
  still q h =
      sym (keys_among (insert set x tt) q) ∙ has_put set x q ∙ ap (cond (tied q x) true) (keys_among set q ∙ h) ∙ both_true (tied q x)
    where
      both_true : (t : Bool) → cond t true true ≡ true
      both_true true = refl
      both_true false = refl

  more : len set ≤ len (insert set x tt)
  more = one_more set x

  -- a form that fits with one member more fits the set
  fits_fewer : (other : Form) → FitsMembers limits (insert set x tt) other → FitsMembers limits set other
  fits_fewer Intset fits = (numbers_all (keys set) (λ q h. numbers_each (keys (insert set x tt)) q fits.0 (still q h)), omega (arith, fits.1, more))
  fits_fewer Listpack fits =
      let long : longest (keys set) ≤ longest (keys (insert set x tt)) = longest_all (keys set) (longest (keys (insert set x tt))) (λ q h. longest_each (keys (insert set x tt)) q (still q h)) in
      (omega (arith, fits.0, more), omega (arith, fits.1, long))
  fits_fewer Hashtable fits = tt
  fits_fewer Skiplist fits = fits
  fits_fewer Quicklist fits = fits
  fits_fewer Stream fits = fits

  -- one member more
  least_one : (there : Bool) (from form : Form) → has set x ≡ there → IsLeast (FitsMembers limits set) from → RisesIf there limits from (insert set x tt) form
      → IsLeast (FitsMembers limits (insert set x tt)) form
  least_one true from form is least rises =
      subst (λ (s : Members). IsLeast (FitsMembers limits s) form) (sym (insert_there set x is)) (subst (IsLeast (FitsMembers limits set)) (sym rises) least)
  least_one false from form is least rises = record {
    fitting = rises.fitting;
    least = λ other fits. rises.least other fits (least.least other (fits_fewer other fits));
  }

least_all : (limits : Limits) (from form : Form) (set : Members) (words : List (List ℕ)) → IsLeast (FitsMembers limits set) from → RisesWith limits from set words form
    → IsLeast (FitsMembers limits (add_all set words)) form
least_all limits from form set [] least rises = subst (IsLeast (FitsMembers limits set)) (sym rises) least
least_all limits from form set (x ∷ words) least rises = least_all limits rises.0 form (insert set x tt) words (least_one limits set x (has set x) from rises.0 refl least rises.1) rises.2

-- members that are put into a set without a member
pub filled_has : (list : List (List ℕ)) (set : Members) (q : List ℕ) → has (add_all set list) q ≡ cond (among q list) true (has set q)
filled_has [] set q = refl
filled_has (x ∷ list) set q = filled_has list (insert set x tt) q ∙ ap (cond (among q list) true) (has_put set x q) ∙ swap (among q list) (tied q x) (has set q)
  where
    swap : (a t h : Bool) → cond a true (cond t true h) ≡ cond (cond t true a) true h
    swap true true h = refl
    swap true false h = refl
    swap false true h = refl
    swap false false h = refl

pub filled : (list : List (List ℕ)) → add_all empty list ≡ set_of list
filled list = sets_alike _ _ (λ q. filled_has list empty q ∙ ap (cond (among q list) true) (has_empty q) ∙ known (among q list) ∙ sym (has_among list q))
  where
    known : (a : Bool) → cond a true false ≡ a
    known true = refl
    known false = refl

-- ---- the world

over : (t : Bool) (x : Option Entry) (y : Option Entry) (z : Option Entry) → cond t x (cond t y z) ≡ cond t x z
over true x y z = refl
over false x y z = refl

again_base : (m : Database) (q : List ℕ) → map.remove (map.remove m q) q ≡ map.remove m q
again_base m q = maps_alike _ _ (λ k.
    get-remove nat_list_cmp_total (map.remove m q) q k ∙ ap (λ (o : Option Entry). cond (eq_by_cmp (slice_cmp nat_cmp) k q) None o) (get-remove nat_list_cmp_total m q k)
    ∙ over (eq_by_cmp (slice_cmp nat_cmp) k q) None None (get m k) ∙ sym (get-remove nat_list_cmp_total m q k))

put_base : (m : Database) (q : List ℕ) (e : Entry) → insert (map.remove m q) q e ≡ insert m q e
put_base m q e = maps_alike _ _ (λ k.
    get-insert nat_list_cmp_total (map.remove m q) q e k ∙ ap (λ (o : Option Entry). cond (eq_by_cmp (slice_cmp nat_cmp) k q) (Some e) o) (get-remove nat_list_cmp_total m q k)
    ∙ over (eq_by_cmp (slice_cmp nat_cmp) k q) (Some e) None (get m k) ∙ sym (get-insert nat_list_cmp_total m q e k))

remove_again : (w : World) (key : List ℕ) → remove (remove w key) key ≡ remove w key
remove_again w key = λ i. record { bases = λ number. each number i; selected = w.selected }
  where
    each : (number : ℕ) → (remove (remove w key) key).bases number ≡ (remove w key).bases number
    each number = elim (cases_eq number w.selected) [
      | inl here ↦
          cond-true _ _ _ (eq-eqb number w.selected here)
          ∙ ap (λ (base : Database). map.remove base key) (cond-true _ _ _ (eq-eqb w.selected w.selected refl))
          ∙ again_base (w.bases w.selected) key
          ∙ sym (cond-true _ _ _ (eq-eqb number w.selected here))
      | inr other ↦ cond-false _ _ _ (ne_eqb number w.selected other) ∙ cond-false _ _ _ (ne_eqb number w.selected other) ∙ sym (cond-false _ _ _ (ne_eqb number w.selected other))
    ]

put_again : (w : World) (key : List ℕ) (e : Entry) → put (remove w key) key e ≡ put w key e
put_again w key e = λ i. record { bases = λ number. each number i; selected = w.selected }
  where
    each : (number : ℕ) → (put (remove w key) key e).bases number ≡ (put w key e).bases number
    each number = elim (cases_eq number w.selected) [
      | inl here ↦
          cond-true _ _ _ (eq-eqb number w.selected here)
          ∙ ap (λ (base : Database). insert base key e) (cond-true _ _ _ (eq-eqb w.selected w.selected refl))
          ∙ put_base (w.bases w.selected) key e
          ∙ sym (cond-true _ _ _ (eq-eqb number w.selected here))
      | inr other ↦ cond-false _ _ _ (ne_eqb number w.selected other) ∙ cond-false _ _ _ (ne_eqb number w.selected other) ∙ sym (cond-false _ _ _ (ne_eqb number w.selected other))
    ]

-- a set is kept at a key that was removed
kept_again : (w : World) (key : List ℕ) (set : Members) → keep_set (remove w key) key set ≡ store_set w key set
kept_again w key set = elim (cases_Bool (len set == 0)) [
  | inl none ↦ cond-true _ _ _ none ∙ remove_again w key ∙ sym (cond-true _ _ _ none)
  | inr some ↦
      cond-false _ _ _ some
      ∙ ap (λ (o : Option Entry). put (remove w key) key (record { value = SetOf set; deadline = deadline_of o })) (look_removed w key)
      ∙ put_again w key (record { value = SetOf set; deadline = None })
      ∙ sym (cond-false _ _ _ some)
]

-- ---- what stands at the key after it was removed, and a new set was put there

none_before : (world : World) (key : List ℕ) (before : Option Members) → look world key ≡ None → IsBefore world key before → before ≡ None
none_before world key None none is = refl
none_before world key (Some set) none is = absurd (some_none _ _ is.stands none)

module _ {S : Type 0} (blocks : S → Blocks) (old mid new : Keyspace S) (at : Ctx) (key : List ℕ) (words : List (List ℕ)) (many : ℕ)
    (gone : visible blocks mid at ≡ remove (visible blocks old at) key)
    (p : SetChanged (Adds mid.bases.limits words many) keep_set IsLasting blocks mid new at key) where
  nothing : p.before ≡ None
  nothing = none_before (visible blocks mid at) key p.before (ap (λ (w : World). look w key) gone ∙ look_removed (visible blocks old at) key) p.stands

  pub put_is : p.now ≡ set_of words
  put_is = p.made.is ∙ ap (λ (b : Option Members). add_all (or_no_members b) words) nothing ∙ filled words

  pub put_world : visible blocks new at ≡ store_set (visible blocks old at) key (set_of words)
  put_world = p.world ∙ ap (λ (w : World). keep_set w key p.now) gone ∙ kept_again (visible blocks old at) key p.now ∙ ap (store_set (visible blocks old at) key) put_is

  pub put_count : many ≡ len (set_of words)
  put_count =
      let none : len (or_no_members p.before) ≡ 0 = ap (λ (b : Option Members). len (or_no_members b)) nothing ∙ len-empty (slice_cmp nat_cmp) (Unit {0}) in
      omega (arith, p.made.counted, none, ap len put_is)

  pub put_form : mid.bases.limits ≡ old.bases.limits → AllAt (IsNewSet (has (set_of words)) old.bases) new.bases (blocks new.store) at.db key
  put_form same number e found bytes =
      let had : IsLeast (FitsMembers mid.bases.limits empty) p.from =
      subst (λ (b : Option Members). IsSourceForm (is_some b) (FitsMembers mid.bases.limits empty) mid.bases (blocks mid.store) at.db key p.from) nothing p.was_form in
      let risen : RisesWith mid.bases.limits p.from empty words p.form = subst (λ (b : Option Members). RisesWith mid.bases.limits p.from (or_no_members b) words p.form) nothing p.made.risen in
      record {
        members = set_of words;
        form = p.form;
        all = λ q. refl;
        is = (p.is number e found bytes).0;
        least = subst (λ (l : Limits). IsLeast (FitsMembers l (set_of words)) p.form) same
            (subst (λ (s : Members). IsLeast (FitsMembers mid.bases.limits s) p.form) (filled words) (least_all mid.bases.limits p.from p.form empty words had risen));
      }

-- a key is removed, and then it changes
pub held_anew : {S : Type 0} (blocks : S → Blocks) (step : S → S → Type 0) (db : ℕ) (key : List ℕ) (old mid new : Keyspace S) → KeepsTo blocks step (no_key db) old mid
    → KeepsTo blocks step (one_key db key) mid new → KeepsTo blocks step (one_key db key) old new
held_anew blocks step db key old mid new p q =
    held_then blocks step (one_key db key) old mid new (held_at_key blocks step db key old mid p) q
