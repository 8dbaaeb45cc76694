-- A sorted set of gathered scores that takes the place of what stands at a key.
use Rattle.std.proofs.Common.{◌≡◌, ◌≤◌, ◌+◌, inl, inr, ℕ, ℤ, Bool, true, false, cond, List, [], ◌∷◌, Option, None, Some, is_some, refl, sym, ap, subst, ◌∙◌, arith}
use Rattle.std.specs.Prelude.{◌==◌}
use Rattle.std.specs.Ordering.{nat_cmp, eq_by_cmp}
use Rattle.std.specs.declared.cmp.Ordering.TheVariants.{Less, Equal, Greater}
use Rattle.std.specs.Cmp.Lexicographic.{slice_cmp, nat_list_cmp_total}
use Rattle.std.specs.FinMap.{empty, entries, insert, contains_key, len, put as put_entry, get, get-insert, get-remove, get-empty, entries-insert, len-insert}
use Rattle.std.specs.FinMap as map
use Rattle.std.specs.FinMap.Entries.{by_order}
use Rattle.std.proofs.lemmas.Bool.{cond-true, cond-false, cases_Bool, cases_eq, eq-eqb, ne_eqb}
use Rattle.blocks.specs.Blocks.{Blocks}
use Rattle.object_codec.specs.declared.form.Form.{Form}
use Rattle.object_codec.specs.declared.form.Form.TheVariants.{Intset, Listpack, Hashtable, Skiplist, Quicklist, Stream}
use Rattle.object_codec.specs.declared.limits.Limits.{Limits}
use Rattle.object_codec.specs.Forms.{IsLeast}
use Rattle.zset_object.specs.Orders.{FitsScored, IsRisen, longest_member}
use Rattle.plain_world.specs.Worlds.{World, Database, Entry, SortedOf, look, put, remove, deadline_of}
use Rattle.plain_world.proofs.Maps.{maps_alike}
use Rattle.plain_model.specs.ZsetSteps.{Scores, or_no_scores, keep_zset, store_zset}
use Rattle.plain_model.specs.declared.ctx.Ctx.{Ctx}
use Rattle.held.specs.Calls.{AllAt}
use Rattle.held.proofs.Timing.{some_none}
use Rattle.keyspace.specs.Values.{encoding_of}
use Rattle.keyspace.specs.Databases.{Keyspace}
use Rattle.keyspace.specs.Scopes.{one_key, no_key}
use Rattle.keyspace.specs.Forms.{IsNewZset, IsSourceForm}
use Rattle.keyspace.specs.Commands.{KeepsTo, visible}
use Rattle.keyspace.proofs.Absent.{look_removed}
use Rattle.keyspace.proofs.Running.{held_then, held_at_key}
use Rattle.cmd_zsets.specs.Changed.{IsBefore, ZsetChanged}
use Rattle.cmd_zsets.specs.Joined.{Fills, or_else}

-- ---- a sorted set that was made by giving members scores has its least form

put_longer : (k : List ℕ) (v : ℤ) (es : List (List ℕ × ℤ)) → longest_member es ≤ longest_member (put_entry (slice_cmp nat_cmp) k v es)
put_longer k v [] = omega arith
put_longer k v (e ∷ es) =
    let later = put_longer k v es in
    elim (slice_cmp nat_cmp k e.0) as (λ o. longest_member (e ∷ es) ≤ longest_member (by_order o ((k, v) ∷ e ∷ es) ((e.0, v) ∷ es) (e ∷ put_entry (slice_cmp nat_cmp) k v es))) [
      | Less ↦ omega arith
      | Equal ↦ omega arith
      | Greater ↦ omega (arith, later)
    ]

module _ (limits : Limits) (scores : Scores) (k : List ℕ) (v : ℤ) where
  more : len scores ≤ len (insert scores k v)
  more = let made = len-insert nat_list_cmp_total scores k v in by_test (contains_key scores k) made
    where
      by_test : (b : Bool) → len (insert scores k v) ≡ cond b (len scores) (len scores + 1) → len scores ≤ len (insert scores k v)
      by_test true e = omega (arith, e)
      by_test false e = omega (arith, e)

  longer : longest_member (entries scores) ≤ longest_member (entries (insert scores k v))
  longer = omega (arith, put_longer k v (entries scores), ap longest_member (entries-insert nat_list_cmp_total scores k v))

  -- a form that fits with one score more fits the sorted set
  fits_fewer : (other : Form) → FitsScored limits (insert scores k v) other → FitsScored limits scores other
  fits_fewer Intset fits = fits
  fits_fewer Listpack fits = (omega (arith, fits.0, more), omega (arith, fits.1, longer))
  fits_fewer Hashtable fits = fits
  fits_fewer Skiplist fits = tt
  fits_fewer Quicklist fits = fits
  fits_fewer Stream fits = fits

  pub least_more : (from form : Form) → IsLeast (FitsScored limits scores) from → IsRisen limits from (insert scores k v) form → IsLeast (FitsScored limits (insert scores k v)) form
  least_more from form least rises = record {
    fitting = rises.fitting;
    least = λ other fits. rises.least other fits (least.least other (fits_fewer other fits));
  }

-- ---- the world

over : (t : Bool) (x : Option Entry) (y : Option Entry) (z : Option Entry) → cond t x (cond t y z) ≡ cond t x z
over true x y z = refl
over false x y z = refl

again_base : (m : Database) (q : List ℕ) → map.remove (map.remove m q) q ≡ map.remove m q
again_base m q = maps_alike _ _ (λ k.
    get-remove nat_list_cmp_total (map.remove m q) q k ∙ ap (λ (o : Option Entry). cond (eq_by_cmp (slice_cmp nat_cmp) k q) None o) (get-remove nat_list_cmp_total m q k)
    ∙ over (eq_by_cmp (slice_cmp nat_cmp) k q) None None (get m k) ∙ sym (get-remove nat_list_cmp_total m q k))

put_base : (m : Database) (q : List ℕ) (e : Entry) → insert (map.remove m q) q e ≡ insert m q e
put_base m q e = maps_alike _ _ (λ k.
    get-insert nat_list_cmp_total (map.remove m q) q e k ∙ ap (λ (o : Option Entry). cond (eq_by_cmp (slice_cmp nat_cmp) k q) (Some e) o) (get-remove nat_list_cmp_total m q k)
    ∙ over (eq_by_cmp (slice_cmp nat_cmp) k q) (Some e) None (get m k) ∙ sym (get-insert nat_list_cmp_total m q e k))

remove_again : (w : World) (key : List ℕ) → remove (remove w key) key ≡ remove w key
remove_again w key = λ i. record { bases = λ number. each number i; selected = w.selected }
  where
    each : (number : ℕ) → (remove (remove w key) key).bases number ≡ (remove w key).bases number
    each number = elim (cases_eq number w.selected) [
      | inl here ↦
          cond-true _ _ _ (eq-eqb number w.selected here)
          ∙ ap (λ (base : Database). map.remove base key) (cond-true _ _ _ (eq-eqb w.selected w.selected refl))
          ∙ again_base (w.bases w.selected) key
          ∙ sym (cond-true _ _ _ (eq-eqb number w.selected here))
      | inr other ↦ cond-false _ _ _ (ne_eqb number w.selected other) ∙ cond-false _ _ _ (ne_eqb number w.selected other) ∙ sym (cond-false _ _ _ (ne_eqb number w.selected other))
    ]

put_again : (w : World) (key : List ℕ) (e : Entry) → put (remove w key) key e ≡ put w key e
put_again w key e = λ i. record { bases = λ number. each number i; selected = w.selected }
  where
    each : (number : ℕ) → (put (remove w key) key e).bases number ≡ (put w key e).bases number
    each number = elim (cases_eq number w.selected) [
      | inl here ↦
          cond-true _ _ _ (eq-eqb number w.selected here)
          ∙ ap (λ (base : Database). insert base key e) (cond-true _ _ _ (eq-eqb w.selected w.selected refl))
          ∙ put_base (w.bases w.selected) key e
          ∙ sym (cond-true _ _ _ (eq-eqb number w.selected here))
      | inr other ↦ cond-false _ _ _ (ne_eqb number w.selected other) ∙ cond-false _ _ _ (ne_eqb number w.selected other) ∙ sym (cond-false _ _ _ (ne_eqb number w.selected other))
    ]

-- a sorted set is kept at a key that was removed
kept_again : (w : World) (key : List ℕ) (scores : Scores) → keep_zset (remove w key) key scores ≡ store_zset w key scores
kept_again w key scores = elim (cases_Bool (len scores == 0)) [
  | inl none ↦ cond-true _ _ _ none ∙ remove_again w key ∙ sym (cond-true _ _ _ none)
  | inr some ↦
      cond-false _ _ _ some
      ∙ ap (λ (o : Option Entry). put (remove w key) key (record { value = SortedOf scores; deadline = deadline_of o })) (look_removed w key)
      ∙ put_again w key (record { value = SortedOf scores; deadline = None })
      ∙ sym (cond-false _ _ _ some)
]

-- ---- what stands at the key after it was removed, and a new sorted set was put there

none_before : (world : World) (key : List ℕ) (before : Option Scores) → look world key ≡ None → IsBefore world key before → before ≡ None
none_before world key None none is = refl
none_before world key (Some scores) none is = absurd (some_none _ _ is.stands none)

all_of : (o : Option ℤ) → or_else o None ≡ o
all_of None = refl
all_of (Some v) = refl

module _ {S : Type 0} (blocks : S → Blocks) (old mid new : Keyspace S) (at : Ctx) (key : List ℕ) (all : Scores)
    (gone : visible blocks mid at ≡ remove (visible blocks old at) key)
    (p : ZsetChanged (λ limits scores from now form. Fills all limits scores from now form) keep_zset blocks mid new at key) where
  nothing : p.before ≡ None
  nothing = none_before (visible blocks mid at) key p.before (ap (λ (w : World). look w key) gone ∙ look_removed (visible blocks old at) key) p.stands

  put_is : p.now ≡ all
  put_is = maps_alike _ _ (λ q.
      p.made.is q ∙ ap (λ (b : Option Scores). or_else (get all q) (get (or_no_scores b) q)) nothing ∙ ap (or_else (get all q)) (get-empty (slice_cmp nat_cmp) q) ∙ all_of (get all q))

  pub put_world : visible blocks new at ≡ store_zset (visible blocks old at) key all
  put_world = p.world ∙ ap (λ (w : World). keep_zset w key p.now) gone ∙ kept_again (visible blocks old at) key p.now ∙ ap (store_zset (visible blocks old at) key) put_is

  pub put_form : mid.bases.limits ≡ old.bases.limits → AllAt (IsNewZset (get all) old.bases) new.bases (blocks new.store) at.db key
  put_form same number e found bytes =
      let had : IsLeast (FitsScored mid.bases.limits empty) p.from =
      subst (λ (b : Option Scores). IsSourceForm (is_some b) (FitsScored mid.bases.limits empty) mid.bases (blocks mid.store) at.db key p.from) nothing p.was_form in
      let least = p.made.least (subst (λ (b : Option Scores). IsLeast (FitsScored mid.bases.limits (or_no_scores b)) p.from) (sym nothing) had) in
      record {
        scores = p.now;
        form = p.form;
        all = λ q. ap (λ (s : Scores). get s q) put_is;
        is = ap encoding_of (p.only number e found bytes) ∙ p.encoded;
        least = subst (λ (l : Limits). IsLeast (FitsScored l p.now) p.form) same least;
      }

-- a key is removed, and then it changes
pub held_anew : {S : Type 0} (blocks : S → Blocks) (step : S → S → Type 0) (db : ℕ) (key : List ℕ) (old mid new : Keyspace S) → KeepsTo blocks step (no_key db) old mid
    → KeepsTo blocks step (one_key db key) mid new → KeepsTo blocks step (one_key db key) old new
held_anew blocks step db key old mid new p q =
    held_then blocks step (one_key db key) old mid new (held_at_key blocks step db key old mid p) q
