-- What stands at a key where something is put at another, or another is removed.
use Rattle.std.proofs.Common.{◌≡◌, inl, inr, ℕ, Bool, true, false, List, ◌∷◌, Option, None, Some, refl, sym, ap, ◌∙◌, subst}
use Rattle.std.specs.Prelude.{if◌then◌else◌}
use Rattle.std.specs.List.{Contains}
use Rattle.std.proofs.lemmas.Bool.{cond-true, cond-false, eq-eqb, ne_eqb, cases_eq, cases_Bool}
use Rattle.std.specs.Ordering.{nat_cmp, eq_by_cmp, is_eq}
use Rattle.std.specs.declared.cmp.Ordering.{Ordering}
use Rattle.std.specs.declared.cmp.Ordering.TheVariants.{Less, Equal, Greater}
use Rattle.std.specs.Cmp.Lexicographic.{slice_cmp, nat_list_cmp_total}
use Rattle.std.specs.FinMap.{get, insert, get-remove, get-insert, slice_cmp-IsAntisymmetric, nat_cmp-IsAntisymmetric}
use Rattle.std.specs.FinMap as map
use Rattle.plain_world.proofs.Containing.{contains_first, contains_later}
use Rattle.plain_world.specs.Worlds.{World, Database, Value, Entry, look_in, put, put_in, remove, stand, with_base, in_time, selecting}
use Rattle.plain_model.specs.Outcomes.{Outcome}
use Rattle.plain_model.specs.OfType.{on_type, of_type}
use Rattle.written_keys.specs.Written.{Place, at}

-- keys that differ don't compare as equal
unlike : (q key : List ℕ) → (key ≡ q → ⊥) → eq_by_cmp (slice_cmp nat_cmp) q key ≡ false
unlike q key other = elim (cases_Bool (eq_by_cmp (slice_cmp nat_cmp) q key)) [
  | inl same ↦ absurd (other (sym (slice_cmp-IsAntisymmetric nat_cmp-IsAntisymmetric q key (equal (slice_cmp nat_cmp q key) same))))
  | inr differ ↦ differ
]
  where
    equal : (o : Ordering) → is_eq o ≡ true → o ≡ Equal
    equal Less h = cc
    equal Equal h = refl
    equal Greater h = cc

-- of one place, a database and a key
module _ (d : ℕ) (q : List ℕ) where
  -- there stands what stood there, and the same database is selected
  pub record Stays (old new : World) : Type 0 where
    pub selected : new.selected ≡ old.selected
    pub same : look_in new d q ≡ look_in old d q

  -- a key of a database is another place
  abbrev pub Apart : ℕ → List ℕ → Type 0
  Apart db key = db ≡ d → key ≡ q → ⊥

  -- none of these is the place
  abbrev pub Off : List Place → Type 0
  Off list = Contains list (at d q) → ⊥

  pub apart_first : (db : ℕ) (key : List ℕ) (list : List Place) → Off (at db key ∷ list) → Apart db key
  apart_first db key list off same_db same_key =
      off (subst (λ n. Contains (at db key ∷ list) (at n q)) same_db (subst (λ k. Contains (at db key ∷ list) (at db k)) same_key (contains_first (at db key) list)))

  pub off_rest : (place : Place) (list : List Place) → Off (place ∷ list) → Off list
  off_rest place list off c = off (contains_later place (at d q) list c)

  pub none : (w : World) → Stays w w
  none w = record { selected = refl; same = refl }

  pub onward : (a b c : World) → Stays a b → Stays b c → Stays a c
  onward a b c one two = record { selected = two.selected ∙ one.selected; same = two.same ∙ one.same }

  base_stays : (w : World) (base : Database) → (w.selected ≡ d → get base q ≡ get (w.bases w.selected) q) → Stays w (with_base w base)
  base_stays w base alike = record {
    selected = refl;
    same = elim (cases_eq d w.selected) [
      | inl here ↦ ap (λ (b : Database). get b q) (cond-true _ _ _ (eq-eqb d w.selected here)) ∙ alike (sym here) ∙ ap (λ n. get (w.bases n) q) (sym here)
      | inr other ↦ ap (λ (b : Database). get b q) (cond-false _ _ _ (ne_eqb d w.selected other))
    ];
  }

  pub put_stays : (w : World) (key : List ℕ) (e : Entry) → Apart w.selected key → Stays w (put w key e)
  put_stays w key e apart =
      base_stays w (insert (w.bases w.selected) key e) (λ here. get-insert nat_list_cmp_total (w.bases w.selected) key e q ∙ cond-false _ _ _ (unlike q key (apart here)))

  pub remove_stays : (w : World) (key : List ℕ) → Apart w.selected key → Stays w (remove w key)
  remove_stays w key apart =
      base_stays w (map.remove (w.bases w.selected) key) (λ here. get-remove nat_list_cmp_total (w.bases w.selected) key q ∙ cond-false _ _ _ (unlike q key (apart here)))

  pub if_stays : (w : World) (b : Bool) (x y : World) → Stays w x → Stays w y → Stays w (if b then x else y)
  if_stays w true x y one two = one
  if_stays w false x y one two = two

  pub stand_stays : (w : World) (moment : ℕ) (key : List ℕ) (e : Entry) → Apart w.selected key → Stays w (stand w moment key e)
  stand_stays w moment key e apart = if_stays w (in_time moment e.deadline) (put w key e) (remove w key) (put_stays w key e apart) (remove_stays w key apart)

  -- what stands at a key of a database, which another one was selected for
  pub put_in_stays : (w : World) (number : ℕ) (key : List ℕ) (e : Entry) → Apart number key → Stays w (put_in w number key e)
  put_in_stays w number key e apart = record { selected = refl; same = (put_stays (selecting w number) key e apart).same }

  -- ---- what is answered and left

  module _ (old : World) where
    abbrev pub Leaves : Outcome → Type 0
    Leaves outcome = Stays old outcome.world

    pub if_leaves : (b : Bool) (x y : Outcome) → Leaves x → Leaves y → Leaves (if b then x else y)
    if_leaves true x y one two = one
    if_leaves false x y one two = two

    pub on_type_leaves : {A : Type 0} (in_value : Value → Option A) (entry : Option Entry) (answer : Option A → Outcome) → ((before : Option A) → Leaves (answer before))
        → Leaves (on_type in_value old entry answer)
    on_type_leaves in_value None answer h = h None
    on_type_leaves {A} in_value (Some entry) answer h = of_value (in_value entry.value)
      where
        of_value : (own : Option A) → Leaves (of_type old own answer)
        of_value None = none old
        of_value (Some own) = h (Some own)
