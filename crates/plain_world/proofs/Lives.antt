-- What the live world has, and what becomes of it where a key changes.
use Rattle.std.proofs.Common.{◌≡◌, ◌≤◌, inl, inr, ℕ, Bool, true, false, cond, List, Option, Some, None, refl, sym, ap, ◌∙◌, arith}
use Rattle.std.specs.Prelude.{◌==◌}
use Rattle.std.proofs.lemmas.Bool.{cases_eq, cases_Bool, eq-eqb, ne_eqb, cond-true, cond-false, leb-true, le-leb}
use Rattle.std.specs.Ordering.{nat_cmp, eq_by_cmp, is_eq}
use Rattle.std.specs.declared.cmp.Ordering.{Ordering}
use Rattle.std.specs.declared.cmp.Ordering.TheVariants.{Less, Equal, Greater}
use Rattle.std.specs.Cmp.Lexicographic.{slice_cmp, nat_list_cmp_total}
use Rattle.std.specs.FinMap.{get, insert, get-empty, get-insert, get-remove, get-retain_keys, slice_cmp-IsAntisymmetric, nat_cmp-IsAntisymmetric}
use Rattle.std.specs.FinMap as map
use Rattle.plain_world.proofs.Maps.{maps_alike, get_inserted, insert_over}
use Rattle.plain_world.specs.Worlds.{Entry, Database, World, no_keys, in_time, is_there, live_keys, live, look, with_base, put, remove, stand}

-- what is seen of what stands at a key
abbrev pub shown : ℕ → Option Entry → Option Entry
shown moment o = cond (is_there moment o) o None

-- ---- one database

pub live_get : (base : Database) (moment : ℕ) (key : List ℕ) → get (live_keys base moment) key ≡ shown moment (get base key)
live_get base moment key = get-retain_keys base (λ k. is_there moment (get base k)) key
    (λ x same. ap (λ k. is_there moment (get base k)) (sym (slice_cmp-IsAntisymmetric nat_cmp-IsAntisymmetric key x same)))

pub live_insert : (base : Database) (moment : ℕ) (key : List ℕ) (e : Entry)
    → live_keys (insert base key e) moment ≡ cond (in_time moment e.deadline) (insert (live_keys base moment) key e) (map.remove (live_keys base moment) key)
live_insert base moment key e =
    maps_alike _ _ (λ q.
    live_get (insert base key e) moment q ∙ ap (shown moment) (get-insert nat_list_cmp_total base key e q)
    ∙ agree (eq_by_cmp (slice_cmp nat_cmp) q key) (in_time moment e.deadline) refl (get base q)
    ∙ sym (chosen (in_time moment e.deadline) q
    ∙
    (λ i. cond (in_time moment e.deadline) (cond (eq_by_cmp (slice_cmp nat_cmp) q key) (Some e) (live_get base moment q i))
    (cond (eq_by_cmp (slice_cmp nat_cmp) q key) None (live_get base moment q i)))))
  where
    agree : (same late : Bool) → late ≡ in_time moment e.deadline → (o : Option Entry)
        → shown moment (cond same (Some e) o) ≡ cond late (cond same (Some e) (shown moment o)) (cond same None (shown moment o))
    agree true true is o = ap (λ b. cond b (Some e) None) (sym is)
    agree true false is o = ap (λ b. cond b (Some e) None) (sym is)
    agree false true is o = refl
    agree false false is o = refl

    chosen : (b : Bool) (q : List ℕ) → get (cond b (insert (live_keys base moment) key e) (map.remove (live_keys base moment) key)) q
        ≡ cond b (cond (eq_by_cmp (slice_cmp nat_cmp) q key) (Some e) (get (live_keys base moment) q)) (cond (eq_by_cmp (slice_cmp nat_cmp) q key) None (get (live_keys base moment) q))
    chosen true q = get-insert nat_list_cmp_total (live_keys base moment) key e q
    chosen false q = get-remove nat_list_cmp_total (live_keys base moment) key q

pub live_removed : (base : Database) (moment : ℕ) (key : List ℕ) → live_keys (map.remove base key) moment ≡ map.remove (live_keys base moment) key
live_removed base moment key =
    maps_alike _ _ (λ q.
    live_get (map.remove base key) moment q ∙ ap (shown moment) (get-remove nat_list_cmp_total base key q)
    ∙ agree (eq_by_cmp (slice_cmp nat_cmp) q key) (get base q)
    ∙ ap (cond (eq_by_cmp (slice_cmp nat_cmp) q key) None) (sym (live_get base moment q))
    ∙ sym (get-remove nat_list_cmp_total (live_keys base moment) key q))
  where
    agree : (same : Bool) (o : Option Entry) → shown moment (cond same None o) ≡ cond same None (shown moment o)
    agree true o = refl
    agree false o = refl

-- what is in time later is in time before
in_time_before : (first second : ℕ) → first ≤ second → (deadline : Option ℕ) → in_time second deadline ≡ true → in_time first deadline ≡ true
in_time_before first second before None late = refl
in_time_before first second before (Some deadline) late = le-leb first deadline (omega (arith, before, leb-true second deadline late))

pub live_twice : (base : Database) (first second : ℕ) → first ≤ second → live_keys (live_keys base first) second ≡ live_keys base second
live_twice base first second before =
    maps_alike _ _ (λ q. live_get (live_keys base first) second q ∙ ap (shown second) (live_get base first q) ∙ agree (get base q) ∙ sym (live_get base second q))
  where
    again : (e : Entry) (early late : Bool) → in_time first e.deadline ≡ early → in_time second e.deadline ≡ late → shown second (cond early (Some e) None) ≡ cond late (Some e) None
    again e true late is later = ap (λ b. cond b (Some e) None) later
    again e false true is later = absurd (let bad : in_time first e.deadline ≡ true = in_time_before first second before e.deadline later in cc)
    again e false false is later = refl

    agree : (o : Option Entry) → shown second (shown first o) ≡ shown second o
    agree None = refl
    agree (Some e) = again e (in_time first e.deadline) (in_time second e.deadline) refl refl

pub live_none : (moment : ℕ) → live_keys no_keys moment ≡ no_keys
live_none moment = maps_alike _ _ (λ q. live_get no_keys moment q ∙ ap (shown moment) (get-empty (slice_cmp nat_cmp) q) ∙ sym (get-empty (slice_cmp nat_cmp) q))

-- where each key is in time the database is live
pub live_all : (base : Database) (moment : ℕ) → ((key : List ℕ) → shown moment (get base key) ≡ get base key) → live_keys base moment ≡ base
live_all base moment all = maps_alike _ _ (λ q. live_get base moment q ∙ all q)

-- ---- worlds

pub live_with : (w : World) (base : Database) (moment : ℕ) → live (with_base w base) moment ≡ with_base (live w moment) (live_keys base moment)
live_with w base moment = λ i. record { bases = λ number. each (number == w.selected) number i; selected = w.selected }
  where
    each : (b : Bool) (number : ℕ) → live_keys (cond b base (w.bases number)) moment ≡ cond b (live_keys base moment) (live_keys (w.bases number) moment)
    each true number = refl
    each false number = refl

-- what is put at a key stands there, unless it is gone already
pub live_put : (w : World) (moment : ℕ) (key : List ℕ) (e : Entry) → live (put w key e) moment ≡ stand (live w moment) moment key e
live_put w moment key e = live_with w (insert (w.bases w.selected) key e) moment ∙ ap (with_base (live w moment)) (live_insert (w.bases w.selected) moment key e) ∙ chosen (in_time moment e.deadline)
  where
    chosen : (b : Bool) → with_base (live w moment) (cond b (insert (live_keys (w.bases w.selected) moment) key e) (map.remove (live_keys (w.bases w.selected) moment) key)) ≡ cond b
        (put (live w moment) key e) (remove (live w moment) key)
    chosen true = refl
    chosen false = refl

-- the same where it is in time
pub live_put_in_time : (w : World) (moment : ℕ) (key : List ℕ) (e : Entry) → in_time moment e.deadline ≡ true → live (put w key e) moment ≡ put (live w moment) key e
live_put_in_time w moment key e late = live_put w moment key e ∙ cond-true _ _ _ late

pub live_remove : (w : World) (moment : ℕ) (key : List ℕ) → live (remove w key) moment ≡ remove (live w moment) key
live_remove w moment key = live_with w (map.remove (w.bases w.selected) key) moment ∙ ap (with_base (live w moment)) (live_removed (w.bases w.selected) moment key)

-- what is live later is live of what was live before
pub live_later : (w : World) (first second : ℕ) → first ≤ second → live (live w first) second ≡ live w second
live_later w first second before = λ i. record { bases = λ number. live_twice (w.bases number) first second before i; selected = w.selected }

pub live_again : (w : World) (moment : ℕ) → live (live w moment) moment ≡ live w moment
live_again w moment = live_later w moment moment (omega arith)

pub look_live : (w : World) (moment : ℕ) (key : List ℕ) → look (live w moment) key ≡ shown moment (look w key)
look_live w moment key = live_get (w.bases w.selected) moment key

-- what stands at a key of the live world stands there, and is in time
pub look_in_time : (w : World) (moment : ℕ) (key : List ℕ) (e : Entry) → look w key ≡ Some e → in_time moment e.deadline ≡ true → look (live w moment) key ≡ Some e
look_in_time w moment key e is late = look_live w moment key ∙ ap (shown moment) is ∙ cond-true _ _ _ late

pub look_gone : (w : World) (moment : ℕ) (key : List ℕ) (e : Entry) → look w key ≡ Some e → in_time moment e.deadline ≡ false → look (live w moment) key ≡ None
look_gone w moment key e is late = look_live w moment key ∙ ap (shown moment) is ∙ cond-false _ _ _ late

pub look_absent : (w : World) (moment : ℕ) (key : List ℕ) → look w key ≡ None → look (live w moment) key ≡ None
look_absent w moment key is = look_live w moment key ∙ ap (shown moment) is

pub was_in_time : (w : World) (moment : ℕ) (key : List ℕ) (e : Entry) → look (live w moment) key ≡ Some e → (look w key ≡ Some e) × (in_time moment e.deadline ≡ true)
was_in_time w moment key e is = seen (look w key) (sym (look_live w moment key) ∙ is)
  where
    told : (f : Entry) (b : Bool) → in_time moment f.deadline ≡ b → cond b (Some f) None ≡ Some e → (Some f ≡ Some e) × (in_time moment e.deadline ≡ true)
    told f true late same = (same, (let one : f ≡ e = cc in ap (λ (x : Entry). in_time moment x.deadline) (sym one) ∙ late))
    told f false late same = cc

    seen : (o : Option Entry) → shown moment o ≡ Some e → (o ≡ Some e) × (in_time moment e.deadline ≡ true)
    seen None same = cc
    seen (Some f) same = told f (in_time moment f.deadline) refl same

-- a key that isn't there can't be removed
pub remove_absent : (w : World) (key : List ℕ) → look w key ≡ None → remove w key ≡ w
remove_absent w key none = λ i. record { bases = λ number. each number i; selected = w.selected }
  where
    stays : map.remove (w.bases w.selected) key ≡ w.bases w.selected
    stays = maps_alike _ _ (λ q. get-remove nat_list_cmp_total (w.bases w.selected) key q ∙ elim (cases_Bool (eq_by_cmp (slice_cmp nat_cmp) q key)) [
      | inl same ↦ cond-true _ _ _ same ∙ sym none ∙ ap (get (w.bases w.selected)) (sym (tied q same))
      | inr other ↦ cond-false _ _ _ other
    ])
      where
        equal : (o : Ordering) → is_eq o ≡ true → o ≡ Equal
        equal Less h = cc
        equal Equal h = refl
        equal Greater h = cc

        tied : (q : List ℕ) → eq_by_cmp (slice_cmp nat_cmp) q key ≡ true → q ≡ key
        tied q h = slice_cmp-IsAntisymmetric nat_cmp-IsAntisymmetric q key (equal (slice_cmp nat_cmp q key) h)

    each : (number : ℕ) → cond (number == w.selected) (map.remove (w.bases w.selected) key) (w.bases number) ≡ w.bases number
    each number = elim (cases_eq number w.selected) [
      | inl here ↦ cond-true _ _ _ (eq-eqb number w.selected here) ∙ stays ∙ ap w.bases (sym here)
      | inr other ↦ cond-false _ _ _ (ne_eqb number w.selected other)
    ]

-- what is put at a key stands there
pub look_put : (w : World) (key : List ℕ) (e : Entry) → look (put w key e) key ≡ Some e
look_put w key e = ap (λ (base : Database). get base key) (cond-true _ _ _ (eq-eqb w.selected w.selected refl)) ∙ get_inserted (w.bases w.selected) key e

-- what is put at a key takes the place of what was put there before
pub put_twice : (w : World) (key : List ℕ) (d e : Entry) → put (put w key d) key e ≡ put w key e
put_twice w key d e = λ i. record { bases = λ number. each number i; selected = w.selected }
  where
    each : (number : ℕ) → (put (put w key d) key e).bases number ≡ (put w key e).bases number
    each number = elim (cases_eq number w.selected) [
      | inl here ↦
          cond-true _ _ _ (eq-eqb number w.selected here)
          ∙ ap (λ base. insert base key e) (cond-true _ _ _ (eq-eqb w.selected w.selected refl))
          ∙ insert_over (w.bases w.selected) key d e
          ∙ sym (cond-true _ _ _ (eq-eqb number w.selected here))
      | inr other ↦ cond-false _ _ _ (ne_eqb number w.selected other) ∙ cond-false _ _ _ (ne_eqb number w.selected other) ∙ sym (cond-false _ _ _ (ne_eqb number w.selected other))
    ]
