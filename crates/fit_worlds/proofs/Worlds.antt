-- A fit world, where a key changes and as time passes.
use Rattle.std.proofs.Common.{◌≡◌, ℕ, Bool, true, false, cond, List, [], ◌∷◌, Option, Some, None, refl, sym, subst, ◌∙◌}
use Rattle.std.specs.Prelude.{◌==◌}
use Rattle.std.specs.List.{AllByRecursion}
use Rattle.std.specs.FinMap.{get, insert}
use Rattle.std.specs.FinMap as finite
use Rattle.plain_world.specs.Worlds.{World, Value, Entry, Database, new_world, in_time, is_there, live, look, with_base, put, remove, stand, deadline_of, selecting, put_in}
use Rattle.plain_world.specs.declared.reply.Part.{Part}
use Rattle.plain_world.proofs.Lives.{live_get}
use Rattle.plain_model.specs.Outcomes.{Outcome, tells, IsOutcome}
use Rattle.plain_model.specs.OfType.{of_type, on_type, may_tell_of, may_tell, may_do_of, may_do, source, with_source, sources, keep}
use Rattle.fit_worlds.specs.Fit.{EachIs, IsShort, IsFitValue, IsFitDeadline, IsFitKey, IsFit}
use Rattle.fit_worlds.proofs.Maps.{each_empty, each_insert, each_remove}

pub fit_new : IsFit new_world
fit_new = record { each = λ number. each_empty IsFitKey }

pub fit_with : (w : World) (base : Database) → IsFit w → EachIs IsFitKey base → IsFit (with_base w base)
fit_with w base fit is = record { each = λ number. chosen number (number == w.selected) }
  where
    chosen : (number : ℕ) (b : Bool) → EachIs IsFitKey (cond b base (w.bases number))
    chosen number true = is
    chosen number false = fit.each number

pub fit_put : (w : World) (key : List ℕ) (e : Entry) → IsFit w → IsFitKey key e → IsFit (put w key e)
fit_put w key e fit is = fit_with w (insert (w.bases w.selected) key e) fit (each_insert IsFitKey (w.bases w.selected) key e (fit.each w.selected) is)

pub fit_remove : (w : World) (key : List ℕ) → IsFit w → IsFit (remove w key)
fit_remove w key fit = fit_with w (finite.remove (w.bases w.selected) key) fit (each_remove IsFitKey (w.bases w.selected) key (fit.each w.selected))

pub fit_selecting : (w : World) (number : ℕ) → IsFit w → IsFit (selecting w number)
fit_selecting w number fit = record { each = fit.each }

pub fit_put_in : (w : World) (number : ℕ) (key : List ℕ) (e : Entry) → IsFit w → IsFitKey key e → IsFit (put_in w number key e)
fit_put_in w number key e fit is =
    fit_selecting (put (selecting w number) key e) w.selected (fit_put (selecting w number) key e (fit_selecting w number fit) is)

pub fit_stand : (w : World) (moment : ℕ) (key : List ℕ) (e : Entry) → IsFit w → IsFitKey key e → IsFit (stand w moment key e)
fit_stand w moment key e fit is =
    elim (in_time moment e.deadline) as (λ b. IsFit (cond b (put w key e) (remove w key))) [ true ↦ fit_put w key e fit is | false ↦ fit_remove w key fit ]

-- time passes
pub fit_live : (w : World) (moment : ℕ) → IsFit w → IsFit (live w moment)
fit_live w moment fit = record { each = λ number key entry at. seen number key entry (get (w.bases number) key) refl (sym (live_get (w.bases number) moment key) ∙ at) }
  where
    seen : (number : ℕ) (key : List ℕ) (entry : Entry) (o : Option Entry) → get (w.bases number) key ≡ o → cond (is_there moment o) o None ≡ Some entry → IsFitKey key entry
    seen number key entry None is e = cc
    seen number key entry (Some other) is e =
        (elim (in_time moment other.deadline) as (λ b. cond b (Some other) None ≡ Some entry → IsFitKey key entry) [
          | true ↦ λ f. fit.each number key entry (is ∙ f)
          | false ↦ λ f. cc
        ]) e

module _ (old : World) (fit : IsFit old) where
  -- what stands at a key
  pub fit_there : (key : List ℕ) (e : Entry) → look old key ≡ Some e → IsFitKey key e
  fit_there = fit.each old.selected

  pub fit_deadline : (key : List ℕ) → IsFitDeadline (deadline_of (look old key))
  fit_deadline key = at (look old key) refl
    where
      at : (o : Option Entry) → look old key ≡ o → IsFitDeadline (deadline_of o)
      at None is = tt
      at (Some e) is = (fit_there key e is).deadline

  -- a value stands at a key, with the deadline that is there
  pub fit_keep : (key : List ℕ) (value : Value) → IsShort key → IsFitValue value → IsFit (keep old key value)
  fit_keep key value short is =
      fit_put old key (record { value = value; deadline = deadline_of (look old key) }) fit (record { short = short; value = is; deadline = fit_deadline key })

  -- What is made of a value of one type is fit, if it is so of each such value at a key, and of none.
  pub fit_on_type : {A : Type 0} (in_value : Value → Option A) (Is : A → Type 0) → ((v : Value) (a : A) → in_value v ≡ Some a → IsFitValue v → Is a)
      → (key : List ℕ) (answer : Option A → Outcome) → IsFit (answer None).world → ((a : A) → IsShort key → Is a → IsFit (answer (Some a)).world)
      → IsFit (on_type in_value old (look old key) answer).world
  fit_on_type {A} in_value Is are key answer none some = at (look old key) refl
    where
      own : (e : Entry) → look old key ≡ Some e → (o : Option A) → in_value e.value ≡ o → IsFit (of_type old o answer).world
      own e is None i = fit
      own e is (Some a) i = some a (fit_there key e is).short (are e.value a i (fit_there key e is).value)

      at : (o : Option Entry) → look old key ≡ o → IsFit (on_type in_value old o answer).world
      at None is = none
      at (Some e) is = own e is (in_value e.value) refl

  -- where a value at a key is told of, the world stays
  pub fit_told : {A : Type 0} (in_value : Value → Option A) (key : List ℕ) (told : Option A → List Part) → IsFit (on_type in_value old (look old key) (λ before. tells (told before) old)).world
  fit_told {A} in_value key told = at (look old key)
    where
      own : (o : Option A) → IsFit (of_type old o (λ before. tells (told before) old)).world
      own None = fit
      own (Some a) = fit

      at : (o : Option Entry) → IsFit (on_type in_value old o (λ before. tells (told before) old)).world
      at None = fit
      at (Some e) = own (in_value e.value)

  -- where one of several replies is given that tell of a value, the world stays
  pub fit_may_tell_of : {A : Type 0} (own : Option A) (told : Option A → List Part → Type 0) (reply : List Part) (new : World) → may_tell_of old own told reply new → IsFit new
  fit_may_tell_of None told reply new m = subst IsFit (sym m.1) fit
  fit_may_tell_of (Some a) told reply new m = subst IsFit (sym m.1) fit

  pub fit_may_tell : {A : Type 0} (in_value : Value → Option A) (key : List ℕ) (told : Option A → List Part → Type 0) (reply : List Part) (new : World)
      → may_tell in_value old (look old key) told reply new → IsFit new
  fit_may_tell in_value key told reply new m = at (look old key) m
    where
      at : (o : Option Entry) → may_tell in_value old o told reply new → IsFit new
      at None m = subst IsFit (sym m.1) fit
      at (Some e) m = fit_may_tell_of (in_value e.value) told reply new m

  -- what is left where the reply that is given decides that too
  pub fit_may_do_of : {A : Type 0} (own : Option A) (does : Option A → List Part → World → Type 0) (reply : List Part) (new : World)
      → ((a : A) → own ≡ Some a → does (Some a) reply new → IsFit new) → may_do_of old own does reply new → IsFit new
  fit_may_do_of None does reply new some m = subst IsFit (sym m.1) fit
  fit_may_do_of (Some a) does reply new some m = some a refl m

  pub fit_may_do : {A : Type 0} (in_value : Value → Option A) (Is : A → Type 0) → ((v : Value) (a : A) → in_value v ≡ Some a → IsFitValue v → Is a)
      → (key : List ℕ) (does : Option A → List Part → World → Type 0) (reply : List Part) (new : World) → (does None reply new → IsFit new)
      → ((a : A) → IsShort key → Is a → does (Some a) reply new → IsFit new) → may_do in_value old (look old key) does reply new → IsFit new
  fit_may_do in_value Is are key does reply new none some m = at (look old key) refl m
    where
      at : (o : Option Entry) → look old key ≡ o → may_do in_value old o does reply new → IsFit new
      at None is m = none m
      at (Some e) is m =
          fit_may_do_of (in_value e.value) does reply new (λ a i d. some a (fit_there key e is).short (are e.value a i (fit_there key e is).value) d) m

  -- what keys give to a join
  pub fit_sources : {A : Type 0} (in_value : Value → Option A) (missing : A) (Is : A → Type 0) → ((v : Value) (a : A) → in_value v ≡ Some a → IsFitValue v → Is a) → Is missing
      → (keys : List (List ℕ)) (own : List A) → sources in_value missing old keys ≡ Some own → AllByRecursion Is own
  fit_sources {A} in_value missing Is are none [] own e = let one : [] ≡ own = cc in subst (AllByRecursion Is) one tt
  fit_sources {A} in_value missing Is are none (key ∷ keys) own e =
      with (source in_value missing (look old key)) (sources in_value missing old keys) (λ a is. first (look old key) refl a is) (fit_sources in_value missing Is are none keys) e
    where
      first : (o : Option Entry) → look old key ≡ o → (a : A) → source in_value missing o ≡ Some a → Is a
      first None there a is = let one : missing ≡ a = cc in subst Is one none
      first (Some entry) there a is = are entry.value a is (fit_there key entry there).value

      with : (o : Option A) (rest : Option (List A)) → ((a : A) → o ≡ Some a → Is a) → ((more : List A) → rest ≡ Some more → AllByRecursion Is more) → with_source o rest ≡ Some own
          → AllByRecursion Is own
      with None rest f g e = cc
      with (Some a) None f g e = cc
      with (Some a) (Some more) f g e = let one : a ∷ more ≡ own = cc in subst (AllByRecursion Is) one (f a refl, g more refl)

-- the world that an outcome leaves
pub fit_outcome : (outcome : Outcome) (reply : List Part) (new : World) → IsFit outcome.world → IsOutcome outcome reply new → IsFit new
fit_outcome outcome reply new fit is = subst IsFit (sym is.1) fit

-- a world that stays
pub same_fit : (old new : World) → IsFit old → new ≡ old → IsFit new
same_fit old new fit is = subst IsFit (sym is) fit
