-- What is seen of a world after a call, from what the call says of the whole one.
use Rattle.std.proofs.Common.{◌≡◌, inl, inr, ◌<◌, ℕ, Bool, true, false, cond, List, Option, Some, None, IfSome, IfNone, is_some, refl, sym, ap, ◌∙◌, arith}
use Rattle.std.specs.Prelude.{ℤ, pos, int_lt, nat_le}
use Rattle.std.proofs.lemmas.Bool.{cases_Bool, cond-false, leb-true}
use Rattle.plain_world.specs.Worlds.{World, Entry, in_time, live, look, put, remove, deadline_of}
use Rattle.plain_world.proofs.Lives.{shown, look_live, live_put_in_time, live_remove, was_in_time}
use Rattle.plain_model.specs.Deadlines.{expire, lasts_until, from_zero}
use Rattle.held.specs.Calls.{HasUntil}

pub not_le : (a b : ℕ) → b < a → nat_le a b ≡ false
not_le a b h = elim (cases_Bool (nat_le a b)) [ inl t ↦ absurd (omega (arith, h, leb-true a b t)) | inr f ↦ f ]

-- the deadline that is seen, of one that stands
pub seen_deadline : (w : World) (moment : ℕ) (key : List ℕ) (d : Option ℕ) → d ≡ deadline_of (look w key) → cond (in_time moment d) d None ≡ deadline_of (look (live w moment) key)
seen_deadline w moment key d is = ap (λ x. cond (in_time moment x) x None) is ∙ told (look w key) ∙ sym (ap deadline_of (look_live w moment key))
  where
    chosen : (e : Entry) (b : Bool) → cond b e.deadline None ≡ deadline_of (cond b (Some e) None)
    chosen e true = refl
    chosen e false = refl

    told : (o : Option Entry) → cond (in_time moment (deadline_of o)) (deadline_of o) None ≡ deadline_of (shown moment o)
    told None = refl
    told (Some e) = chosen e (in_time moment e.deadline)

-- a key that is seen gets a deadline that isn't past, or loses it
pub timed : (old new : World) (moment : ℕ) (key : List ℕ) (entry : Entry) (to : Option ℕ) → look (live old moment) key ≡ Some entry
    → ((e : Entry) → look old key ≡ Some e → new ≡ put old key (record { value = e.value; deadline = to })) → in_time moment to ≡ true
    → live new moment ≡ put (live old moment) key (record { value = entry.value; deadline = to })
timed old new moment key entry to seen clause late = ap (λ w. live w moment) (clause entry (was_in_time old moment key entry seen).0) ∙ live_put_in_time old moment key _ late

-- what is expired: the deadline is set, or the key is removed
module _ (old new : World) (moment : ℕ) (key : List ℕ) (due : ℤ) where
  pub expire_now : (entry : Entry) → look (live old moment) key ≡ Some entry → int_lt (pos moment) due ≡ false → new ≡ remove old key
      → live new moment ≡ expire (live old moment) moment key due (look (live old moment) key)
  expire_now entry seen past clause =
      ap (λ w. live w moment) clause ∙ live_remove old moment key
      ∙ sym (cond-false (int_lt (pos moment) due) (put (live old moment) key (lasts_until entry.value (from_zero due))) (remove (live old moment) key) past)
      ∙ sym (ap (expire (live old moment) moment key due) seen)

-- what is seen of a key that was sought
module _ (world : World) (key : List ℕ) (there : Option ℕ) (deadline : Option ℕ) (until : IfSome there (λ item. HasUntil world key deadline)) (gone : IfNone there (look world key ≡ None)) where
  -- whether it is there
  pub sought_there : is_some there ≡ is_some (look world key)
  sought_there = told there until gone
    where
      told : (o : Option ℕ) → IfSome o (λ item. HasUntil world key deadline) → IfNone o (look world key ≡ None) → is_some o ≡ is_some (look world key)
      told None u g = ap is_some (sym g)
      told (Some item) u g = ap is_some (sym u.stands)

  -- and its deadline
  pub sought_deadline : cond (is_some there) deadline None ≡ deadline_of (look world key)
  sought_deadline = told there until gone
    where
      told : (o : Option ℕ) → IfSome o (λ item. HasUntil world key deadline) → IfNone o (look world key ≡ None) → cond (is_some o) deadline None ≡ deadline_of (look world key)
      told None u g = ap deadline_of (sym g)
      told (Some item) u g = ap deadline_of (sym u.stands)
