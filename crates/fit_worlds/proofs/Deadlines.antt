-- Deadlines as times give them are fit.
use Rattle.std.proofs.Common.{◌≡◌, ℕ, ◌<◌, ◌^◌, List, true, false, Option, Some, None, refl, arith}
use Rattle.std.specs.Prelude.{int_lt, is_some, ℤ, pos, negsuc, if◌then◌else◌}
use Rattle.std.proofs.lemmas.Bool.{ltb-true}
use Rattle.int_text.specs.Decimal.{is_i64}
use Rattle.plain_world.specs.Worlds.{World, Entry, look, put, remove}
use Rattle.plain_world.specs.declared.refusal.Refusal.TheVariants.{InvalidExpireTime}
use Rattle.plain_model.specs.Outcomes.{Outcome, refused}
use Rattle.plain_model.specs.Deadlines.{due, with_due, from_zero, lasts_until, lasts, expire, persist}
use Rattle.plain_model.specs.declared.times.Time.{Time}
use Rattle.fit_worlds.specs.Fit.{IsFit}
use Rattle.fit_worlds.proofs.Worlds.{fit_put, fit_remove, fit_there}

due_fit : (n : ℤ) → is_i64 n ≡ true → from_zero n < 2 ^ 63
due_fit (pos n) is = ltb-true n (2 ^ 63) is
due_fit (negsuc n) is = omega arith

-- what is made of a deadline that 64 bits hold is fit, if it is so of each
pub fit_due : (old : World) → IsFit old → (moment : ℕ) (time : Time) (answer : ℤ → Outcome) → ((deadline : ℤ) → from_zero deadline < 2 ^ 63 → IsFit (answer deadline).world)
    → IsFit (with_due old moment time answer).world
fit_due old fit moment time answer h =
    let n = due moment time in
    (elim (is_i64 n) as (λ b. is_i64 n ≡ b → IsFit (if b then answer n else refused InvalidExpireTime old).world) [
      | true ↦ λ is. h n (due_fit n is)
      | false ↦ λ other. fit
    ]) refl

pub fit_expire : (old : World) → IsFit old → (moment : ℕ) (key : List ℕ) (deadline : ℤ) → from_zero deadline < 2 ^ 63 → (o : Option Entry) → look old key ≡ o → IsFit (expire old moment key deadline o)
fit_expire old fit moment key deadline within None is = fit
fit_expire old fit moment key deadline within (Some e) is =
    elim (int_lt (pos moment) deadline) as (λ b. IsFit (if b then put old key (lasts_until e.value (from_zero deadline)) else remove old key)) [
      | true ↦
          let there = fit_there old fit key e is in fit_put old key (lasts_until e.value (from_zero deadline)) fit (record { short = there.short; value = there.value; deadline = within })
      | false ↦ fit_remove old key fit
    ]

pub fit_persist : (old : World) → IsFit old → (key : List ℕ) (o : Option Entry) → look old key ≡ o → IsFit (persist old key o)
fit_persist old fit key None is = fit
fit_persist old fit key (Some e) is =
    elim (is_some e.deadline) as (λ b. IsFit (if b then put old key (lasts e.value) else old)) [
      | true ↦ let there = fit_there old fit key e is in fit_put old key (lasts e.value) fit (record { short = there.short; value = there.value; deadline = tt })
      | false ↦ fit
    ]
