-- A request is answered, and what is planned is done.
use Rattle.std.proofs.Common.{◌≡◌, ℕ, List, Option, Bool, true, false, refl, sym, subst}
use Rattle.outside.specs.Clocks.{Answers}
use Rattle.outside.specs.Pacing.{PacerSeen}
use Rattle.outside.specs.declared.pacing.Plan.{Plan}
use Rattle.plain_world.specs.Words.{Words}
use Rattle.plain_world.specs.declared.reply.Part.{Part}
use Rattle.serving.specs.Timed.{Timed, ReadsMoment, Works, Rests, TimedReply, TimedStep}

module _ {E : Type 0} (executes : ℕ → E → Words → List Part → E → Type 0) (works : ℕ → Plan → E → E → Type 0) (quits : Words → Bool) (old mid : E) (clock clock' : Option Answers)
    (pacers : List PacerSeen) (words : Words) (reply : List Part) (moment : ℕ)
    (read : ReadsMoment clock clock' moment) (answers : executes moment old words reply mid) where
  abbrev pub first : Timed E
  first = record { engine = old; clock = clock; pacers = pacers }

  abbrev pub here : Timed E
  here = record { engine = mid; clock = clock'; pacers = pacers }

  replied : TimedReply executes works quits moment first words reply here
  replied = record { read = read; answers = answers; pacers = refl }

  -- it ends the run
  pub step_quits : quits words ≡ true → TimedStep executes works quits first words reply here
  step_quits ends = record { moment = moment; mid = here; answered = replied; rests = subst (λ b. Rests executes works quits b moment here here) (sym ends) refl }

  -- it goes on
  pub step_works : (new : E) (pacers' : List PacerSeen) → quits words ≡ false → Works works moment mid new pacers pacers'
      → TimedStep executes works quits first words reply (record { engine = new; clock = clock'; pacers = pacers' })
  step_works new pacers' goes w =
      let there : Timed E = record { engine = new; clock = clock'; pacers = pacers' } in
      record { moment = moment; mid = here; answered = replied; rests = subst (λ b. Rests executes works quits b moment here there) (sym goes) (w, refl) }
