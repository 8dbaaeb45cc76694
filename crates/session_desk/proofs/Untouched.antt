-- What an engine leaves where a request doesn't write.
use Rattle.std.proofs.Common.{◌≡◌, ℕ, max, List, [], ◌∷◌, Option, None, Some, Result, Ok, Err, sym, ap, ◌∙◌, subst, arith}
use Rattle.std.specs.Prelude.{Bool}
use Rattle.outside.specs.declared.pacing.Plan.{Plan}
use Rattle.plain_world.proofs.Lives.{shown, live_later, look_live}
use Rattle.plain_world.specs.Words.{Words}
use Rattle.plain_world.specs.Worlds.{World, live, look_in, selecting}
use Rattle.plain_world.specs.declared.refusal.Refusal.{Refusal}
use Rattle.plain_world.specs.declared.reply.Part.{Part}
use Rattle.plain_model.specs.Meant.{meant}
use Rattle.plain_model.specs.Outcomes.{IsRefusal}
use Rattle.plain_model.specs.Steps.{may_meant}
use Rattle.plain_model.specs.declared.command.Command.{Command}
use Rattle.written_keys.proofs.Staying.{stays}
use Rattle.session_desk.specs.Engines.{View, seen, IsModelled}
use Rattle.plain_world.proofs.Containing.{contains_first, contains_later}
use Rattle.serving.specs.Path.{path}
use Rattle.session_desk.specs.Answered.{RanQueue}
use Rattle.session_desk.specs.Writing.{places_meant, emptied_meant, IsIn, IsMeant, MayWrite, SomeWrite}

-- of a step of the model, where this database is selected
meant_stays : (seed : ℕ) (old : World) (moment : ℕ) (asked : Result Command Refusal) (reply : List Part) (new : World) → may_meant seed old moment asked reply new → (db : ℕ) (key : List ℕ)
    → (IsIn (places_meant old.selected asked) (emptied_meant asked) old.selected db key → ⊥) → look_in new db key ≡ look_in old db key
meant_stays seed old moment (Ok command) reply new m db key off = stays db key old moment seed command reply new m.0 off
meant_stays seed old moment (Err refusal) reply new m db key off = ap (λ w. look_in w db key) (m.1 (subst IsRefusal (sym m.0) tt))

-- what is seen in two worlds that hold the same at a key now is the same later
later_same : (one other : World) (now : ℕ) (db : ℕ) (key : List ℕ) → look_in one db key ≡ look_in (live other now) db key → look_in (live one now) db key ≡ look_in (live other now) db key
later_same one other now db key same =
    look_live (selecting one db) now key ∙ ap (shown now) same ∙ sym (look_live (selecting (live other now) db) now key)
    ∙ ap (λ w. look_in w db key) (live_later other now now (omega arith))

module _ {E : Type 0} (v : View E) (executes : ℕ → E → Words → List Part → E → Type 0) (works : ℕ → Plan → E → E → Type 0) (quits : Words → Bool) (modelled : IsModelled v executes works quits) where
  -- what a step doesn't write stands as it stood, but for what is gone by now
  step_stays : (moment : ℕ) (old new : E) (words : Words) (reply : List Part) → executes moment old words reply new → (db : ℕ) (key : List ℕ)
      → (IsMeant (v.world old).selected words db key → ⊥) → seen v (max (v.last new) moment) new db key ≡ seen v (max (v.last old) moment) old db key
  step_stays moment old new words reply x db key off =
      let s = modelled.steps moment old words reply new x in
      let now = v.last new in
      let at : now ≡ max (v.last old) moment = s.at in
      let after : max now moment ≡ now = omega (arith, at) in
      let there : look_in (v.world new) db key ≡ look_in (live (v.world old) now) db key = meant_stays (v.seed old) (live (v.world old) now) now (meant words) reply (v.world new) s.ran db key off in
      ap (λ m. seen v m new db key) after ∙ later_same (v.world new) (v.world old) now db key there ∙ ap (λ m. seen v m old db key) at

  -- nor does it matter which database is selected
  chosen_stays : (moment : ℕ) (old : E) (selected db : ℕ) (key : List ℕ) → seen v (max (v.last (v.choose old selected)) moment) (v.choose old selected) db key ≡ seen v (max (v.last old) moment) old db key
  chosen_stays moment old selected db key =
      let c = modelled.chooses old selected in
      ap (λ w. look_in (live w (max (v.last (v.choose old selected)) moment)) db key) c.is ∙ ap (λ n. seen v (max n moment) old db key) c.at

  pub untouched : (moment : ℕ) (old new : E) (selected : ℕ) (words : Words) (reply : List Part) → executes moment (v.choose old selected) words reply new → (db : ℕ) (key : List ℕ)
      → (IsMeant selected words db key → ⊥) → seen v (max (v.last new) moment) new db key ≡ seen v (max (v.last old) moment) old db key
  untouched moment old new selected words reply x db key off =
      step_stays moment (v.choose old selected) new words reply x db key (subst (λ w. IsMeant w.selected words db key → ⊥) (sym (modelled.chooses old selected).is) off)
      ∙ chosen_stays moment old selected db key

  path_stays : (moment : ℕ) (asked : List Words) (replies : List (List Part)) (first last : E) → path (executes moment) first asked replies last → (db : ℕ) (key : List ℕ)
      → (MayWrite asked db key → ⊥) → seen v (max (v.last last) moment) last db key ≡ seen v (max (v.last first) moment) first db key
  path_stays moment [] [] first last p db key off = ap (λ e. seen v (max (v.last e) moment) e db key) p
  path_stays moment [] (reply ∷ replies) first last p db key off = absurd p
  path_stays moment (words ∷ asked) [] first last p db key off = absurd p
  path_stays moment (words ∷ asked) (reply ∷ replies) first last p db key off =
      let mid : E = p.0 in
      path_stays moment asked replies mid last p.2 db key
      (λ m. off (record { words = m.words; is = contains_later words m.words asked m.is; selected = m.selected; writes = m.writes }))
      ∙ step_stays moment first mid words reply p.1 db key (λ m. off (record { words = words; is = contains_first words asked; selected = (v.world first).selected; writes = m }))

  -- what queued requests that were run don't write
  pub queue_stays : (moment : ℕ) (old new : E) (queue : Option (List (List ℕ))) → RanQueue v executes moment old queue new → (db : ℕ) (key : List ℕ) → (SomeWrite queue db key → ⊥)
      → seen v (max (v.last new) moment) new db key ≡ seen v (max (v.last old) moment) old db key
  queue_stays moment old new None r db key off = absurd r
  queue_stays moment old new (Some kept) r db key off =
      path_stays moment r.asked r.replies (v.choose old r.db) new r.way db key (λ m. off (record { asked = r.asked; are = r.are; may = m })) ∙ chosen_stays moment old r.db db key
