-- Keys that move to other keys.
use Rattle.std.proofs.Common.{◌≡◌, ℕ, List, [], ◌∷◌, Some, true, false, Result, Ok, Err, IfOk, sym, ap, ◌∙◌}
use Rattle.std.specs.Prelude.{pos, is_some, ◌==◌}
use Rattle.std.proofs.lemmas.Bool.{cond-false}
use Rattle.plain_world.specs.Worlds.{World, Entry, live, look, look_in, remove, selecting, put_in, in_time}
use Rattle.plain_world.specs.declared.reply.Part.{Part}
use Rattle.plain_world.specs.declared.reply.Part.TheVariants.{Number}
use Rattle.plain_world.specs.declared.refusal.Refusal.TheVariants.{SameSourceAndDestination}
use Rattle.plain_model.specs.Outcomes.{leaves, refused}
use Rattle.plain_model.specs.KeySteps.{counts, move, move_outcome}
use Rattle.plain_world.proofs.Lives.{live_put_in_time, live_remove, was_in_time}
use Rattle.cmd_keys.proofs.KeyLemmas.{some_entry}

-- what is put in a database of the live world
pub live_put_in : (w : World) (number moment : ℕ) (key : List ℕ) (entry : Entry) → in_time moment entry.deadline ≡ true
    → live (put_in w number key entry) moment ≡ put_in (live w moment) number key entry
live_put_in w number moment key entry late = ap (λ u. selecting u w.selected) (live_put_in_time (selecting w number) moment key entry late)

-- what stands at a key of the live world moves
pub seen_moved : (old new : World) (moment : ℕ) (from to : List ℕ) (number : ℕ) (entry : Entry) → look (live old moment) from ≡ Some entry
    → ((e : Entry) → look old from ≡ Some e → new ≡ put_in (remove old from) number to e) → live new moment ≡ put_in (remove (live old moment) from) number to entry
seen_moved old new moment from to number entry seen clause =
    let was = was_in_time old moment from entry seen in
    ap (λ w. live w moment) (clause entry was.0) ∙ live_put_in (remove old from) number moment to entry was.1 ∙ ap (λ w. put_in w number to entry) (live_remove old moment from)

-- nothing stands at the key in the other database, and what stands at it moves there
pub move_done : {E : Type 0} (old new : World) (key : List ℕ) (number : ℕ) (result : Result (List Part) E) → (number == old.selected) ≡ false → is_some (look old key) ≡ true
    → is_some (look_in old number key) ≡ false
    → ((entry : Entry) → look old key ≡ Some entry → new ≡ put_in (remove old key) number key entry) → IfOk result (λ reply. reply ≡ Number (pos 1) ∷ [])
    → IfOk result (λ reply. move_outcome old key number ≡ leaves reply new)
move_done old new key number (Ok reply) other there free world told =
    let e = some_entry (look old key) there in
    cond-false (number == old.selected) (refused SameSourceAndDestination old) (move old key number (look old key)) other
    ∙ ap (move old key number) e.1
    ∙ cond-false (is_some (look_in old number key)) (counts 0 old) (counts 1 (put_in (remove old key) number key e.0)) free
    ∙ ap (λ r. leaves r (put_in (remove old key) number key e.0)) (sym told) ∙ ap (leaves reply) (sym (world e.0 e.1))
move_done old new key number (Err x) other there free world told = tt
