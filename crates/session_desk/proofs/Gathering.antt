-- The keys that queued requests name.
use Rattle.std.proofs.Common.{◌≡◌, inl, inr, ℕ, true, false, List, [], ◌∷◌, ◌++◌, map, Result, Ok, Err, ◌<◌, refl, sym, subst, arith}
use Rattle.std.specs.List.{Contains}
use Rattle.std.proofs.lemmas.Bool.{cases_Bool}
use Rattle.std.proofs.lemmas.List.Elements.{Contains-append_left, Contains-append_right}
use Rattle.plain_world.proofs.Containing.{contains_cases}
use Rattle.plain_world.specs.Words.{Words}
use Rattle.plain_world.specs.declared.refusal.Refusal.{Refusal}
use Rattle.plain_world.specs.declared.reply.Part.{Part}
use Rattle.plain_model.specs.Meant.{meant}
use Rattle.plain_model.specs.declared.command.Command.{Command}
use Rattle.serving.specs.Path.{path}
use Rattle.written_keys.specs.Written.{at, key_of, IsEmptied}
use Rattle.written_keys.specs.declared.emptying.Emptied.{Emptied}
use Rattle.written_keys.specs.declared.emptying.Emptied.TheVariants.{Nothing}
use Rattle.written_keys.proofs.Keys.{same_keys}
use Rattle.session_desk.specs.declared.naming.Names.{Names}
use Rattle.session_desk.specs.Writing.{texts_of, places_meant, emptied_meant, IsMeant, IsNamed, Gathers, MayWrite}
use Rattle.session_desk.proofs.Looking.{contains_map}

-- the same keys are meant, whichever database is selected
same_meant : (a b : ℕ) (asked : Result Command Refusal) → map key_of (places_meant a asked) ≡ map key_of (places_meant b asked)
same_meant a b (Ok command) = same_keys a b command
same_meant a b (Err refusal) = refl

none_emptied : (emptied : Emptied) (selected db : ℕ) → emptied ≡ Nothing → IsEmptied emptied selected db → ⊥
none_emptied emptied selected db is e = subst (λ x. IsEmptied x selected db) is e

-- those of one request
pub gathers : (old new : Names) (words : Words) → texts_of new.keys.items ≡ texts_of old.keys.items ++ map key_of (places_meant 0 (meant words)) → (old.empties ≡ true → new.empties ≡ true)
    → (new.empties ≡ false → emptied_meant (meant words) ≡ Nothing) → Gathers old words new
gathers old new words keys kept none = record { kept = still; named = named }
  where
    still : (key : List ℕ) → IsNamed old key → IsNamed new key
    still key (inl all) = inl (kept all)
    still key (inr c) = inr (subst (λ l. Contains l key) (sym keys) (Contains-append_left (texts_of old.keys.items) (map key_of (places_meant 0 (meant words))) key c))

    named : (selected db : ℕ) (key : List ℕ) → IsMeant selected words db key → IsNamed new key
    named selected db key (inl c) = inr (subst (λ l. Contains l key) (sym keys) (Contains-append_right (texts_of old.keys.items) (map key_of (places_meant 0 (meant words))) key
        (subst (λ l. Contains l key) (same_meant selected 0 (meant words)) (contains_map key_of (places_meant selected (meant words)) (at db key) c))))
    named selected db key (inr e) = elim (cases_Bool new.empties) [
      | inl all ↦ inl all
      | inr few ↦ absurd (none_emptied (emptied_meant (meant words)) selected db (none few) e)
    ]

-- those of requests, one behind the other
still_named : (asked : List Words) (replies : List (List Part)) (old new : Names) → path (λ o w r n. Gathers o w n) old asked replies new → (key : List ℕ) → IsNamed old key → IsNamed new key
still_named [] [] old new p key n = subst (λ (x : Names). IsNamed x key) (sym p) n
still_named [] (reply ∷ replies) old new p key n = absurd p
still_named (words ∷ asked) [] old new p key n = absurd p
still_named (words ∷ asked) (reply ∷ replies) old new p key n = still_named asked replies p.0 new p.2 key (p.1.kept key n)

pub all_named : (asked : List Words) (replies : List (List Part)) (old new : Names) → path (λ o w r n. Gathers o w n) old asked replies new → (db : ℕ) (key : List ℕ) → MayWrite asked db key
    → IsNamed new key
all_named [] [] old new p db key m = absurd (let below : m.is.0 < 0 = m.is.1 in omega (arith, below))
all_named [] (reply ∷ replies) old new p db key m = absurd p
all_named (words ∷ asked) [] old new p db key m = absurd p
all_named (words ∷ asked) (reply ∷ replies) old new p db key m = elim (contains_cases words m.words asked m.is) [
  | inl same ↦ still_named asked replies p.0 new p.2 key (p.1.named m.selected db key (subst (λ w. IsMeant m.selected w db key) (sym same) m.writes))
  | inr later ↦ all_named asked replies p.0 new p.2 db key (record { words = m.words; is = later; selected = m.selected; writes = m.writes })
]
