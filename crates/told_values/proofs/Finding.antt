-- What is found at a key, as it is read out.
use Rattle.std.proofs.Common.{◌≡◌, ◌∙◌, ℕ, List, [], Option, Some, sym, ap, subst}
use Rattle.std.proofs.lemmas.Option.{same_Some}
use Rattle.blocks.specs.Blocks.{Blocks}
use Rattle.object_codec.specs.declared.limits.Limits.{Limits}
use Rattle.plain_world.specs.Worlds as model
use Rattle.plain_world.specs.Worlds.{Entry, live, look_in}
use Rattle.held.specs.Calls.{HasUntil}
use Rattle.keyspace.specs.declared.value.Value.{Value}
use Rattle.keyspace.specs.Databases.{Bases, means}
use Rattle.keyspace.specs.Calls.{Found}
use Rattle.keyspace.specs.Sound.{IsIntact}
use Rattle.keyspace.specs.Values.{value_of, IsSound}

abbrev pub entry_of : model.Value → Option ℕ → Entry
entry_of value deadline = record { value = value; deadline = deadline }

module _ (bases : Bases) (m : Blocks) (db : ℕ) (key : List ℕ) (moment : ℕ) (value : Value) (found : Found bases m db key moment value) where
  -- the value that is found is sound
  pub found_sound : IsIntact bases m [] → (limits : Limits) × (seed : ℕ) × IsSound limits seed m value
  found_sound intact =
      let has = found.has in
      (bases.limits, bases.seed, subst (IsSound bases.limits bases.seed m) has.is (intact.arranged.values db has.at has.element has.found))

  -- and stands there with the deadline that was sought
  pub found_entry : (deadline : Option ℕ) → HasUntil (live (means db bases m) moment) key deadline
      → look_in (live (means 0 bases m) moment) db key ≡ Some (record { value = value_of m value; deadline = deadline })
  found_entry deadline until =
      let both : ◌≡◌ {A = Entry} (record { value = value_of m value; deadline = found.deadline }) (record { value = until.value; deadline = deadline }) =
      same_Some _ _ (sym found.stands ∙ until.stands) in
      found.stands ∙ ap (λ (d : Option ℕ). Some (record { value = value_of m value; deadline = d })) (ap (λ (e : Entry). e.deadline) both)

  -- what was read out of it is what stands there
  pub told_entry : (deadline : Option ℕ) (read : model.Value) → HasUntil (live (means db bases m) moment) key deadline → read ≡ value_of m value
      → Some (entry_of read deadline) ≡ look_in (live (means 0 bases m) moment) db key
  told_entry deadline read until is = ap (λ (v : model.Value). Some (entry_of v deadline)) is ∙ sym (found_entry deadline until)
