-- What a command leaves where it doesn't write.
use Rattle.std.proofs.Common.{◌≡◌, inl, inr, ℕ, List, ap, ◌∙◌}
use Rattle.plain_world.specs.Worlds.{World, look_in, Database}
use Rattle.std.specs.FinMap.{get}
use Rattle.std.proofs.lemmas.Bool.{cond-false, ne_eqb}
use Rattle.plain_world.specs.declared.reply.Part.{Part}
use Rattle.plain_model.specs.Steps.{may}
use Rattle.plain_model.specs.ConnectionSteps.{may_connection}
use Rattle.plain_model.specs.declared.command.Command.{Command}
use Rattle.plain_model.specs.declared.command.Command.TheVariants.{Strings, Lists, Sets, Hashes, Zsets, Streams, Keys, Connection}
use Rattle.plain_model.specs.declared.connection.ConnectionCommand.{ConnectionCommand}
use Rattle.plain_model.specs.declared.connection.ConnectionCommand.TheVariants as connection
use Rattle.written_keys.specs.Written.{IsEmptied, emptied_here, IsWritten}
use Rattle.written_keys.proofs.Values.{strings_leave, keys_stay}
use Rattle.written_keys.proofs.Collections.{lists_leave, sets_stay, hashes_stay, zsets_stay, streams_leave}

module _ (d : ℕ) (q : List ℕ) (old : World) (moment : ℕ) where
  connection_stays : (command : ConnectionCommand) (reply : List Part) (new : World) → may_connection old moment command reply new
      → (IsEmptied (emptied_here command) old.selected d → ⊥) → look_in new d q ≡ look_in old d q
  connection_stays connection.FlushDb reply new m off =
      ap (λ w. look_in w d q) m.1 ∙ ap (λ (b : Database). get b q) (cond-false _ _ _ (ne_eqb d old.selected off))
  connection_stays connection.FlushAll reply new m off = absurd (off tt)
  connection_stays other reply new m off = ap (λ w. look_in w d q) m.1

  pub stays : (seed : ℕ) (command : Command) (reply : List Part) (new : World) → may seed old moment command reply new → (IsWritten old.selected command d q → ⊥)
      → look_in new d q ≡ look_in old d q
  stays seed (Strings command) reply new m off = ap (λ w. look_in w d q) m.1 ∙ (strings_leave d q old moment command (λ c. off (inl c))).same
  stays seed (Lists command) reply new m off = ap (λ w. look_in w d q) m.1 ∙ (lists_leave d q old command (λ c. off (inl c))).same
  stays seed (Sets command) reply new m off = sets_stay d q old seed command reply new m (λ c. off (inl c))
  stays seed (Hashes command) reply new m off = hashes_stay d q old seed command reply new m (λ c. off (inl c))
  stays seed (Zsets command) reply new m off = zsets_stay d q old seed command reply new m (λ c. off (inl c))
  stays seed (Streams command) reply new m off = ap (λ w. look_in w d q) m.1 ∙ (streams_leave d q old moment command (λ c. off (inl c))).same
  stays seed (Keys command) reply new m off = keys_stay d q old moment seed command reply new m (λ c. off (inl c))
  stays seed (Connection command) reply new m off = connection_stays command reply new m (λ e. off (inr e))
