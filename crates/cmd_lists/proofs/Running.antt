-- A command on lists ran.
use Rattle.std.proofs.Common.{◌≡◌, ◌<◌, ℕ, List, [], length, Result, IfOk, refl, sym, ap, subst, ◌∙◌, Ok, Err}
use Rattle.blocks.specs.Blocks.{Blocks}
use Rattle.plain_world.specs.Worlds.{World}
use Rattle.plain_world.specs.declared.reply.Part.{Part}
use Rattle.plain_model.specs.Outcomes.{leaves}
use Rattle.plain_model.specs.Steps.{may}
use Rattle.plain_model.specs.Meant.{IsAsked}
use Rattle.plain_model.specs.ListSteps.{list_outcome}
use Rattle.plain_model.specs.declared.ctx.Ctx.{Ctx}
use Rattle.plain_model.specs.declared.command.Command.{Command}
use Rattle.plain_model.specs.declared.command.Command.TheVariants.{Lists}
use Rattle.plain_model.specs.declared.list_command.ListCommand.{ListCommand}
use Rattle.plain_model.specs.declared.list_command.ListCommand.TheVariants as lists
use Rattle.plain_model.proofs.Asked.{lists_fit}
use Rattle.keyspace.specs.Databases.{Keyspace}
use Rattle.keyspace.specs.Scopes.{list_scope, scope_of}
use Rattle.keyspace.specs.Forms.{Formed, FormedList, FormedBy, list_form, list_places}
use Rattle.keyspace.specs.Shown.{Shows}
use Rattle.keyspace.specs.Commands.{Ready, KeepsOrRefuses, Runs, visible}
use Rattle.keyspace.proofs.Running.{outcome_is, unchanged, nothing_shown}
use Rattle.keyspace.proofs.Forming.{unformed, formed_nowhere}
use Rattle.cmd_lists.specs.Found.{Gives}

step_of : {E : Type 0} (seed moment : ℕ) (old new : World) (command : Command) (own same : ListCommand) (result : Result (List Part) E) → command ≡ Lists own → own ≡ same
    → IfOk result (λ reply. list_outcome old same ≡ leaves reply new) → IfOk result (λ reply. may seed old moment command reply new)
step_of seed moment old new command own same (Ok reply) e f given = subst (λ x. may seed old moment x reply new) (sym (e ∙ ap Lists f)) (outcome_is (list_outcome old same) reply new given)
step_of seed moment old new command own same (Err x) e f given = tt

module _ {S E : Type 0} (blocks : S → Blocks) (step : S → S → Type 0) where
  -- a command that moves an element
  pub moved : (old new : Keyspace S) (at : Ctx) (command : Command) (own same : ListCommand) (result : Result (List Part) E)
      → command ≡ Lists own → own ≡ same → Gives blocks old new at same result → KeepsOrRefuses blocks step (list_scope at.db same) old new result
      → IfOk result (λ reply. FormedList blocks at.db (visible blocks old at) same reply old new) → Runs blocks step old new at command result
  moved old new at command own same result e f given kept forms =
      let is = e ∙ ap Lists f in
      record {
        answers = step_of old.bases.seed at.moment (visible blocks old at) (visible blocks new at) command own same result e f given;
        kept = subst (λ x. KeepsOrRefuses blocks step (scope_of at.db x) old new result) (sym is) kept;
        shows = subst (λ x. IfOk result (λ reply. Shows blocks old new at x reply)) (sym is) (nothing_shown result);
        forms = subst (λ x. IfOk result (λ reply. FormedBy blocks at.db (visible blocks old at) x reply old new)) (sym is) forms;
      }

  -- a command on one key
  pub ran : (old new : Keyspace S) (at : Ctx) (command : Command) (own same : ListCommand) (result : Result (List Part) E)
      → command ≡ Lists own → own ≡ same → Gives blocks old new at same result → KeepsOrRefuses blocks step (list_scope at.db same) old new result
      → IfOk result (λ reply. Formed blocks (list_form at.db (visible blocks old at) same) old new) → list_places at.db (visible blocks old at) same ≡ []
      → Runs blocks step old new at command result
  ran old new at command own same result e f given kept forms nowhere =
      moved old new at command own same result e f given kept
      (formed_nowhere blocks (list_form at.db (visible blocks old at) same) (list_places at.db (visible blocks old at) same) old new result forms nowhere)

  -- a command that only looked
  pub looked : (keyspace : Keyspace S) (at : Ctx) (command : Command) (own same : ListCommand) (result : Result (List Part) E)
      → command ≡ Lists own → own ≡ same → Gives blocks keyspace keyspace at same result → Ready blocks keyspace at → list_places at.db (visible blocks keyspace at) same ≡ []
      → Runs blocks step keyspace keyspace at command result
  looked keyspace at command own same result e f given ready nowhere =
      ran keyspace keyspace at command own same result e f given (unchanged blocks step (list_scope at.db same) keyspace result ready.sound)
      (unformed blocks (list_form at.db (visible blocks keyspace at) same) keyspace result) nowhere

-- what a request writes has one element at least
pub some_lpush : (own : ListCommand) (key : List ℕ) (list : List (List ℕ)) → IsAsked (Lists own) → own ≡ lists.LPush key list → 0 < length list
some_lpush own key list asked e = lists_fit asked.words (lists.LPush key list) (asked.means ∙ ap (λ c. Ok (Lists c)) e)

pub some_rpush : (own : ListCommand) (key : List ℕ) (list : List (List ℕ)) → IsAsked (Lists own) → own ≡ lists.RPush key list → 0 < length list
some_rpush own key list asked e = lists_fit asked.words (lists.RPush key list) (asked.means ∙ ap (λ c. Ok (Lists c)) e)

pub some_lpushx : (own : ListCommand) (key : List ℕ) (list : List (List ℕ)) → IsAsked (Lists own) → own ≡ lists.LPushX key list → 0 < length list
some_lpushx own key list asked e = lists_fit asked.words (lists.LPushX key list) (asked.means ∙ ap (λ c. Ok (Lists c)) e)

pub some_rpushx : (own : ListCommand) (key : List ℕ) (list : List (List ℕ)) → IsAsked (Lists own) → own ≡ lists.RPushX key list → 0 < length list
some_rpushx own key list asked e = lists_fit asked.words (lists.RPushX key list) (asked.means ∙ ap (λ c. Ok (Lists c)) e)
