-- What a command promises, from what its parts do.
use Rattle.std.proofs.Common.{◌≡◌, ℕ, List, Result, Ok, Err, IfOk, refl, sym, ap, subst, ◌∙◌}
use Rattle.blocks.specs.Blocks.{Blocks, Served}
use Rattle.plain_world.specs.Worlds.{World}
use Rattle.plain_model.specs.Outcomes.{Outcome, IsOutcome, IsRefusal, leaves}
use Rattle.plain_world.specs.declared.reply.Part.{Part}
use Rattle.plain_model.specs.Steps.{may}
use Rattle.plain_model.specs.declared.ctx.Ctx.{Ctx}
use Rattle.plain_model.specs.declared.command.Command.{Command}
use Rattle.keyspace.specs.Databases.{Bases, SameSettings}
use Rattle.keyspace.specs.Sound.{Sound}
use Rattle.keyspace.specs.Databases.{Keyspace}
use Rattle.keyspace.specs.Scopes.{Scope, no_key, one_key, Within, scope_of}
use Rattle.held.proofs.Within.{within_wider}
use Rattle.keyspace.specs.Values.{value_refs}
use Rattle.keyspace.specs.Forms.{Formed, FormRule, FormedBy}
use Rattle.keyspace.specs.Shown.{Shows}
use Rattle.keyspace.specs.Commands.{Ready, KeepsTo, KeepsOrRefuses, Runs, visible}
use Rattle.keyspace.proofs.Forming.{formed_none}
use Rattle.blocks.proofs.Serve.{served_then}
use Rattle.keyspace.proofs.Serving.{unmoved, further}
use Rattle.keyspace.proofs.Insides.{insides_none, insides_then, insides_unwritten, insides_wider}

-- an outcome's own reply and world
pub outcome_is : (outcome : Outcome) (reply : List Part) (new : World) → outcome ≡ leaves reply new → IsOutcome outcome reply new
outcome_is outcome reply new e = (sym (ap (λ o. o.reply) e), sym (ap (λ o. o.world) e))

pub same_settings : (bases : Bases) → SameSettings bases bases
same_settings bases = record { limits = refl; seed = refl; turn = refl }

pub same_held : {S : Type 0} (blocks : S → Blocks) (step : S → S → Type 0) (scope : Scope) (keyspace : Keyspace S) → Sound keyspace.bases (blocks keyspace.store)
    → KeepsTo blocks step scope keyspace keyspace
same_held blocks step scope keyspace sound = record {
  sound = sound;
  served = Served.no_step;
  settings = same_settings keyspace.bases;
  within = unmoved scope keyspace.bases (blocks keyspace.store);
  insides = insides_none scope keyspace.bases (blocks keyspace.store);
}

-- nothing is changed
pub unchanged : {S E : Type 0} (blocks : S → Blocks) (step : S → S → Type 0) (scope : Scope) (keyspace : Keyspace S) (result : Result (List Part) E)
    → Sound keyspace.bases (blocks keyspace.store) → KeepsOrRefuses blocks step scope keyspace keyspace result
unchanged blocks step scope keyspace (Ok reply) sound = record { refusals = λ refused. refl; held = same_held blocks step scope keyspace sound }
unchanged blocks step scope keyspace (Err e) sound = record { refusals = tt; held = same_held blocks step scope keyspace sound }

-- one part after another
pub held_then : {S : Type 0} (blocks : S → Blocks) (step : S → S → Type 0) (scope : Scope) (a b c : Keyspace S) → KeepsTo blocks step scope a b → KeepsTo blocks step scope b c
    → KeepsTo blocks step scope a c
held_then blocks step scope a b c p q = record {
  sound = q.sound;
  served = served_then _ _ _ p.served q.served;
  settings = record { limits = q.settings.limits ∙ p.settings.limits; seed = q.settings.seed ∙ p.settings.seed; turn = q.settings.turn ∙ p.settings.turn };
  within = further scope a.bases b.bases c.bases (blocks a.store) (blocks b.store) (blocks c.store) p.within q.within;
  insides = insides_then scope a.bases b.bases (blocks a.store) (blocks b.store) p.settings.seed p.insides c.bases (blocks c.store) q.insides;
}

-- no key is written
pub held_unwritten : {S : Type 0} (blocks : S → Blocks) (step : S → S → Type 0) (scope : Scope) (old new : Keyspace S) → ((db : ℕ) (key : List ℕ) → scope.writes db key → ⊥)
    → Sound old.bases (blocks old.store) → Sound new.bases (blocks new.store) → Served step old.store new.store → SameSettings old.bases new.bases
    → Within scope old.bases new.bases (blocks old.store) (blocks new.store) → KeepsTo blocks step scope old new
held_unwritten blocks step scope old new none before sound served settings within = record {
  sound = sound;
  served = served;
  settings = settings;
  within = within;
  insides = insides_unwritten scope scope none old.bases new.bases (blocks old.store) (blocks new.store) before.arranged within;
}

-- what keeps to a scope keeps to a wider one
pub held_in_wider : {S : Type 0} (blocks : S → Blocks) (step : S → S → Type 0) (scope wider : Scope) (old new : Keyspace S) → ((db : ℕ) → scope.touches db → wider.touches db)
    → ((db : ℕ) (key : List ℕ) → scope.writes db key → wider.writes db key) → ((db : ℕ) → scope.empties db → wider.empties db) → KeepsTo blocks step scope old new
    → KeepsTo blocks step wider old new
held_in_wider blocks step scope wider old new touches writes empties held = record {
  sound = held.sound;
  served = held.served;
  settings = held.settings;
  within = within_wider value_refs scope wider touches writes empties old.bases new.bases (blocks old.store) (blocks new.store) held.within;
  insides = insides_wider scope wider writes old.bases new.bases (blocks old.store) (blocks new.store) held.insides;
}

-- what writes no key keeps to a key of its database
pub held_at_key : {S : Type 0} (blocks : S → Blocks) (step : S → S → Type 0) (db : ℕ) (key : List ℕ) (old new : Keyspace S) → KeepsTo blocks step (no_key db) old new
    → KeepsTo blocks step (one_key db key) old new
held_at_key blocks step db key old new held =
    held_in_wider blocks step (no_key db) (one_key db key) old new (λ number here. here) (λ number other none. absurd none.1) (λ number no. no) held

-- no refusal: what the parts hold is kept
pub calm : {S E : Type 0} (blocks : S → Blocks) (step : S → S → Type 0) (scope : Scope) (old new : Keyspace S) (result : Result (List Part) E) → IfOk result (λ reply. IsRefusal reply → ⊥)
    → KeepsTo blocks step scope old new → KeepsOrRefuses blocks step scope old new result
calm blocks step scope old new (Ok reply) f held = record { refusals = λ refused. absurd (f refused); held = held }
calm blocks step scope old new (Err e) f held = record { refusals = tt; held = held }

-- what shows nothing
pub nothing_shown : {E : Type 0} (result : Result (List Part) E) → IfOk result (λ reply. Unit {0})
nothing_shown (Ok reply) = tt
nothing_shown (Err e) = tt

-- ---- a command ran

-- by the one answer that it has
pub told : {E : Type 0} (outcome : Outcome) (new : World) (result : Result (List Part) E) → IfOk result (λ reply. outcome ≡ leaves reply new) → IfOk result (λ reply. IsOutcome outcome reply new)
told outcome new (Ok reply) given = outcome_is outcome reply new given
told outcome new (Err e) given = tt

module _ {S E : Type 0} (blocks : S → Blocks) (step : S → S → Type 0) where
  -- by what the model lets it answer, where the command is this one
  pub ran : (old new : Keyspace S) (at : Ctx) (command same : Command) (result : Result (List Part) E) → command ≡ same
      → IfOk result (λ reply. may old.bases.seed (visible blocks old at) at.moment same reply (visible blocks new at))
      → KeepsOrRefuses blocks step (scope_of at.db same) old new result → IfOk result (λ reply. Shows blocks old new at same reply)
      → IfOk result (λ reply. FormedBy blocks at.db (visible blocks old at) same reply old new) → Runs blocks step old new at command result
  ran old new at command same result is answers kept shows forms =
      subst (λ c. Runs blocks step old new at c result) (sym is) (record { answers = answers; kept = kept; shows = shows; forms = forms })

  -- the same of a command that only looked
  pub looked : (keyspace : Keyspace S) (at : Ctx) (command same : Command) (result : Result (List Part) E) → command ≡ same
      → IfOk result (λ reply. may keyspace.bases.seed (visible blocks keyspace at) at.moment same reply (visible blocks keyspace at))
      → IfOk result (λ reply. Shows blocks keyspace keyspace at same reply) → Ready blocks keyspace at
      → (form : FormRule) → ((reply : List Part) → FormedBy blocks at.db (visible blocks keyspace at) same reply keyspace keyspace ≡ Formed blocks form keyspace keyspace)
      → Runs blocks step keyspace keyspace at command result
  looked keyspace at command same result is answers shows ready form rule =
      ran keyspace keyspace at command same result is answers (unchanged blocks step (scope_of at.db same) keyspace result ready.sound) shows
      (calm_forms result)
    where
      calm_forms : (result : Result (List Part) E) → IfOk result (λ reply. FormedBy blocks at.db (visible blocks keyspace at) same reply keyspace keyspace)
      calm_forms (Ok reply) = subst (λ (T : Type 0). T) (sym (rule reply)) (formed_none blocks form keyspace)
      calm_forms (Err e) = tt
