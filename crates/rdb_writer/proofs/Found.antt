-- What is known of a key that is found at an item number.
use Rattle.std.proofs.Common.{◌≡◌, ℕ, List, Option, Some, sym, ap, subst, ◌∙◌}
use Rattle.object_codec.specs.declared.limits.Limits.{Limits}
use Rattle.blocks.specs.Blocks.{Blocks}
use Rattle.plain_world.specs.Worlds.{live, look, deadline_of}
use Rattle.plain_world.proofs.Lives.{was_in_time}
use Rattle.fit_worlds.specs.Fit.{IsShort, IsFitValue, IsFit}
use Rattle.keyspace.specs.declared.value.Value.{Value}
use Rattle.keyspace.specs.Values.{value_of, IsSound}
use Rattle.keyspace.specs.Databases.{Bases, means}
use Rattle.keyspace.specs.Sound.{Sound}
use Rattle.keyspace.specs.Calls.{Found}
use Rattle.rdb_writer.specs.Saving.{saved}

module _ (bases : Bases) (blocks : Blocks) (moment db : ℕ) (key : List ℕ) (value : Value) (sound : Sound bases blocks) (fit : IsFit (saved bases blocks moment))
    (f : Found bases blocks db key moment value) where
  pub key_short : IsShort key
  key_short = (fit.each db key _ f.stands).short

  pub value_fit : IsFitValue (value_of blocks value)
  value_fit = (fit.each db key _ f.stands).value

  pub value_sound : (limits : Limits) × (seed : ℕ) × IsSound limits seed blocks value
  value_sound = (bases.limits, bases.seed, subst (IsSound bases.limits bases.seed blocks) f.has.is (sound.arranged.values db f.has.at f.has.element f.has.found))

  -- with the deadline that was told
  pub seen_with : (d : Option ℕ) → d ≡ deadline_of (look (means db bases blocks) key)
      → look (live (means db bases blocks) moment) key ≡ Some (record { value = value_of blocks value; deadline = d })
  seen_with d is =
      let there = (was_in_time (means db bases blocks) moment key _ f.stands).0 in
      let same : f.deadline ≡ d = sym (is ∙ ap deadline_of there) in
      f.stands ∙ ap (λ x. Some (record { value = value_of blocks value; deadline = x })) same
