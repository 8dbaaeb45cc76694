-- A value that is lifted, changed and lowered again.
use Rattle.std.proofs.Common.{◌≡◌, ℕ, List, [], ◌++◌, Option, refl, sym, ap, ◌∙◌, subst}
use Rattle.blocks.specs.declared.BlockRef.{BlockRef}
use Rattle.blocks.specs.Blocks.{Blocks, Changes}
use Rattle.object_codec.specs.declared.limits.Limits.{Limits}
use Rattle.rehash_dict.specs.Grown.{Grown}
use Rattle.rehash_dict.specs.Keyed.{hash_of}
use Rattle.plain_world.specs.Worlds.{put, live}
use Rattle.plain_model.specs.declared.ctx.Ctx.{Ctx}
use Rattle.held.specs.Calls.{HasOnly}
use Rattle.keyspace.specs.declared.value.Value.{Value}
use Rattle.keyspace.specs.Values.{value_of, value_refs, value_tables, IsSound}
use Rattle.keyspace.specs.Databases.{Bases, means}
use Rattle.keyspace.specs.Sound.{IsArranged, IsIntactWith, Sound, SoundBeside}
use Rattle.keyspace.specs.Scopes.{one_key, Within}
use Rattle.keyspace.specs.Calls.{Lifted, IsPlace, Lifts, AreParts}
use Rattle.keyspace.specs.Commands.{seen}
use Rattle.keyspace.specs.Insides.{Insides}
use Rattle.keyspace.proofs.Insides.{insides_edited}
use Rattle.keyspace.proofs.Uses.{has_sound, lower_intact, lower_sound, lower_has, lower_within, lower_means}

module _ (at : Ctx) (old mid : Bases) (m own after : Blocks) (key : List ℕ) (lifted : Lifted) (value : Value) (same : own ≡ m)
    (lifts : Lifts old mid m at.db key at.moment lifted) (sound : SoundBeside mid m (value_refs m lifted.value ++ []))
    (p : Changes own after (value_refs own lifted.value) (value_refs after value)) where
  abbrev lowered : Lifted
  lowered = record { db = lifted.db; item = lifted.item; value = value }

  changes : Changes m after (value_refs m lifted.value) (value_refs after lowered.value)
  changes = subst (λ b. Changes b after (value_refs b lifted.value) (value_refs after value)) same p

  pub edit_intact : IsSound mid.limits mid.seed after value → IsIntactWith mid after value
  edit_intact is_sound = lower_intact old mid m after at.db at.moment key lifted lowered [] lifts sound changes refl refl is_sound

  module _ (new : Bases) (later : Blocks) (stays : later ≡ after) where
    pub edit_sound : ((all out : List BlockRef) → SoundBeside mid after all → AreParts all (value_refs after value) out → SoundBeside new after out) → Sound new later
    edit_sound clause = subst (λ b. Sound new b) (sym stays) (lower_sound old mid m after at.db at.moment key lifted lowered [] lifts sound changes refl refl new clause)

    -- from the clauses `within` of `lift` and `lower`
    pub edit_within : Within (one_key at.db key) old mid m m →
        ((k : List ℕ) (deadline : Option ℕ) → IsPlace mid after lifted.db lifted.item k deadline → Within (one_key lifted.db k) mid new after after)
        → Within (one_key at.db key) old new m later
    edit_within taken clause = subst (Within (one_key at.db key) old new m) (sym stays)
        (lower_within old mid m after at.db at.moment key lifted lowered [] lifts sound changes refl refl new taken clause)

    -- from the clauses that the value was sound, and that its tables come from those that it had
    pub edit_insides : IsArranged old m → IsArranged new later → Within (one_key at.db key) old new m later → HasOnly new later at.db key value
        → ((limits : Limits) (seed : ℕ) → IsSound limits seed own lifted.value → Grown (hash_of seed) (value_tables own lifted.value) (value_tables after value))
        → Insides (one_key at.db key) old new m later
    edit_insides before arranged within only clause =
        let sound : IsSound old.limits old.seed own lifted.value = subst (λ b. IsSound old.limits old.seed b lifted.value) (sym same) (has_sound old m at.db key lifted.value before lifts.had) in
        insides_edited at.db key lifted.value value old new m later before arranged within lifts.had only
        (subst (λ b. Grown (hash_of old.seed) (value_tables b lifted.value) (value_tables later value)) same
        (subst (λ b. Grown (hash_of old.seed) (value_tables own lifted.value) (value_tables b value)) (sym stays) (clause old.limits old.seed sound)))

    -- from the clause `has` of `lower`
    pub edit_has : ((k : List ℕ) (deadline : Option ℕ) → IsPlace mid after lifted.db lifted.item k deadline → HasOnly new after lifted.db k value) → HasOnly new later at.db key value
    edit_has clause = subst (λ b. HasOnly new b at.db key value) (sym stays) (lower_has old mid m after at.db at.moment key lifted lowered [] lifts sound changes refl refl new clause)

    -- from the clause `means` of `lower`
    pub edit_means :
        ((k : List ℕ) (deadline : Option ℕ) → IsPlace mid after lifted.db lifted.item k deadline
        → means lifted.db new after ≡ put (means lifted.db mid after) k (record { value = value_of after value; deadline = deadline }))
        → seen at new later ≡ put (seen at old m) key (record { value = value_of later value; deadline = lifts.deadline })
    edit_means clause =
        ap (λ b. live (means at.db new b) at.moment) stays
        ∙ lower_means old mid m after at.db at.moment key lifted lowered [] lifts sound changes refl refl new clause
        ∙ ap (λ b. put (seen at old m) key (record { value = value_of b value; deadline = lifts.deadline })) (sym stays)
