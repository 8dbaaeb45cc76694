use Rattle.std.proofs.Common.{List, ℕ, subst, refl}
use Rattle.blocks.specs.Blocks.{no_step}
use Rattle.blocks.proofs.Change.{changes_same}
use Rattle.plain_world.specs.Worlds.{SortedOf}
use Rattle.zset_object.specs.Scored.{scores}
use Rattle.rdb_grammar.specs.Payloads.{scores_on}
use Rattle.rdb_reader.specs.Building.{Makes}
use Rattle.rdb_reader.proofs.Unpacked.{makes_as, scores_made, no_scores}
use Rattle.rdb_reader.proofs.pairs.unpack_scores.Goals as goal

pub returns-in-Ok-clause-makes : goal.returns-in-Ok-clause-makes
returns-in-Ok-clause-makes g c =
    let made = SortedOf (scores (g.B.BlockStore.blocks c.args.store.now) c.args.scored.now) in
    let new = SortedOf (scores (g.B.BlockStore.blocks c.set_scores.new.store) c.set_scores.new.scored) in
    let told = scores_made c.in-Ok.pack.bytes.now made c.in-Ok.pack.packed in
    subst (λ (bytes : List ℕ). Makes ((scores_on made).found bytes) c.args.at new c.set_scores.result) c.in-Ok.ensures.bytes
    (makes_as ((scores_on made).found c.in-Ok.pack.bytes.now) _ c.args.at new c.set_scores.result told c.set_scores.ensures.makes)

pub returns-in-Err-clause-makes : goal.returns-in-Err-clause-makes
returns-in-Err-clause-makes g c =
    let made = SortedOf (scores (g.B.BlockStore.blocks c.args.store.now) c.args.scored.now) in
    rw c.no_payload.ensures (no_scores c.args.payload.now made _ c.in-Err.ensures.fault, refl)

pub set_scores-requires : goal.set_scores-requires
set_scores-requires g c = c.requires

pub returns-in-Ok-clause-sound : goal.returns-in-Ok-clause-sound
returns-in-Ok-clause-sound g c = c.set_scores.ensures.sound

pub returns-in-Ok-clause-settings : goal.returns-in-Ok-clause-settings
returns-in-Ok-clause-settings g c = c.set_scores.ensures.settings

pub returns-in-Ok-clause-form : goal.returns-in-Ok-clause-form
returns-in-Ok-clause-form g c = c.set_scores.ensures.form

pub returns-in-Ok-clause-changes : goal.returns-in-Ok-clause-changes
returns-in-Ok-clause-changes g c = c.set_scores.ensures.changes

pub returns-in-Ok-clause-served : goal.returns-in-Ok-clause-served
returns-in-Ok-clause-served g c = c.set_scores.ensures.served

pub returns-in-Err-clause-sound : goal.returns-in-Err-clause-sound
returns-in-Err-clause-sound g c = c.requires

pub returns-in-Err-clause-settings : goal.returns-in-Err-clause-settings
returns-in-Err-clause-settings g c = record { limits = refl; seed = refl }

pub returns-in-Err-clause-form : goal.returns-in-Err-clause-form
returns-in-Err-clause-form g c = tt

pub returns-in-Err-clause-changes : goal.returns-in-Err-clause-changes
returns-in-Err-clause-changes g c = changes_same _ _ c.requires.owned

pub returns-in-Err-clause-served : goal.returns-in-Err-clause-served
returns-in-Err-clause-served g c = no_step
