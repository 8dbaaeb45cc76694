use Rattle.std.proofs.Common.{List, ℕ, subst, refl}
use Rattle.blocks.specs.Blocks.{no_step}
use Rattle.blocks.proofs.Change.{changes_same}
use Rattle.plain_world.specs.Worlds.{HashOf}
use Rattle.hash_object.specs.Fields.{fields}
use Rattle.rdb_grammar.specs.Payloads.{pairs_on}
use Rattle.rdb_reader.specs.Building.{Makes}
use Rattle.rdb_reader.proofs.Unpacked.{makes_as, pairs_made, no_pairs}
use Rattle.rdb_reader.proofs.pairs.unpack_pairs.Goals as goal

pub returns-in-Ok-clause-makes : goal.returns-in-Ok-clause-makes
returns-in-Ok-clause-makes g c =
    let made = HashOf (fields (g.B.BlockStore.blocks c.args.store.now) c.args.fields.now) in
    let new = HashOf (fields (g.B.BlockStore.blocks c.take_pairs.new.store) c.take_pairs.new.fields) in
    let told = pairs_made c.in-Ok.pack.bytes.now made c.in-Ok.pack.packed in
    subst (λ (bytes : List ℕ). Makes ((pairs_on made).found bytes) c.args.at new c.take_pairs.result) c.in-Ok.ensures.bytes
    (makes_as ((pairs_on made).found c.in-Ok.pack.bytes.now) _ c.args.at new c.take_pairs.result told c.take_pairs.ensures.makes)

pub returns-in-Err-clause-makes : goal.returns-in-Err-clause-makes
returns-in-Err-clause-makes g c =
    let made = HashOf (fields (g.B.BlockStore.blocks c.args.store.now) c.args.fields.now) in
    rw c.no_payload.ensures (no_pairs c.args.payload.now made _ c.in-Err.ensures.fault, refl)

pub take_pairs-requires : goal.take_pairs-requires
take_pairs-requires g c = c.requires

pub returns-in-Ok-clause-sound : goal.returns-in-Ok-clause-sound
returns-in-Ok-clause-sound g c = c.take_pairs.ensures.sound

pub returns-in-Ok-clause-settings : goal.returns-in-Ok-clause-settings
returns-in-Ok-clause-settings g c = c.take_pairs.ensures.settings

pub returns-in-Ok-clause-form : goal.returns-in-Ok-clause-form
returns-in-Ok-clause-form g c = c.take_pairs.ensures.form

pub returns-in-Ok-clause-changes : goal.returns-in-Ok-clause-changes
returns-in-Ok-clause-changes g c = c.take_pairs.ensures.changes

pub returns-in-Ok-clause-served : goal.returns-in-Ok-clause-served
returns-in-Ok-clause-served g c = c.take_pairs.ensures.served

pub returns-in-Err-clause-sound : goal.returns-in-Err-clause-sound
returns-in-Err-clause-sound g c = c.requires

pub returns-in-Err-clause-settings : goal.returns-in-Err-clause-settings
returns-in-Err-clause-settings g c = record { limits = refl; seed = refl }

pub returns-in-Err-clause-form : goal.returns-in-Err-clause-form
returns-in-Err-clause-form g c = tt

pub returns-in-Err-clause-changes : goal.returns-in-Err-clause-changes
returns-in-Err-clause-changes g c = changes_same _ _ c.requires.owned

pub returns-in-Err-clause-served : goal.returns-in-Err-clause-served
returns-in-Err-clause-served g c = no_step
