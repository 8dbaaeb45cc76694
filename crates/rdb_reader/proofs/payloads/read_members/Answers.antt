use Rattle.std.proofs.Common.{ap, ◌∙◌, sym, subst, List, ℕ, Err, refl}
use Rattle.blocks.specs.Blocks.{no_step}
use Rattle.blocks.proofs.Change.{changes_same}
use Rattle.plain_world.specs.Worlds.{SetOf}
use Rattle.set_object.specs.Members.{members}
use Rattle.rdb_grammar.specs.Layouts.{held}
use Rattle.rdb_grammar.specs.Views.{text_of}
use Rattle.rdb_grammar.proofs.PartsExact.{held_exact}
use Rattle.rdb_reader.specs.Building.{Makes}
use Rattle.rdb_reader.proofs.Unpacked.{string_fails, payload_stands, payload_broken}
use Rattle.rdb_reader.proofs.payloads.read_members.Goals as goal

pub returns-in-Err-clause-fills : goal.returns-in-Err-clause-fills
returns-in-Err-clause-fills g c =
    let made = SetOf (members (g.B.BlockStore.blocks c.args.store.now) c.args.members.now) in
    rw c.refused.ensures (string_fails c.args.bytes.now c.args.at (held c.args.packed made) (held_exact c.args.packed made) c.in-Err.fault.kind c.in-Err.fault.at c.in-Err.ensures.fault)

pub returns-in-Ok-unpack-clause-fills : goal.returns-in-Ok-unpack-clause-fills
returns-in-Ok-unpack-clause-fills g c =
    let made = SetOf (members (g.B.BlockStore.blocks c.args.store.now) c.args.members.now) in
    let new = SetOf (members (g.B.BlockStore.blocks c.unpack.new.store) c.unpack.new.members) in
    let payload = held c.args.packed made in
    payload_stands c.args.bytes.now c.args.at payload (held_exact c.args.packed made) c.in-Ok.read.1 (text_of c.in-Ok.read.0) c.in-Ok.ensures.string new
    (ap payload.found (sym c.text.ensures) ∙ c.in-Ok-unpack.ensures.makes)

pub returns-in-Err-unpack-clause-fills : goal.returns-in-Err-unpack-clause-fills
returns-in-Err-unpack-clause-fills g c =
    let made = SetOf (members (g.B.BlockStore.blocks c.args.store.now) c.args.members.now) in
    let new = SetOf (members (g.B.BlockStore.blocks c.unpack.new.store) c.unpack.new.members) in
    let payload = held c.args.packed made in
    payload_broken c.args.bytes.now c.args.at payload (held_exact c.args.packed made) c.in-Ok.read.1 (text_of c.in-Ok.read.0) c.in-Ok.ensures.string new c.in-Err-unpack.fault
    (subst (λ (t : List ℕ). Makes (payload.found t) c.args.at new (Err c.in-Err-unpack.fault)) c.text.ensures c.in-Err-unpack.ensures.makes)

pub next_string-requires : goal.next_string-requires
next_string-requires g c = c.requires.at

pub unpack-requires-clause-sound : goal.unpack-requires-clause-sound
unpack-requires-clause-sound g c = c.requires.sound

pub unpack-requires-clause-members : goal.unpack-requires-clause-members
unpack-requires-clause-members g c = c.requires.members

pub returns-in-Err-clause-sound : goal.returns-in-Err-clause-sound
returns-in-Err-clause-sound g c = c.requires.sound

pub returns-in-Err-clause-settings : goal.returns-in-Err-clause-settings
returns-in-Err-clause-settings g c = record { limits = refl; seed = refl }

pub returns-in-Err-clause-form : goal.returns-in-Err-clause-form
returns-in-Err-clause-form g c = tt

pub returns-in-Err-clause-changes : goal.returns-in-Err-clause-changes
returns-in-Err-clause-changes g c = changes_same _ _ c.requires.sound.owned

pub returns-in-Err-clause-served : goal.returns-in-Err-clause-served
returns-in-Err-clause-served g c = no_step

pub returns-in-Ok-unpack-clause-sound : goal.returns-in-Ok-unpack-clause-sound
returns-in-Ok-unpack-clause-sound g c = c.unpack.ensures.sound

pub returns-in-Ok-unpack-clause-settings : goal.returns-in-Ok-unpack-clause-settings
returns-in-Ok-unpack-clause-settings g c = c.unpack.ensures.settings

pub returns-in-Ok-unpack-clause-changes : goal.returns-in-Ok-unpack-clause-changes
returns-in-Ok-unpack-clause-changes g c = c.unpack.ensures.changes

pub returns-in-Ok-unpack-clause-served : goal.returns-in-Ok-unpack-clause-served
returns-in-Ok-unpack-clause-served g c = c.unpack.ensures.served

pub returns-in-Ok-unpack-clause-form : goal.returns-in-Ok-unpack-clause-form
returns-in-Ok-unpack-clause-form g c = c.in-Ok-unpack.ensures.form

pub returns-in-Err-unpack-clause-sound : goal.returns-in-Err-unpack-clause-sound
returns-in-Err-unpack-clause-sound g c = c.unpack.ensures.sound

pub returns-in-Err-unpack-clause-settings : goal.returns-in-Err-unpack-clause-settings
returns-in-Err-unpack-clause-settings g c = c.unpack.ensures.settings

pub returns-in-Err-unpack-clause-changes : goal.returns-in-Err-unpack-clause-changes
returns-in-Err-unpack-clause-changes g c = c.unpack.ensures.changes

pub returns-in-Err-unpack-clause-served : goal.returns-in-Err-unpack-clause-served
returns-in-Err-unpack-clause-served g c = c.unpack.ensures.served

pub returns-in-Err-unpack-clause-form : goal.returns-in-Err-unpack-clause-form
returns-in-Err-unpack-clause-form g c = tt
