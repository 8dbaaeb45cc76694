use Rattle.std.proofs.Common.{ap, ◌∙◌, sym, subst, List, ℕ, Err, refl}
use Rattle.blocks.specs.Blocks.{no_step}
use Rattle.blocks.proofs.Change.{changes_same}
use Rattle.plain_world.specs.Worlds.{HashOf}
use Rattle.hash_object.specs.Fields.{fields}
use Rattle.rdb_grammar.specs.Payloads.{pairs_on}
use Rattle.rdb_grammar.specs.Strings.{string}
use Rattle.rdb_grammar.specs.Views.{text_of}
use Rattle.rdb_grammar.proofs.PackedExact.{pairs_on_decided}
use Rattle.rdb_grammar.proofs.PayloadsExact.{inside_exact}
use Rattle.rdb_grammar.proofs.StringsExact.{string_exact}
use Rattle.rdb_reader.specs.Building.{Makes}
use Rattle.rdb_reader.proofs.Unpacked.{string_fails, payload_stands, payload_broken}
use Rattle.rdb_reader.proofs.pairs.read_fields.Goals as goal

pub returns-in-Err-clause-fills : goal.returns-in-Err-clause-fills
returns-in-Err-clause-fills g c =
    let made = HashOf (fields (g.B.BlockStore.blocks c.args.store.now) c.args.fields.now) in
    rw c.refused.ensures
    (string_fails c.args.bytes.now c.args.at (pairs_on made) (inside_exact string (pairs_on made) string_exact (pairs_on_decided made)) c.in-Err.fault.kind c.in-Err.fault.at
    c.in-Err.ensures.fault)

pub returns-in-Ok-unpack_pairs-clause-fills : goal.returns-in-Ok-unpack_pairs-clause-fills
returns-in-Ok-unpack_pairs-clause-fills g c =
    let made = HashOf (fields (g.B.BlockStore.blocks c.args.store.now) c.args.fields.now) in
    let new = HashOf (fields (g.B.BlockStore.blocks c.unpack_pairs.new.store) c.unpack_pairs.new.fields) in
    payload_stands c.args.bytes.now c.args.at (pairs_on made) (inside_exact string (pairs_on made) string_exact (pairs_on_decided made)) c.in-Ok.read.1 (text_of c.in-Ok.read.0)
    c.in-Ok.ensures.string new
    (ap ((pairs_on made).found) (sym c.text.ensures) ∙ c.in-Ok-unpack_pairs.ensures.makes)

pub returns-in-Err-unpack_pairs-clause-fills : goal.returns-in-Err-unpack_pairs-clause-fills
returns-in-Err-unpack_pairs-clause-fills g c =
    let made = HashOf (fields (g.B.BlockStore.blocks c.args.store.now) c.args.fields.now) in
    let new = HashOf (fields (g.B.BlockStore.blocks c.unpack_pairs.new.store) c.unpack_pairs.new.fields) in
    payload_broken c.args.bytes.now c.args.at (pairs_on made) (inside_exact string (pairs_on made) string_exact (pairs_on_decided made)) c.in-Ok.read.1 (text_of c.in-Ok.read.0)
    c.in-Ok.ensures.string new c.in-Err-unpack_pairs.fault
    (subst (λ (t : List ℕ). Makes ((pairs_on made).found t) c.args.at new (Err c.in-Err-unpack_pairs.fault)) c.text.ensures c.in-Err-unpack_pairs.ensures.makes)

pub next_string-requires : goal.next_string-requires
next_string-requires g c = c.requires.at

pub unpack_pairs-requires : goal.unpack_pairs-requires
unpack_pairs-requires g c = c.requires.sound

pub returns-in-Err-clause-sound : goal.returns-in-Err-clause-sound
returns-in-Err-clause-sound g c = c.requires.sound

pub returns-in-Err-clause-settings : goal.returns-in-Err-clause-settings
returns-in-Err-clause-settings g c = record { limits = refl; seed = refl }

pub returns-in-Err-clause-form : goal.returns-in-Err-clause-form
returns-in-Err-clause-form g c = tt

pub returns-in-Err-clause-changes : goal.returns-in-Err-clause-changes
returns-in-Err-clause-changes g c = changes_same _ _ c.requires.sound.owned

pub returns-in-Err-clause-served : goal.returns-in-Err-clause-served
returns-in-Err-clause-served g c = no_step

pub returns-in-Ok-unpack_pairs-clause-sound : goal.returns-in-Ok-unpack_pairs-clause-sound
returns-in-Ok-unpack_pairs-clause-sound g c = c.unpack_pairs.ensures.sound

pub returns-in-Ok-unpack_pairs-clause-settings : goal.returns-in-Ok-unpack_pairs-clause-settings
returns-in-Ok-unpack_pairs-clause-settings g c = c.unpack_pairs.ensures.settings

pub returns-in-Ok-unpack_pairs-clause-changes : goal.returns-in-Ok-unpack_pairs-clause-changes
returns-in-Ok-unpack_pairs-clause-changes g c = c.unpack_pairs.ensures.changes

pub returns-in-Ok-unpack_pairs-clause-served : goal.returns-in-Ok-unpack_pairs-clause-served
returns-in-Ok-unpack_pairs-clause-served g c = c.unpack_pairs.ensures.served

pub returns-in-Ok-unpack_pairs-clause-form : goal.returns-in-Ok-unpack_pairs-clause-form
returns-in-Ok-unpack_pairs-clause-form g c = c.in-Ok-unpack_pairs.ensures.form

pub returns-in-Err-unpack_pairs-clause-sound : goal.returns-in-Err-unpack_pairs-clause-sound
returns-in-Err-unpack_pairs-clause-sound g c = c.unpack_pairs.ensures.sound

pub returns-in-Err-unpack_pairs-clause-settings : goal.returns-in-Err-unpack_pairs-clause-settings
returns-in-Err-unpack_pairs-clause-settings g c = c.unpack_pairs.ensures.settings

pub returns-in-Err-unpack_pairs-clause-changes : goal.returns-in-Err-unpack_pairs-clause-changes
returns-in-Err-unpack_pairs-clause-changes g c = c.unpack_pairs.ensures.changes

pub returns-in-Err-unpack_pairs-clause-served : goal.returns-in-Err-unpack_pairs-clause-served
returns-in-Err-unpack_pairs-clause-served g c = c.unpack_pairs.ensures.served

pub returns-in-Err-unpack_pairs-clause-form : goal.returns-in-Err-unpack_pairs-clause-form
returns-in-Err-unpack_pairs-clause-form g c = tt
