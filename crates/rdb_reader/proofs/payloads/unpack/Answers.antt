use Rattle.std.proofs.Common.{ℕ, ℤ, List, map, ap, sym, subst, ◌∙◌, refl}
use Rattle.blocks.specs.Blocks.{no_step}
use Rattle.blocks.proofs.Change.{changes_same}
use Rattle.int_text.specs.Decimal.{canonical}
use Rattle.intset.specs.Intset.{IsIntset}
use Rattle.plain_world.specs.Worlds.{SetOf}
use Rattle.set_object.specs.Members.{members}
use Rattle.rdb_grammar.specs.Payloads.{all_in, with_text, texts_on, numbers_on}
use Rattle.rdb_reader.specs.Building.{Makes}
use Rattle.rdb_reader.proofs.Unpacked.{makes_as, numbers_made, no_intset_makes, texts_made, no_pack_makes}
use Rattle.rdb_reader.proofs.payloads.unpack.Goals as goal

pub returns-in-Ok-clause-makes : goal.returns-in-Ok-clause-makes
returns-in-Ok-clause-makes g c =
    let made = SetOf (members (g.B.BlockStore.blocks c.args.store.now) c.args.members.now) in
    let new = SetOf (members (g.B.BlockStore.blocks c.join_numbers.new.store) c.join_numbers.new.members) in
    let bytes = c.args.payload.now in
    let numbers = c.in-Ok.numbers in
    let i = c.in-Ok.ensures in
    let own = subst (λ (ns : List ℤ). IsIntset bytes ns) i.listed i in
    let told = numbers_made bytes made own ∙ ap (λ (ns : List ℤ). all_in with_text made (map canonical ns)) (sym i.listed) in
    rw c.in-Numbers.is (makes_as ((numbers_on made).found bytes) _ c.args.at new c.join_numbers.result told c.join_numbers.ensures.makes)

pub returns-in-Err-clause-makes : goal.returns-in-Err-clause-makes
returns-in-Err-clause-makes g c =
    let made = SetOf (members (g.B.BlockStore.blocks c.args.store.now) c.args.members.now) in
    no_intset_makes c.args.packed c.args.payload.now made made c.args.at _ c.no_payload.result c.in-Numbers.is c.no_payload.ensures c.in-Err.ensures

pub returns-in-Ok-check-clause-makes : goal.returns-in-Ok-check-clause-makes
returns-in-Ok-check-clause-makes g c =
    let made = SetOf (members (g.B.BlockStore.blocks c.args.store.now) c.args.members.now) in
    let new = SetOf (members (g.B.BlockStore.blocks c.join_texts.new.store) c.join_texts.new.members) in
    let told = texts_made c.in-Ok-check.pack.bytes.now made c.in-Ok-check.pack.packed in
    rw c.in-Texts.is (subst (λ (bytes : List ℕ). Makes ((texts_on made).found bytes) c.args.at new c.join_texts.result) c.in-Ok-check.ensures.bytes
    (makes_as ((texts_on made).found c.in-Ok-check.pack.bytes.now) _ c.args.at new c.join_texts.result told c.join_texts.ensures.makes))

pub returns-in-Err-check-clause-makes : goal.returns-in-Err-check-clause-makes
returns-in-Err-check-clause-makes g c =
    let made = SetOf (members (g.B.BlockStore.blocks c.args.store.now) c.args.members.now) in
    no_pack_makes c.args.packed c.args.payload.now made made c.args.at _ c.no_payload-in-Err-check.result c.in-Texts.is c.no_payload-in-Err-check.ensures c.in-Err-check.ensures.fault

pub join_numbers-requires : goal.join_numbers-requires
join_numbers-requires g c = c.requires.sound

pub join_texts-requires : goal.join_texts-requires
join_texts-requires g c = c.requires.sound

pub returns-in-Ok-clause-sound : goal.returns-in-Ok-clause-sound
returns-in-Ok-clause-sound g c = c.join_numbers.ensures.sound

pub returns-in-Ok-clause-settings : goal.returns-in-Ok-clause-settings
returns-in-Ok-clause-settings g c = c.join_numbers.ensures.settings

pub returns-in-Ok-clause-form : goal.returns-in-Ok-clause-form
returns-in-Ok-clause-form g c = c.join_numbers.ensures.form

pub returns-in-Ok-clause-changes : goal.returns-in-Ok-clause-changes
returns-in-Ok-clause-changes g c = c.join_numbers.ensures.changes

pub returns-in-Ok-clause-served : goal.returns-in-Ok-clause-served
returns-in-Ok-clause-served g c = c.join_numbers.ensures.served

pub returns-in-Ok-check-clause-sound : goal.returns-in-Ok-check-clause-sound
returns-in-Ok-check-clause-sound g c = c.join_texts.ensures.sound

pub returns-in-Ok-check-clause-settings : goal.returns-in-Ok-check-clause-settings
returns-in-Ok-check-clause-settings g c = c.join_texts.ensures.settings

pub returns-in-Ok-check-clause-form : goal.returns-in-Ok-check-clause-form
returns-in-Ok-check-clause-form g c = c.join_texts.ensures.form

pub returns-in-Ok-check-clause-changes : goal.returns-in-Ok-check-clause-changes
returns-in-Ok-check-clause-changes g c = c.join_texts.ensures.changes

pub returns-in-Ok-check-clause-served : goal.returns-in-Ok-check-clause-served
returns-in-Ok-check-clause-served g c = c.join_texts.ensures.served

pub returns-in-Err-clause-sound : goal.returns-in-Err-clause-sound
returns-in-Err-clause-sound g c = c.requires.sound

pub returns-in-Err-clause-settings : goal.returns-in-Err-clause-settings
returns-in-Err-clause-settings g c = record { limits = refl; seed = refl }

pub returns-in-Err-clause-form : goal.returns-in-Err-clause-form
returns-in-Err-clause-form g c = tt

pub returns-in-Err-clause-changes : goal.returns-in-Err-clause-changes
returns-in-Err-clause-changes g c = changes_same _ _ c.requires.sound.owned

pub returns-in-Err-clause-served : goal.returns-in-Err-clause-served
returns-in-Err-clause-served g c = no_step

pub returns-in-Err-check-clause-sound : goal.returns-in-Err-check-clause-sound
returns-in-Err-check-clause-sound g c = c.requires.sound

pub returns-in-Err-check-clause-settings : goal.returns-in-Err-check-clause-settings
returns-in-Err-check-clause-settings g c = record { limits = refl; seed = refl }

pub returns-in-Err-check-clause-form : goal.returns-in-Err-check-clause-form
returns-in-Err-check-clause-form g c = tt

pub returns-in-Err-check-clause-changes : goal.returns-in-Err-check-clause-changes
returns-in-Err-check-clause-changes g c = changes_same _ _ c.requires.sound.owned

pub returns-in-Err-check-clause-served : goal.returns-in-Err-check-clause-served
returns-in-Err-check-clause-served g c = no_step
