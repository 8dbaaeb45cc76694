use Rattle.std.proofs.Common.{◌≡◌, Bool, true, false, not, is_some, Ok, sym, ap, subst, ◌∙◌, refl}
use Rattle.std.specs.FinMap.{get, insert}
use Rattle.blocks.specs.Blocks.{no_step}
use Rattle.blocks.proofs.Change.{changes_same}
use Rattle.object_codec.specs.Forms.{IsLeast}
use Rattle.plain_world.specs.Worlds.{SetOf}
use Rattle.set_object.specs.Members.{members, form_of}
use Rattle.set_object.specs.Strings.{Strings, FitsMembers}
use Rattle.rdb_grammar.specs.Elements.{with_one}
use Rattle.rdb_grammar.specs.Places.{Stands}
use Rattle.rdb_grammar.specs.Views.{text_of}
use Rattle.rdb_reader.proofs.Elements.{member_fails, joined, joined_twice}
use Rattle.rdb_reader.proofs.Rising.{joined_least}
use Rattle.rdb_reader.proofs.building.add_member.Goals as goal

pub returns-in-Err-clause-adds : goal.returns-in-Err-clause-adds
returns-in-Err-clause-adds g c = rw c.refused.ensures (member_fails c.args.bytes.now c.args.at c.in-Err.fault.kind c.in-Err.fault.at c.in-Err.ensures.fault _)

pub returns-in-Ok-true-clause-adds : goal.returns-in-Ok-true-clause-adds
returns-in-Ok-true-clause-adds g c =
    let old = members (g.B.BlockStore.blocks c.args.store.now) c.args.members.now in
    let new = members (g.B.BlockStore.blocks c.add.new.store) c.add.new.self in
    let text = text_of c.in-Ok.read.0 in
    let fresh : true ≡ not (is_some (get old text)) = sym c.in-Ok-true.field-0-test ∙ c.in-Ok-true.ensures.there ∙ ap (λ t. not (is_some (get old t))) c.text.ensures in
    let added = c.add.ensures.added (c.in-Ok-true.is ∙ ap (λ (b : Bool). Ok b) c.in-Ok-true.field-0-test) in
    let is : new ≡ insert old text tt = added.members_are ∙ ap (λ t. insert old t tt) c.text.ensures in
    subst (λ (ms : Strings). Stands (with_one (SetOf old)) (SetOf ms) c.args.bytes.now c.args.at c.in-Ok.read.1) (sym is)
    (joined c.args.bytes.now c.args.at c.in-Ok.read.1 text c.in-Ok.ensures.string old fresh)

pub returns-in-Ok-true-clause-form : goal.returns-in-Ok-true-clause-form
returns-in-Ok-true-clause-form g c least =
    let old = members (g.B.BlockStore.blocks c.args.store.now) c.args.members.now in
    let yes = c.in-Ok-true.is ∙ ap (λ (b : Bool). Ok b) c.in-Ok-true.field-0-test in
    let added = c.add.ensures.added yes in
    subst (λ (ms : Strings). IsLeast (FitsMembers c.args.members.now.limits ms) (form_of c.add.new.self)) (sym added.members_are)
    (joined_least c.args.members.now.limits old c.text.result.now (form_of c.args.members.now) (form_of c.add.new.self) least (c.add.ensures.form yes))

pub returns-in-Ok-false-clause-adds : goal.returns-in-Ok-false-clause-adds
returns-in-Ok-false-clause-adds g c =
    let old = members (g.B.BlockStore.blocks c.args.store.now) c.args.members.now in
    let text = text_of c.in-Ok.read.0 in
    let there : false ≡ not (is_some (get old text)) = sym c.in-Ok-false.field-0-test ∙ c.in-Ok-false.ensures.there ∙ ap (λ t. not (is_some (get old t))) c.text.ensures in
    rw c.twice.ensures (joined_twice c.args.bytes.now c.args.at c.in-Ok.read.1 text c.in-Ok.ensures.string old there)

pub next_string-requires : goal.next_string-requires
next_string-requires g c = c.requires.at

pub add-requires : goal.add-requires
add-requires g c = c.requires.sound

pub returns-in-Err-clause-sound : goal.returns-in-Err-clause-sound
returns-in-Err-clause-sound g c = c.requires.sound

pub returns-in-Err-clause-settings : goal.returns-in-Err-clause-settings
returns-in-Err-clause-settings g c = record { limits = refl; seed = refl }

pub returns-in-Err-clause-form : goal.returns-in-Err-clause-form
returns-in-Err-clause-form g c = tt

pub returns-in-Err-clause-changes : goal.returns-in-Err-clause-changes
returns-in-Err-clause-changes g c = changes_same _ _ c.requires.sound.owned

pub returns-in-Err-clause-served : goal.returns-in-Err-clause-served
returns-in-Err-clause-served g c = no_step

pub returns-in-Ok-true-clause-sound : goal.returns-in-Ok-true-clause-sound
returns-in-Ok-true-clause-sound g c = (c.add.ensures.added (c.in-Ok-true.is ∙ ap (λ (b : Bool). Ok b) c.in-Ok-true.field-0-test)).sound

pub returns-in-Ok-true-clause-settings : goal.returns-in-Ok-true-clause-settings
returns-in-Ok-true-clause-settings g c = (c.add.ensures.added (c.in-Ok-true.is ∙ ap (λ (b : Bool). Ok b) c.in-Ok-true.field-0-test)).settings

pub returns-in-Ok-true-clause-changes : goal.returns-in-Ok-true-clause-changes
returns-in-Ok-true-clause-changes g c = (c.add.ensures.added (c.in-Ok-true.is ∙ ap (λ (b : Bool). Ok b) c.in-Ok-true.field-0-test)).changes

pub returns-in-Ok-true-clause-served : goal.returns-in-Ok-true-clause-served
returns-in-Ok-true-clause-served g c = c.add.ensures.served

pub returns-in-Ok-false-clause-served : goal.returns-in-Ok-false-clause-served
returns-in-Ok-false-clause-served g c = c.add.ensures.served

pub returns-in-Err-add-clause-served : goal.returns-in-Err-add-clause-served
returns-in-Err-add-clause-served g c = c.add.ensures.served

pub returns-in-Ok-false-clause-form : goal.returns-in-Ok-false-clause-form
returns-in-Ok-false-clause-form g c = tt

pub returns-in-Err-add-clause-form : goal.returns-in-Err-add-clause-form
returns-in-Err-add-clause-form g c = tt

pub returns-in-Err-add-clause-adds : goal.returns-in-Err-add-clause-adds
returns-in-Err-add-clause-adds g c = tt
