use Rattle.std.proofs.Common.{◌≡◌, Bool, true, false, not, is_some, Ok, sym, ap, subst, ◌∙◌, refl}
use Rattle.std.specs.FinMap.{get}
use Rattle.object_codec.specs.Forms.{IsLeast}
use Rattle.set_object.specs.Members.{members, form_of}
use Rattle.set_object.specs.Strings.{Strings, FitsMembers}
use Rattle.rdb_reader.proofs.Unpacked.{joins, joins_twice}
use Rattle.rdb_reader.proofs.Rising.{joined_least}
use Rattle.rdb_reader.proofs.payloads.join.Goals as goal

pub returns-in-Ok-true-clause-makes : goal.returns-in-Ok-true-clause-makes
returns-in-Ok-true-clause-makes g c =
    let old = members (g.B.BlockStore.blocks c.args.store.now) c.args.members.now in
    let new = members (g.B.BlockStore.blocks c.add.new.store) c.add.new.self in
    let fresh : true ≡ not (is_some (get old c.args.text.now)) = sym c.in-Ok-true.field-0-test ∙ c.in-Ok-true.ensures.there in
    let added = c.add.ensures.added (c.in-Ok-true.is ∙ ap (λ (b : Bool). Ok b) c.in-Ok-true.field-0-test) in
    joins old new c.args.text.now fresh added.members_are

pub returns-in-Ok-true-clause-form : goal.returns-in-Ok-true-clause-form
returns-in-Ok-true-clause-form g c least =
    let old = members (g.B.BlockStore.blocks c.args.store.now) c.args.members.now in
    let yes = c.in-Ok-true.is ∙ ap (λ (b : Bool). Ok b) c.in-Ok-true.field-0-test in
    let added = c.add.ensures.added yes in
    subst (λ (ms : Strings). IsLeast (FitsMembers c.args.members.now.limits ms) (form_of c.add.new.self)) (sym added.members_are)
    (joined_least c.args.members.now.limits old c.args.text.now (form_of c.args.members.now) (form_of c.add.new.self) least (c.add.ensures.form yes))

pub returns-in-Ok-false-clause-makes : goal.returns-in-Ok-false-clause-makes
returns-in-Ok-false-clause-makes g c =
    let old = members (g.B.BlockStore.blocks c.args.store.now) c.args.members.now in
    let there : false ≡ not (is_some (get old c.args.text.now)) = sym c.in-Ok-false.field-0-test ∙ c.in-Ok-false.ensures.there in
    rw c.twice.ensures (joins_twice old c.args.text.now there, refl)

pub add-requires : goal.add-requires
add-requires g c = c.requires

pub returns-in-Ok-true-clause-sound : goal.returns-in-Ok-true-clause-sound
returns-in-Ok-true-clause-sound g c = (c.add.ensures.added (c.in-Ok-true.is ∙ ap (λ (b : Bool). Ok b) c.in-Ok-true.field-0-test)).sound

pub returns-in-Ok-true-clause-settings : goal.returns-in-Ok-true-clause-settings
returns-in-Ok-true-clause-settings g c = (c.add.ensures.added (c.in-Ok-true.is ∙ ap (λ (b : Bool). Ok b) c.in-Ok-true.field-0-test)).settings

pub returns-in-Ok-true-clause-changes : goal.returns-in-Ok-true-clause-changes
returns-in-Ok-true-clause-changes g c = (c.add.ensures.added (c.in-Ok-true.is ∙ ap (λ (b : Bool). Ok b) c.in-Ok-true.field-0-test)).changes

pub returns-in-Ok-true-clause-served : goal.returns-in-Ok-true-clause-served
returns-in-Ok-true-clause-served g c = c.add.ensures.served

pub returns-in-Ok-false-clause-served : goal.returns-in-Ok-false-clause-served
returns-in-Ok-false-clause-served g c = c.add.ensures.served

pub returns-in-Err-clause-served : goal.returns-in-Err-clause-served
returns-in-Err-clause-served g c = c.add.ensures.served

pub returns-in-Ok-false-clause-form : goal.returns-in-Ok-false-clause-form
returns-in-Ok-false-clause-form g c = tt

pub returns-in-Err-clause-form : goal.returns-in-Err-clause-form
returns-in-Err-clause-form g c = tt

pub returns-in-Err-clause-makes : goal.returns-in-Err-clause-makes
returns-in-Err-clause-makes g c = tt
