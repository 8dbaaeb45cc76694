use Rattle.std.proofs.Common.{◌≡◌, ℕ, List, [], map, sym, ap, subst, ◌∙◌, refl, arith}
use Rattle.std.specs.Prelude.{FitsSigned}
use Rattle.std.specs.Int.{w64}
use Rattle.std.proofs.lemmas.Int.{to_z-of_z}
use Rattle.std.proofs.lemmas.List.{length-map}
use Rattle.int_text.specs.Decimal.{canonical}
use Rattle.blocks.specs.Blocks.{no_step}
use Rattle.blocks.proofs.Change.{changes_same, changes_then}
use Rattle.blocks.proofs.Serve.{served_then}
use Rattle.object_codec.specs.Forms.{IsLeast}
use Rattle.object_codec.specs.declared.limits.Limits.{Limits}
use Rattle.plain_world.specs.Worlds.{SetOf}
use Rattle.set_object.specs.Members.{members, form_of}
use Rattle.set_object.specs.Strings.{FitsMembers}
use Rattle.rdb_grammar.specs.Payloads.{with_text}
use Rattle.rdb_reader.proofs.Unpacked.{put_one, put_all, breaks_on}
use Rattle.rdb_reader.proofs.Numbers.{number_there}
use Rattle.rdb_reader.proofs.payloads.join_numbers.Goals as goal

pub loop-index-init : goal.loop-index-init
loop-index-init g c = record {
  turns = refl;
  sound = c.requires;
  settings = record { limits = refl; seed = refl };
  form = λ least. least;
  changes = changes_same _ _ c.requires.owned;
  served = no_step;
}

pub loop-index-preserved : goal.loop-index-preserved
loop-index-preserved g c =
    let blocks = g.B.BlockStore.blocks in
    let list = map canonical c.args.numbers.now in
    let i = c.loop-index.index in
    let inv = c.loop-index.invariant in
    let first = SetOf (members (blocks c.args.store.now) c.args.members.now) in
    let made = SetOf (members (blocks c.loop-index.store) c.loop-index.members) in
    let more = SetOf (members (blocks c.join.new.store) c.join.new.members) in
    let there = number_there c.args.numbers.now i c.in-Some.number (sym c.at.ensures ∙ c.in-Some.is) in
    let typed = rw c.in-Some.is at c.at.type_inv in
    let fits : FitsSigned w64 c.in-Some.number = record { sfits = typed.1.1.1.1.0.1 } in
    let text : c.text.result.now ≡ canonical c.in-Some.number = rw (to_z-of_z w64 c.in-Some.number fits) at c.text.ensures in
    record {
      turns = put_one with_text first list i [] made more there.0 inv.turns (ap (λ (t : List ℕ). with_text made t) (there.1 ∙ sym text) ∙ c.in-Ok.ensures.makes);
      sound = c.join.ensures.sound;
      settings = record { limits = c.join.ensures.settings.limits ∙ inv.settings.limits; seed = c.join.ensures.settings.seed ∙ inv.settings.seed };
      form = λ least.
          subst
          (λ (limits : Limits). IsLeast (FitsMembers limits (members (blocks c.loop-index.store) c.loop-index.members)) (form_of c.loop-index.members)
          → IsLeast (FitsMembers limits (members (blocks c.join.new.store) c.join.new.members)) (form_of c.join.new.members)) inv.settings.limits c.in-Ok.ensures.form (inv.form least);
      changes = changes_then _ _ _ _ _ _ inv.changes c.join.ensures.changes;
      served = served_then _ _ _ inv.served c.join.ensures.served;
    }

pub returns-in-Err-clause-makes : goal.returns-in-Err-clause-makes
returns-in-Err-clause-makes g c =
    let blocks = g.B.BlockStore.blocks in
    let list = map canonical c.args.numbers.now in
    let i = c.loop-index.index in
    let first = SetOf (members (blocks c.args.store.now) c.args.members.now) in
    let made = SetOf (members (blocks c.loop-index.store) c.loop-index.members) in
    let more = SetOf (members (blocks c.join.new.store) c.join.new.members) in
    let there = number_there c.args.numbers.now i c.in-Some.number (sym c.at.ensures ∙ c.in-Some.is) in
    let typed = rw c.in-Some.is at c.at.type_inv in
    let fits : FitsSigned w64 c.in-Some.number = record { sfits = typed.1.1.1.1.0.1 } in
    let text : c.text.result.now ≡ canonical c.in-Some.number = rw (to_z-of_z w64 c.in-Some.number fits) at c.text.ensures in
    breaks_on with_text first list i [] c.text.result.now made more more c.args.at there.0 (text ∙ sym there.1) c.loop-index.invariant.turns c.in-Err.fault c.in-Err.ensures.makes

pub returns-in-Err-clause-settings : goal.returns-in-Err-clause-settings
returns-in-Err-clause-settings g c = record
    { limits = c.join.ensures.settings.limits ∙ c.loop-index.invariant.settings.limits; seed = c.join.ensures.settings.seed ∙ c.loop-index.invariant.settings.seed }

pub returns-in-Err-clause-changes : goal.returns-in-Err-clause-changes
returns-in-Err-clause-changes g c = changes_then _ _ _ _ _ _ c.loop-index.invariant.changes c.join.ensures.changes

pub returns-clause-makes : goal.returns-clause-makes
returns-clause-makes g c =
    let blocks = g.B.BlockStore.blocks in
    let list = map canonical c.args.numbers.now in
    let first = SetOf (members (blocks c.args.store.now) c.args.members.now) in
    let made = SetOf (members (blocks c.loop-index.store) c.loop-index.members) in
    let all = c.len-index-end.ensures.value in
    put_all with_text first list c.loop-index.index made (omega (arith, all, c.loop-index-test.false, length-map c.args.numbers.now canonical)) c.loop-index.invariant.turns

pub join-requires : goal.join-requires
join-requires g c = c.loop-index.invariant.sound

pub returns-in-Err-clause-sound : goal.returns-in-Err-clause-sound
returns-in-Err-clause-sound g c = c.join.ensures.sound

pub returns-in-Err-clause-form : goal.returns-in-Err-clause-form
returns-in-Err-clause-form g c = tt

pub returns-in-Err-clause-served : goal.returns-in-Err-clause-served
returns-in-Err-clause-served g c = served_then _ _ _ c.loop-index.invariant.served c.join.ensures.served

pub returns-clause-sound : goal.returns-clause-sound
returns-clause-sound g c = c.loop-index.invariant.sound

pub returns-clause-settings : goal.returns-clause-settings
returns-clause-settings g c = c.loop-index.invariant.settings

pub returns-clause-form : goal.returns-clause-form
returns-clause-form g c = c.loop-index.invariant.form

pub returns-clause-changes : goal.returns-clause-changes
returns-clause-changes g c = c.loop-index.invariant.changes

pub returns-clause-served : goal.returns-clause-served
returns-clause-served g c = c.loop-index.invariant.served
