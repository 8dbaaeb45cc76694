use Rattle.std.proofs.Common.{◌≡◌, ℕ, List, [], Option, length, sym, ap, subst, ◌∙◌, refl, arith, rules}
use Rattle.std.specs.Prelude.{MatchOption}
use Rattle.listpack.specs.Pack.{IsAt, texts}
use Rattle.blocks.specs.Blocks.{no_step}
use Rattle.blocks.proofs.Change.{changes_same, changes_then}
use Rattle.blocks.proofs.Serve.{served_then}
use Rattle.object_codec.specs.Forms.{IsLeast}
use Rattle.object_codec.specs.declared.limits.Limits.{Limits}
use Rattle.plain_world.specs.Worlds.{SetOf}
use Rattle.set_object.specs.Members.{members, form_of}
use Rattle.set_object.specs.Strings.{FitsMembers}
use Rattle.rdb_grammar.specs.Payloads.{with_text}
use Rattle.rdb_reader.proofs.Unpacked.{put_one, put_all, breaks_on}
use Rattle.rdb_reader.proofs.payloads.join_texts.Goals as goal

pub loop-init : goal.loop-init
loop-init g c = record {
  place = search rules;
  turns = refl;
  sound = c.requires;
  settings = record { limits = refl; seed = refl };
  form = λ least. least;
  changes = changes_same _ _ c.requires.owned;
  served = no_step;
}

pub loop-preserved : goal.loop-preserved
loop-preserved g c =
    let blocks = g.B.BlockStore.blocks in
    let bytes = c.args.pack.now.bytes.now in
    let list = texts bytes in
    let i = c.loop.counter in
    let inv = c.loop.invariant in
    let first = SetOf (members (blocks c.args.store.now) c.args.members.now) in
    let made = SetOf (members (blocks c.loop.store) c.loop.members) in
    let more = SetOf (members (blocks c.join.new.store) c.join.new.members) in
    let at : IsAt bytes i c.in-Some.place = subst (λ (o : Option ℕ). MatchOption o (i ≡ length list) (λ at. IsAt bytes i at)) c.in-Some.is inv.place in
    let is = c.text.ensures ∙ c.get.ensures.text i at in
    record {
      place = c.next-next.ensures.place i at;
      turns = put_one with_text first list i [] made more at.0 inv.turns (ap (λ (t : List ℕ). with_text made t) (sym is) ∙ c.in-Ok.ensures.makes);
      sound = c.join.ensures.sound;
      settings = record { limits = c.join.ensures.settings.limits ∙ inv.settings.limits; seed = c.join.ensures.settings.seed ∙ inv.settings.seed };
      form = λ least.
          subst
          (λ (limits : Limits). IsLeast (FitsMembers limits (members (blocks c.loop.store) c.loop.members)) (form_of c.loop.members)
          → IsLeast (FitsMembers limits (members (blocks c.join.new.store) c.join.new.members)) (form_of c.join.new.members)) inv.settings.limits c.in-Ok.ensures.form (inv.form least);
      changes = changes_then _ _ _ _ _ _ inv.changes c.join.ensures.changes;
      served = served_then _ _ _ inv.served c.join.ensures.served;
    }

pub returns-in-Err-clause-makes : goal.returns-in-Err-clause-makes
returns-in-Err-clause-makes g c =
    let blocks = g.B.BlockStore.blocks in
    let bytes = c.args.pack.now.bytes.now in
    let list = texts bytes in
    let i = c.loop.counter in
    let inv = c.loop.invariant in
    let first = SetOf (members (blocks c.args.store.now) c.args.members.now) in
    let made = SetOf (members (blocks c.loop.store) c.loop.members) in
    let more = SetOf (members (blocks c.join.new.store) c.join.new.members) in
    let at : IsAt bytes i c.in-Some.place = subst (λ (o : Option ℕ). MatchOption o (i ≡ length list) (λ at. IsAt bytes i at)) c.in-Some.is inv.place in
    breaks_on with_text first list i [] c.text.result.now made more more c.args.at at.0 (c.text.ensures ∙ c.get.ensures.text i at) inv.turns c.in-Err.fault c.in-Err.ensures.makes

pub returns-in-Err-clause-settings : goal.returns-in-Err-clause-settings
returns-in-Err-clause-settings g c = record { limits = c.join.ensures.settings.limits ∙ c.loop.invariant.settings.limits; seed = c.join.ensures.settings.seed ∙ c.loop.invariant.settings.seed }

pub returns-in-Err-clause-changes : goal.returns-in-Err-clause-changes
returns-in-Err-clause-changes g c = changes_then _ _ _ _ _ _ c.loop.invariant.changes c.join.ensures.changes

pub returns-clause-makes : goal.returns-clause-makes
returns-clause-makes g c =
    let blocks = g.B.BlockStore.blocks in
    let list = texts c.args.pack.now.bytes.now in
    let first = SetOf (members (blocks c.args.store.now) c.args.members.now) in
    let made = SetOf (members (blocks c.loop.store) c.loop.members) in
    let all = c.len-end.ensures in
    put_all with_text first list c.loop.counter made (omega (arith, all, c.loop-test.false)) c.loop.invariant.turns

pub join-requires : goal.join-requires
join-requires g c = c.loop.invariant.sound

pub returns-in-Err-clause-sound : goal.returns-in-Err-clause-sound
returns-in-Err-clause-sound g c = c.join.ensures.sound

pub returns-in-Err-clause-form : goal.returns-in-Err-clause-form
returns-in-Err-clause-form g c = tt

pub returns-in-Err-clause-served : goal.returns-in-Err-clause-served
returns-in-Err-clause-served g c = served_then _ _ _ c.loop.invariant.served c.join.ensures.served

pub returns-clause-sound : goal.returns-clause-sound
returns-clause-sound g c = c.loop.invariant.sound

pub returns-clause-settings : goal.returns-clause-settings
returns-clause-settings g c = c.loop.invariant.settings

pub returns-clause-form : goal.returns-clause-form
returns-clause-form g c = c.loop.invariant.form

pub returns-clause-changes : goal.returns-clause-changes
returns-clause-changes g c = c.loop.invariant.changes

pub returns-clause-served : goal.returns-clause-served
returns-clause-served g c = c.loop.invariant.served
