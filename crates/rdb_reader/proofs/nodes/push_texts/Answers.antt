use Rattle.std.proofs.Common.{◌≡◌, ℕ, ◌+◌, List, [], ◌∷◌, ◌++◌, Option, length, get_or, ap, subst, ◌∙◌, refl, arith, rules}
use Rattle.std.specs.Prelude.{MatchOption}
use Rattle.blocks.specs.Blocks.{no_step}
use Rattle.blocks.proofs.Change.{changes_same, changes_then}
use Rattle.blocks.proofs.Serve.{served_then}
use Rattle.listpack.specs.Pack.{IsAt, texts}
use Rattle.plain_world.specs.Worlds.{ListOf}
use Rattle.quicklist.specs.Chain.{elements}
use Rattle.rdb_grammar.specs.Payloads.{with_text}
use Rattle.rdb_reader.proofs.Unpacked.{put_one, put_all, list_more}
use Rattle.rdb_reader.proofs.nodes.push_texts.Goals as goal

pub loop-init : goal.loop-init
loop-init g c = record {
  place = search rules;
  turns = refl;
  sound = c.requires;
  form = λ least. least;
  changes = changes_same _ _ c.requires.chain.owned;
  served = no_step;
}

pub loop-preserved : goal.loop-preserved
loop-preserved g c =
    let blocks = g.B.BlockStore.blocks in
    let bytes = c.args.pack.now.bytes.now in
    let list = texts bytes in
    let i = c.loop.counter in
    let inv = c.loop.invariant in
    let old = elements (blocks c.loop.store) c.loop.list in
    let new = elements (blocks c.push.new.store) c.push.new.list in
    let at : IsAt bytes i c.in-Some.place = subst (λ (o : Option ℕ). MatchOption o (i ≡ length list) (λ at. IsAt bytes i at)) c.in-Some.is inv.place in
    let is = c.text.ensures ∙ c.get.ensures.text i at in
    let more : new ≡ old ++ get_or list i [] ∷ [] = c.in-Ok.ensures.pushed ∙ ap (λ (t : List ℕ). old ++ t ∷ []) is in
    record {
      place = c.next-next.ensures.place i at;
      turns = put_one with_text (ListOf (elements (blocks c.args.store.now) c.args.list.now)) list i [] (ListOf old) (ListOf new) at.0 inv.turns (list_more old new (get_or list i []) more);
      sound = c.push.ensures.sound;
      form = λ least. c.in-Ok.ensures.form (inv.form least);
      changes = changes_then _ _ _ _ _ _ inv.changes c.push.ensures.changes;
      served = served_then _ _ _ inv.served c.push.ensures.served;
    }

pub returns-in-Err-clause-makes : goal.returns-in-Err-clause-makes
returns-in-Err-clause-makes g c = rw c.in-Err.ensures.memory tt

pub returns-in-Err-clause-changes : goal.returns-in-Err-clause-changes
returns-in-Err-clause-changes g c = changes_then _ _ _ _ _ _ c.loop.invariant.changes c.push.ensures.changes

pub returns-clause-makes : goal.returns-clause-makes
returns-clause-makes g c =
    let blocks = g.B.BlockStore.blocks in
    let list = texts c.args.pack.now.bytes.now in
    let all = c.len-end.ensures in
    put_all with_text (ListOf (elements (blocks c.args.store.now) c.args.list.now)) list c.loop.counter (ListOf (elements (blocks c.loop.store) c.loop.list))
    (omega (arith, all, c.loop-test.false)) c.loop.invariant.turns

pub push-requires : goal.push-requires
push-requires g c = c.loop.invariant.sound

pub returns-in-Err-clause-sound : goal.returns-in-Err-clause-sound
returns-in-Err-clause-sound g c = c.push.ensures.sound

pub returns-in-Err-clause-form : goal.returns-in-Err-clause-form
returns-in-Err-clause-form g c = tt

pub returns-in-Err-clause-served : goal.returns-in-Err-clause-served
returns-in-Err-clause-served g c = served_then _ _ _ c.loop.invariant.served c.push.ensures.served

pub returns-clause-sound : goal.returns-clause-sound
returns-clause-sound g c = c.loop.invariant.sound

pub returns-clause-form : goal.returns-clause-form
returns-clause-form g c = c.loop.invariant.form

pub returns-clause-changes : goal.returns-clause-changes
returns-clause-changes g c = c.loop.invariant.changes

pub returns-clause-served : goal.returns-clause-served
returns-clause-served g c = c.loop.invariant.served
