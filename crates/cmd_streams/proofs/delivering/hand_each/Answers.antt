use Rattle.std.proofs.Common.{◌≡◌, ◌+◌, ◌∷◌, ◌++◌, drop, map, rules, refl, subst}
use Rattle.plain_world.specs.Worlds.{look}
use Rattle.plain_model.specs.StreamSteps.{stream_there}
use Rattle.plain_model.specs.GroupSteps.{hand_at}
use Rattle.keyspace.specs.Forms.{Log}
use Rattle.keyspace.specs.Scopes.{asked_keys, one_key, some_keys}
use Rattle.keyspace.specs.Commands.{KeepsTo, visible}
use Rattle.keyspace.proofs.Forming.{formed_none}
use Rattle.keyspace.proofs.Running.{held_then, same_held}
use Rattle.cmd_streams.specs.Handed.{key_parts, reader, told_of_key}
use Rattle.cmd_streams.proofs.Rests.{rest_from}
use Rattle.cmd_streams.proofs.Handing.{told_step, world_step}
use Rattle.cmd_streams.proofs.Handouts.{AreAsked, first_asked, rest_asked, held_wider, log_then}
use Rattle.cmd_streams.proofs.delivering.hand_each.Goals as goal

pub loop-one-init : goal.loop-one-init
loop-one-init g c = record {
  told = refl;
  world = refl;
  held = same_held g.B.BlockStore.blocks g.B.BlockStore.step (some_keys c.args.at.now.db (asked_keys c.args.asked.now)) c.args.keyspace.now c.requires.ready.sound;
  part = λ key there. there;
  forms = formed_none g.B.BlockStore.blocks Log c.args.keyspace.now;
}

pub loop-one-preserved : goal.loop-one-preserved
loop-one-preserved g c =
    let blocks = g.B.BlockStore.blocks in
    let step = g.B.BlockStore.step in
    let at = c.args.at.now in
    let db = at.db in
    let asked = c.args.asked.now in
    let who = reader at.moment c.args.who.now in
    let i = c.loop-one.one-index in
    let one = c.one-item.result in
    let others = drop (i + 1) asked in
    let old = c.loop-one.keyspace in
    let new = c.hand_one.new.keyspace in
    let handed = c.in_ok-handed.handed in
    let rest : drop i asked ≡ one ∷ others = rest_from asked i one (search rules) c.one-item.is in
    let part : AreAsked (one ∷ others) asked = subst (λ l. AreAsked l asked) rest c.loop-one.invariant.part in
    let key : c.as_slice-key.result.now ≡ one.0 = c.as_slice-key.ensures in
    let held = subst (λ k. KeepsTo blocks step (one_key db k) old new) key c.hand_one.ensures.held in
    let gives : hand_at (visible blocks old at) who one.0 one.1 (stream_there (look (visible blocks old at) one.0)) ≡ (told_of_key one.0 handed, visible blocks new at) =
    subst (λ k. hand_at (visible blocks old at) who k one.1 (stream_there (look (visible blocks old at) k)) ≡ (told_of_key k handed, visible blocks new at)) key c.in_ok-handed.ensures.gives in
    let put : map key_parts c.put_handed.new.found.items ≡ map key_parts c.loop-one.found.items ++ told_of_key one.0 handed =
    subst (λ k. map key_parts c.put_handed.new.found.items ≡ map key_parts c.loop-one.found.items ++ told_of_key k handed) key c.in_ok-put_handed.ensures in
    record {
      told = told_step (visible blocks old at) (visible blocks new at) who asked i one (told_of_key one.0 handed) rest gives (map key_parts c.loop-one.found.items)
          (map key_parts c.put_handed.new.found.items) _ put c.loop-one.invariant.told;
      world = world_step (visible blocks old at) (visible blocks new at) who asked i one (told_of_key one.0 handed) rest gives _ c.loop-one.invariant.world;
      held = held_then blocks step (some_keys db (asked_keys asked)) c.args.keyspace.now old new c.loop-one.invariant.held
          (held_wider blocks step db one.0 (asked_keys asked) (first_asked one others asked part) old new held);
      part = rest_asked one others asked part;
      forms = log_then blocks c.args.keyspace.now old new c.loop-one.invariant.forms c.in_ok-handed.ensures.forms;
    }

pub returns-in_err-handed-clause-held : goal.returns-in_err-handed-clause-held
returns-in_err-handed-clause-held g c =
    let blocks = g.B.BlockStore.blocks in
    let step = g.B.BlockStore.step in
    let db = c.args.at.now.db in
    let asked = c.args.asked.now in
    let i = c.loop-one.one-index in
    let one = c.one-item.result in
    let others = drop (i + 1) asked in
    let old = c.loop-one.keyspace in
    let new = c.hand_one.new.keyspace in
    let rest : drop i asked ≡ one ∷ others = rest_from asked i one (search rules) c.one-item.is in
    let part : AreAsked (one ∷ others) asked = subst (λ l. AreAsked l asked) rest c.loop-one.invariant.part in
    let held = subst (λ k. KeepsTo blocks step (one_key db k) old new) c.as_slice-key.ensures c.hand_one.ensures.held in
    held_then blocks step (some_keys db (asked_keys asked)) c.args.keyspace.now old new c.loop-one.invariant.held
    (held_wider blocks step db one.0 (asked_keys asked) (first_asked one others asked part) old new held)

pub returns-in_err-put_handed-clause-held : goal.returns-in_err-put_handed-clause-held
returns-in_err-put_handed-clause-held g c =
    let blocks = g.B.BlockStore.blocks in
    let step = g.B.BlockStore.step in
    let db = c.args.at.now.db in
    let asked = c.args.asked.now in
    let i = c.loop-one.one-index in
    let one = c.one-item.result in
    let others = drop (i + 1) asked in
    let old = c.loop-one.keyspace in
    let new = c.hand_one.new.keyspace in
    let rest : drop i asked ≡ one ∷ others = rest_from asked i one (search rules) c.one-item.is in
    let part : AreAsked (one ∷ others) asked = subst (λ l. AreAsked l asked) rest c.loop-one.invariant.part in
    let held = subst (λ k. KeepsTo blocks step (one_key db k) old new) c.as_slice-key.ensures c.hand_one.ensures.held in
    held_then blocks step (some_keys db (asked_keys asked)) c.args.keyspace.now old new c.loop-one.invariant.held
    (held_wider blocks step db one.0 (asked_keys asked) (first_asked one others asked part) old new held)
