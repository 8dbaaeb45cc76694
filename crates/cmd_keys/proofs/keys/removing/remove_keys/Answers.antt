use Rattle.std.proofs.Common.{◌≡◌, ℕ, suc, ◌+◌, ◌<◌, List, ◌∷◌, length, drop, drop-cons, length-drop, add-one, refl, sym, ap, arith, rules}
use Rattle.keyspace.proofs.Running.{same_settings, held_unwritten}
use Rattle.keyspace.specs.Scopes.{no_key}
use Rattle.keyspace.proofs.Serving.{unmoved, further}
use Rattle.keyspace.proofs.Calls.{settings_then}
use Rattle.blocks.proofs.Serve.{served_then}
use Rattle.blocks.specs.Blocks.{no_step}
use Rattle.cmd_keys.proofs.keys.removing.remove_keys.Goals as goal

pub loop-key-init : goal.loop-key-init
loop-key-init g c =
    record {
      count = omega arith;
      few = omega arith;
      world = refl;
      sound = c.requires.ready.sound;
      served = no_step;
      within =
          unmoved (no_key c.args.at.now.db) c.args.keyspace.now.bases (g.B.BlockStore.blocks c.args.keyspace.now.store);
      settings = same_settings c.args.keyspace.now.bases;
    }

pub loop-key-preserved : goal.loop-key-preserved
loop-key-preserved g c =
    let keys = c.args.keys.now in
    let i = c.loop-key.key-index in
    let key = c.key-item.result in
    let within : i < length keys = search rules in
    let is : drop i keys ≡ key ∷ drop (i + 1) keys = rw (add-one, drop-cons keys i key) (ap (λ (k : List ℕ). k ∷ drop (suc i) keys) (sym c.key-item.is)) in
    let more : length (drop (i + 1) keys) + 1 ≡ length (drop i keys) = omega (arith, within, length-drop i keys, length-drop (i + 1) keys) in
    record {
      count = search rules;
      few = search rules;
      world = search rules;
      sound = c.remove_key.ensures.held.sound;
      served =
          served_then _ _ _ c.loop-key.invariant.served c.remove_key.ensures.held.served;
      within =
          further (no_key c.args.at.now.db) _ _ _ _ _ _ c.loop-key.invariant.within c.remove_key.ensures.held.within;
      settings =
          settings_then _ _ _ c.loop-key.invariant.settings c.remove_key.ensures.held.settings;
    }

pub returns-clause-held : goal.returns-clause-held
returns-clause-held g c =
    held_unwritten g.B.BlockStore.blocks g.B.BlockStore.step (no_key c.args.at.now.db) c.args.keyspace.now c.loop-key.keyspace (λ number key no. no.1) c.requires.ready.sound
    c.loop-key.invariant.sound c.loop-key.invariant.served c.loop-key.invariant.settings c.loop-key.invariant.within
