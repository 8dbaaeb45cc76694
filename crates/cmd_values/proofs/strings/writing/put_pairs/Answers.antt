use Rattle.std.proofs.Common.{◌≡◌, rules, refl, subst, drop, ◌+◌, arith}
use Rattle.std.proofs.lemmas.List.{drop_all}
use Rattle.std.specs.Prelude.{◌∷◌}
use Rattle.blocks.specs.Blocks.{no_step}
use Rattle.blocks.proofs.Serve.{served_then}
use Rattle.keyspace.specs.Scopes.{one_key, some_keys, first_words}
use Rattle.keyspace.specs.Insides.{Insides}
use Rattle.keyspace.proofs.Insides.{insides_none, insides_then}
use Rattle.keyspace.proofs.Calls.{settings_then}
use Rattle.keyspace.proofs.Running.{same_settings}
use Rattle.keyspace.proofs.Serving.{unmoved, further}
use Rattle.keyspace.specs.Forms.{Whole}
use Rattle.keyspace.proofs.Forming.{formed_none, formed_then}
use Rattle.cmd_values.proofs.Pairs.{rest_from, ArePart, first_part, rest_part, within_pairs, insides_pairs}
use Rattle.cmd_values.proofs.strings.writing.put_pairs.Goals as goal
use Rattle.std.specs.Prelude.{take}
use Rattle.held.specs.Calls.{AllAt}
use Rattle.keyspace.specs.Values.{IsWrittenWhole}
use Rattle.keyspace.specs.Forms.{ArePlaced, HasForm, places_whole}
use Rattle.cmd_values.proofs.Placing.{one_more_place, still_whole, suc_plus, take_whole}

pub loop-pair-init : goal.loop-pair-init
loop-pair-init g c = record {
  world = refl;
  sound = c.requires.ready.sound;
  served = no_step;
  part = λ key there. there;
  within = unmoved (some_keys c.args.at.now.db (first_words c.args.pairs.now)) c.args.keyspace.now.bases (g.B.BlockStore.blocks c.args.keyspace.now.store);
  insides = insides_none (some_keys c.args.at.now.db (first_words c.args.pairs.now)) c.args.keyspace.now.bases (g.B.BlockStore.blocks c.args.keyspace.now.store);
  settings = same_settings c.args.keyspace.now.bases;
  forms = formed_none g.B.BlockStore.blocks Whole c.args.keyspace.now;
  whole = tt;
}

pub returns-in_err-put_string-clause-held : goal.returns-in_err-put_string-clause-held
returns-in_err-put_string-clause-held g c =
    let blocks = g.B.BlockStore.blocks in
    let held = c.put_string.ensures.held in
    let pair = c.pair-item.result in
    let others = drop (c.loop-pair.pair-index + 1) c.args.pairs.now in
    let is : drop c.loop-pair.pair-index c.args.pairs.now ≡ pair ∷ others = rest_from c.args.pairs.now c.loop-pair.pair-index pair (search rules) c.pair-item.is in
    let part : ArePart (pair ∷ others) c.args.pairs.now = subst (λ l. ArePart l c.args.pairs.now) is c.loop-pair.invariant.part in
    let named : c.as_slice.result.now ≡ pair.0 = search rules in
    record {
      sound = held.sound;
      served = served_then _ _ _ c.loop-pair.invariant.served held.served;
      settings = settings_then _ _ _ c.loop-pair.invariant.settings held.settings;
      within = further (some_keys c.args.at.now.db (first_words c.args.pairs.now)) c.args.keyspace.now.bases c.loop-pair.keyspace.bases c.put_string.new.keyspace.bases
          (blocks c.args.keyspace.now.store) (blocks c.loop-pair.keyspace.store) (blocks c.put_string.new.keyspace.store) c.loop-pair.invariant.within
          (within_pairs c.args.at.now.db pair.0 c.args.pairs.now (first_part pair others c.args.pairs.now part) c.loop-pair.keyspace.bases c.put_string.new.keyspace.bases
          (blocks c.loop-pair.keyspace.store) (blocks c.put_string.new.keyspace.store) (search rules));
      insides = insides_then (some_keys c.args.at.now.db (first_words c.args.pairs.now)) c.args.keyspace.now.bases c.loop-pair.keyspace.bases (blocks c.args.keyspace.now.store)
          (blocks c.loop-pair.keyspace.store) c.loop-pair.invariant.settings.seed c.loop-pair.invariant.insides c.put_string.new.keyspace.bases (blocks c.put_string.new.keyspace.store)
          (insides_pairs c.args.at.now.db pair.0 c.args.pairs.now (first_part pair others c.args.pairs.now part) c.loop-pair.keyspace.bases c.put_string.new.keyspace.bases
          (blocks c.loop-pair.keyspace.store) (blocks c.put_string.new.keyspace.store)
          (subst (λ k. Insides (one_key c.args.at.now.db k) c.loop-pair.keyspace.bases c.put_string.new.keyspace.bases (blocks c.loop-pair.keyspace.store)
          (blocks c.put_string.new.keyspace.store)) named held.insides));
    }

pub loop-pair-preserved : goal.loop-pair-preserved
loop-pair-preserved g c =
    let blocks = g.B.BlockStore.blocks in
    let held = c.put_string.ensures.held in
    let pair = c.pair-item.result in
    let others = drop (c.loop-pair.pair-index + 1) c.args.pairs.now in
    let is : drop c.loop-pair.pair-index c.args.pairs.now ≡ pair ∷ others = rest_from c.args.pairs.now c.loop-pair.pair-index pair (search rules) c.pair-item.is in
    let part : ArePart (pair ∷ others) c.args.pairs.now = subst (λ l. ArePart l c.args.pairs.now) is c.loop-pair.invariant.part in
    let named : c.as_slice.result.now ≡ pair.0 = search rules in
    let now = c.put_string.new.keyspace.bases in
    let later = blocks c.put_string.new.keyspace.store in
    let key : c.as_slice.result.now ≡ pair.0 = search rules in
    let last : AllAt IsWrittenWhole now later c.args.at.now.db pair.0 = subst (λ k. AllAt IsWrittenWhole now later c.args.at.now.db k) key c.in_ok-put_string.ensures.whole in
    let old = c.args.keyspace.now.bases in
    let m = blocks c.args.keyspace.now.store in
    let whole = still_whole c.args.at.now.db c.loop-pair.keyspace.bases now (blocks c.loop-pair.keyspace.store) later pair.0 (search rules) last old m
    (take c.loop-pair.pair-index c.args.pairs.now) c.loop-pair.invariant.whole in
    let more = one_more_place (λ place. AllAt (HasForm place.form old m) now later place.db place.key) c.args.at.now.db c.args.pairs.now c.loop-pair.pair-index pair others is whole last in
    record {
      world = search rules;
      sound = held.sound;
      served = served_then _ _ _ c.loop-pair.invariant.served held.served;
      part = rest_part pair others c.args.pairs.now part;
      forms = formed_then blocks c.args.keyspace.now c.loop-pair.keyspace c.put_string.new.keyspace c.loop-pair.invariant.forms c.in_ok-put_string.ensures.forms;
      whole = subst (λ n. ArePlaced (places_whole c.args.at.now.db (take n c.args.pairs.now)) old now m later) (suc_plus c.loop-pair.pair-index) more;
      settings = settings_then _ _ _ c.loop-pair.invariant.settings held.settings;
      within = further (some_keys c.args.at.now.db (first_words c.args.pairs.now)) c.args.keyspace.now.bases c.loop-pair.keyspace.bases c.put_string.new.keyspace.bases
          (blocks c.args.keyspace.now.store) (blocks c.loop-pair.keyspace.store) (blocks c.put_string.new.keyspace.store) c.loop-pair.invariant.within
          (within_pairs c.args.at.now.db pair.0 c.args.pairs.now (first_part pair others c.args.pairs.now part) c.loop-pair.keyspace.bases c.put_string.new.keyspace.bases
          (blocks c.loop-pair.keyspace.store) (blocks c.put_string.new.keyspace.store) (search rules));
      insides = insides_then (some_keys c.args.at.now.db (first_words c.args.pairs.now)) c.args.keyspace.now.bases c.loop-pair.keyspace.bases (blocks c.args.keyspace.now.store)
          (blocks c.loop-pair.keyspace.store) c.loop-pair.invariant.settings.seed c.loop-pair.invariant.insides c.put_string.new.keyspace.bases (blocks c.put_string.new.keyspace.store)
          (insides_pairs c.args.at.now.db pair.0 c.args.pairs.now (first_part pair others c.args.pairs.now part) c.loop-pair.keyspace.bases c.put_string.new.keyspace.bases
          (blocks c.loop-pair.keyspace.store) (blocks c.put_string.new.keyspace.store)
          (subst (λ k. Insides (one_key c.args.at.now.db k) c.loop-pair.keyspace.bases c.put_string.new.keyspace.bases (blocks c.loop-pair.keyspace.store)
          (blocks c.put_string.new.keyspace.store)) named held.insides));
    }

pub returns-clause-whole : goal.returns-clause-whole
returns-clause-whole g c =
    let blocks = g.B.BlockStore.blocks in
    subst (λ l. ArePlaced (places_whole c.args.at.now.db l) c.args.keyspace.now.bases c.loop-pair.keyspace.bases (blocks c.args.keyspace.now.store) (blocks c.loop-pair.keyspace.store))
    (take_whole c.args.pairs.now c.loop-pair.pair-index (drop_all c.loop-pair.pair-index c.args.pairs.now (omega (arith, c.loop-pair-test.false)))) c.loop-pair.invariant.whole

pub returns-clause-held : goal.returns-clause-held
returns-clause-held g c = record {
  sound = c.loop-pair.invariant.sound;
  served = c.loop-pair.invariant.served;
  settings = c.loop-pair.invariant.settings;
  within = c.loop-pair.invariant.within;
  insides = c.loop-pair.invariant.insides;
}
