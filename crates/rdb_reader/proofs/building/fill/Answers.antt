use Rattle.std.proofs.Common.{◌≡◌, ℕ, suc, ◌-◌, ◌+◌, sym, ap, subst, ◌∙◌, drop, arith}
use Rattle.blocks.specs.Blocks.{no_step}
use Rattle.blocks.proofs.Change.{changes_owned, changes_same, changes_then}
use Rattle.blocks.proofs.Serve.{served_then}
use Rattle.keyspace.specs.Values.{value_of}
use Rattle.rdb_grammar.specs.Format.{in_turn}
use Rattle.rdb_grammar.specs.Elements.{with_one}
use Rattle.rdb_grammar.proofs.PartsExact.{with_one_exact}
use Rattle.rdb_grammar.proofs.Turns.{GoesOn, one_on, all_stand}
use Rattle.rdb_reader.proofs.Elements.{fails_on}
use Rattle.rdb_reader.proofs.building.fill.Goals as goal

pub elements-init : goal.elements-init
elements-init g c =
    let none : c.args.count - 0 ≡ c.args.count = omega arith in
    record {
      sound = λ limits seed sound. sound;
      form = λ limits seed sound news. news;
      turns = ap (λ (n : ℕ). (in_turn with_one n (value_of (g.B.BlockStore.blocks c.args.store.now) c.args.value.now)).read (drop c.args.at c.args.bytes.now)) (sym none);
      inside = c.requires.at;
      changes = changes_same _ _ c.requires.owned;
      served = no_step;
    }

pub add_element-requires-clause-sound : goal.add_element-requires-clause-sound
add_element-requires-clause-sound g c = (c.requires.sound.0, c.requires.sound.1, c.elements.invariant.sound c.requires.sound.0 c.requires.sound.1 c.requires.sound.2)

pub add_element-requires-clause-owned : goal.add_element-requires-clause-owned
add_element-requires-clause-owned g c = changes_owned _ _ _ _ c.elements.invariant.changes

pub elements-preserved : goal.elements-preserved
elements-preserved g c =
    let blocks = g.B.BlockStore.blocks in
    let inv = c.elements.invariant in
    let first = value_of (blocks c.args.store.now) c.args.value.now in
    let made = value_of (blocks c.elements.store) c.elements.value in
    let more = value_of (blocks c.add_element.new.store) c.add_element.new.value in
    let rest = c.args.count - (c.elements.counter + 1) in
    let left : c.args.count - c.elements.counter ≡ suc rest = omega (arith, c.elements-test.true) in
    let turns = subst (λ (n : ℕ). GoesOn with_one c.args.bytes.now c.args.at c.args.count first c.elements.next n made) left inv.turns in
    record {
      sound = λ limits seed sound. c.add_element.ensures.sound limits seed (inv.sound limits seed sound);
      form = λ limits seed sound news. c.in-Ok.ensures.form limits seed (inv.sound limits seed sound) (inv.form limits seed sound news);
      turns = turns ∙ one_on with_one with_one_exact c.args.bytes.now c.elements.next rest made c.in-Ok.behind more c.in-Ok.ensures.adds;
      inside = c.in-Ok.ensures.adds.inside;
      changes = changes_then _ _ _ _ _ _ inv.changes c.add_element.ensures.changes;
      served = served_then _ _ _ inv.served c.add_element.ensures.served;
    }

pub returns-in-Err-clause-fills : goal.returns-in-Err-clause-fills
returns-in-Err-clause-fills g c =
    let blocks = g.B.BlockStore.blocks in
    let first = value_of (blocks c.args.store.now) c.args.value.now in
    let made = value_of (blocks c.elements.store) c.elements.value in
    let rest = c.args.count - (c.elements.counter + 1) in
    let left : c.args.count - c.elements.counter ≡ suc rest = omega (arith, c.elements-test.true) in
    let turns = subst (λ (n : ℕ). GoesOn with_one c.args.bytes.now c.args.at c.args.count first c.elements.next n made) left c.elements.invariant.turns in
    fails_on with_one with_one_exact c.args.bytes.now c.args.at c.args.count first c.elements.next rest made (value_of (blocks c.add_element.new.store) c.add_element.new.value)
    c.requires.at turns c.in-Err.fault c.in-Err.ensures.adds

pub returns-in-Err-clause-sound : goal.returns-in-Err-clause-sound
returns-in-Err-clause-sound g c = λ limits seed sound. c.add_element.ensures.sound limits seed (c.elements.invariant.sound limits seed sound)

pub returns-in-Err-clause-changes : goal.returns-in-Err-clause-changes
returns-in-Err-clause-changes g c = changes_then _ _ _ _ _ _ c.elements.invariant.changes c.add_element.ensures.changes

pub returns-clause-fills : goal.returns-clause-fills
returns-clause-fills g c =
    let blocks = g.B.BlockStore.blocks in
    let first = value_of (blocks c.args.store.now) c.args.value.now in
    let made = value_of (blocks c.elements.store) c.elements.value in
    let none : c.args.count - c.elements.counter ≡ 0 = omega (arith, c.elements-test.false) in
    all_stand with_one with_one_exact c.args.bytes.now c.args.at c.args.count first c.elements.next made c.requires.at c.elements.invariant.inside
    (subst (λ (n : ℕ). GoesOn with_one c.args.bytes.now c.args.at c.args.count first c.elements.next n made) none c.elements.invariant.turns)
