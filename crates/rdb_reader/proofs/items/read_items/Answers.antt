use Rattle.std.proofs.Common.{refl}
use Rattle.blocks.proofs.Serve.{served_then}
use Rattle.keyspace.proofs.Calls.{settings_then}
use Rattle.blocks.specs.Blocks.{no_step}
use Rattle.keyspace.specs.Databases.{means}
use Rattle.keyspace.proofs.Serving.{unmoved, further}
use Rattle.rdb_reader.proofs.Anew.{none_new}
use Rattle.rdb_reader.specs.Loads.{any_key}
use Rattle.rdb_reader.proofs.Read.{holds_nothing}
use Rattle.rdb_reader.proofs.items.read_items.Goals as goal

pub items-init : goal.items-init
items-init g c =
    let world = means 0 c.args.keyspace.now.bases (g.B.BlockStore.blocks c.args.keyspace.now.store) in
    let s = c.in-Ok.ensures.begun in
    record {
      holds = holds_nothing c.args.bytes.now s.0 c.args.moment c.in-Ok.at world c.requires.empty s.1;
      sound = c.requires.sound;
      served = no_step;
      settings = record { limits = refl; seed = refl; turn = refl };
      within = unmoved any_key c.args.keyspace.now.bases (g.B.BlockStore.blocks c.args.keyspace.now.store);
      form = none_new c.args.keyspace.now.bases (g.B.BlockStore.blocks c.args.keyspace.now.store) c.requires.sound.arranged c.requires.empty;
    }

pub returns-in-Ok-End-clause-form : goal.returns-in-Ok-End-clause-form
returns-in-Ok-End-clause-form g c = c.in-Ok-End.ensures.form c.items.invariant.form

pub returns-in-Err-clause-sound : goal.returns-in-Err-clause-sound
returns-in-Err-clause-sound g c = c.requires.sound

pub returns-in-Err-clause-served : goal.returns-in-Err-clause-served
returns-in-Err-clause-served g c = no_step

pub returns-in-Err-clause-settings : goal.returns-in-Err-clause-settings
returns-in-Err-clause-settings g c = record { limits = refl; seed = refl; turn = refl }

pub returns-in-Err-clause-within : goal.returns-in-Err-clause-within
returns-in-Err-clause-within g c = unmoved any_key c.args.keyspace.now.bases (g.B.BlockStore.blocks c.args.keyspace.now.store)

pub returns-in-Err-clause-form : goal.returns-in-Err-clause-form
returns-in-Err-clause-form g c = tt

pub read_item-requires-clause-held : goal.read_item-requires-clause-held
read_item-requires-clause-held g c = c.items.invariant.holds

pub read_item-requires-clause-sound : goal.read_item-requires-clause-sound
read_item-requires-clause-sound g c = c.items.invariant.sound

pub returns-in-Ok-End-clause-sound : goal.returns-in-Ok-End-clause-sound
returns-in-Ok-End-clause-sound g c = c.read_item.ensures.sound

pub returns-in-Ok-End-clause-served : goal.returns-in-Ok-End-clause-served
returns-in-Ok-End-clause-served g c = served_then _ _ _ c.items.invariant.served c.read_item.ensures.served

pub returns-in-Ok-End-clause-settings : goal.returns-in-Ok-End-clause-settings
returns-in-Ok-End-clause-settings g c = settings_then c.args.keyspace.now.bases c.items.keyspace.bases c.read_item.new.keyspace.bases c.items.invariant.settings c.read_item.ensures.settings

pub returns-in-Ok-End-clause-within : goal.returns-in-Ok-End-clause-within
returns-in-Ok-End-clause-within g c =
    let blocks = g.B.BlockStore.blocks in
    let old = c.args.keyspace.now in
    let mid = c.items.keyspace in
    let new = c.read_item.new.keyspace in
    further any_key old.bases mid.bases new.bases (blocks old.store) (blocks mid.store) (blocks new.store) c.items.invariant.within c.read_item.ensures.within

pub returns-in-Err-read_item-clause-sound : goal.returns-in-Err-read_item-clause-sound
returns-in-Err-read_item-clause-sound g c = c.read_item.ensures.sound

pub returns-in-Err-read_item-clause-served : goal.returns-in-Err-read_item-clause-served
returns-in-Err-read_item-clause-served g c = served_then _ _ _ c.items.invariant.served c.read_item.ensures.served

pub returns-in-Err-read_item-clause-settings : goal.returns-in-Err-read_item-clause-settings
returns-in-Err-read_item-clause-settings g c = settings_then c.args.keyspace.now.bases c.items.keyspace.bases c.read_item.new.keyspace.bases c.items.invariant.settings c.read_item.ensures.settings

pub returns-in-Err-read_item-clause-within : goal.returns-in-Err-read_item-clause-within
returns-in-Err-read_item-clause-within g c =
    let blocks = g.B.BlockStore.blocks in
    let old = c.args.keyspace.now in
    let mid = c.items.keyspace in
    let new = c.read_item.new.keyspace in
    further any_key old.bases mid.bases new.bases (blocks old.store) (blocks mid.store) (blocks new.store) c.items.invariant.within c.read_item.ensures.within

pub returns-in-Err-read_item-clause-form : goal.returns-in-Err-read_item-clause-form
returns-in-Err-read_item-clause-form g c = tt

pub items-preserved : goal.items-preserved
items-preserved g c =
    let blocks = g.B.BlockStore.blocks in
    let old = c.args.keyspace.now in
    let mid = c.items.keyspace in
    let new = c.read_item.new.keyspace in
    record {
      holds = (rw c.in-Ok-More.field-0-is at c.in-Ok-More.ensures.reads).0;
      sound = c.read_item.ensures.sound;
      served = served_then _ _ _ c.items.invariant.served c.read_item.ensures.served;
      settings = settings_then old.bases mid.bases new.bases c.items.invariant.settings c.read_item.ensures.settings;
      within = further any_key old.bases mid.bases new.bases (blocks old.store) (blocks mid.store) (blocks new.store) c.items.invariant.within c.read_item.ensures.within;
      form = c.in-Ok-More.ensures.form c.items.invariant.form;
    }
