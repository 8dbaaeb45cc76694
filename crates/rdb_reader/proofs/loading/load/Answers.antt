use Rattle.std.proofs.Common.{sym, subst, refl}
use Rattle.keyspace.proofs.Calls.{settings_then}
use Rattle.blocks.proofs.Serve.{served_then}
use Rattle.blocks.specs.Blocks.{no_step}
use Rattle.keyspace.specs.Databases.{means}
use Rattle.keyspace.specs.Scopes.{anything}
use Rattle.keyspace.proofs.Serving.{further, unbound, unmoved}
use Rattle.rdb_reader.proofs.Anew.{none_new}
use Rattle.rdb_reader.specs.Taken.{TakesFile}
use Rattle.rdb_reader.specs.Loads.{any_key}
use Rattle.rdb_reader.proofs.Living.{read_failed}
use Rattle.rdb_reader.proofs.loading.load.Goals as goal

pub returns-in-Err-clause-form : goal.returns-in-Err-clause-form
returns-in-Err-clause-form g c = none_new c.args.keyspace.now.bases (g.B.BlockStore.blocks c.args.keyspace.now.store) c.requires.sound.arranged c.requires.empty

pub returns-clause-form : goal.returns-clause-form
returns-clause-form g c = none_new c.clear_all.new.keyspace.bases (g.B.BlockStore.blocks c.clear_all.new.keyspace.store) c.clear_all.ensures.sound.arranged c.clear_all.ensures.empty

pub returns-in-Err-clause-few : goal.returns-in-Err-clause-few
returns-in-Err-clause-few g c = c.in-Err.ensures.few

pub returns-in-Ok-read_items-clause-few : goal.returns-in-Ok-read_items-clause-few
returns-in-Ok-read_items-clause-few g c = c.in-Ok.ensures.few

pub returns-clause-few : goal.returns-clause-few
returns-clause-few g c =
    subst (TakesFile (g.H.Host.seen c.args.host.now).files c.args.name.now c.args.limit (g.H.Host.seen c.fetch.new.host))
    (sym
    (read_failed c.as_slice.result.now c.args.moment (means 0 c.read_items.new.keyspace.bases (g.B.BlockStore.blocks c.read_items.new.keyspace.store)) c.in-Err-read_items.fault
    c.in-Err-read_items.ensures.reads)) c.in-Ok.ensures.few

pub returns-clause-within : goal.returns-clause-within
returns-clause-within g c =
    let blocks = g.B.BlockStore.blocks in
    let old = c.args.keyspace.now in
    let mid = c.read_items.new.keyspace in
    let new = c.clear_all.new.keyspace in
    further anything old.bases mid.bases new.bases (blocks old.store) (blocks mid.store) (blocks new.store)
    (unbound any_key old.bases mid.bases (blocks old.store) (blocks mid.store) c.read_items.ensures.within) c.clear_all.ensures.within

pub read_items-requires-clause-empty : goal.read_items-requires-clause-empty
read_items-requires-clause-empty g c = c.requires.empty

pub read_items-requires-clause-sound : goal.read_items-requires-clause-sound
read_items-requires-clause-sound g c = c.requires.sound

pub returns-in-Err-clause-counts : goal.returns-in-Err-clause-counts
returns-in-Err-clause-counts g c = c.in-Err.ensures.counts

pub returns-in-Err-clause-sound : goal.returns-in-Err-clause-sound
returns-in-Err-clause-sound g c = c.requires.sound

pub returns-in-Err-clause-served : goal.returns-in-Err-clause-served
returns-in-Err-clause-served g c = no_step

pub returns-in-Err-clause-settings : goal.returns-in-Err-clause-settings
returns-in-Err-clause-settings g c = record { limits = refl; seed = refl; turn = refl }

pub returns-in-Err-clause-within : goal.returns-in-Err-clause-within
returns-in-Err-clause-within g c = unmoved anything c.args.keyspace.now.bases (g.B.BlockStore.blocks c.args.keyspace.now.store)

pub returns-in-Ok-read_items-clause-counts : goal.returns-in-Ok-read_items-clause-counts
returns-in-Ok-read_items-clause-counts g c = c.in-Ok.ensures.counts

pub returns-in-Ok-read_items-clause-sound : goal.returns-in-Ok-read_items-clause-sound
returns-in-Ok-read_items-clause-sound g c = c.read_items.ensures.sound

pub returns-in-Ok-read_items-clause-served : goal.returns-in-Ok-read_items-clause-served
returns-in-Ok-read_items-clause-served g c = c.read_items.ensures.served

pub returns-in-Ok-read_items-clause-settings : goal.returns-in-Ok-read_items-clause-settings
returns-in-Ok-read_items-clause-settings g c = c.read_items.ensures.settings

pub returns-in-Ok-read_items-clause-within : goal.returns-in-Ok-read_items-clause-within
returns-in-Ok-read_items-clause-within g c = c.read_items.ensures.within

pub returns-in-Ok-read_items-clause-form : goal.returns-in-Ok-read_items-clause-form
returns-in-Ok-read_items-clause-form g c = c.in-Ok-read_items.ensures.form

pub returns-clause-sound : goal.returns-clause-sound
returns-clause-sound g c = c.clear_all.ensures.sound

pub returns-clause-served : goal.returns-clause-served
returns-clause-served g c = served_then _ _ _ c.read_items.ensures.served c.clear_all.ensures.served

pub returns-clause-settings : goal.returns-clause-settings
returns-clause-settings g c = settings_then c.args.keyspace.now.bases c.read_items.new.keyspace.bases c.clear_all.new.keyspace.bases c.read_items.ensures.settings c.clear_all.ensures.settings
