use Rattle.std.proofs.Common.{[], ◌∙◌, sym, refl}
use Rattle.blocks.specs.Blocks.{no_step}
use Rattle.keyspace.proofs.Uses.{sound_is_intact}
use Rattle.keyspace.proofs.Serving.{unmoved}
use Rattle.plain_world.specs.Worlds.{Str}
use Rattle.keyspace.specs.Databases.{means}
use Rattle.rdb_grammar.specs.Views.{text_of}
use Rattle.rdb_reader.specs.Loads.{any_key}
use Rattle.rdb_reader.proofs.Entries.{put_twice, put_once}
use Rattle.rdb_reader.proofs.keys.put_key.Goals as goal

pub returns-then-count-before-clause-puts : goal.returns-then-count-before-clause-puts
returns-then-count-before-clause-puts g c =
    let blocks = g.B.BlockStore.blocks in
    let old = means c.args.db c.args.keyspace.now.bases (blocks c.args.keyspace.now.store) in
    let new = means c.args.db c.put_text.new.keyspace.bases (blocks c.put_text.new.keyspace.store) in
    put_twice c.args.moment old new (text_of c.args.name.now) (record { value = Str (text_of c.args.value.now); deadline = c.args.deadline })
    (rw c.text-name.ensures at c.in_ok-put_text.ensures.world) c.count-before.result c.count.result c.count-before.ensures c.count.ensures c.if-count-before.true

pub returns-clause-puts : goal.returns-clause-puts
returns-clause-puts g c =
    let blocks = g.B.BlockStore.blocks in
    let old = means c.args.db c.args.keyspace.now.bases (blocks c.args.keyspace.now.store) in
    let new = means c.args.db c.put_text.new.keyspace.bases (blocks c.put_text.new.keyspace.store) in
    put_once c.args.moment old new (text_of c.args.name.now) (record { value = Str (text_of c.args.value.now); deadline = c.args.deadline })
    (rw c.text-name.ensures at c.in_ok-put_text.ensures.world) c.count-before.result c.count.result c.count-before.ensures c.count.ensures c.if-count-before.false
    (sym c.is_in_time.ensures ∙ c.if-not-is_in_time.false)

pub is_there-requires-clause-db : goal.is_there-requires-clause-db
is_there-requires-clause-db g c = c.requires.db

pub count-before-requires-clause-db : goal.count-before-requires-clause-db
count-before-requires-clause-db g c = c.requires.db

pub count-requires-clause-db : goal.count-requires-clause-db
count-requires-clause-db g c = c.requires.db

pub put_text-requires-clause-db : goal.put_text-requires-clause-db
put_text-requires-clause-db g c = c.requires.db

pub is_there-requires-clause-intact : goal.is_there-requires-clause-intact
is_there-requires-clause-intact g c = sound_is_intact c.args.keyspace.now.bases (g.B.BlockStore.blocks c.args.keyspace.now.store) [] c.requires.sound

pub count-before-requires-clause-intact : goal.count-before-requires-clause-intact
count-before-requires-clause-intact g c = sound_is_intact c.args.keyspace.now.bases (g.B.BlockStore.blocks c.args.keyspace.now.store) [] c.requires.sound

pub count-requires-clause-intact : goal.count-requires-clause-intact
count-requires-clause-intact g c = sound_is_intact c.put_text.new.keyspace.bases (g.B.BlockStore.blocks c.put_text.new.keyspace.store) [] c.put_text.ensures.sound

pub put_text-requires-clause-latest : goal.put_text-requires-clause-latest
put_text-requires-clause-latest g c = c.requires.latest

pub put_text-requires-clause-sound : goal.put_text-requires-clause-sound
put_text-requires-clause-sound g c = c.requires.sound

pub returns-then-is_there-clause-memory : goal.returns-then-is_there-clause-memory
returns-then-is_there-clause-memory g c = tt

pub returns-then-is_there-clause-sound : goal.returns-then-is_there-clause-sound
returns-then-is_there-clause-sound g c = c.requires.sound

pub returns-then-is_there-clause-served : goal.returns-then-is_there-clause-served
returns-then-is_there-clause-served g c = no_step

pub returns-then-is_there-clause-settings : goal.returns-then-is_there-clause-settings
returns-then-is_there-clause-settings g c = record { limits = refl; seed = refl; turn = refl }

pub returns-then-is_there-clause-within : goal.returns-then-is_there-clause-within
returns-then-is_there-clause-within g c = unmoved any_key c.args.keyspace.now.bases (g.B.BlockStore.blocks c.args.keyspace.now.store)

pub returns-then-is_there-clause-form : goal.returns-then-is_there-clause-form
returns-then-is_there-clause-form g c news = news

pub returns-then-not-is_in_time-clause-memory : goal.returns-then-not-is_in_time-clause-memory
returns-then-not-is_in_time-clause-memory g c = tt

pub returns-then-not-is_in_time-clause-sound : goal.returns-then-not-is_in_time-clause-sound
returns-then-not-is_in_time-clause-sound g c = c.requires.sound

pub returns-then-not-is_in_time-clause-served : goal.returns-then-not-is_in_time-clause-served
returns-then-not-is_in_time-clause-served g c = no_step

pub returns-then-not-is_in_time-clause-settings : goal.returns-then-not-is_in_time-clause-settings
returns-then-not-is_in_time-clause-settings g c = record { limits = refl; seed = refl; turn = refl }

pub returns-then-not-is_in_time-clause-within : goal.returns-then-not-is_in_time-clause-within
returns-then-not-is_in_time-clause-within g c = unmoved any_key c.args.keyspace.now.bases (g.B.BlockStore.blocks c.args.keyspace.now.store)

pub returns-then-not-is_in_time-clause-form : goal.returns-then-not-is_in_time-clause-form
returns-then-not-is_in_time-clause-form g c news = news

pub returns-in_err-put_text-clause-sound : goal.returns-in_err-put_text-clause-sound
returns-in_err-put_text-clause-sound g c = c.put_text.ensures.sound

pub returns-in_err-put_text-clause-served : goal.returns-in_err-put_text-clause-served
returns-in_err-put_text-clause-served g c = c.put_text.ensures.served

pub returns-in_err-put_text-clause-settings : goal.returns-in_err-put_text-clause-settings
returns-in_err-put_text-clause-settings g c = c.put_text.ensures.settings

pub returns-in_err-put_text-clause-within : goal.returns-in_err-put_text-clause-within
returns-in_err-put_text-clause-within g c = c.put_text.ensures.within

pub returns-then-count-before-clause-sound : goal.returns-then-count-before-clause-sound
returns-then-count-before-clause-sound g c = c.put_text.ensures.sound

pub returns-then-count-before-clause-served : goal.returns-then-count-before-clause-served
returns-then-count-before-clause-served g c = c.put_text.ensures.served

pub returns-then-count-before-clause-settings : goal.returns-then-count-before-clause-settings
returns-then-count-before-clause-settings g c = c.put_text.ensures.settings

pub returns-then-count-before-clause-within : goal.returns-then-count-before-clause-within
returns-then-count-before-clause-within g c = c.put_text.ensures.within

pub returns-then-count-before-clause-memory : goal.returns-then-count-before-clause-memory
returns-then-count-before-clause-memory g c = tt

pub returns-then-count-before-clause-form : goal.returns-then-count-before-clause-form
returns-then-count-before-clause-form g c = c.in_ok-put_text.ensures.form

pub returns-clause-sound : goal.returns-clause-sound
returns-clause-sound g c = c.put_text.ensures.sound

pub returns-clause-served : goal.returns-clause-served
returns-clause-served g c = c.put_text.ensures.served

pub returns-clause-settings : goal.returns-clause-settings
returns-clause-settings g c = c.put_text.ensures.settings

pub returns-clause-within : goal.returns-clause-within
returns-clause-within g c = c.put_text.ensures.within

pub returns-clause-memory : goal.returns-clause-memory
returns-clause-memory g c = tt

pub returns-clause-form : goal.returns-clause-form
returns-clause-form g c = c.in_ok-put_text.ensures.form
