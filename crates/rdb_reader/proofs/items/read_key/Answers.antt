use Rattle.std.proofs.Common.{inl}
use Rattle.plain_world.specs.Worlds.{Str}
use Rattle.rdb_grammar.specs.Views.{text_of}
use Rattle.rdb_reader.proofs.Read.{collection_key}
use Rattle.rdb_reader.proofs.items.read_key.Goals as goal

pub put_key-requires-clause-db : goal.put_key-requires-clause-db
put_key-requires-clause-db g c = c.requires.db

pub put_collection-requires-clause-db : goal.put_collection-requires-clause-db
put_collection-requires-clause-db g c = c.requires.db

pub put_key-requires-clause-latest : goal.put_key-requires-clause-latest
put_key-requires-clause-latest g c = c.requires.latest

pub put_collection-requires-clause-latest : goal.put_collection-requires-clause-latest
put_collection-requires-clause-latest g c = c.requires.latest

pub put_key-requires-clause-sound : goal.put_key-requires-clause-sound
put_key-requires-clause-sound g c = c.requires.sound

pub put_collection-requires-clause-sound : goal.put_collection-requires-clause-sound
put_collection-requires-clause-sound g c = c.requires.sound

pub put_collection-requires-clause-at : goal.put_collection-requires-clause-at
put_collection-requires-clause-at g c = (rw c.in-Laid.is at c.requires.stands).inside

pub returns-in-Ok-clause-reads : goal.returns-in-Ok-clause-reads
returns-in-Ok-clause-reads g c = record { value = Str (text_of c.in-Text.text); stands = rw c.in-Text.is at c.requires.stands; puts = c.in-Ok.ensures.puts }

pub returns-in-Err-clause-reads : goal.returns-in-Err-clause-reads
returns-in-Err-clause-reads g c = inl
    (record { name = text_of c.args.name.now; value = Str (text_of c.in-Text.text); next = c.args.next; stands = rw c.in-Text.is at c.requires.stands; in_time = c.in-Err.ensures.memory })

pub returns-in-Laid-clause-reads : goal.returns-in-Laid-clause-reads
returns-in-Laid-clause-reads g c = collection_key c.args.bytes.now c.args.moment c.args.so_far _ _ (text_of c.args.name.now) _ c.args.next (rw c.in-Laid.is at c.requires.stands)
    c.put_collection.result c.put_collection.ensures.reads

pub returns-in-Ok-clause-sound : goal.returns-in-Ok-clause-sound
returns-in-Ok-clause-sound g c = c.put_key.ensures.sound

pub returns-in-Ok-clause-served : goal.returns-in-Ok-clause-served
returns-in-Ok-clause-served g c = c.put_key.ensures.served

pub returns-in-Ok-clause-settings : goal.returns-in-Ok-clause-settings
returns-in-Ok-clause-settings g c = c.put_key.ensures.settings

pub returns-in-Ok-clause-within : goal.returns-in-Ok-clause-within
returns-in-Ok-clause-within g c = c.put_key.ensures.within

pub returns-in-Err-clause-sound : goal.returns-in-Err-clause-sound
returns-in-Err-clause-sound g c = c.put_key.ensures.sound

pub returns-in-Err-clause-served : goal.returns-in-Err-clause-served
returns-in-Err-clause-served g c = c.put_key.ensures.served

pub returns-in-Err-clause-settings : goal.returns-in-Err-clause-settings
returns-in-Err-clause-settings g c = c.put_key.ensures.settings

pub returns-in-Err-clause-within : goal.returns-in-Err-clause-within
returns-in-Err-clause-within g c = c.put_key.ensures.within

pub returns-in-Laid-clause-sound : goal.returns-in-Laid-clause-sound
returns-in-Laid-clause-sound g c = c.put_collection.ensures.sound

pub returns-in-Laid-clause-served : goal.returns-in-Laid-clause-served
returns-in-Laid-clause-served g c = c.put_collection.ensures.served

pub returns-in-Laid-clause-settings : goal.returns-in-Laid-clause-settings
returns-in-Laid-clause-settings g c = c.put_collection.ensures.settings

pub returns-in-Laid-clause-within : goal.returns-in-Laid-clause-within
returns-in-Laid-clause-within g c = c.put_collection.ensures.within

pub returns-in-Ok-clause-form : goal.returns-in-Ok-clause-form
returns-in-Ok-clause-form g c = c.in-Ok.ensures.form

pub returns-in-Laid-clause-form : goal.returns-in-Laid-clause-form
returns-in-Laid-clause-form g c = c.put_collection.ensures.form
