use Rattle.std.proofs.Common.{sym, subst}
use Rattle.keyspace.specs.Scopes.{one_key, Within}
use Rattle.keyspace.proofs.Serving.{unmoved}
use Rattle.plain_world.specs.Worlds.{Str}
use Rattle.rdb_grammar.specs.Views.{text_of}
use Rattle.rdb_reader.proofs.Anew.{put_new}
use Rattle.keyspace.proofs.Uses.{made_intact, put_sound_in_uses, put_within_in_uses}
use Rattle.rdb_reader.specs.Loads.{any_key}
use Rattle.rdb_reader.proofs.Entries.{value_put, one_of_any}
use Rattle.rdb_reader.proofs.keys.put_text.Goals as goal

pub put-requires-clause-intact : goal.put-requires-clause-intact
put-requires-clause-intact g c = made_intact _ _ _ c.in_ok-made.made c.requires.sound c.in_ok-made.ensures.changes
    (c.in_ok-made.ensures.sound c.args.keyspace.now.bases.limits c.args.keyspace.now.bases.seed)

pub returns-clause-sound : goal.returns-clause-sound
returns-clause-sound g c = put_sound_in_uses _ _ _ c.in_ok-made.made c.requires.sound c.in_ok-made.ensures.changes _ _ c.put.ensures.sound

pub returns-clause-world : goal.returns-clause-world
returns-clause-world g c =
    value_put c.args.db c.args.keyspace.now.bases _ _ c.in_ok-made.made c.requires.sound c.in_ok-made.ensures.changes c.put.new.self.bases _ c.args.name.now _ c.args.deadline
    c.in_ok-made.ensures.means c.put.result c.put.ensures.means

pub returns-clause-within : goal.returns-clause-within
returns-clause-within g c =
    one_of_any c.args.db c.args.name.now c.args.keyspace.now.bases c.put.new.self.bases _ _
    (put_within_in_uses _ _ _ c.in_ok-made.made c.requires.sound c.in_ok-made.ensures.changes c.put.new.self.bases _ (one_key c.args.db c.args.name.now) c.put.ensures.within)

pub returns-clause-form : goal.returns-clause-form
returns-clause-form g c =
    let m = g.B.BlockStore.blocks c.args.keyspace.now.store in
    let sound = put_sound_in_uses _ _ _ c.in_ok-made.made c.requires.sound c.in_ok-made.ensures.changes _ _ c.put.ensures.sound in
    let within = put_within_in_uses _ _ _ c.in_ok-made.made c.requires.sound c.in_ok-made.ensures.changes c.put.new.self.bases _ (one_key c.args.db c.args.name.now) c.put.ensures.within in
    let world = value_put c.args.db c.args.keyspace.now.bases _ _ c.in_ok-made.made c.requires.sound c.in_ok-made.ensures.changes c.put.new.self.bases _ c.args.name.now _ c.args.deadline
    c.in_ok-made.ensures.means c.put.result c.put.ensures.means in
    put_new c.args.db c.args.name.now c.in_ok-made.made (Str (text_of c.args.value.now)) c.args.deadline c.args.keyspace.now.bases c.put.new.self.bases m _ c.in_ok-made.ensures.whole
    c.put.ensures.settings.limits within sound.arranged c.put.result world c.put.ensures.has

pub returns-in_err-made-clause-within : goal.returns-in_err-made-clause-within
returns-in_err-made-clause-within g c =
    let m = g.B.BlockStore.blocks c.args.keyspace.now.store in
    subst (Within any_key c.args.keyspace.now.bases c.args.keyspace.now.bases m) (sym c.in_err-made.ensures.err) (unmoved any_key c.args.keyspace.now.bases m)
