use Rattle.std.proofs.Common.{rules, ◌++◌, [], ap, is_some}
use Rattle.keyspace.specs.Values.{value_of}
use Rattle.keyspace.proofs.Uses.{sound_is_intact}
use Rattle.rdb_parts.specs.Words.{select_word, deadline_word}
use Rattle.rdb_parts.proofs.Penned.{adds_nothing, adds_then, lost_then}
use Rattle.rdb_writer.proofs.Saved.{saves_passed, saves_item}
use Rattle.rdb_writer.proofs.Found.{key_short, value_fit, value_sound, seen_with}
use Rattle.rdb_writer.proofs.saving.write_item.Goals as goal

pub there-requires-clause-db : goal.there-requires-clause-db
there-requires-clause-db g c = c.requires.db

pub there-requires-clause-arranged : goal.there-requires-clause-arranged
there-requires-clause-arranged g c = c.requires.sound.arranged

pub deadline-requires-clause-db : goal.deadline-requires-clause-db
deadline-requires-clause-db g c = c.requires.db

pub deadline-requires-clause-intact : goal.deadline-requires-clause-intact
deadline-requires-clause-intact g c = sound_is_intact _ _ [] c.requires.sound

pub returns-in_err-write_deadline-in-Some : goal.returns-in_err-write_deadline-in-Some
returns-in_err-write_deadline-in-Some g c =
    let lost = lost_then _ _ _ c.args.pen.now c.write_select.new.pen _ c.in_ok-write_select-in-Some.ensures c.in_err-write_deadline-in-Some.ensures in
    search (rules, lost)

pub value_at-value-requires-clause-db : goal.value_at-value-requires-clause-db
value_at-value-requires-clause-db g c = c.requires.db

pub value_at-value-requires-clause-intact : goal.value_at-value-requires-clause-intact
value_at-value-requires-clause-intact g c = sound_is_intact _ _ [] c.requires.sound

pub value_at-value-requires-clause-item : goal.value_at-value-requires-clause-item
value_at-value-requires-clause-item g c = ap is_some c.in-Some.ensures.found.stands.found

pub write_key-requires-clause-owned : goal.write_key-requires-clause-owned
write_key-requires-clause-owned g c = (c.value_at-value.ensures c.in-Some.name.now c.args.moment c.in-Some.ensures.found).owned

pub write_key-requires-clause-sound : goal.write_key-requires-clause-sound
write_key-requires-clause-sound g c =
    value_sound c.args.keyspace.now.bases (g.B.BlockStore.blocks c.args.keyspace.now.store) c.args.moment c.args.db c.in-Some.name.now c.value_at-value.result.now c.requires.sound c.requires.fit
    (c.value_at-value.ensures c.in-Some.name.now c.args.moment c.in-Some.ensures.found)

pub write_key-requires-clause-short : goal.write_key-requires-clause-short
write_key-requires-clause-short g c =
    key_short c.args.keyspace.now.bases (g.B.BlockStore.blocks c.args.keyspace.now.store) c.args.moment c.args.db c.in-Some.name.now c.value_at-value.result.now c.requires.sound c.requires.fit
    (c.value_at-value.ensures c.in-Some.name.now c.args.moment c.in-Some.ensures.found)

pub write_key-requires-clause-fit : goal.write_key-requires-clause-fit
write_key-requires-clause-fit g c =
    value_fit c.args.keyspace.now.bases (g.B.BlockStore.blocks c.args.keyspace.now.store) c.args.moment c.args.db c.in-Some.name.now c.value_at-value.result.now c.requires.sound c.requires.fit
    (c.value_at-value.ensures c.in-Some.name.now c.args.moment c.in-Some.ensures.found)

pub returns-in-None : goal.returns-in-None
returns-in-None g c = (
  [],
  adds_nothing _ c.args.pen.now,
  λ count named. saves_passed c.args.keyspace.now.bases (g.B.BlockStore.blocks c.args.keyspace.now.store) c.args.moment c.requires.sound.arranged c.args.db c.requires.db c.args.at count c.in-None.ensures.none,
)

pub returns-in_ok-write_key-in-Some : goal.returns-in_ok-write_key-in-Some
returns-in_ok-write_key-in-Some g c =
    let bases = c.args.keyspace.now.bases in
    let m = g.B.BlockStore.blocks c.args.keyspace.now.store in
    let name = c.in-Some.name.now in
    let value = c.value_at-value.result.now in
    let f = c.value_at-value.ensures name c.args.moment c.in-Some.ensures.found in
    let w = c.in_ok-write_key-in-Some.ensures in
    let behind = adds_then _ _ _ c.write_select.new.pen c.write_deadline.new.pen c.write_key.new.pen (deadline_word c.deadline.result) w.0 c.in_ok-write_deadline-in-Some.ensures w.1 in (
      select_word c.args.named c.args.db ++ (deadline_word c.deadline.result ++ w.0),
      adds_then _ _ _ c.args.pen.now c.write_select.new.pen c.write_key.new.pen (select_word c.args.named c.args.db) (deadline_word c.deadline.result ++ w.0) c.in_ok-write_select-in-Some.ensures behind,
      λ count named. saves_item bases m c.args.moment c.requires.sound.arranged c.args.db c.requires.db c.args.at count c.args.named name (value_of m value) c.deadline.result w.0 named c.in-Some.ensures.found
          (seen_with bases m c.args.moment c.args.db name value c.requires.sound c.requires.fit f c.deadline.result c.deadline.ensures.value) c.deadline.ensures.latest
          (value_fit bases m c.args.moment c.args.db name value c.requires.sound c.requires.fit f) w.2,
    )

pub returns-in_err-write_key-in-Some : goal.returns-in_err-write_key-in-Some
returns-in_err-write_key-in-Some g c =
    let lost = lost_then _ _ _ c.args.pen.now c.write_deadline.new.pen _
    (adds_then _ _ _ c.args.pen.now c.write_select.new.pen c.write_deadline.new.pen _ _ c.in_ok-write_select-in-Some.ensures c.in_ok-write_deadline-in-Some.ensures) c.in_err-write_key-in-Some.ensures in
    search (rules, lost)
