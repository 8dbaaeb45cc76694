use Rattle.std.proofs.Common.{◌<◌, length, arith}
use Rattle.listpack.specs.Pack.{spellings_of}
use Rattle.listpack.proofs.Offsets.{length_texts}
use Rattle.stream_node.specs.Entry.{number}
use Rattle.stream_node.proofs.Written.{when_ok}
use Rattle.stream_node.proofs.Exchanged.{steps, final, length_none, length_inserted, many_left, exchanges}
use Rattle.stream_node.proofs.marking.put_marks.Goals as goal

pub insert_count-requires-clause-room : goal.insert_count-requires-clause-room
insert_count-requires-clause-room c =
    let old = c.args.pack.now.items in
    let m = c.args.marks.now in
    let none = c.remove_range.new.pack.items in
    let s = steps old c.remove.new.pack.items none m.at _ _ c.remove.ensures.entries c.remove.ensures.list c.remove_range.ensures.entries c.remove_range.ensures.list in
    let inside : m.at < length (spellings_of old) = omega (arith, c.requires.inside, length_texts old) in
    let all = final old m.at (number m.live) (number m.deleted) (number m.flags) c.requires.packed c.requires.behind_two inside c.requires.room in
    omega (arith, all, length_none old none m.at s)

pub insert_count-requires-2-clause-room : goal.insert_count-requires-2-clause-room
insert_count-requires-2-clause-room c =
    let old = c.args.pack.now.items in
    let m = c.args.marks.now in
    let none = c.remove_range.new.pack.items in
    let s = steps old c.remove.new.pack.items none m.at _ _ c.remove.ensures.entries c.remove.ensures.list c.remove_range.ensures.entries c.remove_range.ensures.list in
    let inside : m.at < length (spellings_of old) = omega (arith, c.requires.inside, length_texts old) in
    let all = final old m.at (number m.live) (number m.deleted) (number m.flags) c.requires.packed c.requires.behind_two inside c.requires.room in
    let one = c.insert_count.new.pack.items in
    let i = c.in_ok-insert_count.ensures in
    let long = length_inserted none one (number m.live) 0 s.pack i in
    omega (arith, all, length_none old none m.at s, long)

pub insert_count-requires-3-clause-index : goal.insert_count-requires-3-clause-index
insert_count-requires-3-clause-index c =
    let old = c.args.pack.now.items in
    let m = c.args.marks.now in
    let none = c.remove_range.new.pack.items in
    let s = steps old c.remove.new.pack.items none m.at _ _ c.remove.ensures.entries c.remove.ensures.list c.remove_range.ensures.entries c.remove_range.ensures.list in
    let inside : m.at < length (spellings_of old) = omega (arith, c.requires.inside, length_texts old) in
    let one = c.insert_count.new.pack.items in
    let i = c.in_ok-insert_count.ensures in
    let two = c.insert_count-2.new.pack.items in
    let j = c.in_ok-insert_count-2.ensures in
    many_left old none one two m.at (number m.live) (number m.deleted) c.requires.behind_two c.requires.inside s i j

pub insert_count-requires-3-clause-room : goal.insert_count-requires-3-clause-room
insert_count-requires-3-clause-room c =
    let old = c.args.pack.now.items in
    let m = c.args.marks.now in
    let none = c.remove_range.new.pack.items in
    let s = steps old c.remove.new.pack.items none m.at _ _ c.remove.ensures.entries c.remove.ensures.list c.remove_range.ensures.entries c.remove_range.ensures.list in
    let inside : m.at < length (spellings_of old) = omega (arith, c.requires.inside, length_texts old) in
    let all = final old m.at (number m.live) (number m.deleted) (number m.flags) c.requires.packed c.requires.behind_two inside c.requires.room in
    let one = c.insert_count.new.pack.items in
    let i = c.in_ok-insert_count.ensures in
    let long = length_inserted none one (number m.live) 0 s.pack i in
    let two = c.insert_count-2.new.pack.items in
    let j = c.in_ok-insert_count-2.ensures in
    let longer = length_inserted one two (number m.deleted) 1 i.pack j in
    omega (arith, all, length_none old none m.at s, long, longer)

pub returns : goal.returns
returns c =
    let old = c.args.pack.now.items in
    let m = c.args.marks.now in
    let none = c.remove_range.new.pack.items in
    let s = steps old c.remove.new.pack.items none m.at _ _ c.remove.ensures.entries c.remove.ensures.list c.remove_range.ensures.entries c.remove_range.ensures.list in
    let inside : m.at < length (spellings_of old) = omega (arith, c.requires.inside, length_texts old) in
    let one = c.insert_count.new.pack.items in
    let i = c.in_ok-insert_count.ensures in
    let two = c.insert_count-2.new.pack.items in
    let j = c.in_ok-insert_count-2.ensures in
    when_ok c.insert_count-3.result
    (exchanges old none one two c.insert_count-3.new.pack.items m.at (number m.live) (number m.deleted) (number m.flags) c.requires.behind_two inside c.requires.inside s i j)
    c.insert_count-3.ensures
