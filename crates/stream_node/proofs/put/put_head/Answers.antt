use Rattle.std.proofs.Common.{◌∷◌, [], ◌++◌, ℕ, length, sym, subst}
use Rattle.stream_node.specs.Entry.{number, fields_of}
use Rattle.stream_node.specs.Written.{Extends, HasRoom}
use Rattle.stream_node.proofs.Written.{when_ok, put_on, room_first, room_next}
use Rattle.stream_node.proofs.put.put_head.Goals as goal

pub put_count-requires-clause-room : goal.put_count-requires-clause-room
put_count-requires-clause-room c =
    let pairs = c.args.pairs.now in
    let b0 = c.args.pack.now.items in
    let r0 : HasRoom b0 ((number 1 ∷ []) ++ ((number 0 ∷ []) ++ ((number (length pairs) ∷ []) ++ ((fields_of pairs) ++ (number 0 ∷ []))))) = c.requires.room in
    room_first b0 (number 1 ∷ []) ((number 0 ∷ []) ++ ((number (length pairs) ∷ []) ++ ((fields_of pairs) ++ (number 0 ∷ [])))) r0

pub put_count-requires-2-clause-room : goal.put_count-requires-2-clause-room
put_count-requires-2-clause-room c =
    let pairs = c.args.pairs.now in
    let b0 = c.args.pack.now.items in
    let b1 = c.put_count.new.pack.items in
    let e1 : Extends b0 b1 (number 1 ∷ []) = c.in_ok-put_count.ensures in
    let r0 : HasRoom b0 ((number 1 ∷ []) ++ ((number 0 ∷ []) ++ ((number (length pairs) ∷ []) ++ ((fields_of pairs) ++ (number 0 ∷ []))))) = c.requires.room in
    let r1 = room_next b0 b1 (number 1 ∷ []) ((number 0 ∷ []) ++ ((number (length pairs) ∷ []) ++ ((fields_of pairs) ++ (number 0 ∷ [])))) c.requires.packed e1 r0 in
    room_first b1 (number 0 ∷ []) ((number (length pairs) ∷ []) ++ ((fields_of pairs) ++ (number 0 ∷ []))) r1

pub put_count-requires-3-clause-room : goal.put_count-requires-3-clause-room
put_count-requires-3-clause-room c =
    let pairs = c.args.pairs.now in
    let b0 = c.args.pack.now.items in
    let b1 = c.put_count.new.pack.items in
    let b2 = c.put_count-2.new.pack.items in
    let e1 : Extends b0 b1 (number 1 ∷ []) = c.in_ok-put_count.ensures in
    let e2 : Extends b1 b2 (number 0 ∷ []) = c.in_ok-put_count-2.ensures in
    let r0 : HasRoom b0 ((number 1 ∷ []) ++ ((number 0 ∷ []) ++ ((number (length pairs) ∷ []) ++ ((fields_of pairs) ++ (number 0 ∷ []))))) = c.requires.room in
    let r1 = room_next b0 b1 (number 1 ∷ []) ((number 0 ∷ []) ++ ((number (length pairs) ∷ []) ++ ((fields_of pairs) ++ (number 0 ∷ [])))) c.requires.packed e1 r0 in
    let r2 = room_next b1 b2 (number 0 ∷ []) ((number (length pairs) ∷ []) ++ ((fields_of pairs) ++ (number 0 ∷ []))) e1.pack e2 r1 in
    subst (λ (n : ℕ). HasRoom b2 (number n ∷ [])) (sym c.len.ensures) (room_first b2 (number (length pairs) ∷ []) ((fields_of pairs) ++ (number 0 ∷ [])) r2)

pub put_fields-requires-clause-room : goal.put_fields-requires-clause-room
put_fields-requires-clause-room c =
    let pairs = c.args.pairs.now in
    let b0 = c.args.pack.now.items in
    let b1 = c.put_count.new.pack.items in
    let b2 = c.put_count-2.new.pack.items in
    let b3 = c.put_count-3.new.pack.items in
    let e1 : Extends b0 b1 (number 1 ∷ []) = c.in_ok-put_count.ensures in
    let e2 : Extends b1 b2 (number 0 ∷ []) = c.in_ok-put_count-2.ensures in
    let e3 : Extends b2 b3 (number (length pairs) ∷ []) = subst (λ (n : ℕ). Extends b2 b3 (number n ∷ [])) c.len.ensures c.in_ok-put_count-3.ensures in
    let r0 : HasRoom b0 ((number 1 ∷ []) ++ ((number 0 ∷ []) ++ ((number (length pairs) ∷ []) ++ ((fields_of pairs) ++ (number 0 ∷ []))))) = c.requires.room in
    let r1 = room_next b0 b1 (number 1 ∷ []) ((number 0 ∷ []) ++ ((number (length pairs) ∷ []) ++ ((fields_of pairs) ++ (number 0 ∷ [])))) c.requires.packed e1 r0 in
    let r2 = room_next b1 b2 (number 0 ∷ []) ((number (length pairs) ∷ []) ++ ((fields_of pairs) ++ (number 0 ∷ []))) e1.pack e2 r1 in
    let r3 = room_next b2 b3 (number (length pairs) ∷ []) ((fields_of pairs) ++ (number 0 ∷ [])) e2.pack e3 r2 in
    room_first b3 (fields_of pairs) (number 0 ∷ []) r3

pub put_count-requires-4-clause-room : goal.put_count-requires-4-clause-room
put_count-requires-4-clause-room c =
    let pairs = c.args.pairs.now in
    let b0 = c.args.pack.now.items in
    let b1 = c.put_count.new.pack.items in
    let b2 = c.put_count-2.new.pack.items in
    let b3 = c.put_count-3.new.pack.items in
    let b4 = c.put_fields.new.pack.items in
    let e1 : Extends b0 b1 (number 1 ∷ []) = c.in_ok-put_count.ensures in
    let e2 : Extends b1 b2 (number 0 ∷ []) = c.in_ok-put_count-2.ensures in
    let e3 : Extends b2 b3 (number (length pairs) ∷ []) = subst (λ (n : ℕ). Extends b2 b3 (number n ∷ [])) c.len.ensures c.in_ok-put_count-3.ensures in
    let e4 : Extends b3 b4 (fields_of pairs) = c.in_ok-put_fields.ensures in
    let r0 : HasRoom b0 ((number 1 ∷ []) ++ ((number 0 ∷ []) ++ ((number (length pairs) ∷ []) ++ ((fields_of pairs) ++ (number 0 ∷ []))))) = c.requires.room in
    let r1 = room_next b0 b1 (number 1 ∷ []) ((number 0 ∷ []) ++ ((number (length pairs) ∷ []) ++ ((fields_of pairs) ++ (number 0 ∷ [])))) c.requires.packed e1 r0 in
    let r2 = room_next b1 b2 (number 0 ∷ []) ((number (length pairs) ∷ []) ++ ((fields_of pairs) ++ (number 0 ∷ []))) e1.pack e2 r1 in
    let r3 = room_next b2 b3 (number (length pairs) ∷ []) ((fields_of pairs) ++ (number 0 ∷ [])) e2.pack e3 r2 in
    let r4 = room_next b3 b4 (fields_of pairs) (number 0 ∷ []) e3.pack e4 r3 in
    r4

pub returns : goal.returns
returns c =
    let pairs = c.args.pairs.now in
    let b0 = c.args.pack.now.items in
    let b1 = c.put_count.new.pack.items in
    let b2 = c.put_count-2.new.pack.items in
    let b3 = c.put_count-3.new.pack.items in
    let b4 = c.put_fields.new.pack.items in
    let e1 : Extends b0 b1 (number 1 ∷ []) = c.in_ok-put_count.ensures in
    let e2 : Extends b1 b2 (number 0 ∷ []) = c.in_ok-put_count-2.ensures in
    let e3 : Extends b2 b3 (number (length pairs) ∷ []) = subst (λ (n : ℕ). Extends b2 b3 (number n ∷ [])) c.len.ensures c.in_ok-put_count-3.ensures in
    let e4 : Extends b3 b4 (fields_of pairs) = c.in_ok-put_fields.ensures in
    let b5 = c.put_count-4.new.pack.items in
    when_ok c.put_count-4.result
    (λ e. put_on b0 b1 b5 (number 1 ∷ []) ((number 0 ∷ []) ++ ((number (length pairs) ∷ []) ++ ((fields_of pairs) ++ (number 0 ∷ [])))) e1
    (put_on b1 b2 b5 (number 0 ∷ []) ((number (length pairs) ∷ []) ++ ((fields_of pairs) ++ (number 0 ∷ []))) e2
    (put_on b2 b3 b5 (number (length pairs) ∷ []) ((fields_of pairs) ++ (number 0 ∷ [])) e3 (put_on b3 b4 b5 (fields_of pairs) (number 0 ∷ []) e4 (e))))) c.put_count-4.ensures
