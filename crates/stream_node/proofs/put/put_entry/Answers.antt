use Rattle.std.proofs.Common.{Bool, sym, subst}
use Rattle.stream_node.specs.Written.{Extends, HasRoom, start_texts, body_texts}
use Rattle.stream_node.proofs.Written.{when_ok, put_on, room_first, room_next}
use Rattle.stream_node.proofs.put.put_entry.Goals as goal

pub put_start-requires-clause-room : goal.put_start-requires-clause-room
put_start-requires-clause-room c = room_first c.args.pack.now.items (start_texts c.args.key c.args.id c.args.same) (body_texts c.args.same c.args.pairs.now) c.requires.room

pub put_values-requires-clause-room : goal.put_values-requires-clause-room
put_values-requires-clause-room c =
    let mid = c.put_start.new.pack.items in
    let pairs = c.args.pairs.now in
    subst (λ (b : Bool). HasRoom mid (body_texts b pairs)) c.if-same.true
    (room_next c.args.pack.now.items mid (start_texts c.args.key c.args.id c.args.same) (body_texts c.args.same pairs) c.requires.packed c.in_ok-put_start.ensures c.requires.room)

pub put_own-requires-clause-room : goal.put_own-requires-clause-room
put_own-requires-clause-room c =
    let mid = c.put_start.new.pack.items in
    let pairs = c.args.pairs.now in
    subst (λ (b : Bool). HasRoom mid (body_texts b pairs)) c.if-same.false
    (room_next c.args.pack.now.items mid (start_texts c.args.key c.args.id c.args.same) (body_texts c.args.same pairs) c.requires.packed c.in_ok-put_start.ensures c.requires.room)

pub returns-then-same : goal.returns-then-same
returns-then-same c =
    let mid = c.put_start.new.pack.items in
    let new = c.put_values.new.pack.items in
    let pairs = c.args.pairs.now in
    when_ok c.put_values.result
    (λ e.
    put_on c.args.pack.now.items mid new (start_texts c.args.key c.args.id c.args.same) (body_texts c.args.same pairs) c.in_ok-put_start.ensures
    (subst (λ (b : Bool). Extends mid new (body_texts b pairs)) (sym c.if-same.true) e))
    c.put_values.ensures

pub returns-else-same : goal.returns-else-same
returns-else-same c =
    let mid = c.put_start.new.pack.items in
    let new = c.put_own.new.pack.items in
    let pairs = c.args.pairs.now in
    when_ok c.put_own.result
    (λ e.
    put_on c.args.pack.now.items mid new (start_texts c.args.key c.args.id c.args.same) (body_texts c.args.same pairs) c.in_ok-put_start.ensures
    (subst (λ (b : Bool). Extends mid new (body_texts b pairs)) (sym c.if-same.false) e))
    c.put_own.ensures
