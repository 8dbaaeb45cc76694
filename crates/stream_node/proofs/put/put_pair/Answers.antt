use Rattle.std.proofs.Common.{Bool, subst, sym, ◌∷◌, []}
use Rattle.stream_node.specs.Written.{Extends, HasRoom, pair_texts}
use Rattle.stream_node.proofs.Written.{when_ok, put_on, room_next}
use Rattle.stream_node.proofs.put.put_pair.Goals as goal

pub put_text-requires-else-same-2-clause-room : goal.put_text-requires-else-same-2-clause-room
put_text-requires-else-same-2-clause-room c =
    let old = c.args.pack.now.items in
    let field = c.args.field.now in
    let value = c.args.value.now in
    room_next old c.put_text-else-same.new.pack.items (field ∷ []) (value ∷ []) c.requires.packed c.in_ok-put_text.ensures
    (subst (λ (b : Bool). HasRoom old (pair_texts b (field, value))) c.if-same.false c.requires.room)

pub returns-in_ok-put_text : goal.returns-in_ok-put_text
returns-in_ok-put_text c =
    let old = c.args.pack.now.items in
    let mid = c.put_text-else-same.new.pack.items in
    let new = c.put_text-else-same-2.new.pack.items in
    let field = c.args.field.now in
    let value = c.args.value.now in
    when_ok c.put_text-else-same-2.result
    (λ (e : Extends mid new (value ∷ [])).
    subst (λ (b : Bool). Extends old new (pair_texts b (field, value))) (sym c.if-same.false) (put_on old mid new (field ∷ []) (value ∷ []) c.in_ok-put_text.ensures e))
    c.put_text-else-same-2.ensures
