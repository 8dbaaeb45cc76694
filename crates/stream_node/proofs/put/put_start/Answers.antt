use Rattle.std.proofs.Common.{◌∷◌, [], List, ℕ, false, sym, subst}
use Rattle.int_text.specs.Decimal.{canonical}
use Rattle.stream_node.specs.Entry.{number, flags}
use Rattle.stream_node.specs.Written.{Extends, HasRoom, difference}
use Rattle.stream_node.proofs.Lists.{Texts}
use Rattle.stream_node.proofs.Written.{handed_on, when_ok, put_on, room_first, room_next}
use Rattle.stream_node.proofs.put.put_start.Goals as goal

pub put_count-requires-clause-room : goal.put_count-requires-clause-room
put_count-requires-clause-room c =
    let old = c.args.pack.now.items in
    let ms = canonical (difference c.args.id.ms c.args.key.ms) in
    let seq = canonical (difference c.args.id.seq c.args.key.seq) in
    subst (λ (n : ℕ). HasRoom old (number n ∷ [])) (sym c.live_flags.ensures) (room_first old (number (flags false c.args.same) ∷ []) (ms ∷ seq ∷ []) c.requires.room)

pub put_number-requires-clause-room : goal.put_number-requires-clause-room
put_number-requires-clause-room c =
    let old = c.args.pack.now.items in
    let mid = c.put_count.new.pack.items in
    let flag : Texts = number (flags false c.args.same) ∷ [] in
    let ms = canonical (difference c.args.id.ms c.args.key.ms) in
    let seq = canonical (difference c.args.id.seq c.args.key.seq) in
    let first = subst (λ (n : ℕ). Extends old mid (number n ∷ [])) c.live_flags.ensures c.in_ok-put_count.ensures in
    let room = room_first mid (ms ∷ []) (seq ∷ []) (room_next old mid flag (ms ∷ seq ∷ []) c.requires.packed first c.requires.room) in
    subst (λ (x : List ℕ). HasRoom mid (x ∷ [])) (sym (handed_on c.difference_of.result _ c.difference_of.type_inv c.difference_of.ensures)) room

pub put_number-requires-2-clause-room : goal.put_number-requires-2-clause-room
put_number-requires-2-clause-room c =
    let old = c.args.pack.now.items in
    let mid = c.put_count.new.pack.items in
    let more = c.put_number.new.pack.items in
    let flag : Texts = number (flags false c.args.same) ∷ [] in
    let ms = canonical (difference c.args.id.ms c.args.key.ms) in
    let seq = canonical (difference c.args.id.seq c.args.key.seq) in
    let first = subst (λ (n : ℕ). Extends old mid (number n ∷ [])) c.live_flags.ensures c.in_ok-put_count.ensures in
    let second = subst (λ (x : List ℕ). Extends mid more (x ∷ [])) (handed_on c.difference_of.result _ c.difference_of.type_inv c.difference_of.ensures) c.in_ok-put_number.ensures in
    let room = room_next mid more (ms ∷ []) (seq ∷ []) first.pack second (room_next old mid flag (ms ∷ seq ∷ []) c.requires.packed first c.requires.room) in
    subst (λ (x : List ℕ). HasRoom more (x ∷ [])) (sym (handed_on c.difference_of-2.result _ c.difference_of-2.type_inv c.difference_of-2.ensures)) room

pub returns : goal.returns
returns c =
    let old = c.args.pack.now.items in
    let mid = c.put_count.new.pack.items in
    let more = c.put_number.new.pack.items in
    let new = c.put_number-2.new.pack.items in
    let flag : Texts = number (flags false c.args.same) ∷ [] in
    let ms = canonical (difference c.args.id.ms c.args.key.ms) in
    let seq = canonical (difference c.args.id.seq c.args.key.seq) in
    let first = subst (λ (n : ℕ). Extends old mid (number n ∷ [])) c.live_flags.ensures c.in_ok-put_count.ensures in
    let second = subst (λ (x : List ℕ). Extends mid more (x ∷ [])) (handed_on c.difference_of.result _ c.difference_of.type_inv c.difference_of.ensures) c.in_ok-put_number.ensures in
    when_ok c.put_number-2.result
    (λ e.
    let third = subst (λ (x : List ℕ). Extends more new (x ∷ [])) (handed_on c.difference_of-2.result _ c.difference_of-2.type_inv c.difference_of-2.ensures) e in
    put_on old mid new flag (ms ∷ seq ∷ []) first (put_on mid more new (ms ∷ []) (seq ∷ []) second third))
    c.put_number-2.ensures
