use Rattle.std.proofs.Common.{◌≡◌, ◌+◌, ◌*◌, ◌∷◌, [], ◌++◌, false, ℕ, length, sym, subst, arith}
use Rattle.stream_node.specs.Entry.{number, body, size}
use Rattle.stream_node.specs.Written.{Extends, HasRoom}
use Rattle.stream_node.proofs.Lists.{Texts}
use Rattle.stream_node.proofs.Same.{flat}
use Rattle.stream_node.proofs.Written.{flat_is, length_own, few_pairs, when_ok, put_on, room_first, room_next}
use Rattle.stream_node.proofs.put.put_own.Goals as goal

pub put_count-requires-clause-room : goal.put_count-requires-clause-room
put_count-requires-clause-room c =
    let old = c.args.pack.now.items in
    let pairs = c.args.pairs.now in
    let end : Texts = number (size (body false pairs)) ∷ [] in
    subst (λ (n : ℕ). HasRoom old (number n ∷ [])) (sym c.len.ensures) (room_first old (number (length pairs) ∷ []) (flat pairs ++ end) c.requires.room)

pub put_pairs-requires-clause-room : goal.put_pairs-requires-clause-room
put_pairs-requires-clause-room c =
    let old = c.args.pack.now.items in
    let mid = c.put_count.new.pack.items in
    let pairs = c.args.pairs.now in
    let end : Texts = number (size (body false pairs)) ∷ [] in
    let first = subst (λ (n : ℕ). Extends old mid (number n ∷ [])) c.len.ensures c.in_ok-put_count.ensures in
    let room = room_next old mid (number (length pairs) ∷ []) (flat pairs ++ end) c.requires.packed first c.requires.room in
    subst (HasRoom mid) (sym (flat_is pairs)) (room_first mid (flat pairs) end room)

pub overflow_mul-len : goal.overflow_mul-len
overflow_mul-len c = omega (arith, c.len-2.ensures, few_pairs c.args.pack.now.items false c.args.pairs.now c.requires.room)

pub overflow_add-len : goal.overflow_add-len
overflow_add-len c = omega (arith, c.len-2.ensures, few_pairs c.args.pack.now.items false c.args.pairs.now c.requires.room)

pub put_count-requires-2-clause-room : goal.put_count-requires-2-clause-room
put_count-requires-2-clause-room c =
    let old = c.args.pack.now.items in
    let mid = c.put_count.new.pack.items in
    let more = c.put_pairs.new.pack.items in
    let pairs = c.args.pairs.now in
    let end : Texts = number (size (body false pairs)) ∷ [] in
    let first = subst (λ (n : ℕ). Extends old mid (number n ∷ [])) c.len.ensures c.in_ok-put_count.ensures in
    let second = subst (Extends mid more) (flat_is pairs) c.in_ok-put_pairs.ensures in
    let room = room_next old mid (number (length pairs) ∷ []) (flat pairs ++ end) c.requires.packed first c.requires.room in
    let is : size (body false pairs) ≡ 2 * c.len-2.result + 4 = omega (arith, c.len-2.ensures, length_own pairs) in
    subst (λ (n : ℕ). HasRoom more (number n ∷ [])) is (room_next mid more (flat pairs) end first.pack second room)

pub returns : goal.returns
returns c =
    let old = c.args.pack.now.items in
    let mid = c.put_count.new.pack.items in
    let more = c.put_pairs.new.pack.items in
    let new = c.put_count-2.new.pack.items in
    let pairs = c.args.pairs.now in
    let end : Texts = number (size (body false pairs)) ∷ [] in
    let first = subst (λ (n : ℕ). Extends old mid (number n ∷ [])) c.len.ensures c.in_ok-put_count.ensures in
    let second = subst (Extends mid more) (flat_is pairs) c.in_ok-put_pairs.ensures in
    let is : 2 * c.len-2.result + 4 ≡ size (body false pairs) = omega (arith, c.len-2.ensures, length_own pairs) in
    when_ok c.put_count-2.result
    (λ e. put_on old mid new (number (length pairs) ∷ []) (flat pairs ++ end) first (put_on mid more new (flat pairs) end second (subst (λ (n : ℕ). Extends more new (number n ∷ [])) is e)))
    c.put_count-2.ensures
