use Rattle.std.proofs.Common.{◌≡◌, ◌+◌, ◌∷◌, [], true, ℕ, sym, subst, arith}
use Rattle.stream_node.specs.Entry.{number, body, size}
use Rattle.stream_node.specs.Written.{Extends, HasRoom}
use Rattle.stream_node.proofs.Written.{values_are, length-values, few_pairs, when_ok, put_on, room_first, room_next}
use Rattle.stream_node.proofs.put.put_values.Goals as goal

pub put_pairs-requires-clause-room : goal.put_pairs-requires-clause-room
put_pairs-requires-clause-room c =
    let old = c.args.pack.now.items in
    let pairs = c.args.pairs.now in
    subst (HasRoom old) (sym (values_are pairs)) (room_first old (body true pairs) (number (size (body true pairs)) ∷ []) c.requires.room)

pub overflow_add-len : goal.overflow_add-len
overflow_add-len c = omega (arith, c.len.ensures, few_pairs c.args.pack.now.items true c.args.pairs.now c.requires.room)

pub put_count-requires-clause-room : goal.put_count-requires-clause-room
put_count-requires-clause-room c =
    let old = c.args.pack.now.items in
    let mid = c.put_pairs.new.pack.items in
    let pairs = c.args.pairs.now in
    let first = subst (Extends old mid) (values_are pairs) c.in_ok-put_pairs.ensures in
    let is : size (body true pairs) ≡ c.len.result + 3 = omega (arith, c.len.ensures, length-values pairs) in
    subst (λ (n : ℕ). HasRoom mid (number n ∷ [])) is (room_next old mid (body true pairs) (number (size (body true pairs)) ∷ []) c.requires.packed first c.requires.room)

pub returns : goal.returns
returns c =
    let old = c.args.pack.now.items in
    let mid = c.put_pairs.new.pack.items in
    let new = c.put_count.new.pack.items in
    let pairs = c.args.pairs.now in
    let first = subst (Extends old mid) (values_are pairs) c.in_ok-put_pairs.ensures in
    let is : c.len.result + 3 ≡ size (body true pairs) = omega (arith, c.len.ensures, length-values pairs) in
    when_ok c.put_count.result
    (λ e. put_on old mid new (body true pairs) (number (size (body true pairs)) ∷ []) first (subst (λ (n : ℕ). Extends mid new (number n ∷ [])) is e))
    c.put_count.ensures
