use Rattle.std.proofs.Common.{◌≡◌, ◌<◌, ◌^◌, ◌+◌, ◌-◌, ◌*◌, ◌/◌, ◌%◌, ◌∙◌, length, sym, ap, subst, arith}
use Rattle.rev_cursor.specs.Place.{place, reversed}
use Rattle.rehash_dict.specs.Placed.{IsSize}
use Rattle.rehash_dict.specs.Scan.{bits_of, turn, larger_of, first_block, turn_at}
use Rattle.rehash_dict.specs.Sides.{side_rows}
use Rattle.rehash_dict.proofs.Edited.{side_size}
use Rattle.rehash_dict.proofs.Powers.{pow_le}
use Rattle.rehash_dict.proofs.BlockPlaces.{block_bucket}
use Rattle.rehash_dict.proofs.Turns.{some_turn, small_some, turn_bucket, later, turn_later}
use Rattle.rehash_dict.proofs.scan.turn.Goals as goal

pub bucket_of-bucket-requires-clause-size : goal.bucket_of-bucket-requires-clause-size
bucket_of-bucket-requires-clause-size g c = subst IsSize (sym c.buckets.ensures) (side_size c.smaller-side.result c.args.chains.now c.requires.stand)

pub returns-then-number-eq0 : goal.returns-then-number-eq0
returns-then-number-eq0 g c =
    let some : 0 < length (side_rows c.smaller-side.result c.args.chains.now) =
    omega (
      arith,
      ap length c.smaller-side.ensures,
      small_some c.args.chains.now.items c.args.chains.now.older c.args.chains.now.newer c.args.cursor c.requires.stand
          (some_turn c.args.chains.now.older c.args.chains.now.newer c.args.cursor c.args.number c.requires.turn),
    ) in
    c.chain.ensures
    ∙ turn_bucket c.args.chains.now.items c.args.chains.now.older c.args.chains.now.newer c.args.cursor c.requires.stand (side_rows c.smaller-side.result c.args.chains.now) c.args.cursor
    c.bucket_of-bucket.result (side_size c.smaller-side.result c.args.chains.now c.requires.stand) some (c.bucket_of-bucket.ensures ∙ ap (λ n. c.args.cursor % n) c.buckets.ensures)
    ∙ ap (λ r. turn r (bits_of (length r)) c.args.cursor) c.smaller-side.ensures
    ∙ ap (turn_at c.args.chains.now.older c.args.chains.now.newer c.args.cursor) (sym c.if-number-eq0.true)

pub bits-large-requires-clause-size : goal.bits-large-requires-clause-size
bits-large-requires-clause-size g c = side_size c.larger-side.result c.args.chains.now c.requires.stand

pub overflow_add-block : goal.overflow_add-block
overflow_add-block g c =
    let l = later c.args.chains.now.items c.args.chains.now.older c.args.chains.now.newer c.args.cursor c.requires.stand c.args.number c.requires.turn (omega (arith, c.if-number-eq0.false)) in
    let bits : c.bits-large.result ≡ l.large = c.bits-large.ensures.bits ∙ ap (λ r. bits_of (length r)) c.larger-side.ensures ∙ l.is in
    let fits : c.place.result / 2 ^ (64 - c.bits-large.result) + (c.args.number - 1) < 2 ^ l.large =
    subst (λ b. c.place.result / 2 ^ (64 - b) + (c.args.number - 1) < 2 ^ l.large) (sym bits)
    (subst (λ p. p / 2 ^ (64 - l.large) + (c.args.number - 1) < 2 ^ l.large) (sym c.place.ensures) l.block) in
    omega (arith, pow_le l.large 63 (omega (arith, l.few)))

pub bucket_of-bucket-requires-2-clause-size : goal.bucket_of-bucket-requires-2-clause-size
bucket_of-bucket-requires-2-clause-size g c = subst IsSize (sym c.buckets-2.ensures) (side_size c.larger-side.result c.args.chains.now c.requires.stand)

pub returns : goal.returns
returns g c =
    let l = later c.args.chains.now.items c.args.chains.now.older c.args.chains.now.newer c.args.cursor c.requires.stand c.args.number c.requires.turn (omega (arith, c.if-number-eq0.false)) in
    let bits : c.bits-large.result ≡ l.large = c.bits-large.ensures.bits ∙ ap (λ r. bits_of (length r)) c.larger-side.ensures ∙ l.is in
    let some : 0 < length (side_rows c.larger-side.result c.args.chains.now) = omega (arith, c.bits-large.ensures.power, pow_le 0 c.bits-large.result (omega arith)) in
    let cursor : c.place-2.result ≡ reversed l.large (first_block l.large c.args.cursor + (c.args.number - 1))
    = c.place-2.ensures ∙ (λ i. place ((c.place.ensures i / 2 ^ (64 - bits i) + (c.args.number - 1)) * 2 ^ (64 - bits i) % 2 ^ 64))
    ∙ block_bucket l.large (first_block l.large c.args.cursor + (c.args.number - 1)) l.few l.block in
    c.chain-2.ensures
    ∙ turn_bucket c.args.chains.now.items c.args.chains.now.older c.args.chains.now.newer c.args.cursor c.requires.stand (side_rows c.larger-side.result c.args.chains.now) c.place-2.result
    c.bucket_of-bucket-2.result (side_size c.larger-side.result c.args.chains.now c.requires.stand) some
    (c.bucket_of-bucket-2.ensures ∙ ap (λ n. c.place-2.result % n) c.buckets-2.ensures)
    ∙ ap (λ r. turn r (bits_of (length r)) c.place-2.result) c.larger-side.ensures
    ∙ ap (turn (larger_of c.args.chains.now.older c.args.chains.now.newer) (bits_of (length (larger_of c.args.chains.now.older c.args.chains.now.newer))))
    (cursor ∙ ap (λ b. reversed b (first_block b c.args.cursor + (c.args.number - 1))) (sym l.is))
    ∙ sym (turn_later c.args.chains.now.older c.args.chains.now.newer c.args.cursor c.args.number (omega (arith, c.if-number-eq0.false)))
