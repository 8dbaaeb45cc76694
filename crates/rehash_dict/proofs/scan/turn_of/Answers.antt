use Rattle.std.proofs.Common.{◌≡◌, ◌<◌, ◌^◌, ◌+◌, ◌-◌, ◌/◌, ◌∙◌, Option, Some, None, IsSome, length, sym, ap, subst, arith}
use Rattle.rev_cursor.specs.Place.{place}
use Rattle.rev_cursor.specs.Span.{times}
use Rattle.rehash_dict.specs.Scan.{bits_of, larger_of, turns_of, turn_at, first_block}
use Rattle.rehash_dict.specs.Table.{at_item}
use Rattle.rehash_dict.proofs.Edited.{side_size}
use Rattle.rehash_dict.proofs.Powers.{pow_le}
use Rattle.rehash_dict.proofs.Turns.{in_turn, later, told_turn}
use Rattle.rehash_dict.proofs.scan.turn_of.Goals as goal

pub turn-requires-clause-turn : goal.turn-requires-clause-turn
turn-requires-clause-turn g c =
    let t = in_turn c.args.chains.now.older c.args.chains.now.newer c.args.cursor c.args.at (turns_of c.args.chains.now.older c.args.chains.now.newer c.args.cursor) 0 c.requires.there in
    omega (arith, t.to)

pub unreachable-requires : goal.unreachable-requires
unreachable-requires g c =
    let t = told_turn c.args.chains.now.items c.args.chains.now.older c.args.chains.now.newer c.args.cursor c.requires.stand c.args.at c.requires.there
    (λ h. let q = c.if-contains.ensures.1 (subst (λ r. 0 < times c.args.at r) (sym c.turn.ensures) h) in cc) in
    not_there (at_item c.args.chains.now.items c.args.at) c.in_default.ensures t.is_there
  where
    not_there : {X : Type 0} (o : Option X) → None ≡ o → IsSome o → ⊥
    not_there None h q = cc
    not_there (Some x) h q = cc

pub bits-large-requires-clause-size : goal.bits-large-requires-clause-size
bits-large-requires-clause-size g c = side_size c.larger.result c.args.chains.now c.requires.stand

pub bits-large-requires-clause-table : goal.bits-large-requires-clause-table
bits-large-requires-clause-table g c =
    let t = told_turn c.args.chains.now.items c.args.chains.now.older c.args.chains.now.newer c.args.cursor c.requires.stand c.args.at c.requires.there
    (λ h. let q = c.if-contains.ensures.1 (subst (λ r. 0 < times c.args.at r) (sym c.turn.ensures) h) in cc) in
    let l = later c.args.chains.now.items c.args.chains.now.older c.args.chains.now.newer c.args.cursor c.requires.stand t.number t.within t.positive in
    omega (arith, ap length c.larger.ensures, l.power, pow_le 0 l.large (omega arith))

pub overflow_sub-result-3 : goal.overflow_sub-result-3
overflow_sub-result-3 g c =
    let t = told_turn c.args.chains.now.items c.args.chains.now.older c.args.chains.now.newer c.args.cursor c.requires.stand c.args.at c.requires.there
    (λ h. let q = c.if-contains.ensures.1 (subst (λ r. 0 < times c.args.at r) (sym c.turn.ensures) h) in cc) in
    let bits : c.bits-large.result ≡ bits_of (length (larger_of c.args.chains.now.older c.args.chains.now.newer)) = c.bits-large.ensures.bits ∙ ap (λ r. bits_of (length r)) c.larger.ensures in
    let high : c.place.result / 2 ^ (64 - c.bits-large.result) ≡ place c.in-Some.entry.now.hash / 2 ^ (64 - bits_of (length (larger_of c.args.chains.now.older c.args.chains.now.newer))) =
    (λ i. c.place.ensures i / 2 ^ (64 - bits i)) in
    let first : c.place-2.result / 2 ^ (64 - c.bits-large.result) ≡ first_block (bits_of (length (larger_of c.args.chains.now.older c.args.chains.now.newer))) c.args.cursor =
    (λ i. c.place-2.ensures i / 2 ^ (64 - bits i)) in
    let number : 1 + (c.place.result / 2 ^ (64 - c.bits-large.result) - c.place-2.result / 2 ^ (64 - c.bits-large.result)) ≡ t.number = (λ i. 1 + (high i - first i))
    ∙ sym (t.told _ (sym c.in-Some.ensures)) in
    omega (arith, t.from _ (sym c.in-Some.ensures))

pub overflow_add-result : goal.overflow_add-result
overflow_add-result g c =
    let t = told_turn c.args.chains.now.items c.args.chains.now.older c.args.chains.now.newer c.args.cursor c.requires.stand c.args.at c.requires.there
    (λ h. let q = c.if-contains.ensures.1 (subst (λ r. 0 < times c.args.at r) (sym c.turn.ensures) h) in cc) in
    let bits : c.bits-large.result ≡ bits_of (length (larger_of c.args.chains.now.older c.args.chains.now.newer)) = c.bits-large.ensures.bits ∙ ap (λ r. bits_of (length r)) c.larger.ensures in
    let high : c.place.result / 2 ^ (64 - c.bits-large.result) ≡ place c.in-Some.entry.now.hash / 2 ^ (64 - bits_of (length (larger_of c.args.chains.now.older c.args.chains.now.newer))) =
    (λ i. c.place.ensures i / 2 ^ (64 - bits i)) in
    let first : c.place-2.result / 2 ^ (64 - c.bits-large.result) ≡ first_block (bits_of (length (larger_of c.args.chains.now.older c.args.chains.now.newer))) c.args.cursor =
    (λ i. c.place-2.ensures i / 2 ^ (64 - bits i)) in
    let number : 1 + (c.place.result / 2 ^ (64 - c.bits-large.result) - c.place-2.result / 2 ^ (64 - c.bits-large.result)) ≡ t.number = (λ i. 1 + (high i - first i))
    ∙ sym (t.told _ (sym c.in-Some.ensures)) in
    let l = later c.args.chains.now.items c.args.chains.now.older c.args.chains.now.newer c.args.cursor c.requires.stand t.number t.within t.positive in
    omega (arith, l.block, pow_le l.large 63 (omega (arith, l.few)))

pub returns-clause-turn : goal.returns-clause-turn
returns-clause-turn g c =
    let t = told_turn c.args.chains.now.items c.args.chains.now.older c.args.chains.now.newer c.args.cursor c.requires.stand c.args.at c.requires.there
    (λ h. let q = c.if-contains.ensures.1 (subst (λ r. 0 < times c.args.at r) (sym c.turn.ensures) h) in cc) in
    let bits : c.bits-large.result ≡ bits_of (length (larger_of c.args.chains.now.older c.args.chains.now.newer)) = c.bits-large.ensures.bits ∙ ap (λ r. bits_of (length r)) c.larger.ensures in
    let high : c.place.result / 2 ^ (64 - c.bits-large.result) ≡ place c.in-Some.entry.now.hash / 2 ^ (64 - bits_of (length (larger_of c.args.chains.now.older c.args.chains.now.newer))) =
    (λ i. c.place.ensures i / 2 ^ (64 - bits i)) in
    let first : c.place-2.result / 2 ^ (64 - c.bits-large.result) ≡ first_block (bits_of (length (larger_of c.args.chains.now.older c.args.chains.now.newer))) c.args.cursor =
    (λ i. c.place-2.ensures i / 2 ^ (64 - bits i)) in
    let number : 1 + (c.place.result / 2 ^ (64 - c.bits-large.result) - c.place-2.result / 2 ^ (64 - c.bits-large.result)) ≡ t.number = (λ i. 1 + (high i - first i))
    ∙ sym (t.told _ (sym c.in-Some.ensures)) in
    omega (arith, t.within)

pub returns-clause-gives : goal.returns-clause-gives
returns-clause-gives g c =
    let t = told_turn c.args.chains.now.items c.args.chains.now.older c.args.chains.now.newer c.args.cursor c.requires.stand c.args.at c.requires.there
    (λ h. let q = c.if-contains.ensures.1 (subst (λ r. 0 < times c.args.at r) (sym c.turn.ensures) h) in cc) in
    let bits : c.bits-large.result ≡ bits_of (length (larger_of c.args.chains.now.older c.args.chains.now.newer)) = c.bits-large.ensures.bits ∙ ap (λ r. bits_of (length r)) c.larger.ensures in
    let high : c.place.result / 2 ^ (64 - c.bits-large.result) ≡ place c.in-Some.entry.now.hash / 2 ^ (64 - bits_of (length (larger_of c.args.chains.now.older c.args.chains.now.newer))) =
    (λ i. c.place.ensures i / 2 ^ (64 - bits i)) in
    let first : c.place-2.result / 2 ^ (64 - c.bits-large.result) ≡ first_block (bits_of (length (larger_of c.args.chains.now.older c.args.chains.now.newer))) c.args.cursor =
    (λ i. c.place-2.ensures i / 2 ^ (64 - bits i)) in
    let number : 1 + (c.place.result / 2 ^ (64 - c.bits-large.result) - c.place-2.result / 2 ^ (64 - c.bits-large.result)) ≡ t.number = (λ i. 1 + (high i - first i))
    ∙ sym (t.told _ (sym c.in-Some.ensures)) in
    subst (λ n. 0 < times c.args.at (turn_at c.args.chains.now.older c.args.chains.now.newer c.args.cursor n)) (sym number) t.there

pub returns-clause-fits : goal.returns-clause-fits
returns-clause-fits g c =
    let t = told_turn c.args.chains.now.items c.args.chains.now.older c.args.chains.now.newer c.args.cursor c.requires.stand c.args.at c.requires.there
    (λ h. let q = c.if-contains.ensures.1 (subst (λ r. 0 < times c.args.at r) (sym c.turn.ensures) h) in cc) in
    let bits : c.bits-large.result ≡ bits_of (length (larger_of c.args.chains.now.older c.args.chains.now.newer)) = c.bits-large.ensures.bits ∙ ap (λ r. bits_of (length r)) c.larger.ensures in
    let high : c.place.result / 2 ^ (64 - c.bits-large.result) ≡ place c.in-Some.entry.now.hash / 2 ^ (64 - bits_of (length (larger_of c.args.chains.now.older c.args.chains.now.newer))) =
    (λ i. c.place.ensures i / 2 ^ (64 - bits i)) in
    let first : c.place-2.result / 2 ^ (64 - c.bits-large.result) ≡ first_block (bits_of (length (larger_of c.args.chains.now.older c.args.chains.now.newer))) c.args.cursor =
    (λ i. c.place-2.ensures i / 2 ^ (64 - bits i)) in
    let number : 1 + (c.place.result / 2 ^ (64 - c.bits-large.result) - c.place-2.result / 2 ^ (64 - c.bits-large.result)) ≡ t.number = (λ i. 1 + (high i - first i))
    ∙ sym (t.told _ (sym c.in-Some.ensures)) in
    let l = later c.args.chains.now.items c.args.chains.now.older c.args.chains.now.newer c.args.cursor c.requires.stand t.number t.within t.positive in
    omega (arith, l.block, pow_le l.large 63 (omega (arith, l.few)))
