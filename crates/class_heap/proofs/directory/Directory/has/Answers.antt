use Rattle.std.proofs.Common.{arith, ◌≡◌, ℕ, ◌/◌, ◌^◌, ◌∙◌, ap, sym, bit_and, List}
use Rattle.std.specs.Int.{bit_at}
use Rattle.std.proofs.lemmas.Bool.{eqb-true, eqb-false}
use Rattle.std.proofs.lemmas.Nat.Bits.{shr_and_one, bit_at-lt}
use Rattle.std.proofs.lemmas.List.{get_or_read}
use Rattle.class_heap.specs.Tree.{word_of}
use Rattle.class_heap.proofs.directory.Directory.has.Goals as goal

-- the bit of a node's labels
bit_read : (nodes : List ℕ) (node label n : ℕ) → n ≡ word_of nodes node → bit_at (word_of nodes node) label ≡ bit_and (n / 2 ^ label) 1
bit_read nodes node label n e = ap (λ m. bit_at m label) (sym e) ∙ sym (shr_and_one n label)

pub returns-clause-yes : goal.returns-clause-yes
returns-clause-yes c h =
    let d = c.args.self.now in let long = d.sound.long in
    bit_read d.nodes.items c.args.node c.args.label c.index.result.now (get_or_read d.nodes.items _ _ (omega (arith, long)) c.index.ensures 0) ∙ eqb-true _ _ h

pub returns-clause-no : goal.returns-clause-no
returns-clause-no c h =
    let d = c.args.self.now in let long = d.sound.long in
    let b = bit_read d.nodes.items c.args.node c.args.label c.index.result.now (get_or_read d.nodes.items _ _ (omega (arith, long)) c.index.ensures 0) in
    let ne = eqb-false _ _ h in
    omega (arith, b, ne, bit_at-lt (word_of d.nodes.items c.args.node) c.args.label)
