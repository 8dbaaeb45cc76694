use Rattle.std.proofs.Common.{◌≡◌, ◌∙◌, ◌+◌, ◌*◌, ◌++◌, ◌∷◌, ap, sym, inl, inr, arith, length, take, drop}
use Rattle.std.proofs.lemmas.List.{take_rest, length-take-le, length-drop}
use Rattle.std.specs.Prelude.{slice_index}
use Rattle.byteorder.specs.Endian.{little_number}
use Rattle.rax_packed.specs.Nodes.{prefix_from, body_from}
use Rattle.rax_packed.proofs.Spellings.{node_cases}
use Rattle.rax_packed.proofs.Choices.{parts_within, body_within, body_two, IsBody}
use Rattle.rax_packed.proofs.Layouts.{short_leaf, short_inner}
use Rattle.rax_packed.proofs.build.shortened.Goals as goal

pub parts-requires : goal.parts-requires
parts-requires c = parts_within _ _ c.requires.few.1

pub body_len-len-requires : goal.body_len-len-requires
body_len-len-requires c = λ other. rw c.parts.ensures.body (body_two _ _ c.requires.few.1 other)

pub slice_bounds-append-end : goal.slice_bounds-append-end
slice_bounds-append-end c =
    let body : IsBody c.args.bytes.now c.body_len-len.result = body_within _ c.body_len-len.result _ c.requires.few.1 c.requires.few.2 c.body_len-len.ensures.leaf
    (rw c.parts.ensures.body at c.body_len-len.ensures.inner) in
    sym (length-take-le c.body_len-len.result c.parts.result.1.now (rw c.parts.ensures.body body.within))

pub append-requires : goal.append-requires
append-requires c =
    let body : IsBody c.args.bytes.now c.body_len-len.result = body_within _ c.body_len-len.result _ c.requires.few.1 c.requires.few.2 c.body_len-len.ensures.leaf
    (rw c.parts.ensures.body at c.body_len-len.ensures.inner) in
    let few = body.few in
    let long : length (take c.body_len-len.result c.parts.result.1.now) ≡ c.body_len-len.result = length-take-le c.body_len-len.result c.parts.result.1.now (rw c.parts.ensures.body body.within) in
    let rest = take_rest c.parts.result.0.now c.args.from in
    (omega arith, omega (arith, ap length c.begin.ensures, ap length rest, length-drop c.args.from c.parts.result.0.now, ap length c.parts.ensures.prefix))

pub returns : goal.returns
returns c =
    let prefix = drop c.args.from (prefix_from c.args.bytes.now) in
    let cut = take_rest c.parts.result.0.now c.args.from ∙ ap (drop c.args.from) c.parts.ensures.prefix in
    let head : c.begin.new.bytes.items ≡ slice_index c.args.bytes.now 0 ∷ length prefix ∷ prefix = c.begin.ensures ∙ ap (λ p. slice_index c.args.bytes.now 0 ∷ length p ∷ p) cut in
    let joined : c.append.new.bytes.items ≡ (slice_index c.args.bytes.now 0 ∷ length prefix ∷ prefix) ++ take c.body_len-len.result (body_from c.args.bytes.now) =
    c.append.ensures.joined ∙ ap (λ xs. xs ++ take c.body_len-len.result c.parts.result.1.now) head
    ∙ ap (λ b. (slice_index c.args.bytes.now 0 ∷ length prefix ∷ prefix) ++ take c.body_len-len.result b) c.parts.ensures.body in
    elim (node_cases _ c.args.bytes.now c.requires.few.1) [
      | inl leaf ↦ joined ∙ ap (λ k. (k ∷ length prefix ∷ prefix) ++ take c.body_len-len.result (body_from c.args.bytes.now)) leaf.0
          ∙ ap (λ n. (0 ∷ length prefix ∷ prefix) ++ take n (body_from c.args.bytes.now)) (c.body_len-len.ensures.leaf leaf.0) ∙ short_leaf _ c.args.from c.args.bytes.now leaf.1
      | inr inner ↦ joined ∙ ap (λ k. (k ∷ length prefix ∷ prefix) ++ take c.body_len-len.result (body_from c.args.bytes.now)) inner.0
          ∙ ap (λ n. (1 ∷ length prefix ∷ prefix) ++ take n (body_from c.args.bytes.now))
          (c.body_len-len.ensures.inner (λ zero. (let one = inner.0 in omega arith)) ∙ ap (λ b. 2 + 13 * little_number 2 b) c.parts.ensures.body)
          ∙ short_inner _ c.args.from c.args.bytes.now inner.1
    ]
