use Rattle.std.proofs.Common.{◌≡◌, ◌∙◌, Some, None, sym, ap, refl, subst, arith}
use Rattle.blocks.specs.declared.Moved.{Moved}
use Rattle.rax_packed.specs.Costs.{costs_of, costs_from, passed}
use Rattle.stream_node.specs.Ids.{IsId, id_number, id_key}
use Rattle.stream_object.specs.Relocation.{IsBounded, tree_marks}
use Rattle.stream_object.proofs.Counts.{next_mark, next_is, bounded}
use Rattle.stream_object.proofs.relocating.count_keys.Goals as goal

pub returns-in-Some : goal.returns-in-Some
returns-in-Some g c =
    let m = g.B.BlockStore.blocks c.args.store.now in
    let tree = c.args.tree.now in
    let at = c.of_number.result in
    let id : IsId at = record { ms = omega arith; seq = omega arith } in
    let moved : Moved = record { next = Some c.number.result; used = c.pass_from-passed.result.used } in
    let made : c.pass_from-passed.result ≡ passed c.args.room (costs_from (costs_of m tree) (id_key at)) = c.pass_from-passed.ensures
    ∙ ap (λ k. passed c.args.room (costs_from (costs_of m tree) k)) c.key.ensures in
    let next : Some c.number.result ≡ next_mark c.pass_from-passed.result.next = ap Some (c.number.ensures ∙ ap id_number c.of_key.ensures) ∙ next_is c.in-Some.key ∙ sym (ap next_mark c.in-Some.is) in
    subst (λ from. IsBounded (tree_marks m tree) from c.args.room moved) c.of_number.ensures
    (bounded m tree c.requires.parts at id c.args.room c.requires.room c.pass_from-passed.result moved made refl next)

pub returns-in-None : goal.returns-in-None
returns-in-None g c =
    let m = g.B.BlockStore.blocks c.args.store.now in
    let tree = c.args.tree.now in
    let at = c.of_number.result in
    let id : IsId at = record { ms = omega arith; seq = omega arith } in
    let moved : Moved = record { next = None; used = c.pass_from-passed.result.used } in
    let made : c.pass_from-passed.result ≡ passed c.args.room (costs_from (costs_of m tree) (id_key at)) = c.pass_from-passed.ensures
    ∙ ap (λ k. passed c.args.room (costs_from (costs_of m tree) k)) c.key.ensures in
    let next : moved.next ≡ next_mark c.pass_from-passed.result.next = sym (ap next_mark c.in-None.is) in
    subst (λ from. IsBounded (tree_marks m tree) from c.args.room moved) c.of_number.ensures
    (bounded m tree c.requires.parts at id c.args.room c.requires.room c.pass_from-passed.result moved made refl next)
