use Rattle.std.proofs.Common.{◌+◌, ◌++◌, length, ap, ◌∙◌, sym, subst}
use Rattle.std.specs.Prelude.{OnOk}
use Rattle.listpack.specs.Pack.{texts}
use Rattle.quicklist.specs.Nodes.{rest_list, piece_list}
use Rattle.quicklist.specs.Chain.{respelled, IsChanged}
use Rattle.quicklist.proofs.Rests.{none_before, none_behind_rest}
use Rattle.quicklist.proofs.quick.Quick.place_rests.Goals as goal

pub place_rest-requires-clause-len : goal.place_rest-requires-clause-len
place_rest-requires-clause-len g c =
    c.requires.len
    ∙ ap (λ xs. length (respelled (g.B.BlockStore.blocks c.args.store.now) c.args.self.now c.args.k xs (c.args.k + c.args.gone))) (sym (none_before c.args.before c.args.behind c.in-None-default.is-0))

pub returns-in-None-default-clause-changed : goal.returns-in-None-default-clause-changed
returns-in-None-default-clause-changed g c =
    let m = g.B.BlockStore.blocks c.args.store.now in
    let q = c.args.self.now in
    subst (λ xs. OnOk c.place_rest.result (IsChanged m (g.B.BlockStore.blocks c.place_rest.new.store) q c.place_rest.new.self (respelled m q c.args.k xs (c.args.k + c.args.gone))))
    (none_before c.args.before c.args.behind c.in-None-default.is-0) c.place_rest.ensures.changed

pub place_rest-requires-in-Some-None-clause-len : goal.place_rest-requires-in-Some-None-clause-len
place_rest-requires-in-Some-None-clause-len g c =
    let m = g.B.BlockStore.blocks c.args.store.now in
    c.requires.len ∙ ap (λ xs. length (respelled m c.args.self.now c.args.k xs (c.args.k + c.args.gone))) (sym (none_behind_rest c.args.before c.args.behind c.in-Some-None.is-1))

pub returns-in-Some-None-clause-changed : goal.returns-in-Some-None-clause-changed
returns-in-Some-None-clause-changed g c =
    let m = g.B.BlockStore.blocks c.args.store.now in
    let q = c.args.self.now in
    let call = c.place_rest-in-Some-None in
    subst (λ xs. OnOk call.result (IsChanged m (g.B.BlockStore.blocks call.new.store) q call.new.self (respelled m q c.args.k xs (c.args.k + c.args.gone))))
    (none_behind_rest c.args.before c.args.behind c.in-Some-None.is-1) call.ensures.changed

pub place_two-requires-clause-len : goal.place_two-requires-clause-len
place_two-requires-clause-len g c =
    let pieces = ap (λ xs. xs ++ piece_list c.packed_piece-behind_piece.result) (c.packed_piece.ensures.list ∙ ap texts c.deref-in-Some-Some.ensures.value ∙ sym (ap rest_list c.in-Some-Some.is-0))
    ∙ ap (λ xs. rest_list c.args.before ++ xs) (c.packed_piece-behind_piece.ensures.list ∙ ap texts c.deref.ensures.value ∙ sym (ap rest_list c.in-Some-Some.is-1)) in
    c.requires.len ∙ ap (λ xs. length (respelled (g.B.BlockStore.blocks c.args.store.now) c.args.self.now c.args.k xs (c.args.k + c.args.gone))) (sym pieces)

pub returns-in-Some-Some-clause-changed : goal.returns-in-Some-Some-clause-changed
returns-in-Some-Some-clause-changed g c =
    let m = g.B.BlockStore.blocks c.args.store.now in
    let q = c.args.self.now in
    let pieces = ap (λ xs. xs ++ piece_list c.packed_piece-behind_piece.result) (c.packed_piece.ensures.list ∙ ap texts c.deref-in-Some-Some.ensures.value ∙ sym (ap rest_list c.in-Some-Some.is-0))
    ∙ ap (λ xs. rest_list c.args.before ++ xs) (c.packed_piece-behind_piece.ensures.list ∙ ap texts c.deref.ensures.value ∙ sym (ap rest_list c.in-Some-Some.is-1)) in
    subst (λ xs. OnOk c.place_two.result (IsChanged m (g.B.BlockStore.blocks c.place_two.new.store) q c.place_two.new.self (respelled m q c.args.k xs (c.args.k + c.args.gone)))) pieces
    c.place_two.ensures.changed
