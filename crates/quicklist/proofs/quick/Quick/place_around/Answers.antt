use Rattle.std.proofs.Common.{◌+◌, ◌<◌, [], ◌∷◌, arith}
use Rattle.std.proofs.lemmas.List.Elements.{All-nil, All-cons}
use Rattle.quicklist.specs.Nodes.{IsPiece}
use Rattle.quicklist.proofs.Elements.{part_empty}
use Rattle.quicklist.proofs.Rising.{written_pieces, pieces_behind}
use Rattle.quicklist.proofs.Rests.{part_piece, piece_between, pieces_before, pieces_around}
use Rattle.quicklist.proofs.quick.Quick.place_around.Goals as goal

pub exchange-requires-clause-pieces : goal.exchange-requires-clause-pieces
exchange-requires-clause-pieces g c = All-cons IsPiece c.args.middle [] c.requires.middle (All-nil IsPiece)

pub exchange-requires-in-0-default-clause-pieces : goal.exchange-requires-in-0-default-clause-pieces
exchange-requires-in-0-default-clause-pieces g c =
    let some : 0 < c.args.behind.count = omega (arith, c.in-0-default.is-1.1) in
    All-cons IsPiece c.args.middle (c.args.behind ∷ []) c.requires.middle (All-cons IsPiece c.args.behind [] (part_piece c.args.behind c.requires.behind some) (All-nil IsPiece))

pub exchange-requires-in_default-eq0-clause-pieces : goal.exchange-requires-in_default-eq0-clause-pieces
exchange-requires-in_default-eq0-clause-pieces g c =
    let some : 0 < c.args.before.count = omega (arith, c.in_default-eq0.is-0.1) in
    All-cons IsPiece c.args.before (c.args.middle ∷ []) (part_piece c.args.before c.requires.before some) (All-cons IsPiece c.args.middle [] c.requires.middle (All-nil IsPiece))

pub exchange-requires-in_default-clause-pieces : goal.exchange-requires-in_default-clause-pieces
exchange-requires-in_default-clause-pieces g c =
    let one : 0 < c.args.before.count = omega (arith, c.in_default.is-0.1) in
    let two : 0 < c.args.behind.count = omega (arith, c.in_default.is-1.1) in
    All-cons IsPiece c.args.before (c.args.middle ∷ (c.args.behind ∷ [])) (part_piece c.args.before c.requires.before one)
    (All-cons IsPiece c.args.middle (c.args.behind ∷ []) c.requires.middle (All-cons IsPiece c.args.behind [] (part_piece c.args.behind c.requires.behind two) (All-nil IsPiece)))

pub returns-in-0-eq0-clause-written : goal.returns-in-0-eq0-clause-written
returns-in-0-eq0-clause-written g c =
    written_pieces c.exchange.result (g.B.BlockStore.blocks c.args.store.now) (g.B.BlockStore.blocks c.exchange.new.store) c.args.self.now
    c.exchange.new.self _ c.args.k (c.args.k + 1) c.args.len _
    (piece_between c.args.before c.args.middle c.args.behind (part_empty c.args.before c.requires.before c.in-0-eq0.is-0) (part_empty c.args.behind c.requires.behind c.in-0-eq0.is-1))
    c.requires.quick.formed c.requires.overfull c.exchange.ensures.ok c.exchange.ensures.len c.exchange.ensures.form

pub returns-in-0-default-clause-written : goal.returns-in-0-default-clause-written
returns-in-0-default-clause-written g c =
    written_pieces c.exchange-in-0-default.result (g.B.BlockStore.blocks c.args.store.now) (g.B.BlockStore.blocks c.exchange-in-0-default.new.store) c.args.self.now
    c.exchange-in-0-default.new.self _ c.args.k (c.args.k + 1) c.args.len _
    (pieces_behind c.args.before c.args.middle c.args.behind (part_empty c.args.before c.requires.before c.in-0-default.is-0)) c.requires.quick.formed c.requires.overfull
    c.exchange-in-0-default.ensures.ok c.exchange-in-0-default.ensures.len c.exchange-in-0-default.ensures.form

pub returns-in_default-eq0-clause-written : goal.returns-in_default-eq0-clause-written
returns-in_default-eq0-clause-written g c =
    let call = c.exchange-in_default-eq0 in
    written_pieces call.result (g.B.BlockStore.blocks c.args.store.now) (g.B.BlockStore.blocks call.new.store) c.args.self.now call.new.self _ c.args.k (c.args.k + 1) c.args.len _
    (pieces_before c.args.before c.args.middle c.args.behind (part_empty c.args.behind c.requires.behind c.in_default-eq0.is-1)) c.requires.quick.formed c.requires.overfull
    call.ensures.ok call.ensures.len call.ensures.form

pub returns-in_default-clause-written : goal.returns-in_default-clause-written
returns-in_default-clause-written g c =
    let call = c.exchange-in_default in
    written_pieces call.result (g.B.BlockStore.blocks c.args.store.now) (g.B.BlockStore.blocks call.new.store) c.args.self.now call.new.self _ c.args.k (c.args.k + 1) c.args.len _
    (pieces_around c.args.before c.args.middle c.args.behind) c.requires.quick.formed c.requires.overfull call.ensures.ok call.ensures.len call.ensures.form
