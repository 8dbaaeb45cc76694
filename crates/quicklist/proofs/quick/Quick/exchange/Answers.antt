use Rattle.std.proofs.Common.{◌≡◌, List, length, ap, ◌∙◌, sym, subst, refl, arith}
use Rattle.blocks.specs.Blocks.{no_step}
use Rattle.blocks.proofs.Serve.{served_then}
use Rattle.quicklist.specs.declared.node.Node.{Node}
use Rattle.quicklist.specs.Nodes.{IsChain, Inserted}
use Rattle.quicklist.proofs.Chains.{placed_owned, exchanged}
use Rattle.quicklist.proofs.Rests.{inserted_room}
use Rattle.quicklist.proofs.quick.Quick.exchange.Goals as goal

pub returns-in_err-reserve-clause-served : goal.returns-in_err-reserve-clause-served
returns-in_err-reserve-clause-served g c = no_step

pub end_nodes-requires-clause-owned : goal.end_nodes-requires-clause-owned
end_nodes-requires-clause-owned g c =
    let m = g.B.BlockStore.blocks c.args.store.now in
    let mid = g.B.BlockStore.blocks c.place_all.new.store in
    let same : c.reserve.new.self.items ≡ c.args.self.now.nodes = c.in_ok-reserve.ensures.items ∙ ap (λ v. v.nodes) c.self.view_is in
    let ins = subst (λ (xs : List Node). Inserted m mid xs c.place_all.new.nodes.items c.args.k c.args.pieces.now) same c.in_ok-place_all.ensures.ok in
    placed_owned m mid c.args.self.now.nodes c.place_all.new.nodes.items ins.0 c.args.pieces.now c.args.k c.requires.chain.owned ins.1 ins.2

pub returns-clause-ok : goal.returns-clause-ok
returns-clause-ok g c =
    let m = g.B.BlockStore.blocks c.args.store.now in
    let mid = g.B.BlockStore.blocks c.place_all.new.store in
    let same : c.reserve.new.self.items ≡ c.args.self.now.nodes = c.in_ok-reserve.ensures.items ∙ ap (λ v. v.nodes) c.self.view_is in
    let ins = subst (λ (xs : List Node). Inserted m mid xs c.place_all.new.nodes.items c.args.k c.args.pieces.now) same c.in_ok-place_all.ensures.ok in
    exchanged m mid (g.B.BlockStore.blocks c.end_nodes.new.store) c.args.self.now.nodes c.place_all.new.nodes.items c.end_nodes.new.nodes.items c.args.pieces.now c.args.k c.args.gone _
    c.requires.inside refl c.requires.chain ins c.end_nodes.ensures.items c.end_nodes.ensures.changes

pub returns-clause-served : goal.returns-clause-served
returns-clause-served g c = served_then _ _ _ c.place_all.ensures.served c.end_nodes.ensures.served

pub place_all-requires-clause-index : goal.place_all-requires-clause-index
place_all-requires-clause-index g c =
    let same : c.reserve.new.self.items ≡ c.args.self.now.nodes = c.in_ok-reserve.ensures.items ∙ ap (λ v. v.nodes) c.self.view_is in
    omega (arith, c.requires.inside, ap length same)

pub place_all-requires-clause-chain : goal.place_all-requires-clause-chain
place_all-requires-clause-chain g c =
    let same : c.reserve.new.self.items ≡ c.args.self.now.nodes = c.in_ok-reserve.ensures.items ∙ ap (λ v. v.nodes) c.self.view_is in
    subst (IsChain (g.B.BlockStore.blocks c.args.store.now)) (sym same) c.requires.chain

pub place_all-requires-clause-pieces : goal.place_all-requires-clause-pieces
place_all-requires-clause-pieces g c = c.requires.pieces

pub end_nodes-requires-clause-inside : goal.end_nodes-requires-clause-inside
end_nodes-requires-clause-inside g c =
    let m = g.B.BlockStore.blocks c.args.store.now in
    let mid = g.B.BlockStore.blocks c.place_all.new.store in
    let same : c.reserve.new.self.items ≡ c.args.self.now.nodes = c.in_ok-reserve.ensures.items ∙ ap (λ v. v.nodes) c.self.view_is in
    let ins = subst (λ (xs : List Node). Inserted m mid xs c.place_all.new.nodes.items c.args.k c.args.pieces.now) same c.in_ok-place_all.ensures.ok in
    inserted_room m mid c.args.self.now.nodes c.place_all.new.nodes.items c.args.k c.args.gone c.args.pieces.now c.requires.inside ins
