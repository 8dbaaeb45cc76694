use Rattle.std.proofs.Common.{◌≡◌, [], List, length, take, refl, ap, sym, subst, arith, rules}
use Rattle.std.proofs.lemmas.List.{take_all}
use Rattle.blocks.specs.Blocks.{Changes, no_step}
use Rattle.blocks.proofs.Change.{changes_owned}
use Rattle.blocks.proofs.Serve.{served_then}
use Rattle.quicklist.specs.declared.node.Node.{Node}
use Rattle.quicklist.specs.Nodes.{IsChain, refs_of}
use Rattle.quicklist.specs.Chain.{Chain, elements}
use Rattle.quicklist.specs.Equal.{IsRebuilt, cleared}
use Rattle.quicklist.proofs.Rebuilding.{rebuilt_is, unbuilt}
use Rattle.quicklist.proofs.quick.Quick.clear.Goals as goal

pub overflow_sub-left : goal.overflow_sub-left
overflow_sub-left g c = omega (arith, ap (λ v. v.len) c.self.view_is, c.requires.quick.counted, c.requires.many)

pub returns-in_err-rebuilt-clause-served : goal.returns-in_err-rebuilt-clause-served
returns-in_err-rebuilt-clause-served g c = no_step

pub add_all-requires-clause-small : goal.add_all-requires-clause-small
add_all-requires-clause-small g c = omega
    (arith, ap (λ v. v.len) c.self.view_is, c.requires.quick.counted, ap (λ (v : Chain). length (elements (g.B.BlockStore.blocks c.args.store.now) v)) c.self.view_is)

pub returns-in-Ok-clause-changed : goal.returns-in-Ok-clause-changed
returns-in-Ok-clause-changed g c =
    let m = g.B.BlockStore.blocks c.args.store.now in
    let mid = g.B.BlockStore.blocks c.add_all.new.store in
    let n = g.B.BlockStore.blocks c.end_nodes.new.store in
    let q = c.args.self.now in
    let r = c.add_all.new.self in
    let is = subst (λ (v : Chain). IsRebuilt m mid v.nodes (cleared c.args.reach 0 (elements m v)) r) c.self.view_is c.in-Ok.ensures.rebuilt in
    let long : c.len-count.result ≡ length r.replaced.items = search rules in
    let all : take c.len-count.result r.replaced.items ≡ r.replaced.items = take_all c.len-count.result r.replaced.items (omega (arith, long)) in
    let ended = subst (λ (xs : List Node). Changes mid n (refs_of xs) []) all c.end_nodes.ensures.changes in
    rebuilt_is m mid n q _ (cleared c.args.reach 0 (elements m q)) r c.requires.quick is ended refl
    (omega (arith, ap (λ v. v.len) c.self.view_is, c.requires.quick.counted, c.requires.many)) (ap (λ v. v.form) c.self.view_is)

pub returns-in-Ok-clause-served : goal.returns-in-Ok-clause-served
returns-in-Ok-clause-served g c = served_then _ _ _ c.in-Ok.ensures.served c.end_nodes.ensures.served

pub returns-in-Err-clause-served : goal.returns-in-Err-clause-served
returns-in-Err-clause-served g c = served_then _ _ _ c.in-Err.ensures.served c.end_nodes-in-Err.ensures.served

pub returns-in-Err-clause-err_blocks : goal.returns-in-Err-clause-err_blocks
returns-in-Err-clause-err_blocks g c =
    let m = g.B.BlockStore.blocks c.args.store.now in
    let mid = g.B.BlockStore.blocks c.add_all.new.store in
    let n = g.B.BlockStore.blocks c.end_nodes-in-Err.new.store in
    let placed = c.add_all.new.self.placed.items in
    let long : c.len-count-in-Err.result ≡ length placed = search rules in
    let all : take c.len-count-in-Err.result placed ≡ placed = take_all c.len-count-in-Err.result placed (omega (arith, long)) in
    unbuilt m mid n placed c.in-Err.ensures.err_changes (subst (λ (xs : List Node). Changes mid n (refs_of xs) []) all c.end_nodes-in-Err.ensures.changes)

pub add_all-requires-clause-chain : goal.add_all-requires-clause-chain
add_all-requires-clause-chain g c = subst (λ (v : Chain). IsChain (g.B.BlockStore.blocks c.args.store.now) v.nodes) (sym c.self.view_is) c.requires.quick.chain

pub add_all-requires-clause-none : goal.add_all-requires-clause-none
add_all-requires-clause-none g c = c.in_ok-rebuilt.ensures.nodes

pub add_all-requires-clause-none_placed : goal.add_all-requires-clause-none_placed
add_all-requires-clause-none_placed g c = c.in_ok-rebuilt.ensures.placed

pub add_all-requires-clause-none_replaced : goal.add_all-requires-clause-none_replaced
add_all-requires-clause-none_replaced g c = c.in_ok-rebuilt.ensures.replaced

pub end_nodes-requires-in-Err-clause-owned : goal.end_nodes-requires-in-Err-clause-owned
end_nodes-requires-in-Err-clause-owned g c =
    changes_owned (g.B.BlockStore.blocks c.args.store.now) (g.B.BlockStore.blocks c.add_all.new.store) [] (refs_of c.add_all.new.self.placed.items) c.in-Err.ensures.err_changes

pub returns-in-Ok-clause-form : goal.returns-in-Ok-clause-form
returns-in-Ok-clause-form g c = ap (λ v. v.form) c.self.view_is
