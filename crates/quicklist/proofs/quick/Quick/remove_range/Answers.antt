use Rattle.std.proofs.Common.{◌≡◌, ◌-◌, ◌<◌, ◌≤◌, length, ap, ◌∙◌, sym, subst, arith}
use Rattle.std.specs.Prelude.{OnOk, sum_by}
use Rattle.blocks.specs.Blocks.{no_step}
use Rattle.quicklist.specs.Nodes.{IsPlace, node_at, node_list, count_of}
use Rattle.quicklist.specs.Chain.{Chain, IsChanged}
use Rattle.quicklist.proofs.Elements.{len_is, place_room, place_order}
use Rattle.quicklist.proofs.Rests.{range_found, range_within, order_within, range_left}
use Rattle.quicklist.proofs.quick.Quick.remove_range.Goals as goal

pub returns-then-from-to-clause-served : goal.returns-then-from-to-clause-served
returns-then-from-to-clause-served g c = no_step

pub find-first-requires-clause-whole : goal.find-first-requires-clause-whole
find-first-requires-clause-whole g c = subst (λ (v : Chain). v.len ≡ sum_by count_of v.nodes) (sym c.self.view_is) (len_is (g.B.BlockStore.blocks c.args.store.now) c.args.self.now c.requires.quick)

pub find-last-requires-clause-whole : goal.find-last-requires-clause-whole
find-last-requires-clause-whole g c = subst (λ (v : Chain). v.len ≡ sum_by count_of v.nodes) (sym c.self.view_is) (len_is (g.B.BlockStore.blocks c.args.store.now) c.args.self.now c.requires.quick)

pub remove_across-requires-clause-inside : goal.remove_across-requires-clause-inside
remove_across-requires-clause-inside g c = (subst (λ (v : Chain). IsPlace v.nodes (c.args.to - 1) c.find-last.result.0 c.find-last.result.1) c.self.view_is c.find-last.ensures).inside

pub remove_across-requires-clause-from : goal.remove_across-requires-clause-from
remove_across-requires-clause-from g c =
    let one = subst (λ (v : Chain). IsPlace v.nodes c.args.from c.find-first.result.0 c.find-first.result.1) c.self.view_is c.find-first.ensures in
    (place_room (g.B.BlockStore.blocks c.args.store.now) c.args.self.now c.args.from c.find-first.result.0 c.find-first.result.1 c.requires.quick one).0

pub remove_across-requires-clause-to : goal.remove_across-requires-clause-to
remove_across-requires-clause-to g c =
    let two = subst (λ (v : Chain). IsPlace v.nodes (c.args.to - 1) c.find-last.result.0 c.find-last.result.1) c.self.view_is c.find-last.ensures in
    omega (arith, (place_room (g.B.BlockStore.blocks c.args.store.now) c.args.self.now (c.args.to - 1) c.find-last.result.0 c.find-last.result.1 c.requires.quick two).0)

pub remove_across-requires-clause-len : goal.remove_across-requires-clause-len
remove_across-requires-clause-len g c =
    let m = g.B.BlockStore.blocks c.args.store.now in
    let q = c.args.self.now in
    let one = subst (λ (v : Chain). IsPlace v.nodes c.args.from c.find-first.result.0 c.find-first.result.1) c.self.view_is c.find-first.ensures in
    let two = subst (λ (v : Chain). IsPlace v.nodes (c.args.to - 1) c.find-last.result.0 c.find-last.result.1) c.self.view_is c.find-last.ensures in
    let less : c.args.from < c.args.to = omega (arith, c.if-from-to.false, c.requires.order) in
    let range = range_found m q c.args.from c.args.to c.find-first.result.0 c.find-first.result.1 c.find-last.result.0 c.find-last.result.1 c.requires.quick one two less in
    ap (λ v. v.len - (c.args.to - c.args.from)) c.self.view_is ∙ range_left m q c.args.from c.args.to _ c.requires.quick c.requires.order c.requires.inside range

pub returns-then-first-last-clause-changed : goal.returns-then-first-last-clause-changed
returns-then-first-last-clause-changed g c =
    let m = g.B.BlockStore.blocks c.args.store.now in
    let q = c.args.self.now in
    let one = subst (λ (v : Chain). IsPlace v.nodes c.args.from c.find-first.result.0 c.find-first.result.1) c.self.view_is c.find-first.ensures in
    let two = subst (λ (v : Chain). IsPlace v.nodes (c.args.to - 1) c.find-last.result.0 c.find-last.result.1) c.self.view_is c.find-last.ensures in
    let less : c.args.from < c.args.to = omega (arith, c.if-from-to.false, c.requires.order) in
    let range = range_found m q c.args.from c.args.to c.find-first.result.0 c.find-first.result.1 c.find-last.result.0 c.find-last.result.1 c.requires.quick one two less in
    subst (λ xs. OnOk c.remove_across.result (IsChanged m (g.B.BlockStore.blocks c.remove_across.new.store) q c.remove_across.new.self xs)) range c.remove_across.ensures.changed

pub remove_within-requires-clause-inside : goal.remove_within-requires-clause-inside
remove_within-requires-clause-inside g c = (subst (λ (v : Chain). IsPlace v.nodes c.args.from c.find-first.result.0 c.find-first.result.1) c.self.view_is c.find-first.ensures).inside

pub remove_within-requires-clause-order : goal.remove_within-requires-clause-order
remove_within-requires-clause-order g c =
    let nodes = c.args.self.now.nodes in
    let one = subst (λ (v : Chain). IsPlace v.nodes c.args.from c.find-first.result.0 c.find-first.result.1) c.self.view_is c.find-first.ensures in
    let two = subst (λ (v : Chain). IsPlace v.nodes (c.args.to - 1) c.find-last.result.0 c.find-last.result.1) c.self.view_is c.find-last.ensures in
    let most : c.args.from ≤ c.args.to - 1 = omega (arith, c.if-from-to.false, c.requires.order) in
    let order = place_order nodes c.args.from (c.args.to - 1) c.find-first.result.0 c.find-last.result.0 c.find-first.result.1 c.find-last.result.1 one two most in
    let same : c.find-last.result.0 ≡ c.find-first.result.0 = omega (arith, order, c.if-first-last.false) in
    order_within nodes c.args.from (c.args.to - 1) c.find-first.result.0 c.find-first.result.1 c.find-last.result.0 c.find-last.result.1 one two same most

pub remove_within-requires-clause-to : goal.remove_within-requires-clause-to
remove_within-requires-clause-to g c =
    let m = g.B.BlockStore.blocks c.args.store.now in
    let nodes = c.args.self.now.nodes in
    let one = subst (λ (v : Chain). IsPlace v.nodes c.args.from c.find-first.result.0 c.find-first.result.1) c.self.view_is c.find-first.ensures in
    let two = subst (λ (v : Chain). IsPlace v.nodes (c.args.to - 1) c.find-last.result.0 c.find-last.result.1) c.self.view_is c.find-last.ensures in
    let most : c.args.from ≤ c.args.to - 1 = omega (arith, c.if-from-to.false, c.requires.order) in
    let order = place_order nodes c.args.from (c.args.to - 1) c.find-first.result.0 c.find-last.result.0 c.find-first.result.1 c.find-last.result.1 one two most in
    let same : c.find-last.result.0 ≡ c.find-first.result.0 = omega (arith, order, c.if-first-last.false) in
    let room = (place_room m c.args.self.now (c.args.to - 1) c.find-last.result.0 c.find-last.result.1 c.requires.quick two).0 in
    omega (arith, room, ap (λ k. length (node_list m (node_at nodes k))) same)

pub remove_within-requires-clause-len : goal.remove_within-requires-clause-len
remove_within-requires-clause-len g c =
    let m = g.B.BlockStore.blocks c.args.store.now in
    let q = c.args.self.now in
    let one = subst (λ (v : Chain). IsPlace v.nodes c.args.from c.find-first.result.0 c.find-first.result.1) c.self.view_is c.find-first.ensures in
    let two = subst (λ (v : Chain). IsPlace v.nodes (c.args.to - 1) c.find-last.result.0 c.find-last.result.1) c.self.view_is c.find-last.ensures in
    let less : c.args.from < c.args.to = omega (arith, c.if-from-to.false, c.requires.order) in
    let order = place_order q.nodes c.args.from (c.args.to - 1) c.find-first.result.0 c.find-last.result.0 c.find-first.result.1 c.find-last.result.1 one two (omega (arith, less)) in
    let same : c.find-last.result.0 ≡ c.find-first.result.0 = omega (arith, order, c.if-first-last.false) in
    let range = range_within m q c.args.from c.args.to c.find-first.result.0 c.find-first.result.1 c.find-last.result.0 c.find-last.result.1 c.requires.quick one two less same in
    ap (λ v. v.len - (c.args.to - c.args.from)) c.self.view_is ∙ range_left m q c.args.from c.args.to _ c.requires.quick c.requires.order c.requires.inside range

pub returns-clause-changed : goal.returns-clause-changed
returns-clause-changed g c =
    let m = g.B.BlockStore.blocks c.args.store.now in
    let q = c.args.self.now in
    let one = subst (λ (v : Chain). IsPlace v.nodes c.args.from c.find-first.result.0 c.find-first.result.1) c.self.view_is c.find-first.ensures in
    let two = subst (λ (v : Chain). IsPlace v.nodes (c.args.to - 1) c.find-last.result.0 c.find-last.result.1) c.self.view_is c.find-last.ensures in
    let less : c.args.from < c.args.to = omega (arith, c.if-from-to.false, c.requires.order) in
    let order = place_order q.nodes c.args.from (c.args.to - 1) c.find-first.result.0 c.find-last.result.0 c.find-first.result.1 c.find-last.result.1 one two (omega (arith, less)) in
    let same : c.find-last.result.0 ≡ c.find-first.result.0 = omega (arith, order, c.if-first-last.false) in
    let range = range_within m q c.args.from c.args.to c.find-first.result.0 c.find-first.result.1 c.find-last.result.0 c.find-last.result.1 c.requires.quick one two less same in
    subst (λ xs. OnOk c.remove_within.result (IsChanged m (g.B.BlockStore.blocks c.remove_within.new.store) q c.remove_within.new.self xs)) range c.remove_within.ensures.changed
