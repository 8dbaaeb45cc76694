use Rattle.std.proofs.Common.{List, ℕ, length, is_some, refl, sym, ap, subst, arith}
use Rattle.blocks.proofs.Serve.{served_same}
use Rattle.listpack.specs.Pack.{texts}
use Rattle.stream_node.specs.Entries.{entries_of}
use Rattle.stream_node.specs.Marked.{marked_over}
use Rattle.stream_object.specs.Block.{IsPut}
use Rattle.stream_object.specs.Found.{Becomes}
use Rattle.stream_object.specs.Node.{IsAt, Marks}
use Rattle.stream_object.specs.Parts.{IsNodeOf, parts_of}
use Rattle.stream_object.proofs.Exchanging.{rewritten, stands_block, stands_node}
use Rattle.stream_object.proofs.Holdings.{holds_bytes}
use Rattle.stream_object.proofs.Marking.{can_mark, is_marked}
use Rattle.stream_object.proofs.Losing.{stays_marked, stands_bytes}
use Rattle.stream_object.proofs.removing.mark_out.Goals as goal

pub bytes-bytes-requires : goal.bytes-bytes-requires
bytes-bytes-requires g c =
    let m = g.B.BlockStore.blocks c.args.store.now in
    ap is_some (stands_block m c.args.tree.now (parts_of m c.args.tree.now) c.args.key c.args.at c.requires.parts c.requires.stands.0)

pub marked-requires : goal.marked-requires
marked-requires g c =
    let m = g.B.BlockStore.blocks c.args.store.now in
    let s = c.requires.stands.0 in
    let same = sym (stands_bytes m c.args.tree.now c.args.key c.args.at s c.requires.parts c.bytes-bytes.result.now c.bytes-bytes.ensures) in
    let at = subst (λ (b : List ℕ). IsAt (entries_of c.args.key (texts b)) c.args.index c.requires.stands.1.0) same c.requires.stands.1.1 in
    (c.args.key, subst (IsNodeOf c.args.key) same (stands_node m c.args.tree.now (parts_of m c.args.tree.now) c.args.key c.args.at c.requires.parts s), (c.requires.stands.1.0, at))

pub mark_over-requires-clause-packed : goal.mark_over-requires-clause-packed
mark_over-requires-clause-packed g c =
    let m = g.B.BlockStore.blocks c.args.store.now in
    let s = c.requires.stands.0 in
    let same = sym (stands_bytes m c.args.tree.now c.args.key c.args.at s c.requires.parts c.bytes-bytes.result.now c.bytes-bytes.ensures) in
    (subst (IsNodeOf c.args.key) same (stands_node m c.args.tree.now (parts_of m c.args.tree.now) c.args.key c.args.at c.requires.parts s)).pack

pub mark_over-requires-clause-entry : goal.mark_over-requires-clause-entry
mark_over-requires-clause-entry g c =
    let m = g.B.BlockStore.blocks c.args.store.now in
    let s = c.requires.stands.0 in
    let same = sym (stands_bytes m c.args.tree.now c.args.key c.args.at s c.requires.parts c.bytes-bytes.result.now c.bytes-bytes.ensures) in
    let at = subst (λ (b : List ℕ). IsAt (entries_of c.args.key (texts b)) c.args.index c.requires.stands.1.0) same c.requires.stands.1.1 in
    let is_node = subst (IsNodeOf c.args.key) same (stands_node m c.args.tree.now (parts_of m c.args.tree.now) c.args.key c.args.at c.requires.parts s) in
    (c.args.key, can_mark c.args.key c.bytes-bytes.result.now c.args.index c.requires.stands.1.0 is_node at)

pub write_mark-requires-clause-some : goal.write_mark-requires-clause-some
write_mark-requires-clause-some g c = omega (arith, c.in-Some.ensures.some, ap length (holds_bytes (g.B.BlockStore.blocks c.args.store.now) c.args.at c.bytes-bytes.result.now c.bytes-bytes.ensures))

pub write_mark-requires-clause-inside : goal.write_mark-requires-clause-inside
write_mark-requires-clause-inside g c = omega (arith, c.in-Some.ensures.inside, ap length (holds_bytes (g.B.BlockStore.blocks c.args.store.now) c.args.at c.bytes-bytes.result.now c.bytes-bytes.ensures))

pub returns-in-Some-clause-loses : goal.returns-in-Some-clause-loses
returns-in-Some-clause-loses g c =
    let m = g.B.BlockStore.blocks c.args.store.now in
    let after = g.B.BlockStore.blocks c.write_mark.new.store in
    let tree = c.args.tree.now in
    let bytes = c.bytes-bytes.result.now in
    let over = c.in-Some.ensures in
    let new = marked_over bytes c.in-Some.mark in
    let put = subst (λ (b : List ℕ). IsPut m after c.args.at (marked_over b c.in-Some.mark)) (holds_bytes m c.args.at bytes c.bytes-bytes.ensures) c.write_mark.ensures.put in
    λ s e a. (let same = stands_bytes m tree c.args.key c.args.at s c.requires.parts bytes c.bytes-bytes.ensures in
    let is_node = stands_node m tree (parts_of m tree) c.args.key c.args.at c.requires.parts s in
    let marks = subst (λ (b : List ℕ). Marks c.args.key b new c.args.index) same (is_marked bytes new c.args.index over.marked c.args.key) in
    let done = marks e a is_node (c.requires.others s) in
    stays_marked m after tree tree c.args.key c.args.at s c.args.index e a new c.args.at c.requires.parts done.0 done.1
    (λ t is rising. rewritten m tree (parts_of m tree) c.args.key c.args.at c.requires.parts t after new put is rising))

pub returns-clause-loses : goal.returns-clause-loses
returns-clause-loses g c =
    let m = g.B.BlockStore.blocks c.args.store.now in
    let after = g.B.BlockStore.blocks c.replace.new.store in
    λ s e a. (let same = stands_bytes m c.args.tree.now c.args.key c.args.at s c.requires.parts c.bytes-bytes.result.now c.bytes-bytes.ensures in
    let is_node = stands_node m c.args.tree.now (parts_of m c.args.tree.now) c.args.key c.args.at c.requires.parts s in
    let marks = subst (λ (b : List ℕ). Marks c.args.key b c.in_ok-pack.pack.items c.args.index) same (c.in_ok-pack.ensures c.args.key) in
    let done = marks e a is_node (c.requires.others s) in
    stays_marked m after c.args.tree.now c.replace.new.tree c.args.key c.args.at s c.args.index e a c.in_ok-pack.pack.items c.in_ok-replace.field-0 c.requires.parts done.0 done.1
    (subst (λ (b : List ℕ). Becomes m after c.args.tree.now c.replace.new.tree c.args.key c.args.at b c.in_ok-replace.field-0) c.deref.ensures.value c.in_ok-replace.ensures.replaced))

pub returns-in_err-pack-clause-served : goal.returns-in_err-pack-clause-served
returns-in_err-pack-clause-served g c = served_same _ _ refl
