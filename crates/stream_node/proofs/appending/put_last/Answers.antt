use Rattle.std.proofs.Common.{◌<◌, ◌^◌, List, ℕ, subst, arith, length}
use Rattle.listpack.specs.Pack.{texts}
use Rattle.stream_node.specs.Node.{LacksHead}
use Rattle.stream_node.specs.Appended.{IsPlan, pack_len}
use Rattle.stream_node.proofs.Lists.{Texts}
use Rattle.stream_node.proofs.Written.{when_ok}
use Rattle.stream_node.proofs.Appendings.{AreIds, some_element, appended_is, appended_behind, empty_list, first_room, appended_first}
use Rattle.stream_node.proofs.appending.put_last.Goals as goal

pub put_behind-requires-clause-some : goal.put_behind-requires-clause-some
put_behind-requires-clause-some c =
    let p = subst (λ (x : List ℕ). IsPlan (texts x) c.args.pairs.now c.in-Some.live c.in-Some.same) c.deref.ensures.value c.in-Some.ensures.some in
    some_element (texts c.args.pack.now.items) c.args.pairs.now c.in-Some.live c.in-Some.same p

pub put_behind-requires-clause-room : goal.put_behind-requires-clause-room
put_behind-requires-clause-room c =
    let old = c.args.pack.now.items in
    let p = subst (λ (x : List ℕ). IsPlan (texts x) c.args.pairs.now c.in-Some.live c.in-Some.same) c.deref.ensures.value c.in-Some.ensures.some in
    subst (λ (x : Texts). pack_len x < 2 ^ 32) (appended_is c.args.key c.args.id old c.args.pairs.now c.in-Some.live c.in-Some.same p) c.requires.room

pub begin_node-requires-clause-room : goal.begin_node-requires-clause-room
begin_node-requires-clause-room c =
    let old = c.args.pack.now.items in
    let lacks = subst (λ (x : List ℕ). LacksHead (texts x)) c.deref.ensures.value c.in-None.ensures.none in
    first_room c.args.key c.args.id old c.args.pairs.now c.requires.packed (empty_list c.args.key (texts old) c.requires.node lacks) c.requires.room

pub returns-in-Some : goal.returns-in-Some
returns-in-Some c =
    let old = c.args.pack.now.items in
    let p = subst (λ (x : List ℕ). IsPlan (texts x) c.args.pairs.now c.in-Some.live c.in-Some.same) c.deref.ensures.value c.in-Some.ensures.some in
    let short : length (texts old) < 2 ^ 32 = subst (λ (x : List ℕ). length (texts x) < 2 ^ 32) c.deref.ensures.value c.plan.ensures.short in
    let ids : AreIds c.args.key c.args.id = record { id_ms = omega arith; id_seq = omega arith; key_ms = omega arith; key_seq = omega arith } in
    when_ok c.put_behind.result
    (appended_behind c.args.key c.args.id old c.put_behind.new.pack.items c.args.pairs.now c.in-Some.live c.in-Some.same ids c.requires.node c.requires.above c.requires.some short c.requires.room p)
    c.put_behind.ensures

pub returns-in-None : goal.returns-in-None
returns-in-None c =
    let old = c.args.pack.now.items in
    let lacks = subst (λ (x : List ℕ). LacksHead (texts x)) c.deref.ensures.value c.in-None.ensures.none in
    let ids : AreIds c.args.key c.args.id = record { id_ms = omega arith; id_seq = omega arith; key_ms = omega arith; key_seq = omega arith } in
    when_ok c.begin_node.result
    (appended_first c.args.key c.args.id old c.begin_node.new.pack.items c.args.pairs.now ids (empty_list c.args.key (texts old) c.requires.node lacks) c.requires.some c.requires.room)
    c.begin_node.ensures
