use Rattle.std.proofs.Common.{◌∙◌, ℕ, List, length, ap, arith}
use Rattle.listpack.specs.Pack.{texts}
use Rattle.stream_node.specs.Written.{entry_texts}
use Rattle.stream_node.proofs.Appendings.{AreIds}
use Rattle.stream_node.proofs.Behinds.{alone, alone_room, few_behind, is_over}
use Rattle.stream_node.proofs.behind.entry_behind.Goals as goal

pub put_entry-requires-clause-room : goal.put_entry-requires-clause-room
put_entry-requires-clause-room c =
    alone_room c.args.key c.args.id c.args.pack.now c.in_ok-entry.entry.items c.args.pairs.now c.in-Some.live c.in-Some.same c.in-Some.ensures.some c.requires.room c.in_ok-entry.ensures.pack
    c.in_ok-entry.ensures.entries

pub overflow_add-count : goal.overflow_add-count
overflow_add-count c =
    let e = alone c.in_ok-entry.entry.items c.put_entry.new.pack.items (entry_texts c.args.key c.args.id c.in-Some.same c.args.pairs.now) c.in_ok-entry.ensures.entries c.in_ok-put_entry.ensures in
    let few = few_behind c.args.key c.args.id c.args.pack.now c.put_entry.new.pack.items c.args.pairs.now c.in-Some.live c.in-Some.same c.requires.packed (omega arith) (omega arith)
    c.in-Some.ensures.some c.requires.room e in
    omega (
      arith,
      few.elements,
      c.plan.ensures.short,
      ap (λ (b : List ℕ). length (texts b)) c.known.ensures,
      ap (λ (b : List ℕ). length (texts b)) (c.known-2.ensures ∙ c.deref.ensures.value),
    )

pub overflow_cast-total : goal.overflow_cast-total
overflow_cast-total c =
    let e = alone c.in_ok-entry.entry.items c.put_entry.new.pack.items (entry_texts c.args.key c.args.id c.in-Some.same c.args.pairs.now) c.in_ok-entry.ensures.entries c.in_ok-put_entry.ensures in
    let few = few_behind c.args.key c.args.id c.args.pack.now c.put_entry.new.pack.items c.args.pairs.now c.in-Some.live c.in-Some.same c.requires.packed (omega arith) (omega arith)
    c.in-Some.ensures.some c.requires.room e in
    record { fits = omega (arith, few.bytes, few.header) }

pub returns : goal.returns
returns c =
    let entry = c.put_entry.new.pack.items in
    let e = alone c.in_ok-entry.entry.items entry (entry_texts c.args.key c.args.id c.in-Some.same c.args.pairs.now) c.in_ok-entry.ensures.entries c.in_ok-put_entry.ensures in
    let ids : AreIds c.args.key c.args.id = record { id_ms = omega arith; id_seq = omega arith; key_ms = omega arith; key_seq = omega arith } in
    let more = ap (λ (b : List ℕ). length (texts b)) (c.known-2.ensures ∙ c.deref.ensures.value) in
    is_over c.args.key c.args.id c.args.pack.now entry _ c.args.pairs.now c.in-Some.live c.in-Some.same _ _ ids c.requires.packed c.requires.node c.requires.above c.requires.some
    c.plan.ensures.short c.requires.room c.in-Some.ensures.some (omega arith) (omega arith) e c.head_of-head.ensures (omega arith)
    (omega (arith, ap (λ (b : List ℕ). length (texts b)) c.known.ensures, more)) (omega arith)
