use Rattle.std.proofs.Common.{◌≡◌, ◌+◌, ◌++◌, ℕ, List, take, drop, length, ap, ◌∙◌, arith}
use Rattle.blocks.specs.Blocks.{bytes_at}
use Rattle.blocks.proofs.Serve.{served_then}
use Rattle.listpack.specs.Writing.{entry}
use Rattle.listpack.proofs.Repacking.{element_fits}
use Rattle.pack_block.proofs.Edited.{headed_block, length_entry, live_gap, put_changes, put_entry}
use Rattle.pack_block.proofs.edits.put.Goals as goal

pub entry_parts-head-requires : goal.entry_parts-head-requires
entry_parts-head-requires g c = element_fits (bytes_at (g.B.BlockStore.blocks c.args.store.now) c.args.at) c.args.element.now c.requires.fits

pub write_header-requires-clause-long : goal.write_header-requires-clause-long
write_header-requires-clause-long g c =
    let old = bytes_at (g.B.BlockStore.blocks c.args.store.now) c.args.at in
    let text = c.args.element.now in
    let mid = g.B.BlockStore.blocks c.gap.new.store in
    let filled = g.B.BlockStore.blocks c.write_pieces.new.store in
    let a = c.as_slice.result.now in
    let b = c.entry_parts-head.result.1.now in
    let d = c.as_slice-2.result.now in
    let parts : a ++ (b ++ d) ≡ entry text = ap (λ (xs : List ℕ). xs ++ (b ++ d)) c.as_slice.ensures ∙ ap (λ (xs : List ℕ). c.entry_parts-head.result.0 ++ (b ++ xs)) c.as_slice-2.ensures
    ∙ c.entry_parts-head.ensures.parts in
    let wide : c.len.result + length b + c.len-2.result ≡ length (entry text) = omega (arith, c.len.ensures.value, c.len-2.ensures.value, c.entry_parts-head.ensures.size) in
    let is = put_entry mid filled c.in_ok-new.new old a b d text c.args.from _ c.in_ok-new.ensures.gap parts wide c.requires.inside c.write_pieces.ensures.written in
    omega (arith, c.requires.long, length_entry old (bytes_at filled c.in_ok-new.new) text c.args.from is)

pub write_header-requires-clause-small : goal.write_header-requires-clause-small
write_header-requires-clause-small g c =
    let old = bytes_at (g.B.BlockStore.blocks c.args.store.now) c.args.at in
    let text = c.args.element.now in
    let mid = g.B.BlockStore.blocks c.gap.new.store in
    let filled = g.B.BlockStore.blocks c.write_pieces.new.store in
    let a = c.as_slice.result.now in
    let b = c.entry_parts-head.result.1.now in
    let d = c.as_slice-2.result.now in
    let parts : a ++ (b ++ d) ≡ entry text = ap (λ (xs : List ℕ). xs ++ (b ++ d)) c.as_slice.ensures ∙ ap (λ (xs : List ℕ). c.entry_parts-head.result.0 ++ (b ++ xs)) c.as_slice-2.ensures
    ∙ c.entry_parts-head.ensures.parts in
    let wide : c.len.result + length b + c.len-2.result ≡ length (entry text) = omega (arith, c.len.ensures.value, c.len-2.ensures.value, c.entry_parts-head.ensures.size) in
    let is = put_entry mid filled c.in_ok-new.new old a b d text c.args.from _ c.in_ok-new.ensures.gap parts wide c.requires.inside c.write_pieces.ensures.written in
    omega (arith, c.requires.fits, length_entry old (bytes_at filled c.in_ok-new.new) text c.args.from is)

pub returns-clause-put : goal.returns-clause-put
returns-clause-put g c =
    let old = bytes_at (g.B.BlockStore.blocks c.args.store.now) c.args.at in
    let text = c.args.element.now in
    let mid = g.B.BlockStore.blocks c.gap.new.store in
    let filled = g.B.BlockStore.blocks c.write_pieces.new.store in
    let a = c.as_slice.result.now in
    let b = c.entry_parts-head.result.1.now in
    let d = c.as_slice-2.result.now in
    let parts : a ++ (b ++ d) ≡ entry text = ap (λ (xs : List ℕ). xs ++ (b ++ d)) c.as_slice.ensures ∙ ap (λ (xs : List ℕ). c.entry_parts-head.result.0 ++ (b ++ xs)) c.as_slice-2.ensures
    ∙ c.entry_parts-head.ensures.parts in
    let wide : c.len.result + length b + c.len-2.result ≡ length (entry text) = omega (arith, c.len.ensures.value, c.len-2.ensures.value, c.entry_parts-head.ensures.size) in
    let is = put_entry mid filled c.in_ok-new.new old a b d text c.args.from _ c.in_ok-new.ensures.gap parts wide c.requires.inside c.write_pieces.ensures.written in
    headed_block filled (g.B.BlockStore.blocks c.write_header.new.store) c.in_ok-new.new c.args.count (take c.args.from old ++ (entry text ++ drop c.args.from old)) is c.write_header.ensures.written

pub returns-clause-changes : goal.returns-clause-changes
returns-clause-changes g c =
    put_changes _ _ _ _ _ _ _ _ c.in_ok-new.ensures.changes (live_gap _ _ _ _ _ _ c.in_ok-new.ensures.gap) c.write_pieces.ensures.written c.write_header.ensures.written

pub returns-clause-served : goal.returns-clause-served
returns-clause-served g c = served_then _ _ _ (served_then _ _ _ c.gap.ensures.served c.write_pieces.ensures.served) c.write_header.ensures.served
