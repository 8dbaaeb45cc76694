use Rattle.std.proofs.Common.{◌≡◌, ℕ, ◌≤◌, ◌-◌, ◌*◌, cond, eqb, length, take, drop, replicate, unwrap_or, [], arith, refl, ap, ◌∙◌, sym, subst}
use Rattle.std.specs.Prelude.{Some}
use Rattle.std.proofs.lemmas.List.{get_or_read, length-take, length-drop, length-replicate}
use Rattle.blocks.specs.Blocks.{overwritten, resized}
use Rattle.class_heap.specs.Live.{size_most, part_fits, live_there, block_known}
use Rattle.class_heap.specs.Slab.{block_at, bytes_in}
use Rattle.class_heap.proofs.Parts.{pick_same, pick_other, placed_over, class_fits, resized_less, resized_more}
use Rattle.class_heap.proofs.slab.Slab.stretch.Goals as goal

pub zeros-requires : goal.zeros-requires
zeros-requires c =
    (let s = c.args.self.now in let m = size_most s.sound in let z = s.sound.sized in let q : c.args.len ≤ s.size = subst (λ n. c.args.len ≤ n) (sym z) c.requires.class.holds in
    omega (arith, m, q))

pub write-requires-clause-room : goal.write-requires-clause-room
write-requires-clause-room c =
    let s = c.args.self.now in let len = c.args.len in let slot = c.args.slot in let behind = drop (slot * s.size) s.mem in
    let there : bytes_in c.resize.new.self slot ≡ take len behind = ap (λ o. unwrap_or o []) (c.resize.ensures.resized slot ∙ pick_same slot slot _ _ refl) in
    let zeros : length c.zeros.result.now ≡ len - c.index.result.now = ap length c.zeros.ensures ∙ length-replicate {A = ℕ} (len - c.index.result.now) 0 in
    let fit = class_fits s.sound slot len c.requires.live c.requires.class in let long = s.sound.long in let more = c.if-old_len-len.true in
    omega (arith, ap length there, length-take len behind, length-drop (slot * s.size) s.mem, zeros, fit, long, more)

pub returns-then-old_len-len-clause-stretched : goal.returns-then-old_len-len-clause-stretched
returns-then-old_len-len-clause-stretched c = λ other.
    let s = c.args.self.now in let len = c.args.len in let slot = c.args.slot in let old = c.index.result.now in let behind = drop (slot * s.size) s.mem in
    let there : bytes_in c.resize.new.self slot ≡ take len behind = ap (λ o. unwrap_or o []) (c.resize.ensures.resized slot ∙ pick_same slot slot _ _ refl) in
    let e = get_or_read s.words.items _ _ (live_there s.sound slot c.requires.live) c.index.ensures 65535 in
    let were : bytes_in s slot ≡ take old behind = ap (λ o. unwrap_or o []) (block_known s.sound slot c.requires.live) ∙ ap (λ n. take n behind) (sym e) in
    let fit = class_fits s.sound slot len c.requires.live c.requires.class in let long = s.sound.long in
    placed_over slot other _ _ _ _ _ (c.write.ensures.written other)
    (ap (λ piece. Some (overwritten (bytes_in c.resize.new.self slot) old piece)) c.zeros.ensures
    ∙ (ap (λ bytes. Some (overwritten bytes old (replicate (len - old) 0))) there
    ∙ (ap Some (resized_more behind old len c.if-old_len-len.true (omega (arith, length-drop (slot * s.size) s.mem, fit, long))) ∙ ap (λ bytes. Some (resized bytes len)) (sym were))))
    (λ ne. c.resize.ensures.resized other ∙ pick_other other slot _ _ ne)

pub returns-else-old_len-len-clause-stretched : goal.returns-else-old_len-len-clause-stretched
returns-else-old_len-len-clause-stretched c = λ other.
    let s = c.args.self.now in let len = c.args.len in let slot = c.args.slot in let old = c.index.result.now in let behind = drop (slot * s.size) s.mem in
    let e = get_or_read s.words.items _ _ (live_there s.sound slot c.requires.live) c.index.ensures 65535 in
    let were : bytes_in s slot ≡ take old behind = ap (λ o. unwrap_or o []) (block_known s.sound slot c.requires.live) ∙ ap (λ n. take n behind) (sym e) in
    let fit = part_fits s.sound slot c.requires.live in let long = s.sound.long in
    c.resize.ensures.resized other ∙ ap (λ o. cond (eqb other slot) o (block_at s other))
    (ap Some (resized_less behind old len c.if-old_len-len.false (omega (arith, length-drop (slot * s.size) s.mem, fit, long, e))) ∙ ap (λ bytes. Some (resized bytes len)) (sym were))
