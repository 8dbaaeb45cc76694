use Rattle.std.proofs.Common.{◌≡◌, ◌≤◌, ◌*◌, length, vec_len, take, drop, arith, rules, sym, subst, ap, ◌∙◌}
use Rattle.std.specs.Prelude.{Some}
use Rattle.std.proofs.lemmas.List.{get_or_read, length-take, length-drop}
use Rattle.blocks.specs.Slabs.{IsClassOf}
use Rattle.class_heap.specs.Slots.{IsSlab}
use Rattle.class_heap.specs.Live.{part_fits, live_used, live_there, block_known, block_length}
use Rattle.class_heap.proofs.Parts.{placed_over, carried, sound_over}
use Rattle.class_heap.proofs.slab.Slab.carry.Goals as goal

pub index-requires : goal.index-requires
index-requires c =
    (let s = c.args.self.now in let h = live_there s.sound c.args.slot c.requires.live in let same : vec_len s.words ≡ length s.words.items = search rules in omega (arith, h, same))

pub take_slot-new-requires-clause-class : goal.take_slot-new-requires-clause-class
take_slot-new-requires-clause-class c =
    let s = c.args.self.now in let e = get_or_read s.words.items _ _ (live_there s.sound c.args.slot c.requires.live) c.index.ensures 65535 in
    subst (λ k. IsClassOf c.index.result.now k) (sym c.requires.class)
    (subst (λ n. IsClassOf n s.class) (sym e) (s.sound.held c.args.slot (live_used s.size s.words.items s.mem c.args.slot c.requires.live)))

pub overflow_mul-slot : goal.overflow_mul-slot
overflow_mul-slot c = (let s = c.args.self.now in let f = part_fits s.sound c.args.slot c.requires.live in omega (arith, f))

pub overflow_mul-new : goal.overflow_mul-new
overflow_mul-new c = (let o = c.take_slot-new.new.self in let f = part_fits o.sound c.take_slot-new.result c.take_slot-new.ensures.taken in omega (arith, f))

pub copy_across-requires-clause-from : goal.copy_across-requires-clause-from
copy_across-requires-clause-from c =
    (let s = c.args.self.now in let f = part_fits s.sound c.args.slot c.requires.live in let e =
    get_or_read s.words.items _ _ (live_there s.sound c.args.slot c.requires.live) c.index.ensures 65535 in omega (arith, f, e))

pub copy_across-requires-clause-room : goal.copy_across-requires-clause-room
copy_across-requires-clause-room c =
    let o = c.take_slot-new.new.self in
    let f = part_fits o.sound c.take_slot-new.result c.take_slot-new.ensures.taken in
    let l = block_length o.sound c.take_slot-new.result c.take_slot-new.ensures.taken in let m = c.take_slot-new.ensures.long in
    omega (arith, f, l, m)

pub invariant_of-other : goal.invariant_of-other
invariant_of-other c =
    let o = c.take_slot-new.new.self in let piece = take c.index.result.now (drop (c.args.slot * c.args.self.now.size) c.args.self.now.mem) in
    let p : length piece ≤ c.index.result.now = omega (arith, length-take c.index.result.now (drop (c.args.slot * c.args.self.now.size) c.args.self.now.mem)) in
    let f = part_fits o.sound c.take_slot-new.result c.take_slot-new.ensures.taken in
    let l = block_length o.sound c.take_slot-new.result c.take_slot-new.ensures.taken in let m = c.take_slot-new.ensures.long in
    record {
      sound = subst (λ m. IsSlab o.class o.size o.used o.head o.words.items m) (sym c.copy_across.ensures)
          (sound_over o.sound (c.take_slot-new.result * o.size) piece (omega (arith, p, f, l, m)));
    }

pub returns-clause-carried : goal.returns-clause-carried
returns-clause-carried c = λ at.
    let s = c.args.self.now in let o = c.take_slot-new.new.self in
    let piece = take c.index.result.now (drop (c.args.slot * s.size) s.mem) in
    let e = get_or_read s.words.items _ _ (live_there s.sound c.args.slot c.requires.live) c.index.ensures 65535 in
    let f = part_fits s.sound c.args.slot c.requires.live in let m = s.sound.long in
    let long : length piece ≡ c.index.result.now = omega (arith, length-take c.index.result.now (drop (c.args.slot * s.size) s.mem), length-drop (c.args.slot * s.size) s.mem, e, f, m) in
    placed_over c.take_slot-new.result at _ _ _ _ _
    (carried o.sound c.take_slot-new.result piece c.copy_across.new.other c.take_slot-new.ensures.taken (c.take_slot-new.ensures.long ∙ sym long) c.copy_across.ensures at)
    (ap (λ n. Some (take n (drop (c.args.slot * s.size) s.mem))) e ∙ sym (block_known s.sound c.args.slot c.requires.live))
    (λ ne. c.take_slot-new.ensures.others at ne)
