use Rattle.std.proofs.Common.{◌≡◌, ◌+◌, ◌-◌, ◌<◌, ◌≤◌, length, vec_len, arith, sym, subst, ◌∙◌, get_or-set_same, rules, slice_set}
use Rattle.std.proofs.lemmas.List.{get_or_read}
use Rattle.class_heap.specs.Slots.{word_at, IsSlab}
use Rattle.class_heap.specs.Live.{used_live, block_length, size_most}
use Rattle.class_heap.proofs.Parts.{head_there, head_none, sound_taken, taken_live}
use Rattle.class_heap.proofs.slab.Slab.take_slot.Goals as goal

pub index-requires : goal.index-requires
index-requires c = (let s = c.args.self.now in let h = (head_there s.sound c.requires.room).0 in let same : vec_len s.words ≡ length s.words.items = search rules in omega (arith, h, same))

pub index_mut-requires : goal.index_mut-requires
index_mut-requires c = (let s = c.args.self.now in let h = (head_there s.sound c.requires.room).0 in let same : vec_len s.words ≡ length s.words.items = search rules in omega (arith, h, same))

pub overflow_sub-self : goal.overflow_sub-self
overflow_sub-self c = (let s = c.args.self.now in let h = head_there s.sound c.requires.room in let e = get_or_read s.words.items _ _ h.0 c.index.ensures 65535 in let f = h.1 in omega (arith, e, f))

pub overflow_cast-len : goal.overflow_cast-len
overflow_cast-len c =
    (let s = c.args.self.now in let m = size_most s.sound in let z = s.sound.sized in let q : c.args.len ≤ s.size = subst (λ n. c.args.len ≤ n) (sym z) c.requires.class.holds in
    omega (arith, m, q))

pub invariant_of-self : goal.invariant_of-self
invariant_of-self c =
    let s = c.args.self.now in let h = head_there s.sound c.requires.room in
    let e = get_or_read s.words.items _ _ h.0 c.index.ensures 65535 in
    let small : word_at s.words.items s.head < 65536 = omega (arith, e) in
    record {
      sound = subst (λ w. IsSlab s.class s.size (s.used + 1) (w - 32768) (slice_set s.words.items s.head c.args.len) s.mem) (sym e)
          (sound_taken s.sound c.args.len c.requires.room c.requires.class small);
    }

pub returns-clause-fresh : goal.returns-clause-fresh
returns-clause-fresh c = head_none c.args.self.now.sound c.requires.room

pub returns-clause-taken : goal.returns-clause-taken
returns-clause-taken c =
    let s = c.args.self.now in
    used_live s.size (slice_set s.words.items s.head c.args.len) s.mem s.head (taken_live s.sound c.args.len c.requires.room c.requires.class)

pub returns-clause-long : goal.returns-clause-long
returns-clause-long c =
    let s = c.args.self.now in let h = head_there s.sound c.requires.room in
    let e = get_or_read s.words.items _ _ h.0 c.index.ensures 65535 in
    let small : word_at s.words.items s.head < 65536 = omega (arith, e) in
    block_length (sound_taken s.sound c.args.len c.requires.room c.requires.class small) s.head
    (used_live s.size (slice_set s.words.items s.head c.args.len) s.mem s.head (taken_live s.sound c.args.len c.requires.room c.requires.class))
    ∙ get_or-set_same s.words.items s.head c.args.len 65535 h.0
