use Rattle.std.proofs.Common.{◌≡◌, ◌+◌, ◌-◌, ◌++◌, ◌<◌, ◌≤◌, ◌^◌, ℕ, List, length, take, drop, ap, ◌∙◌, arith}
use Rattle.listpack.specs.Pack.{offset_of, told}
use Rattle.listpack.specs.Edits.{fewer}
use Rattle.listpack.proofs.Offsets.{offset_rises}
use Rattle.listpack.proofs.Repacking.{taken_out, texts_taken_out, told_enough, length-cut}
use Rattle.listpack.proofs.edits.remove_range.Goals as goal

pub overflow_sub-end : goal.overflow_sub-end
overflow_sub-end c =
    let rises = offset_rises c.known-walk.result.bytes.now c.args.from c.args.to c.requires.order in
    omega (arith, rises, c.offset-at.ensures.place, c.offset-end.ensures.place)

pub fewer_told-requires : goal.fewer_told-requires
fewer_told-requires c =
    told_enough c.args.pack.now.items c.told_count-count.result (c.args.to - c.args.from) c.requires.packed (c.told_count-count.ensures ∙ ap told c.deref.ensures.value)
    (omega (arith, c.requires.inside))

pub returns-clause-entries : goal.returns-clause-entries
returns-clause-entries c =
    let old = c.args.pack.now.items in
    let value = c.known-walk.ensures ∙ c.deref-2.ensures.value in
    let at : c.offset-at.result ≡ offset_of old c.args.from = c.offset-at.ensures.place ∙ ap (λ (b : List ℕ). offset_of b c.args.from) value in
    let end : c.offset-end.result ≡ offset_of old c.args.to = c.offset-end.ensures.place ∙ ap (λ (b : List ℕ). offset_of b c.args.to) value in
    let size : ℕ = c.offset-end.result - c.offset-at.result in
    let rises = offset_rises old c.args.from c.args.to c.requires.order in
    let next : c.offset-at.result + size ≡ offset_of old c.args.to = omega (arith, rises, at, end) in
    let inner : c.cut.new.pack.items ≡ take (offset_of old c.args.from) old ++ drop (offset_of old c.args.to) old =
    c.cut.ensures ∙ ap (λ (k : ℕ). take k old ++ drop (c.offset-at.result + size) old) at ∙ ap (λ (k : ℕ). take (offset_of old c.args.from) old ++ drop k old) next in
    let inside : c.offset-at.result + size ≤ length old = omega (arith, next, end, c.offset-end.ensures.inside, ap length value) in
    let small : length c.cut.new.pack.items < 2 ^ 32 = length-cut old c.cut.new.pack.items c.offset-at.result size c.cut.ensures inside (omega (arith, c.known-walk.result.small, ap length value)) in
    let same = c.told_count-count.ensures ∙ ap told c.deref.ensures.value in
    taken_out old c.cut.new.pack.items c.write_header.new.pack.items c.args.from c.args.to c.fewer_told.result c.requires.packed c.requires.order c.requires.inside inner c.write_header.ensures small
    (omega arith) (c.fewer_told.ensures ∙ ap (λ (k : ℕ). fewer k (c.args.to - c.args.from)) same)

pub returns-clause-list : goal.returns-clause-list
returns-clause-list c = texts_taken_out c.args.pack.now.items c.write_header.new.pack.items c.args.from c.args.to _ (returns-clause-entries c)
