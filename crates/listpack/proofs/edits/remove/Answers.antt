use Rattle.std.proofs.Common.{◌+◌, ◌++◌, ◌<◌, ◌^◌, ℕ, suc, List, length, take, drop, sym, ap, ◌∙◌, arith}
use Rattle.listpack.specs.Pack.{offset_of, told}
use Rattle.listpack.specs.Edits.{fewer}
use Rattle.listpack.proofs.Repacking.{one_taken_out, texts_taken_out, told_enough, length-cut}
use Rattle.listpack.proofs.edits.remove.Goals as goal

pub fewer_told-requires : goal.fewer_told-requires
fewer_told-requires c =
    told_enough c.args.pack.now.items c.told_count-count.result 1 c.requires.packed (c.told_count-count.ensures ∙ ap told c.deref.ensures.value) (omega (arith, c.requires.index))

pub returns-clause-entries : goal.returns-clause-entries
returns-clause-entries c =
    let old = c.args.pack.now.items in
    let i = c.args.index in
    let value = c.deref-2.ensures.value in
    let at = c.place_of-at.ensures.at ∙ ap (λ (b : List ℕ). offset_of b i) value in
    let next = sym c.place_of-at.ensures.next ∙ ap (λ (b : List ℕ). offset_of b (i + 1)) value in
    let inner = c.cut.ensures ∙ ap (λ (k : ℕ). take k old ++ drop (c.place_of-at.result.0 + c.place_of-at.result.1) old) at ∙ ap (λ (k : ℕ). take (offset_of old i) old ++ drop k old) next in
    let inside : c.place_of-at.result.0 + c.place_of-at.result.1 < length old = omega (arith, c.place_of-at.ensures.inside, ap length value) in
    let small : length c.cut.new.pack.items < 2 ^ 32 = length-cut old c.cut.new.pack.items c.place_of-at.result.0 c.place_of-at.result.1 c.cut.ensures (omega (arith, inside))
    (omega (arith, c.place_of-at.ensures.small, ap length value)) in
    let same = c.told_count-count.ensures ∙ ap told c.deref.ensures.value in
    one_taken_out old c.cut.new.pack.items c.write_header.new.pack.items i c.fewer_told.result c.requires.packed c.requires.index inner c.write_header.ensures small
    (omega arith) (c.fewer_told.ensures ∙ ap (λ (k : ℕ). fewer k 1) same)

pub returns-clause-list : goal.returns-clause-list
returns-clause-list c = texts_taken_out c.args.pack.now.items c.write_header.new.pack.items c.args.index (suc c.args.index) _ (returns-clause-entries c)
