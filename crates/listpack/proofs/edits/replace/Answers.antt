use Rattle.std.proofs.Common.{◌≡◌, ◌+◌, ◌++◌, ◌<◌, ℕ, List, length, take, drop, sym, ap, ◌∙◌, arith}
use Rattle.listpack.specs.Pack.{offset_of, told}
use Rattle.listpack.specs.Writing.{entry}
use Rattle.listpack.proofs.Repacking.{replaced, texts_replaced, element_fits, length_exchanged}
use Rattle.listpack.proofs.edits.replace.Goals as goal

pub returns-clause-entries : goal.returns-clause-entries
returns-clause-entries c =
    let old = c.args.pack.now.items in
    let text = c.args.element.now in
    let i = c.args.index in
    let value = c.deref-2.ensures.value in
    let place = c.place_of-at.result.0 in
    let size = c.place_of-at.result.1 in
    let at : place ≡ offset_of old i = c.place_of-at.ensures.at ∙ ap (λ (b : List ℕ). offset_of b i) value in
    let next : place + size ≡ offset_of old (i + 1) = sym c.place_of-at.ensures.next ∙ ap (λ (b : List ℕ). offset_of b (i + 1)) value in
    let inside : place + size < length old = omega (arith, c.place_of-at.ensures.inside, ap length value) in
    let put = c.in_ok-put.ensures.ok in
    let inner = put ∙ ap (λ (k : ℕ). take k old ++ (entry text ++ drop (place + size) old)) at ∙ ap (λ (k : ℕ). take (offset_of old i) old ++ (entry text ++ drop k old)) next in
    replaced old c.put.new.pack.items c.write_header.new.pack.items text i c.told_count-count.result c.requires.packed c.requires.index
    (element_fits old text c.requires.fits) inner c.write_header.ensures
    (length_exchanged old c.put.new.pack.items text place size put c.requires.fits (omega (arith, inside)))
    (omega arith) (c.told_count-count.ensures ∙ ap told c.deref.ensures.value)

pub returns-clause-list : goal.returns-clause-list
returns-clause-list c =
    texts_replaced c.args.pack.now.items c.write_header.new.pack.items c.args.element.now c.args.index _ (returns-clause-entries c)
    (element_fits c.args.pack.now.items c.args.element.now c.requires.fits)
