use Rattle.std.proofs.Common.{◌+◌, ◌++◌, ℕ, List, take, drop, ap, ◌∙◌}
use Rattle.std.specs.Prelude.{min}
use Rattle.listpack.specs.Pack.{offset_of, told}
use Rattle.listpack.specs.Writing.{entry}
use Rattle.listpack.proofs.Repacking.{inserted, in_place, texts_inserted, element_fits, length-put}
use Rattle.listpack.proofs.edits.insert.Goals as goal

pub returns-clause-entries : goal.returns-clause-entries
returns-clause-entries c =
    let old = c.args.pack.now.items in
    let text = c.args.element.now in
    let at = c.offset-at.ensures.place ∙ ap (λ (b : List ℕ). offset_of b c.args.index) (c.known.ensures ∙ c.deref-2.ensures.value) in
    let inner = in_place old c.put.new.pack.items text c.offset-at.result c.in_ok-put.ensures.ok in
    inserted old c.put.new.pack.items c.write_header.new.pack.items text c.args.index c.saturating_add.result c.requires.packed c.requires.index
    (element_fits old text c.requires.fits)
    (inner ∙ ap (λ (k : ℕ). take k old ++ (entry text ++ drop k old)) at)
    c.write_header.ensures
    (length-put old c.put.new.pack.items text c.offset-at.result inner c.requires.fits)
    (c.saturating_add.ensures ∙ ap (λ (k : ℕ). min (k + 1) 65535) (c.told_count-told.ensures ∙ ap told c.deref.ensures.value))

pub returns-clause-list : goal.returns-clause-list
returns-clause-list c =
    texts_inserted c.args.pack.now.items c.write_header.new.pack.items c.args.element.now c.args.index _ (returns-clause-entries c)
    (element_fits c.args.pack.now.items c.args.element.now c.requires.fits)
