use Rattle.std.proofs.Common.{◌+◌, ◌-◌, ℕ, ap, ◌∙◌, arith}
use Rattle.std.specs.Prelude.{min}
use Rattle.listpack.specs.Pack.{told}
use Rattle.listpack.proofs.Repacking.{appended, in_place, texts_appended, element_fits, length-put}
use Rattle.listpack.proofs.edits.append.Goals as goal

pub returns-clause-entries : goal.returns-clause-entries
returns-clause-entries c =
    let old = c.args.pack.now.items in
    let text = c.args.element.now in
    let inner = in_place old c.put.new.pack.items text (c.len-end.result - 1) c.in_ok-put.ensures.ok in
    appended old c.put.new.pack.items c.write_header.new.pack.items text (c.len-end.result - 1) c.saturating_add.result c.requires.packed
    (element_fits old text c.requires.fits)
    (omega arith)
    inner
    c.write_header.ensures
    (length-put old c.put.new.pack.items text (c.len-end.result - 1) inner c.requires.fits)
    (c.saturating_add.ensures ∙ ap (λ (k : ℕ). min (k + 1) 65535) (c.told_count-count.ensures ∙ ap told c.deref.ensures.value))

pub returns-clause-list : goal.returns-clause-list
returns-clause-list c =
    texts_appended c.args.pack.now.items c.write_header.new.pack.items c.args.element.now _ (returns-clause-entries c)
    (element_fits c.args.pack.now.items c.args.element.now c.requires.fits)
