use Rattle.std.proofs.Common.{◌≡◌, ◌+◌, ◌++◌, ◌∷◌, [], ℕ, List, length, ap, ◌∙◌, arith}
use Rattle.std.proofs.lemmas.List.{length_push}
use Rattle.listpack.proofs.Regions.{length_entry, begins_push}
use Rattle.listpack.proofs.entry.count_entries.Goals as goal

pub loop-rest-smaller : goal.loop-rest-smaller
loop-rest-smaller c =
    let t = c.in_ok-after.ensures.ok in
    let longer = length_entry c.in_ok-after.field-0-0.now c.in_ok-after.after.now t.1 in
    omega (arith, longer, ap length t.0)

pub loop-rest-preserved : goal.loop-rest-preserved
loop-rest-preserved c =
    let t = c.in_ok-after.ensures.ok in
    let s = c.in_ok-after.field-0-0.now in
    let longer = length_entry s c.in_ok-after.after.now t.1 in
    let old = c.loop-rest.invariant.0 in (
      (
        old.0 ++ s ∷ [],
        begins_push c.args.region.now c.loop-rest.rest.now c.in_ok-after.after.now s old.0 old.1 t.0 t.1,
        ap (λ (n : ℕ). n + 1) old.2
            ∙ Rattle.std.proofs.Common.sym (length_push old.0 s),
      ),
      omega (arith, longer, ap length t.0),
    )
