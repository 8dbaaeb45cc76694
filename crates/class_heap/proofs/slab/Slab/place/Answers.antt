use Rattle.std.proofs.Common.{◌≡◌, ◌≤◌, ℕ, length, arith, sym, subst, ap, ◌∙◌}
use Rattle.std.specs.Prelude.{Some}
use Rattle.std.proofs.lemmas.List.{length-replicate}
use Rattle.blocks.proofs.Written.{overwritten_all}
use Rattle.class_heap.specs.Live.{size_most}
use Rattle.class_heap.proofs.Parts.{placed_over}
use Rattle.class_heap.proofs.slab.Slab.place.Goals as goal

pub zeros-requires : goal.zeros-requires
zeros-requires c = (let s = c.args.self.now in let m = size_most s.sound in let q : c.args.len ≤ s.size = subst (λ n. c.args.len ≤ n) (sym s.sound.sized) c.requires.class.holds in omega (arith, m, q))

pub returns-clause-placed : goal.returns-clause-placed
returns-clause-placed c = λ other.
    let long : length c.zeros.result.now ≡ c.args.len = ap length c.zeros.ensures ∙ length-replicate {A = ℕ} c.args.len 0 in
    placed_over c.take_slot-slot.result other _ _ _ _ _ (c.write.ensures.written other)
    (ap Some (overwritten_all _ c.zeros.result.now (c.take_slot-slot.ensures.long ∙ sym long) ∙ c.zeros.ensures))
    (λ ne. c.take_slot-slot.ensures.others other ne)
