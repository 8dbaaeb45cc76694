use Rattle.std.proofs.Common.{◌∙◌, ap, sym, refl, map, ◌≡◌, replicate, rules}
use Rattle.std.specs.Prelude.{Some, None}
use Rattle.blocks.specs.Plain.{plain_blocks, bytes_of, blocks_at}
use Rattle.blocks.specs.Blocks.{with_block}
use Rattle.blocks.specs.Steps.{placed}
use Rattle.blocks.proofs.PlainLemmas.{plain_updated, plain_vacant}
use Rattle.blocks.proofs.plain.PlainStoreBlockStore.place.Goals as goal

pub returns-clause-placed : goal.returns-clause-placed
returns-clause-placed c =
    plain_updated c.reserve.new.self _ (record { slab = c.insert_reserved-slab.result; slot = 0 }) (Some c.in_ok-zeros.zeros) refl c.insert_reserved-slab.ensures.updates
    ∙ ap (λ m. with_block (blocks_at m) (record { slab = c.insert_reserved-slab.result; slot = 0 }) (Some c.in_ok-zeros.zeros.items))
    (ap (λ s. map bytes_of s.slots) c.in_ok-reserve.ensures.rest_kept ∙ (ap (λ s. s.places) c.self.view_is))
    ∙ ap (λ b. with_block (blocks_at c.args.self.now.places) (record { slab = c.insert_reserved-slab.result; slot = 0 }) (Some b))
    (let e : c.in_ok-zeros.zeros.items ≡ replicate c.args.len 0 = search rules in e)

pub returns-clause-step : goal.returns-clause-step
returns-clause-step c =
    let same : map bytes_of c.reserve.new.self.slots ≡ c.args.self.now.places = ap (λ s. map bytes_of s.slots) c.in_ok-reserve.ensures.rest_kept ∙ ap (λ s. s.places) c.self.view_is in
    let fresh : plain_blocks c.args.self.now (record { slab = c.insert_reserved-slab.result; slot = 0 }) ≡ None =
    ap (λ m. blocks_at m (record { slab = c.insert_reserved-slab.result; slot = 0 })) (sym same) ∙ plain_vacant c.reserve.new.self _ c.insert_reserved-slab.ensures.was_vacant in
    placed (record { slab = c.insert_reserved-slab.result; slot = 0 }) c.args.len fresh (returns-clause-placed c) (ap (λ s. s.passing) c.self.view_is)
