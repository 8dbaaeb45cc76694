use Rattle.std.proofs.Common.{◌≡◌, ◌<◌, List, ℕ, [], length, sym, ap, ◌∙◌, subst, arith}
use Rattle.std.specs.Prelude.{IfSome}
use Rattle.pack_pairs.specs.Pairs.{Pair, IsPairPack, longest, pairs}
use Rattle.pack_pairs.proofs.Packs.{pair_fits}
use Rattle.hash_object.proofs.Placing.{index_within, pack_read, list_read, pack_room}
use Rattle.hash_object.proofs.fields.Fields.bytes_with.Goals as goal

pub pack_with-requires-clause-fits : goal.pack_with-requires-clause-fits
pack_with-requires-clause-fits g c =
    let bytes = c.deref.result.now in
    let none : pairs bytes ≡ [] = ap (λ (bs : List ℕ). pairs bs) c.deref.ensures.value ∙ c.in_ok-empty-in-Empty.ensures.list in
    pair_fits bytes c.args.field.now c.args.value.now (subst IsPairPack (sym c.deref.ensures.value) c.in_ok-empty-in-Empty.ensures.pack)
    (omega (arith, ap (λ (list : List Pair). longest list) none)) (omega (arith, ap (λ (list : List Pair). length list) none)) (omega (arith, c.requires.short)) (omega (arith, c.requires.short))

pub pack_with-requires-in-Pack-clause-inside : goal.pack_with-requires-in-Pack-clause-inside
pack_with-requires-in-Pack-clause-inside g c =
    let m = g.B.BlockStore.blocks c.args.store.now in
    let self = c.args.self.now in
    subst (λ (list : List Pair). IfSome c.args.index (λ i. i < length list)) (list_read m self.limits self.body c.in-Pack.packed c.bytes.result.now c.in-Pack.is c.bytes.ensures)
    (index_within _ c.args.field.now c.args.index c.requires.index)

pub pack_with-requires-in-Pack-clause-fits : goal.pack_with-requires-in-Pack-clause-fits
pack_with-requires-in-Pack-clause-fits g c =
    let m = g.B.BlockStore.blocks c.args.store.now in
    let self = c.args.self.now in
    pack_room self.limits c.in-Pack.packed.len c.bytes.result.now c.args.field.now c.args.value.now c.requires.sound.limits
    (pack_read m self.limits self.body c.in-Pack.packed c.bytes.result.now c.in-Pack.is c.bytes.ensures self.seed c.requires.sound.body) c.requires.short
