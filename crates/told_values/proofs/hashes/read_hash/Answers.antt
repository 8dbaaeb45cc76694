use Rattle.std.proofs.Common.{◌≡◌, ◌<◌, ◌≤◌, ◌∙◌, ap, [], length, get_or, arith}
use Rattle.std.proofs.lemmas.List.{take_all}
use Rattle.hash_object.specs.Fields.{listed}
use Rattle.hash_object.proofs.Depends.{fields_laws_hold}
use Rattle.pack_pairs.specs.Pairs.{map_of_pairs}
use Rattle.quicklist.proofs.Going.{match_as}
use Rattle.told_values.proofs.Named.{hash_begun, hash_count, hash_more}
use Rattle.told_values.proofs.hashes.read_hash.Goals as goal

pub loop-index-init : goal.loop-index-init
loop-index-init g c = record {
  next = match_as c.first-place.result (λ h. omega (arith, h)) (λ cursor h. h) c.first-place.ensures;
  so_far = hash_begun (listed (g.B.BlockStore.blocks c.args.store.now) c.args.hash.now) c.new-pairs.result.entries c.new-pairs.ensures.empty;
}

pub unreachable-requires : goal.unreachable-requires
unreachable-requires g c =
    let m = g.B.BlockStore.blocks c.args.store.now in
    let over : length (listed m c.args.hash.now) ≤ c.loop-index.index = rw c.in-None.is at c.loop-index.invariant.next in
    omega (arith, over, c.loop-index-test.true, hash_count m c.args.hash.now c.requires.sound, c.len-count.ensures m c.requires.sound)

pub loop-index-preserved : goal.loop-index-preserved
loop-index-preserved g c =
    let m = g.B.BlockStore.blocks c.args.store.now in
    let xs = listed m c.args.hash.now in
    let i = c.loop-index.index in
    let place = rw c.in-Some.is at c.loop-index.invariant.next in
    let inside : i < length xs = omega (arith, c.loop-index-test.true, hash_count m c.args.hash.now c.requires.sound, c.len-count.ensures m c.requires.sound) in
    let same : (c.in_ok-name-in-Some.name.items, c.in_ok-text-in-Some.text.items) ≡ get_or xs i ([], []) =
    (λ j. (c.in_ok-name-in-Some.ensures j, c.in_ok-text-in-Some.ensures j)) ∙ c.pair.ensures ∙ ap (λ k. get_or xs k ([], [])) place.1 in
    record {
      next = match_as c.next-place.result (λ h. omega (arith, h, place.1)) (λ cursor h. (h.0, omega (arith, h.1, place.1))) c.next-place.ensures;
      so_far = hash_more xs i c.loop-index.pairs.entries c.insert.new.self.entries c.in_ok-name-in-Some.name c.in_ok-text-in-Some.text c.in_ok-insert-in-Some.ensures.was_ordered
          c.in_ok-insert-in-Some.ensures.ordered (fields_laws_hold.arranged m c.args.hash.now c.requires.sound).once inside same c.in_ok-insert-in-Some.ensures.entries
          c.loop-index.invariant.so_far;
    }

pub returns : goal.returns
returns g c =
    let m = g.B.BlockStore.blocks c.args.store.now in
    let xs = listed m c.args.hash.now in
    c.loop-index.invariant.so_far
    ∙ ap map_of_pairs (take_all c.loop-index.index xs (omega (arith, c.loop-index-test.false, hash_count m c.args.hash.now c.requires.sound, c.len-count.ensures m c.requires.sound)))
    ∙ (fields_laws_hold.arranged m c.args.hash.now c.requires.sound).listed_are
