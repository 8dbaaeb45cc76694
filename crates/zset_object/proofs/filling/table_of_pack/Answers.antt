use Rattle.std.proofs.Common.{◌≡◌, ℕ, ℤ, w64, Option, Some, List, [], length, take, sym, ap, ◌∙◌, subst, arith, rules}
use Rattle.std.specs.Prelude.{MatchOption, slice_get}
use Rattle.std.specs.FinMap.{get, insert}
use Rattle.std.proofs.lemmas.List.{take_all}
use Rattle.std.proofs.lemmas.Int.{to_z-of_z}
use Rattle.blocks.specs.Blocks.{Blocks, Changes, no_step}
use Rattle.blocks.proofs.Change.{changes_then}
use Rattle.blocks.proofs.Serve.{served_then}
use Rattle.pack_pairs.specs.Pairs.{IsPairAt, pairs}
use Rattle.pack_pairs.proofs.Packs.{pair_inside}
use Rattle.score_list.specs.Sorted.{Key}
use Rattle.score_table.specs.Ranking.{ScoreMap}
use Rattle.score_table.specs.Scored as table
use Rattle.zset_object.specs.Orders.{map_of_keys}
use Rattle.zset_object.specs.Packed.{keys_in}
use Rattle.zset_object.specs.Scored.{IsPlacedTable}
use Rattle.zset_object.proofs.Keys.{keys_len, score_range, next_absent, next_put}
use Rattle.zset_object.proofs.Placing.{new_placed, placed_then, all_same}
use Rattle.zset_object.proofs.filling.table_of_pack.Goals as goal

pub loop-init : goal.loop-init
loop-init g c =
    let m = g.B.BlockStore.blocks c.args.store.now in
    let h = c.new-table.ensures in
    record {
      place = search rules;
      placed = new_placed m c.args.seed c.new-table.result _ (h.sound m) (h.empty m) h.refs (h.tables m) h.seed;
      served = no_step;
    }

pub entry_at-score-requires-clause-place : goal.entry_at-score-requires-clause-place
entry_at-score-requires-clause-place g c =
    let bytes = c.args.bytes.now in
    let i = c.loop.counter in
    (i, subst (λ (o : Option ℕ). MatchOption o (i ≡ length (pairs bytes)) (λ at. IsPairAt bytes i at)) c.in-Some.is c.loop.invariant.place)

pub add-requires-clause-absent : goal.add-requires-clause-absent
add-requires-clause-absent g c =
    let bytes = c.args.bytes.now in
    let i = c.loop.counter in
    let at : IsPairAt bytes i c.in-Some.at = subst (λ (o : Option ℕ). MatchOption o (i ≡ length (pairs bytes)) (λ at. IsPairAt bytes i at)) c.in-Some.is c.loop.invariant.place in
    let key : Key = (c.entry_at-score.result.1, c.text.result.now) in
    let there : slice_get (keys_in bytes) i ≡ Some key = c.entry_at-score.ensures i at ∙ (λ j. Some (c.entry_at-score.result.1, sym c.text.ensures j)) in
    ap (λ (map : ScoreMap). get map c.text.result.now) c.loop.invariant.placed.scores_are
    ∙ next_absent (pairs bytes) i key c.requires.pack.once (pair_inside bytes i c.in-Some.at c.requires.pack.pack at) there

pub returns-in-Err-clause-served : goal.returns-in-Err-clause-served
returns-in-Err-clause-served g c = served_then _ _ _ (served_then _ _ _ c.loop.invariant.served c.in-Err.ensures.served) c.release.ensures.served

pub returns-in-Err-clause-err_blocks : goal.returns-in-Err-clause-err_blocks
returns-in-Err-clause-err_blocks g c =
    let m = g.B.BlockStore.blocks c.args.store.now in
    let mid = g.B.BlockStore.blocks c.loop.store in
    let n = g.B.BlockStore.blocks c.release.new.store in
    let ended : Changes mid n (table.refs c.loop.table) [] =
    subst (λ (b : Blocks). Changes b n (table.refs c.loop.table) []) c.in-Err.ensures.err_blocks
    (subst (λ t. Changes (g.B.BlockStore.blocks c.add.new.store) n (table.refs t) []) c.in-Err.ensures.err_table c.release.ensures.changes) in
    all_same m n (changes_then m mid n [] (table.refs c.loop.table) [] c.loop.invariant.placed.changes ended)

pub loop-preserved : goal.loop-preserved
loop-preserved g c =
    let m = g.B.BlockStore.blocks c.args.store.now in
    let mid = g.B.BlockStore.blocks c.loop.store in
    let n = g.B.BlockStore.blocks c.add.new.store in
    let bytes = c.args.bytes.now in
    let i = c.loop.counter in
    let inv = c.loop.invariant in
    let at : IsPairAt bytes i c.in-Some.at = subst (λ (o : Option ℕ). MatchOption o (i ≡ length (pairs bytes)) (λ at. IsPairAt bytes i at)) c.in-Some.is inv.place in
    let key : Key = (c.entry_at-score.result.1, c.text.result.now) in
    let there : slice_get (keys_in bytes) i ≡ Some key = c.entry_at-score.ensures i at ∙ (λ j. Some (c.entry_at-score.result.1, sym c.text.ensures j)) in
    let same = to_z-of_z w64 key.0 (score_range (pairs bytes) i key c.requires.pack.scores (pair_inside bytes i c.in-Some.at c.requires.pack.pack at) there) in
    let added = subst (λ (v : ℤ). table.IsChanged mid n c.loop.table c.add.new.self (insert (table.scores mid c.loop.table) key.1 v)) same c.in_default.ensures.added in
    let more = next_put (pairs bytes) i key c.requires.pack.once (pair_inside bytes i c.in-Some.at c.requires.pack.pack at) there in
    record {
      place = c.next_place-next.ensures i at;
      placed = subst (λ map. IsPlacedTable m n c.args.seed c.add.new.self map) (ap (λ (map : ScoreMap). insert map key.1 key.0) inv.placed.scores_are ∙ more)
          (placed_then m mid n c.args.seed c.loop.table c.add.new.self _ _ inv.placed added);
      served = served_then _ _ _ inv.served c.add.ensures.served;
    }

pub returns-clause-placed : goal.returns-clause-placed
returns-clause-placed g c =
    let m = g.B.BlockStore.blocks c.args.store.now in
    let n = g.B.BlockStore.blocks c.loop.store in
    let keys = keys_in c.args.bytes.now in
    let all : take c.loop.counter keys ≡ keys = take_all c.loop.counter keys (omega (arith, keys_len (pairs c.args.bytes.now), c.requires.count, c.loop-test.false)) in
    subst (λ (ks : List Key). IsPlacedTable m n c.args.seed c.loop.table (map_of_keys ks)) all c.loop.invariant.placed
