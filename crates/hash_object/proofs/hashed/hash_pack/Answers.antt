use Rattle.std.proofs.Common.{◌≡◌, ℕ, ◌+◌, Option, List, [], length, take, get_or, sym, ap, ◌∙◌, subst, arith, rules}
use Rattle.std.specs.Prelude.{MatchOption}
use Rattle.std.proofs.lemmas.List.{take_all}
use Rattle.std.specs.FinMap.{get, insert}
use Rattle.blocks.specs.Blocks.{Blocks, no_step, Changes}
use Rattle.blocks.proofs.Change.{changes_then}
use Rattle.blocks.proofs.Serve.{served_then}
use Rattle.listpack.specs.Element.{element_text}
use Rattle.pack_pairs.specs.Pairs.{Pair, IsPairAt, pairs, second_of, map_of_pairs}
use Rattle.pack_pairs.proofs.Lists.{no_pair}
use Rattle.pack_pairs.proofs.Packs.{pair_inside}
use Rattle.pack_pairs.proofs.Maps.{get_pairs, once_before, map_more}
use Rattle.hash_object.specs.Hashed.{no_fields, IsHashed, fields_in, blocks_of}
use Rattle.hash_object.proofs.Tables.{new_is, new_hashed, hashed_then, lacks_field, all_same}
use Rattle.hash_object.proofs.hashed.hash_pack.Goals as goal

pub loop-init : goal.loop-init
loop-init g c =
    let m = g.B.BlockStore.blocks c.args.store.now in
    let h = c.new-table.ensures in
    record {
      place = search rules;
      hashed = new_hashed m c.new-table.result c.args.seed (new_is c.new-table.result c.args.seed h.empty h.older h.newer h.position h.seed h.top) (h.keyed m);
      served = no_step;
    }

pub first-requires-clause-place : goal.first-requires-clause-place
first-requires-clause-place g c =
    let bytes = c.args.bytes.now in
    let i = c.loop.counter in
    (i, subst (λ (o : Option ℕ). MatchOption o (i ≡ length (pairs bytes)) (λ at. IsPairAt bytes i at)) c.in-Some.is c.loop.invariant.place)

pub hash_elements-requires-clause-absent : goal.hash_elements-requires-clause-absent
hash_elements-requires-clause-absent g c =
    let bytes = c.args.bytes.now in
    let list = pairs bytes in
    let i = c.loop.counter in
    let mid = g.B.BlockStore.blocks c.loop.store in
    let at : IsPairAt bytes i c.in-Some.at = subst (λ (o : Option ℕ). MatchOption o (i ≡ length list) (λ at. IsPairAt bytes i at)) c.in-Some.is c.loop.invariant.place in
    let inside = pair_inside bytes i c.in-Some.at c.requires.pack at in
    lacks_field mid c.loop.table c.loop.invariant.hashed.keyed (element_text c.first.result)
    (ap (λ map. get map (element_text c.first.result)) c.loop.invariant.hashed.fields_are ∙ get_pairs (take i list) (element_text c.first.result)
    ∙ ap (λ (q : List ℕ). second_of q (take i list)) (c.first.ensures i at) ∙ once_before list i c.requires.once inside)

pub returns-in-Err-clause-served : goal.returns-in-Err-clause-served
returns-in-Err-clause-served g c = served_then _ _ _ (served_then _ _ _ c.loop.invariant.served c.in-Err.ensures.served) c.end_table.ensures.served

pub returns-in-Err-clause-err_blocks : goal.returns-in-Err-clause-err_blocks
returns-in-Err-clause-err_blocks g c =
    let m = g.B.BlockStore.blocks c.args.store.now in
    let mid = g.B.BlockStore.blocks c.loop.store in
    let n = g.B.BlockStore.blocks c.end_table.new.store in
    let ended : Changes mid n (blocks_of c.loop.table) [] =
    subst (λ (b : Blocks). Changes b n (blocks_of c.loop.table) []) c.in-Err.ensures.err_blocks
    (subst (λ t. Changes (g.B.BlockStore.blocks c.hash_elements.new.store) n (blocks_of t) []) c.in-Err.ensures.err_table c.end_table.ensures.changes) in
    all_same m n (changes_then m mid n [] (blocks_of c.loop.table) [] c.loop.invariant.hashed.changes ended)

pub loop-preserved : goal.loop-preserved
loop-preserved g c =
    let m = g.B.BlockStore.blocks c.args.store.now in
    let mid = g.B.BlockStore.blocks c.loop.store in
    let n = g.B.BlockStore.blocks c.hash_elements.new.store in
    let bytes = c.args.bytes.now in
    let list = pairs bytes in
    let i = c.loop.counter in
    let k = element_text c.first.result in
    let v = element_text c.second.result in
    let inv = c.loop.invariant in
    let at : IsPairAt bytes i c.in-Some.at = subst (λ (o : Option ℕ). MatchOption o (i ≡ length list) (λ at. IsPairAt bytes i at)) c.in-Some.is inv.place in
    let inside = pair_inside bytes i c.in-Some.at c.requires.pack at in
    let more : insert (fields_in mid c.loop.table) k v ≡ map_of_pairs (take (i + 1) list) =
    ap (λ map. insert map k v) inv.hashed.fields_are
    ∙ ap (λ q. insert (map_of_pairs (take i list)) q v) (c.first.ensures i at)
    ∙ ap (insert (map_of_pairs (take i list)) (get_or list i no_pair).0) (c.second.ensures i at)
    ∙ sym (map_more list i c.requires.once inside) in
    record {
      place = c.next_place-next.ensures i at;
      hashed = subst (λ map. IsHashed m n (no_fields c.args.seed) c.hash_elements.new.table map) more
          (hashed_then m mid n (no_fields c.args.seed) c.loop.table c.hash_elements.new.table (map_of_pairs (take i list)) (insert (fields_in mid c.loop.table) k v) inv.hashed
          c.in_default.ensures.hashed);
      served = served_then _ _ _ inv.served c.hash_elements.ensures.served;
    }

pub returns-clause-hashed : goal.returns-clause-hashed
returns-clause-hashed g c =
    let m = g.B.BlockStore.blocks c.args.store.now in
    let n = g.B.BlockStore.blocks c.loop.store in
    let list = pairs c.args.bytes.now in
    let all : take c.loop.counter list ≡ list = take_all c.loop.counter list (omega (arith, c.requires.count, c.loop-test.false)) in
    subst (λ (ps : List Pair). IsHashed m n (no_fields c.args.seed) c.loop.table (map_of_pairs ps)) all c.loop.invariant.hashed
