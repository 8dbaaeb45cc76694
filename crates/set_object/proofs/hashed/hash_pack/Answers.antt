use Rattle.std.proofs.Common.{◌≡◌, ℕ, ◌+◌, Option, List, length, take, [], sym, ap, ◌∙◌, subst, arith, rules}
use Rattle.std.specs.Prelude.{MatchOption}
use Rattle.std.proofs.lemmas.List.{take_all}
use Rattle.blocks.specs.Blocks.{Blocks, no_step, Changes}
use Rattle.blocks.proofs.Change.{changes_then}
use Rattle.blocks.proofs.Serve.{served_then}
use Rattle.listpack.specs.Element.{element_text}
use Rattle.listpack.specs.Pack.{IsAt, texts}
use Rattle.rehash_dict.specs.MapOf.{key_refs, content}
use Rattle.std.specs.FinMap.{insert}
use Rattle.set_object.specs.Strings.{set_of, has, IsOnce}
use Rattle.set_object.specs.Hashed.{no_members, IsHashed}
use Rattle.set_object.proofs.Sets.{among, has_among, once_before, set_more}
use Rattle.set_object.proofs.Hashing.{new_is, new_hashed, hashed_then, all_same}
use Rattle.set_object.proofs.hashed.hash_pack.Goals as goal

pub loop-init : goal.loop-init
loop-init g c =
    let m = g.B.BlockStore.blocks c.args.store.now in
    let h = c.new-table.ensures in
    record {
      place = search rules;
      hashed = new_hashed m c.new-table.result c.args.seed (new_is c.new-table.result c.args.seed h.empty h.older h.newer h.position h.seed h.top) (h.keyed m) (h.map m);
      served = no_step;
    }

pub hash_element-requires-clause-absent : goal.hash_element-requires-clause-absent
hash_element-requires-clause-absent g c =
    let bytes = c.known-pack.result.bytes.now in
    let list = texts bytes in
    let i = c.loop.counter in
    let x = element_text c.get.result in
    let at : IsAt bytes i c.in-Some.at = subst (λ (o : Option ℕ). MatchOption o (i ≡ length list) (λ at. IsAt bytes i at)) c.in-Some.is c.loop.invariant.place in
    let once : IsOnce list = subst (λ (b : List ℕ). IsOnce (texts b)) (sym c.known-pack.ensures) c.requires.once in
    ap (λ s. has s x) c.loop.invariant.hashed.members_are ∙ has_among (take i list) x ∙ ap (λ (q : List ℕ). among q (take i list)) (c.get.ensures.text i at)
    ∙ once_before list i once at.0

pub returns-clause-hashed : goal.returns-clause-hashed
returns-clause-hashed g c =
    let m = g.B.BlockStore.blocks c.args.store.now in
    let n = g.B.BlockStore.blocks c.loop.store in
    let list = texts c.known-pack.result.bytes.now in
    let all : take c.loop.counter list ≡ list = take_all c.loop.counter list (let k = c.len-end.ensures in omega (arith, k, c.loop-test.false)) in
    subst (λ (b : List ℕ). IsHashed m n (no_members c.args.seed) c.loop.table (set_of (texts b))) c.known-pack.ensures
    (subst (λ (xs : List (List ℕ)). IsHashed m n (no_members c.args.seed) c.loop.table (set_of xs)) all c.loop.invariant.hashed)

pub loop-preserved : goal.loop-preserved
loop-preserved g c =
    let m = g.B.BlockStore.blocks c.args.store.now in
    let mid = g.B.BlockStore.blocks c.loop.store in
    let n = g.B.BlockStore.blocks c.hash_element.new.store in
    let bytes = c.known-pack.result.bytes.now in
    let list = texts bytes in
    let i = c.loop.counter in
    let x = element_text c.get.result in
    let inv = c.loop.invariant in
    let at : IsAt bytes i c.in-Some.at = subst (λ (o : Option ℕ). MatchOption o (i ≡ length list) (λ at. IsAt bytes i at)) c.in-Some.is inv.place in
    let more : insert (content mid c.loop.table) x tt ≡ set_of (take (i + 1) list) =
    ap (λ s. insert s x tt) inv.hashed.members_are ∙ ap (λ q. insert (set_of (take i list)) q tt) (c.get.ensures.text i at) ∙ sym (set_more list i at.0) in
    record {
      place = c.next-next.ensures.place i at;
      hashed = subst (λ s. IsHashed m n (no_members c.args.seed) c.hash_element.new.table s) more
          (hashed_then m mid n (no_members c.args.seed) c.loop.table c.hash_element.new.table (set_of (take i list)) (insert (content mid c.loop.table) x tt) inv.hashed c.in_default.ensures.hashed);
      served = served_then _ _ _ inv.served c.hash_element.ensures.served;
    }

pub returns-in-Err-clause-served : goal.returns-in-Err-clause-served
returns-in-Err-clause-served g c = served_then _ _ _ (served_then _ _ _ c.loop.invariant.served c.in-Err.ensures.served) c.end_table.ensures.served

pub returns-in-Err-clause-err_blocks : goal.returns-in-Err-clause-err_blocks
returns-in-Err-clause-err_blocks g c =
    let m = g.B.BlockStore.blocks c.args.store.now in
    let mid = g.B.BlockStore.blocks c.loop.store in
    let n = g.B.BlockStore.blocks c.end_table.new.store in
    let ended : Changes mid n (key_refs c.loop.table) [] =
    subst (λ (b : Blocks). Changes b n (key_refs c.loop.table) []) c.in-Err.ensures.err_blocks
    (subst (λ t. Changes (g.B.BlockStore.blocks c.hash_element.new.store) n (key_refs t) []) c.in-Err.ensures.err_table c.end_table.ensures.changes) in
    all_same m n (changes_then m mid n [] (key_refs c.loop.table) [] c.loop.invariant.hashed.changes ended)
