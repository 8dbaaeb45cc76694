use Rattle.std.proofs.Common.{◌≡◌, ℕ, List, [], sym, ap, ◌∙◌, subst}
use Rattle.std.specs.FinMap.{insert}
use Rattle.blocks.specs.Blocks.{no_step, Blocks, Changes}
use Rattle.blocks.proofs.Change.{changes_then}
use Rattle.blocks.proofs.Serve.{served_then}
use Rattle.listpack.specs.Pack.{texts}
use Rattle.rehash_dict.specs.MapOf.{content, key_refs}
use Rattle.set_object.specs.Strings.{set_of, has, IsOnce}
use Rattle.set_object.specs.Hashed.{IsHashed, no_members}
use Rattle.set_object.specs.Members.{members}
use Rattle.set_object.proofs.Hashing.{hashed_then, all_same}
use Rattle.set_object.proofs.Listed.{listed_is}
use Rattle.set_object.proofs.Placing.{table_placed}
use Rattle.set_object.proofs.members.Members.place_table.Goals as goal

pub returns-in_err-bytes-clause-served : goal.returns-in_err-bytes-clause-served
returns-in_err-bytes-clause-served g c = no_step

pub hash_pack-requires-clause-once : goal.hash_pack-requires-clause-once
hash_pack-requires-clause-once g c =
    let m = g.B.BlockStore.blocks c.args.store.now in
    let self = c.args.self.now in
    subst (λ (bs : List ℕ). IsOnce (texts bs)) (sym c.deref.ensures.value) (subst IsOnce (sym c.in_ok-bytes.ensures.texts_are) (listed_is m self.limits self.seed self.body c.requires.sound.body).1)

pub hash_member-requires-clause-absent : goal.hash_member-requires-clause-absent
hash_member-requires-clause-absent g c =
    let m = g.B.BlockStore.blocks c.args.store.now in
    let self = c.args.self.now in
    ap (λ s. has s c.args.member.now) (c.in_ok-table.ensures.hashed.members_are ∙ ap (λ (bs : List ℕ). set_of (texts bs)) c.deref.ensures.value ∙ ap set_of c.in_ok-bytes.ensures.texts_are
    ∙ sym (listed_is m self.limits self.seed self.body c.requires.sound.body).0) ∙ c.requires.absent

pub returns-in-Ok-clause-served : goal.returns-in-Ok-clause-served
returns-in-Ok-clause-served g c = served_then _ _ _ c.hash_pack.ensures.served c.hash_member.ensures.served

pub returns-clause-served : goal.returns-clause-served
returns-clause-served g c = served_then _ _ _ (served_then _ _ _ c.hash_pack.ensures.served c.hash_member.ensures.served) c.end_table.ensures.served

pub returns-in-Ok-clause-placed : goal.returns-in-Ok-clause-placed
returns-in-Ok-clause-placed g c =
    let m = g.B.BlockStore.blocks c.args.store.now in
    let mid = g.B.BlockStore.blocks c.hash_pack.new.store in
    let n = g.B.BlockStore.blocks c.hash_member.new.store in
    let self = c.args.self.now in
    let x = c.args.member.now in
    let same : content mid c.in_ok-table.table ≡ members m self =
    c.in_ok-table.ensures.hashed.members_are ∙ ap (λ (bs : List ℕ). set_of (texts bs)) c.deref.ensures.value ∙ ap set_of c.in_ok-bytes.ensures.texts_are
    ∙ sym (listed_is m self.limits self.seed self.body c.requires.sound.body).0 in
    table_placed m n self c.hash_member.new.table (insert (members m self) x tt)
    (hashed_then m mid n (no_members self.seed) c.in_ok-table.table c.hash_member.new.table _ _ c.in_ok-table.ensures.hashed
    (subst (λ s. IsHashed mid n c.in_ok-table.table c.hash_member.new.table (insert s x tt)) same c.in-Ok.ensures.hashed))

pub returns-clause-err_blocks : goal.returns-clause-err_blocks
returns-clause-err_blocks g c =
    let m = g.B.BlockStore.blocks c.args.store.now in
    let mid = g.B.BlockStore.blocks c.hash_pack.new.store in
    let n = g.B.BlockStore.blocks c.end_table.new.store in
    let table = c.in_ok-table.table in
    let ended : Changes mid n (key_refs table) [] =
    subst (λ (b : Blocks). Changes b n (key_refs table) []) c.in-Err.ensures.err_blocks
    (subst (λ t. Changes (g.B.BlockStore.blocks c.hash_member.new.store) n (key_refs t) []) c.in-Err.ensures.err_table c.end_table.ensures.changes) in
    all_same m n (changes_then m mid n [] (key_refs table) [] c.in_ok-table.ensures.hashed.changes ended)
