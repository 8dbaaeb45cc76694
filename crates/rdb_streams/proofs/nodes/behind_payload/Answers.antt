use Rattle.std.proofs.Common.{◌≡◌, ◌+◌, ◌≤◌, ℕ, List, length, None, sym, ap, ◌∙◌, subst, arith}
use Rattle.listpack.specs.Pack.{texts}
use Rattle.stream_node.specs.Entries.{IsNode, entries_of}
use Rattle.stream_node.specs.Entry.{Stored}
use Rattle.stream_node.specs.Node.{marked, last_id}
use Rattle.rdb_streams.specs.Seeing.{seen_behind}
use Rattle.rdb_streams.proofs.Unmarked.{seen_at, unmarked_seen}
use Rattle.rdb_streams.proofs.nodes.behind_payload.Goals as goal

-- no entry is marked where as many are live as there are
no_mark : (live all : ℕ) (es seen : List Stored) → live + marked es ≡ length es → all ≡ length seen → seen ≡ es → all ≤ live → marked es ≡ 0
no_mark live all es seen told many same enough = omega (arith, told, many, ap (λ (xs : List Stored). length xs) same, enough)

pub live_len-live-requires : goal.live_len-live-requires
live_len-live-requires c = (c.args.key, subst (λ (bs : List ℕ). IsNode c.args.key (texts bs)) (sym c.known-pack.ensures) c.requires.is_node)

pub last_id-requires : goal.last_id-requires
last_id-requires c = subst (λ (bs : List ℕ). IsNode c.args.key (texts bs)) (sym c.known-pack.ensures) c.requires.is_node

pub returns-in-Some : goal.returns-in-Some
returns-in-Some c =
    let key = c.args.key in
    let es = entries_of key (texts c.args.payload.now) in
    let told : c.live_len-live.result + marked es ≡ length es =
    subst (λ (bs : List ℕ). c.live_len-live.result + marked (entries_of key (texts bs)) ≡ length (entries_of key (texts bs))) c.known-pack.ensures
    (c.live_len-live.ensures key (subst (λ (bs : List ℕ). IsNode key (texts bs)) (sym c.known-pack.ensures) c.requires.is_node)) in
    let none = no_mark c.live_len-live.result c.len-all.result es _ told c.len-all.ensures (c.entries.ensures ∙ c.requires.entries) c.if-live-all.false in
    let is = c.last_id.ensures ∙ ap (λ (bs : List ℕ). last_id None (entries_of key (texts bs))) c.known-pack.ensures in
    ap (seen_at c.args.seen) (sym c.in-Some.is ∙ is) ∙ sym (unmarked_seen c.args.seen es none) ∙ ap (seen_behind c.args.seen) (sym c.requires.entries)

pub returns-in-None : goal.returns-in-None
returns-in-None c =
    let key = c.args.key in
    let es = entries_of key (texts c.args.payload.now) in
    let told : c.live_len-live.result + marked es ≡ length es =
    subst (λ (bs : List ℕ). c.live_len-live.result + marked (entries_of key (texts bs)) ≡ length (entries_of key (texts bs))) c.known-pack.ensures
    (c.live_len-live.ensures key (subst (λ (bs : List ℕ). IsNode key (texts bs)) (sym c.known-pack.ensures) c.requires.is_node)) in
    let none = no_mark c.live_len-live.result c.len-all.result es _ told c.len-all.ensures (c.entries.ensures ∙ c.requires.entries) c.if-live-all.false in
    let is = c.last_id.ensures ∙ ap (λ (bs : List ℕ). last_id None (entries_of key (texts bs))) c.known-pack.ensures in
    ap (seen_at c.args.seen) (sym c.in-None.is ∙ is) ∙ sym (unmarked_seen c.args.seen es none) ∙ ap (seen_behind c.args.seen) (sym c.requires.entries)
