use Rattle.std.proofs.Common.{◌≡◌, ℕ, ℤ, w64, List, sym, ap, ◌∙◌, subst}
use Rattle.std.specs.Prelude.{IfOk}
use Rattle.std.specs.List.{insert as inserted}
use Rattle.std.proofs.lemmas.Int.{to_z-of_z}
use Rattle.int_text.specs.Decimal.{canonical}
use Rattle.pack_pairs.specs.Pairs.{pairs}
use Rattle.zset_object.specs.Orders.{place_in}
use Rattle.zset_object.specs.Packed.{IsScorePack, keys_in}
use Rattle.zset_object.proofs.Keys.{if_pack_joined}
use Rattle.zset_object.proofs.packs.with_member.Goals as goal

pub place_of-index-requires : goal.place_of-index-requires
place_of-index-requires c = subst IsScorePack (sym c.deref.ensures.value) c.requires.pack

pub returns-clause-list : goal.returns-clause-list
returns-clause-list c =
    let pack = c.args.pack.items in
    let member = c.args.member.now in
    let same = to_z-of_z w64 c.args.score c.ranges.score in
    let text : c.as_bytes.result.now ≡ canonical c.args.score = c.as_bytes.ensures.value ∙ c.format.ensures.text ∙ ap canonical same in
    let place : c.place_of-index.result ≡ place_in (c.args.score, member) (keys_in pack) =
    c.place_of-index.ensures ∙ ap (λ (score : ℤ). place_in (score, member) (keys_in c.deref.result.now)) same
    ∙ ap (λ (bs : List ℕ). place_in (c.args.score, member) (keys_in bs)) c.deref.ensures.value in
    subst (λ (n : ℕ). IfOk c.put_pair.result (λ new. pairs new.items ≡ inserted (pairs pack) n (member, canonical c.args.score))) place
    (subst (λ (t : List ℕ). IfOk c.put_pair.result (λ new. pairs new.items ≡ inserted (pairs pack) c.place_of-index.result (member, t))) text c.put_pair.ensures.list)

pub returns-clause-pack : goal.returns-clause-pack
returns-clause-pack c = if_pack_joined (λ new. new.items) c.put_pair.result c.args.pack.items c.args.score c.args.member.now c.ranges.score c.requires.pack c.requires.lacks
    c.put_pair.ensures.pack (returns-clause-list c)
