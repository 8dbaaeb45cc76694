use Rattle.std.proofs.Common.{◌≡◌, ℕ, List, ℤ, refl, w64, to_z, of_z, sym, ap, ◌∙◌, subst, arith}
use Rattle.std.specs.Prelude.{◌≤◌, None, max, length, IfOk, FitsSigned}
use Rattle.score_table.specs.Ranking.{ScoreMap}
use Rattle.std.specs.FinMap.{insert}
use Rattle.std.proofs.lemmas.Int.{to_z-of_z}
use Rattle.int_text.specs.Decimal.{canonical}
use Rattle.pack_pairs.specs.Pairs.{FitsPair, pairs, second_of}
use Rattle.pack_pairs.proofs.Maps.{first_inside}
use Rattle.zset_object.specs.Packed.{IsIndex, scores_in, longest_in}
use Rattle.zset_object.proofs.Keys.{left_is, member_fits, if_joined_scores, if_joined_longest, if_longer, put_again}
use Rattle.zset_object.proofs.packs.pack_with.Goals as goal

pub without-requires-clause-index : goal.without-requires-clause-index
without-requires-clause-index c = first_inside c.args.member.now (pairs c.args.bytes.now) c.in-Some.index (subst (IsIndex (pairs c.args.bytes.now) c.args.member.now) c.in-Some.is c.requires.index)

pub with_member-requires-clause-pack : goal.with_member-requires-clause-pack
with_member-requires-clause-pack c =
    let first = subst (IsIndex (pairs c.args.bytes.now) c.args.member.now) c.in-Some.is c.requires.index in
    (left_is c.args.bytes.now c.in_ok-left-in-Some.left.items c.in_ok-left-in-Some.left.items c.in-Some.index c.args.member.now c.requires.pack first refl c.in_ok-left-in-Some.ensures.pack
    c.in_ok-left-in-Some.ensures.list).pack

pub with_member-requires-clause-lacks : goal.with_member-requires-clause-lacks
with_member-requires-clause-lacks c =
    let first = subst (IsIndex (pairs c.args.bytes.now) c.args.member.now) c.in-Some.is c.requires.index in
    (left_is c.args.bytes.now c.in_ok-left-in-Some.left.items c.in_ok-left-in-Some.left.items c.in-Some.index c.args.member.now c.requires.pack first refl c.in_ok-left-in-Some.ensures.pack
    c.in_ok-left-in-Some.ensures.list).lacks

pub with_member-requires-clause-fits : goal.with_member-requires-clause-fits
with_member-requires-clause-fits c =
    let first = subst (IsIndex (pairs c.args.bytes.now) c.args.member.now) c.in-Some.is c.requires.index in
    let left = left_is c.args.bytes.now c.in_ok-left-in-Some.left.items c.in_ok-left-in-Some.left.items c.in-Some.index c.args.member.now c.requires.pack first refl
    c.in_ok-left-in-Some.ensures.pack c.in_ok-left-in-Some.ensures.list in
    subst (λ (n : ℤ). FitsPair c.in_ok-left-in-Some.left.items c.args.member.now (canonical n)) (sym (to_z-of_z w64 c.args.score c.ranges.score))
    (member_fits c.in_ok-left-in-Some.left.items c.args.member.now c.args.score c.ranges.score left.pack (omega (arith, left.fewer, c.requires.few))
    (omega (arith, left.shorter, c.requires.short)) (omega (arith, c.requires.short)))

pub with_member-requires-in-None-clause-fits : goal.with_member-requires-in-None-clause-fits
with_member-requires-in-None-clause-fits c =
    let all = c.in_ok-all-in-None.all.items in
    subst (λ (n : ℤ). FitsPair all c.args.member.now (canonical n)) (sym (to_z-of_z w64 c.args.score c.ranges.score))
    (subst (λ (bs : List ℕ). FitsPair bs c.args.member.now (canonical c.args.score)) (sym c.in_ok-all-in-None.ensures.items)
    (member_fits c.args.bytes.now c.args.member.now c.args.score c.ranges.score c.requires.pack c.requires.few (omega (arith, c.requires.short)) (omega (arith, c.requires.short))))

pub returns-in_ok-left-in-Some-clause-scores : goal.returns-in_ok-left-in-Some-clause-scores
returns-in_ok-left-in-Some-clause-scores c =
    let first = subst (IsIndex (pairs c.args.bytes.now) c.args.member.now) c.in-Some.is c.requires.index in
    let bytes = c.args.bytes.now in
    let member = c.args.member.now in
    let left = left_is bytes c.in_ok-left-in-Some.left.items c.in_ok-left-in-Some.left.items c.in-Some.index member c.requires.pack first refl c.in_ok-left-in-Some.ensures.pack
    c.in_ok-left-in-Some.ensures.list in
    let same = to_z-of_z w64 c.args.score c.ranges.score in
    subst (λ (map : ScoreMap). IfOk c.with_member.result (λ new. scores_in new.items ≡ map))
    (ap (λ map. insert map member (to_z w64 (of_z w64 c.args.score))) left.scores_are ∙ put_again (scores_in bytes) member (to_z w64 (of_z w64 c.args.score))
    ∙ ap (insert (scores_in bytes) member) same)
    (if_joined_scores (λ new. new.items) c.in_ok-left-in-Some.left.items _ (to_z w64 (of_z w64 c.args.score)) member c.with_member.result (subst (FitsSigned w64) (sym same) c.ranges.score)
    left.lacks c.with_member.ensures.list)

pub returns-in_ok-left-in-Some-clause-longest : goal.returns-in_ok-left-in-Some-clause-longest
returns-in_ok-left-in-Some-clause-longest c =
    let first = subst (IsIndex (pairs c.args.bytes.now) c.args.member.now) c.in-Some.is c.requires.index in
    let left = left_is c.args.bytes.now c.in_ok-left-in-Some.left.items c.in_ok-left-in-Some.left.items c.in-Some.index c.args.member.now c.requires.pack first refl
    c.in_ok-left-in-Some.ensures.pack c.in_ok-left-in-Some.ensures.list in
    if_longer (λ new. new.items) c.with_member.result _ _ (omega (arith, left.shorter))
    (if_joined_longest (λ new. new.items) c.in_ok-left-in-Some.left.items _ (to_z w64 (of_z w64 c.args.score)) c.args.member.now c.with_member.result c.with_member.ensures.list)

pub returns-in_ok-all-in-None-clause-scores : goal.returns-in_ok-all-in-None-clause-scores
returns-in_ok-all-in-None-clause-scores c =
    let all = c.in_ok-all-in-None.all.items in
    let member = c.args.member.now in
    let lacks = subst (IsIndex (pairs c.args.bytes.now) member) c.in-None.is c.requires.index in
    let none = subst (λ (bs : List ℕ). second_of member (pairs bs) ≡ None) (sym c.in_ok-all-in-None.ensures.items) lacks in
    let same = to_z-of_z w64 c.args.score c.ranges.score in
    subst (λ (bs : List ℕ). IfOk c.with_member-in-None.result (λ new. scores_in new.items ≡ insert (scores_in bs) member c.args.score)) c.in_ok-all-in-None.ensures.items
    (subst (λ (n : ℤ). IfOk c.with_member-in-None.result (λ new. scores_in new.items ≡ insert (scores_in all) member n)) same
    (if_joined_scores (λ new. new.items) all _ (to_z w64 (of_z w64 c.args.score)) member c.with_member-in-None.result (subst (FitsSigned w64) (sym same) c.ranges.score) none
    c.with_member-in-None.ensures.list))

pub returns-in_ok-all-in-None-clause-longest : goal.returns-in_ok-all-in-None-clause-longest
returns-in_ok-all-in-None-clause-longest c =
    let all = c.in_ok-all-in-None.all.items in
    subst (λ (bs : List ℕ). IfOk c.with_member-in-None.result (λ new. longest_in new.items ≤ max (length c.args.member.now) (longest_in bs))) c.in_ok-all-in-None.ensures.items
    (if_joined_longest (λ new. new.items) all _ (to_z w64 (of_z w64 c.args.score)) c.args.member.now c.with_member-in-None.result c.with_member-in-None.ensures.list)
