use Rattle.std.proofs.Common.{rules, ◌≡◌, ℤ, w64, to_z, of_z, ℕ, ◌/◌, Option, Some, List, length, take, sym, ap, ◌∙◌, subst, arith, add-one}
use Rattle.std.specs.Prelude.{MatchOption, FitsSigned, slice_get}
use Rattle.std.proofs.lemmas.List.{take_all}
use Rattle.std.proofs.lemmas.Int.{to_z-of_z}
use Rattle.score_list.specs.Sorted.{Key}
use Rattle.listpack.specs.Element.{element_text}
use Rattle.listpack.specs.Pack.{texts}
use Rattle.pack_pairs.specs.Pairs.{IsPairAt, pairs}
use Rattle.pack_pairs.proofs.Packs.{texts_len}
use Rattle.zset_object.specs.Orders.{place_in}
use Rattle.zset_object.specs.Packed.{keys_in}
use Rattle.zset_object.proofs.Orders.{place_here, place_more}
use Rattle.zset_object.proofs.Keys.{keys_len}
use Rattle.zset_object.proofs.packs.place_of.Goals as goal

-- the key at an index, its score as it is handed on
there : (bytes : List ℕ) (i : ℕ) (score : ℤ) (member : List ℕ) → FitsSigned w64 score → slice_get (keys_in bytes) i ≡ Some (score, member)
    → slice_get (keys_in bytes) i ≡ Some (to_z w64 (of_z w64 score), member)
there bytes i score member fits is = is ∙ ap (λ (n : ℤ). Some (n, member)) (sym (to_z-of_z w64 score fits))

pub returns-then-not-is_before : goal.returns-then-not-is_before
returns-then-not-is_before c =
    let bytes = c.args.bytes.now in
    let i = c.loop-index.index in
    let at : IsPairAt bytes i c.in-Some.at = subst (λ (o : Option ℕ). MatchOption o (i ≡ length (pairs bytes)) (λ at. IsPairAt bytes i at)) c.in-Some.is c.loop-index.invariant.place in
    let entry = c.step_at-entry.result in
    let here = there bytes i entry.score (element_text entry.member) (search rules) (c.step_at-entry.ensures.key i at) in
    let key : Key = (to_z w64 (of_z w64 c.args.score), c.args.member.now) in
    subst (λ (score : ℤ). i ≡ place_in (score, c.args.member.now) (keys_in bytes)) (to_z-of_z w64 c.args.score c.ranges.score)
    (sym (place_here key (keys_in bytes) i (to_z w64 (of_z w64 entry.score), element_text entry.member) c.requires.ordered c.loop-index.invariant.passed here
    (sym c.is_before.ensures ∙ c.if-not-is_before.true)))

pub unreachable-requires : goal.unreachable-requires
unreachable-requires c =
    let bytes = c.args.bytes.now in
    let i = c.loop-index.index in
    let all : i ≡ length (pairs bytes) = subst (λ (o : Option ℕ). MatchOption o (i ≡ length (pairs bytes)) (λ at. IsPairAt bytes i at)) c.in-None.is c.loop-index.invariant.place in
    omega (arith, all, c.loop-index-test.true, c.len-count.ensures, ap (λ (bs : List ℕ). length (texts bs)) c.known.ensures, texts_len bytes c.requires.pack)

pub loop-index-preserved : goal.loop-index-preserved
loop-index-preserved c =
    let bytes = c.args.bytes.now in
    let i = c.loop-index.index in
    let at : IsPairAt bytes i c.in-Some.at = subst (λ (o : Option ℕ). MatchOption o (i ≡ length (pairs bytes)) (λ at. IsPairAt bytes i at)) c.in-Some.is c.loop-index.invariant.place in
    let entry = c.step_at-entry.result in
    let here = there bytes i entry.score (element_text entry.member) (search rules) (c.step_at-entry.ensures.key i at) in
    let key : Key = (to_z w64 (of_z w64 c.args.score), c.args.member.now) in
    record {
      place = c.step_at-entry.ensures.next i at;
      passed = subst (λ n. place_in key (take n (keys_in bytes)) ≡ n) (sym (add-one i))
          (place_more key (keys_in bytes) i (to_z w64 (of_z w64 entry.score), element_text entry.member) here (sym c.is_before.ensures ∙ c.if-not-is_before.false) c.loop-index.invariant.passed);
    }

pub returns : goal.returns
returns c =
    let list = keys_in c.args.bytes.now in
    let many : c.len-count.result / 2 ≡ length list = omega
    (arith, keys_len (pairs c.args.bytes.now), c.len-count.ensures, ap (λ (bs : List ℕ). length (texts bs)) c.known.ensures, texts_len c.args.bytes.now c.requires.pack) in
    let all : take c.loop-index.index list ≡ list = take_all c.loop-index.index list (omega (arith, many, c.loop-index-test.false)) in
    let last : c.loop-index.index ≡ c.len-count.result / 2 = omega (arith, c.loop-index-test.false, c.loop-index.auto.index-end) in
    subst (λ (score : ℤ). c.len-count.result / 2 ≡ place_in (score, c.args.member.now) list) (to_z-of_z w64 c.args.score c.ranges.score)
    (sym last ∙ sym c.loop-index.invariant.passed ∙ ap (place_in (to_z w64 (of_z w64 c.args.score), c.args.member.now)) all)
