use Rattle.std.proofs.Common.{rules, ◌≡◌, FitsSigned, ℕ, ℤ, Option, Some, slice_get, sym, ap, ◌∙◌, arith}
use Rattle.std.specs.Int.{w64}
use Rattle.std.proofs.lemmas.Int.{to_z-of_z}
use Rattle.zset_object.specs.Scored as object
use Rattle.zset_object.proofs.Depends.{scored_laws_hold}
use Rattle.plain_model.specs.ZsetSteps.{ranked}
use Rattle.cmd_zsets.specs.Spans.{rank_of}
use Rattle.cmd_zsets.proofs.Ranked.{ranked_is, ranked_counted, model_ranking}
use Rattle.cmd_zsets.proofs.Told.{some_at, no_scored}
use Rattle.cmd_zsets.proofs.Placed.{placed, no_place}
use Rattle.cmd_zsets.proofs.ranking.place_of.Goals as goal

pub rank_met-requires : goal.rank_met-requires
rank_met-requires g c =
    let m = g.B.BlockStore.blocks c.args.store.now in
    let s = c.args.zset.now in
    let h = c.in-Some.ensures in
    omega (arith, (some_at (object.ranked m s) c.in-Some.rank (h.score, c.args.member.now) no_scored h.there).0, scored_laws_hold.counted m s c.requires.sound, c.len.ensures m c.requires.sound)

pub returns-in-None : goal.returns-in-None
returns-in-None g c =
    let m = g.B.BlockStore.blocks c.args.store.now in
    let map = object.scores m c.args.zset.now in
    sym (no_place c.args.from map (ranked map) c.args.member.now (model_ranking map) c.in-None.ensures)

both_same : {a b : ℕ} {x y : ℤ} → a ≡ b → x ≡ y → ◌≡◌ {A = Option (ℕ × ℤ)} (Some (a, x)) (Some (b, y))
both_same p q = cc

some_same : {x y : ℤ} → Some x ≡ Some y → x ≡ y
some_same p = cc

pub returns-in-Some-score : goal.returns-in-Some-score
returns-in-Some-score g c =
    let m = g.B.BlockStore.blocks c.args.store.now in
    let s = c.args.zset.now in
    let map = object.scores m s in
    let h = c.in-Some.ensures in
    let size = c.len.ensures m c.requires.sound ∙ sym (ranked_counted m s c.requires.sound) in
    let score : c.in-Some-score.score ≡ h.score = some_same (sym c.in-Some-score.is ∙ c.score.ensures ∙ h.has) in
    let fits : FitsSigned w64 c.in-Some-score.score = search rules in
    both_same (c.rank_met.ensures.rank ∙ ap (λ n. rank_of c.args.from n c.in-Some.rank) size) (to_z-of_z w64 c.in-Some-score.score fits ∙ score)
    ∙ sym
    (placed c.args.from map (ranked map) c.in-Some.rank (h.score, c.args.member.now) (model_ranking map)
    (ap (λ (l : _). slice_get l c.in-Some.rank) (sym (ranked_is m s c.requires.sound)) ∙ h.there))
