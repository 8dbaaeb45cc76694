use Rattle.std.proofs.Common.{◌≡◌, ℕ, ◌+◌, ◌*◌, ◌/◌, ◌<◌, List, Result, Ok, Err, length, get_or, sym, ap, subst, ◌∙◌, refl, to_z, of_z, w64, arith, rules}
use Rattle.std.proofs.lemmas.Int.{to_z-of_z}
use Rattle.std.specs.Prelude.{MatchOption}
use Rattle.blocks.specs.Blocks.{no_step}
use Rattle.blocks.proofs.Change.{changes_same, changes_then}
use Rattle.blocks.proofs.Serve.{served_then}
use Rattle.listpack.specs.Pack.{IsAt, texts}
use Rattle.object_codec.specs.Forms.{IsLeast}
use Rattle.object_codec.specs.declared.limits.Limits.{Limits}
use Rattle.plain_world.specs.Worlds.{SortedOf}
use Rattle.zset_object.specs.Scored.{scores, form_of}
use Rattle.zset_object.specs.Orders.{FitsScored}
use Rattle.rdb_grammar.specs.declared.fault.LoadKind.{LoadKind}
use Rattle.rdb_grammar.specs.Format.{next_found}
use Rattle.rdb_grammar.specs.Payloads.{Pair, Scored, paired, scored, score_in, all_in, with_scored}
use Rattle.rdb_grammar.proofs.PayloadsExact.{next_ok}
use Rattle.rdb_reader.proofs.Paired.{no_scored, at_place, pairs_of, odd_pairs, scores_of, score_is, no_score, pairs_is, told_all}
use Rattle.rdb_reader.proofs.Unpacked.{put_one, put_all, breaks_on, makes_as}
use Rattle.rdb_reader.proofs.pairs.set_scores.Goals as goal

pub loop-init : goal.loop-init
loop-init g c =
    let list = texts c.args.pack.now.bytes.now in
    let many = c.len-count.ensures in
    let even : length list ≡ 2 * (length list / 2) = omega (arith, many, c.if-count-eq1.false) in
    record {
      place = search rules;
      turns = let p = pairs_of (length list / 2) list even in
          let all = next_ok (paired list) scored c.in-Ok.ensures.scored.0 c.in-Ok.ensures.scored.1 in
          (p, c.in-Ok.ensures.scored.0, subst (λ (q : List Pair). scored q ≡ Ok c.in-Ok.ensures.scored.0) (pairs_is all.0 p.pairs (sym all.1 ∙ p.are)) all.2, refl);
      sound = c.requires;
      settings = record { limits = refl; seed = refl };
      form = λ least. least;
      changes = changes_same _ _ c.requires.owned;
      served = no_step;
    }

pub pair_at-pair-requires : goal.pair_at-pair-requires
pair_at-pair-requires g c =
    let bytes = c.args.pack.now.bytes.now in
    let i = c.loop.counter in
    let many = c.len-count.ensures in
    (2 * i, at_place bytes i c.loop.next c.in-Some.place c.in-Some.is c.loop.invariant.place, omega (arith, many, c.loop-test.true))

pub loop-preserved : goal.loop-preserved
loop-preserved g c =
    let blocks = g.B.BlockStore.blocks in
    let bytes = c.args.pack.now.bytes.now in
    let list = texts bytes in
    let i = c.loop.counter in
    let inv = c.loop.invariant in
    let first = SortedOf (scores (blocks c.args.store.now) c.args.scored.now) in
    let made = SortedOf (scores (blocks c.loop.store) c.loop.scored) in
    let more = SortedOf (scores (blocks c.set_scored.new.store) c.set_scored.new.scored) in
    let at = at_place bytes i c.loop.next c.in-Some.place c.in-Some.is inv.place in
    let many = c.len-count.ensures in
    let p = inv.turns.0 in
    let ss = inv.turns.1 in
    let all = scores_of p.pairs ss inv.turns.2 in
    let twice : 2 * i + 2 ≡ 2 * (i + 1) = omega arith in
    let within : i < length p.pairs = omega (arith, p.many, many, c.loop-test.true) in
    let inside : i < length ss = omega (arith, all.many, within) in
    let each = p.each i (omega (arith, many, c.loop-test.true)) in
    let one = all.each i within in
    let member = c.text-member.ensures ∙ c.pair_at-pair.ensures.first (2 * i) at ∙ each.0 ∙ sym one.0 in
    let text = c.pair_at-pair.ensures.second (2 * i) at ∙ each.1 in
    let score = score_is c.in-Ok-score_of.score ((get_or ss i no_scored).1) (sym c.in-Ok-score_of.ensures.score ∙ ap score_in text ∙ one.1) in
    let passed = to_z-of_z w64 c.in-Ok-score_of.score c.in-Ok-score_of.ensures.fits ∙ score in
    let is : (c.text-member.result.now, to_z w64 (of_z w64 c.in-Ok-score_of.score)) ≡ get_or ss i no_scored = λ k. (member k, passed k) in
    record {
      place = subst (λ (k : ℕ). MatchOption c.pair_at-pair.result.next (k ≡ length list) (λ at. IsAt bytes k at)) twice (c.pair_at-pair.ensures.next (2 * i) at);
      turns = (p, ss, inv.turns.2, put_one with_scored first ss i no_scored made more inside inv.turns.3 (ap (λ (q : Scored). with_scored made q) (sym is) ∙ c.in-Ok-set_scored.ensures.makes));
      sound = c.set_scored.ensures.sound;
      settings = record { limits = c.set_scored.ensures.settings.limits ∙ inv.settings.limits; seed = c.set_scored.ensures.settings.seed ∙ inv.settings.seed };
      form = λ least.
          subst
          (λ (limits : Limits). IsLeast (FitsScored limits (scores (blocks c.loop.store) c.loop.scored)) (form_of c.loop.scored)
          → IsLeast (FitsScored limits (scores (blocks c.set_scored.new.store) c.set_scored.new.scored)) (form_of c.set_scored.new.scored)) inv.settings.limits
          c.in-Ok-set_scored.ensures.form (inv.form least);
      changes = changes_then _ _ _ _ _ _ inv.changes c.set_scored.ensures.changes;
      served = served_then _ _ _ inv.served c.set_scored.ensures.served;
    }

pub returns-in-Err-set_scored-clause-makes : goal.returns-in-Err-set_scored-clause-makes
returns-in-Err-set_scored-clause-makes g c =
    let blocks = g.B.BlockStore.blocks in
    let bytes = c.args.pack.now.bytes.now in
    let list = texts bytes in
    let i = c.loop.counter in
    let inv = c.loop.invariant in
    let first = SortedOf (scores (blocks c.args.store.now) c.args.scored.now) in
    let made = SortedOf (scores (blocks c.loop.store) c.loop.scored) in
    let more = SortedOf (scores (blocks c.set_scored.new.store) c.set_scored.new.scored) in
    let at = at_place bytes i c.loop.next c.in-Some.place c.in-Some.is inv.place in
    let many = c.len-count.ensures in
    let p = inv.turns.0 in
    let ss = inv.turns.1 in
    let all = scores_of p.pairs ss inv.turns.2 in
    let twice : 2 * i + 2 ≡ 2 * (i + 1) = omega arith in
    let within : i < length p.pairs = omega (arith, p.many, many, c.loop-test.true) in
    let inside : i < length ss = omega (arith, all.many, within) in
    let each = p.each i (omega (arith, many, c.loop-test.true)) in
    let one = all.each i within in
    let member = c.text-member.ensures ∙ c.pair_at-pair.ensures.first (2 * i) at ∙ each.0 ∙ sym one.0 in
    let text = c.pair_at-pair.ensures.second (2 * i) at ∙ each.1 in
    let score = score_is c.in-Ok-score_of.score ((get_or ss i no_scored).1) (sym c.in-Ok-score_of.ensures.score ∙ ap score_in text ∙ one.1) in
    let passed = to_z-of_z w64 c.in-Ok-score_of.score c.in-Ok-score_of.ensures.fits ∙ score in
    let is : (c.text-member.result.now, to_z w64 (of_z w64 c.in-Ok-score_of.score)) ≡ get_or ss i no_scored = λ k. (member k, passed k) in
    makes_as (next_found (next_found (paired list) scored) (all_in with_scored first)) (all_in with_scored first ss) c.args.at more (Err c.in-Err-set_scored.fault)
    (told_all list p.pairs ss first p.are inv.turns.2)
    (breaks_on with_scored first ss i no_scored (c.text-member.result.now, to_z w64 (of_z w64 c.in-Ok-score_of.score)) made more more c.args.at inside is inv.turns.3
    c.in-Err-set_scored.fault c.in-Err-set_scored.ensures.makes)

pub returns-in-Err-set_scored-clause-settings : goal.returns-in-Err-set_scored-clause-settings
returns-in-Err-set_scored-clause-settings g c = record
    { limits = c.set_scored.ensures.settings.limits ∙ c.loop.invariant.settings.limits; seed = c.set_scored.ensures.settings.seed ∙ c.loop.invariant.settings.seed }

pub returns-in-Err-set_scored-clause-changes : goal.returns-in-Err-set_scored-clause-changes
returns-in-Err-set_scored-clause-changes g c = changes_then _ _ _ _ _ _ c.loop.invariant.changes c.set_scored.ensures.changes

pub returns-clause-makes : goal.returns-clause-makes
returns-clause-makes g c =
    let blocks = g.B.BlockStore.blocks in
    let list = texts c.args.pack.now.bytes.now in
    let inv = c.loop.invariant in
    let first = SortedOf (scores (blocks c.args.store.now) c.args.scored.now) in
    let made = SortedOf (scores (blocks c.loop.store) c.loop.scored) in
    let many = c.len-count.ensures in
    let p = inv.turns.0 in
    let ss = inv.turns.1 in
    let all = scores_of p.pairs ss inv.turns.2 in
    told_all list p.pairs ss first p.are inv.turns.2 ∙ put_all with_scored first ss c.loop.counter made (omega (arith, all.many, p.many, many, c.loop-test.false)) inv.turns.3

pub returns-then-count-eq1-clause-makes : goal.returns-then-count-eq1-clause-makes
returns-then-count-eq1-clause-makes g c =
    let list = texts c.args.pack.now.bytes.now in
    let many = c.len-count.ensures in
    let odd : length list ≡ 2 * (length list / 2) + 1 = omega (arith, many, c.if-count-eq1.true) in
    rw c.no_payload.ensures (
      ap (λ (q : Result (List Pair) LoadKind). next_found (next_found q scored) (all_in with_scored (SortedOf (scores (g.B.BlockStore.blocks c.args.store.now) c.args.scored.now))))
          (odd_pairs (length list / 2) list odd),
      refl,
    )

pub returns-in-Err-clause-makes : goal.returns-in-Err-clause-makes
returns-in-Err-clause-makes g c =
    let first = SortedOf (scores (g.B.BlockStore.blocks c.args.store.now) c.args.scored.now) in
    rw c.no_payload-in-Err.ensures (ap (λ (q : Result (List Scored) LoadKind). next_found q (all_in with_scored first)) c.in-Err.ensures.fault, refl)

pub returns-in-Err-score_of-clause-makes : goal.returns-in-Err-score_of-clause-makes
returns-in-Err-score_of-clause-makes g c =
    let bytes = c.args.pack.now.bytes.now in
    let i = c.loop.counter in
    let inv = c.loop.invariant in
    let at = at_place bytes i c.loop.next c.in-Some.place c.in-Some.is inv.place in
    let many = c.len-count.ensures in
    let p = inv.turns.0 in
    let all = scores_of p.pairs inv.turns.1 inv.turns.2 in
    let within : i < length p.pairs = omega (arith, p.many, many, c.loop-test.true) in
    let each = p.each i (omega (arith, many, c.loop-test.true)) in
    let text = c.pair_at-pair.ensures.second (2 * i) at ∙ each.1 in
    absurd (no_score _ c.in-Err-score_of.kind (sym (all.each i within).1 ∙ ap score_in (sym text) ∙ c.in-Err-score_of.ensures.fault))

pub set_scored-requires : goal.set_scored-requires
set_scored-requires g c = c.loop.invariant.sound

pub returns-then-count-eq1-clause-sound : goal.returns-then-count-eq1-clause-sound
returns-then-count-eq1-clause-sound g c = c.requires

pub returns-then-count-eq1-clause-settings : goal.returns-then-count-eq1-clause-settings
returns-then-count-eq1-clause-settings g c = record { limits = refl; seed = refl }

pub returns-then-count-eq1-clause-form : goal.returns-then-count-eq1-clause-form
returns-then-count-eq1-clause-form g c = tt

pub returns-then-count-eq1-clause-changes : goal.returns-then-count-eq1-clause-changes
returns-then-count-eq1-clause-changes g c = changes_same _ _ c.requires.owned

pub returns-then-count-eq1-clause-served : goal.returns-then-count-eq1-clause-served
returns-then-count-eq1-clause-served g c = no_step

pub returns-in-Err-clause-sound : goal.returns-in-Err-clause-sound
returns-in-Err-clause-sound g c = c.requires

pub returns-in-Err-clause-settings : goal.returns-in-Err-clause-settings
returns-in-Err-clause-settings g c = record { limits = refl; seed = refl }

pub returns-in-Err-clause-form : goal.returns-in-Err-clause-form
returns-in-Err-clause-form g c = tt

pub returns-in-Err-clause-changes : goal.returns-in-Err-clause-changes
returns-in-Err-clause-changes g c = changes_same _ _ c.requires.owned

pub returns-in-Err-clause-served : goal.returns-in-Err-clause-served
returns-in-Err-clause-served g c = no_step

pub returns-in-Err-score_of-clause-sound : goal.returns-in-Err-score_of-clause-sound
returns-in-Err-score_of-clause-sound g c = c.loop.invariant.sound

pub returns-in-Err-score_of-clause-settings : goal.returns-in-Err-score_of-clause-settings
returns-in-Err-score_of-clause-settings g c = c.loop.invariant.settings

pub returns-in-Err-score_of-clause-changes : goal.returns-in-Err-score_of-clause-changes
returns-in-Err-score_of-clause-changes g c = c.loop.invariant.changes

pub returns-in-Err-score_of-clause-served : goal.returns-in-Err-score_of-clause-served
returns-in-Err-score_of-clause-served g c = c.loop.invariant.served

pub returns-in-Err-score_of-clause-form : goal.returns-in-Err-score_of-clause-form
returns-in-Err-score_of-clause-form g c = tt

pub returns-in-Err-set_scored-clause-sound : goal.returns-in-Err-set_scored-clause-sound
returns-in-Err-set_scored-clause-sound g c = c.set_scored.ensures.sound

pub returns-in-Err-set_scored-clause-form : goal.returns-in-Err-set_scored-clause-form
returns-in-Err-set_scored-clause-form g c = tt

pub returns-in-Err-set_scored-clause-served : goal.returns-in-Err-set_scored-clause-served
returns-in-Err-set_scored-clause-served g c = served_then _ _ _ c.loop.invariant.served c.set_scored.ensures.served

pub returns-clause-sound : goal.returns-clause-sound
returns-clause-sound g c = c.loop.invariant.sound

pub returns-clause-settings : goal.returns-clause-settings
returns-clause-settings g c = c.loop.invariant.settings

pub returns-clause-form : goal.returns-clause-form
returns-clause-form g c = c.loop.invariant.form

pub returns-clause-changes : goal.returns-clause-changes
returns-clause-changes g c = c.loop.invariant.changes

pub returns-clause-served : goal.returns-clause-served
returns-clause-served g c = c.loop.invariant.served
