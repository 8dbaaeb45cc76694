use Rattle.std.proofs.Common.{◌≡◌, ℤ, true, false, not, is_some, sym, subst, ◌∙◌, refl}
use Rattle.std.specs.Int.{w64}
use Rattle.std.proofs.lemmas.Int.{to_z-of_z}
use Rattle.std.specs.FinMap.{get, insert}
use Rattle.blocks.specs.Blocks.{Blocks, Changes}
use Rattle.blocks.proofs.Change.{changes_same}
use Rattle.object_codec.specs.Forms.{IsLeast}
use Rattle.zset_object.specs.declared.scored.Scored.{Scored}
use Rattle.zset_object.specs.Scored.{scores, form_of, refs}
use Rattle.zset_object.specs.Orders.{FitsScored}
use Rattle.rdb_grammar.specs.Elements.{Map}
use Rattle.rdb_reader.proofs.Unpacked.{score_joins, score_joins_twice}
use Rattle.rdb_reader.proofs.Rising.{scored_least}
use Rattle.rdb_reader.proofs.pairs.set_scored.Goals as goal

pub returns-in-Ok-true-clause-makes : goal.returns-in-Ok-true-clause-makes
returns-in-Ok-true-clause-makes g c =
    let old = scores (g.B.BlockStore.blocks c.args.store.now) c.args.scored.now in
    let new = scores (g.B.BlockStore.blocks c.set.new.store) c.set.new.self in
    let fresh : true ≡ not (is_some (get old c.args.member.now)) = sym c.in-Ok-true.field-0-test ∙ c.in-Ok-true.ensures.there in
    score_joins old new (c.args.member.now, c.args.score) fresh (c.in-Ok-true.ensures.set.scores_are ∙ (λ i. insert old c.args.member.now (to_z-of_z w64 c.args.score c.ranges.score i)))

pub returns-in-Ok-true-clause-form : goal.returns-in-Ok-true-clause-form
returns-in-Ok-true-clause-form g c least =
    let old = scores (g.B.BlockStore.blocks c.args.store.now) c.args.scored.now in
    subst (λ (ms : Map ℤ). IsLeast (FitsScored c.args.scored.now.limits ms) (form_of c.set.new.self)) (sym c.in-Ok-true.ensures.set.scores_are)
    (scored_least c.args.scored.now.limits old c.args.member.now _ (form_of c.args.scored.now) (form_of c.set.new.self) least c.in-Ok-true.ensures.form)

pub returns-in-Ok-false-clause-makes : goal.returns-in-Ok-false-clause-makes
returns-in-Ok-false-clause-makes g c =
    let old = scores (g.B.BlockStore.blocks c.args.store.now) c.args.scored.now in
    let there : false ≡ not (is_some (get old c.args.member.now)) = sym c.in-Ok-false.field-0-test ∙ c.in-Ok-false.ensures.there in
    rw c.twice.ensures (score_joins_twice old (c.args.member.now, c.args.score) there, refl)

pub returns-in-Err-clause-changes : goal.returns-in-Err-clause-changes
returns-in-Err-clause-changes g c =
    let m = g.B.BlockStore.blocks c.args.store.now in
    let own = refs c.args.scored.now in
    subst (λ (z : Scored). Changes m (g.B.BlockStore.blocks c.set.new.store) own (refs z)) (sym c.in-Err.ensures.err_scored)
    (subst (λ (b : Blocks). Changes m b own own) (sym c.in-Err.ensures.err_blocks) (changes_same m own c.requires.owned))

pub set-requires : goal.set-requires
set-requires g c = c.requires

pub returns-in-Ok-true-clause-sound : goal.returns-in-Ok-true-clause-sound
returns-in-Ok-true-clause-sound g c = c.in-Ok-true.ensures.set.sound

pub returns-in-Ok-true-clause-settings : goal.returns-in-Ok-true-clause-settings
returns-in-Ok-true-clause-settings g c = c.in-Ok-true.ensures.set.settings

pub returns-in-Ok-true-clause-changes : goal.returns-in-Ok-true-clause-changes
returns-in-Ok-true-clause-changes g c = c.in-Ok-true.ensures.set.changes

pub returns-in-Ok-true-clause-served : goal.returns-in-Ok-true-clause-served
returns-in-Ok-true-clause-served g c = c.set.ensures.served

pub returns-in-Ok-false-clause-sound : goal.returns-in-Ok-false-clause-sound
returns-in-Ok-false-clause-sound g c = c.in-Ok-false.ensures.set.sound

pub returns-in-Ok-false-clause-settings : goal.returns-in-Ok-false-clause-settings
returns-in-Ok-false-clause-settings g c = c.in-Ok-false.ensures.set.settings

pub returns-in-Ok-false-clause-changes : goal.returns-in-Ok-false-clause-changes
returns-in-Ok-false-clause-changes g c = c.in-Ok-false.ensures.set.changes

pub returns-in-Ok-false-clause-served : goal.returns-in-Ok-false-clause-served
returns-in-Ok-false-clause-served g c = c.set.ensures.served

pub returns-in-Ok-false-clause-form : goal.returns-in-Ok-false-clause-form
returns-in-Ok-false-clause-form g c = tt

pub returns-in-Err-clause-form : goal.returns-in-Err-clause-form
returns-in-Err-clause-form g c = tt

pub returns-in-Err-clause-makes : goal.returns-in-Err-clause-makes
returns-in-Err-clause-makes g c = tt

pub returns-in-Err-clause-served : goal.returns-in-Err-clause-served
returns-in-Err-clause-served g c = c.set.ensures.served
