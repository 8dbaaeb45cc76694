use Rattle.std.proofs.Common.{◌≡◌, ℤ, true, false, not, is_some, sym, ap, subst, ◌∙◌, refl}
use Rattle.std.specs.Int.{w64}
use Rattle.std.proofs.lemmas.Int.{to_z-of_z}
use Rattle.std.specs.FinMap.{get, insert}
use Rattle.blocks.specs.Blocks.{Blocks, Changes, no_step}
use Rattle.blocks.proofs.Change.{changes_same}
use Rattle.zset_object.specs.declared.scored.Scored.{Scored}
use Rattle.object_codec.specs.Forms.{IsLeast}
use Rattle.plain_world.specs.Worlds.{SortedOf}
use Rattle.zset_object.specs.Scored.{scores, form_of, refs, IsScored}
use Rattle.zset_object.specs.Orders.{FitsScored}
use Rattle.rdb_grammar.specs.Elements.{Map, with_one}
use Rattle.rdb_grammar.specs.Places.{Stands}
use Rattle.rdb_grammar.specs.Views.{text_of}
use Rattle.rdb_reader.proofs.Elements.{scored_fails, score_twice, score_set, score_fails, none_fresh, some_there}
use Rattle.rdb_reader.proofs.Rising.{scored_least}
use Rattle.rdb_reader.proofs.building.set_score.Goals as goal

pub returns-in-Err-clause-adds : goal.returns-in-Err-clause-adds
returns-in-Err-clause-adds g c = rw c.refused.ensures (scored_fails c.args.bytes.now c.args.at c.in-Err.fault.kind c.in-Err.fault.at c.in-Err.ensures.fault _)

pub returns-in-Some-clause-adds : goal.returns-in-Some-clause-adds
returns-in-Some-clause-adds g c =
    let old = scores (g.B.BlockStore.blocks c.args.store.now) c.args.scored.now in
    let text = text_of c.in-Ok.read.0 in
    let there : false ≡ not (is_some (get old text)) = some_there (get old text) _ (ap (get old) (sym c.text-member.ensures) ∙ sym c.score.ensures ∙ c.in-Some.is) in
    rw c.twice.ensures (score_twice c.args.bytes.now c.args.at c.in-Ok.read.1 text c.in-Ok.ensures.string old there)

pub returns-in-None-clause-adds : goal.returns-in-None-clause-adds
returns-in-None-clause-adds g c =
    let old = scores (g.B.BlockStore.blocks c.args.store.now) c.args.scored.now in
    let text = text_of c.in-Ok.read.0 in
    let fresh : true ≡ not (is_some (get old text)) = none_fresh (get old text) (ap (get old) (sym c.text-member.ensures) ∙ sym c.score.ensures ∙ c.in-None.is) in
    rw c.refused-in-None.ensures
    (score_fails c.args.bytes.now c.args.at c.in-Ok.read.1 text c.in-Ok.ensures.string old c.in-Err-next_score.fault.kind c.in-Err-next_score.fault.at c.in-Err-next_score.ensures.fault
    fresh)

pub returns-in-Ok-true-clause-adds : goal.returns-in-Ok-true-clause-adds
returns-in-Ok-true-clause-adds g c =
    let old = scores (g.B.BlockStore.blocks c.args.store.now) c.args.scored.now in
    let new = scores (g.B.BlockStore.blocks c.set.new.store) c.set.new.self in
    let text = text_of c.in-Ok.read.0 in
    let fresh : true ≡ not (is_some (get old text)) = sym c.in-Ok-true.field-0-test ∙ c.in-Ok-true.ensures.there ∙ ap (λ t. not (is_some (get old t))) c.text-member.ensures in
    let is : new ≡ insert old text c.in-Ok-next_score.read.0 = c.in-Ok-true.ensures.set.scores_are
    ∙ (λ i. insert old (c.text-member.ensures i) (to_z-of_z w64 c.in-Ok-next_score.read.0 c.in-Ok-next_score.ensures.fits i)) in
    subst (λ (ms : Map ℤ). Stands (with_one (SortedOf old)) (SortedOf ms) c.args.bytes.now c.args.at c.in-Ok-next_score.read.1) (sym is)
    (score_set c.args.bytes.now c.args.at c.in-Ok.read.1 text c.in-Ok.ensures.string old c.in-Ok-next_score.read.0 c.in-Ok-next_score.read.1 c.in-Ok-next_score.ensures.score fresh)

pub returns-in-Ok-true-clause-form : goal.returns-in-Ok-true-clause-form
returns-in-Ok-true-clause-form g c least =
    let old = scores (g.B.BlockStore.blocks c.args.store.now) c.args.scored.now in
    subst (λ (ms : Map ℤ). IsLeast (FitsScored c.args.scored.now.limits ms) (form_of c.set.new.self)) (sym c.in-Ok-true.ensures.set.scores_are)
    (scored_least c.args.scored.now.limits old c.text-member.result.now _ (form_of c.args.scored.now) (form_of c.set.new.self) least c.in-Ok-true.ensures.form)

pub returns-in-Ok-false-clause-adds : goal.returns-in-Ok-false-clause-adds
returns-in-Ok-false-clause-adds g c =
    let old = scores (g.B.BlockStore.blocks c.args.store.now) c.args.scored.now in
    let text = text_of c.in-Ok.read.0 in
    let there : false ≡ not (is_some (get old text)) = sym c.in-Ok-false.field-0-test ∙ c.in-Ok-false.ensures.there ∙ ap (λ t. not (is_some (get old t))) c.text-member.ensures in
    rw c.twice-in-Ok-false.ensures (score_twice c.args.bytes.now c.args.at c.in-Ok.read.1 text c.in-Ok.ensures.string old there)

pub returns-in-Err-set-clause-changes : goal.returns-in-Err-set-clause-changes
returns-in-Err-set-clause-changes g c =
    let m = g.B.BlockStore.blocks c.args.store.now in
    let own = refs c.args.scored.now in
    subst (λ (z : Scored). Changes m (g.B.BlockStore.blocks c.set.new.store) own (refs z)) (sym c.in-Err-set.ensures.err_scored)
    (subst (λ (b : Blocks). Changes m b own own) (sym c.in-Err-set.ensures.err_blocks) (changes_same m own c.requires.sound.owned))

pub next_string-requires : goal.next_string-requires
next_string-requires g c = c.requires.at

pub next_score-requires : goal.next_score-requires
next_score-requires g c = c.in-Ok.ensures.string.inside

pub score-requires : goal.score-requires
score-requires g c = c.requires.sound

pub set-requires : goal.set-requires
set-requires g c = c.requires.sound

pub returns-in-Err-clause-sound : goal.returns-in-Err-clause-sound
returns-in-Err-clause-sound g c = c.requires.sound

pub returns-in-Err-clause-settings : goal.returns-in-Err-clause-settings
returns-in-Err-clause-settings g c = record { limits = refl; seed = refl }

pub returns-in-Err-clause-form : goal.returns-in-Err-clause-form
returns-in-Err-clause-form g c = tt

pub returns-in-Err-clause-changes : goal.returns-in-Err-clause-changes
returns-in-Err-clause-changes g c = changes_same _ _ c.requires.sound.owned

pub returns-in-Err-clause-served : goal.returns-in-Err-clause-served
returns-in-Err-clause-served g c = no_step

pub returns-in-Some-clause-sound : goal.returns-in-Some-clause-sound
returns-in-Some-clause-sound g c = c.requires.sound

pub returns-in-Some-clause-settings : goal.returns-in-Some-clause-settings
returns-in-Some-clause-settings g c = record { limits = refl; seed = refl }

pub returns-in-Some-clause-form : goal.returns-in-Some-clause-form
returns-in-Some-clause-form g c = tt

pub returns-in-Some-clause-changes : goal.returns-in-Some-clause-changes
returns-in-Some-clause-changes g c = changes_same _ _ c.requires.sound.owned

pub returns-in-Some-clause-served : goal.returns-in-Some-clause-served
returns-in-Some-clause-served g c = no_step

pub returns-in-None-clause-sound : goal.returns-in-None-clause-sound
returns-in-None-clause-sound g c = c.requires.sound

pub returns-in-None-clause-settings : goal.returns-in-None-clause-settings
returns-in-None-clause-settings g c = record { limits = refl; seed = refl }

pub returns-in-None-clause-form : goal.returns-in-None-clause-form
returns-in-None-clause-form g c = tt

pub returns-in-None-clause-changes : goal.returns-in-None-clause-changes
returns-in-None-clause-changes g c = changes_same _ _ c.requires.sound.owned

pub returns-in-None-clause-served : goal.returns-in-None-clause-served
returns-in-None-clause-served g c = no_step

pub returns-in-Ok-true-clause-sound : goal.returns-in-Ok-true-clause-sound
returns-in-Ok-true-clause-sound g c = c.in-Ok-true.ensures.set.sound

pub returns-in-Ok-true-clause-settings : goal.returns-in-Ok-true-clause-settings
returns-in-Ok-true-clause-settings g c = c.in-Ok-true.ensures.set.settings

pub returns-in-Ok-true-clause-changes : goal.returns-in-Ok-true-clause-changes
returns-in-Ok-true-clause-changes g c = c.in-Ok-true.ensures.set.changes

pub returns-in-Ok-true-clause-served : goal.returns-in-Ok-true-clause-served
returns-in-Ok-true-clause-served g c = c.set.ensures.served

pub returns-in-Ok-false-clause-sound : goal.returns-in-Ok-false-clause-sound
returns-in-Ok-false-clause-sound g c = c.in-Ok-false.ensures.set.sound

pub returns-in-Ok-false-clause-settings : goal.returns-in-Ok-false-clause-settings
returns-in-Ok-false-clause-settings g c = c.in-Ok-false.ensures.set.settings

pub returns-in-Ok-false-clause-changes : goal.returns-in-Ok-false-clause-changes
returns-in-Ok-false-clause-changes g c = c.in-Ok-false.ensures.set.changes

pub returns-in-Ok-false-clause-served : goal.returns-in-Ok-false-clause-served
returns-in-Ok-false-clause-served g c = c.set.ensures.served

pub returns-in-Ok-false-clause-form : goal.returns-in-Ok-false-clause-form
returns-in-Ok-false-clause-form g c = tt

pub returns-in-Err-set-clause-adds : goal.returns-in-Err-set-clause-adds
returns-in-Err-set-clause-adds g c = tt

pub returns-in-Err-set-clause-sound : goal.returns-in-Err-set-clause-sound
returns-in-Err-set-clause-sound g c =
    subst (λ (x : Scored). IsScored (g.B.BlockStore.blocks c.set.new.store) x) (sym c.in-Err-set.ensures.err_scored)
    (subst (λ (b : Blocks). IsScored b c.args.scored.now) (sym c.in-Err-set.ensures.err_blocks) c.requires.sound)

pub returns-in-Err-set-clause-settings : goal.returns-in-Err-set-clause-settings
returns-in-Err-set-clause-settings g c =
    record { limits = ap (λ (x : Scored). x.limits) c.in-Err-set.ensures.err_scored; seed = ap (λ (x : Scored). x.seed) c.in-Err-set.ensures.err_scored }

pub returns-in-Err-set-clause-form : goal.returns-in-Err-set-clause-form
returns-in-Err-set-clause-form g c = tt

pub returns-in-Err-set-clause-served : goal.returns-in-Err-set-clause-served
returns-in-Err-set-clause-served g c = c.set.ensures.served
