-- A whole run behind which more may be done.
use Rattle.std.proofs.Common.{◌≡◌, ℕ, List, Bool, Option, Some, None, sym, refl, ap, ◌∙◌, subst, inl, inr, arith}
use Rattle.std.specs.Prelude.{◌⊎◌}
use Rattle.outside.specs.Counts.{Rose}
use Rattle.outside.specs.Files.{ShelfSeen}
use Rattle.outside.specs.Streams.{SinkSeen}
use Rattle.program_top.proofs.Counted.{not_begun_status}
use Rattle.program_top.proofs.Whole.{answers_from, answers_dropped}
use Rattle.program_top.proofs.Worlds.{closed_as}
use Rattle.program_top.specs.Engines.{Engine, world_of}
use Rattle.program_top.specs.Given.{Options, Given, Run, Outside, LeavesAll}
use Rattle.program_top.specs.Headline.{Completes, NoHostFault}
use Rattle.program_top.specs.Notes.{Notes, line_of}
use Rattle.program_top.specs.Running.{Drops, RunsOptions, begun, not_begun, read, unread}
use Rattle.program_top.specs.Statuses.{status_of}
use Rattle.program_top.specs.Stepped.{BeginsEngine, goes, goes_cut, engine_clock, Leaves, RunsNoted}
use Rattle.program_top.specs.TopAnswers.{AnswersBy}
use Rattle.program_top.specs.declared.ending.Ending.{Ending}
use Rattle.program_top.specs.declared.ending.Ending.TheVariants as endings
use Rattle.saving_top.specs.Asked.{Asked, Plain, Closed, Closing}
use Rattle.saving_top.specs.AskedRead.{asked_read}
use Rattle.saving_top.specs.Closing.{Audits, unasked, other, tells, no_memory, TellsSlabs, Saves, StoresIn, saved, failed, untouched, AuditsEngine, StoresEngine}
use Rattle.saving_top.specs.TopAnswers.{Keeps, KeepsEngine, ClosedAnswers, TopAnswers}
use Rattle.saving_top.specs.declared.words.Asked as words
use Rattle.serving.specs.Timed.{Timed}
use Rattle.serving.specs.declared.ending.Ended.{Ended}

-- the status that the slabs leave is 0 only where the serving's was
pub zero_served : (asked : Bool) (served : ℕ) (noted told : SinkSeen) (audited : ℕ) → Audits asked served noted told audited → audited ≡ 0 → served ≡ 0
zero_served asked served noted told audited (unasked not is same) zero = sym is ∙ zero
zero_served asked served noted told audited (other not is same) zero = sym is ∙ zero
zero_served asked served noted told audited (tells is none still) zero = none
zero_served asked served noted told audited (no_memory is none eight line) zero = absurd (omega (arith, zero, eight))

-- it is the serving's, or memory wanted
audited_is : (asked : Bool) (served : ℕ) (noted told : SinkSeen) (audited : ℕ) → Audits asked served noted told audited → (audited ≡ served) ⊎ (audited ≡ 8)
audited_is asked served noted told audited (unasked not is same) = inl is
audited_is asked served noted told audited (other not is same) = inl is
audited_is asked served noted told audited (tells is none still) = inl (still ∙ sym none)
audited_is asked served noted told audited (no_memory is none eight line) = inr eight

-- the status that the saving leaves is that of before, where the shelf didn't fail
stored_is : (save : Option (List ℕ)) (audited : ℕ) (told noted : SinkSeen) (shelf shelf' : ShelfSeen) (status : ℕ) → StoresIn save audited told noted shelf shelf' status
    → (Rose shelf.faults shelf'.faults → ⊥) → status ≡ audited
stored_is None audited told noted shelf shelf' status s never = s.0
stored_is (Some name) audited told noted shelf shelf' status (saved zero is same kept others) never = is ∙ sym zero
stored_is (Some name) audited told noted shelf shelf' status (failed zero is line rose others) never = absurd (never rose)
stored_is (Some name) audited told noted shelf shelf' status (untouched not is same kept) never = is

-- where nothing is saved
stores_same : (save : Option (List ℕ)) (status : ℕ) (noted : SinkSeen) (shelf : ShelfSeen) → (status ≡ 0 → ⊥) → StoresIn save status noted noted shelf shelf status
stores_same None status noted shelf not = (refl, refl, refl)
stores_same (Some name) status noted shelf not = untouched not refl refl refl

no_engine : (left : Option Engine) (engine : Engine) → left ≡ None → left ≡ Some engine → ⊥
no_engine left engine none some = cc

module _ (options : Options) (before mid : Outside) (noted' : SinkSeen) where
  -- the notes have no part in whether the host failed
  no_fault : (file : Option (List ℕ)) → NoHostFault file before (record mid { notes = noted' }) → NoHostFault file before mid
  no_fault None h = h
  no_fault (Some name) h = h

  noted_completes : (status : ℕ) → Completes (Run options) before mid status → Completes (Run options) before (record mid { notes = noted' }) status
  noted_completes status c = record {
    served = λ options bytes asked end e can told frames well few no_host no_read no_write. c.served options bytes asked end e can told frames well few (no_fault options.file no_host)
        no_read no_write;
    generated = c.generated;
  }

  -- a run that completes does so with the same status, and with 8
  completes_by : (served status : ℕ) → Completes (Run options) before mid served → (status ≡ served) ⊎ (status ≡ 8) → Completes (Run options) before (record mid { notes = noted' }) status
  completes_by served status c (inl is) = noted_completes status (subst (Completes (Run options) before mid) (sym is) c)
  completes_by served status c (inr eight) = record {
    served = λ options bytes asked end e can told frames well few no_host no_read no_write. inr eight;
    generated = λ n options e fits. inr eight;
  }

module _ (options : Options) (closing : Closing) (before mid : Outside) (noted' : SinkSeen) (shelf shelf' : ShelfSeen) (audited : ℕ) (told : SinkSeen) (status : ℕ) where
  -- all that is answered where nothing is done
  abbrev Answers : ℕ → Type 0
  Answers served = AnswersBy (Keeps closing.save shelf shelf' status) (KeepsEngine closing shelf shelf' audited mid.notes told status) (Run options) before mid served

  -- the status is the serving's where the shelf didn't fail, or memory wanted
  status_is : (served : ℕ) → Audits closing.audit served mid.notes told audited → StoresIn closing.save audited told noted' shelf shelf' status → (Rose shelf.faults shelf'.faults → ⊥)
      → (status ≡ served) ⊎ (status ≡ 8)
  status_is served a s never =
      let same = stored_is closing.save audited told noted' shelf shelf' status s never in
      elim (audited_is closing.audit served mid.notes told audited a) [ inl is ↦ inl (same ∙ is) | inr eight ↦ inr (same ∙ eight) ]

  closed_by : (served : ℕ) → Audits closing.audit served mid.notes told audited → StoresIn closing.save audited told noted' shelf shelf' status → Answers served
      → ClosedAnswers options closing before (record mid { notes = noted' }) shelf shelf' status
  closed_by served audits stores a = record {
    served = served;
    noted = mid.notes;
    audited = audited;
    told = told;
    serves = a;
    audits = audits;
    stores = stores;
    complete = λ never. completes_by options before mid noted' served status a.complete (status_is served audits stores never);
  }

  -- what a run answers whose last engine was closed
  pub closed_answers : (ending : Ending) (left : Option Engine) (engine : Engine) → left ≡ Some engine → RunsNoted (Leaves left) (Run options) before mid ending
      → (served : ℕ) → served ≡ status_of ending → AuditsEngine engine closing.audit served mid.notes told audited → StoresEngine engine closing.save audited told noted' shelf shelf' status
      → ClosedAnswers options closing before (record mid { notes = noted' }) shelf shelf' status
  closed_answers ending left engine is n served of a s =
      let r = closed_as (Leaves left) (KeepsEngine closing shelf shelf' audited mid.notes told status) keeps options before mid ending n in
      closed_by served a.audits s.stores
      (answers_from (Keeps closing.save shelf shelf' status) (KeepsEngine closing shelf shelf' audited mid.notes told status) (λ last ended k. k.0) before mid ending (Run options) served
      (read r.run) r.line of)
    where
      keeps : (last : Timed Engine) (ended : Ended) → Leaves left last ended → KeepsEngine closing shelf shelf' audited mid.notes told status last ended
      keeps last ended l =
          let same : engine ≡ last.engine = cc in (
            subst (λ (e : Engine). Saves closing.save shelf shelf' status (world_of e) e.last) same s.saves,
            subst (λ (e : Engine). TellsSlabs closing.audit audited mid.notes told e) same a.tells,
          )

module _ (options : Options) (closing : Closing) (before after : Outside) (shelf : ShelfSeen) where
  -- what a run answers that left no engine
  pub unclosed_answers : (ending : Ending) (left : Option Engine) → left ≡ None → RunsNoted (Leaves left) (Run options) before after ending
      → (status : ℕ) → status ≡ status_of ending → ClosedAnswers options closing before after shelf shelf status
  unclosed_answers ending left none n status of =
      let K : Timed Engine → Ended → Type 0 = KeepsEngine closing shelf shelf status after.notes after.notes status in
      let r = closed_as (Leaves left) K (λ last ended l. absurd (no_engine left last.engine none l)) options before after ending n in
      closed_by options closing before after after.notes shelf shelf status after.notes status status (other not refl refl) (stores_same closing.save status after.notes shelf not)
      (answers_from (Keeps closing.save shelf shelf status) K (λ last ended k. k.0) before after ending (Run options) status (read r.run) r.line of)
    where
      not_zero : RunsOptions BeginsEngine goes goes_cut engine_clock (Leaves left) options before after ending → status ≡ 0 → ⊥
      not_zero (begun first last ended b host s reads is l) zero = no_engine left last.engine none l
      not_zero (not_begun f) zero = omega (arith, zero, of, not_begun_status before.host.files options.max_input options.file f.moment ending f.why)

      not : status ≡ 0 → ⊥
      not = not_zero n.run

  -- what is answered where memory wanted before the words were read
  unread_closed : LeavesAll before after → Notes before.notes after.notes (line_of endings.Memory) → ClosedAnswers options closing before after shelf shelf 8
  unread_closed same line =
      let K : Timed Engine → Ended → Type 0 = KeepsEngine closing shelf shelf 8 after.notes after.notes 8 in
      let not : 8 ≡ 0 → ⊥ = λ zero. omega (arith, zero) in
      closed_by options closing before after after.notes shelf shelf 8 after.notes 8 8 (other not refl refl) (stores_same closing.save 8 after.notes shelf not)
      (answers_from (Keeps closing.save shelf shelf 8) K (λ last ended k. k.0) before after endings.Memory (Run options) 8 (unread same refl) line refl)

module _ (before after : Outside) (shelf : ShelfSeen) where
  -- what a run answers behind which nothing is done
  pub plain_answers : (given : Given) (ending : Ending) (status : ℕ) → RunsNoted Drops given before after ending → status ≡ status_of ending → TopAnswers (Plain given) before after shelf shelf status
  plain_answers given ending status n is = (answers_dropped before after ending given status (read n.run) n.line is, refl)

  -- what is answered where memory wanted before the words were read
  pub unread_answers : (asked : Asked) (status : ℕ) → LeavesAll before after → Notes before.notes after.notes (line_of endings.Memory) → status ≡ 8 → TopAnswers asked before after shelf shelf status
  unread_answers (Plain given) status same line is = (answers_dropped before after endings.Memory given status (unread same refl) line is, refl)
  unread_answers (Closed options closing) status same line is =
      subst (ClosedAnswers options closing before after shelf shelf) (sym is) (unread_closed options closing before after shelf same line)

-- what is answered to what was read is answered to what was asked for
pub asked_answers : (asked : Asked) (taken shown : words.Asked) (before after : Outside) (shelf shelf' : ShelfSeen) (status : ℕ) → asked ≡ asked_read taken → taken ≡ shown
    → TopAnswers (asked_read shown) before after shelf shelf' status → TopAnswers asked before after shelf shelf' status
asked_answers asked taken shown before after shelf shelf' status is same a = subst (λ (x : Asked). TopAnswers x before after shelf shelf' status) (sym (is ∙ ap asked_read same)) a
