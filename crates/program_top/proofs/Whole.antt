-- A whole run: when each status comes, what is counted, and its notes.
use Rattle.std.proofs.Common.{◌≡◌, ◌<◌, ◌≤◌, ℕ, List, Option, Some, None, false, length, refl, sym, ap, subst, ◌∙◌, inl, inr, arith}
use Rattle.std.specs.Prelude.{◌⊎◌}
use Rattle.plain_world.specs.Words.{Words}
use Rattle.plain_model.specs.Meant.{asks_to_quit}
use Rattle.resp_frames.specs.Ends.{End, Frames}
use Rattle.serving.specs.Exactly as exactly
use Rattle.serving.specs.Exactly.{NoReadFault, EndsWell}
use Rattle.serving.specs.Timed.{Timed}
use Rattle.serving.specs.declared.ending.Ended.{Ended}
use Rattle.serving.proofs.Said.{ends_exactly, completes}
use Rattle.serving.proofs.Wholes as wholes
use Rattle.serving.proofs.Wholes.{NoWriteFault, EndsWhole}
use Rattle.program_top.specs.Engines.{Engine}
use Rattle.program_top.specs.Generating as generating
use Rattle.program_top.specs.Generating.{GeneratesOn, may_generate, Writes, WritesLines}
use Rattle.program_top.specs.Given.{Options, Given, Wrong, Run, Generate, Outside, LeavesAll}
use Rattle.program_top.specs.Notes.{Notes, line_of}
use Rattle.program_top.specs.Running.{Drops, Fails, RunsOptions, begun, not_begun, RunsOf, RunsWords, read, unread}
use Rattle.program_top.specs.Starting.{Standing, Begins, NotBegun, UsesHost, is_host}
use Rattle.program_top.specs.Statuses.{status_of, ending_of}
use Rattle.program_top.specs.Headline.{may_answer, standing_clock, Concludes, NoHostFault, NoOutputFault, CountsFaults, NotesStatus, CanBegin, Excused}
use Rattle.program_top.specs.Headline.{Exactly, NoLinesFault, Completes, RoseAt}
use Rattle.program_top.specs.Stepped.{BeginsEngine, goes, goes_cut, engine_clock, standing_of, StepsStatus}
use Rattle.program_top.specs.TopAnswers.{AnswersBy, TopAnswers}
use Rattle.program_top.specs.declared.ending.Ending.{Ending}
use Rattle.program_top.specs.declared.ending.Ending.TheVariants as endings
use Rattle.program_top.proofs.Unloaded.{is_listed, excuse, Came, began, failed, files_of, eight_files}
use Rattle.program_top.proofs.Worlds.{run_words_seen}
use Rattle.program_top.proofs.Counted.{stayed, reads_at, reads_surely, writes_at, not_served, not_begun_status, six_is_host, host_at, host_same, host_surely, host_alone}

-- ---- the clauses

module _ (Closes : Standing → Ended → Type 0) (before after : Outside) (ending : Ending) (line : Notes before.notes after.notes (line_of ending)) where
  -- a run with these options ended so, from what stood outside before it to what stands after it
  abbrev Ran : Options → Type 0
  Ran options = RunsOptions Begins may_answer may_answer standing_clock Closes options before after ending

  -- a run with what was given ended so, which may be wrong words
  abbrev RanOf : Given → Type 0
  RanOf given = RunsOf Begins may_answer may_answer standing_clock Closes may_generate given before after ending

  -- a run with what was given ended so, where memory may have wanted before the words were read
  abbrev ReadOf : Given → Type 0
  ReadOf given = RunsWords Begins may_answer may_answer standing_clock Closes may_generate given before after ending

  -- the options are these
  ran_as : (given : Given) (options : Options) → RanOf given → given ≡ Run options → Ran options
  ran_as given options r e = let P : Given → Type 0 = RanOf in subst P e r

  -- the lines of so many generated commands were written
  abbrev Wrote : ℕ → Options → Type 0
  Wrote n options = WritesLines (may_generate options n before.pacers) before after ending

  -- the options and the number of commands are these
  wrote_as : (given : Given) (n : ℕ) (options : Options) → RanOf given → given ≡ Generate n options → Wrote n options
  wrote_as given n options r e = let P : Given → Type 0 = RanOf in subst P e r

  -- generated commands have status 0, 5 or 8
  lines_status : (n : ℕ) (options : Options) → Wrote n options → (status_of ending ≡ 0) ⊎ ((status_of ending ≡ 5) ⊎ (status_of ending ≡ 8))
  lines_status n options w = elim w.wrote [
    | generating.all lines l put is ↦ inl (ap status_of is)
    | generating.front lines l put is ↦ inr (inl (ap status_of is))
    | generating.none same is ↦ inr (inr (ap status_of is))
  ]

  -- and no other
  not_lines : (n : ℕ) (options : Options) → Wrote n options → (m : ℕ) → (m ≡ 0 → ⊥) → (m ≡ 5 → ⊥) → (m ≡ 8 → ⊥) → status_of ending ≡ m → ⊥
  not_lines n options w m zero five eight e = elim (lines_status n options w) [
    | inl is ↦ zero (sym e ∙ is)
    | inr (inl is) ↦ five (sym e ∙ is)
    | inr (inr is) ↦ eight (sym e ∙ is)
  ]

  -- ---- what is counted

  -- a run that doesn't begin has no status of 5 or less
  fails_read : (options : Options) → Fails options before after ending → (n : ℕ) → n ≤ 5 → status_of ending ≡ n → ⊥
  fails_read options f n le e = omega (arith, le, e, not_begun_status before.host.files options.max_input options.file f.moment ending f.why)

  -- a run with options counts a fault exactly where it is ended by it
  run_counts : (options : Options) → Ran options → CountsFaults (Run options) before after (status_of ending)
  run_counts options (begun first last ended b host s reads is closes) =
      let P : Ending → Type 0 = λ e. CountsFaults (Run options) before after (status_of e) in
      subst P (sym is) (record {
        read = reads_at before.input after.input ended s.reads;
        write = writes_at before.output after.output ended s.writes;
        host = stayed 6 (status_of (ending_of ended)) before.host.reading.faults after.host.reading.faults (not_served ended 6 refl)
            (host_same options.max_input before.host after.host options.file false host refl);
        sure_read = reads_surely before.input after.input ended s.reads;
        sure_host = λ other name e f sure listed six. not_served ended 6 refl six;
        no_file = λ none. let H : Option (List ℕ) → Type 0 = λ o. UsesHost options.max_input o before.host after.host false in
            host_alone options.max_input before.host after.host false (subst H none host);
      })
  run_counts options (not_begun f) = record {
    read = stayed 4 (status_of ending) before.input.faults after.input.faults (fails_read options f 4 (omega arith)) (ap (λ i. i.faults) f.input);
    write = stayed 5 (status_of ending) before.output.faults after.output.faults (fails_read options f 5 (omega arith)) (ap (λ o. o.faults) f.output);
    host = host_at options.max_input before.host after.host options.file ending f.host;
    sure_read = λ sure e. fails_read options f 4 (omega arith) e;
    sure_host = λ other name e is sure listed six.
        let same : options ≡ other = cc in
        let H : Option (List ℕ) → Type 0 = λ o. UsesHost options.max_input o before.host after.host (is_host ending) in
        host_surely options.max_input before.host after.host name (is_host ending) (subst H (ap (λ o. o.file) same ∙ is) f.host) sure listed (six_is_host ending six);
    no_file = λ none. let H : Option (List ℕ) → Type 0 = λ o. UsesHost options.max_input o before.host after.host (is_host ending) in
        host_alone options.max_input before.host after.host (is_host ending) (subst H none f.host);
  }

  -- nothing was touched, and the status is none that counts
  untouched_counts : (given : Given) → (status_of ending ≡ 4 → ⊥) → (status_of ending ≡ 5 → ⊥) → (status_of ending ≡ 6 → ⊥) → LeavesAll before after
      → CountsFaults given before after (status_of ending)
  untouched_counts given four five six same = record {
    read = stayed 4 (status_of ending) before.input.faults after.input.faults four (ap (λ o. o.input.faults) same);
    write = stayed 5 (status_of ending) before.output.faults after.output.faults five (ap (λ o. o.output.faults) same);
    host = stayed 6 (status_of ending) before.host.reading.faults after.host.reading.faults six (ap (λ o. o.host.reading.faults) same);
    sure_read = λ sure e. four e;
    sure_host = λ other name e f sure listed is. six is;
    no_file = λ none. ap (λ o. o.host) same;
  }

  -- a run with wrong words counts no fault
  wrong_counts : ending ≡ endings.Usage → LeavesAll before after → CountsFaults Wrong before after (status_of ending)
  wrong_counts is same =
      let one : status_of ending ≡ 1 = ap status_of is in
      untouched_counts Wrong (λ e. omega (arith, e, one)) (λ e. omega (arith, e, one)) (λ e. omega (arith, e, one)) same

  -- a fault of the output is counted exactly where it ends the lines
  lines_write : (Lines : List ℕ → Type 0) → Writes Lines before.output after.output ending → RoseAt 5 (status_of ending) before.output.faults after.output.faults
  lines_write Lines (generating.all lines l put is) = stayed 5 (status_of ending) before.output.faults after.output.faults (λ e. omega (arith, e, ap status_of is)) put.faults
  lines_write Lines (generating.front lines l put is) = record { came = λ e. put.rose; other = λ n. absurd (n (ap status_of is)) }
  lines_write Lines (generating.none same is) = stayed 5 (status_of ending) before.output.faults after.output.faults (λ e. omega (arith, e, ap status_of is)) (ap (λ o. o.faults) same)

  -- generated commands count no other fault
  lines_count : (n : ℕ) (options : Options) → Wrote n options → CountsFaults (Generate n options) before after (status_of ending)
  lines_count n options w = record {
    read = stayed 4 (status_of ending) before.input.faults after.input.faults (not_four n options w) (ap (λ o. o.input.faults) w.others);
    write = lines_write (may_generate options n before.pacers) w.wrote;
    host = stayed 6 (status_of ending) before.host.reading.faults after.host.reading.faults (not_six n options w) (ap (λ o. o.host.reading.faults) w.others);
    sure_read = λ sure e. not_four n options w e;
    sure_host = λ other name e f sure listed six. not_six n options w six;
    no_file = λ none. ap (λ o. o.host) w.others;
  }
    where
      not_four : (n : ℕ) (options : Options) → Wrote n options → status_of ending ≡ 4 → ⊥
      not_four n options w = not_lines n options w 4 (λ e. omega (arith, e)) (λ e. omega (arith, e)) (λ e. omega (arith, e))

      not_six : (n : ℕ) (options : Options) → Wrote n options → status_of ending ≡ 6 → ⊥
      not_six n options w = not_lines n options w 6 (λ e. omega (arith, e)) (λ e. omega (arith, e)) (λ e. omega (arith, e))

  -- a run with what was given counts a fault exactly where it is ended by it
  counts_of : (given : Given) → RanOf given → CountsFaults given before after (status_of ending)
  counts_of Wrong r = wrong_counts r.0 r.1
  counts_of (Run options) r = run_counts options r
  counts_of (Generate n options) r = lines_count n options r

  -- a run counts a fault exactly where it is ended by it, also where memory wanted for its words
  counts_read : (given : Given) → ReadOf given → CountsFaults given before after (status_of ending)
  counts_read given (read r) = counts_of given r
  counts_read given (unread same is) =
      let eight : status_of ending ≡ 8 = ap status_of is in
      untouched_counts given (λ e. omega (arith, e, eight)) (λ e. omega (arith, e, eight)) (λ e. omega (arith, e, eight)) same

  -- ---- when each status comes

  -- status 1 comes of wrong words alone
  wrong_alone : (given : Given) → RanOf given → status_of ending ≡ 1 → given ≡ Wrong
  wrong_alone Wrong r e = refl
  wrong_alone (Run options) (begun first last ended b host s reads is closes) e = absurd (not_served ended 1 refl (ap status_of (sym is) ∙ e))
  wrong_alone (Run options) (not_begun f) e = absurd (fails_read options f 1 (omega arith) e)
  wrong_alone (Generate n options) w e = absurd (not_lines n options w 1 (λ e. omega (arith, e)) (λ e. omega (arith, e)) (λ e. omega (arith, e)) e)

  -- how a run with these options came to its status
  came : (options : Options) → Ran options → Came before after (status_of ending) options
  came options (begun first last ended b host s reads is closes) = began first b (λ e. not_served ended 7 refl (ap status_of (sym is) ∙ e))
  came options (not_begun f) = failed ending f refl line

  -- status 7 comes only where options were given
  seven_runs : (given : Given) → RanOf given → status_of ending ≡ 7 → (options : Options) × (given ≡ Run options)
  seven_runs Wrong r e = absurd (omega (arith, ap status_of r.0, e))
  seven_runs (Run options) r e = (options, refl)
  seven_runs (Generate n options) w e = absurd (not_lines n options w 7 (λ e. omega (arith, e)) (λ e. omega (arith, e)) (λ e. omega (arith, e)) e)

  -- a run that can begin ends as its input does, unless the host failed or memory wanted
  served : (options : Options) → Ran options → CanBegin before options options.file → Excused (status_of ending)
      ⊎ ((ended : Ended) × (status_of ending ≡ status_of (ending_of ended)) × exactly.ServesExactly asks_to_quit options.max_input before.input after.input ended)
  served options (begun first last ended b host s reads is closes) can =
      inr (
        ended,
        ap status_of is,
        ends_exactly (may_answer options first) (may_answer options first) asks_to_quit options.max_input before.input after.input before.output after.output last
            ended s,
      )
  served options (not_begun f) can = inl (excuse before after options options.file ending f.moment after.clock can f.read f.why)

  -- each status of a run whose words were read comes exactly when it is due
  exactly_of : (given : Given) → RanOf given → Exactly given before after (status_of ending)
  exactly_of given r = record {
    wrong = λ e. let P : Given → Type 0 = RanOf in inl (ap status_of (subst P e r).0);
    wrong_alone = wrong_alone given r;
    files = files_of before after (status_of ending) given (λ options e. came options (ran_as given options r e)) (seven_runs given r);
    generated = λ n options e. lines_status n options (wrote_as given n options r e);
    served = λ options e. served options (ran_as given options r e);
  }

  -- each status comes exactly when it is due, also where memory wanted before the words were read
  exactly_read : (given : Given) → ReadOf given → Exactly given before after (status_of ending)
  exactly_read given (read r) = exactly_of given r
  exactly_read given (unread same is) =
      let eight : status_of ending ≡ 8 = ap status_of is in
      record {
        wrong = λ e. inr eight;
        wrong_alone = λ one. absurd (omega (arith, one, eight));
        files = eight_files before after (status_of ending) given eight;
        generated = λ n options e. inr (inr eight);
        served = λ options e can. inl (inr eight);
      }

  -- ---- a run that completes

  -- serving that ends whole has status 0, or 8 where memory wanted
  whole_status : (ended : Ended) → EndsWhole ended → (status_of (ending_of ended) ≡ 0) ⊎ (status_of (ending_of ended) ≡ 8)
  whole_status ended (wholes.whole is) = inl (ap (λ e. status_of (ending_of e)) is)
  whole_status ended (wholes.quit is) = inl (ap (λ e. status_of (ending_of e)) is)
  whole_status ended (wholes.no_memory is) = inr (ap (λ e. status_of (ending_of e)) is)

  -- the host did not fail
  no_host_fault : (options : Options) (f : Fails options before after ending) (file : Option (List ℕ)) → options.file ≡ file → CanBegin before options file
      → NotBegun before.host.files options.max_input file f.moment ending → NoHostFault file before after → status_of ending ≡ 6 → ⊥
  no_host_fault options f None is can n none six = omega (arith, ap status_of n, six)
  no_host_fault options f (Some name) is can n none six =
      let counts = run_counts options (not_begun f) in
      elim none [
        | inl sure ↦ counts.sure_host options name refl is sure (is_listed before.host.files name can.bytes can.is) six
        | inr never ↦ never (counts.host.came six)
      ]

  -- where the host didn't fail a run that is excused has status 0 or 8
  excused_whole : Excused (status_of ending) → (status_of ending ≡ 6 → ⊥) → (status_of ending ≡ 0) ⊎ (status_of ending ≡ 8)
  excused_whole (inl six) not = absurd (not six)
  excused_whole (inr eight) not = inr eight

  -- where the output has no fault no put fails from the first state on
  no_put_fault : (options : Options) (first : Standing) → Begins options before first → (asked : List Words) → NoOutputFault options before after asked
      → NoWriteFault (may_answer options first) asks_to_quit asked before.output after.output
  no_put_fault options first b asked (inl fit) = inl (fit first b)
  no_put_fault options first b asked (inr none) = inr none

  -- a run with options completes where nothing fails: its status is 0, or 8 where memory wanted
  run_completes : (options : Options) → Ran options → (bytes : List ℕ) (asked : List Words) (end : End) → CanBegin before options options.file → before.input.told ≡ Some bytes
      → Frames bytes asked end → EndsWell asks_to_quit asked end → length bytes < options.max_input
      → NoHostFault options.file before after → NoReadFault before.input after.input → NoOutputFault options before after asked → (status_of ending ≡ 0) ⊎ (status_of ending ≡ 8)
  run_completes options (begun first last ended b host s reads is closes) bytes asked end can told frames well few no_host no_read no_write =
      let P : Ending → Type 0 = λ e. (status_of e ≡ 0) ⊎ (status_of e ≡ 8) in
      let whole = completes (may_answer options first) (may_answer options first) asks_to_quit options.max_input before.input after.input before.output after.output last ended s bytes
      asked end told frames well few no_read (no_put_fault options first b asked no_write) in
      subst P (sym is) (whole_status ended whole)
  run_completes options (not_begun f) bytes asked end can told frames well few no_host no_read no_write =
      excused_whole (excuse before after options options.file ending f.moment after.clock can f.read f.why) (no_host_fault options f options.file refl can f.why no_host)

  -- generated commands complete where the output doesn't fail, unless memory wanted
  lines_complete : (n : ℕ) (options : Options) → Wrote n options → NoLinesFault options n before after → (status_of ending ≡ 0) ⊎ (status_of ending ≡ 8)
  lines_complete n options w fits = elim w.wrote [
    | generating.all lines l put is ↦ inl (ap status_of is)
    | generating.front lines l put is ↦ elim fits [ inl room ↦ absurd (put.unsure (room lines l)) | inr never ↦ absurd (never put.rose) ]
    | generating.none same is ↦ inr (ap status_of is)
  ]

  -- a run with what was given completes where nothing fails, unless memory wanted
  completes_of : (given : Given) → RanOf given → Completes given before after (status_of ending)
  completes_of given r = record {
    served = λ options bytes asked end e can told frames well few no_host no_read no_write. run_completes options (ran_as given options r e) bytes asked end can told frames well few
        no_host no_read no_write;
    generated = λ n options e fits. lines_complete n options (wrote_as given n options r e) fits;
  }

  -- a run completes where nothing fails, unless memory wanted, be it before the words were read
  completes_read : (given : Given) → ReadOf given → Completes given before after (status_of ending)
  completes_read given (read r) = completes_of given r
  completes_read given (unread same is) = record {
    served = λ options bytes asked end e can told frames well few no_host no_read no_write. inr (ap status_of is);
    generated = λ n options e fits. inr (ap status_of is);
  }

  -- the same of the status that is answered
  module _ (given : Given) (r : ReadOf given) (status : ℕ) (is : status ≡ status_of ending) where
    -- the run and its line in the notes conclude with the status that is answered
    concludes_as : Concludes Closes given before after status
    concludes_as = record { ending = ending; is = is; run = r; line = line }

    -- a fault is counted exactly where the status that is answered says that it ended the run
    counts_as : CountsFaults given before after status
    counts_as = let P : ℕ → Type 0 = λ s. CountsFaults given before after s in subst P (sym is) (counts_read given r)

    -- the status that is answered comes exactly when it is due
    exactly_as : Exactly given before after status
    exactly_as = let P : ℕ → Type 0 = λ s. Exactly given before after s in subst P (sym is) (exactly_read given r)

    -- where nothing fails, the status that is answered is 0, or 8 where memory wanted
    completes_as : Completes given before after status
    completes_as = let P : ℕ → Type 0 = λ s. Completes given before after s in subst P (sym is) (completes_read given r)

    -- the line in the notes is that of an ending of the status that is answered
    notes_as : NotesStatus before after status
    notes_as = record { ending = ending; is = is; line = line }

    -- all that is answered
    answers_as : (ClosesEngine : Timed Engine → Ended → Type 0) → StepsStatus ClosesEngine given before after status → AnswersBy Closes ClosesEngine given before after status
    answers_as ClosesEngine s = record { headline = concludes_as; stepped = s; counts = counts_as; exact = exactly_as; complete = completes_as; notes = notes_as }

-- what a run of the engine answers, where the same comes of the world that it holds as of the engine
pub answers_from : (Closes : Standing → Ended → Type 0) (ClosesEngine : Timed Engine → Ended → Type 0) → ((last : Timed Engine) (ended : Ended) → ClosesEngine last ended → Closes (standing_of last) ended)
    → (before after : Outside) (ending : Ending) (given : Given) (status : ℕ) → RunsWords BeginsEngine goes goes_cut engine_clock ClosesEngine GeneratesOn given before after ending
    → Notes before.notes after.notes (line_of ending) → status ≡ status_of ending → AnswersBy Closes ClosesEngine given before after status
answers_from Closes ClosesEngine closed before after ending given status run line is =
    answers_as Closes before after ending line given (run_words_seen Closes ClosesEngine closed given before after ending run) status is ClosesEngine (record { ending = ending; is = is; run = run })

-- what the top call answers
pub answers_dropped : (before after : Outside) (ending : Ending) (given : Given) (status : ℕ) → RunsWords BeginsEngine goes goes_cut engine_clock Drops GeneratesOn given before after ending
    → Notes before.notes after.notes (line_of ending) → status ≡ status_of ending → TopAnswers given before after status
answers_dropped = answers_from Drops Drops (λ last ended dropped. tt)
