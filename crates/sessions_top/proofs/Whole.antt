-- A whole run: what is counted, and when each status comes.
use Rattle.std.proofs.Common.{◌≡◌, ◌≤◌, ℕ, List, ◌++◌, Option, Some, None, false, refl, sym, ap, subst, ◌∙◌, inl, inr, arith}
use Rattle.std.specs.Prelude.{◌⊎◌}
use Rattle.std.specs.Io.KnownBytes.{Consumes}
use Rattle.std.proofs.lemmas.List.{append_cancel_right}
use Rattle.plain_sessions.proofs.Piecing.{pieces_are_one}
use Rattle.plain_sessions.specs.Arrivals.{Sent}
use Rattle.plain_sessions.specs.Pieces.{Stop, Pieced}
use Rattle.program_top.proofs.Counted.{stayed, reads_at, reads_surely, writes_at, not_served, not_begun_status, host_at, host_same, host_alone, host_surely, six_is_host}
use Rattle.program_top.proofs.Unloaded.{excuse, Came, began, failed, files_of, eight_files}
use Rattle.program_top.specs.Given.{Options, Given, Wrong, Run, Generate, Outside, LeavesAll}
use Rattle.program_top.specs.Headline.{CountsFaults, CanBegin, Excused, standing_clock}
use Rattle.program_top.specs.Notes.{Notes}
use Rattle.program_top.specs.Running.{Fails}
use Rattle.program_top.specs.Starting.{Begins, UsesHost, is_host}
use Rattle.program_top.specs.Statuses as plain
use Rattle.program_top.specs.declared.ending.Ending.{Ending}
use Rattle.sessions.specs.Served as served_by
use Rattle.sessions.specs.Served.{EndsBy}
use Rattle.sessions.specs.declared.ending.SessionsEnded.{SessionsEnded}
use Rattle.sessions.specs.declared.ending.SessionsEnded.TheVariants as ended_by
use Rattle.sessions_top.proofs.Completing.{words_complete}
use Rattle.sessions_top.proofs.Worlds.{run_words_seen, run_of_seen}
use Rattle.sessions_top.specs.Headline.{sessions, may_serve}
use Rattle.sessions_top.specs.Running.{RunsOptions, begun, not_begun, RunsOf, RunsWords, read, unread}
use Rattle.sessions_top.specs.Statuses.{status_of, line_of, ending_of}
use Rattle.sessions_top.specs.Stepped.{BeginsDesk, serves, desk_clock}
use Rattle.sessions_top.specs.TopAnswers.{AreWrong, EndsExactly, excused, by, Exactly, TopAnswers}
use Rattle.sessions_top.specs.declared.ending.SessionsEnding.{SessionsEnding}

module _ (before after : Outside) where
  -- nothing was touched
  left_counts : (given : Given) (status : ℕ) → LeavesAll before after → (status ≡ 4 → ⊥) → (status ≡ 5 → ⊥) → (status ≡ 6 → ⊥) → CountsFaults given before after status
  left_counts given status same four five six = record {
    read = stayed 4 status before.input.faults after.input.faults four (ap (λ o. o.input.faults) same);
    write = stayed 5 status before.output.faults after.output.faults five (ap (λ o. o.output.faults) same);
    host = stayed 6 status before.host.reading.faults after.host.reading.faults six (ap (λ o. o.host.reading.faults) same);
    sure_read = λ sure e. four e;
    sure_host = λ other name e f sure listed is. six is;
    no_file = λ none. ap (λ o. o.host) same;
  }

  -- sessions that were served
  module _ (options : Options) (ended : SessionsEnded) (counts : served_by.Counts before.input after.input before.output after.output ended)
      (host : UsesHost options.max_input options.file before.host after.host false) where
    served_counts : (e : SessionsEnded) → e ≡ ended → CountsFaults (Run options) before after (status_of (ending_of e))
    served_counts (ended_by.Plain end) is =
        let c = subst (served_by.Counts before.input after.input before.output after.output) (sym is) counts in
        record {
          read = reads_at before.input after.input end c.0;
          write = writes_at before.output after.output end c.1;
          host = stayed 6 (plain.status_of (plain.ending_of end)) before.host.reading.faults after.host.reading.faults (not_served end 6 refl) (host_same options.max_input before.host after.host options.file false host refl);
          sure_read = reads_surely before.input after.input end c.0;
          sure_host = λ other name e f sure listed six. not_served end 6 refl six;
          no_file = λ none. let H : Option (List ℕ) → Type 0 = λ o. UsesHost options.max_input o before.host after.host false in host_alone options.max_input before.host after.host false (subst H none host);
        }
    served_counts ended_by.Unknown is =
        let c = subst (served_by.Counts before.input after.input before.output after.output) (sym is) counts in
        record {
          read = stayed 4 11 before.input.faults after.input.faults (λ e. omega (arith, e)) c.0;
          write = stayed 5 11 before.output.faults after.output.faults (λ e. omega (arith, e)) c.1;
          host = stayed 6 11 before.host.reading.faults after.host.reading.faults (λ e. omega (arith, e)) (host_same options.max_input before.host after.host options.file false host refl);
          sure_read = λ sure e. omega (arith, e);
          sure_host = λ other name e f sure listed six. omega (arith, six);
          no_file = λ none. let H : Option (List ℕ) → Type 0 = λ o. UsesHost options.max_input o before.host after.host false in host_alone options.max_input before.host after.host false (subst H none host);
        }

  -- a run that doesn't begin has no status of 5 or less
  fails_more : (options : Options) (why : Ending) → Fails options before after why → (n : ℕ) → n ≤ 5 → plain.status_of why ≡ n → ⊥
  fails_more options why f n le e = omega (arith, le, e, not_begun_status before.host.files options.max_input options.file f.moment why f.why)

  fails_counts : (options : Options) (why : Ending) → Fails options before after why → CountsFaults (Run options) before after (plain.status_of why)
  fails_counts options why f = record {
    read = stayed 4 (plain.status_of why) before.input.faults after.input.faults (fails_more options why f 4 (omega arith)) (ap (λ i. i.faults) f.input);
    write = stayed 5 (plain.status_of why) before.output.faults after.output.faults (fails_more options why f 5 (omega arith)) (ap (λ o. o.faults) f.output);
    host = host_at options.max_input before.host after.host options.file why f.host;
    sure_read = λ sure e. fails_more options why f 4 (omega arith) e;
    sure_host = λ other name e is sure listed six.
        let same : options ≡ other = cc in
        let H : Option (List ℕ) → Type 0 = λ o. UsesHost options.max_input o before.host after.host (is_host why) in
        host_surely options.max_input before.host after.host name (is_host why) (subst H (ap (λ (o : Options). o.file) same ∙ is) f.host) sure listed (six_is_host why six);
    no_file = λ none. let H : Option (List ℕ) → Type 0 = λ o. UsesHost options.max_input o before.host after.host (is_host why) in host_alone options.max_input before.host after.host (is_host why) (subst H none f.host);
  }

  abbrev Ran : Given → SessionsEnding → Type 0
  Ran given ending = RunsOf BeginsDesk serves desk_clock given before after ending

  ran_counts : (given : Given) (ending : SessionsEnding) → Ran given ending → CountsFaults given before after (status_of ending)
  ran_counts Wrong ending r = subst (λ e. CountsFaults Wrong before after (status_of e)) (sym r.0) (left_counts Wrong 1 r.1 (λ e. omega (arith, e)) (λ e. omega (arith, e)) (λ e. omega (arith, e)))
  ran_counts (Generate n options) ending r =
      subst (λ e. CountsFaults (Generate n options) before after (status_of e)) (sym r.0) (left_counts (Generate n options) 1 r.1 (λ e. omega (arith, e)) (λ e. omega (arith, e)) (λ e. omega (arith, e)))
  ran_counts (Run options) ending (begun first last ended b host s reads is) =
      subst (λ e. CountsFaults (Run options) before after (status_of e)) (sym is) (served_counts options ended s.counts host ended refl)
  ran_counts (Run options) ending (not_begun why f is) = subst (λ e. CountsFaults (Run options) before after (status_of e)) (sym is) (fails_counts options why f)

  words_counts : (given : Given) (ending : SessionsEnding) → RunsWords BeginsDesk serves desk_clock given before after ending → CountsFaults given before after (status_of ending)
  words_counts given ending (read r) = ran_counts given ending r
  words_counts given ending (unread same is) =
      subst (λ e. CountsFaults given before after (status_of e)) (sym is) (left_counts given 8 same (λ e. omega (arith, e)) (λ e. omega (arith, e)) (λ e. omega (arith, e)))

  -- ---- when each status comes

  wrong_ends : (given : Given) (ending : SessionsEnding) → Ran given ending → AreWrong given → status_of ending ≡ 1
  wrong_ends Wrong ending r w = ap status_of r.0
  wrong_ends (Run options) ending r w = absurd w
  wrong_ends (Generate n options) ending r w = ap status_of r.0

  not_seven : (ended : SessionsEnded) → status_of (ending_of ended) ≡ 7 → ⊥
  not_seven (ended_by.Plain end) e = not_served end 7 refl e
  not_seven ended_by.Unknown e = omega (arith, e)

  not_one : (ended : SessionsEnded) → status_of (ending_of ended) ≡ 1 → ⊥
  not_one (ended_by.Plain end) e = not_served end 1 refl e
  not_one ended_by.Unknown e = omega (arith, e)

  one_alone : (given : Given) (ending : SessionsEnding) → Ran given ending → status_of ending ≡ 1 → AreWrong given
  one_alone Wrong ending r e = tt
  one_alone (Generate n options) ending r e = tt
  one_alone (Run options) ending (begun first last ended b host s reads is) e = absurd (not_one ended (ap status_of (sym is) ∙ e))
  one_alone (Run options) ending (not_begun why f is) e = absurd (fails_more options why f 1 (omega arith) (ap status_of (sym is) ∙ e))

  -- of bytes that are told it is known which were taken
  same_taken : (bytes left : Option (List ℕ)) (a b rest : List ℕ) → bytes ≡ Some (a ++ rest) → left ≡ Some rest → Consumes bytes left b → b ≡ a
  same_taken None left a b rest e f c = absurd cc
  same_taken (Some xs) None a b rest e f c = absurd cc
  same_taken (Some xs) (Some ys) a b rest e f c =
      let ys_is : ys ≡ rest = cc in
      let xs_is : xs ≡ a ++ rest = cc in
      append_cancel_right b a rest (ap (λ y. b ++ y) (sym ys_is) ∙ sym c ∙ xs_is)

  module _ (options : Options) (ended : SessionsEnded) (first last : _) (s : serves options first before.input after.input before.output after.output last ended) where
    ends_so : (taken rest : List ℕ) → before.input.told ≡ Some (taken ++ rest) → after.input.told ≡ Some rest → (sent : List Sent) (stop : Stop) → Pieced sessions taken sent stop
        → EndsExactly options.max_input taken stop sent (Some rest) (status_of (ending_of ended))
    ends_so taken rest told left sent stop pieced =
        let taken_is : s.taken ≡ taken = same_taken before.input.told after.input.told taken s.taken rest told left s.took in
        let own : Pieced sessions taken s.sent s.stop = subst (λ t. Pieced sessions t s.sent s.stop) taken_is s.pieced in
        let one = pieces_are_one sessions taken s.sent sent s.stop stop own pieced in
        elim s.ends [
          | served_by.answered t way ↦ by ended (subst (λ l. EndsBy sessions options.max_input taken stop sent l ended) left (subst (λ x. EndsBy sessions options.max_input taken stop x after.input.told ended) one.0 (subst (λ x. EndsBy sessions options.max_input taken x s.sent after.input.told ended) one.1 (subst (λ t. EndsBy sessions options.max_input t s.stop s.sent after.input.told ended) taken_is way)))) refl
          | served_by.write_fault t is ↦ excused (inl (ap (λ e. status_of (ending_of e)) is))
          | served_by.no_memory t is ↦ excused (inr (ap (λ e. status_of (ending_of e)) is))
        ]

  abbrev ServedSo : Options → ℕ → Type 0
  ServedSo options status = Excused status ⊎ ((taken rest : List ℕ) → before.input.told ≡ Some (taken ++ rest) → after.input.told ≡ Some rest → (sent : List Sent) (stop : Stop)
      → Pieced sessions taken sent stop → EndsExactly options.max_input taken stop sent (Some rest) status)

  run_served : (options : Options) (ending : SessionsEnding) → Ran (Run options) ending → CanBegin before options options.file → ServedSo options (status_of ending)
  run_served options ending (begun first last ended b host s reads is) can = subst (λ e. ServedSo options (status_of e)) (sym is) (inr (ends_so options ended first last s))
  run_served options ending (not_begun why f is) can = subst (λ e. ServedSo options (status_of e)) (sym is) (inl (excuse before after options options.file why f.moment after.clock can f.read f.why))

  -- how a run with these options came to its status
  came : (options : Options) (ending : SessionsEnding) → RunsOptions Begins may_serve standing_clock options before after ending → Notes before.notes after.notes (line_of ending)
      → Came before after (status_of ending) options
  came options ending (begun first last ended b host s reads is) line = began first b (λ e. not_seven ended (ap status_of (sym is) ∙ e))
  came options ending (not_begun why f is) line = failed why f (ap status_of is) (subst (λ e. Notes before.notes after.notes (line_of e)) is line)

  -- status 7 comes only where options were given
  seven_runs : (given : Given) (ending : SessionsEnding) → Ran given ending → status_of ending ≡ 7 → (options : Options) × (given ≡ Run options)
  seven_runs Wrong ending r e = absurd (omega (arith, ap status_of r.0, e))
  seven_runs (Run options) ending r e = (options, refl)
  seven_runs (Generate n options) ending r e = absurd (omega (arith, ap status_of r.0, e))

  -- the options of a run
  ran_as : (given : Given) (options : Options) (ending : SessionsEnding) → RunsOf Begins may_serve standing_clock given before after ending → given ≡ Run options
      → RunsOptions Begins may_serve standing_clock options before after ending
  ran_as given options ending r e = subst (λ g. RunsOf Begins may_serve standing_clock g before after ending) e r

  exactly : (given : Given) (ending : SessionsEnding) → RunsWords BeginsDesk serves desk_clock given before after ending → Notes before.notes after.notes (line_of ending)
      → Exactly given before after (status_of ending)
  exactly given ending (read r) line = record {
    wrong = λ w. inl (wrong_ends given ending r w);
    wrong_alone = λ e. one_alone given ending r e;
    files = files_of before after (status_of ending) given (λ options e. came options ending (ran_as given options ending (run_of_seen given before after ending r) e) line) (seven_runs given ending r);
    served = λ options is can. run_served options ending (subst (λ g. Ran g ending) is r) can;
  }
  exactly given ending (unread same is) line = record {
    wrong = λ w. inr (ap status_of is);
    wrong_alone = λ e. absurd (let eight : status_of ending ≡ 8 = ap status_of is in omega (arith, e, eight));
    files = eight_files before after (status_of ending) given (ap status_of is);
    served = λ options g can. inl (inr (ap status_of is));
  }

  -- what the call answers, of a run at the desk whose line is in the notes
  pub answers_as : (given : Given) (ending : SessionsEnding) (status : ℕ) → RunsWords BeginsDesk serves desk_clock given before after ending → Notes before.notes after.notes (line_of ending)
      → status ≡ status_of ending → TopAnswers given before after status
  answers_as given ending status r line is = subst (TopAnswers given before after) (sym is) (record {
    headline = record { ending = ending; is = refl; run = run_words_seen given before after ending r; line = line };
    stepped = record { ending = ending; is = refl; run = r };
    counts = words_counts given ending r;
    exact = exactly given ending r line;
    complete = words_complete before after given ending (run_words_seen given before after ending r) (words_counts given ending r);
  })
