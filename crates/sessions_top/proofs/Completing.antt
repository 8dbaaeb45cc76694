-- When a run surely ends with status 0, or 8.
use Rattle.std.proofs.Common.{◌≡◌, ℕ, ◌<◌, ◌≤◌, List, [], ◌++◌, Option, Some, None, length, refl, sym, ap, subst, ◌∙◌, inl, inr, arith, append_assoc}
use Rattle.std.specs.Prelude.{◌⊎◌}
use Rattle.std.specs.List.{concat}
use Rattle.std.specs.Io.KnownBytes.{Consumes, IsAtEnd}
use Rattle.std.proofs.lemmas.List.{append-nil, length-append}
use Rattle.outside.specs.Counts.{Rose}
use Rattle.plain_sessions.proofs.Arriving.{arrivals_grow}
use Rattle.plain_sessions.proofs.Piecing.{number_front, pieces_are_one}
use Rattle.plain_sessions.specs.Arrivals.{Sent, Arrival}
use Rattle.plain_sessions.specs.Pieces.{Stop, Outside as Between, Unknown, Pieced, Brings}
use Rattle.program_top.proofs.Unloaded.{excuse, is_listed}
use Rattle.program_top.specs.Given.{Options, Given, Run, Outside}
use Rattle.program_top.specs.Headline.{CountsFaults, CanBegin, NoHostFault, standing_clock}
use Rattle.program_top.specs.Starting.{Standing, Begins, NotBegun}
use Rattle.program_top.specs.Statuses as plain
use Rattle.program_top.specs.declared.ending.Ending.{Ending}
use Rattle.serving.specs.Exactly.{NoReadFault}
use Rattle.serving.specs.Timed.{ReadsMoment}
use Rattle.sessions.specs.Served.{IsCutSession, in_piece, in_request, IsCutInput, cut, not_cut, EndsBy, unknown, at_limit, take_fails, finds_end}
use Rattle.sessions.specs.declared.ending.SessionsEnded.{SessionsEnded}
use Rattle.sessions_top.specs.Headline.{sessions, may_serve}
use Rattle.sessions_top.specs.Plain as served_by
use Rattle.sessions_top.specs.Running.{RunsOptions, begun, not_begun, RunsOf, RunsWords, read, unread}
use Rattle.sessions_top.specs.Statuses.{status_of, ending_of}
use Rattle.sessions_top.specs.TopAnswers.{AllUnitsFit, Completes}
use Rattle.sessions_top.specs.declared.ending.SessionsEnding.{SessionsEnding}

-- the number of no session stays one, whatever stands behind it
unknown_stays : (front back : List ℕ) (some : List Sent) → Pieced sessions front some Unknown → Pieced sessions (front ++ back) some Unknown
unknown_stays front back some p =
    let two = p.stands.numbered in
    let above = p.stands.unknown in
    let long = length-append p.rest back in
    record {
      pieces = p.pieces;
      rest = p.rest ++ back;
      each = p.each;
      whole = ap (λ l. l ++ back) p.whole ∙ append_assoc (concat p.pieces) p.rest back;
      stands = record { numbered = omega (arith, two, long); unknown = subst (λ n. sessions ≤ n) (sym (number_front p.rest back two)) above };
      brings = p.brings;
    }

-- of bytes that are told, what was taken and what is left are all
all_told : (bytes taken : List ℕ) (told left : Option (List ℕ)) → told ≡ Some bytes → Consumes told left taken → (rest : List ℕ) × (left ≡ Some rest) × (bytes ≡ taken ++ rest)
all_told bytes taken None left e c = absurd cc
all_told bytes taken (Some all) None e c = absurd c
all_told bytes taken (Some all) (Some rest) e c = let same : all ≡ bytes = cc in (rest, refl, sym same ∙ c)

-- where an input is at its end, nothing is left
none_left : (left : Option (List ℕ)) (rest : List ℕ) → left ≡ Some rest → IsAtEnd left → rest ≡ []
none_left None rest e at_end = absurd cc
none_left (Some all) rest e at_end = let same : all ≡ rest = cc in sym same ∙ at_end

module _ (before after : Outside) where
  -- the status is 0 or 8
  abbrev Good : ℕ → Type 0
  Good status = (status ≡ 0) ⊎ (status ≡ 8)

  -- where the host didn't fail a run that could begin, and didn't, wanted memory
  no_host_fault : (options : Options) (file : Option (List ℕ)) (why : Ending) (moment : ℕ) → options.file ≡ file → CountsFaults (Run options) before after (plain.status_of why)
      → CanBegin before options file → ReadsMoment before.clock after.clock moment → NotBegun before.host.files options.max_input file moment why → NoHostFault file before after
      → Good (plain.status_of why)
  no_host_fault options None why moment is counts can at n none = inr (ap plain.status_of n)
  no_host_fault options (Some name) why moment is counts can at n none = elim (excuse before after options (Some name) why moment after.clock can at n) [
    | inr eight ↦ inr eight
    | inl six ↦ absurd (elim none [
      | inl sure ↦ counts.sure_host options name refl is sure (is_listed before.host.files name can.bytes can.is) six
      | inr never ↦ never (counts.host.came six)
    ])
  ]

  -- what is asked of a run that completes
  module _ (options : Options) (bytes : List ℕ) (arrivals : List Arrival) (told : before.input.told ≡ Some bytes) (brings : Brings sessions bytes arrivals Between)
      (whole : (number : ℕ) → number < sessions → IsCutSession number brings.sent → ⊥) (few : length bytes < options.max_input) (no_read : NoReadFault before.input after.input) where
    -- nothing is cut
    not_cut_input : (stop : Stop) (sent : List Sent) → stop ≡ Between → sent ≡ brings.sent → IsCutInput sessions stop sent → ⊥
    not_cut_input stop sent is same (in_piece inside) = absurd (let none : Between ≡ _ = sym is ∙ inside in cc)
    not_cut_input stop sent is same (in_request number known c) = whole number known (subst (IsCutSession number) same c)

    -- sessions that were served to the end of what was taken
    ends_well : (taken rest : List ℕ) (sent : List Sent) (stop : Stop) (ended : SessionsEnded) → bytes ≡ taken ++ rest → after.input.told ≡ Some rest → Pieced sessions taken sent stop
        → CountsFaults (Run options) before after (status_of (ending_of ended)) → EndsBy sessions options.max_input taken stop sent after.input.told ended → Good (status_of (ending_of ended))
    ends_well taken rest sent stop ended all left pieced counts (unknown is e) =
        let p : Pieced sessions (taken ++ rest) sent Unknown = unknown_stays taken rest sent (subst (Pieced sessions taken sent) is pieced) in
        let q : Pieced sessions (taken ++ rest) brings.sent Between = subst (λ l. Pieced sessions l brings.sent Between) all brings.pieced in
        absurd (let same : Unknown ≡ Between = (pieces_are_one sessions (taken ++ rest) sent brings.sent Unknown Between p q).1 in cc)
    ends_well taken rest sent stop ended all left pieced counts (at_limit not is e) =
        let long = ap length all ∙ length-append taken rest in
        absurd (omega (arith, long, is, few))
    ends_well taken rest sent stop ended all left pieced counts (take_fails not more e) =
        let four : status_of (ending_of ended) ≡ 4 = ap (λ x. status_of (ending_of x)) e in
        absurd (elim no_read [ inl sure ↦ counts.sure_read sure four | inr never ↦ never (counts.read.came four) ])
    ends_well taken rest sent stop ended all left pieced counts (finds_end not more at_end end by e) =
        let none : rest ≡ [] = none_left after.input.told rest left at_end in
        let taken_is : bytes ≡ taken = all ∙ ap (λ l. taken ++ l) none ∙ append-nil taken in
        let one = pieces_are_one sessions taken sent brings.sent stop Between pieced (subst (λ l. Pieced sessions l brings.sent Between) taken_is brings.pieced) in
        elim by [
          | cut c is ↦ absurd (not_cut_input stop sent one.1 one.0 c)
          | not_cut n is ↦ inl (ap (λ x. status_of (ending_of x)) e ∙ ap (λ x. plain.status_of (plain.ending_of x)) is)
        ]

    module _ (no_write : AllUnitsFit options before arrivals ⊎ (Rose before.output.faults after.output.faults → ⊥)) where
      -- the arrivals of what was taken are the first
      first_arrivals : (taken rest : List ℕ) (some : List Arrival) (stop : Stop) → bytes ≡ taken ++ rest → Brings sessions taken some stop → (more : List Arrival) × (arrivals ≡ some ++ more)
      first_arrivals taken rest some stop all b = arrivals_grow sessions taken rest some arrivals stop Between b (subst (λ l. Brings sessions l arrivals Between) all brings)

      -- a run that began
      served_well : (first last : Standing) (ended : SessionsEnded) → Begins options before first
          → may_serve options first before.input after.input before.output after.output last ended → CountsFaults (Run options) before after (status_of (ending_of ended))
          → Good (status_of (ending_of ended))
      served_well first last ended b s counts =
          let t = all_told bytes s.taken before.input.told after.input.told told s.took in
          elim s.ends [
            | served_by.all u by ↦ ends_well s.taken t.0 s.sent s.stop ended t.2 t.1 s.pieced counts by
            | served_by.write_fault u is ↦ absurd (elim no_write [
              | inl fit ↦
                  let some : Brings sessions s.taken s.arrivals s.stop = record { sent = s.sent; pieced = s.pieced; arrive = s.arrive } in
                  let more = first_arrivals s.taken t.0 s.arrivals s.stop t.2 some in
                  u.wrote.unsure (fit first u.there u.some (u.others ++ more.0) u.units b (more.1 ∙ ap (λ l. l ++ more.0) u.split ∙ append_assoc u.some u.others more.0) u.may)
              | inr never ↦ never u.wrote.rose
            ])
            | served_by.no_memory u is ↦ inr (ap (λ x. status_of (ending_of x)) is)
          ]

      run_well : (ending : SessionsEnding) → RunsOptions Begins may_serve standing_clock options before after ending → CountsFaults (Run options) before after (status_of ending)
          → CanBegin before options options.file → NoHostFault options.file before after → Good (status_of ending)
      run_well ending (begun first last ended b host s reads is) counts can no_host =
          subst (λ e. Good (status_of e)) (sym is) (served_well first last ended b s (subst (λ e. CountsFaults (Run options) before after (status_of e)) is counts))
      run_well ending (not_begun why f is) counts can no_host =
          let so : CountsFaults (Run options) before after (plain.status_of why) = subst (λ e. CountsFaults (Run options) before after (status_of e)) is counts in
          subst (λ e. Good (status_of e)) (sym is) (no_host_fault options options.file why f.moment refl so can f.read f.why no_host)

  ran_well : (given : Given) (ending : SessionsEnding) → RunsOf Begins may_serve standing_clock given before after ending → CountsFaults given before after (status_of ending)
      → Completes given before after (status_of ending)
  ran_well given ending r counts options bytes arrivals e can told brings whole few no_host no_read no_write =
      run_well options bytes arrivals told brings whole few no_read no_write ending (subst (λ g. RunsOf Begins may_serve standing_clock g before after ending) e r)
      (subst (λ g. CountsFaults g before after (status_of ending)) e counts) can no_host

  -- also where memory wanted before the words were read
  pub words_complete : (given : Given) (ending : SessionsEnding) → RunsWords Begins may_serve standing_clock given before after ending → CountsFaults given before after (status_of ending)
      → Completes given before after (status_of ending)
  words_complete given ending (read r) counts = ran_well given ending r counts
  words_complete given ending (unread same is) counts = λ options bytes arrivals e can told brings whole few no_host no_read no_write. inr (ap status_of is)
