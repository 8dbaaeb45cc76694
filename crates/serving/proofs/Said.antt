-- What is said of a serving, for those who call it.
use Rattle.std.proofs.Common.{◌≡◌, ◌<◌, ℕ, List, [], ◌∷◌, ◌++◌, length, Option, Some, None, Bool, true, false, refl, sym, ap, subst, ◌∙◌, inl, inr, arith, length-append}
use Rattle.std.specs.Io.KnownBytes.{Consumes, IsAtEnd}
use Rattle.std.proofs.lemmas.List.{append_assoc, append-nil, append_cancel_right}
use Rattle.outside.specs.Streams.{SourceSeen, SinkSeen, Fits}
use Rattle.plain_world.specs.Words.{Words}
use Rattle.plain_world.specs.Spelling.{spelled}
use Rattle.plain_world.specs.declared.reply.Part.{Part}
use Rattle.resp_frames.specs.Frames.{Framed}
use Rattle.resp_frames.specs.Ends.{End, Whole, Cut, Fault, Frames}
use Rattle.resp_frames.proofs.Streams.{requests_first, framed_more, one_frames, fault_frames}
use Rattle.resp_frames.specs.declared.rule.Rule.{Rule}
use Rattle.serving.specs.declared.ending.Ended.{Ended}
use Rattle.serving.specs.declared.ending.Ended.TheVariants as endings
use Rattle.serving.specs.Served.{at_limit, take_fails, finds_end, EndsBy, CountsReads, AnswersPart, answered, quit, write_fault, no_memory, Served}
use Rattle.serving.specs.Path.{GoOn}
use Rattle.serving.specs.Exactly as exactly
use Rattle.serving.proofs.Wholes as wholes
use Rattle.serving.proofs.Wholes.{NoWriteFault, EndsWhole, ServesWhole}
use Rattle.serving.specs.Exactly.{ServesExactly, NoReadFault, EndsWell}

-- ---- from the states of an engine to what is seen of them

module _ {E F : Type 0} (P PC : List Words → List (List Part) → E → Type 0) (Q QC : List Words → List (List Part) → F → Type 0) (quits : Words → Bool)
    (see : E → F) (turn : (asked : List Words) (replies : List (List Part)) (last : E) → P asked replies last → Q asked replies (see last))
    (turn_cut : (asked : List Words) (replies : List (List Part)) (last : E) → PC asked replies last → QC asked replies (see last)) where
  -- a serving of an engine is one of what is seen of it
  pub served_as : (limit : ℕ) (i i1 : SourceSeen) (o o1 : SinkSeen) (last : E) (ended : Ended) → Served P PC quits limit i i1 o o1 last ended → Served Q QC quits limit i i1 o o1 (see last) ended
  served_as limit i i1 o o1 last ended s = record {
    taken = s.taken;
    took = s.took;
    few = s.few;
    asked = s.asked;
    end = s.end;
    frames = s.frames;
    ends = elim s.ends [
      | answered a by ↦ answered (record { replies = a.replies; may = turn s.asked a.replies last a.may; go_on = a.go_on; wrote = a.wrote }) by
      | quit a is ↦
          quit
          (record {
            front = a.front;
            quit = a.quit;
            others = a.others;
            split = a.split;
            go_on = a.go_on;
            ends_run = a.ends_run;
            replies = a.replies;
            may =
                turn (a.front ++ a.quit ∷ []) a.replies last a.may;
            wrote = a.wrote;
          }) is
      | write_fault a is ↦
          write_fault
          (record {
            some = a.some;
            others = a.others;
            split = a.split;
            replies = a.replies;
            may = turn_cut a.some a.replies last a.may;
            go_on = a.go_on;
            tail = a.tail;
            behind =
                a.behind;
            wrote = a.wrote;
          }) is
      | no_memory a is ↦ no_memory (record { some = a.some; others = a.others; split = a.split; go_on = a.go_on; replies = a.replies; last = see a.last; may = turn a.some a.replies a.last a.may; wrote = a.wrote }) is
    ];
    reads = s.reads;
    writes = s.writes;
  }

-- ---- the bytes taken and left

-- the bytes taken, where the input tells them
same_taken : (l l1 : Option (List ℕ)) (bytes rest taken taken' : List ℕ) → l ≡ Some bytes → l1 ≡ Some rest → Consumes l l1 taken → bytes ≡ taken' ++ rest → taken ≡ taken'
same_taken None l1 bytes rest taken taken' e f k h = cc
same_taken (Some xs) None bytes rest taken taken' e f k h = cc
same_taken (Some xs) (Some ys) bytes rest taken taken' e f k h =
    let a : xs ≡ bytes = cc in
    let b : ys ≡ rest = cc in
    append_cancel_right taken taken' rest (ap (λ l. taken ++ l) (sym b) ∙ sym k ∙ a ∙ h)

-- the bytes that are left, where the input tells them
record Left (bytes taken : List ℕ) (l1 : Option (List ℕ)) : Type 0 where
  rest : List ℕ
  is : l1 ≡ Some rest
  whole : bytes ≡ taken ++ rest

left_of : (l l1 : Option (List ℕ)) (bytes taken : List ℕ) → l ≡ Some bytes → Consumes l l1 taken → Left bytes taken l1
left_of None l1 bytes taken e k = cc
left_of (Some xs) None bytes taken e k = absurd k
left_of (Some xs) (Some ys) bytes taken e k = let a : xs ≡ bytes = cc in record { rest = ys; is = refl; whole = sym a ∙ k }

-- none of the requests ends the run, so that this one is none of them
not_among : (quits : Words → Bool) (front others : List Words) (words : Words) → GoOn quits ((front ++ words ∷ []) ++ others) → quits words ≡ true → ⊥
not_among quits [] others words go_on e = let a : true ≡ false = sym e ∙ go_on.0 in cc
not_among quits (first ∷ front) others words go_on e = not_among quits front others words go_on.1 e

-- bytes that end well have no other frames in which no request ends the run, but those that end after a whole one
ends_whole : (quits : Words → Bool) (bytes : List ℕ) (asked asked' : List Words) (end end' : End) → Frames bytes asked end → EndsWell quits asked end → Frames bytes asked' end'
    → GoOn quits asked' → end' ≡ Whole
ends_whole quits bytes asked asked' end end' a well b go_on =
    let one = one_frames bytes asked asked' end end' a b in
    elim well [
      | inl whole ↦ sym one.1 ∙ whole
      | inr has ↦ let G : List Words → Type 0 = GoOn quits in absurd (not_among quits has.front has.others has.quit (subst G has.split (subst G (sym one.0) go_on)) has.ends_run)
    ]

module _ {E : Type 0} (P PC : List Words → List (List Part) → E → Type 0) (quits : Words → Bool) (limit : ℕ) (i i1 : SourceSeen) (o o1 : SinkSeen) (last : E) (ended : Ended)
    (s : Served P PC quits limit i i1 o o1 last ended) where
  -- ---- when it ends in which way

  pub ends_exactly : ServesExactly quits limit i i1 ended
  ends_exactly bytes rest taken asked end e f whole frames =
      let same : s.taken ≡ taken = same_taken i.told i1.told bytes rest s.taken taken e f s.took whole in
      let F : List ℕ → Type 0 = λ t. Frames t s.asked s.end in
      let one = one_frames taken s.asked asked s.end end (subst F same s.frames) frames in
      elim s.ends [
        | answered a by ↦
            let P : List ℕ → Type 0 = λ t. EndsBy limit t s.end i1.told ended in
            let Q : End → Type 0 = λ x. EndsBy limit taken x i1.told ended in
            let R : Option (List ℕ) → Type 0 = λ x. EndsBy limit taken end x ended in
            exactly.answered (subst (λ l. GoOn quits l) one.0 a.go_on) (subst R f (subst Q one.1 (subst P same by)))
        | quit a is ↦ exactly.quit (record { front = a.front; quit = a.quit; others = a.others; split = sym one.0 ∙ a.split; go_on = a.go_on; ends_run = a.ends_run }) is
        | write_fault a is ↦ exactly.write_fault is
        | no_memory a is ↦ exactly.no_memory is
      ]

  -- ---- an input that is served whole

  module _ (bytes : List ℕ) (asked : List Words) (end : End) (left : Left bytes s.taken i1.told) (frames : Frames bytes asked end) (well : EndsWell quits asked end)
      (few : length bytes < limit) (no_read : NoReadFault i i1) where
    not_limit : length s.taken ≡ limit → ⊥
    not_limit e = omega (arith, ap length left.whole, length-append s.taken left.rest)

    not_failed : ended ≡ endings.ReadFault → ⊥
    not_failed is =
        let C : Ended → Type 0 = λ e. CountsReads i i1 e in
        let counts = subst C is s.reads in
        elim no_read [ inl sure ↦ counts.1 sure | inr none ↦ none counts.0 ]

    at_end_cut : IsAtEnd i1.told → Frames s.taken s.asked Cut → GoOn quits s.asked → ⊥
    at_end_cut at_end f go_on =
        let P : Option (List ℕ) → Type 0 = IsAtEnd in
        let none : left.rest ≡ [] = subst P left.is at_end in
        let same : s.taken ≡ bytes = sym (left.whole ∙ ap (λ l. s.taken ++ l) none ∙ append-nil s.taken) in
        let Q : List ℕ → Type 0 = λ t. Frames t s.asked Cut in
        let e = ends_whole quits bytes asked s.asked end Cut frames well (subst Q same f) go_on in cc

    no_fault : (rule : Rule) (at : ℕ) → Frames s.taken s.asked (Fault rule at) → GoOn quits s.asked → ⊥
    no_fault rule at f go_on =
        let P : List ℕ → Type 0 = λ t. Frames t s.asked (Fault rule at) in
        let e = ends_whole quits bytes asked s.asked end (Fault rule at) frames well (subst P (sym left.whole) (fault_frames s.taken left.rest s.asked rule at f)) go_on in cc

    by_completes : (found : End) → Frames s.taken s.asked found → GoOn quits s.asked → EndsBy limit s.taken found i1.told ended → EndsWhole ended
    by_completes Whole f go_on (at_limit e is) = absurd (not_limit e)
    by_completes Whole f go_on (take_fails e is) = absurd (not_failed is)
    by_completes Whole f go_on (finds_end e at_end is) = wholes.whole is
    by_completes Cut f go_on (at_limit e is) = absurd (not_limit e)
    by_completes Cut f go_on (take_fails e is) = absurd (not_failed is)
    by_completes Cut f go_on (finds_end e at_end is) = absurd (at_end_cut at_end f go_on)
    by_completes (Fault rule at) f go_on e = absurd (no_fault rule at f go_on)

    -- the requests that were taken are the first of all
    first_asked : (more : List Words) × (asked ≡ s.asked ++ more)
    first_asked =
        let P : List ℕ → Type 0 = λ l. Framed l s.frames.items (s.frames.rest ++ left.rest) in
        let r = requests_first bytes s.frames.items (s.frames.rest ++ left.rest) asked end
        (subst P (sym left.whole) (framed_more s.taken s.frames.rest left.rest s.frames.items s.frames.framed)) frames in
        (r.0, r.1 ∙ ap (λ l. l ++ r.0) s.frames.are)

    -- the line of a broken rule stands behind no reply
    no_tail : (a : AnswersPart P PC quits s.asked s.end o o1 last) → a.tail ≡ []
    no_tail a = elim a.behind [
      | inl none ↦ none
      | inr some ↦
          let F : End → Type 0 = λ e. Frames s.taken s.asked e in
          let G : List Words → Type 0 = GoOn quits in
          let all : a.some ≡ s.asked = sym (a.split ∙ ap (λ l. a.some ++ l) some.3 ∙ append-nil a.some) in
          absurd (no_fault some.0 some.1 (subst F some.2 s.frames) (subst G all some.4))
    ]

    put_completes : NoWriteFault PC quits asked o o1 → AnswersPart P PC quits s.asked s.end o o1 last → ⊥
    put_completes no_write a = elim no_write [
      | inl fit ↦
          let r = first_asked in
          let split : asked ≡ a.some ++ (a.others ++ r.0) = r.1 ∙ ap (λ l. l ++ r.0) a.split ∙ append_assoc a.some a.others r.0 in
          let F : List ℕ → Type 0 = λ l. Fits o.room (length l) in
          a.wrote.unsure (subst F (sym (ap (λ l. spelled a.replies ++ l) (no_tail a) ∙ append-nil (spelled a.replies))) (fit a.some (a.others ++ r.0) a.replies last split a.go_on a.may))
      | inr none ↦ none a.wrote.rose
    ]

  pub completes : ServesWhole PC quits limit i i1 o o1 ended
  completes bytes asked end e frames well few no_read no_write =
      let left = left_of i.told i1.told bytes s.taken e s.took in
      elim s.ends [
        | answered a by ↦ by_completes bytes asked end left frames well few no_read s.end s.frames a.go_on by
        | quit a is ↦ wholes.quit is
        | write_fault a is ↦ absurd (put_completes bytes asked end left frames well few no_read no_write a)
        | no_memory a is ↦ wholes.no_memory is
      ]
