use Rattle.std.proofs.Common.{◌≡◌, ◌≤◌, ◌<◌, ◌++◌, ◌∷◌, [], ℕ, Option, Some, None, length, nat_le, false, true, refl, sym, ap, ◌∙◌, subst, arith, length-append}
use Rattle.std.proofs.lemmas.Bool.{lt-leb}
use Rattle.std.proofs.lemmas.Bool.Decides.{nat_tests}
use Rattle.std.proofs.lemmas.List.{append-nil}
use Rattle.rehash_dict.specs.Scan.{scanned}
use Rattle.expiry.proofs.Gathering.{todo, Gathers, spans_of, met_there, item_there, left_less, more, whole_found, over_found, over_many, gone_yes, gone_no}
use Rattle.expiry.proofs.deadlines.gather.Goals.{then-deadline-moment+else-is_full, else-deadline-moment}
use Rattle.expiry.proofs.deadlines.gather.Goals as goal

none_of : (o : Option ℕ) → ((x : ℕ) → o ≡ Some x → ⊥) → o ≡ None
none_of None h = refl
none_of (Some x) h = absurd (h x refl)

tells : (n : ℕ) → true ≡ nat_le 16 n → 16 ≤ n
tells n h = grind (arith, nat_tests)

under : (n : ℕ) → false ≡ nat_le 16 n → n < 16
under n h = grind (arith, nat_tests)

pub entry-requires : goal.entry-requires
entry-requires c =
    let t = c.args.table.now in
    item_there t c.args.moment (scanned t.older t.newer c.args.cursor).0 c.args.cursor (scanned t.older t.newer c.args.cursor).1 c.in-Some.at c.loop-next.found
    (spans_of t c.args.cursor c.len-len.ensures.placed)
    (subst (λ o. Gathers t c.args.moment (scanned t.older t.newer c.args.cursor).0 o c.loop-next.found) c.in-Some.is c.loop-next.invariant)

pub returns-then-is_full-clause-found : goal.returns-then-is_full-clause-found
returns-then-is_full-clause-found c =
    let t = c.args.table.now in
    over_found t c.args.moment (scanned t.older t.newer c.args.cursor).0 c.in-Some.at c.loop-next.found _ _
    (subst (λ o. Gathers t c.args.moment (scanned t.older t.newer c.args.cursor).0 o c.loop-next.found) c.in-Some.is c.loop-next.invariant) c.entry.ensures c.if-deadline-moment.true
    (tells _ c.if-is_full.ensures.value)

pub returns-then-is_full-clause-all : goal.returns-then-is_full-clause-all
returns-then-is_full-clause-all c =
    let t = c.args.table.now in
    sym
    (lt-leb _ _
    (over_many t c.args.moment (scanned t.older t.newer c.args.cursor).0 c.in-Some.at c.loop-next.found _ _
    (subst (λ o. Gathers t c.args.moment (scanned t.older t.newer c.args.cursor).0 o c.loop-next.found) c.in-Some.is c.loop-next.invariant) c.entry.ensures c.if-deadline-moment.true
    (tells _ c.if-is_full.ensures.value)))

pub returns-then-is_full-clause-spans : goal.returns-then-is_full-clause-spans
returns-then-is_full-clause-spans c = spans_of c.args.table.now c.args.cursor c.len-len.ensures.placed

pub scan_after-next-requires : goal.scan_after-next-requires
scan_after-next-requires c =
    let t = c.args.table.now in
    met_there t c.args.moment (scanned t.older t.newer c.args.cursor).0 c.in-Some.at c.loop-next.found
    (subst (λ o. Gathers t c.args.moment (scanned t.older t.newer c.args.cursor).0 o c.loop-next.found) c.in-Some.is c.loop-next.invariant)

pub loop-next-smaller : goal.loop-next-smaller
loop-next-smaller c =
    let t = c.args.table.now in
    let xs = (scanned t.older t.newer c.args.cursor).0 in
    let g = subst (λ o. Gathers t c.args.moment xs o c.loop-next.found) c.in-Some.is c.loop-next.invariant in
    subst (λ o. length (todo c.scan_after-next.result xs) < length (todo o xs)) (sym c.in-Some.is)
    (left_less t c.args.moment xs c.in-Some.at c.scan_after-next.result c.loop-next.found (spans_of t c.args.cursor c.len-len.ensures.placed).once g c.scan_after-next.ensures)

pub loop-next-preserved : goal.loop-next-preserved
loop-next-preserved c =
    let t = c.args.table.now in
    let xs = (scanned t.older t.newer c.args.cursor).0 in
    let g = subst (λ o. Gathers t c.args.moment xs o c.loop-next.found) c.in-Some.is c.loop-next.invariant in
    let once = (spans_of t c.args.cursor c.len-len.ensures.placed).once in
    elim c.if-deadline-moment.branch [
      | then-deadline-moment+else-is_full w ↦
          (let few : length c.loop-next.found < 16 = under _ w.if-is_full.ensures.value in
          let pushed = w.found-is ∙ w.push.ensures in
          more t c.args.moment xs c.in-Some.at c.scan_after-next.result c.loop-next.found c.if-deadline-moment.found once g c.scan_after-next.ensures
          (pushed ∙ ap (λ l. c.loop-next.found ++ l) (sym (gone_yes t c.args.moment c.in-Some.at c.entry.result.0 c.entry.result.1.now c.entry.ensures w.if-deadline-moment.true)))
          (omega (arith, ap length pushed, length-append c.loop-next.found (c.entry.result.0 ∷ []))))
      | else-deadline-moment w ↦
          more t c.args.moment xs c.in-Some.at c.scan_after-next.result c.loop-next.found c.if-deadline-moment.found once g c.scan_after-next.ensures
          (w.found-is ∙ sym (append-nil c.loop-next.found) ∙ ap (λ l. c.loop-next.found ++ l)
          (sym (gone_no t c.args.moment c.in-Some.at c.entry.result.0 c.entry.result.1.now c.entry.ensures w.if-deadline-moment.false)))
          (omega (arith, ap length w.found-is, c.loop-next.invariant.few))
    ]

pub returns-clause-found : goal.returns-clause-found
returns-clause-found c = whole_found c.args.table.now c.args.moment (scanned c.args.table.now.older c.args.table.now.newer c.args.cursor).0 c.loop-next.next c.loop-next.found
    c.loop-next.invariant c.in_default.is

pub returns-clause-spans : goal.returns-clause-spans
returns-clause-spans c = spans_of c.args.table.now c.args.cursor c.len-len.ensures.placed
