use Rattle.std.proofs.Common.{◌≡◌, ◌∙◌, ℕ, List, ◌++◌, ◌+◌, ◌-◌, length, [], refl, sym, ap, arith, append_assoc, append-nil}
use Rattle.rehash_dict.specs.Sides.{side_rows}
use Rattle.rehash_dict.specs.Scan.{bits_of, smaller_of, larger_of, walk}
use Rattle.rehash_dict.proofs.Turns.{extends_on, extends_same}
use Rattle.rehash_dict.proofs.Scans.{ordered}
use Rattle.rehash_dict.proofs.Scanning.{turn_last, turn_more, walk_none}
use Rattle.rehash_dict.proofs.scan.push_larger.Goals as goal

pub returns-then-next-between-eq0-clause-found : goal.returns-then-next-between-eq0-clause-found
returns-then-next-between-eq0-clause-found g c =
    let h = c.args.chains.now in
    let last = turn_last h.items h.older h.newer c.requires.stand c.requires.older c.requires.newer (side_rows c.smaller.result h) (side_rows c.larger-side.result h) c.smaller.ensures
    c.larger-side.ensures c.buckets.result c.buckets-buckets.result c.loop.next c.in_ok-next.next c.buckets.ensures c.buckets-buckets.ensures c.in_ok-next.ensures.next
    (c.buckets-buckets.result - c.loop.counter) (omega (arith, c.loop-test.true)) c.if-next-between-eq0.true in
    c.in_ok-next.ensures.found ∙ ap (λ r. c.loop.found.items ++ r.0) (sym last) ∙ c.loop.invariant.all

pub returns-then-next-between-eq0-clause-next : goal.returns-then-next-between-eq0-clause-next
returns-then-next-between-eq0-clause-next g c =
    let h = c.args.chains.now in
    let last = turn_last h.items h.older h.newer c.requires.stand c.requires.older c.requires.newer (side_rows c.smaller.result h) (side_rows c.larger-side.result h) c.smaller.ensures
    c.larger-side.ensures c.buckets.result c.buckets-buckets.result c.loop.next c.in_ok-next.next c.buckets.ensures c.buckets-buckets.ensures c.in_ok-next.ensures.next
    (c.buckets-buckets.result - c.loop.counter) (omega (arith, c.loop-test.true)) c.if-next-between-eq0.true in
    ap (λ r. r.1) (sym last) ∙ c.loop.invariant.end

pub returns-then-next-between-eq0-clause-kept : goal.returns-then-next-between-eq0-clause-kept
returns-then-next-between-eq0-clause-kept g c = extends_on _ _ _ c.loop.invariant.kept c.in_ok-next.ensures.kept

pub loop-preserved : goal.loop-preserved
loop-preserved g c =
    let h = c.args.chains.now in
    let on = turn_more h.items h.older h.newer c.requires.stand c.requires.older c.requires.newer (side_rows c.smaller.result h) (side_rows c.larger-side.result h) c.smaller.ensures
    c.larger-side.ensures c.buckets.result c.buckets-buckets.result c.loop.next c.in_ok-next.next c.buckets.ensures c.buckets-buckets.ensures c.in_ok-next.ensures.next
    (c.buckets-buckets.result - c.loop.counter) (c.buckets-buckets.result - (c.loop.counter + 1)) (omega (arith, c.loop-test.true)) (omega arith) c.if-next-between-eq0.false in
    record {
      all = ap
          (λ l. l ++
          (walk (larger_of h.older h.newer) (bits_of (length (smaller_of h.older h.newer))) (bits_of (length (larger_of h.older h.newer))) (c.buckets-buckets.result - (c.loop.counter + 1))
          c.in_ok-next.next).0) c.in_ok-next.ensures.found ∙ append_assoc c.loop.found.items _ _ ∙ ap (λ r. c.loop.found.items ++ r.0) (sym on) ∙ c.loop.invariant.all;
      end = ap (λ r. r.1) (sym on) ∙ c.loop.invariant.end;
      kept = extends_on _ _ _ c.loop.invariant.kept c.in_ok-next.ensures.kept;
    }

pub returns-clause-found : goal.returns-clause-found
returns-clause-found g c =
    let h = c.args.chains.now in
    let none : c.buckets-buckets.result - c.loop.counter ≡ 0 = omega (arith, c.loop-test.false) in
    let rest :
    (walk (larger_of h.older h.newer) (bits_of (length (smaller_of h.older h.newer))) (bits_of (length (larger_of h.older h.newer))) (c.buckets-buckets.result - c.loop.counter)
    c.loop.next).0 ≡ []
    = ap (λ n. (walk (larger_of h.older h.newer) (bits_of (length (smaller_of h.older h.newer))) (bits_of (length (larger_of h.older h.newer))) n c.loop.next).0) none
    ∙ ap (λ r. r.0) (walk_none (larger_of h.older h.newer) _ _ 0 c.loop.next) in
    sym (append-nil c.loop.found.items) ∙ ap (λ r. c.loop.found.items ++ r) (sym rest) ∙ c.loop.invariant.all

pub returns-clause-next : goal.returns-clause-next
returns-clause-next g c =
    let h = c.args.chains.now in
    let none : c.buckets-buckets.result - c.loop.counter ≡ 0 = omega (arith, c.loop-test.false) in
    let rest :
    (walk (larger_of h.older h.newer) (bits_of (length (smaller_of h.older h.newer))) (bits_of (length (larger_of h.older h.newer))) (c.buckets-buckets.result - c.loop.counter)
    c.loop.next).1 ≡ c.loop.next
    = ap (λ n. (walk (larger_of h.older h.newer) (bits_of (length (smaller_of h.older h.newer))) (bits_of (length (larger_of h.older h.newer))) n c.loop.next).1) none
    ∙ ap (λ r. r.1) (walk_none (larger_of h.older h.newer) _ _ 0 c.loop.next) in
    sym rest ∙ c.loop.invariant.end

pub overflow_sub-between : goal.overflow_sub-between
overflow_sub-between g c =
    let h = c.args.chains.now in
    omega (arith, c.buckets.ensures, ap length c.smaller.ensures, (ordered h.items h.older h.newer c.requires.stand c.requires.older c.requires.newer).some)

pub overflow_sub-between-2 : goal.overflow_sub-between-2
overflow_sub-between-2 g c =
    let h = c.args.chains.now in
    let order = ordered h.items h.older h.newer c.requires.stand c.requires.older c.requires.newer in
    omega (arith, c.buckets-buckets.ensures, ap length c.larger-side.ensures, order.some, order.order)

pub loop-init : goal.loop-init
loop-init g c =
    let h = c.args.chains.now in
    let many : c.buckets-buckets.result - 0 ≡ length (larger_of h.older h.newer) = omega (arith, c.buckets-buckets.ensures, ap length c.larger-side.ensures) in
    let on : ℕ → List ℕ × ℕ = λ n. walk (larger_of h.older h.newer) (bits_of (length (smaller_of h.older h.newer))) (bits_of (length (larger_of h.older h.newer))) n c.args.cursor in
    record {
      all = ap (λ n. c.args.found.now.items ++ (on n).0) many;
      end = ap (λ n. (on n).1) many;
      kept = extends_same c.args.found.now.items c.args.found.now.items refl;
    }

pub push_bucket-requires-clause-table : goal.push_bucket-requires-clause-table
push_bucket-requires-clause-table g c =
    let h = c.args.chains.now in
    let order = ordered h.items h.older h.newer c.requires.stand c.requires.older c.requires.newer in
    omega (arith, ap length c.larger-side.ensures, order.some, order.order)

pub returns-in_err-next-clause-kept : goal.returns-in_err-next-clause-kept
returns-in_err-next-clause-kept g c = extends_on _ _ _ c.loop.invariant.kept c.in_err-next.ensures.kept

pub returns-clause-kept : goal.returns-clause-kept
returns-clause-kept g c = c.loop.invariant.kept
