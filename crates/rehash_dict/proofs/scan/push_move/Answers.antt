use Rattle.std.proofs.Common.{◌≡◌, ◌∙◌, ◌++◌, OnOk, IfOk, length, sym, ap, subst, arith, append_assoc, append-nil}
use Rattle.rehash_dict.specs.Scan.{bits_of, turn, walked_over}
use Rattle.rehash_dict.proofs.Scans.{no_move}
use Rattle.rehash_dict.proofs.Scanning.{scanned_one, scanned_two}
use Rattle.rehash_dict.proofs.scan.push_move.Goals as goal

pub returns-then-buckets-eq0-clause-found : goal.returns-then-buckets-eq0-clause-found
returns-then-buckets-eq0-clause-found g c =
    sym (append-nil c.args.found.now.items) ∙ ap (λ q. c.args.found.now.items ++ q.0)
    (sym (no_move c.args.chains.now.older c.args.chains.now.newer c.args.cursor (omega (arith, c.buckets.ensures, c.if-buckets-eq0.true))))

pub returns-then-buckets-eq0-clause-next : goal.returns-then-buckets-eq0-clause-next
returns-then-buckets-eq0-clause-next g c = ap (λ q. q.1) (sym (no_move c.args.chains.now.older c.args.chains.now.newer c.args.cursor (omega (arith, c.buckets.ensures, c.if-buckets-eq0.true))))

pub returns-then-buckets-eq0-2-clause-found : goal.returns-then-buckets-eq0-2-clause-found
returns-then-buckets-eq0-2-clause-found g c =
    subst (λ q. OnOk c.push_bucket.result (c.push_bucket.new.found.items ≡ c.args.found.now.items ++ q.0))
    (sym
    (scanned_one c.args.chains.now.older c.args.chains.now.newer c.args.cursor (omega (arith, c.buckets.ensures, c.if-buckets-eq0.false))
    (omega (arith, c.buckets-2.ensures, c.if-buckets-eq0-2.true)))) c.push_bucket.ensures.found

pub returns-then-buckets-eq0-2-clause-next : goal.returns-then-buckets-eq0-2-clause-next
returns-then-buckets-eq0-2-clause-next g c =
    subst (λ q. IfOk c.push_bucket.result (λ next. next ≡ q.1))
    (sym
    (scanned_one c.args.chains.now.older c.args.chains.now.newer c.args.cursor (omega (arith, c.buckets.ensures, c.if-buckets-eq0.false))
    (omega (arith, c.buckets-2.ensures, c.if-buckets-eq0-2.true)))) c.push_bucket.ensures.next

pub returns-clause-found : goal.returns-clause-found
returns-clause-found g c =
    let two = scanned_two c.args.chains.now.older c.args.chains.now.newer c.args.cursor (omega (arith, c.buckets.ensures, c.if-buckets-eq0.false))
    (omega (arith, c.buckets-2.ensures, c.if-buckets-eq0-2.false)) in
    let first = c.in_ok-push_bucket.ensures.found ∙ ap (λ r. c.args.found.now.items ++ turn r (bits_of (length r)) c.args.cursor) c.smaller.ensures in
    subst (λ l. OnOk c.push_larger.result (c.push_larger.new.found.items ≡ l))
    (ap (λ l. l ++ (walked_over c.args.chains.now.older c.args.chains.now.newer c.args.cursor).0) first ∙ append_assoc c.args.found.now.items _ _ ∙ ap (λ q. c.args.found.now.items ++ q.0) (sym two))
    c.push_larger.ensures.found

pub returns-clause-next : goal.returns-clause-next
returns-clause-next g c =
    subst (λ q. IfOk c.push_larger.result (λ next. next ≡ q.1))
    (sym
    (scanned_two c.args.chains.now.older c.args.chains.now.newer c.args.cursor (omega (arith, c.buckets.ensures, c.if-buckets-eq0.false))
    (omega (arith, c.buckets-2.ensures, c.if-buckets-eq0-2.false)))) c.push_larger.ensures.next
