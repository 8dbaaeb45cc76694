use Rattle.std.proofs.Common.{◌≤◌, length, sym, ap, subst}
use Rattle.rev_cursor.specs.Span.{Span}
use Rattle.rehash_dict.specs.Table.{item}
use Rattle.rehash_dict.specs.ScanPlaces.{place_in}
use Rattle.rehash_dict.specs.Scan.{scanned}
use Rattle.expiry.specs.Found.{gone_in, move_of, AreGone, NameAllGone}
use Rattle.expiry.proofs.Finding.{found_gone, names_all}
use Rattle.expiry.proofs.deadlines.Deadlines.cycle.Goals as goal

pub returns-then-gather-clause-spans : goal.returns-then-gather-clause-spans
returns-then-gather-clause-spans c = subst (λ d. Span (λ at. place_in (item d.table at)) d.cursor (move_of d).1 (move_of d).0) c.self.view_is c.gather.ensures.spans

pub returns-else-gather-clause-spans : goal.returns-else-gather-clause-spans
returns-else-gather-clause-spans c = subst (λ d. Span (λ at. place_in (item d.table at)) d.cursor (move_of d).1 (move_of d).0) c.self.view_is c.gather.ensures.spans

pub returns-then-gather-clause-gone : goal.returns-then-gather-clause-gone
returns-then-gather-clause-gone c =
    let d = c.self.inside in
    subst (λ t. AreGone t c.args.moment c.gather.new.found) (ap (λ x. x.table) c.self.view_is)
    (subst (AreGone d.table c.args.moment) (sym c.gather.ensures.found) (found_gone d.table c.args.moment (scanned d.table.older d.table.newer d.cursor).0 16))

pub returns-else-gather-clause-gone : goal.returns-else-gather-clause-gone
returns-else-gather-clause-gone c =
    let d = c.self.inside in
    subst (λ t. AreGone t c.args.moment c.gather.new.found) (ap (λ x. x.table) c.self.view_is)
    (subst (AreGone d.table c.args.moment) (sym c.gather.ensures.found) (found_gone d.table c.args.moment (scanned d.table.older d.table.newer d.cursor).0 16))

pub returns-then-gather-clause-whole : goal.returns-then-gather-clause-whole
returns-then-gather-clause-whole c =
    let d = c.self.inside in
    subst (λ x. length (gone_in x c.args.moment) ≤ 16 → NameAllGone x.table c.args.moment x.cursor c.scan_end-self-inside.result c.gather.new.found) c.self.view_is
    (λ few. subst (λ next. NameAllGone d.table c.args.moment d.cursor next c.gather.new.found) (sym c.scan_end-self-inside.ensures)
    (subst (NameAllGone d.table c.args.moment d.cursor (scanned d.table.older d.table.newer d.cursor).1) (sym c.gather.ensures.found)
    (names_all d.table c.args.moment d.cursor (scanned d.table.older d.table.newer d.cursor).1 (scanned d.table.older d.table.newer d.cursor).0 c.gather.ensures.spans few)))
