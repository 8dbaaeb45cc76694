use Rattle.std.proofs.Common.{◌≡◌, ◌∙◌, ◌+◌, List, refl, length, map, take, sym, ap, subst, ℕ, arith}
use Rattle.std.specs.Prelude.{slice_get}
use Rattle.std.specs.FinMap.{values}
use Rattle.std.proofs.lemmas.List.{length_push}
use Rattle.told_values.specs.declared.groups.ToldPending.{ToldPending}
use Rattle.told_values.specs.Told.{pending_told}
use Rattle.told_values.specs.Reading.{pending_in}
use Rattle.told_values.proofs.Grouped.{Comes, all_read, comes_first, comes_next, consumer_there, none_comes, pending_more}
use Rattle.told_values.proofs.groups.read_pending.Goals as goal

pub entries-init : goal.entries-init
entries-init c =
    let found = slice_get (values c.args.stream.now.groups) c.args.at in
    record {
      next = subst (λ (told : List ToldPending). Comes found (length told) c.pending_after-next.result) (sym c.new-told.ensures.items)
          (comes_first found c.pending_after-next.result c.pending_after-next.ensures);
      so_far = subst (λ (told : List ToldPending). map pending_told told ≡ take (length told) (pending_in found)) (sym c.new-told.ensures.items) refl;
    }

pub read_one-requires : goal.read_one-requires
read_one-requires c =
    let found = slice_get (values c.args.stream.now.groups) c.args.at in
    consumer_there found (length c.entries.told.items) c.in-Some.entry (subst (λ next. Comes found (length c.entries.told.items) next) c.in-Some.is c.entries.invariant.next)

pub entries-preserved : goal.entries-preserved
entries-preserved c =
    let found = slice_get (values c.args.stream.now.groups) c.args.at in
    let told = c.entries.told.items in
    let now = subst (λ next. Comes found (length told) next) c.in-Some.is c.entries.invariant.next in
    let pending = c.in_ok-pending.pending in
    let both = pending_more found (length told) c.in-Some.entry told pending now c.in_ok-pending.ensures c.entries.invariant.so_far in
    let more : length c.push.new.self.items ≡ length told + 1 = ap length c.in_ok-push.ensures.items ∙ length_push told pending in
    record {
      next = subst (λ (k : ℕ). Comes found k c.pending_after-next-in-Some.result) (sym more)
          (comes_next found (length told) c.in-Some.entry c.pending_after-next-in-Some.result now c.pending_after-next-in-Some.ensures);
      so_far = ap (map pending_told) c.in_ok-push.ensures.items ∙ both.0 ∙ ap (λ (k : ℕ). take k (pending_in found)) (sym more);
    }

pub entries-smaller : goal.entries-smaller
entries-smaller c =
    let found = slice_get (values c.args.stream.now.groups) c.args.at in
    let told = c.entries.told.items in
    let now = subst (λ next. Comes found (length told) next) c.in-Some.is c.entries.invariant.next in
    let pending = c.in_ok-pending.pending in
    let both = pending_more found (length told) c.in-Some.entry told pending now c.in_ok-pending.ensures c.entries.invariant.so_far in
    let more : length c.push.new.self.items ≡ length told + 1 = ap length c.in_ok-push.ensures.items ∙ length_push told pending in
    omega (arith, more, both.1)

pub returns : goal.returns
returns c =
    let found = slice_get (values c.args.stream.now.groups) c.args.at in
    let told = c.entries.told.items in
    c.entries.invariant.so_far ∙ all_read (pending_in found) (length told) (none_comes found (length told) c.entries.next c.in_default.is c.entries.invariant.next)
