use Rattle.std.proofs.Common.{◌≡◌, ℕ, List, sym, ap, subst, ◌∙◌}
use Rattle.std.specs.FinMap as map
use Rattle.stream_groups.specs.Consumers.{Name, bytes_of, names_of, Rise, IsAt, IsGap}
use Rattle.stream_groups.proofs.Gaps.{get_known, names_gap, rise_gap, put_known}
use Rattle.stream_groups.proofs.consumers.Consumers.add.Goals as goal

-- the gap is that of the name which was made
gap : (names here : List Name) (name : List ℕ) (at : ℕ) (made : Name) → here ≡ names → bytes_of made ≡ name → IsGap here name at → IsGap names (bytes_of made) at
gap names here name at made is same h = subst (λ xs. IsGap xs (bytes_of made) at) is (subst (λ n. IsGap here n at) (sym same) h)

pub invariant_of-self-in-Err : goal.invariant_of-self-in-Err
invariant_of-self-in-Err c = subst Rise (sym c.in_ok-insert-in-Err.ensures.items) (rise_gap c.self.inside.names.items c.in_ok-clone-in-Err.field-0 c.in-Err.at c.self.invariant
    (gap c.self.inside.names.items c.deref.result.now c.args.name.now c.in-Err.at c.in_ok-clone-in-Err.field-0 c.deref.ensures.value
    (ap (λ v. v.items) (c.in_ok-clone-in-Err.ensures.cases ∙ c.in_ok-known-in-Err.ensures.ok) ∙ c.in_ok-from_slice-in-Err.ensures.items) c.in-Err.ensures.absent))

pub returns-in_ok-clone-in-Ok-clause-ok : goal.returns-in_ok-clone-in-Ok-clause-ok
returns-in_ok-clone-in-Ok-clause-ok c = sym
    (put_known c.args.self.now c.args.name.now
    (get_known c.self.inside.names.items c.args.self.now c.args.name.now c.in-Ok.at c.self.invariant c.self.view_is
    (subst (λ xs. IsAt xs c.args.name.now c.in-Ok.at) c.deref.ensures.value c.in-Ok.ensures.found)))

pub returns-in_ok-insert-in-Err-clause-ok : goal.returns-in_ok-insert-in-Err-clause-ok
returns-in_ok-insert-in-Err-clause-ok c =
    let same : bytes_of c.in_ok-clone-in-Err.field-0 ≡ c.args.name.now = ap (λ v. v.items) (c.in_ok-clone-in-Err.ensures.cases ∙ c.in_ok-known-in-Err.ensures.ok)
    ∙ c.in_ok-from_slice-in-Err.ensures.items in
    ap names_of c.in_ok-insert-in-Err.ensures.items
    ∙ names_gap c.self.inside.names.items c.in_ok-clone-in-Err.field-0 c.in-Err.at c.self.invariant
    (gap c.self.inside.names.items c.deref.result.now c.args.name.now c.in-Err.at c.in_ok-clone-in-Err.field-0 c.deref.ensures.value same c.in-Err.ensures.absent)
    ∙ ap (λ m. map.insert m (bytes_of c.in_ok-clone-in-Err.field-0) tt) c.self.view_is
    ∙ ap (λ n. map.insert c.args.self.now n tt) same
