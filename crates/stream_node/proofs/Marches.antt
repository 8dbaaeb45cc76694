-- Entries one behind the other.
use Rattle.std.proofs.Common.{◌≡◌, ◌+◌, ◌<◌, List, [], ◌∷◌, ◌++◌, length, refl, sym, ap, subst, ◌∙◌, arith}
use Rattle.std.specs.Prelude.{Option, Some, if◌then◌else◌}
use Rattle.stream_node.specs.declared.id.Id.{Id}
use Rattle.stream_node.specs.Entry.{Stored, IsEntry}
use Rattle.stream_node.specs.Node.{IsAfter, Begins, marked, last_id, IsBack}
use Rattle.stream_node.proofs.Lists.{Texts}
use Rattle.stream_node.proofs.Same.{one_start, one_entry}

-- one entry more
pub begins_push : (key : Id) (master list : Texts) (before : Option Id) (es : List Stored) (e : Stored) (rest behind : Texts)
    → Begins key master before list es rest → IsEntry key master rest e behind → IsAfter (last_id before es) e.id → Begins key master before list (es ++ e ∷ []) behind
unfolding Begins last_id
begins_push key master list before [] e rest behind b entry after = (behind, subst (λ (x : Texts). IsEntry key master x e behind) (sym b) entry, after, refl)
begins_push key master list before (f ∷ es) e rest behind b entry after =
    (b.0, b.1, b.2, begins_push key master b.0 (Some f.id) es e rest behind b.3 entry after)

pub last_push : (before : Option Id) (es : List Stored) (e : Stored) → last_id before (es ++ e ∷ []) ≡ Some e.id
unfolding last_id
last_push before [] e = refl
last_push before (f ∷ es) e = last_push (Some f.id) es e

pub marked_push : (es : List Stored) (e : Stored) → marked (es ++ e ∷ []) ≡ marked es + (if e.deleted then 1 else 0)
unfolding marked
marked_push [] e = omega arith
marked_push (f ∷ es) e = omega (arith, marked_push es e)

-- as many entries, so the same ones
pub same_entries : (key : Id) (master list : Texts) (before : Option Id) (es fs : List Stored) (r t : Texts)
    → Begins key master before list es r → Begins key master before list fs t → length es ≡ length fs → (es ≡ fs) × (r ≡ t)
unfolding Begins
same_entries key master list before [] [] r t a b n = (refl, sym a ∙ b)
same_entries key master list before [] (f ∷ fs) r t a b n = absurd (omega (arith, n))
same_entries key master list before (e ∷ es) [] r t a b n = absurd (omega (arith, n))
same_entries key master list before (e ∷ es) (f ∷ fs) r t a b n =
    let one = one_entry key master list e f a.0 b.0 a.1 b.1 in
    let place = subst (λ (x : Option Id). Begins key master x b.0 fs t) (ap (λ (x : Stored). Some x.id) (sym one.0)) b.3 in
    let other = subst (λ (x : Texts). Begins key master (Some e.id) x fs t) (sym one.1) place in
    let more = same_entries key master a.0 (Some e.id) es fs r t a.3 other (omega (arith, n)) in
    (λ i. one.0 i ∷ more.0 i, more.1)

-- where there are more entries, one stands behind the fewer ones, and its id is above theirs
unfoldable pub Next : Id → Texts → Option Id → Texts → Type 0
Next key master before list = (e : Stored) × (behind : Texts) × IsEntry key master list e behind × IsAfter before e.id

pub goes_on : (key : Id) (master list : Texts) (before : Option Id) (es fs : List Stored) (r t : Texts)
    → Begins key master before list es r → Begins key master before list fs t → length es < length fs → Next key master (last_id before es) r
unfolding Begins last_id Next
goes_on key master list before [] [] r t a b n = absurd (omega (arith, n))
goes_on key master list before [] (f ∷ fs) r t a b n = (f, b.0, subst (λ (x : Texts). IsEntry key master x f b.0) a b.1, b.2)
goes_on key master list before (e ∷ es) [] r t a b n = absurd (omega (arith, n))
goes_on key master list before (e ∷ es) (f ∷ fs) r t a b n =
    let one = one_entry key master list e f a.0 b.0 a.1 b.1 in
    let place = subst (λ (x : Option Id). Begins key master x b.0 fs t) (ap (λ (x : Stored). Some x.id) (sym one.0)) b.3 in
    let other = subst (λ (x : Texts). Begins key master (Some e.id) x fs t) (sym one.1) place in
    goes_on key master a.0 (Some e.id) es fs r t a.3 other (omega (arith, n))

-- such an entry is no step back
pub not_back : (key : Id) (master list : Texts) (before : Option Id) → Next key master before list → IsBack key before list → ⊥
unfolding Next
not_back key master list before n back =
    let e = n.0 in
    let s = one_start key list e.deleted n.2.same back.0 back.1 e.id back.2 n.2.behind back.3 n.2.start back.4 in
    back.5 (subst (λ (x : Id). IsAfter before x) s.id n.3)
