-- Walks over entries.
use Rattle.std.proofs.Common.{◌≡◌, ℕ, zero, suc, ◌+◌, ◌-◌, ◌<◌, List, [], ◌∷◌, length, refl, ap, subst, ◌∙◌, arith}
use Rattle.std.specs.Prelude.{Option, Some, None}
use Rattle.stream_node.specs.declared.id.Id.{Id}
use Rattle.stream_node.specs.declared.head.Head.{Head}
use Rattle.stream_node.specs.declared.rest.Rest.{Rest}
use Rattle.stream_node.specs.declared.fault.NodeFault.{NodeFault}
use Rattle.stream_node.specs.declared.fault.NodeFault.TheVariants as faults
use Rattle.stream_node.specs.Entry.{Stored, IsEntry}
use Rattle.stream_node.specs.Node.{IsHead, Begins, Node}
use Rattle.stream_node.specs.Next.{IsEntryFault}
use Rattle.stream_node.specs.Entries.{entries_from, behind_entry}
use Rattle.stream_node.specs.Rest.{rest_of}
use Rattle.stream_node.specs.Reading.{master_of}
use Rattle.stream_node.specs.Walk.{IsWalk}
use Rattle.stream_node.proofs.Lists.{Texts}
use Rattle.stream_node.proofs.Same.{one_entry}
use Rattle.stream_node.proofs.ReadBack.{reads_first}
use Rattle.stream_node.proofs.OneNode.{one_head}

pub length-entries_from : (key : Id) (master : Texts) (n : ℕ) (list : Texts) → length (entries_from key master n list) ≡ n
unfolding entries_from
length-entries_from key master zero list = refl
length-entries_from key master (suc n) list = omega (arith, length-entries_from key master n (behind_entry master list))

pub none_left : (key : Id) (master : Texts) (n : ℕ) (list : Texts) → n ≡ 0 → entries_from key master n list ≡ []
unfolding entries_from
none_left key master zero list e = refl
none_left key master (suc n) list e = absurd (omega arith)

pub one_read : (key : Id) (master list : Texts) (n : ℕ) (e : Stored) (rest : Texts) → 0 < n → IsEntry key master list e rest
    → entries_from key master n list ≡ e ∷ entries_from key master (n - 1) rest
one_read key master list n e rest some is =
    let same : n ≡ suc (n - 1) = omega arith in
    ap (λ (k : ℕ). entries_from key master k list) same ∙ reads_first key master list (n - 1) e rest is

-- the entry that a walk with some left begins with
walk_first : (key : Id) (master list : Texts) (before : Option Id) (es : List Stored) → Begins key master before list es [] → 0 < length es → (e : Stored) × (rest : Texts)
    × IsEntry key master list e rest
unfolding Begins
walk_first key master list before [] b some = absurd (omega arith)
walk_first key master list before (e ∷ es) b some = (e, b.0, b.1)

pub no_fault : (key : Id) (head : Head) (left : ℕ) (rest : Rest) → 0 < left → (f : NodeFault) → IsEntryFault key (master_of head) None (rest_of rest) f → IsWalk key head left rest → ⊥
no_fault key head left rest some faults.Shape f w =
    let one = walk_first key (master_of head) (rest_of rest) w.before w.entries w.begins (omega (arith, some, w.count)) in
    f.0 one.0 one.1 one.2
no_fault key head left rest some faults.Count f w = f
no_fault key head left rest some faults.Order f w = f.5 tt

-- what is left behind an entry
begins_behind : (key : Id) (master list : Texts) (before : Option Id) (es : List Stored) (e : Stored) (rest : Texts) → Begins key master before list es [] → 0 < length es
    → IsEntry key master list e rest
    → (more : List Stored) × Begins key master (Some e.id) rest more [] × (length es ≡ suc (length more))
unfolding Begins
begins_behind key master list before [] e rest b some is = absurd (omega arith)
begins_behind key master list before (d ∷ es) e rest b some is =
    let one = one_entry key master list d e b.0 rest b.1 is in
    (es, subst (λ (x : Stored). Begins key master (Some x.id) rest es []) one.0 (subst (λ (x : Texts). Begins key master (Some d.id) x es []) one.1 b.3), refl)

pub walk_on : (key : Id) (head : Head) (left : ℕ) (rest behind : Rest) (e : Stored) → 0 < left → IsEntry key (master_of head) (rest_of rest) e (rest_of behind) → IsWalk key head left rest
    → IsWalk key head (left - 1) behind
walk_on key head left rest behind e some is w =
    let more = begins_behind key (master_of head) (rest_of rest) w.before w.entries e (rest_of behind) w.begins (omega (arith, some, w.count)) is in
    record { before = Some e.id; entries = more.0; begins = more.1; count = omega (arith, w.count, more.2) }

-- the walk over all entries of a node, behind the head that was read
pub node_walk : (key : Id) (list : Texts) (head : Head) (first : Rest) (es : List Stored) → Node key list es → IsHead list head.live head.deleted (master_of head) (rest_of first)
    → IsWalk key head (head.live + head.deleted) first
node_walk key list head first es n h =
    let same = one_head list n.live n.deleted head.live head.deleted n.master n.behind (master_of head) (rest_of first) n.head h in
    let here = subst (λ (x : Texts). Begins key x None n.behind es []) same.master_same n.all_entries in
    record {
      before = None;
      entries = es;
      begins = subst (λ (x : Texts). Begins key (master_of head) None x es []) same.rest_same here;
      count = omega (arith, n.count, same.live_same, same.deleted_same);
    }
