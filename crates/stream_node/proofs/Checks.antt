-- What checking the entries of a node has passed, and what it ends with.
use Rattle.std.proofs.Common.{◌≡◌, ◌≢◌, Bool, true, false, ℕ, ◌+◌, ◌<◌, ◌≤◌, List, [], ◌∷◌, ◌++◌, length, refl, sym, ap, subst, ◌∙◌, arith, inl, inr}
use Rattle.std.specs.Prelude.{Option, Some, None, if◌then◌else◌}
use Rattle.std.proofs.lemmas.List.{length_push}
use mir.Val.{bool_byte}
use Rattle.stream_node.specs.declared.id.Id.{Id}
use Rattle.stream_node.specs.declared.head.Head.{Head}
use Rattle.stream_node.specs.declared.rest.Rest.{Rest}
use Rattle.stream_node.specs.declared.fault.NodeFault.{NodeFault}
use Rattle.stream_node.specs.declared.fault.NodeFault.TheVariants as faults
use Rattle.stream_node.specs.Entry.{Stored, IsEntry}
use Rattle.stream_node.specs.Node.{IsHead, IsAfter, Begins, marked, last_id, IsFault, IsBack}
use Rattle.stream_node.specs.Next.{IsEntryFault}
use Rattle.stream_node.specs.Entries.{IsNode}
use Rattle.stream_node.specs.Rest.{rest_of}
use Rattle.stream_node.specs.Reading.{master_of}
use Rattle.stream_node.specs.Walk.{IsWalk}
use Rattle.stream_node.proofs.Lists.{Texts}
use Rattle.stream_node.proofs.Marches.{begins_push, last_push, marked_push}
use Rattle.stream_node.proofs.ReadBack.{is_node}

-- so many entries stand behind the head, and so many of them are marked
pub record IsPassed (key : Id) (master : Texts) (list : Texts) (rest : Texts) (last : Option Id) (marks : ℕ) (count : ℕ) : Type 0 where
  pub entries : List Stored
  pub begins : Begins key master None list entries rest
  pub last_is : last ≡ last_id None entries
  pub marks_are : marks ≡ marked entries
  pub marks_few : marks ≤ count
  pub count_is : length entries ≡ count

pub none_passed : (key : Id) (master list : Texts) → IsPassed key master list list None 0 0
unfolding Begins last_id marked
none_passed key master list = record { entries = []; begins = refl; last_is = refl; marks_are = refl; marks_few = omega arith; count_is = refl }

pub one_passed : (key : Id) (master list rest behind : Texts) (last : Option Id) (marks count more : ℕ) (e : Stored)
    → IsPassed key master list rest last marks count → IsEntry key master rest e behind → IsAfter last e.id → more ≡ (if e.deleted then 1 else 0) → more ≤ 1
    → IsPassed key master list behind (Some e.id) (marks + more) (count + 1)
one_passed key master list rest behind last marks count more e p is after one few = record {
  entries = p.entries ++ e ∷ [];
  begins = begins_push key master list None p.entries e rest behind p.begins is (subst (λ (x : Option Id). IsAfter x e.id) p.last_is after);
  last_is = sym (last_push None p.entries e);
  marks_are = omega (arith, p.marks_are, one, marked_push p.entries e);
  marks_few = omega (arith, p.marks_few, few);
  count_is = omega (arith, p.count_is, length_push p.entries e);
}

-- a mark, as a number
pub marks_one : (n : ℕ) (b deleted : Bool) → n ≡ bool_byte b → b ≡ deleted → (n ≡ (if deleted then 1 else 0)) × (n ≤ 1)
marks_one n true deleted e f = (e ∙ ap (λ (x : Bool). if x then 1 else 0) f, omega (arith, e))
marks_one n false deleted e f = (e ∙ ap (λ (x : Bool). if x then 1 else 0) f, omega (arith, e))

-- an entry is due that isn't there
pub entry_fault : (key : Id) (master list rest : Texts) (last : Option Id) (marks count live deleted : ℕ) (f : NodeFault)
    → IsPassed key master list rest last marks count → count < live + deleted → IsEntryFault key master last rest f
    → (whole : Texts) → IsHead whole live deleted master list → IsFault key whole f
entry_fault key master list rest last marks count live deleted faults.Shape p due f whole head =
    inr (inl (
      record { live = live; deleted = deleted; master = master; behind = list; entries = p.entries; rest = rest; head = head; begins = p.begins },
      omega (arith, p.count_is, due),
      f.0,
      subst (λ (x : Option Id). IsBack key x rest → ⊥) p.last_is f.1,
    ))
entry_fault key master list rest last marks count live deleted faults.Count p due f whole head = absurd f
entry_fault key master list rest last marks count live deleted faults.Order p due f whole head = (
  record { live = live; deleted = deleted; master = master; behind = list; entries = p.entries; rest = rest; head = head; begins = p.begins },
  omega (arith, p.count_is, due),
  subst (λ (x : Option Id). IsBack key x rest) p.last_is f,
)

pub more_behind : (key : Id) (master list rest : Texts) (last : Option Id) (marks count live deleted : ℕ)
    → IsPassed key master list rest last marks count → count ≡ live + deleted → 0 < length rest
    → (whole : Texts) → IsHead whole live deleted master list → IsFault key whole faults.Shape
more_behind key master list rest last marks count live deleted p all some whole head =
    inr (inr (
      record { live = live; deleted = deleted; master = master; behind = list; entries = p.entries; rest = rest; head = head; begins = p.begins },
      p.count_is ∙ all,
      λ none. omega (arith, some, ap length none),
    ))

no_elements : (rest : Texts) → length rest ≡ 0 → rest ≡ []
no_elements [] e = refl
no_elements (x ∷ rest) e = absurd (omega arith)

pub other_marks : (key : Id) (master list rest : Texts) (last : Option Id) (marks count live deleted : ℕ)
    → IsPassed key master list rest last marks count → count ≡ live + deleted → length rest ≡ 0 → marks ≢ deleted
    → (whole : Texts) → IsHead whole live deleted master list → IsFault key whole faults.Count
other_marks key master list rest last marks count live deleted p all none differ whole head = (
  record { live = live; deleted = deleted; master = master; behind = list; entries = p.entries; rest = rest; head = head; begins = p.begins },
  p.count_is ∙ all,
  no_elements rest none,
  λ same. differ (p.marks_are ∙ same),
)

pub all_passed : (key : Id) (master list rest : Texts) (last : Option Id) (marks count live deleted : ℕ)
    → IsPassed key master list rest last marks count → count ≡ live + deleted → length rest ≡ 0 → marks ≡ deleted
    → (whole : Texts) → IsHead whole live deleted master list → IsNode key whole
all_passed key master list rest last marks count live deleted p all none same whole head =
    is_node key whole p.entries (record {
      live = live;
      deleted = deleted;
      master = master;
      behind = list;
      head = head;
      all_entries = subst (λ (x : Texts). Begins key master None list p.entries x) (no_elements rest none) p.begins;
      count = p.count_is ∙ all;
      marks = sym p.marks_are ∙ same;
    })

pub passed_walk : (key : Id) (head : Head) (first : Rest) (rest : Texts) (last : Option Id) (marks count : ℕ)
    → IsPassed key (master_of head) (rest_of first) rest last marks count → count ≡ head.live + head.deleted → length rest ≡ 0 → IsWalk key head (head.live + head.deleted) first
passed_walk key head first rest last marks count p all none = record {
  before = None;
  entries = p.entries;
  begins = subst (λ (x : Texts). Begins key (master_of head) None (rest_of first) p.entries x) (no_elements rest none) p.begins;
  count = p.count_is ∙ all;
}
