-- What reading an entry finds.
use Rattle.std.proofs.Common.{◌≡◌, Bool, true, subst}
use Rattle.std.specs.Prelude.{Option, IsTrue, ◌↔◌}
use Rattle.stream_node.specs.declared.id.Id.{Id}
use Rattle.stream_node.specs.Entry.{IsStart, IsBody}
use Rattle.stream_node.specs.Node.{IsAfter, IsBack, LacksEntry}
use Rattle.stream_node.specs.Reading.{LacksStart, LacksBody}
use Rattle.stream_node.proofs.Lists.{Texts}
use Rattle.stream_node.proofs.Same.{one_start}

-- no start, so no entry, and none whose id is too low
pub lacks_start : (key : Id) (master list : Texts) (before : Option Id) → LacksStart key list → LacksEntry key master list × (IsBack key before list → ⊥)
lacks_start key master list before none = (λ entry rest e. none entry.deleted e.same entry.id e.behind e.start, λ back. none back.0 back.1 back.2 back.3 back.4)

lacks_its_body : (key : Id) (master list behind : Texts) (deleted same : Bool) (id : Id) → IsStart key list deleted same id behind → LacksBody same master behind → LacksEntry key master list
lacks_its_body key master list behind deleted same id start none entry rest e =
    let s = one_start key list entry.deleted e.same deleted same entry.id id e.behind behind e.start start in
    none entry.pairs rest (subst (λ (x : Bool). IsBody x master behind entry.pairs rest) s.same (subst (λ (x : Texts). IsBody e.same master x entry.pairs rest) s.rest e.pairs))

-- no body behind a start whose id is high enough
pub lacks_body : (key : Id) (master list behind : Texts) (before : Option Id) (deleted same : Bool) (id : Id)
    → IsStart key list deleted same id behind → IsAfter before id → LacksBody same master behind → LacksEntry key master list × (IsBack key before list → ⊥)
lacks_body key master list behind before deleted same id start after none = (
  lacks_its_body key master list behind deleted same id start none,
  λ back.
      let s = one_start key list deleted same back.0 back.1 id back.2 behind back.3 start back.4 in
      back.5 (subst (λ (x : Id). IsAfter before x) s.id after),
)

-- what the test says
pub is_after : (before : Option Id) (id : Id) (test : Bool) → (IsTrue test ↔ IsAfter before id) → test ≡ true → IsAfter before id
is_after before id test both e = both.0 e
