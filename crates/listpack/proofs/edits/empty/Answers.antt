use Rattle.std.proofs.Common.{◌≡◌, ℕ, [], ◌∷◌, Result, Ok, Err, arith}
use Rattle.std.specs.Prelude.{IfOk}
use Rattle.std.specs.Global.{Vec}
use Rattle.listpack.specs.Entry.{IsSpelling}
use Rattle.std.proofs.lemmas.List.Elements.{All-nil}
use Rattle.listpack.specs.Edits.{IsEdited}
use Rattle.listpack.proofs.Repacking.{edited_as}
use Rattle.listpack.proofs.edits.empty.Goals as goal

made : {E : Type 0} (r : Result (Vec ℕ) E) → IfOk r (λ v. v.items ≡ 7 ∷ 0 ∷ 0 ∷ 0 ∷ 0 ∷ 0 ∷ 255 ∷ []) → IfOk r (λ v. IsEdited v.items [] 0)
made (Ok v) e = edited_as v.items 7 0 [] e (All-nil IsSpelling) (omega arith) (omega arith) (omega arith) (λ m. omega arith)
made (Err x) e = tt

pub returns : goal.returns
returns c = made c.from_slice.result c.from_slice.ensures.items
