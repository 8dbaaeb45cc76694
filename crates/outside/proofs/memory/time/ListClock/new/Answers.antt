use Rattle.std.proofs.Common.{◌≡◌, ℕ, add-one, zero, suc, ◌<◌, List, [], ◌∷◌, length, get_or, take, refl, arith}
use Rattle.outside.specs.Clocks.{last_or}
use Rattle.outside.proofs.memory.time.ListClock.new.Goals as goal

-- the last of one answer more
last_next : (d : ℕ) (xs : List ℕ) (i : ℕ) → i < length xs → get_or xs i 0 ≡ last_or d (take (suc i) xs)
last_next d [] i l = absurd (omega arith)
last_next d (x ∷ xs) zero l = refl
last_next d (x ∷ xs) (suc i) l = last_next x xs i (omega arith)

pub loop-answer-preserved : goal.loop-answer-preserved
loop-answer-preserved c = rw add-one (last_next 0 c.deref-answer-items.result.now c.loop-answer.answer-index (omega arith))
