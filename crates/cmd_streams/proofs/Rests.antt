-- What calls leave that change nothing, and the rests of lists.
use Rattle.std.proofs.Common.{◌≡◌, ℕ, suc, ◌+◌, ◌<◌, List, ◌∷◌, length, get_or, drop, drop-cons, add-one, Result, Ok, Err, IfOk, refl, sym, ap, subst}
use Rattle.blocks.specs.Blocks.{Blocks, Changes}
use Rattle.blocks.proofs.Change.{changes_same}
use Rattle.stream_object.specs.Streams.{IsStream, refs}
use Rattle.stream_object.specs.declared.stream.Stream.{Stream as Log}
use Rattle.stream_object.proofs.Clears.{stream_laws_hold}

-- what a call leaves that changes nothing
pub same_changes : (m : Blocks) (s : Log) → IsStream m s → Changes m m (refs m s) (refs m s)
same_changes m s sound = changes_same m (refs m s) (stream_laws_hold.owned m s sound)

pub left_changes : (before after : Blocks) (old new : Log) → IsStream before old → new ≡ old → after ≡ before → Changes before after (refs before old) (refs after new)
left_changes before after old new sound same stays = subst (λ h. Changes before after (refs before old) (refs after h)) (sym same)
    (subst (λ b. Changes before b (refs before old) (refs b old)) (sym stays) (same_changes before old sound))

-- the rest of a list from a place on is the element there and the rest behind it
pub rest_from : {A : Type 0} (xs : List A) (i : ℕ) (x : A) → i < length xs → x ≡ get_or xs i x → drop i xs ≡ x ∷ drop (i + 1) xs
rest_from {A = A} xs i x within is = rw (add-one, drop-cons xs i x) (ap (λ (z : A). z ∷ drop (suc i) xs) (sym is))

pub rest_at : {A : Type 0} (xs : List A) (i : ℕ) (d : A) → i < length xs → drop i xs ≡ get_or xs i d ∷ drop (i + 1) xs
rest_at xs i d within = rw (add-one, drop-cons xs i d) refl

-- what holds in any case
pub always : {X Y : Type 0} (P : Type 0) (result : Result X Y) → P → IfOk result (λ x. P)
always P (Ok x) h = h
always P (Err e) h = tt
