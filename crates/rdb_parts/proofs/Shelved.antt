-- What is put into a shelf, piece by piece.
use Rattle.std.proofs.Common.{◌≡◌, ℕ, ◌+◌, ◌-◌, List, [], ◌∷◌, ◌++◌, ◌≤◌, length, take, drop, Option, Some, None, Ok, Err, refl, sym, ap, subst, ◌∙◌, arith}
use Rattle.std.proofs.lemmas.Grind.{common_steps}
use Rattle.std.proofs.lemmas.List.{append_assoc, append-nil, take_rest}
use Rattle.std.proofs.Math.Seq.{take-add}
use Rattle.std.specs.Io.KnownBytes.{Appends}
use Rattle.outside.specs.Counts.{Rose}
use Rattle.outside.specs.Files.{Files, ShelfSeen, Has, KeepsOthers, PutsOn, Keeps}
use Rattle.rdb_parts.specs.Shelves.{PutsAll, Loses}

appends_nothing : (o : Option (List ℕ)) → Appends o o []
appends_nothing None = tt
appends_nothing (Some xs) = sym (append-nil xs)

appends_then : (o m n : Option (List ℕ)) (a b : List ℕ) → Appends o m a → Appends m n b → Appends o n (a ++ b)
appends_then None m n a b p q = tt
appends_then (Some xs) None n a b p q = absurd p
appends_then (Some xs) (Some ys) None a b p q = absurd q
appends_then (Some xs) (Some ys) (Some zs) a b p q = q ∙ ap (λ l. l ++ b) p ∙ append_assoc xs a b

others_stay : (files : Files) (name : List ℕ) → KeepsOthers files files name
others_stay None name = tt
others_stay (Some files) name = λ other e. refl

pub others_then : (o m n : Files) (name : List ℕ) → KeepsOthers o m name → KeepsOthers m n name → KeepsOthers o n name
others_then None m n name p q = tt
others_then (Some o) None n name p q = absurd p
others_then (Some o) (Some m) None name p q = absurd q
others_then (Some o) (Some m) (Some n) name p q = λ other e. q other e ∙ p other e

pub all_nothing : (o : ShelfSeen) → PutsAll o o []
all_nothing o = record {
  written = appends_nothing o.written;
  begun = refl;
  made = refl;
  grown = λ name before made has. subst (Has o.files name) (sym (append-nil before)) has;
  others = λ name made. others_stay o.files name;
  faults = refl;
}

pub all_then : (o m n : ShelfSeen) (a b : List ℕ) → PutsAll o m a → PutsAll m n b → PutsAll o n (a ++ b)
all_then o m n a b p q = record {
  written = appends_then o.written m.written n.written a b p.written q.written;
  begun = q.begun ∙ p.begun;
  made = q.made ∙ p.made;
  grown = λ name before made has. subst (Has n.files name) (append_assoc before a b) (q.grown name (before ++ a) (p.made ∙ made) (p.grown name before made has));
  others = λ name made. others_then o.files m.files n.files name (p.others name made) (q.others name (p.made ∙ made));
  faults = q.faults ∙ p.faults;
}

pub loses_then : (o m n : ShelfSeen) (a : List ℕ) → PutsAll o m a → Loses m n → Loses o n
loses_then o m n a p q = record {
  rose = subst (λ f. Rose f n.faults) p.faults q.rose;
  others = λ name made. others_then o.files m.files n.files name (p.others name made) (q.others name (p.made ∙ made));
}

-- a front of a piece, or none
pub piece_put : {E : Type 0} (o n : ShelfSeen) (piece : List ℕ) (k : ℕ) → PutsOn {E = E} o n (Ok k) piece → PutsAll o n (take k piece)
piece_put o n piece k p = record { written = p.bytes; begun = p.same; made = p.made; grown = p.grown; others = p.others; faults = p.tally.ok }

pub piece_lost : {E : Type 0} (o n : ShelfSeen) (piece : List ℕ) (e : E) → PutsOn o n (Err e) piece → Loses o n
piece_lost o n piece e p = record { rose = p.tally.err; others = p.others }

-- a piece more of the bytes
pub piece_more : {E : Type 0} (o m n : ShelfSeen) (bytes : List ℕ) (at k : ℕ) → at ≤ length bytes → k ≤ length bytes - at → PutsAll o m (take at bytes)
    → PutsOn {E = E} m n (Ok k) (take (length bytes - at) (drop at bytes)) → PutsAll o n (take (at + k) bytes)
piece_more o m n bytes at k within some p q =
    let piece = take (length bytes - at) (drop at bytes) in
    let e : take at bytes ++ take k piece ≡ take (at + k) bytes = ap (λ l. take at bytes ++ take k l) (take_rest bytes at) ∙ sym (take-add at k bytes) in
    let P : List ℕ → Type 0 = λ l. PutsAll o n l in
    subst P e (all_then o m n _ _ p (piece_put m n piece k q))

-- what was put is kept
pub kept_all : {E : Type 0} (o n : ShelfSeen) → Keeps {E = E} o n (Ok tt) → PutsAll o n []
kept_all o n k = record {
  written = subst (λ w. Appends o.written w []) (sym k.written) (appends_nothing o.written);
  begun = k.same;
  made = k.made;
  grown = λ name before made has. subst (λ f. Has f name (before ++ [])) (sym k.files) (subst (Has o.files name) (sym (append-nil before)) has);
  others = k.others;
  faults = k.tally.ok;
}

pub kept_lost : {E : Type 0} (o n : ShelfSeen) (e : E) → Keeps o n (Err e) → Loses o n
kept_lost o n e k = record { rose = k.tally.err; others = k.others }
