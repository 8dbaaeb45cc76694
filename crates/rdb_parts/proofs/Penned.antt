-- What is written, part by part.
use Rattle.std.proofs.Common.{◌≡◌, ℕ, ◌<◌, ◌^◌, List, [], ◌∷◌, ◌++◌, take, Result, Ok, Err, refl, sym, ap, subst, ◌∙◌}
use Rattle.std.specs.Int.{w64, to_le_bytes}
use Rattle.std.proofs.lemmas.List.{append_assoc, append-nil}
use Rattle.digests.specs.Crc.{crc_of}
use Rattle.digests.proofs.Linear.{crc_append}
use Rattle.outside.specs.Files.{ShelfSeen}
use Rattle.rdb_parts.specs.declared.pen.Pen.{Pen}
use Rattle.rdb_parts.specs.Shelves.{PutsAll, Loses, Puts}
use Rattle.rdb_parts.specs.Pens.{gathered, closed, Adds, Writes, WritesSome, Closes}
use Rattle.rdb_parts.specs.Words.{ended, whole_word}
use Rattle.rdb_grammar.specs.Codes as code
use Rattle.rdb_parts.proofs.Shelved.{all_nothing, all_then, loses_then}

crc_nothing : (s : ℕ) → s ≡ crc_of s []
unfolding crc_of
crc_nothing s = refl

pub adds_nothing : (s : ShelfSeen) (pen : Pen) → Adds s s pen pen []
adds_nothing s pen = record { put = []; puts = all_nothing s; same = sym (append-nil (gathered pen)); summed = crc_nothing pen.sum }

pub adds_then : (o m n : ShelfSeen) (b c d : Pen) (v w : List ℕ) → Adds o m b c v → Adds m n c d w → Adds o n b d (v ++ w)
adds_then o m n b c d v w p q = record {
  put = p.put ++ q.put;
  puts = all_then o m n p.put q.put p.puts q.puts;
  same = append_assoc p.put q.put (gathered d) ∙ ap (λ l. p.put ++ l) q.same ∙ sym (append_assoc p.put (gathered c) w) ∙ ap (λ l. l ++ w) p.same ∙ append_assoc (gathered b) v w;
  summed = q.summed ∙ ap (λ s. crc_of s q.put) p.summed ∙ crc_append b.sum p.put q.put;
}

pub lost_then : (o m n : ShelfSeen) (b c : Pen) (v : List ℕ) → Adds o m b c v → Loses m n → Loses o n
lost_then o m n b c v p q = loses_then o m n p.put p.puts q

-- a piece is gathered
pub gathers : (s : ShelfSeen) (before after : Pen) (piece : List ℕ) → gathered after ≡ gathered before ++ piece → after.sum ≡ before.sum → Adds s s before after piece
gathers s before after piece e same = record { put = []; puts = all_nothing s; same = e; summed = same ∙ crc_nothing before.sum }

-- what is gathered is put
pub flushes : (o n : ShelfSeen) (before after : Pen) → PutsAll o n (gathered before) → after.used ≡ 0 → after.sum ≡ crc_of before.sum (gathered before) → Adds o n before after []
flushes o n before after p none sum = record { put = gathered before; puts = p; same = ap (λ k. gathered before ++ take k after.room) none; summed = sum }

-- where nothing is gathered a piece is put
pub bypasses : (o n : ShelfSeen) (before after : Pen) (piece : List ℕ) → PutsAll o n piece → before.used ≡ 0 → after.used ≡ 0 → after.sum ≡ crc_of before.sum piece → Adds o n before after piece
bypasses o n before after piece p none still sum = record {
  put = piece;
  puts = p;
  same = ap (λ k. piece ++ take k after.room) still ∙ append-nil piece ∙ ap (λ k. take k before.room ++ piece) (sym none);
  summed = sum;
}

pub writes_then : {T E : Type 0} (o m n : ShelfSeen) (b c d : Pen) (v w : List ℕ) (r : Result T E) → Adds o m b c v → Writes m n c d w r → Writes o n b d (v ++ w) r
writes_then o m n b c d v w (Ok x) p q = adds_then o m n b c d v w p q
writes_then o m n b c d v w (Err e) p q = lost_then o m n b c v p q

-- what was written from the start on, with the end and the sum behind it
pub closes : (o m n : ShelfSeen) (first last : Pen) (word : List ℕ) → gathered first ≡ [] → first.sum ≡ 0 → Adds o m first last word
    → PutsAll m n (closed last ++ to_le_bytes w64 (crc_of last.sum (closed last))) → PutsAll o n (whole_word word) × (crc_of last.sum (closed last) ≡ crc_of 0 (ended word))
closes o m n first last word none zero p q =
    let all : p.put ++ closed last ≡ ended word = sym (append_assoc p.put (gathered last) (code.eof ∷ [])) ∙ ap (λ l. l ++ code.eof ∷ []) (p.same ∙ ap (λ l. l ++ word) none) in
    let sum : crc_of last.sum (closed last) ≡ crc_of 0 (ended word) =
    ap (λ s. crc_of s (closed last)) (p.summed ∙ ap (λ s. crc_of s p.put) zero) ∙ crc_append 0 p.put (closed last) ∙ ap (crc_of 0) all in
    let bytes : p.put ++ (closed last ++ to_le_bytes w64 (crc_of last.sum (closed last))) ≡ whole_word word =
    sym (append_assoc p.put (closed last) _) ∙ (λ i. all i ++ to_le_bytes w64 (sum i)) in
    let P : List ℕ → Type 0 = λ l. PutsAll o n l in
    (subst P bytes (all_then o m n _ _ p.puts q), sum)

-- the end is written and all is put, and then the sum
pub ends : {T E : Type 0} (o m n p : ShelfSeen) (a b c : Pen) (r : Result T E) → Adds o m a b (code.eof ∷ []) → Adds m n b c [] → c.used ≡ 0 → c.sum < 2 ^ 64
    → Puts n p (to_le_bytes w64 c.sum) r → Closes o p a r
ends o m n p a b c (Ok x) first second none fits last =
    let both : Adds o n a c ((code.eof ∷ []) ++ []) = adds_then o m n a b c (code.eof ∷ []) [] first second in
    let nothing : gathered c ≡ [] = ap (λ k. take k c.room) none in
    let all : both.put ≡ closed a = sym (append-nil both.put) ∙ ap (λ l. both.put ++ l) (sym nothing) ∙ both.same in
    let sum : c.sum ≡ crc_of a.sum (closed a) = both.summed ∙ ap (crc_of a.sum) all in
    let P : List ℕ → Type 0 = λ l. PutsAll o p l in
    (subst P (λ i. all i ++ to_le_bytes w64 (sum i)) (all_then o n p both.put (to_le_bytes w64 c.sum) both.puts last), subst (λ s. s < 2 ^ 64) sum fits)
ends o m n p a b c (Err e) first second none fits last = lost_then o n p a c ((code.eof ∷ []) ++ []) (adds_then o m n a b c (code.eof ∷ []) [] first second) last

-- bytes of which something holds
pub writes_some : {T E : Type 0} (o n : ShelfSeen) (b a : Pen) (word : List ℕ) (Holds : T → List ℕ → Type 0) (r : Result T E) → Writes o n b a word r → ((x : T) → r ≡ Ok x → Holds x word)
    → WritesSome o n b a Holds r
writes_some o n b a word Holds (Ok x) p h = (word, p, h x refl)
writes_some o n b a word Holds (Err e) p h = p
