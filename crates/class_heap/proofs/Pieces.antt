-- A part of bytes after a piece was written over them.
use Rattle.std.specs.Prelude.{◌≡◌, ℕ, ◌+◌, ◌-◌, ◌≤◌, List, length, take, drop, ◌++◌}
use Rattle.std.proofs.Common.{arith, ap, ◌∙◌, sym}
use Rattle.std.proofs.lemmas.List.{take-append-le, drop-append-le, drop-take, length-append, take-append-drop, append_assoc, drop-drop, length-take, length-drop}
use Rattle.std.proofs.lemmas.Slice.{drop-append-drop}
use Rattle.std.proofs.Math.Seq.{take-append-add}
use Rattle.blocks.specs.Blocks.{overwritten}

-- what lies after the piece
pub after : (bytes piece : List ℕ) (at k : ℕ) → at + length piece ≤ length bytes → at + length piece ≤ k → drop k (overwritten bytes at piece) ≡ drop k bytes
after bytes piece at k fit le = drop-append-drop (at + length piece) bytes (take at bytes ++ piece) k le (omega (arith, length-append (take at bytes) piece, length-take at bytes))

take_less : (n m : ℕ) (ys : List ℕ) → n ≤ m → m ≤ length ys → take n (take m ys) ≡ take n ys
take_less n m ys le long = sym (ap (take n) (sym (take-append-drop m ys)) ∙ take-append-le n (take m ys) (drop m ys) (omega (arith, length-take m ys)))

-- what lies before it
pub before : (bytes piece : List ℕ) (at k n : ℕ) → at + length piece ≤ length bytes → k + n ≤ at → take n (drop k (overwritten bytes at piece)) ≡ take n (drop k bytes)
before bytes piece at k n fit le =
    let tail = piece ++ drop (at + length piece) bytes in let m = at - k in let e : k + m ≡ at = omega arith in
    ap (λ l. take n (drop k l)) (append_assoc (take at bytes) piece (drop (at + length piece) bytes))
    ∙ (ap (take n) (drop-append-le k (take at bytes) tail (omega (arith, length-take at bytes)))
    ∙ (take-append-le n (drop k (take at bytes)) tail (omega (arith, length-drop k (take at bytes), length-take at bytes))
    ∙ (ap (λ q. take n (drop k (take q bytes))) (sym e) ∙ (ap (take n) (drop-take k m bytes) ∙ take_less n m (drop k bytes) (omega arith) (omega (arith, length-drop k bytes))))))

-- a part of a part
pub part_of : (bytes : List ℕ) (k n from count : ℕ) → k + n ≤ length bytes → from + count ≤ n → take count (drop from (take n (drop k bytes))) ≡ take count (drop (k + from) bytes)
part_of bytes k n from count long fit =
    let rest = n - from in let e : from + rest ≡ n = omega arith in
    ap (λ q. take count (drop from (take q (drop k bytes)))) (sym e)
    ∙ (ap (take count) (drop-take from rest (drop k bytes))
    ∙ (take_less count rest (drop from (drop k bytes)) (omega arith) (omega (arith, length-drop from (drop k bytes), length-drop k bytes)) ∙ ap (take count) (drop-drop from k bytes)))

-- the part that the piece lies in
pub within : (bytes piece : List ℕ) (at k n : ℕ) → k + n ≤ length bytes → k ≤ at → at + length piece ≤ k + n
    → take n (drop k (overwritten bytes at piece)) ≡ overwritten (take n (drop k bytes)) (at - k) piece
within bytes piece at k n long le fit =
    let p = length piece in let d = at - k in let ys = drop k bytes in let A = take at bytes in let T = drop (at + p) bytes in let X = take d ys ++ piece in let rest = n - (d + p) in
    let e : k + d ≡ at = omega arith in let en : (d + p) + rest ≡ n = omega arith in
    let ly : length ys ≡ length bytes - k = length-drop k bytes in
    let dA : drop k A ≡ take d ys = ap (λ q. drop k (take q bytes)) (sym e) ∙ drop-take k d bytes in
    let lx : length X + rest ≡ n = omega (arith, length-append (take d ys) piece, length-take d ys, ly) in
    let eT : T ≡ drop (d + p) ys = ap (λ q. drop q bytes) (let f : at + p ≡ k + (d + p) = omega arith in f) ∙ sym (drop-drop (d + p) k bytes) in
    let one : take d (take n ys) ≡ take d ys = take_less d n ys (omega arith) (omega (arith, ly)) in
    let two : drop (d + p) (take n ys) ≡ take rest (drop (d + p) ys) = ap (λ q. drop (d + p) (take q ys)) (sym en) ∙ drop-take (d + p) rest ys in
    ap (λ l. take n (drop k l)) (append_assoc A piece T)
    ∙ (ap (take n) (drop-append-le k A (piece ++ T) (omega (arith, length-take at bytes)))
    ∙ (ap (λ q. take n (q ++ (piece ++ T))) dA
    ∙ (ap (take n) (sym (append_assoc (take d ys) piece T))
    ∙ (ap (λ q. take q (X ++ T)) (sym lx) ∙ (take-append-add X T rest
    ∙ (ap (λ t. X ++ take rest t) eT
    ∙ sym (ap (λ q. q ++ piece ++ drop (d + p) (take n ys)) one ∙ ap (λ q. X ++ q) two)))))))
