-- Bytes with a piece put over them.
use Rattle.std.proofs.Common.{◌≡◌, ℕ, zero, suc, ◌+◌, ◌-◌, ◌<◌, ◌≤◌, List, [], ◌∷◌, ◌++◌, length, take, drop, replicate, max, false, sym, ap, ◌∙◌, arith, eqb}
use Rattle.std.proofs.lemmas.Bool.{cond-false}
use Rattle.std.proofs.lemmas.Grind.{common_steps}
use Rattle.std.proofs.lemmas.List.{drop-replicate, take-replicate}
use Rattle.std.proofs.Math.Seq.{take-nil, drop-nil}
use Rattle.blocks.specs.Blocks.{overwritten, widened}
use Rattle.string_object.specs.Range.{ranged}

-- the first bytes of joined lists
take_append : (n : ℕ) (xs ys : List ℕ) → take n (xs ++ ys) ≡ take n xs ++ take (n - length xs) ys
take_append n [] ys = ap (λ k. take k ys) (let e : n ≡ n - 0 = omega arith in e) ∙ ap (λ zs. zs ++ take (n - 0) ys) (sym (take-nil n))
take_append zero (x ∷ xs) ys = ap (λ k. take k ys) (let e : 0 ≡ 0 - length (x ∷ xs) = omega arith in e)
take_append (suc n) (x ∷ xs) ys = ap (λ zs. x ∷ zs) (take_append n xs ys ∙ ap (λ k. take n xs ++ take k ys) (let e : n - length xs ≡ suc n - suc (length xs) = omega arith in e))

-- and those behind them
drop_append : (n : ℕ) (xs ys : List ℕ) → drop n (xs ++ ys) ≡ drop n xs ++ drop (n - length xs) ys
drop_append n [] ys = ap (λ k. drop k ys) (let e : n ≡ n - 0 = omega arith in e) ∙ ap (λ zs. zs ++ drop (n - 0) ys) (sym (drop-nil n))
drop_append zero (x ∷ xs) ys = ap (λ k. (x ∷ xs) ++ drop k ys) (let e : 0 ≡ 0 - length (x ∷ xs) = omega arith in e)
drop_append (suc n) (x ∷ xs) ys = drop_append n xs ys ∙ ap (λ k. drop n xs ++ drop k ys) (let e : n - length xs ≡ suc n - suc (length xs) = omega arith in e)

-- what stands before a place, and zeros up to it
take_widened : (xs : List ℕ) (len n : ℕ) → n ≤ len → length xs ≤ len → take n (widened xs len) ≡ take n xs ++ replicate (n - length xs) 0
take_widened xs len n within room =
    take_append n xs (replicate (len - length xs) 0)
    ∙ ap (λ zs. take n xs ++ zs) (take-replicate (n - length xs) (len - length xs) 0 (omega arith))

-- what stands behind it
drop_widened : (xs : List ℕ) (len n : ℕ) → len ≤ max (length xs) n → drop n (widened xs len) ≡ drop n xs
drop_widened xs len n within =
    drop_append n xs (replicate (len - length xs) 0)
    ∙ ap (λ zs. drop n xs ++ zs) (drop-replicate (n - length xs) (len - length xs) 0 ∙ ap (λ k. replicate k 0) (let e : (len - length xs) - (n - length xs) ≡ 0 = omega arith in e))
    ∙ (let e : drop n xs ++ [] ≡ drop n xs = grind (arith, common_steps) in e)

pub overwritten_range : (xs piece : List ℕ) (start : ℕ) → 0 < length piece → overwritten (widened xs (max (length xs) (start + length piece))) start piece ≡ ranged xs start piece
overwritten_range xs piece start some =
    ap (λ before. before ++ piece ++ drop (start + length piece) (widened xs len)) (take_widened xs len start (omega arith) (omega arith))
    ∙ ap (λ behind. take start xs ++ replicate (start - length xs) 0 ++ piece ++ behind) (drop_widened xs len (start + length piece) (omega arith))
    ∙ sym (cond-false _ _ _ (let e : eqb (length piece) 0 ≡ false = grind arith in e))
  where
    len : ℕ
    len = max (length xs) (start + length piece)
