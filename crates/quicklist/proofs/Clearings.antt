-- Listpacks without the elements that go, as far as they are written.
use Rattle.std.proofs.Common.{◌≡◌, ℕ, ◌+◌, ◌<◌, ◌≤◌, List, [], ◌∷◌, ◌++◌, length, take, drop, get_or, ap, ◌∙◌, sym, arith}
use Rattle.std.specs.Prelude.{Bool, true, false}
use Rattle.std.proofs.lemmas.List.{append-nil, drop_more, take_all}
use Rattle.listpack.specs.Pack.{texts}
use Rattle.listpack.specs.Edits.{IsEdited}
use Rattle.quicklist.specs.declared.reach.Reach.{Reach}
use Rattle.quicklist.specs.Nodes.{IsPacked, pack_len}
use Rattle.quicklist.specs.Equal.{goes, cleared}
use Rattle.quicklist.proofs.Going.{unless, cleared_more}
use Rattle.quicklist.proofs.Written.{packed_len, pack_len_append, empty_is}

-- the elements before the one at an index are written, but those that go, and all others still fit
pub record IsSoFar (r : Reach) (i : ℕ) (xs : List (List ℕ)) (k : ℕ) (left : List ℕ) : Type 0 where
  pub packed : IsPacked left
  pub list : texts left ≡ cleared r i (take k xs)
  pub room : pack_len (texts left) + pack_len (drop k xs) ≤ 8199

pub none_so_far : (r : Reach) (i : ℕ) (xs : List (List ℕ)) (left : List ℕ) → IsEdited left [] 0 → pack_len xs ≤ 8192 → IsSoFar r i xs 0 left
none_so_far r i xs left e h =
    let empty = empty_is left e in record { packed = empty.0; list = empty.1; room = omega (arith, ap pack_len empty.1, h) }

rest_len : (xs : List (List ℕ)) (k : ℕ) (x : List ℕ) → k < length xs → x ≡ get_or xs k [] → pack_len (drop k xs) + 7 ≡ pack_len (x ∷ []) + pack_len (drop (k + 1) xs)
rest_len xs k x h is =
    omega (arith, ap pack_len (drop_more xs k [] h ∙ ap (λ (y : List ℕ). y ∷ drop (k + 1) xs) (sym is)), pack_len_append (x ∷ []) (drop (k + 1) xs))

pub so_far_room : (r : Reach) (i : ℕ) (xs : List (List ℕ)) (k : ℕ) (left x : List ℕ) → k < length xs → x ≡ get_or xs k [] → IsSoFar r i xs k left → length left + pack_len (x ∷ []) ≤ 8199
so_far_room r i xs k left x h is s = omega (arith, rest_len xs k x h is, packed_len left s.packed, s.room)

pub so_far_gone : (r : Reach) (i : ℕ) (xs : List (List ℕ)) (k : ℕ) (left x : List ℕ) → k < length xs → x ≡ get_or xs k [] → goes r (i + k) x ≡ true → IsSoFar r i xs k left
    → IsSoFar r i xs (k + 1) left
so_far_gone r i xs k left x h is out s = record {
  packed = s.packed;
  list = s.list ∙ sym (append-nil (cleared r i (take k xs))) ∙ sym (cleared_more r i xs k x h is ∙ ap (λ (b : Bool). cleared r i (take k xs) ++ unless b x) out);
  room = omega (arith, rest_len xs k x h is, s.room);
}

pub so_far_kept : (r : Reach) (i : ℕ) (xs : List (List ℕ)) (k : ℕ) (left new x : List ℕ) → k < length xs → x ≡ get_or xs k [] → goes r (i + k) x ≡ false → IsSoFar r i xs k left
    → IsPacked new → texts new ≡ texts left ++ x ∷ [] → IsSoFar r i xs (k + 1) new
so_far_kept r i xs k left new x h is stays s packed list = record {
  packed = packed;
  list = list ∙ ap (λ (ys : List (List ℕ)). ys ++ x ∷ []) s.list ∙ sym (cleared_more r i xs k x h is ∙ ap (λ (b : Bool). cleared r i (take k xs) ++ unless b x) stays);
  room = omega (arith, rest_len xs k x h is, s.room, ap pack_len list, pack_len_append (texts left) (x ∷ []));
}

pub so_far_all : (r : Reach) (i : ℕ) (xs : List (List ℕ)) (k : ℕ) (left : List ℕ) → length xs ≤ k → IsSoFar r i xs k left → texts left ≡ cleared r i xs
so_far_all r i xs k left h s = s.list ∙ ap (cleared r i) (take_all k xs h)
