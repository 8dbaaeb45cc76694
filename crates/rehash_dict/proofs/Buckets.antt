-- A bucket moves element by element.
use Rattle.std.proofs.Common.{◌≡◌, ℕ, zero, suc, ◌<◌, List, [], ◌∷◌, set, length, refl, sym, ap, ◌∙◌, subst, arith}
use Rattle.std.proofs.lemmas.List.{length-set, set-get_or}
use Rattle.rehash_dict.specs.Tables.{bucket, put, put_all}
use Rattle.rehash_dict.specs.Table.{Chaining, Agrees}
use Rattle.rehash_dict.specs.Placed.{Stand}
use Rattle.rehash_dict.specs.Sides.{MovesOne, MovesRow}
use Rattle.rehash_dict.proofs.Counts.{bucket_set_same}

set-set : {X : Type 0} (xs : List X) (k : ℕ) (x y : X) → set (set xs k x) k y ≡ set xs k y
set-set [] k x y = refl
set-set (z ∷ zs) zero x y = refl
set-set (z ∷ zs) (suc k) x y = ap (λ r. z ∷ r) (set-set zs k x y)

module _ {V : Type 0} where
  -- the rest of the bucket still has to move
  pub record IsPartWay (old now : Chaining V) (k : ℕ) : Type 0 where
    pub older : set now.older k [] ≡ set old.older k []
    pub newer : (hash : ℕ → ℕ) → Agrees hash old.items → put_all hash now.newer (bucket now.older k) ≡ put_all hash old.newer (bucket old.older k)
    pub items : now.items ≡ old.items
    pub capacity : now.capacity ≡ old.capacity
    pub inside : k < length now.older
    pub table : 0 < length now.newer

  pub part_way_more : (old now next : Chaining V) (k : ℕ) → IsPartWay old now k → MovesOne now next k → IsPartWay old next k
  part_way_more old now next k w m =
      let row : bucket next.older k ≡ m.rest = ap (λ t. bucket t k) m.older ∙ bucket_set_same now.older k m.rest w.inside in
      record {
        older = ap (λ t. set t k []) m.older ∙ set-set now.older k m.rest [] ∙ w.older;
        newer = λ hash agrees.
            let here : next.newer ≡ put hash now.newer m.at = m.newer hash (subst (Agrees hash) (sym w.items) agrees) in
            ap (put_all hash next.newer) row ∙ ap (λ t. put_all hash t m.rest) here ∙ ap (put_all hash now.newer) (sym m.first) ∙ w.newer hash agrees;
        items = m.items ∙ w.items;
        capacity = m.capacity ∙ w.capacity;
        inside = omega (arith, w.inside, ap length m.older, length-set now.older k m.rest);
        table = omega (arith, w.table, m.many);
      }
