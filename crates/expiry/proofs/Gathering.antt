-- How the keys of a move that are gone are gathered, item by item.
use Rattle.std.proofs.Common.{◌≡◌, ℕ, zero, suc, ◌<◌, ◌≤◌, false, nat_lt, List, [], ◌∷◌, ◌++◌, length, take, Option, Some, None, IsSome, refl, sym, ap, ◌∙◌, subst, arith, append_assoc, length-append}
use Rattle.std.proofs.lemmas.Bool.Decides.{nat_tests}
use Rattle.std.proofs.lemmas.List.{append-nil, take-append-le}
use Rattle.std.proofs.lemmas.Bool.{cond-true, cond-false, lt-ltb}
use Rattle.blocks.specs.declared.BlockRef.{BlockRef}
use Rattle.rev_cursor.specs.Span.{Span, times}
use Rattle.rehash_dict.specs.Table.{Element, Table, item}
use Rattle.rehash_dict.specs.Placed.{IsPlaced}
use Rattle.rehash_dict.specs.Scan.{scanned, first_of, after_in}
use Rattle.rehash_dict.specs.ScanPlaces.{place_in}
use Rattle.rehash_dict.specs.Steps.{Holds}
use Rattle.rehash_dict.proofs.Scans.{move_spans}
use Rattle.expiry.specs.Found.{gone_at, gone_of}

-- what is left of a move from its next item on
abbrev pub todo : Option ℕ → List ℕ → List ℕ
todo None xs = []
todo (Some at) xs = at ∷ after_in at xs

-- the items of a move that were met, and those of them that are gone
pub record Gathers (t : Table ℕ) (moment : ℕ) (xs : List ℕ) (next : Option ℕ) (found : List BlockRef) : Type 0 where
  pub met : List ℕ
  pub parts : xs ≡ met ++ todo next xs
  pub gone : found ≡ gone_of t moment met
  pub few : length found ≤ 16

pub spans_of : (t : Table ℕ) (v : ℕ) → IsPlaced t → Span (λ i. place_in (item t i)) v (scanned t.older t.newer v).1 (scanned t.older t.newer v).0
spans_of t v placed = move_spans t (λ i. place_in (item t i)) v (record { placed = placed; places = λ i. refl })

-- ---- lists

times_split : (met : List ℕ) (y : ℕ) (ys : List ℕ) → 0 < times y (met ++ y ∷ ys)
times_split [] y ys = grind (arith, nat_tests)
times_split (z ∷ met) y ys = omega (arith, times_split met y ys)

after_split : (met : List ℕ) (y : ℕ) (ys : List ℕ) → times y (met ++ y ∷ ys) ≤ 1 → after_in y (met ++ y ∷ ys) ≡ ys
after_split [] y ys once = grind (arith, nat_tests)
after_split (z ∷ met) y ys once = grind (arith, nat_tests, times_split met y ys, after_split met y ys)

same_after : (x : ℕ) (rest : List ℕ) → after_in x (x ∷ rest) ≡ rest
same_after x rest = grind (arith, nat_tests)

pub todo_first : (xs : List ℕ) (next : Option ℕ) → next ≡ first_of xs → todo next xs ≡ xs
todo_first [] next h = ap (λ o. todo o []) h
todo_first (x ∷ rest) next h = ap (λ o. todo o (x ∷ rest)) h ∙ ap (λ l. x ∷ l) (same_after x rest)

todo_rest : (xs met : List ℕ) (at : ℕ) (rest : List ℕ) (next : Option ℕ) → ((i : ℕ) → times i xs ≤ 1) → xs ≡ met ++ at ∷ rest → next ≡ first_of rest → todo next xs ≡ rest
todo_rest xs met at [] next once is h = ap (λ o. todo o xs) h
todo_rest xs met at (y ∷ ys) next once is h =
    let e : xs ≡ (met ++ at ∷ []) ++ y ∷ ys = is ∙ sym (append_assoc met (at ∷ []) (y ∷ ys)) in
    ap (λ o. todo o xs) h ∙ ap (λ l. y ∷ l) (ap (after_in y) e ∙ after_split (met ++ at ∷ []) y ys (subst (λ l. times y l ≤ 1) e (once y)))

pub todo_next : (xs met : List ℕ) (at : ℕ) (next : Option ℕ) → ((i : ℕ) → times i xs ≤ 1) → xs ≡ met ++ at ∷ after_in at xs → next ≡ first_of (after_in at xs) → todo next xs ≡ after_in at xs
todo_next xs met at next once is h = todo_rest xs met at (after_in at xs) next once is h

-- ---- the items

pub gone_of_append : (t : Table ℕ) (moment : ℕ) (xs ys : List ℕ) → gone_of t moment (xs ++ ys) ≡ gone_of t moment xs ++ gone_of t moment ys
gone_of_append t moment [] ys = refl
gone_of_append t moment (x ∷ xs) ys = ap (λ l. gone_at moment (item t x) ++ l) (gone_of_append t moment xs ys)
    ∙ sym (append_assoc (gone_at moment (item t x)) (gone_of t moment xs) (gone_of t moment ys))

there : (o : Option (Element ℕ)) (n : ℕ) → (place_in o ≡ None → n ≡ 0) → 0 < n → IsSome o
there None n none some = absurd (omega (arith, none refl))
there (Some e) n none some = refl

-- an element that is gone
pub gone_yes : (t : Table ℕ) (moment at : ℕ) (key : BlockRef) (value : ℕ) → Holds t at key value → value < moment → gone_at moment (item t at) ≡ key ∷ []
gone_yes t moment at key value h lt = ap (gone_at moment) h.found ∙ cond-true (nat_lt value moment) (key ∷ []) [] (lt-ltb value moment lt)

-- and one that isn't
pub gone_no : (t : Table ℕ) (moment at : ℕ) (key : BlockRef) (value : ℕ) → Holds t at key value → moment ≤ value → gone_at moment (item t at) ≡ []
gone_no t moment at key value h le = ap (gone_at moment) h.found ∙ cond-false (nat_lt value moment) (key ∷ []) [] (test value moment le)
  where
    test : (a b : ℕ) → b ≤ a → nat_lt a b ≡ false
    test a b h = grind (arith, nat_tests)

pub take_few : (xs : List BlockRef) (n : ℕ) → length xs ≤ n → take n xs ≡ xs
take_few [] zero h = refl
take_few [] (suc n) h = refl
take_few (x ∷ xs) zero h = absurd (omega arith)
take_few (x ∷ xs) (suc n) h = ap (λ l. x ∷ l) (take_few xs n (omega arith))

module _ (t : Table ℕ) (moment : ℕ) (xs : List ℕ) where
  pub met_there : (at : ℕ) (found : List BlockRef) → Gathers t moment xs (Some at) found → 0 < times at xs
  met_there at found g = subst (λ l. 0 < times at l) (sym g.parts) (times_split g.met at (after_in at xs))

  pub item_there : (v next at : ℕ) (found : List BlockRef) → Span (λ i. place_in (item t i)) v next xs → Gathers t moment xs (Some at) found → IsSome (item t at)
  item_there v next at found s g = there (item t at) (times at xs) (s.real at) (met_there at found g)

  pub left_less : (at : ℕ) (next : Option ℕ) (found : List BlockRef) → ((i : ℕ) → times i xs ≤ 1) → Gathers t moment xs (Some at) found → next ≡ first_of (after_in at xs)
      → length (todo next xs) < length (todo (Some at) xs)
  left_less at next found once g h = omega (arith, ap length (todo_next xs g.met at next once g.parts h))

  pub begun : (next : Option ℕ) (found : List BlockRef) → next ≡ first_of xs → found ≡ [] → Gathers t moment xs next found
  begun next found h empty = record {
    met = [];
    parts = sym (todo_first xs next h);
    gone = empty;
    few = omega (arith, ap length empty);
  }

  pub more : (at : ℕ) (next : Option ℕ) (found after : List BlockRef) → ((i : ℕ) → times i xs ≤ 1) → Gathers t moment xs (Some at) found → next ≡ first_of (after_in at xs) → after ≡ found
      ++ gone_at moment (item t at) → length after ≤ 16 → Gathers t moment xs next after
  more at next found after once g h is few = record {
    met = g.met ++ at ∷ [];
    parts = g.parts ∙ sym (append_assoc g.met (at ∷ []) (after_in at xs)) ∙ ap (λ l. (g.met ++ at ∷ []) ++ l) (sym (todo_next xs g.met at next once g.parts h));
    gone = is ∙ ap (λ l. l ++ gone_at moment (item t at)) g.gone ∙ ap (λ l. gone_of t moment g.met ++ l) (sym (append-nil (gone_at moment (item t at))))
        ∙ sym (gone_of_append t moment g.met (at ∷ []));
    few = few;
  }

  all_met : (next : Option ℕ) (found : List BlockRef) → Gathers t moment xs next found → next ≡ None → gone_of t moment xs ≡ found
  all_met next found g none = ap (gone_of t moment) (g.parts ∙ ap (λ o. g.met ++ todo o xs) none ∙ append-nil g.met) ∙ sym g.gone

  pub whole_found : (next : Option ℕ) (found : List BlockRef) → Gathers t moment xs next found → next ≡ None → found ≡ take 16 (gone_of t moment xs)
  whole_found next found g none = sym (take_few found 16 g.few) ∙ ap (take 16) (sym (all_met next found g none))

  -- one more is gone than the list has room for
  over : (at : ℕ) (found : List BlockRef) (key : BlockRef) (value : ℕ) → Gathers t moment xs (Some at) found → Holds t at key value → value < moment → gone_of t moment xs ≡ found ++ key
      ∷ gone_of t moment (after_in at xs)
  over at found key value g h lt =
      ap (gone_of t moment) g.parts
      ∙ gone_of_append t moment g.met (at ∷ after_in at xs)
      ∙ ap (λ l. l ++ (gone_at moment (item t at) ++ gone_of t moment (after_in at xs))) (sym g.gone)
      ∙ ap (λ l. found ++ (l ++ gone_of t moment (after_in at xs))) (gone_yes t moment at key value h lt)

  pub over_found : (at : ℕ) (found : List BlockRef) (key : BlockRef) (value : ℕ) → Gathers t moment xs (Some at) found → Holds t at key value → value < moment → 16 ≤ length found
      → found ≡ take 16 (gone_of t moment xs)
  over_found at found key value g h lt full =
      sym (take_few found 16 g.few)
      ∙ sym (take-append-le 16 found (key ∷ gone_of t moment (after_in at xs)) full)
      ∙ ap (take 16) (sym (over at found key value g h lt))

  pub over_many : (at : ℕ) (found : List BlockRef) (key : BlockRef) (value : ℕ) → Gathers t moment xs (Some at) found → Holds t at key value → value < moment → 16 ≤ length found
      → 16 < length (gone_of t moment xs)
  over_many at found key value g h lt full = omega (arith, ap length (over at found key value g h lt), length-append found (key ∷ gone_of t moment (after_in at xs)))
