-- Any bytes are pieces and a rest, in one way.
use Rattle.std.proofs.Common.{◌≡◌, ℕ, suc, zero, ◌+◌, ◌<◌, ◌≤◌, List, [], ◌∷◌, ◌++◌, length, flat_map, take, drop, inl, inr, refl, sym, ap, subst, ◌∙◌, arith, append_assoc}
use Rattle.std.specs.List.{AllByRecursion, concat}
use Rattle.std.proofs.lemmas.Bool.{cases_lt}
use Rattle.std.proofs.lemmas.List.{map-append, length-append, length-drop, length-take-le, take-append-drop, take-append-le, take_at, drop-append-le, drop_all}
use Rattle.byteorder.specs.Endian.{little_number}
use Rattle.byteorder.specs.Numbers.{little_from-append}
use Rattle.plain_world.proofs.Lines.{same_length}
use Rattle.plain_sessions.specs.Arrivals.{Sent, sent_by, sent_from}
use Rattle.plain_sessions.specs.Pieces.{number_in, length_in, sent_in, Stop, Outside, Inside, Unknown, sent_behind, IsPiece, IsFront, StopsAs, Pieced}
use Rattle.plain_sessions.specs.Laws.{PiecesAreThere, PiecesAreOne}

-- ---- the head stands in the first six bytes

pub number_front : (xs ys : List ℕ) → 2 ≤ length xs → number_in (xs ++ ys) ≡ number_in xs
number_front xs ys two = little_from-append 2 xs ys two

pub length_front : (xs ys : List ℕ) → 6 ≤ length xs → length_in (xs ++ ys) ≡ length_in xs
length_front xs ys six =
    let front : drop 2 (xs ++ ys) ≡ drop 2 xs ++ ys = drop-append-le 2 xs ys (omega (arith, six)) in
    let left = length-drop 2 xs in
    ap (λ l. little_number 4 l) front ∙ little_from-append 4 (drop 2 xs) ys (omega (arith, six, left))

-- behind the head, what more bytes bring stands behind
pub sent_front : (xs ys : List ℕ) → 6 ≤ length xs → sent_in (xs ++ ys) ≡ sent_in xs ++ sent_by (number_in xs) ys
sent_front xs ys six =
    let number : number_in (xs ++ ys) ≡ number_in xs = number_front xs ys (omega (arith, six)) in
    let behind : drop 6 (xs ++ ys) ≡ drop 6 xs ++ ys = drop-append-le 6 xs ys six in
    ap (λ n. sent_by n (drop 6 (xs ++ ys))) number ∙ ap (sent_by (number_in xs)) behind ∙ map-append (sent_from (number_in xs)) (drop 6 xs) ys

pub sent_none : (xs : List ℕ) → length xs < 6 → sent_in xs ≡ []
sent_none xs few = ap (sent_by (number_in xs)) (drop_all 6 xs (omega (arith, few)))

module _ (sessions : ℕ) where
  -- a piece is as long as its head says, whatever stands behind it
  piece_long : (x ys : List ℕ) → IsPiece sessions x → length x ≡ 6 + length_in (x ++ ys)
  piece_long x ys p = p.whole ∙ ap (λ n. 6 + n) (sym (length_front x ys p.headed))

  -- bytes that begin with a piece aren't a rest
  no_rest : (x ys : List ℕ) (stop : Stop) → IsPiece sessions x → StopsAs sessions (x ++ ys) stop → ⊥
  no_rest x ys Outside p h =
      let long = length-append x ys in
      let none : length (x ++ ys) ≡ 0 = ap (λ l. length l) h in
      let six = p.headed in
      omega (arith, long, none, six)
  no_rest x ys Inside p h =
      let long = length-append x ys in
      let six = p.headed in
      let few = h.wanting (omega (arith, long, six)) in
      let is = piece_long x ys p in
      omega (arith, long, few, is)
  no_rest x ys Unknown p h =
      let six = p.headed in
      let known = p.known in
      let unknown = h.unknown in
      let same = number_front x ys (omega (arith, six)) in
      omega (arith, known, unknown, same)

  -- two pieces at the front of the same bytes are one
  same_piece : (x y A B : List ℕ) → IsPiece sessions x → IsPiece sessions y → x ++ A ≡ y ++ B → (x ≡ y) × (A ≡ B)
  same_piece x y A B p q e =
      let long : length x ≡ length y = piece_long x A p ∙ ap (λ l. 6 + length_in l) e ∙ sym (piece_long y B q) in
      same_length x y A B long e

  -- a rest stops in one way
  same_stop : (rest : List ℕ) (stop other : Stop) → StopsAs sessions rest stop → StopsAs sessions rest other → stop ≡ other
  same_stop rest Outside Outside p q = refl
  same_stop rest Inside Inside p q = refl
  same_stop rest Unknown Unknown p q = refl
  same_stop rest Outside Inside p q = let none : length rest ≡ 0 = ap (λ l. length l) p in let some = q.some in absurd (omega (arith, none, some))
  same_stop rest Outside Unknown p q = let none : length rest ≡ 0 = ap (λ l. length l) p in let two = q.numbered in absurd (omega (arith, none, two))
  same_stop rest Inside Outside p q = let none : length rest ≡ 0 = ap (λ l. length l) q in let some = p.some in absurd (omega (arith, none, some))
  same_stop rest Unknown Outside p q = let none : length rest ≡ 0 = ap (λ l. length l) q in let two = p.numbered in absurd (omega (arith, none, two))
  same_stop rest Inside Unknown p q = let known = p.known q.numbered in let unknown = q.unknown in absurd (omega (arith, known, unknown))
  same_stop rest Unknown Inside p q = let known = q.known p.numbered in let unknown = p.unknown in absurd (omega (arith, known, unknown))

  -- pieces and a rest are told by their bytes
  same_pieces : (p q : List (List ℕ)) (r s : List ℕ) (stop other : Stop) → AllByRecursion (IsPiece sessions) p → AllByRecursion (IsPiece sessions) q → StopsAs sessions r stop → StopsAs sessions s other
      → concat p ++ r ≡ concat q ++ s → (flat_map sent_in p ++ sent_behind stop r ≡ flat_map sent_in q ++ sent_behind other s) × (stop ≡ other)
  same_pieces [] [] r s stop other a b h k e =
      let is : stop ≡ other = same_stop r stop other h (subst (λ l. StopsAs sessions l other) (sym e) k) in
      (ap (sent_behind stop) e ∙ ap (λ t. sent_behind t s) is, is)
  same_pieces [] (y ∷ q) r s stop other a b h k e =
      absurd (no_rest y (concat q ++ s) stop b.0 (subst (λ l. StopsAs sessions l stop) (e ∙ append_assoc y (concat q) s) h))
  same_pieces (x ∷ p) [] r s stop other a b h k e =
      absurd (no_rest x (concat p ++ r) other a.0 (subst (λ l. StopsAs sessions l other) (sym e ∙ append_assoc x (concat p) r) k))
  same_pieces (x ∷ p) (y ∷ q) r s stop other a b h k e =
      let f : x ++ (concat p ++ r) ≡ y ++ (concat q ++ s) = sym (append_assoc x (concat p) r) ∙ e ∙ append_assoc y (concat q) s in
      let one = same_piece x y (concat p ++ r) (concat q ++ s) a.0 b.0 f in
      let more = same_pieces p q r s stop other a.1 b.1 h k one.1 in (
        append_assoc (sent_in x) (flat_map sent_in p) (sent_behind stop r) ∙ ap (λ l. sent_in l ++ (flat_map sent_in p ++ sent_behind stop r)) one.0
            ∙ ap (λ l. sent_in y ++ l) more.0 ∙ sym (append_assoc (sent_in y) (flat_map sent_in q) (sent_behind other s)),
        more.1,
      )

  -- ---- what pieces bring goes on

  abbrev Grown : List Sent → List Sent → Type 0
  Grown some all = (new : List Sent) × (all ≡ some ++ new)

  grown_all : (some all : List Sent) → some ≡ [] → Grown some all
  grown_all some all e = (all, ap (λ l. l ++ all) (sym e))

  -- behind an open piece
  open_grows : (q : List (List ℕ)) (r s back : List ℕ) (other : Stop) → AllByRecursion (IsPiece sessions) q → IsFront sessions r → StopsAs sessions s other → 6 ≤ length r → r ++ back ≡ concat q ++ s
      → Grown (sent_in r) (flat_map sent_in q ++ sent_behind other s)
  open_grows [] r s back Outside b h k six e =
      let long = length-append r back in
      let none : length (r ++ back) ≡ 0 = ap (λ l. length l) (e ∙ k) in
      absurd (omega (arith, long, none, six))
  open_grows [] r s back Unknown b h k six e =
      let known = h.known (omega (arith, six)) in
      let unknown = k.unknown in
      let same : number_in s ≡ number_in r = ap number_in (sym e) ∙ number_front r back (omega (arith, six)) in
      absurd (omega (arith, known, unknown, same))
  open_grows [] r s back Inside b h k six e = (sent_by (number_in r) back, ap sent_in (sym e) ∙ sent_front r back six)
  open_grows (y ∷ q) r s back other b h k six e =
      let f : y ++ (concat q ++ s) ≡ r ++ back = sym (append_assoc y (concat q) s) ∙ sym e in
      let head : length_in (y ++ (concat q ++ s)) ≡ length_in r = ap length_in f ∙ length_front r back six in
      let long = piece_long y (concat q ++ s) b.0 in
      let few = h.wanting six in
      let z = drop (length r) y in
      let front : take (length r) y ≡ r =
      sym (take-append-le (length r) y (concat q ++ s) (omega (arith, head, long, few))) ∙ ap (take (length r)) f ∙ take_at r back (length r) refl in
      let whole : y ≡ r ++ z = sym (take-append-drop (length r) y) ∙ ap (λ l. l ++ z) front in
      let one : sent_in y ≡ sent_in r ++ sent_by (number_in r) z = ap sent_in whole ∙ sent_front r z six in
      let rest = flat_map sent_in q ++ sent_behind other s in
      (sent_by (number_in r) z ++ rest, append_assoc (sent_in y) (flat_map sent_in q) (sent_behind other s) ∙ ap (λ l. l ++ rest) one ∙ append_assoc (sent_in r) (sent_by (number_in r) z) rest)

  rest_grows : (q : List (List ℕ)) (r s back : List ℕ) (stop other : Stop) → AllByRecursion (IsPiece sessions) q → StopsAs sessions r stop → StopsAs sessions s other → r ++ back ≡ concat q ++ s
      → Grown (sent_behind stop r) (flat_map sent_in q ++ sent_behind other s)
  rest_grows q r s back Outside other b h k e = grown_all [] (flat_map sent_in q ++ sent_behind other s) refl
  rest_grows q r s back Unknown other b h k e = grown_all [] (flat_map sent_in q ++ sent_behind other s) refl
  rest_grows q r s back Inside other b h k e = elim (cases_lt (length r) 6) [
    | inl few ↦ grown_all (sent_in r) (flat_map sent_in q ++ sent_behind other s) (sent_none r few)
    | inr six ↦ open_grows q r s back other b h k six e
  ]

  pieces_grow : (p q : List (List ℕ)) (r s back : List ℕ) (stop other : Stop) → AllByRecursion (IsPiece sessions) p → AllByRecursion (IsPiece sessions) q → StopsAs sessions r stop → StopsAs sessions s other
      → (concat p ++ r) ++ back ≡ concat q ++ s → Grown (flat_map sent_in p ++ sent_behind stop r) (flat_map sent_in q ++ sent_behind other s)
  pieces_grow [] q r s back stop other a b h k e = rest_grows q r s back stop other b h k e
  pieces_grow (x ∷ p) [] r s back stop other a b h k e =
      let f : s ≡ x ++ ((concat p ++ r) ++ back) = sym e ∙ ap (λ l. l ++ back) (append_assoc x (concat p) r) ∙ append_assoc x (concat p ++ r) back in
      absurd (no_rest x ((concat p ++ r) ++ back) other a.0 (subst (λ l. StopsAs sessions l other) f k))
  pieces_grow (x ∷ p) (y ∷ q) r s back stop other a b h k e =
      let f : x ++ ((concat p ++ r) ++ back) ≡ y ++ (concat q ++ s) =
      sym (ap (λ l. l ++ back) (append_assoc x (concat p) r) ∙ append_assoc x (concat p ++ r) back) ∙ e ∙ append_assoc y (concat q) s in
      let one = same_piece x y ((concat p ++ r) ++ back) (concat q ++ s) a.0 b.0 f in
      let g = pieces_grow p q r s back stop other a.1 b.1 h k one.1 in
      let some = flat_map sent_in p ++ sent_behind stop r in
      let all = flat_map sent_in q ++ sent_behind other s in (
        g.0,
        append_assoc (sent_in y) (flat_map sent_in q) (sent_behind other s) ∙ ap (λ l. sent_in l ++ all) (sym one.0) ∙ ap (λ l. sent_in x ++ l) g.1
            ∙ sym (append_assoc (sent_in x) some g.0) ∙ ap (λ l. l ++ g.0) (sym (append_assoc (sent_in x) (flat_map sent_in p) (sent_behind stop r))),
      )

  -- ---- any bytes are pieces and a rest

  abbrev There : List ℕ → Type 0
  There bytes = (sent : List Sent) × (stop : Stop) × Pieced sessions bytes sent stop

  rest_there : (rest : List ℕ) (stop : Stop) → StopsAs sessions rest stop → There rest
  rest_there rest stop h = (sent_behind stop rest, stop, record { pieces = []; rest = rest; each = tt; whole = refl; stands = h; brings = refl })

  piece_there : (piece bytes : List ℕ) → IsPiece sessions piece → There bytes → There (piece ++ bytes)
  piece_there piece bytes p t =
      let all = t.2 in (
        sent_in piece ++ t.0,
        t.1,
        record {
          pieces = piece ∷ all.pieces;
          rest = all.rest;
          each = (p, all.each);
          whole = ap (λ l. piece ++ l) all.whole ∙ sym (append_assoc piece (concat all.pieces) all.rest);
          stands = all.stands;
          brings = ap (λ l. sent_in piece ++ l) all.brings ∙ sym (append_assoc (sent_in piece) (flat_map sent_in all.pieces) (sent_behind t.1 all.rest));
        },
      )

  -- the first piece
  module _ (bytes : List ℕ) (six : 6 ≤ length bytes) (known : number_in bytes < sessions) (long : 6 + length_in bytes ≤ length bytes) where
    first_long : length (take (6 + length_in bytes) bytes) ≡ 6 + length_in bytes
    first_long = length-take-le (6 + length_in bytes) bytes long

    first_is : IsPiece sessions (take (6 + length_in bytes) bytes)
    first_is =
        let x = take (6 + length_in bytes) bytes in
        let y = drop (6 + length_in bytes) bytes in
        let whole : x ++ y ≡ bytes = take-append-drop (6 + length_in bytes) bytes in
        let enough : 6 ≤ length x = omega (arith, first_long) in
        let number : number_in bytes ≡ number_in x = ap number_in (sym whole) ∙ number_front x y (omega (arith, enough)) in
        let len : length_in bytes ≡ length_in x = ap length_in (sym whole) ∙ length_front x y enough in
        record { headed = enough; known = subst (λ n. n < sessions) number known; whole = first_long ∙ ap (λ n. 6 + n) len }

  pieces_there : (n : ℕ) (bytes : List ℕ) → length bytes ≤ n → There bytes
  pieces_there n [] h = rest_there [] Outside refl
  pieces_there zero (b ∷ bytes) h = absurd (omega (arith, h))
  pieces_there (suc n) (b ∷ bytes) h = elim (cases_lt (length (b ∷ bytes)) 2) [
    | inl one ↦ rest_there (b ∷ bytes) Inside (record { some = omega arith; known = λ two. absurd (omega (arith, one, two)); wanting = λ six. absurd (omega (arith, one, six)) })
    | inr two ↦ elim (cases_lt (number_in (b ∷ bytes)) sessions) [
      | inr unknown ↦ rest_there (b ∷ bytes) Unknown (record { numbered = two; unknown = unknown })
      | inl known ↦ elim (cases_lt (length (b ∷ bytes)) 6) [
        | inl few ↦ rest_there (b ∷ bytes) Inside (record { some = omega arith; known = λ two. known; wanting = λ six. absurd (omega (arith, few, six)) })
        | inr six ↦ elim (cases_lt (length (b ∷ bytes)) (6 + length_in (b ∷ bytes))) [
          | inl wanting ↦ rest_there (b ∷ bytes) Inside (record { some = omega arith; known = λ two. known; wanting = λ six. wanting })
          | inr long ↦
              let k = 6 + length_in (b ∷ bytes) in
              let left = length-drop k (b ∷ bytes) in
              let fewer : length (drop k (b ∷ bytes)) ≤ n = omega (arith, left, h, long) in
              subst There (take-append-drop k (b ∷ bytes))
              (piece_there (take k (b ∷ bytes)) (drop k (b ∷ bytes)) (first_is (b ∷ bytes) six known long) (pieces_there n (drop k (b ∷ bytes)) fewer))
        ]
      ]
    ]
  ]

pub pieces_are_there : PiecesAreThere
pieces_are_there sessions bytes = pieces_there sessions (length bytes) bytes (omega arith)

pub pieces_are_one : PiecesAreOne
pieces_are_one sessions bytes sent other stop stop' p q =
    let r = same_pieces sessions p.pieces q.pieces p.rest q.rest stop stop' p.each q.each p.stands q.stands (sym p.whole ∙ q.whole) in
    (p.brings ∙ r.0 ∙ sym q.brings, r.1)

pub sent_grows : (sessions : ℕ) (front back : List ℕ) (some all : List Sent) (stop stop' : Stop) → Pieced sessions front some stop → Pieced sessions (front ++ back) all stop'
    → (new : List Sent) × (all ≡ some ++ new)
sent_grows sessions front back some all stop stop' p q =
    let g = pieces_grow sessions p.pieces q.pieces p.rest q.rest back stop stop' p.each q.each p.stands q.stands (ap (λ l. l ++ back) (sym p.whole) ∙ q.whole) in
    (g.0, q.brings ∙ g.1 ∙ ap (λ l. l ++ g.0) (sym p.brings))
