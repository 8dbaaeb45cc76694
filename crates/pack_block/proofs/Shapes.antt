-- Parts of lists in other places.
use Rattle.std.proofs.Common.{◌≡◌, ℕ, ◌+◌, ◌-◌, ◌≤◌, List, [], ◌++◌, length, take, drop, replicate, sym, ap, ◌∙◌, arith, take-add, take_at, drop_at, drop-drop, length-append}
use Rattle.std.proofs.lemmas.List.{take-append-le, drop-append-le, take_all, drop_all, append-nil, append_assoc, length-take-le, length-drop, length-replicate, take-append-drop}
use Rattle.blocks.specs.Blocks.{overwritten, resized, shifted}
use Rattle.pack_block.specs.Gap.{spliced}

-- a piece behind the one before it
pub overwritten_next : (over p q : List ℕ) (to : ℕ) → to ≤ length over → overwritten (overwritten over to p) (to + length p) q ≡ overwritten over to (p ++ q)
overwritten_next over p q to h =
    let a : List ℕ = take to over in
    let n : ℕ = to + length p in
    let long : length (a ++ p) ≡ n = omega (arith, length-append a p, length-take-le to over h) in
    let behind : drop (n + length q) (overwritten over to p) ≡ drop (n + length q) over =
    sym (drop-drop (length q) n (overwritten over to p)) ∙ ap (drop (length q)) (drop_at (a ++ p) (drop n over) n long) ∙ drop-drop (length q) n over in
    let joined : n + length q ≡ to + length (p ++ q) = omega (arith, length-append p q) in
    ap (λ (xs : List ℕ). (xs ++ q) ++ drop (n + length q) (overwritten over to p)) (take_at (a ++ p) (drop n over) n long)
    ∙ ap (λ (xs : List ℕ). ((a ++ p) ++ q) ++ xs) behind
    ∙ ap (λ (xs : List ℕ). xs ++ drop (n + length q) over) (append_assoc a p q)
    ∙ ap (λ (k : ℕ). (a ++ (p ++ q)) ++ drop k over) joined

-- what stands in a gap
abbrev pub gap_in : List ℕ → ℕ → ℕ → List ℕ
gap_in xs from room = take room (drop from xs)

pub gap_wide : (xs : List ℕ) (from room : ℕ) → from + room ≤ length xs → length (gap_in xs from room) ≡ room
gap_wide xs from room h = length-take-le room (drop from xs) (omega (arith, length-drop from xs))

-- bytes up to the end of a gap, and others behind it
front_gap : (xs t : List ℕ) (from room : ℕ) → take (from + room) xs ++ t ≡ take from xs ++ (gap_in xs from room ++ t)
front_gap xs t from room = ap (λ (ys : List ℕ). ys ++ t) (take-add from room xs) ∙ append_assoc (take from xs) (gap_in xs from room) t

length_behind : (bs : List ℕ) (from size : ℕ) → length (drop (from + size) bs) ≡ length bs - from - size
length_behind bs from size = omega (arith, length-drop (from + size) bs)

-- longer bytes, of which those behind a place moved to the end of a gap
pub moved_up : (bs zs : List ℕ) (from size room : ℕ) → from + size ≤ length bs → length zs + size ≡ room
    → shifted (bs ++ zs) (from + size) (from + room) (length bs - from - size) ≡ spliced bs from size (gap_in (bs ++ zs) from room)
moved_up bs zs from size room inside wider =
    let xs : List ℕ = bs ++ zs in
    let t : List ℕ = drop (from + size) bs in
    let c : ℕ = length bs - from - size in
    let long = length_behind bs from size in
    let moved : take c (drop (from + size) xs) ≡ t = ap (take c) (drop-append-le (from + size) bs zs inside) ∙ take_at t zs c long in
    let m : List ℕ = take c (drop (from + size) xs) in
    let none : drop (from + room + length m) xs ≡ [] = drop_all (from + room + length m) xs (omega (arith, inside, wider, long, ap length moved, length-append bs zs)) in
    ap (λ (ys : List ℕ). (take (from + room) xs ++ m) ++ ys) none
    ∙ append-nil (take (from + room) xs ++ m)
    ∙ ap (λ (ys : List ℕ). take (from + room) xs ++ ys) moved
    ∙ front_gap xs t from room
    ∙ ap (λ (ys : List ℕ). ys ++ (gap_in xs from room ++ t)) (take-append-le from bs zs (omega (arith, inside)))

pub shifted_wider : (bs : List ℕ) (from size room : ℕ) → from + size ≤ length bs → size ≤ room
    → shifted (resized bs (length bs - size + room)) (from + size) (from + room) (length bs - from - size)
    ≡ spliced bs from size (gap_in (bs ++ replicate (length bs - size + room - length bs) 0) from room)
shifted_wider bs from size room inside wider =
    let n : ℕ = length bs - size + room in
    let zs : List ℕ = replicate (n - length bs) 0 in
    let many : length zs + size ≡ room = omega (arith, inside, wider, length-replicate {A = ℕ} (n - length bs) 0) in
    let more : length bs ≤ n = omega (arith, inside, wider) in
    ap (λ (ys : List ℕ). shifted (ys ++ zs) (from + size) (from + room) (length bs - from - size)) (take_all n bs more) ∙ moved_up bs zs from size room inside many

-- bytes of which those behind a place moved to the end of a gap, and then shorter
pub shifted_narrower : (bs : List ℕ) (from size room : ℕ) → from + size ≤ length bs → room ≤ size
    → resized (shifted bs (from + size) (from + room) (length bs - from - size)) (length bs - size + room) ≡ spliced bs from size (gap_in bs from room)
shifted_narrower bs from size room inside narrower =
    let t : List ℕ = drop (from + size) bs in
    let c : ℕ = length bs - from - size in
    let n : ℕ = length bs - size + room in
    let long = length_behind bs from size in
    let m : List ℕ = take c t in
    let moved : m ≡ t = take_all c t (omega (arith, long)) in
    let front : List ℕ = take (from + room) bs ++ m in
    let rest : List ℕ = drop (from + room + length m) bs in
    let front_long : length front ≡ n =
    omega (arith, inside, narrower, long, ap length moved, length-append (take (from + room) bs) m, length-take-le (from + room) bs (omega (arith, inside, narrower))) in
    let none : n - length (front ++ rest) ≡ 0 = omega (arith, front_long, length-append front rest) in
    ap (λ (k : ℕ). take n (front ++ rest) ++ replicate k 0) none
    ∙ append-nil (take n (front ++ rest))
    ∙ take_at front rest n front_long
    ∙ ap (λ (ys : List ℕ). take (from + room) bs ++ ys) moved
    ∙ front_gap bs t from room

-- both parts written into other bytes
pub copied_around : (zs bs : List ℕ) (from size room : ℕ) → from + size ≤ length bs → length zs ≡ length bs - size + room
    → overwritten (overwritten zs 0 (take from bs)) (from + room) (take (length bs - from - size) (drop (from + size) bs))
    ≡ spliced bs from size (gap_in (overwritten zs 0 (take from bs)) from room)
copied_around zs bs from size room inside many =
    let a : List ℕ = take from bs in
    let k : List ℕ = drop (0 + length a) zs in
    let t : List ℕ = drop (from + size) bs in
    let c : ℕ = length bs - from - size in
    let long = length_behind bs from size in
    let m : List ℕ = take c t in
    let moved : m ≡ t = take_all c t (omega (arith, long)) in
    let front : length a ≡ from = length-take-le from bs (omega (arith, inside)) in
    let first : List ℕ = a ++ k in
    let whole : length first ≡ length bs - size + room = omega (arith, inside, many, front, length-append a k, length-drop (0 + length a) zs) in
    let none : drop (from + room + length m) first ≡ [] = drop_all (from + room + length m) first (omega (arith, inside, whole, long, ap length moved)) in
    ap (λ (ys : List ℕ). (take (from + room) first ++ m) ++ ys) none
    ∙ append-nil (take (from + room) first ++ m)
    ∙ ap (λ (ys : List ℕ). take (from + room) first ++ ys) moved
    ∙ front_gap first t from room
    ∙ ap (λ (ys : List ℕ). ys ++ (gap_in first from room ++ t)) (take_at a k from front)

pub length_around : (zs bs : List ℕ) (from : ℕ) → from ≤ length bs → from ≤ length zs → length (overwritten zs 0 (take from bs)) ≡ length zs
length_around zs bs from inside room =
    let a : List ℕ = take from bs in
    omega (arith, inside, room, length-take-le from bs inside, length-append a (drop (0 + length a) zs), length-drop (0 + length a) zs)

-- nothing put over bytes
pub overwritten_none : (over : List ℕ) (to : ℕ) → overwritten over to [] ≡ over
overwritten_none over to =
    let here' : to + 0 ≡ to = omega arith in
    ap (λ (xs : List ℕ). xs ++ drop (to + 0) over) (append-nil (take to over)) ∙ ap (λ (k : ℕ). take to over ++ drop k over) here' ∙ take-append-drop to over

-- bytes at the length that they have
pub resized_same : (bytes : List ℕ) → resized bytes (length bytes) ≡ bytes
resized_same bytes =
    let none : length bytes - length bytes ≡ 0 = omega arith in
    let all : length bytes ≤ length bytes = omega arith in
    ap (λ (k : ℕ). take (length bytes) bytes ++ replicate k 0) none ∙ append-nil (take (length bytes) bytes) ∙ take_all (length bytes) bytes all

-- a gap as wide as what stands there
pub spliced_same : (bytes : List ℕ) (from size : ℕ) → bytes ≡ spliced bytes from size (gap_in bytes from size)
spliced_same bytes from size = sym (take-append-drop (from + size) bytes) ∙ front_gap bytes (drop (from + size) bytes) from size
