-- Each stream is read in one way.
use Rattle.std.proofs.Common.{◌≡◌, ℕ, zero, suc, ◌+◌, ◌-◌, ◌<◌, ◌≤◌, List, [], ◌∷◌, ◌++◌, length, ap, sym, subst, ◌∙◌, refl, arith, length-append}
use Rattle.std.specs.Prelude.{flat_map}
use Rattle.std.specs.List.{AllByRecursion}
use Rattle.std.proofs.lemmas.List.{append_assoc}
use Rattle.std.proofs.lemmas.List.Concat.{flat_map-append}
use Rattle.plain_world.specs.Words.{Words}
use Rattle.resp_frames.specs.Frames.{Item, Asked, Passed, Line, item_bytes, IsItem, asked, requests, Framed}
use Rattle.resp_frames.specs.Ends.{End, Whole, Cut, Fault, BreaksAt, EndsAs, Frames}
use Rattle.resp_frames.specs.Reading.{Read, Took, Open, Wrong, read_item}
use Rattle.resp_frames.proofs.Items.{item_again, item_first, item_is, item_none, ItemIs, cut_from_open, fault_within, fault_stays}
use Rattle.resp_frames.specs.declared.rule.Rule.{Rule}

-- two items at the front of the same bytes are one
pub item_unique : (x y : Item) (A B : List ℕ) → IsItem x → IsItem y → item_bytes x ++ A ≡ item_bytes y ++ B → (x ≡ y) × (A ≡ B)
item_unique x y A B p q e =
    let f : (let r : Read Item = Took x A in r) ≡ Took y B = sym (item_again x A p) ∙ ap read_item e ∙ item_again y B q in
    (cc, cc)

item_some : (x : Item) (A : List ℕ) → item_bytes x ++ A ≡ [] → ⊥
item_some (Asked words) A e = cc
item_some (Passed text) A e = cc
item_some (Line text) A e = absurd (omega (arith, ap length e, length-append (text ++ 10 ∷ []) A, length-append text (10 ∷ [])))

-- the end of a stream doesn't begin with an item
no_item_left : (bytes : List ℕ) (x : Item) (A : List ℕ) (end : End) → IsItem x → EndsAs bytes (item_bytes x ++ A) end → ⊥
no_item_left bytes x A Whole p e = item_some x A e
no_item_left bytes x A Cut p e = e.open_yet x A p refl
no_item_left bytes x A (Fault rule at) p e =
    let f = item_first (item_bytes x ++ A) rule e.0 e.1 in
    let g = item_again x A p in
    cc

-- the items at the front of bytes are the first of all items
items_prefix : (bytes : List ℕ) (xs ys : List Item) (A rest : List ℕ) (end : End) → AllByRecursion IsItem xs → AllByRecursion IsItem ys → EndsAs bytes rest end → flat_map item_bytes xs
    ++ A ≡ flat_map item_bytes ys ++ rest →
    (zs : List Item) × (ys ≡ xs ++ zs) × (A ≡ flat_map item_bytes zs ++ rest)
items_prefix bytes [] ys A rest end p q e is = (ys, refl, is)
items_prefix bytes (x ∷ xs) [] A rest end p q e is =
    let P : List ℕ → Type 0 = λ l. EndsAs bytes l end in
    absurd (no_item_left bytes x (flat_map item_bytes xs ++ A) end p.0 (subst P (sym is ∙ append_assoc (item_bytes x) (flat_map item_bytes xs) A) e))
items_prefix bytes (x ∷ xs) (y ∷ ys) A rest end p q e is =
    let r = item_unique x y _ _ p.0 q.0 (sym (append_assoc (item_bytes x) (flat_map item_bytes xs) A) ∙ is ∙ append_assoc (item_bytes y) (flat_map item_bytes ys) rest) in
    let s = items_prefix bytes xs ys A rest end p.1 q.1 e r.1 in
    (s.0, ap (λ l. y ∷ l) s.1 ∙ ap (λ z. z ∷ (xs ++ s.0)) (sym r.0), s.2)

pub requests_grow : (front back : List ℕ) (p q : List Words) (e f : End) → Frames front p e → Frames (front ++ back) q f → (more : List Words) × (q ≡ p ++ more)
requests_grow front back p q e f a b =
    let is : flat_map item_bytes a.items ++ (a.rest ++ back) ≡ flat_map item_bytes b.items ++ b.rest =
    sym (append_assoc (flat_map item_bytes a.items) a.rest back) ∙ ap (λ l. l ++ back) (sym a.framed.whole) ∙ b.framed.whole in
    let r = items_prefix (front ++ back) a.items b.items (a.rest ++ back) b.rest f a.framed.each b.framed.each b.ends is in
    (requests r.0, sym b.are ∙ ap requests r.1 ∙ flat_map-append asked a.items r.0 ∙ ap (λ l. l ++ requests r.0) a.are)

-- the requests that are taken off the front of bytes are the first of theirs
pub requests_first : (bytes : List ℕ) (items : List Item) (rest : List ℕ) (p : List Words) (e : End) → Framed bytes items rest → Frames bytes p e → (more : List Words) × (p ≡ requests items ++ more)
requests_first bytes items rest p e f a =
    let r = items_prefix bytes items a.items rest a.rest e f.each a.framed.each a.ends (sym f.whole ∙ a.framed.whole) in
    (requests r.0, sym a.are ∙ ap requests r.1 ∙ flat_map-append asked items r.0)

-- two ends of one rest are one
one_end : (bytes rest : List ℕ) (e f : End) → EndsAs bytes rest e → EndsAs bytes rest f → e ≡ f
one_end bytes rest Whole Whole p q = refl
one_end bytes rest Whole Cut p q = absurd (q.some p)
one_end bytes rest Whole (Fault rule at) p q = let a = item_first rest rule q.0 q.1 in let b = ap read_item p ∙ item_none in cc
one_end bytes rest Cut Whole p q = absurd (p.some q)
one_end bytes rest Cut Cut p q = refl
one_end bytes rest Cut (Fault rule at) p q = absurd (p.sound rule q.0 q.1)
one_end bytes rest (Fault rule at) Whole p q = let a = item_first rest rule p.0 p.1 in let b = ap read_item q ∙ item_none in cc
one_end bytes rest (Fault rule at) Cut p q = absurd (q.sound rule p.0 p.1)
one_end bytes rest (Fault rule at) (Fault rule' at') p q =
    let f : (let r : Read Item = Wrong rule p.0 in r) ≡ Wrong rule' q.0 = sym (item_first rest rule p.0 p.1) ∙ item_first rest rule' q.0 q.1 in
    let same : rule ≡ rule' = cc in
    let from : p.0 ≡ q.0 = cc in
    let place : at ≡ at' = omega (arith, p.2, q.2, ap length from) in
    ap (λ r. Fault r at) same ∙ ap (Fault rule') place

-- the items of a stream, up to its end
one_reading : (bytes : List ℕ) (xs ys : List Item) (a b : List ℕ) (e f : End) → AllByRecursion IsItem xs → AllByRecursion IsItem ys → EndsAs bytes a e → EndsAs bytes b f
    → flat_map item_bytes xs ++ a ≡ flat_map item_bytes ys ++ b → (xs ≡ ys) × (a ≡ b)
one_reading bytes [] [] a b e f p q s t is = (refl, is)
one_reading bytes [] (y ∷ ys) a b e f p q s t is =
    let P : List ℕ → Type 0 = λ l. EndsAs bytes l e in
    absurd (no_item_left bytes y (flat_map item_bytes ys ++ b) e q.0 (subst P (is ∙ append_assoc (item_bytes y) (flat_map item_bytes ys) b) s))
one_reading bytes (x ∷ xs) [] a b e f p q s t is =
    let P : List ℕ → Type 0 = λ l. EndsAs bytes l f in
    absurd (no_item_left bytes x (flat_map item_bytes xs ++ a) f p.0 (subst P (sym is ∙ append_assoc (item_bytes x) (flat_map item_bytes xs) a) t))
one_reading bytes (x ∷ xs) (y ∷ ys) a b e f p q s t is =
    let r = item_unique x y _ _ p.0 q.0 (sym (append_assoc (item_bytes x) (flat_map item_bytes xs) a) ∙ is ∙ append_assoc (item_bytes y) (flat_map item_bytes ys) b) in
    let u = one_reading bytes xs ys a b e f p.1 q.1 s t r.1 in
    (ap (λ z. z ∷ xs) r.0 ∙ ap (λ l. y ∷ l) u.0, u.1)

pub one_frames : (bytes : List ℕ) (p q : List Words) (e f : End) → Frames bytes p e → Frames bytes q f → (p ≡ q) × (e ≡ f)
one_frames bytes p q e f a b =
    let r = one_reading bytes a.items b.items a.rest b.rest e f a.framed.each b.framed.each a.ends b.ends (sym a.framed.whole ∙ b.framed.whole) in
    let P : List ℕ → Type 0 = λ l. EndsAs bytes l e in
    (sym a.are ∙ ap requests r.0 ∙ b.are, one_end bytes b.rest e f (subst P r.1 a.ends) b.ends)

-- all bytes have frames

-- the items of some bytes, and how the rest of them ends, in a stream with so many bytes before them
record Streamed (before : ℕ) (bytes : List ℕ) : Type 0 where
  items : List Item
  rest : List ℕ
  end : End
  framed : Framed bytes items rest
  ends : (all : List ℕ) → length all ≡ before + length bytes → EndsAs all rest end

ends_here : (before : ℕ) (bytes : List ℕ) → (x : Read Item) → read_item bytes ≡ x → ItemIs bytes x → ((y : Item) (rest : List ℕ) → x ≡ Took y rest → ⊥) → Streamed before bytes
ends_here before bytes (Took y rest) e h no_more = absurd (no_more y rest refl)
ends_here before [] Open e h no_more = record { items = []; rest = []; end = Whole; framed = record { whole = refl; each = tt }; ends = λ all n. refl }
ends_here before (b ∷ bytes) Open e h no_more = record
    { items = []; rest = b ∷ bytes; end = Cut; framed = record { whole = refl; each = tt }; ends = λ all n. cut_from_open (b ∷ bytes) e (λ none. cc) }
ends_here before bytes (Wrong rule from) e h no_more =
    let within : length from ≤ length bytes = fault_within bytes rule from h in
    record {
      items = [];
      rest = bytes;
      end = Fault rule (before + length bytes - length from);
      framed = record { whole = refl; each = tt };
      ends = λ all n. (from, h, omega arith);
    }

item_long : (x : Item) → 0 < length (item_bytes x)
item_long (Asked words) = omega arith
item_long (Passed text) = omega arith
item_long (Line text) = omega (arith, length-append text (10 ∷ []))

read_next : (fuel before : ℕ) (bytes : List ℕ) → ((more : ℕ) (rest : List ℕ) → length rest ≤ fuel → Streamed more rest) → length bytes ≤ suc fuel → (x : Read Item) → read_item bytes ≡ x
    → ItemIs bytes x → Streamed before bytes
read_next fuel before bytes again le (Took y rest) e h =
    let n : length bytes ≡ length (item_bytes y ++ rest) = ap length h.1 in
    let m : length (item_bytes y ++ rest) ≡ length (item_bytes y) + length rest = length-append (item_bytes y) rest in
    let r = again (before + length (item_bytes y)) rest (omega (arith, item_long y)) in
    record {
      items = y ∷ r.items;
      rest = r.rest;
      end = r.end;
      framed = record { whole = h.1 ∙ ap (λ l. item_bytes y ++ l) r.framed.whole ∙ sym (append_assoc (item_bytes y) (flat_map item_bytes r.items) r.rest); each = (h.0, r.framed.each) };
      ends = λ all k. r.ends all (omega arith);
    }
read_next fuel before bytes again le Open e h = ends_here before bytes Open e h (λ y rest is. cc)
read_next fuel before bytes again le (Wrong rule from) e h = ends_here before bytes (Wrong rule from) e h (λ y rest is. cc)

read_out : (fuel before : ℕ) (bytes : List ℕ) → length bytes ≤ fuel → Streamed before bytes
read_out zero before [] le = ends_here before [] Open item_none tt (λ y rest is. cc)
read_out zero before (b ∷ bytes) le = absurd (omega arith)
read_out (suc fuel) before bytes le = read_next fuel before bytes (read_out fuel) le (read_item bytes) refl (item_is bytes)

pub frames_there : (bytes : List ℕ) → (asked : List Words) × (end : End) × Frames bytes asked end
frames_there bytes =
    let r = read_out (length bytes) 0 bytes (omega arith) in
    (requests r.items, r.end, record { items = r.items; rest = r.rest; framed = r.framed; are = refl; ends = r.ends bytes (omega arith) })

-- a fault stays where it is

pub breaks_stay : (bytes rest back : List ℕ) (rule : Rule) (at : ℕ) → BreaksAt bytes rest rule at → BreaksAt (bytes ++ back) (rest ++ back) rule at
breaks_stay bytes rest back rule at h =
    (h.0 ++ back, fault_stays rest rule h.0 back h.1, let n : at + length h.0 ≡ length bytes = h.2 in omega (arith, length-append h.0 back, length-append bytes back))

pub framed_more : (bytes rest more : List ℕ) (items : List Item) → Framed bytes items rest → Framed (bytes ++ more) items (rest ++ more)
framed_more bytes rest more items f = record { whole = ap (λ l. l ++ more) f.whole ∙ append_assoc (flat_map item_bytes items) rest more; each = f.each }

pub fault_frames : (front back : List ℕ) (p : List Words) (rule : Rule) (at : ℕ) → Frames front p (Fault rule at) → Frames (front ++ back) p (Fault rule at)
fault_frames front back p rule at a = record {
  items = a.items;
  rest = a.rest ++ back;
  framed = framed_more front a.rest back a.items a.framed;
  are = a.are;
  ends = breaks_stay front a.rest back rule at a.ends;
}
