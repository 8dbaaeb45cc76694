-- The last entry of a node stands at the end of its list.
use Rattle.std.proofs.Common.{◌≡◌, ℕ, ◌+◌, ◌-◌, ◌<◌, List, [], ◌∷◌, ◌++◌, length, drop, get_or, refl, sym, ap, subst, ◌∙◌, arith, length-append}
use Rattle.std.specs.Prelude.{Option, Some, None}
use Rattle.std.proofs.lemmas.List.{append_assoc, drop_at}
use Rattle.int_text.specs.Decimal.{canonical}
use Rattle.stream_node.specs.declared.id.Id.{Id}
use Rattle.stream_node.specs.Ending.{EndsIn}
use Rattle.stream_node.specs.Entries.{IsNode, entries_of}
use Rattle.stream_node.specs.Entry.{Stored, IsStart, IsEntry, number, flags, body, size}
use Rattle.stream_node.specs.Node.{Node, Begins, last_id}
use Rattle.stream_node.proofs.Lists.{Texts}

-- more elements in front
in_front : (key : Id) (list front behind : Texts) (id : Id) → list ≡ front ++ behind → EndsIn key behind id → EndsIn key list id
in_front key list front behind id is ends = record {
  front = front ++ ends.front;
  middle = ends.middle;
  deleted = ends.deleted;
  same = ends.same;
  behind = ends.behind;
  whole = is ∙ ap (λ (xs : Texts). front ++ xs) ends.whole ∙ sym (append_assoc front ends.front (ends.middle ++ number (length ends.middle) ∷ []));
  start = ends.start;
}

module _ (key : Id) (master list : Texts) (e : Stored) (rest : Texts) (is : IsEntry key master list e rest) where
  -- the entry's elements but for the last one
  abbrev own : Texts
  own = number (flags e.deleted is.same) ∷ canonical is.start.ms ∷ canonical is.start.seq ∷ body is.same e.pairs

  many : size (body is.same e.pairs) ≡ length own
  many = omega arith

  split : list ≡ own ++ number (length own) ∷ rest
  split =
      is.start.elements
      ∙ ap (λ (xs : Texts). number (flags e.deleted is.same) ∷ canonical is.start.ms ∷ canonical is.start.seq ∷ xs) is.pairs.elements
      ∙ ap (λ (n : ℕ). own ++ number n ∷ rest) many

  -- one entry is the end where nothing follows
  entry_ends : rest ≡ [] → EndsIn key list e.id
  entry_ends none =
      let whole : list ≡ own ++ number (length own) ∷ [] = split ∙ ap (λ (xs : Texts). own ++ number (length own) ∷ xs) none in
      record {
        front = [];
        middle = own;
        deleted = e.deleted;
        same = is.same;
        behind = is.behind;
        whole = whole;
        start = subst (λ (xs : Texts). IsStart key xs e.deleted is.same e.id is.behind) whole is.start;
      }

  -- and else the list ends as what follows
  rest_ends : (id : Id) → EndsIn key rest id → EndsIn key list id
  rest_ends id ends = in_front key list (own ++ number (length own) ∷ []) rest id (split ∙ sym (append_assoc own (number (length own) ∷ []) rest)) ends

begins_end : (key : Id) (master list : Texts) (before : Option Id) (e : Stored) (es : List Stored) → Begins key master before list (e ∷ es) []
    → (id : Id) × (last_id before (e ∷ es) ≡ Some id) × EndsIn key list id
unfolding Begins last_id
begins_end key master list before e [] b = (e.id, refl, entry_ends key master list e b.0 b.1 b.3)
begins_end key master list before e (f ∷ es) b =
    let more = begins_end key master b.0 (Some e.id) f es b.3 in
    (more.0, more.1, rest_ends key master list e b.0 b.1 more.0 more.2)

some_end : (key : Id) (list : Texts) (es : List Stored) → Node key list es → 0 < length es → (id : Id) × (last_id None es ≡ Some id) × EndsIn key list id
some_end key list [] n some = absurd (omega (arith, some))
some_end key list (e ∷ es) n some =
    let more = begins_end key n.master n.behind None e es n.all_entries in
    let head : Texts = number n.live ∷ number n.deleted ∷ number (length n.master) ∷ (n.master ++ number 0 ∷ []) in
    let whole : list ≡ head ++ n.behind =
    n.head.elements
    ∙ ap (λ (xs : Texts). number n.live ∷ number n.deleted ∷ number (length n.master) ∷ xs) (sym (append_assoc n.master (number 0 ∷ []) n.behind)) in
    (more.0, more.1, in_front key list head n.behind more.0 whole more.2)

-- a node with an entry ends with its last one
pub node_ends : (key : Id) (list : Texts) → IsNode key list → 0 < length (entries_of key list) → (id : Id) × (last_id None (entries_of key list) ≡ Some id) × EndsIn key list id
node_ends key list n some = some_end key list (entries_of key list) n some

-- a node without one has no last id
pub no_end : (es : List Stored) → length es ≡ 0 → last_id None es ≡ None
unfolding last_id
no_end [] none = refl
no_end (e ∷ es) none = absurd (omega (arith, none))

-- ---- the elements at the end

-- the last elements of a list that ends so
pub last_are : (list front own : Texts) (n : ℕ) → list ≡ front ++ own → n ≡ length own → drop (length list - n) list ≡ own
last_are list front own n is many =
    ap (drop (length list - n)) is ∙ drop_at front own (length list - n) (omega (arith, ap length is, length-append front own, many))

pub last_is : (list front middle : Texts) → list ≡ front ++ (middle ++ number (length middle) ∷ []) → drop (length list - 1) list ≡ number (length middle) ∷ []
last_is list front middle is =
    last_are list (front ++ middle) (number (length middle) ∷ []) 1 (is ∙ sym (append_assoc front middle (number (length middle) ∷ []))) (omega arith)

-- how many elements such a list has at least
pub end_inside : (list front middle : Texts) → list ≡ front ++ (middle ++ number (length middle) ∷ []) → length middle + 1 + length front ≡ length list
end_inside list front middle is =
    omega (arith, ap length is, length-append front (middle ++ number (length middle) ∷ []), length-append middle (number (length middle) ∷ []))

-- two numbers that a list begins with are one text
pub first_same : (list : Texts) (a b : List ℕ) (xs ys : Texts) → list ≡ a ∷ xs → list ≡ b ∷ ys → a ≡ b
first_same list a b xs ys e f = ap (λ (zs : Texts). get_or zs 0 []) (sym e ∙ f)
