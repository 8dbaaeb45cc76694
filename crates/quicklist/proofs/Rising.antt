-- Lists after an edit: their elements, and how their form rises.
use Rattle.std.proofs.Common.{◌≡◌, ◌⊎◌, ℕ, ◌+◌, ◌<◌, ◌≤◌, List, [], ◌∷◌, ◌++◌, length, map, take, drop, refl, ap, ◌∙◌, sym, subst, inl, inr, arith, flat_map, Result, Ok, Err, Option, Some, None}
use Rattle.std.specs.Prelude.{OnOk, IfSome, IfNone}
use Rattle.std.proofs.lemmas.List.{append-nil, length-map, drop_all}
use Rattle.object_codec.specs.declared.form.Form.{Form}
use Rattle.object_codec.specs.declared.form.Form.TheVariants.{Intset, Listpack, Hashtable, Skiplist, Quicklist, Stream}
use Rattle.object_codec.specs.Forms.{rank, FitsList}
use Rattle.blocks.specs.Blocks.{Blocks}
use Rattle.quicklist.specs.declared.node.Container.{Container}
use Rattle.quicklist.specs.declared.node.Container.TheVariants.{Packed}
use Rattle.quicklist.specs.declared.node.Node.{Node}
use Rattle.quicklist.specs.declared.piece.Piece.{Piece}
use Rattle.quicklist.specs.Nodes.{pack_len, three, Exchanged, piece_list, container_of, container_of_piece, elements_of}
use Rattle.quicklist.specs.Chain.{Chain, IsFormed, IsChanged, IsWritten, IsOverfull, IsRisen, respelled}

-- what follows of an answer's `Ok`
pub on_ok : {A E P Q : Type 0} (r : Result A E) → (P → Q) → OnOk r P → OnOk r Q
on_ok (Ok x) f p = f p
on_ok (Err e) f p = tt

pub on_ok_three : {A E P Q R S : Type 0} (r : Result A E) → (P → Q → R → S) → OnOk r P → OnOk r Q → OnOk r R → OnOk r S
on_ok_three (Ok x) f p q s = f p q s
on_ok_three (Err e) f p q s = tt

pub at_some : {A : Type 0} (P : A → Type 0) (o : Option A) (x : A) → o ≡ Some x → IfSome o P → P x
at_some P o x is h = let Q : Option _ → Type 0 = λ y. IfSome y P in subst Q is h

pub at_none : {A P : Type 0} (o : Option A) → o ≡ None → IfNone o P → P
at_none {P = P} o is h = let Q : Option _ → Type 0 = λ y. IfNone y P in subst Q is h

pub changed_by : (m n : Blocks) (old new : Chain) (list : List (List ℕ)) (k e len : ℕ) (form : Form) (pieces : List Piece) → list ≡ respelled m old k (flat_map piece_list pieces) e → len ≡ length list
    → IsFormed form (take k (map container_of old.nodes) ++ (map container_of_piece pieces ++ drop e (map container_of old.nodes)))
    → Exchanged m n old.nodes new.nodes k e pieces → new.len ≡ len → new.form ≡ form → IsChanged m n old new list
changed_by m n old new list k e len form pieces is counted formed x len_is form_is = record {
  quick = record {
    chain = x.chain;
    counted = len_is ∙ counted ∙ ap length (is ∙ sym x.list);
    formed = subst (λ (f : Form). IsFormed f (map container_of new.nodes)) (sym form_is) (subst (IsFormed form) (sym x.containers) formed);
  };
  list_is = x.list ∙ sym is;
  changes = x.changes;
}

-- one packed node in the place of another
one_pack : (cs : List Container) (k : ℕ) → k < length cs → (cs ≡ []) ⊎ (cs ≡ Packed ∷ []) → (k ≡ 0) × (cs ≡ Packed ∷ [])
one_pack cs k h (inl none) = absurd (omega (arith, h, ap length none))
one_pack cs k h (inr one) = (omega (arith, h, ap length one), one)

pub formed_rewrite : (f : Form) (cs : List Container) (k : ℕ) → k < length cs → IsFormed f cs → IsFormed f (take k cs ++ (Packed ∷ drop (k + 1) cs))
formed_rewrite Intset cs k h t = t
formed_rewrite Listpack cs k h t =
    let one = one_pack cs k h t in
    inr (ap (λ (j : ℕ). take j cs ++ (Packed ∷ drop (j + 1) cs)) one.0 ∙ ap (λ (xs : List Container). take 0 xs ++ (Packed ∷ drop 1 xs)) one.1)
formed_rewrite Hashtable cs k h t = t
formed_rewrite Skiplist cs k h t = t
formed_rewrite Quicklist cs k h t = tt
formed_rewrite Stream cs k h t = t

pub formed_drop : (f : Form) (cs : List Container) (k : ℕ) → k < length cs → IsFormed f cs → IsFormed f (take k cs ++ ([] ++ drop (k + 1) cs))
formed_drop Intset cs k h t = t
formed_drop Listpack cs k h t =
    let one = one_pack cs k h t in
    inl (ap (λ (j : ℕ). take j cs ++ ([] ++ drop (j + 1) cs)) one.0 ∙ ap (λ (xs : List Container). take 0 xs ++ ([] ++ drop 1 xs)) one.1)
formed_drop Hashtable cs k h t = t
formed_drop Skiplist cs k h t = t
formed_drop Quicklist cs k h t = tt
formed_drop Stream cs k h t = t

-- nothing stands beside the one node of a list of form listpack
one_alone : (m : Blocks) (nodes : List Node) (k : ℕ) (list : List (List ℕ)) → k ≡ 0 → length nodes ≡ 1 → elements_of m (take k nodes) ++ (list ++ elements_of m (drop (k + 1) nodes)) ≡ list
one_alone m nodes k list none one =
    let behind : drop (k + 1) nodes ≡ [] = drop_all (k + 1) nodes (omega arith) in
    ap (λ (j : ℕ). elements_of m (take j nodes) ++ (list ++ elements_of m (drop (k + 1) nodes))) none
    ∙ ap (λ (xs : List Node). list ++ elements_of m xs) behind ∙ append-nil list

pub respelled_alone : (m : Blocks) (nodes : List Node) (k : ℕ) (list : List (List ℕ)) → k < length nodes → IsFormed Listpack (map container_of nodes)
    → elements_of m (take k nodes) ++ (list ++ elements_of m (drop (k + 1) nodes)) ≡ list
respelled_alone m nodes k list h t =
    let one = one_pack (map container_of nodes) k (omega (arith, h, length-map nodes container_of)) t in
    one_alone m nodes k list one.0 (omega (arith, ap length one.1, length-map nodes container_of))

-- the form stays where all elements still fit one listpack, and rises where they don't
pub stays : (f : Form) (list : List (List ℕ)) (cs : List Container) → IsFormed f cs → (f ≡ Listpack → pack_len list ≤ 8192) → IsRisen f list f
stays Intset list cs t h = absurd t
stays Listpack list cs t h = record { fitting = h refl; from_old = omega arith; least = λ other fits from. from }
stays Hashtable list cs t h = absurd t
stays Skiplist list cs t h = absurd t
stays Quicklist list cs t h = record { fitting = tt; from_old = omega arith; least = λ other fits from. from }
stays Stream list cs t h = absurd t

at_least : (list : List (List ℕ)) (other : Form) → 8192 < pack_len list → FitsList (pack_len list) other → 2 ≤ rank other
at_least list Intset h fits = absurd fits
at_least list Listpack h fits = absurd (omega (arith, h, fits))
at_least list Hashtable h fits = absurd fits
at_least list Skiplist h fits = absurd fits
at_least list Quicklist h fits = omega arith
at_least list Stream h fits = absurd fits

pub rises : (f : Form) (list : List (List ℕ)) (cs : List Container) → IsFormed f cs → (f ≡ Listpack → 8192 < pack_len list) → IsRisen f list Quicklist
rises Intset list cs t h = absurd t
rises Listpack list cs t h = record { fitting = tt; from_old = omega arith; least = λ other fits from. at_least list other (h refl) fits }
rises Hashtable list cs t h = absurd t
rises Skiplist list cs t h = absurd t
rises Quicklist list cs t h = record { fitting = tt; from_old = omega arith; least = λ other fits from. from }
rises Stream list cs t h = absurd t

pub stays_rewrite : (m : Blocks) (old : Chain) (k : ℕ) (list : List (List ℕ)) → IsFormed old.form (map container_of old.nodes) → k < length old.nodes → pack_len list ≤ 8192
    → IsRisen old.form (respelled m old k list (k + 1)) old.form
stays_rewrite m old k list t h short =
    stays old.form (respelled m old k list (k + 1)) (map container_of old.nodes) t
    (λ is. omega (arith, short, ap pack_len (respelled_alone m old.nodes k list h (subst (λ (f : Form). IsFormed f (map container_of old.nodes)) is t))))

pub one_piece : (piece : Piece) (list : List (List ℕ)) → piece_list piece ≡ list → flat_map piece_list (piece ∷ []) ≡ list
one_piece piece list is = append-nil (piece_list piece) ∙ is

-- the first node of an empty list
pub first_is : (m : Blocks) (old : Chain) (list placed : List (List ℕ)) → old.nodes ≡ [] → placed ≡ list → list ≡ respelled m old 0 placed 0
first_is m old list placed none is =
    sym is ∙ sym (append-nil placed) ∙ ap (λ (xs : List Node). placed ++ elements_of m xs) (sym none)

-- a change and its form
pub written_by : (m n : Blocks) (old new : Chain) (list : List (List ℕ)) → IsRisen old.form list new.form → IsChanged m n old new list → IsWritten m n old new list
written_by m n old new list risen x = record { quick = x.quick; list_is = x.list_is; form = risen; changes = x.changes }

pub changed_from : (m n : Blocks) (old new : Chain) (list : List (List ℕ)) → IsWritten m n old new list → IsChanged m n old new list
changed_from m n old new list x = record { quick = x.quick; list_is = x.list_is; changes = x.changes }

-- pieces in the place of nodes, and too many elements for one listpack
pub written_pieces : {A E : Type 0} (r : Result A E) (m n : Blocks) (old new : Chain) (list : List (List ℕ)) (k e len : ℕ) (pieces : List Piece) → flat_map piece_list pieces ≡ list
    → IsFormed old.form (map container_of old.nodes) → IsOverfull old (respelled m old k list e) len → OnOk r (Exchanged m n old.nodes new.nodes k e pieces) → OnOk r (new.len ≡ len)
    → OnOk r (new.form ≡ Quicklist)
    → OnOk r (IsWritten m n old new (respelled m old k list e))
written_pieces r m n old new list k e len pieces is formed over x len_is form_is =
    let whole = respelled m old k list e in
    on_ok_three r (λ a b f. written_by m n old new whole (subst (λ (g : Form). IsRisen old.form whole g) (sym f) (rises old.form whole (map container_of old.nodes) formed over.long))
    (changed_by m n old new whole k e len Quicklist pieces (ap (λ (xs : List (List ℕ)). respelled m old k xs e) (sym is)) over.counted tt a b f)) x len_is form_is

pub pieces_behind : (a b c : Piece) → piece_list a ≡ [] → flat_map piece_list (b ∷ c ∷ []) ≡ three a b c
pieces_behind a b c none = ap (λ (xs : List (List ℕ)). piece_list b ++ xs) (append-nil (piece_list c)) ∙ ap (λ (xs : List (List ℕ)). xs ++ (piece_list b ++ piece_list c)) (sym none)
