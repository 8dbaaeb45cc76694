-- Entries marked deleted.
use Rattle.std.proofs.Common.{◌≡◌, Bool, true, false, ℕ, zero, suc, ◌+◌, ◌-◌, ◌<◌, ◌≤◌, ◌^◌, List, [], ◌∷◌, ◌++◌, length, drop, get_or, refl, sym, ap, subst, ◌∙◌, arith}
use Rattle.std.specs.Prelude.{Option, Some, None, slice_get, slice_set, if◌then◌else◌}
use Rattle.std.proofs.lemmas.List.{append_assoc, length-append}
use Rattle.listpack.specs.Pack.{spellings_of, texts}
use Rattle.listpack.specs.Writing.{spelling}
use Rattle.stream_node.specs.declared.id.Id.{Id}
use Rattle.stream_node.specs.declared.fault.NodeFault.{NodeFault}
use Rattle.stream_node.specs.declared.fault.NodeFault.TheVariants as faults
use Rattle.stream_node.specs.Entry.{Stored, number, flags, moved, body, size, IsEntry}
use Rattle.stream_node.specs.Node.{IsHead, Begins, marked, Node}
use Rattle.stream_node.specs.Next.{IsEntryFault}
use Rattle.stream_node.specs.Entries.{element, count, behind_entry, field_count, entries_of, IsNode}
use Rattle.stream_node.specs.Appended.{fields_in}
use Rattle.stream_node.specs.Marked.{CanMark, mark_at, behind_entries, flags_at, exchanged, less_live, more_deleted, marked_flags, marked_spellings, AreMarks, IsMarked, Exchanges}
use Rattle.stream_node.specs.declared.marking.Marks.{Marks}
use Rattle.stream_node.proofs.Lists.{Texts}
use Rattle.stream_node.proofs.Same.{few_flags, same_flags, same_number}
use Rattle.stream_node.proofs.OneNode.{one_head}
use Rattle.stream_node.proofs.Grown.{few_entries}
use Rattle.stream_node.proofs.ReadBack.{read_head, reads_entry, reads_node, is_node, count_back}

-- behind one entry more
behind_suc : (master : Texts) (n : ℕ) (list : Texts) → behind_entries master (suc n) list ≡ behind_entry master (behind_entries master n list)
unfolding behind_entries
behind_suc master zero list = refl
behind_suc master (suc n) list = behind_suc master n (behind_entry master list)

-- what stands behind one entry more is what stands behind the entry that comes next
pub behind_push : (master : Texts) (n : ℕ) (list : Texts) → behind_entries master (n + 1) list ≡ behind_entry master (behind_entries master n list)
behind_push master n list = let one : n + 1 ≡ suc n = omega arith in ap (λ (k : ℕ). behind_entries master k list) one ∙ behind_suc master n list

-- behind no entry stands the whole list
pub behind_none : (master list : Texts) → list ≡ behind_entries master 0 list
unfolding behind_entries
behind_none master list = refl

-- the same entry, for another key
rekeyed : (key other : Id) (master list : Texts) (e : Stored) (rest : Texts) → IsEntry key master list e rest → (f : Stored) × IsEntry other master list f rest
rekeyed key other master list e rest is =
    let s = is.start in (
      record { id = record { ms = moved other.ms s.ms; seq = moved other.seq s.seq }; deleted = e.deleted; pairs = e.pairs },
      record {
        same = is.same;
        behind = is.behind;
        start = record { ms = s.ms; seq = s.seq; ms_fits = s.ms_fits; seq_fits = s.seq_fits; elements = s.elements; ms_is = refl; seq_is = refl };
        pairs = is.pairs;
      },
    )

-- the entry at a place
entry_there : (key : Id) (master list : Texts) (before : Option Id) (es : List Stored) (i : ℕ) → Begins key master before list es [] → i < length es
    → (e : Stored) × (rest : Texts) × IsEntry key master (behind_entries master i list) e rest
unfolding Begins behind_entries
entry_there key master list before [] i b inside = absurd (omega arith)
entry_there key master list before (e ∷ es) zero b inside = (e, b.0, b.1)
entry_there key master list before (e ∷ es) (suc i) b inside =
    let r = reads_entry key master list e b.0 b.1 in
    let one = entry_there key master b.0 (Some e.id) es i b.3 (omega (arith, inside)) in
    (one.0, one.1, subst (λ (x : Texts). IsEntry key master (behind_entries master i x) one.0 one.1) (sym r.1) one.2)

-- no fault is met among the entries
pub no_fault_there : (other : Id) (master list rest : Texts) (i n : ℕ) (f : NodeFault) → rest ≡ behind_entries master i list → i < n → IsEntryFault other master None rest f
    → (key : Id) (es : List Stored) → Begins key master None list es [] → n ≤ length es → ⊥
no_fault_there other master list rest i n faults.Shape e less f key es b many =
    let one = entry_there key master list None es i b (omega (arith, less, many)) in
    let there = subst (λ (x : Texts). IsEntry key master x one.0 one.1) (sym e) one.2 in
    let two = rekeyed key other master rest one.0 one.1 there in
    f.0 two.0 one.1 two.1
no_fault_there other master list rest i n faults.Count e less f key es b many = f
no_fault_there other master list rest i n faults.Order e less f key es b many = f.5 tt

-- the elements of an entry, and any others behind them
pub record IsFront (key : Id) (master : Texts) (list : Texts) (e : Stored) (rest : Texts) : Type 0 where
  pub front : Texts
  pub list_is : list ≡ front ++ rest
  pub other : (more : Texts) → IsEntry key master (front ++ more) e more

-- the elements of an entry, cut off from those behind them, are that entry before any others too
entry_front : (key : Id) (master list : Texts) (e : Stored) (rest : Texts) → IsEntry key master list e rest → IsFront key master list e rest
entry_front key master list e rest is =
    let s = is.start in
    let b = body is.same e.pairs in
    let end = number (size b) in
    let whole : (more : Texts) → (b ++ end ∷ []) ++ more ≡ b ++ end ∷ more = λ more. append_assoc b (end ∷ []) more in
    record {
      front = number (flags e.deleted is.same) ∷ Rattle.int_text.specs.Decimal.canonical s.ms ∷ Rattle.int_text.specs.Decimal.canonical s.seq ∷ (b ++ end ∷ []);
      list_is =
          s.elements
          ∙ ap (λ (x : Texts). number (flags e.deleted is.same) ∷ Rattle.int_text.specs.Decimal.canonical s.ms ∷ Rattle.int_text.specs.Decimal.canonical s.seq ∷ x)
          (let p = is.pairs in p.elements ∙ sym (whole rest));
      other = λ more. record {
        same = is.same;
        behind = (b ++ end ∷ []) ++ more;
        start = record { ms = s.ms; seq = s.seq; ms_fits = s.ms_fits; seq_fits = s.seq_fits; elements = refl; ms_is = s.ms_is; seq_is = s.seq_is };
        pairs = record { fields = let p = is.pairs in p.fields; elements = whole more };
      };
    }

-- where the flags of an entry stand, and the list with the mark
pub record HasMark (key : Id) (master : Texts) (before : Option Id) (list : Texts) (es : List Stored) (i : ℕ) : Type 0 where
  pub front : Texts
  pub tail : Texts
  pub deleted : Bool
  pub same : Bool
  pub list_is : list ≡ front ++ number (flags deleted same) ∷ tail
  pub place : behind_entries master i list ≡ number (flags deleted same) ∷ tail
  pub entry : Stored
  pub there : slice_get es i ≡ Some entry
  pub deleted_is : entry.deleted ≡ deleted
  pub begins : Begins key master before (front ++ number (flags true same) ∷ tail) (mark_at es i) []
  pub marks : deleted ≡ false → marked (mark_at es i) ≡ marked es + 1
  pub many : length (mark_at es i) ≡ length es
  pub fewer : deleted ≡ false → marked es < length es

-- no more entries are marked deleted than there are
few_marked : (es : List Stored) → marked es ≤ length es
unfolding marked
few_marked [] = omega arith
few_marked (e ∷ es) = by_mark e.deleted es (few_marked es)
  where
    by_mark : (b : Bool) (es : List Stored) → marked es ≤ length es → (if b then 1 else 0) + marked es ≤ suc (length es)
    by_mark true es h = omega (arith, h)
    by_mark false es h = omega (arith, h)

-- to mark an entry that has no mark adds one to the marks, which were fewer than the entries
one_mark : (b : Bool) (m n : ℕ) → b ≡ false → m ≤ n → (1 + m ≡ (if b then 1 else 0) + m + 1) × ((if b then 1 else 0) + m < suc n)
one_mark true m n e h = let never : ⊥ = cc in absurd never
one_mark false m n e h = (omega arith, omega (arith, h))

-- each entry has its flags somewhere in the list, and with their mark the list has that entry marked
pub has_mark : (key : Id) (master : Texts) (before : Option Id) (list : Texts) (es : List Stored) (i : ℕ) → Begins key master before list es [] → i < length es → HasMark key master before list es i
unfolding Begins behind_entries mark_at marked
has_mark key master before list [] i b inside = absurd (omega arith)
has_mark key master before list (e ∷ es) zero b inside =
    let is = b.1 in
    let s = is.start in
    let tail : Texts = Rattle.int_text.specs.Decimal.canonical s.ms ∷ Rattle.int_text.specs.Decimal.canonical s.seq ∷ is.behind in
    record {
      front = [];
      tail = tail;
      deleted = e.deleted;
      same = is.same;
      list_is = s.elements;
      place = s.elements;
      entry = e;
      there = refl;
      deleted_is = refl;
      begins = (
        b.0,
        record {
          same = is.same;
          behind = is.behind;
          start = record { ms = s.ms; seq = s.seq; ms_fits = s.ms_fits; seq_fits = s.seq_fits; elements = refl; ms_is = s.ms_is; seq_is = s.seq_is };
          pairs = is.pairs;
        },
        b.2,
        b.3,
      );
      marks = λ live. (one_mark e.deleted (marked es) (length es) live (few_marked es)).0;
      many = refl;
      fewer = λ live. (one_mark e.deleted (marked es) (length es) live (few_marked es)).1;
    }
has_mark key master before list (e ∷ es) (suc i) b inside =
    let f = entry_front key master list e b.0 b.1 in
    let r = reads_entry key master list e b.0 b.1 in
    let m = has_mark key master (Some e.id) b.0 es i b.3 (omega (arith, inside)) in
    let new : Texts = m.front ++ number (flags true m.same) ∷ m.tail in
    record {
      front = f.front ++ m.front;
      tail = m.tail;
      deleted = m.deleted;
      same = m.same;
      list_is = f.list_is ∙ ap (λ (x : Texts). f.front ++ x) m.list_is ∙ sym (append_assoc f.front m.front (number (flags m.deleted m.same) ∷ m.tail));
      place = ap (behind_entries master i) r.1 ∙ m.place;
      entry = m.entry;
      there = m.there;
      deleted_is = m.deleted_is;
      begins = subst (λ (x : Texts). Begins key master before x (e ∷ mark_at es i) []) (sym (append_assoc f.front m.front (number (flags true m.same) ∷ m.tail))) (new, f.other new, b.2, m.begins);
      marks = λ live. omega (arith, m.marks live);
      many = omega (arith, m.many);
      fewer = λ live. more_few e.deleted (marked es) (length es) (m.fewer live);
    }
  where
    more_few : (b : Bool) (m n : ℕ) → m < n → (if b then 1 else 0) + m < suc n
    more_few true m n h = omega (arith, h)
    more_few false m n h = omega (arith, h)

-- a node, behind another reading of its head
pub record NodeBehind (key : Id) (live : ℕ) (deleted : ℕ) (master : Texts) (first : Texts) (es : List Stored) : Type 0 where
  pub begins : Begins key master None first es []
  pub count_is : length es ≡ live + deleted
  pub marks : marked es ≡ deleted

-- behind each head that is read of a node stand its entries, by the head's fields and counts
pub node_behind : (key : Id) (list : Texts) (es : List Stored) (live deleted : ℕ) (master first : Texts) → Node key list es → IsHead list live deleted master first
    → NodeBehind key live deleted master first es
node_behind key list es live deleted master first n head =
    let same = one_head list n.live n.deleted live deleted n.master n.behind master first n.head head in
    record {
      begins = subst (λ (x : Texts). Begins key master None x es []) same.rest_same (subst (λ (x : Texts). Begins key x None n.behind es []) same.master_same n.all_entries);
      count_is = omega (arith, n.count, same.live_same, same.deleted_same);
      marks = n.marks ∙ same.deleted_same;
    }

-- an index at which an entry stands is below the number of entries
pub get_inside : (es : List Stored) (i : ℕ) (e : Stored) → slice_get es i ≡ Some e → i < length es
get_inside [] i e h = let never : ⊥ = cc in absurd never
get_inside (x ∷ es) zero e h = omega arith
get_inside (x ∷ es) (suc i) e h = omega (arith, get_inside es i e h)

-- What is found of an entry that isn't marked: where its flags stand in the whole list, and the node with its mark.
pub record IsFound (key : Id) (list : Texts) (index : ℕ) (live : ℕ) (deleted : ℕ) (master : Texts) (first : Texts) (es : List Stored) : Type 0 where
  pub second : Texts
  pub tail : Texts
  pub same : Bool
  pub list_is : list ≡ (number live ∷ number deleted ∷ second) ++ number (flags false same) ∷ tail
  pub place : behind_entries master index first ≡ number (flags false same) ∷ tail
  pub some_live : 1 ≤ live
  pub node : Node key ((number (live - 1) ∷ number (deleted + 1) ∷ second) ++ number (flags true same) ∷ tail) (mark_at es index)

-- a head with one live entry less and one deleted more is a head, whatever follows it
marked_head : (live deleted : ℕ) (master first : Texts) (list : Texts) → IsHead list live deleted master first → deleted + 1 < 2 ^ 63 → (other : Texts)
    → IsHead (number (live - 1) ∷ number (deleted + 1) ∷ number (length master) ∷ (master ++ number 0 ∷ other)) (live - 1) (deleted + 1) master other
marked_head live deleted master first list h few other = record {
  live_fits = omega (arith, h.live_fits);
  deleted_fits = few;
  some = h.some;
  fields_fit = h.fields_fit;
  elements = refl;
}

-- an entry whose flags have no mark is found in the whole list, and so is the node with its mark
found_by : (key : Id) (list : Texts) (index live deleted : ℕ) (master first : Texts) (es : List Stored) → IsHead list live deleted master first
    → NodeBehind key live deleted master first es → length list < 2 ^ 32
    → (m : HasMark key master None first es index) → m.deleted ≡ false → IsFound key list index live deleted master first es
found_by key list index live deleted master first es head n short m unmarked =
    let f : Texts = number (flags false m.same) ∷ m.tail in
    let g : Texts = number (flags true m.same) ∷ m.tail in
    let k = number (length master) in
    let here : number (flags m.deleted m.same) ∷ m.tail ≡ f = ap (λ (b : Bool). number (flags b m.same) ∷ m.tail) unmarked in
    let first_is : first ≡ m.front ++ f = m.list_is ∙ ap (λ (x : Texts). m.front ++ x) here in
    let few : length es ≤ length first = few_entries key master first None es [] n.begins in
    let all = length-append master (number 0 ∷ first) in
    let h = head in
    let long = ap length h.elements in
    let fewer = m.fewer unmarked in
    record {
      second = k ∷ (master ++ number 0 ∷ m.front);
      tail = m.tail;
      same = m.same;
      list_is =
          h.elements
          ∙ ap (λ (x : Texts). number live ∷ number deleted ∷ k ∷ (master ++ number 0 ∷ x)) first_is
          ∙ ap (λ (x : Texts). number live ∷ number deleted ∷ k ∷ x) (sym (append_assoc master (number 0 ∷ m.front) f));
      place = m.place ∙ here;
      some_live = omega (arith, fewer, n.count_is, n.marks);
      node = record {
        live = live - 1;
        deleted = deleted + 1;
        master = master;
        behind = m.front ++ g;
        head = subst (λ (x : Texts). IsHead (number (live - 1) ∷ number (deleted + 1) ∷ k ∷ x) (live - 1) (deleted + 1) master (m.front ++ g)) (sym (append_assoc master (number 0 ∷ m.front) g))
            (marked_head live deleted master first list head (omega (arith, n.count_is, few, all, long, short)) (m.front ++ g));
        all_entries = m.begins;
        count = omega (arith, m.many, n.count_is, fewer, n.marks);
        marks = omega (arith, m.marks unmarked, n.marks);
      };
    }

-- the first element of a list, or an empty text where there is none
abbrev first_of : Texts → List ℕ
first_of x = get_or x 0 []

-- two answers of one option are the same
same_some : (a b : Stored) (o : Option Stored) → o ≡ Some a → o ≡ Some b → a ≡ b
same_some a b o e f = let both : Some a ≡ Some b = sym e ∙ f in cc

-- an entry that can be marked is found at its index, by any head that is read of its node
pub found : (key : Id) (list : Texts) (index live deleted : ℕ) (master first : Texts) → CanMark key list index → IsHead list live deleted master first → length list < 2 ^ 32
    → IsFound key list index live deleted master first (entries_of key list)
found key list index live deleted master first can head short =
    let es = entries_of key list in
    let n = node_behind key list es live deleted master first can.node head in
    let m = has_mark key master None first es index n.begins (get_inside es index can.entry can.there) in
    let unmarked : m.deleted ≡ false = sym m.deleted_is ∙ ap (λ (e : Stored). e.deleted) (same_some m.entry can.entry (slice_get es index) m.there can.there) ∙ can.live in
    found_by key list index live deleted master first es head n short m unmarked

-- the same for any other key of which the list is a node
pub found_too : (key other : Id) (list : Texts) (index live deleted : ℕ) (master first : Texts) → CanMark key list index → IsNode other list → IsHead list live deleted master first
    → length list < 2 ^ 32
    → IsFound other list index live deleted master first (entries_of other list)
found_too key other list index live deleted master first can node head short =
    let es = entries_of key list in
    let fs = entries_of other list in
    let n = node_behind key list es live deleted master first can.node head in
    let o = node_behind other list fs live deleted master first node head in
    let f = found key list index live deleted master first can head short in
    let m = has_mark other master None first fs index o.begins (omega (arith, get_inside es index can.entry can.there, n.count_is, o.count_is)) in
    let e : number (flags m.deleted m.same) ∷ m.tail ≡ number (flags false f.same) ∷ f.tail = sym m.place ∙ f.place in
    let both = same_flags m.deleted m.same false f.same (same_number (flags m.deleted m.same) (flags false f.same) (few_flags m.deleted m.same) (few_flags false f.same) (ap first_of e)) in
    found_by other list index live deleted master first fs head o short m both.0

-- an element in the midst of others
pub element_at : (front tail : Texts) (x : List ℕ) → element (front ++ x ∷ tail) (length front) ≡ x
element_at [] tail x = refl
element_at (y ∷ front) tail x = element_at front tail x

-- to set the element behind a front exchanges that one alone
set_at : (front tail : Texts) (x y : List ℕ) → slice_set (front ++ x ∷ tail) (length front) y ≡ front ++ y ∷ tail
set_at [] tail x y = refl
set_at (z ∷ front) tail x y = ap (λ (l : Texts). z ∷ l) (set_at front tail x y)

-- the flags of an entry that is marked are one more than without the mark
flags_marked : (same : Bool) → flags false same + 1 ≡ flags true same
flags_marked true = refl
flags_marked false = refl

-- where the flags stand
pub place_is : (key : Id) (list : Texts) (index live deleted : ℕ) (master first : Texts) (es : List Stored) → IsHead list live deleted master first
    → (f : IsFound key list index live deleted master first es)
    → flags_at list index ≡ suc (suc (length f.second))
place_is key list index live deleted master first es head f =
    let r = read_head list live deleted master first head in
    let behind : behind_entries (fields_in list) index (drop (4 + field_count list) list) ≡ number (flags false f.same) ∷ f.tail =
    ap (λ (x : Texts). behind_entries x index (drop (4 + field_count list) list)) r.fields ∙ ap (behind_entries master index) r.behind ∙ f.place in
    omega (arith, ap length behind, ap length f.list_is, length-append f.second (number (flags false f.same) ∷ f.tail))

-- the flags that stand there
flags_read : (key : Id) (list : Texts) (index live deleted : ℕ) (master first : Texts) (es : List Stored) (f : IsFound key list index live deleted master first es)
    → count (element list (suc (suc (length f.second)))) ≡ flags false f.same
flags_read key list index live deleted master first es f =
    let front : Texts = number live ∷ number deleted ∷ f.second in
    ap (λ (x : Texts). count (element x (suc (suc (length f.second))))) f.list_is ∙ ap count (element_at front f.tail (number (flags false f.same)))
    ∙ count_back (flags false f.same) (few_flags false f.same)

-- the place of the flags, the flags with the mark and the changed counts are what is to be written
pub marks_are : (key : Id) (list rest more : Texts) (index live deleted n at : ℕ) (master first : Texts) (es : List Stored) → IsHead list live deleted master first
    → IsFound key list index live deleted master first es
    → rest ≡ behind_entries master index first → rest ≡ number n ∷ more → n < 2 ^ 63 → at ≡ length list - length rest
    → AreMarks list index (record { at = at; flags = n + 1; live = live - 1; deleted = deleted + 1 })
marks_are key list rest more index live deleted n at master first es head f is e fits there =
    let r = read_head list live deleted master first head in
    let place = place_is key list index live deleted master first es head f in
    let both : number n ∷ more ≡ number (flags false f.same) ∷ f.tail = sym e ∙ is ∙ f.place in
    let same = same_number n (flags false f.same) fits (few_flags false f.same) (ap first_of both) in
    let whole = length-append f.second (number (flags false f.same) ∷ f.tail) in
    let at_is : at ≡ suc (suc (length f.second)) = omega (arith, there, ap length (is ∙ f.place), ap length f.list_is, whole) in
    let read = ap (λ (k : ℕ). count (element list k)) at_is ∙ flags_read key list index live deleted master first es f in
    record {
      at_is = at_is ∙ sym place;
      live_is = ap (λ (k : ℕ). number (k - 1)) (sym r.live_read);
      deleted_is = ap (λ (k : ℕ). number (k + 1)) (sym r.deleted_read);
      flags_are = ap (λ (k : ℕ). number (k + 1)) (same ∙ sym read);
      behind_two = omega (arith, at_is);
      inside = omega (arith, at_is, ap length f.list_is, whole);
    }

-- the list with the mark, as a node
marked_list : (key : Id) (list : Texts) (index live deleted : ℕ) (master first : Texts) (es : List Stored) → IsHead list live deleted master first → IsFound key list index live deleted master first es
    → Node key (exchanged list (flags_at list index) (less_live list) (more_deleted list) (marked_flags list (flags_at list index))) (mark_at es index)
marked_list key list index live deleted master first es head f =
    let r = read_head list live deleted master first head in
    let k : ℕ = suc (suc (length f.second)) in
    let place = place_is key list index live deleted master first es head f in
    let a = number (live - 1) in
    let b = number (deleted + 1) in
    let c = number (flags true f.same) in
    let flag : marked_flags list k ≡ c = ap (λ (n : ℕ). number (n + 1)) (flags_read key list index live deleted master first es f) ∙ ap number (flags_marked f.same) in
    let all : exchanged list (flags_at list index) (less_live list) (more_deleted list) (marked_flags list (flags_at list index)) ≡ (a ∷ b ∷ f.second) ++ c ∷ f.tail =
    ap (λ (n : ℕ). exchanged list n (less_live list) (more_deleted list) (marked_flags list n)) place
    ∙ ap (λ (n : ℕ). exchanged list k (number (n - 1)) (more_deleted list) (marked_flags list k)) r.live_read
    ∙ ap (λ (n : ℕ). exchanged list k a (number (n + 1)) (marked_flags list k)) r.deleted_read
    ∙ ap (exchanged list k a b) flag
    ∙ ap (λ (x : Texts). exchanged x k a b c) f.list_is
    ∙ set_at (a ∷ b ∷ f.second) f.tail (number (flags false f.same)) c in
    subst (λ (x : Texts). Node key x (mark_at es index)) (sym all) f.node

-- with the counts and the flags exchanged, a list that is a node of any key has the entry marked
pub mark_all : (key other : Id) (list : Texts) (index : ℕ) → CanMark key list index → IsNode other list → length list < 2 ^ 32
    → Node other (exchanged list (flags_at list index) (less_live list) (more_deleted list) (marked_flags list (flags_at list index))) (mark_at (entries_of other list) index)
mark_all key other list index can node short =
    let f = found_too key other list index node.live node.deleted node.master node.behind can node node.head short in
    marked_list other list index node.live node.deleted node.master node.behind (entries_of other list) node.head f

-- the spellings, by what was found of the list
pub spelled_as : (old : List ℕ) (index : ℕ) (marks : Marks) → AreMarks (texts old) index marks → number marks.flags ≡ marked_flags (texts old) (flags_at (texts old) index)
    → exchanged (spellings_of old) marks.at (spelling (number marks.live)) (spelling (number marks.deleted)) (spelling (number marks.flags)) ≡ marked_spellings old index
spelled_as old index marks m flag =
    let list = texts old in
    let ss = spellings_of old in
    let at = flags_at list index in
    ap (λ (k : ℕ). exchanged ss k (spelling (number marks.live)) (spelling (number marks.deleted)) (spelling (number marks.flags))) m.at_is
    ∙ ap (λ (x : List ℕ). exchanged ss at (spelling x) (spelling (number marks.deleted)) (spelling (number marks.flags))) m.live_is
    ∙ ap (λ (x : List ℕ). exchanged ss at (spelling (less_live list)) (spelling x) (spelling (number marks.flags))) m.deleted_is
    ∙ ap (λ (x : List ℕ). exchanged ss at (spelling (less_live list)) (spelling (more_deleted list)) (spelling x)) flag

-- what the numbers in their places come to
pub is_marked : (key : Id) (old new : List ℕ) (index : ℕ) (marks : Marks) → CanMark key (texts old) index → length (texts old) < 2 ^ 32 → AreMarks (texts old) index marks
    → Exchanges old new marks.at (number marks.live) (number marks.deleted) (number marks.flags) → IsMarked old new index
is_marked key old new index marks can short m e =
    let list = texts old in
    let at = flags_at list index in
    let flag : number marks.flags ≡ marked_flags list at = m.flags_are ∙ ap (marked_flags list) m.at_is in
    let texts_are : texts new ≡ exchanged list at (less_live list) (more_deleted list) (marked_flags list at) =
    e.list
    ∙ ap (λ (k : ℕ). exchanged list k (number marks.live) (number marks.deleted) (number marks.flags)) m.at_is
    ∙ ap (λ (x : List ℕ). exchanged list at x (number marks.deleted) (number marks.flags)) m.live_is
    ∙ ap (λ (x : List ℕ). exchanged list at (less_live list) x (number marks.flags)) m.deleted_is
    ∙ ap (exchanged list at (less_live list) (more_deleted list)) flag in
    let n : (other : Id) → IsNode other list → Node other (texts new) (mark_at (entries_of other list) index) =
    λ other node. subst (λ (x : Texts). Node other x (mark_at (entries_of other list) index)) (sym texts_are) (mark_all key other list index can node short) in
    record {
      pack = e.pack;
      node = λ other node. is_node other (texts new) _ (n other node);
      entries = λ other node. reads_node other (texts new) _ (n other node);
      spelled = e.spelled ∙ spelled_as old index marks m flag;
    }

-- what stands behind the entries before the found one is no longer than the whole list
pub rest_inside : (key : Id) (list rest : Texts) (index live deleted : ℕ) (master first : Texts) (es : List Stored) → IsFound key list index live deleted master first es
    → rest ≡ behind_entries master index first
    → length rest ≤ length list
rest_inside key list rest index live deleted master first es f is =
    omega (arith, ap length (is ∙ f.place), ap length f.list_is, length-append f.second (number (flags false f.same) ∷ f.tail))

-- the first element of a node tells how many of its entries aren't marked
pub live_told : (key : Id) (list : Texts) (live : ℕ) (rest : Texts) → IsNode key list → list ≡ number live ∷ rest → live < 2 ^ 63
    → live + marked (entries_of key list) ≡ length (entries_of key list)
live_told key list live rest n is small =
    let h = n.head in
    let same : n.live ≡ live = same_number n.live live h.live_fits small (ap first_of (sym h.elements ∙ is)) in
    omega (arith, same, n.count, n.marks)
