-- A list of elements is decided to be a stream node.
use Rattle.std.proofs.Common.{◌≡◌, inl, inr, ℕ, zero, suc, ◌+◌, ◌<◌, ◌^◌, Bool, true, false, cond, List, [], ◌∷◌, ◌++◌, length, drop, Result, Ok, Err, refl, sym, ap, subst, ◌∙◌, arith}
use Rattle.std.specs.Prelude.{ℤ, pos, Option, Some, None, FitsSigned, Decides, nat_lt, unwrap_or, ◌==◌, ◌&&◌}
use Rattle.std.specs.Int.{w64}
use lib.Signed.{mag}
use Rattle.std.proofs.lemmas.Bool.Decides.{Decides-and, Decides-or, Decides-eqb, Decides-ltb}
use Rattle.std.proofs.lemmas.List.{length-take}
use Rattle.std.proofs.lemmas.Slice.Eq.{slice_eq-Decides, bytes_eq-Decides}
use Rattle.int_text.specs.Decimal.{canonical, number_of}
use Rattle.int_text.proofs.NumberOf.{number_back, number_cases}
use Rattle.stream_node.specs.declared.id.Id.{Id}
use Rattle.stream_node.specs.Entry.{Pair, Stored, HasFields, IsEntry, number, flags, fields_of, body}
use Rattle.stream_node.specs.Node.{IsAfter, Begins, marked, Node}
use Rattle.stream_node.specs.Entries.{element, integer, count, has_same, entry_at, behind_entry, entries_from, field_count, entry_count, entries_of, IsNode}
use Rattle.stream_node.proofs.Same.{few_flags, fits_count}
use Rattle.stream_node.proofs.ReadBack.{count_back, reads_entry, reads_node, read_head}
use Rattle.rdb_grammar.specs.declared.fault.LoadKind.{LoadKind}
use Rattle.rdb_grammar.specs.declared.fault.LoadKind.TheVariants as kinds
use Rattle.rdb_grammar.specs.StreamNodes.{Texts, texts_eq, spelled, has_fields, is_same, is_entry, is_after, are_entries, head_spelled, fields_in, behind_head, is_node, node_in}
use Rattle.rdb_grammar.proofs.PayloadsExact.{Decided}

-- ---- what elements are read as

integer_by : (text : List ℕ) (o : Option ℤ) → number_of text ≡ o → ((n : ℤ) → o ≡ Some n → FitsSigned w64 n) → FitsSigned w64 (unwrap_or o (pos 0))
integer_by text None e fits = fits_count 0 (omega arith)
integer_by text (Some n) e fits = fits n refl

some_is : (m n : ℤ) → Some m ≡ Some n → m ≡ n
some_is m n e = cc

none_is : (n : ℤ) → None ≡ Some n → ⊥
none_is n e = absurd cc

integer_fits : (text : List ℕ) → FitsSigned w64 (integer text)
integer_fits text = integer_by text (number_of text) refl λ n e. elim (number_cases text) [
  | inl none ↦ absurd (none_is n (sym none ∙ e))
  | inr some ↦ subst (λ (m : ℤ). FitsSigned w64 m) (some_is some.0 n (sym some.1 ∙ e)) some.2
]

mag_fits : (n : ℤ) → FitsSigned w64 n → mag n < 2 ^ 63
mag_fits n fits = fits.sfits

count_fits : (text : List ℕ) → count text < 2 ^ 63
count_fits text = mag_fits (integer text) (integer_fits text)

integer_back : (n : ℤ) → FitsSigned w64 n → integer (canonical n) ≡ n
integer_back n fits = ap (λ (o : Option ℤ). unwrap_or o (pos 0)) (number_back n fits)

same_back : (deleted same : Bool) → has_same (flags deleted same) ≡ same
same_back true true = refl
same_back true false = refl
same_back false true = refl
same_back false false = refl

-- ---- an entry

texts_eq_decides : (xs ys : Texts) → Decides (texts_eq xs ys) (xs ≡ ys)
texts_eq_decides xs ys = slice_eq-Decides bytes_eq-Decides xs ys (texts_eq xs ys) refl

has_fields_decides : (same : Bool) (master : Texts) (pairs : List Pair) → Decides (has_fields same master pairs) (HasFields same master pairs)
has_fields_decides true master pairs = texts_eq_decides (fields_of pairs) master
has_fields_decides false master pairs =
    Decides-and (nat_lt 0 (length pairs)) (nat_lt (length pairs) (2 ^ 63)) (Decides-ltb 0 (length pairs)) (Decides-ltb (length pairs) (2 ^ 63))

is_after_decides : (before : Option Id) (id : Id) → Decides (is_after before id) (IsAfter before id)
is_after_decides None id = (λ e. tt, λ h. refl)
is_after_decides (Some before) id =
    Decides-or (nat_lt before.ms id.ms) ((before.ms == id.ms) && nat_lt before.seq id.seq) (Decides-ltb before.ms id.ms)
    (Decides-and (before.ms == id.ms) (nat_lt before.seq id.seq) (Decides-eqb before.ms id.ms) (Decides-ltb before.seq id.seq))

module _ (key : Id) (master list : Texts) where
  abbrev here : Stored
  here = entry_at key master list

  abbrev ms : ℤ
  ms = integer (element list 1)

  abbrev seq : ℤ
  seq = integer (element list 2)

  abbrev anew : Texts
  anew = spelled (is_same list) here ms seq (behind_entry master list)

  parts : Decides (is_entry key master list) ((list ≡ anew) × HasFields (is_same list) master here.pairs)
  parts =
      Decides-and (texts_eq list anew) (has_fields (is_same list) master here.pairs) (texts_eq_decides list anew)
      (has_fields_decides (is_same list) master here.pairs)

  -- what is found to be an entry is the one that is read
  entry_found : is_entry key master list ≡ true → IsEntry key master list here (behind_entry master list)
  entry_found e =
      let both = parts.0 e in
      record {
        same = is_same list;
        behind = body (is_same list) here.pairs ++ number (Rattle.stream_node.specs.Entry.size (body (is_same list) here.pairs)) ∷ behind_entry master list;
        start = record { ms = ms; seq = seq; ms_fits = integer_fits (element list 1); seq_fits = integer_fits (element list 2); elements = both.0; ms_is = refl; seq_is = refl };
        pairs = record { fields = both.1; elements = refl };
      }

  -- an entry is found
  entry_back : (e : Stored) (rest : Texts) → IsEntry key master list e rest → is_entry key master list ≡ true
  entry_back e rest is =
      let s = is.start in
      let r = reads_entry key master list e rest is in
      let flag : count (element list 0) ≡ flags e.deleted is.same = ap (λ (x : Texts). count (element x 0)) s.elements ∙ count_back (flags e.deleted is.same) (few_flags e.deleted is.same) in
      let same : is_same list ≡ is.same = ap has_same flag ∙ same_back e.deleted is.same in
      let is_ms : ms ≡ s.ms = ap (λ (x : Texts). integer (element x 1)) s.elements ∙ integer_back s.ms s.ms_fits in
      let is_seq : seq ≡ s.seq = ap (λ (x : Texts). integer (element x 2)) s.elements ∙ integer_back s.seq s.seq_fits in
      let was : list ≡ spelled is.same e s.ms s.seq rest =
      s.elements ∙ ap (λ (x : Texts). number (flags e.deleted is.same) ∷ canonical s.ms ∷ canonical s.seq ∷ x) is.pairs.elements in
      let now : anew ≡ spelled is.same e s.ms s.seq rest = λ i. spelled (same i) (r.0 i) (is_ms i) (is_seq i) (r.1 i) in
      let fields : HasFields (is_same list) master here.pairs =
      subst (λ (b : Bool). HasFields b master here.pairs) (sym same) (subst (λ (x : Stored). HasFields is.same master x.pairs) (sym r.0) is.pairs.fields) in
      parts.1 (was ∙ sym now, fields)

-- ---- the entries

no_elements : (list : Texts) → length list ≡ 0 → list ≡ []
no_elements [] e = refl
no_elements (x ∷ list) e = absurd (omega arith)

module _ (key : Id) (master : Texts) where
  abbrev Rest : Option Id → ℕ → Texts → Type 0
  Rest before n list = Begins key master before list (entries_from key master n list) []

  abbrev goes : Option Id → ℕ → Texts → Stored → Texts → Bool
  goes before n list e behind = is_entry key master list && (is_after before e.id && are_entries key master (Some e.id) n behind)

  entries_found : (n : ℕ) (before : Option Id) (list : Texts) → are_entries key master before n list ≡ true → Rest before n list
  unfolding are_entries entries_from Begins
  entries_found zero before list e = no_elements list ((Decides-eqb (length list) 0).0 e)
  entries_found (suc n) before list e =
      let here : Stored = entry_at key master list in
      let behind : Texts = behind_entry master list in
      let both = (Decides-and (is_entry key master list) (is_after before here.id && are_entries key master (Some here.id) n behind) (λ t. t, λ t. t) (λ t. t, λ t. t)).0 e in
      let more = (Decides-and (is_after before here.id) (are_entries key master (Some here.id) n behind) (is_after_decides before here.id) (λ t. t, λ t. t)).0 both.1 in
      (behind, entry_found key master list both.0, more.0, entries_found n (Some here.id) behind more.1)

  entries_back : (es : List Stored) (before : Option Id) (list : Texts) → Begins key master before list es [] → are_entries key master before (length es) list ≡ true
  unfolding are_entries Begins
  entries_back [] before list b = (Decides-eqb (length list) 0).1 (ap length b)
  entries_back (e ∷ es) before list b =
      let r = reads_entry key master list e b.0 b.1 in
      let n : ℕ = length es in
      let more = entries_back es (Some e.id) b.0 b.3 in
      let there = (Decides-and (is_after before e.id) (are_entries key master (Some e.id) n b.0) (is_after_decides before e.id) (λ t. t, λ t. t)).1 (b.2, more) in
      let all = (Decides-and (is_entry key master list) (is_after before e.id && are_entries key master (Some e.id) n b.0) (λ t. t, λ t. t) (λ t. t, λ t. t)).1
      (entry_back key master list e b.0 b.1, there) in
      (λ i. goes before n list (r.0 i) (r.1 i)) ∙ all

  length-entries : (n : ℕ) (list : Texts) → length (entries_from key master n list) ≡ n
  unfolding entries_from
  length-entries zero list = refl
  length-entries (suc n) list = omega (arith, length-entries n (behind_entry master list))

-- ---- the node

module _ (key : Id) (list : Texts) where
  abbrev live : ℕ
  live = count (element list 0)

  abbrev deleted : ℕ
  deleted = count (element list 1)

  abbrev master : Texts
  master = fields_in list

  abbrev headed : Texts
  headed = head_spelled live deleted master (behind_head list)

  abbrev Whole : Type 0
  Whole = (list ≡ headed) × ((0 < length master) × ((are_entries key master None (entry_count list) (behind_head list) ≡ true) × (marked (entries_of key list) ≡ deleted)))

  whole : Decides (is_node key list) Whole
  whole =
      let entries : Bool = are_entries key master None (entry_count list) (behind_head list) in
      let marks : Bool = marked (entries_of key list) == deleted in
      Decides-and (texts_eq list headed) (nat_lt 0 (length master) && (entries && marks)) (texts_eq_decides list headed)
      (Decides-and (nat_lt 0 (length master)) (entries && marks) (Decides-ltb 0 (length master))
      (Decides-and entries marks (λ t. t, λ t. t) (Decides-eqb (marked (entries_of key list)) deleted)))

  few_fields : length master < 2 ^ 63
  few_fields = omega (arith, length-take (field_count list) (drop 3 list), count_fits (element list 2))

  node_found : is_node key list ≡ true → IsNode key list
  unfolding entries_of
  node_found e =
      let w = whole.0 e in
      record {
        live = live;
        deleted = deleted;
        master = master;
        behind = behind_head list;
        head = record { live_fits = count_fits (element list 0); deleted_fits = count_fits (element list 1); some = w.1.0; fields_fit = few_fields; elements = w.0 };
        all_entries = entries_found key master (entry_count list) None (behind_head list) w.1.1.0;
        count = length-entries key master (entry_count list) (behind_head list);
        marks = w.1.1.1;
      }

  node_back : (es : List Stored) → Node key list es → is_node key list ≡ true
  node_back es n =
      let h = read_head list n.live n.deleted n.master n.behind n.head in
      let total : length es ≡ entry_count list = omega (arith, n.count, h.live_read, h.deleted_read) in
      let same : headed ≡ head_spelled n.live n.deleted n.master n.behind = λ i. head_spelled (h.live_read i) (h.deleted_read i) (h.fields i) (h.behind i) in
      let all : are_entries key master None (entry_count list) (behind_head list) ≡ true =
      ap (λ (k : ℕ). are_entries key master None k (behind_head list)) (sym total) ∙ (λ i. are_entries key (h.fields i) None (length es) (h.behind i))
      ∙ entries_back key n.master es None n.behind n.all_entries in
      let some : 0 < length master = subst (λ (x : Texts). 0 < length x) (sym h.fields) n.head.some in
      whole.1 (n.head.elements ∙ sym same, (some, (all, ap marked (reads_node key list es n) ∙ n.marks ∙ sym h.deleted_read)))

-- ---- as a payload

abbrev Told : Type 0
Told = Result (List Stored) LoadKind

abbrev as_entries : List Stored → Told
as_entries es = Ok es

abbrev as_fault : LoadKind → Told
as_fault kind = Err kind

abbrev shape : Told
shape = as_fault kinds.StreamShape

entries_are : (x y : List Stored) → as_entries x ≡ as_entries y → x ≡ y
entries_are x y e = cc

kind_is : (x y : LoadKind) → as_fault x ≡ as_fault y → x ≡ y
kind_is x y e = cc

means_by : (key : Id) (list : Texts) (es : List Stored) (test : Bool) → is_node key list ≡ test → cond test (as_entries (entries_of key list)) shape ≡ as_entries es → Node key list es
means_by key list es true t e = subst (λ (x : List Stored). Node key list x) (entries_are (entries_of key list) es e) (node_found key list t)
means_by key list es false t e = absurd cc

breaks_by : (key : Id) (list : Texts) (kind : LoadKind) (test : Bool) → is_node key list ≡ test → cond test (as_entries (entries_of key list)) shape ≡ as_fault kind → ¬ (IsNode key list)
    × (kind ≡ kinds.StreamShape)
breaks_by key list which true t e = absurd cc
breaks_by key list which false t e = (λ n. differ (sym t ∙ node_back key list (entries_of key list) n), sym (kind_is kinds.StreamShape which e))
  where
    differ : false ≡ true → ⊥
    differ g = cc

not_true : (test : Bool) → (test ≡ true → ⊥) → test ≡ false
not_true true none = absurd (none refl)
not_true false none = refl

pub node_in_decided : (key : Id) → Decided (node_in key)
node_in_decided key = record {
  means = λ list es e. means_by key list es (is_node key list) refl e;
  again = λ list es n. ap (λ (b : Bool). cond b (as_entries (entries_of key list)) shape) (node_back key list es n) ∙ ap as_entries (reads_node key list es n);
  breaks = λ list kind e. breaks_by key list kind (is_node key list) refl e;
  first = λ list kind h.
      ap (λ (b : Bool). cond b (as_entries (entries_of key list)) shape) (not_true (is_node key list) λ t. h.0 (node_found key list t)) ∙ ap as_fault (sym h.1);
}
