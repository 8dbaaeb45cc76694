-- Nodes with one more entry.
use Rattle.std.proofs.Common.{◌≡◌, Bool, true, false, ℕ, ◌+◌, ◌-◌, ◌<◌, ◌≤◌, ◌^◌, ◌%◌, List, [], ◌∷◌, ◌++◌, length, refl, sym, ap, ◌∙◌, arith}
use Rattle.std.specs.Prelude.{Option, Some, None, FitsSigned, slice_set}
use Rattle.std.specs.Int.{w64}
use Rattle.std.proofs.lemmas.Int.{of_z-to_z}
use Rattle.std.proofs.Math.Facts.{sfits_to_z}
use Rattle.std.proofs.lemmas.List.{append_assoc, length-append, length-map, length_push}
use Rattle.stream_node.specs.declared.id.Id.{Id}
use Rattle.stream_node.specs.Entry.{Pair, Stored, number, moved, fields_of, body, size, HasFields, IsEntry}
use Rattle.stream_node.specs.Node.{IsHead, IsAfter, Begins, marked, last_id, Node}
use Rattle.stream_node.specs.Written.{difference, body_texts, entry_texts, head_texts}
use Rattle.stream_node.proofs.Lists.{Texts}
use Rattle.stream_node.proofs.Marches.{begins_push, marked_push}

-- behind the entry, more may stand
grow_entry : (key : Id) (master list : Texts) (e : Stored) (rest more : Texts) → IsEntry key master list e rest → IsEntry key master (list ++ more) e (rest ++ more)
grow_entry key master list e rest more is =
    let s = is.start in
    let b = is.pairs in
    record {
      same = is.same;
      behind = is.behind ++ more;
      start = record {
        ms = s.ms;
        seq = s.seq;
        ms_fits = s.ms_fits;
        seq_fits = s.seq_fits;
        elements = ap (λ (x : Texts). x ++ more) s.elements;
        ms_is = s.ms_is;
        seq_is = s.seq_is;
      };
      pairs = record {
        fields = b.fields;
        elements = ap (λ (x : Texts). x ++ more) b.elements ∙ append_assoc (body is.same e.pairs) (number (size (body is.same e.pairs)) ∷ rest) more;
      };
    }

pub grow : (key : Id) (master list : Texts) (before : Option Id) (es : List Stored) (rest more : Texts) → Begins key master before list es rest
    → Begins key master before (list ++ more) es (rest ++ more)
unfolding Begins
grow key master list before [] rest more b = ap (λ (x : Texts). x ++ more) b
grow key master list before (e ∷ es) rest more b = (b.0 ++ more, grow_entry key master list e b.0 more b.1, b.2, grow key master b.0 (Some e.id) es rest more b.3)

-- the entries are at most as many as the elements
pub few_entries : (key : Id) (master list : Texts) (before : Option Id) (es : List Stored) (rest : Texts) → Begins key master before list es rest → length es ≤ length list
unfolding Begins
few_entries key master list before [] rest b = omega arith
few_entries key master list before (e ∷ es) rest b =
    let s = b.1.start in
    let body_is = b.1.pairs in
    omega (
      arith,
      few_entries key master b.0 (Some e.id) es rest b.3,
      ap length s.elements,
      ap length body_is.elements,
      length-append (body b.1.same e.pairs) (number (size (body b.1.same e.pairs)) ∷ b.0),
    )

-- the difference from the key leads back
pub moved_back : (part base : ℕ) → part < 2 ^ 64 → base < 2 ^ 64 → part ≡ moved base (difference part base)
moved_back part base h k =
    let r : ℕ = (part + (2 ^ 64 - base)) % 2 ^ 64 in
    let small : r < 2 ^ 64 = omega arith in
    let back = of_z-to_z w64 r small in
    let sum : part ≡ (base + r) % 2 ^ 64 = omega arith in
    sum ∙ ap (λ (n : ℕ). (base + n) % 2 ^ 64) (sym back)

pub difference_fits : (part base : ℕ) → FitsSigned w64 (difference part base)
difference_fits part base = sfits_to_z (record { fits = omega arith })

-- an entry as it is written
pub written_entry : (key id : Id) (master : Texts) (same : Bool) (pairs : List Pair) → id.ms < 2 ^ 64 → id.seq < 2 ^ 64 → key.ms < 2 ^ 64 → key.seq < 2 ^ 64 → HasFields same master pairs
    → IsEntry key master (entry_texts key id same pairs) (record { id = id; deleted = false; pairs = pairs }) []
written_entry key id master same pairs a b c d fields = record {
  same = same;
  behind = body_texts same pairs;
  start = record {
    ms = difference id.ms key.ms;
    seq = difference id.seq key.seq;
    ms_fits = difference_fits id.ms key.ms;
    seq_fits = difference_fits id.seq key.seq;
    elements = refl;
    ms_is = moved_back id.ms key.ms a c;
    seq_is = moved_back id.seq key.seq b d;
  };
  pairs = record { fields = fields; elements = refl };
}

-- the first entry of a node
pub first_node : (key id : Id) (pairs : List Pair) → id.ms < 2 ^ 64 → id.seq < 2 ^ 64 → key.ms < 2 ^ 64 → key.seq < 2 ^ 64 → 0 < length pairs → length pairs < 2 ^ 63
    → Node key (head_texts pairs ++ entry_texts key id true pairs) (record { id = id; deleted = false; pairs = pairs } ∷ [])
unfolding Begins marked
first_node key id pairs a b c d some few =
    let master = fields_of pairs in
    let entry = entry_texts key id true pairs in
    let many : length master ≡ length pairs = length-map pairs (λ (p : Pair). p.0) in
    record {
      live = 1;
      deleted = 0;
      master = master;
      behind = entry;
      head = record {
        live_fits = omega arith;
        deleted_fits = omega arith;
        some = omega (arith, many, some);
        fields_fit = omega (arith, many, few);
        elements =
            ap (λ (x : Texts). number 1 ∷ number 0 ∷ number (length pairs) ∷ x) (append_assoc master (number 0 ∷ []) entry)
            ∙ ap (λ (k : ℕ). number 1 ∷ number 0 ∷ number k ∷ (master ++ number 0 ∷ entry)) (sym many);
      };
      all_entries = ([], written_entry key id master true pairs a b c d refl, tt, refl);
      count = refl;
      marks = refl;
    }

-- the head with another number of live entries, and more behind it
more_head : (list : Texts) (live deleted : ℕ) (master rest more : Texts) → IsHead list live deleted master rest → live + 1 < 2 ^ 63
    → IsHead (slice_set list 0 (number (live + 1)) ++ more) (live + 1) deleted master (rest ++ more)
more_head list live deleted master rest more h fits = record {
  live_fits = fits;
  deleted_fits = h.deleted_fits;
  some = h.some;
  fields_fit = h.fields_fit;
  elements =
      ap (λ (x : Texts). slice_set x 0 (number (live + 1)) ++ more) h.elements
      ∙ ap (λ (x : Texts). number (live + 1) ∷ number deleted ∷ number (length master) ∷ x) (append_assoc master (number 0 ∷ rest) more);
}

-- one more entry behind the others
pub more_node : (key id : Id) (list : Texts) (same : Bool) (pairs : List Pair) (es : List Stored) (n : Node key list es)
    → id.ms < 2 ^ 64 → id.seq < 2 ^ 64 → key.ms < 2 ^ 64 → key.seq < 2 ^ 64 → HasFields same n.master pairs → IsAfter (last_id None es) id → length list < 2 ^ 32
    → Node key (slice_set list 0 (number (n.live + 1)) ++ entry_texts key id same pairs) (es ++ record { id = id; deleted = false; pairs = pairs } ∷ [])
more_node key id list same pairs es n a b c d fields after short =
    let entry = entry_texts key id same pairs in
    let e : Stored = record { id = id; deleted = false; pairs = pairs } in
    let h = n.head in
    let longer = ap length h.elements in
    let few : length es ≤ length n.behind = few_entries key n.master n.behind None es [] n.all_entries in
    let all = length-append n.master (number 0 ∷ n.behind) in
    record {
      live = n.live + 1;
      deleted = n.deleted;
      master = n.master;
      behind = n.behind ++ entry;
      head = more_head list n.live n.deleted n.master n.behind entry n.head (omega (arith, n.count, few, short, longer, all));
      all_entries = begins_push key n.master (n.behind ++ entry) None es e entry [] (grow key n.master n.behind None es [] entry n.all_entries)
          (written_entry key id n.master same pairs a b c d fields) after;
      count = omega (arith, length_push es e, n.count);
      marks = marked_push es e ∙ omega (arith, n.marks);
    }
