-- A region of entries is read in one way.
use Rattle.std.proofs.Common.{◌≡◌, ◌≢◌, ◌⊎◌, ℕ, zero, suc, ◌+◌, ◌<◌, ◌≤◌, Bool, true, false, List, [], ◌∷◌, ◌++◌, length, take, drop, refl, sym, ap, ◌∙◌, inl, inr, arith}
use Rattle.std.specs.Str.{bytes_eq}
use Rattle.std.proofs.lemmas.List.Concat.{flat_map-append}
use Rattle.std.specs.List.{All}
use Rattle.std.proofs.lemmas.Bool.{cases_lt}
use Rattle.std.proofs.lemmas.List.{append_assoc, append-nil, append_cancel_left, take_at, drop_at, take-append-drop, length-append}
use Rattle.std.proofs.lemmas.List.Elements.{All-nil, All-cons, All-head, All-tail, All-push}
use Rattle.std.proofs.lemmas.Slice.Eq.{bytes_eq-Decides}
use Rattle.listpack.specs.declared.fault.PackFault.{PackFault}
use Rattle.listpack.specs.declared.fault.PackFault.TheVariants as faults
use Rattle.listpack.specs.Entry.{needed, IsSpelling, back_length, entry_of}
use Rattle.listpack.specs.Pack.{entries, Begins, LacksBackLength, IsEntryFault, IsRegionFault, cut}
use Rattle.listpack.proofs.Spellings.{spelling_pos, needed_append, spelling_take}

-- one entry more in front
pub begins_more : (s : List ℕ) (spellings : List (List ℕ)) (bytes rest more : List ℕ) → IsSpelling s → bytes ≡ entry_of s ++ more → Begins more spellings rest → Begins bytes (s ∷ spellings) rest
begins_more s spellings bytes rest more own e b =
    (e ∙ ap (λ (x : List ℕ). entry_of s ++ x) b.0 ∙ sym (append_assoc (entry_of s) (entries spellings) rest), All-cons IsSpelling s spellings own b.1)

-- a back length stands in front, or not
has_front : (more back : List ℕ) → ((after : List ℕ) × (more ≡ back ++ after)) ⊎ ((after : List ℕ) → more ≢ back ++ after)
has_front more back = go (bytes_eq (take (length back) more) back) refl
  where
    go : (b : Bool) → bytes_eq (take (length back) more) back ≡ b → ((after : List ℕ) × (more ≡ back ++ after)) ⊎ ((after : List ℕ) → more ≢ back ++ after)
    go true e = inl (
      drop (length back) more,
      sym (take-append-drop (length back) more) ∙ ap (λ (x : List ℕ). x ++ drop (length back) more) ((bytes_eq-Decides (take (length back) more) back).0 e),
    )
    go false e = inr (λ after h.
        let same : take (length back) more ≡ back = ap (take (length back)) h ∙ take_at back after (length back) refl in
        let equal = (bytes_eq-Decides (take (length back) more) back).1 same in
        cc)

-- the region's entries fill it, or one has a fault
abbrev pub Scanned : List ℕ → Type 0
Scanned bytes = ((spellings : List (List ℕ)) × Begins bytes spellings []) ⊎ ((fault : PackFault) × IsRegionFault bytes fault)

-- an entry in front of what was scanned
scanned_more : (s bytes more : List ℕ) → IsSpelling s → bytes ≡ entry_of s ++ more → Scanned more → Scanned bytes
scanned_more s bytes more own e t = elim t [
  | inl whole ↦ inl (s ∷ whole.0, begins_more s whole.0 bytes [] more own e whole.1)
  | inr bad ↦ inr (bad.0, (s ∷ bad.1.0, bad.1.1, begins_more s bad.1.0 bytes bad.1.1 more own e bad.1.2, bad.1.3))
]

-- bytes are their first n, then what the others begin with, then the rest
parted : (w s back after : List ℕ) (n : ℕ) → s ≡ take n w → drop n w ≡ back ++ after → w ≡ (s ++ back) ++ after
parted w s back after n front e =
    sym (take-append-drop n w) ∙ ap (λ (x : List ℕ). x ++ drop n w) (sym front) ∙ ap (λ (x : List ℕ). s ++ x) e ∙ sym (append_assoc s back after)

-- bytes with an entry in front of them are longer by at least one
pub length_entry : (s after : List ℕ) → IsSpelling s → length after + 1 ≤ length (entry_of s ++ after)
length_entry s after own =
    let p = spelling_pos s own in
    omega (arith, p, length-append (entry_of s) after, length-append s (back_length (length s)))

-- bytes that begin with a spelling are filled by entries or have a fault, where this holds of all shorter bytes
first_scanned : (w s : List ℕ) (n : ℕ) → s ≡ take (needed w) w → IsSpelling s → 0 < length w → length w ≤ suc n → ((after : List ℕ) → length after ≤ n → Scanned after)
    → ((after : List ℕ) × (drop (needed w) w ≡ back_length (length s) ++ after)) ⊎ ((after : List ℕ) → drop (needed w) w ≢ back_length (length s) ++ after) → Scanned w
first_scanned w s n front own some h ih t = elim t [
  | inl x ↦
      let e : w ≡ entry_of s ++ x.0 = parted w s (back_length (length s)) x.0 (needed w) front x.1 in
      let longer = length_entry s x.0 own in
      scanned_more s w x.0 own e (ih x.0 (omega (arith, longer, ap length e)))
  | inr lacks ↦ inr (
    faults.BackLength,
    ([], w, (refl, All-nil IsSpelling), (s, drop (needed w) w, sym (take-append-drop (needed w) w) ∙ ap (λ (x : List ℕ). x ++ drop (needed w) w) (sym front), own, lacks)),
  )
]

-- any bytes are filled by whole entries, or one entry has a fault
pub scan : (n : ℕ) (bytes : List ℕ) → length bytes ≤ n → Scanned bytes
scan n [] h = inl ([], (refl, All-nil IsSpelling))
scan zero (b ∷ more) h = absurd (omega arith)
scan (suc n) (b ∷ more) h = elim (cases_lt (length (b ∷ more)) (needed (b ∷ more))) [
  | inl short ↦ inr (faults.Entry, ([], b ∷ more, (refl, All-nil IsSpelling), (omega arith, short)))
  | inr there ↦
      let w = b ∷ more in
      let s = take (needed w) w in
      first_scanned w s n refl (spelling_take w there) (omega arith) h (scan n) (has_front (drop (needed w) w) (back_length (length s)))
]

-- where reading stops: behind the last entry, or at one that has a fault
pub data Stop (rest : List ℕ) : Type 0 where
  at_end : rest ≡ [] → Stop rest
  at_fault : (fault : PackFault) → IsEntryFault rest fault → Stop rest

-- a spelling's length, at bytes that begin with it
front_needed : (s rest more : List ℕ) → IsSpelling s → rest ≡ s ++ more → needed rest ≡ length s
front_needed s rest more own e = ap needed e ∙ needed_append s more own

-- where bytes begin with a whole entry, that entry has no fault
no_fault : (fault : PackFault) (s rest more : List ℕ) → IsSpelling s → rest ≡ entry_of s ++ more → IsEntryFault rest fault → ⊥
no_fault faults.Short s rest more own e f = f
no_fault faults.Total s rest more own e f = f
no_fault faults.Entry s rest more own e f =
    let e2 : rest ≡ s ++ (back_length (length s) ++ more) = e ∙ append_assoc s (back_length (length s)) more in
    let n = front_needed s rest (back_length (length s) ++ more) own e2 in
    omega (arith, n, f.1, ap length e2, length-append s (back_length (length s) ++ more))
no_fault faults.BackLength s rest more own e f =
    let e2 : rest ≡ s ++ (back_length (length s) ++ more) = e ∙ append_assoc s (back_length (length s)) more in
    let n = front_needed s rest (back_length (length s) ++ more) own e2 in
    let m = front_needed f.0 rest f.1 f.3 f.2 in
    let same : s ≡ f.0 = sym (take_at s (back_length (length s) ++ more) (needed rest) (sym n)) ∙ ap (take (needed rest)) (sym e2 ∙ f.2) ∙ take_at f.0 f.1 (needed rest) (sym m) in
    let behind : f.1 ≡ back_length (length s) ++ more = sym (drop_at f.0 f.1 (needed rest) (sym m)) ∙ ap (drop (needed rest)) (sym f.2 ∙ e2)
    ∙ drop_at s (back_length (length s) ++ more) (needed rest) (sym n) in
    f.4 more (behind ∙ ap (λ (x : List ℕ). back_length (length x) ++ more) same)
no_fault faults.Count s rest more own e f = f
no_fault faults.End s rest more own e f = f

-- an entry is no place to stop
no_stop : (s rest more : List ℕ) → IsSpelling s → rest ≡ entry_of s ++ more → Stop rest → ⊥
no_stop s rest more own e (at_end z) =
    let longer = length_entry s more own in
    omega (arith, longer, ap length e, ap length z)
no_stop s rest more own e (at_fault fault f) = no_fault fault s rest more own e f

-- the first entry of bytes that begin with two
same_front : (s t more after : List ℕ) → IsSpelling s → IsSpelling t → entry_of s ++ more ≡ entry_of t ++ after → (s ≡ t) × (more ≡ after)
same_front s t more after own other e =
    let left = append_assoc s (back_length (length s)) more in
    let right = append_assoc t (back_length (length t)) after in
    let whole : s ++ (back_length (length s) ++ more) ≡ t ++ (back_length (length t) ++ after) = sym left ∙ e ∙ right in
    let m = front_needed s (t ++ (back_length (length t) ++ after)) (back_length (length s) ++ more) own (sym whole) in
    let n = needed_append t (back_length (length t) ++ after) other in
    let k : length s ≡ length t = sym m ∙ n in
    let same : s ≡ t = sym (take_at s (back_length (length s) ++ more) (length t) k) ∙ ap (take (length t)) whole ∙ take_at t (back_length (length t) ++ after) (length t) refl in
    (same, append_cancel_left (entry_of t) more after (ap (λ (x : List ℕ). entry_of x ++ more) (sym same) ∙ e))

-- whole entries up to where reading stops, in one way
pub one_stop : (ss ts : List (List ℕ)) (bytes rest other : List ℕ) → Begins bytes ss rest → Begins bytes ts other → Stop rest → Stop other → (ss ≡ ts) × (rest ≡ other)
one_stop [] [] bytes rest other b d p q = (refl, sym b.0 ∙ d.0)
one_stop [] (t ∷ ts) bytes rest other b d p q =
    absurd (no_stop t rest (entries ts ++ other) (All-head IsSpelling t ts d.1) (sym b.0 ∙ d.0 ∙ append_assoc (entry_of t) (entries ts) other) p)
one_stop (s ∷ ss) [] bytes rest other b d p q =
    absurd (no_stop s other (entries ss ++ rest) (All-head IsSpelling s ss b.1) (sym d.0 ∙ b.0 ∙ append_assoc (entry_of s) (entries ss) rest) q)
one_stop (s ∷ ss) (t ∷ ts) bytes rest other b d p q =
    let e : entry_of s ++ (entries ss ++ rest) ≡ entry_of t ++ (entries ts ++ other) =
    sym (append_assoc (entry_of s) (entries ss) rest) ∙ sym b.0 ∙ d.0 ∙ append_assoc (entry_of t) (entries ts) other in
    let f = same_front s t (entries ss ++ rest) (entries ts ++ other) (All-head IsSpelling s ss b.1) (All-head IsSpelling t ts d.1) e in
    let more = one_stop ss ts (entries ss ++ rest) rest other (refl, All-tail IsSpelling s ss b.1) (f.1, All-tail IsSpelling t ts d.1) p q in
    (cc, more.1)

-- what a comparison with the back length says
pub stripped : (rest s more p after : List ℕ) → rest ≡ s ++ more → p ≡ back_length (length s) → bytes_eq (take (length p) more) p ≡ true → after ≡ drop (length p) more → rest ≡ entry_of s ++ after
stripped rest s more p after e back same_bytes tail =
    let front : take (length p) more ≡ p = (bytes_eq-Decides (take (length p) more) p).0 same_bytes in
    let whole : more ≡ back_length (length s) ++ after =
    sym (take-append-drop (length p) more) ∙ ap (λ (x : List ℕ). x ++ drop (length p) more) (front ∙ back) ∙ ap (λ (x : List ℕ). back_length (length s) ++ x) (sym tail) in
    e ∙ ap (λ (x : List ℕ). s ++ x) whole ∙ sym (append_assoc s (back_length (length s)) after)

-- where the bytes behind a spelling differ from its back length, the entry lacks its back length
pub not_stripped : (rest s more p : List ℕ) → rest ≡ s ++ more → IsSpelling s → p ≡ back_length (length s) → bytes_eq (take (length p) more) p ≡ false → LacksBackLength rest
not_stripped rest s more p e own back differ = (
  s,
  more,
  e,
  own,
  λ after h.
      let same : take (length p) more ≡ p = ap (take (length p)) (h ∙ ap (λ (x : List ℕ). x ++ after) (sym back)) ∙ take_at p after (length p) refl in
      let equal = (bytes_eq-Decides (take (length p) more) p).1 same in
      cc,
)

-- one entry more at the end
pub begins_push : (bytes rest after s : List ℕ) (spellings : List (List ℕ)) → Begins bytes spellings rest → rest ≡ entry_of s ++ after → IsSpelling s → Begins bytes (spellings ++ s ∷ []) after
begins_push bytes rest after s spellings b e own =
    let one : entries (s ∷ []) ≡ entry_of s = append-nil (entry_of s) in
    let joined : entries (spellings ++ s ∷ []) ≡ entries spellings ++ entry_of s = flat_map-append entry_of spellings (s ∷ []) ∙ ap (λ (x : List ℕ). entries spellings ++ x) one in (
      b.0 ∙ ap (λ (x : List ℕ). entries spellings ++ x) e ∙ sym (append_assoc (entries spellings) (entry_of s) after) ∙ ap (λ (x : List ℕ). x ++ after) (sym joined),
      All-push IsSpelling spellings s b.1 own,
    )

-- a fault is one of an entry
pub fault_there : (fault : PackFault) (rest : List ℕ) → IsEntryFault rest fault → 0 < length rest
fault_there faults.Short rest f = absurd f
fault_there faults.Total rest f = absurd f
fault_there faults.Entry rest f = f.0
fault_there faults.BackLength rest f =
    let p = spelling_pos f.0 f.3 in
    omega (arith, p, ap length f.2, length-append f.0 f.1)
fault_there faults.Count rest f = absurd f
fault_there faults.End rest f = absurd f

-- one step of reading
cut_cons : (n : ℕ) (w : List ℕ) → 0 < length w → cut (suc n) w ≡ take (needed w) w ∷ cut n (drop (needed w + length (back_length (needed w))) w)
unfolding cut
cut_cons n [] h = absurd (omega arith)
cut_cons n (b ∷ more) h = refl

-- no bytes read as no spellings
cut_nil : (n : ℕ) → cut n [] ≡ []
unfolding cut
cut_nil zero = refl
cut_nil (suc n) = refl

-- reading gives the spellings that were written
pub cut_entries : (n : ℕ) (spellings : List (List ℕ)) → All IsSpelling spellings → length (entries spellings) ≤ n → cut n (entries spellings) ≡ spellings
cut_entries n [] each h = cut_nil n
cut_entries zero (s ∷ ss) each h =
    let longer = length_entry s (entries ss) (All-head IsSpelling s ss each) in absurd (omega (arith, longer))
cut_entries (suc n) (s ∷ ss) each h =
    let own = All-head IsSpelling s ss each in
    let longer = length_entry s (entries ss) own in
    let w : List ℕ = entry_of s ++ entries ss in
    let k : needed w ≡ length s = front_needed s w (back_length (length s) ++ entries ss) own (append_assoc s (back_length (length s)) (entries ss)) in
    let first : take (needed w) w ≡ s = ap (take (needed w)) (append_assoc s (back_length (length s)) (entries ss)) ∙ take_at s (back_length (length s) ++ entries ss) (needed w) (sym k) in
    let size : length (entry_of s) ≡ needed w + length (back_length (needed w)) = length-append s (back_length (length s)) ∙ ap (λ (j : ℕ). j + length (back_length j)) (sym k) in
    let others : drop (needed w + length (back_length (needed w))) w ≡ entries ss = drop_at (entry_of s) (entries ss) (needed w + length (back_length (needed w))) size in
    let ih = cut_entries n ss (All-tail IsSpelling s ss each) (omega (arith, longer)) in
    cut_cons n w (omega (arith, longer))
    ∙ ap (λ (x : List ℕ). x ∷ cut n (drop (needed w + length (back_length (needed w))) w)) first
    ∙ ap (λ (x : List ℕ). s ∷ cut n x) others
    ∙ ap (λ (x : List (List ℕ)). s ∷ x) ih
