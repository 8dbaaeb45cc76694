use Rattle.std.proofs.Common.{◌≡◌, ◌+◌, ◌-◌, ◌<◌, ◌≤◌, ℕ, List, [], length, ap, sym, take, ◌∙◌, get_or, arith, rules}
use Rattle.listpack.specs.Entry.{back_length}
use Rattle.listpack.specs.Pack.{IsPack, texts, offset_of, spellings_of}
use Rattle.std.proofs.lemmas.List.{length-take-le}
use Rattle.listpack.proofs.Offsets.{length_texts, length_offset, offset_next, ends_with}
use Rattle.listpack.proofs.walks.Pack.before.Goals as goal

abbrev Whole : List ℕ → ℕ → ℕ → Type 0
Whole bytes end result = (i : ℕ) → 0 < i → i ≤ length (texts bytes) → end ≡ offset_of bytes i → (result + offset_of bytes (i - 1) ≡ end) × (end < length bytes)

-- the entry before the end of the entry i - 1
goes_back : (bytes : List ℕ) (end result : ℕ) → IsPack bytes
    → ((front : List ℕ) (size : ℕ) → take end bytes ≡ Rattle.std.proofs.Common.◌++◌ front (back_length size) → result ≡ size + length (back_length size)) → Whole bytes end result
goes_back bytes end result p says i some h e =
    let j : ℕ = i - 1 in
    let inside : j < length (spellings_of bytes) = omega (arith, length_texts bytes) in
    let back : i ≡ j + 1 = omega arith in
    let s = get_or (spellings_of bytes) j [] in
    let at : end ≡ offset_of bytes (j + 1) = e ∙ ap (offset_of bytes) back in
    let is = says _ (length s) (ap (λ (k : ℕ). take k bytes) at ∙ ends_with bytes j p inside) in
    (omega (arith, is, at, offset_next bytes j inside), omega (arith, e, length_offset bytes i p))

-- the bytes before the end of the entry i - 1 end with its back length
ends_back : (bytes : List ℕ) (end i : ℕ) → IsPack bytes → 0 < i → i ≤ length (texts bytes) → end ≡ offset_of bytes i
    → (front : List ℕ) × (size : ℕ) × (take end bytes ≡ Rattle.std.proofs.Common.◌++◌ front (back_length size))
ends_back bytes end i p some h e =
    let j : ℕ = i - 1 in
    let inside : j < length (spellings_of bytes) = omega (arith, length_texts bytes) in
    let back : i ≡ j + 1 = omega arith in
    let at : end ≡ offset_of bytes (j + 1) = e ∙ ap (offset_of bytes) back in
    (_, length (get_or (spellings_of bytes) j []), ap (λ (k : ℕ). take k bytes) at ∙ ends_with bytes j p inside)

pub entry_len_before-requires : goal.entry_len_before-requires
entry_len_before-requires c = ends_back c.args.self.now.bytes.now c.args.end c.requires.0 c.args.self.now.packed c.requires.1 c.requires.2 c.requires.3

pub slice_bounds-entry_len_before-end : goal.slice_bounds-entry_len_before-end
slice_bounds-entry_len_before-end c =
    let far = length_offset c.args.self.now.bytes.now c.requires.0 c.args.self.now.packed in
    sym (length-take-le c.args.end c.args.self.now.bytes.now (omega (arith, far, c.requires.3)))

pub overflow_sub-result : goal.overflow_sub-result
overflow_sub-result c = let t = goes_back c.args.self.now.bytes.now c.args.end c.entry_len_before.result c.args.self.now.packed c.entry_len_before.ensures c.requires.0 c.requires.1
    c.requires.2 c.requires.3 in omega (arith, t.0)

pub returns : goal.returns
returns c = λ i some h e. let t = goes_back c.args.self.now.bytes.now c.args.end c.entry_len_before.result c.args.self.now.packed c.entry_len_before.ensures i some h e in omega (arith, t.0)
