-- Parts read one by one, and what they say of all, of a collection and of its item.
use Rattle.std.proofs.Common.{◌≡◌, ℕ, suc, ◌-◌, ◌≤◌, List, length, drop, Ok, Err, refl, ◌∙◌, arith}
use Rattle.plain_world.specs.Worlds.{Value}
use Rattle.rdb_grammar.specs.declared.fault.LoadKind.{LoadKind}
use Rattle.rdb_grammar.specs.declared.values.Layout.{Layout}
use Rattle.rdb_grammar.specs.Format.{Format, in_turn}
use Rattle.rdb_grammar.proofs.Exactly.{Exact}
use Rattle.rdb_grammar.specs.Layouts.{laid}
use Rattle.rdb_grammar.specs.Items.{Key, Opens, part, item}
use Rattle.rdb_grammar.specs.Places.{Stands, Fails}
use Rattle.rdb_grammar.proofs.PartsExact.{in_turn_exact, laid_exact, part_exact, item_exact}
use Rattle.rdb_grammar.proofs.Standing.{reads, reads_fault}
use Rattle.rdb_grammar.proofs.Partly.{stands_read, fails_read}

-- reading on by so many parts from a place is reading from another by so many
abbrev pub GoesOn : {S : Type 0} → (S → Format S) → List ℕ → ℕ → ℕ → S → ℕ → ℕ → S → Type 0
GoesOn one bytes at n made next rest more = (in_turn one n made).read (drop at bytes) ≡ (in_turn one rest more).read (drop next bytes)

module _ {S : Type 0} (one : S → Format S) (exact : (made : S) → Exact (one made)) where
  -- behind one part the others are read
  pub one_on : (bytes : List ℕ) (at n : ℕ) (made : S) (next : ℕ) (more : S) → Stands (one made) more bytes at next → GoesOn one bytes at (suc n) made next n more
  unfolding in_turn
  one_on bytes at n made next more s =
      let r : (one made).read (drop at bytes) ≡ Ok (more, drop next bytes) = reads (one made) (exact made) more bytes at next s in
      rw r refl

  -- where no part is left, what was made stands
  pub all_stand : (bytes : List ℕ) (from n : ℕ) (first : S) (at : ℕ) (made : S) → from ≤ length bytes → at ≤ length bytes → GoesOn one bytes from n first at 0 made
      → Stands (in_turn one n first) made bytes from at
  unfolding in_turn
  all_stand bytes from n first at made le inside h =
      stands_read (in_turn one n first) (in_turn_exact one exact n first) bytes from at made le inside h

  -- the fault of a part is that of all
  pub one_fails : (bytes : List ℕ) (from n : ℕ) (first : S) (at rest : ℕ) (made : S) (which : LoadKind) (place : ℕ) → from ≤ length bytes → GoesOn one bytes from n first at (suc rest) made
      → Fails (one made) bytes at which place → Fails (in_turn one n first) bytes from which place
  unfolding in_turn
  one_fails bytes from n first at rest made which place le h f =
      let r : (one made).read (drop at bytes) ≡ Err (which, length bytes - place) = reads_fault (one made) (exact made) bytes at which place f in
      let last : (in_turn one (suc rest) made).read (drop at bytes) ≡ Err (which, length bytes - place) = rw r refl in
      fails_read (in_turn one n first) (in_turn_exact one exact n first) bytes from which place le f.inside (h ∙ last)

-- a collection behind what opens its key makes the item
pub opened_stands : (bytes : List ℕ) (at next last : ℕ) (name : List ℕ) (layout : Layout) (value : Value) → Stands part (Opens name layout) bytes at next
    → Stands (laid layout) value bytes next last → Stands item (Key name value) bytes at last
opened_stands bytes at next last name layout value s t =
    let r : part.read (drop at bytes) ≡ Ok (Opens name layout, drop next bytes) = reads part part_exact (Opens name layout) bytes at next s in
    let q : (laid layout).read (drop next bytes) ≡ Ok (value, drop last bytes) = reads (laid layout) (laid_exact layout) value bytes next last t in
    let whole : item.read (drop at bytes) ≡ Ok (Key name value, drop last bytes) = rw (r, q) refl in
    let first : at ≤ next = s.onward in
    let second : next ≤ length bytes = s.inside in
    stands_read item item_exact bytes at last (Key name value) (omega (arith, first, second)) t.inside whole

-- and its fault is the item's
pub opened_fails : (bytes : List ℕ) (at next : ℕ) (name : List ℕ) (layout : Layout) (which : LoadKind) (place : ℕ) → Stands part (Opens name layout) bytes at next
    → Fails (laid layout) bytes next which place → Fails item bytes at which place
opened_fails bytes at next name layout which place s f =
    let r : part.read (drop at bytes) ≡ Ok (Opens name layout, drop next bytes) = reads part part_exact (Opens name layout) bytes at next s in
    let q : (laid layout).read (drop next bytes) ≡ Err (which, length bytes - place) = reads_fault (laid layout) (laid_exact layout) bytes next which place f in
    let whole : item.read (drop at bytes) ≡ Err (which, length bytes - place) = rw (r, q) refl in
    let first : at ≤ next = s.onward in
    let second : next ≤ length bytes = s.inside in
    fails_read item item_exact bytes at which place (omega (arith, first, second)) f.inside whole
