-- A number of parts and the parts behind it, read one by one.
use Rattle.std.proofs.Common.{◌≡◌, inl, ℕ, suc, ◌-◌, ◌≤◌, List, length, drop, Ok, Err, refl, ◌∙◌}
use Rattle.rdb_grammar.specs.declared.fault.LoadKind.{LoadKind}
use Rattle.rdb_grammar.specs.declared.fault.ItemFault.{ItemFault}
use Rattle.rdb_grammar.specs.declared.fault.ItemFault.TheVariants as faults
use Rattle.rdb_grammar.specs.Format.{Format, in_turn}
use Rattle.rdb_grammar.specs.Lengths.{a_length}
use Rattle.rdb_grammar.specs.Places.{Stands, Fails}
use Rattle.rdb_grammar.specs.StreamParts.{counted}
use Rattle.rdb_grammar.proofs.Exactly.{Exact}
use Rattle.rdb_grammar.proofs.StringsExact.{a_length_exact}
use Rattle.rdb_grammar.proofs.StreamsExact.{counted_exact}
use Rattle.rdb_grammar.proofs.Standing.{reads, reads_fault}
use Rattle.rdb_grammar.proofs.Partly.{stands_read, fails_read}
use Rattle.rdb_streams.specs.Reading.{Reads}

-- to read all from a place is to read the rest, so many parts, from another
abbrev pub CountsOn : {S : Type 0} → (S → Format S) → List ℕ → ℕ → S → ℕ → ℕ → S → Type 0
CountsOn one bytes at first next rest made =
    (counted one first).read (drop at bytes) ≡ (in_turn one rest made).read (drop next bytes)

module _ {S : Type 0} (one : S → Format S) (exact : (made : S) → Exact (one made)) (bytes : List ℕ) (at : ℕ) (first : S) where
  -- the fault of the number
  pub count_fails : (which : LoadKind) (place : ℕ) → Fails a_length bytes at which place → Fails (counted one first) bytes at which place
  count_fails which place f = record { onward = f.onward; inside = f.inside; faulty = inl f.faulty }

  -- behind the number all parts are left
  pub count_starts : (n next : ℕ) → Stands a_length n bytes at next → CountsOn one bytes at first next n first
  count_starts n next s =
      let r : a_length.read (drop at bytes) ≡ Ok (n, drop next bytes) = reads a_length a_length_exact n bytes at next s in
      rw r refl

  -- behind one part the others are left
  pub count_on : (next rest : ℕ) (made : S) (last : ℕ) (more : S) → CountsOn one bytes at first next (suc rest) made → Stands (one made) more bytes next last
      → CountsOn one bytes at first last rest more
  unfolding in_turn
  count_on next rest made last more h s =
      let r : (one made).read (drop next bytes) ≡ Ok (more, drop last bytes) = reads (one made) (exact made) more bytes next last s in
      let q : (in_turn one (suc rest) made).read (drop next bytes) ≡ (in_turn one rest more).read (drop last bytes) = rw r refl in
      h ∙ q

  module _ (le : at ≤ length bytes) where
    -- where no part is left, what was made stands
    pub count_stands : (next : ℕ) (made : S) → next ≤ length bytes → CountsOn one bytes at first next 0 made → Stands (counted one first) made bytes at next
    unfolding in_turn
    count_stands next made inside h =
        stands_read (counted one first) (counted_exact one exact first) bytes at next made le inside h

    -- the fault of a part is that of all
    pub part_fails : (next rest : ℕ) (made new : S) → CountsOn one bytes at first next (suc rest) made → (fault : ItemFault) → Reads (one made) bytes next new (Err fault)
        → Reads (counted one first) bytes at new (Err fault)
    unfolding in_turn
    part_fails next rest made new h (faults.Refused which place) f =
        let r : (one made).read (drop next bytes) ≡ Err (which, length bytes - place) = reads_fault (one made) (exact made) bytes next which place f in
        let last : (in_turn one (suc rest) made).read (drop next bytes) ≡ Err (which, length bytes - place) = rw r refl in
        fails_read (counted one first) (counted_exact one exact first) bytes at which place le f.inside (h ∙ last)
    part_fails next rest made new h faults.Memory f = tt
