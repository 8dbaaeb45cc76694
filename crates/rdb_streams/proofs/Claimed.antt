-- Groups of a stream, part by part.
use Rattle.std.proofs.Common.{◌≡◌, ℕ, Bool, true, false, not, List, Option, Some, None, is_some, Result, Ok, Err, sym, ap, subst}
use Rattle.std.specs.Prelude.{is_none, ◌==◌}
use Rattle.std.specs.FinMap as map
use Rattle.std.specs.FinMap.{get, insert}
use Rattle.stream_groups.specs.Groups.{Id, Groups, has_consumer, with_consumer as with_name}
use Rattle.rdb_grammar.specs.declared.fault.LoadKind.{LoadKind}
use Rattle.rdb_grammar.specs.declared.fault.LoadKind.TheVariants as kinds
use Rattle.rdb_grammar.specs.declared.fault.ItemFault.{ItemFault}
use Rattle.rdb_grammar.specs.declared.fault.ItemFault.TheVariants as faults
use Rattle.rdb_grammar.specs.declared.values.StreamType.{StreamType}
use Rattle.rdb_grammar.specs.Format.{Format, give, followed, checked}
use Rattle.rdb_grammar.specs.Strings.{string}
use Rattle.rdb_grammar.specs.Places.{Stands, Fails}
use Rattle.rdb_grammar.specs.StreamParts.{Begun, begun, claimed, claimed_id, consumer_name, counted, group_last, group_name, handed, is_claimed, named_group, pending_id, sixteen_bytes}
use Rattle.rdb_grammar.specs.StreamParts.{times, with_claim, with_consumer, with_group, with_unclaimed}
use Rattle.rdb_grammar.proofs.Exactly.{Exact, give_exact, followed_exact, checked_exact}
use Rattle.rdb_grammar.proofs.StringsExact.{string_exact}
use Rattle.rdb_grammar.proofs.StreamsExact.{claimed_id_exact, consumer_name_exact, counted_exact, group_last_exact, group_name_exact, handed_exact, named_group_exact, pending_id_exact}
use Rattle.rdb_grammar.proofs.StreamsExact.{sixteen_bytes_exact, times_exact, with_claim_exact, with_consumer_exact, with_unclaimed_exact}
use Rattle.rdb_streams.specs.Grouped.{behind_name}
use Rattle.rdb_streams.specs.Reading.{Reads}
use Rattle.rdb_streams.proofs.Placed.{give_stands, first_fails, then_reads, tested_fails, passes, falls}

-- whether nothing is there, by whether something is
pub none_some : {A : Type 0} (o : Option A) (b : Bool) → b ≡ is_some o → is_none o ≡ not b
none_some None b h = ap not (sym h)
none_some (Some x) b h = ap not (sym h)

-- ---- pending entries

module _ (bytes : List ℕ) (at : ℕ) (made : Begun) where
  abbrev put_behind : Id → ℕ × ℕ → Format Begun
  put_behind id how = give (record { group = made.group; unclaimed = insert made.unclaimed id how })

  -- how one was handed out, behind its id
  abbrev how_behind : Id → Format Begun
  how_behind id = followed handed (put_behind id)

  how_behind_exact : (id : Id) → Exact (how_behind id)
  how_behind_exact id = followed_exact handed (put_behind id) handed_exact λ how. give_exact _

  -- the fault of the id
  pub pending_fails : (which : LoadKind) (place : ℕ) → Fails sixteen_bytes bytes at which place → Fails (with_unclaimed made) bytes at which place
  pending_fails which place f =
      first_fails (pending_id made) how_behind bytes at which place (tested_fails kinds.Group (λ id. is_none (get made.unclaimed id)) sixteen_bytes bytes at which place f)

  module _ (next : ℕ) (id : Id) (s : Stands sixteen_bytes id bytes at next) where
    -- an id that was there is refused
    pub pending_twice : is_none (get made.unclaimed id) ≡ false → Fails (with_unclaimed made) bytes at kinds.Group at
    pending_twice h =
        first_fails (pending_id made) how_behind bytes at kinds.Group at
        (falls kinds.Group (λ id. is_none (get made.unclaimed id)) sixteen_bytes bytes at next id s sixteen_bytes_exact h)

    module _ (h : is_none (get made.unclaimed id) ≡ true) where
      new_id : Stands (pending_id made) id bytes at next
      new_id = passes kinds.Group (λ id. is_none (get made.unclaimed id)) sixteen_bytes bytes at next id s h

      behind_id : (new : Begun) (result : Result ℕ ItemFault) → Reads (how_behind id) bytes next new result → Reads (with_unclaimed made) bytes at new result
      behind_id = then_reads (pending_id made) how_behind bytes at (pending_id_exact made) how_behind_exact next id new_id

      pub handed_fails : (which : LoadKind) (place : ℕ) → Fails handed bytes next which place → Fails (with_unclaimed made) bytes at which place
      handed_fails which place f = behind_id made (Err (faults.Refused which place)) (first_fails handed (put_behind id) bytes next which place f)

      -- one entry more
      pub pending_put : (how : ℕ × ℕ) (last : ℕ) → Stands handed how bytes next last
          → Stands (with_unclaimed made) (record { group = made.group; unclaimed = insert made.unclaimed id how }) bytes at last
      pending_put how last t =
          let more : Begun = record { group = made.group; unclaimed = insert made.unclaimed id how } in
          behind_id more (Ok last) (then_reads handed (put_behind id) bytes next handed_exact (λ x. give_exact _) last how t more (Ok last) (give_stands more bytes last t.inside))

-- ---- pending for a consumer

module _ (consumer : List ℕ) (bytes : List ℕ) (at : ℕ) (made : Begun) where
  abbrev claim_behind : Id → Format Begun
  claim_behind id = give (claimed consumer made id (get made.unclaimed id))

  pub claim_fails : (which : LoadKind) (place : ℕ) → Fails sixteen_bytes bytes at which place → Fails (with_claim consumer made) bytes at which place
  claim_fails which place f =
      first_fails (claimed_id made) claim_behind bytes at which place (tested_fails kinds.Group (λ id. not (is_none (get made.unclaimed id))) sixteen_bytes bytes at which place f)

  module _ (next : ℕ) (id : Id) (s : Stands sixteen_bytes id bytes at next) where
    -- an id that isn't pending, or for a consumer, is refused
    pub claim_missing : get made.unclaimed id ≡ None → Fails (with_claim consumer made) bytes at kinds.Group at
    claim_missing none =
        first_fails (claimed_id made) claim_behind bytes at kinds.Group at
        (falls kinds.Group (λ id. not (is_none (get made.unclaimed id))) sixteen_bytes bytes at next id s sixteen_bytes_exact (ap (λ (o : Option (ℕ × ℕ)). not (is_none o)) none))

    -- it is pending for the consumer now
    pub claim_made : (how : ℕ × ℕ) → get made.unclaimed id ≡ Some how → Stands (with_claim consumer made) (claimed consumer made id (Some how)) bytes at next
    claim_made how some =
        let old : Stands (claimed_id made) id bytes at next = passes kinds.Group (λ id. not (is_none (get made.unclaimed id))) sixteen_bytes bytes at next id s
        (ap (λ (o : Option (ℕ × ℕ)). not (is_none o)) some) in
        let new : Begun = claimed consumer made id (get made.unclaimed id) in
        let all : Stands (with_claim consumer made) new bytes at next =
        then_reads (claimed_id made) claim_behind bytes at (claimed_id_exact made) (λ x. give_exact _) next id old new (Ok next) (give_stands new bytes next s.inside) in
        subst (λ (o : Option (ℕ × ℕ)). Stands (with_claim consumer made) (claimed consumer made id o) bytes at next) some all

-- ---- consumers

module _ (type : StreamType) (bytes : List ℕ) (at : ℕ) (made : Begun) where
  abbrev named : List ℕ → Begun
  named name = record { group = with_name name made.group; unclaimed = made.unclaimed }

  abbrev claims_behind : List ℕ → Unit {0} → Format Begun
  claims_behind name seen = counted (with_claim name) (named name)

  abbrev times_behind : List ℕ → Format Begun
  times_behind name = followed (times type) (claims_behind name)

  claims_behind_exact : (name : List ℕ) (seen : Unit {0}) → Exact (claims_behind name seen)
  claims_behind_exact name seen = counted_exact (with_claim name) (with_claim_exact name) (named name)

  times_behind_exact : (name : List ℕ) → Exact (times_behind name)
  times_behind_exact name = followed_exact (times type) (claims_behind name) (times_exact type) (claims_behind_exact name)

  pub consumer_fails : (which : LoadKind) (place : ℕ) → Fails string bytes at which place → Fails (with_consumer type made) bytes at which place
  consumer_fails which place f =
      first_fails (consumer_name made.group) times_behind bytes at which place (tested_fails kinds.Group (λ name. not (has_consumer name made.group)) string bytes at which place f)

  module _ (next : ℕ) (name : List ℕ) (s : Stands string name bytes at next) where
    pub consumer_twice : not (has_consumer name made.group) ≡ false → Fails (with_consumer type made) bytes at kinds.Group at
    consumer_twice h =
        first_fails (consumer_name made.group) times_behind bytes at kinds.Group at
        (falls kinds.Group (λ name. not (has_consumer name made.group)) string bytes at next name s string_exact h)

    module _ (h : not (has_consumer name made.group) ≡ true) where
      behind_consumer : (new : Begun) (result : Result ℕ ItemFault) → Reads (times_behind name) bytes next new result → Reads (with_consumer type made) bytes at new result
      behind_consumer =
          then_reads (consumer_name made.group) times_behind bytes at (consumer_name_exact made.group) times_behind_exact next name
          (passes kinds.Group (λ name. not (has_consumer name made.group)) string bytes at next name s h)

      pub times_fails : (which : LoadKind) (place : ℕ) → Fails (times type) bytes next which place → Fails (with_consumer type made) bytes at which place
      times_fails which place f = behind_consumer made (Err (faults.Refused which place)) (first_fails (times type) (claims_behind name) bytes next which place f)

      pub claims_read : (last : ℕ) → Stands (times type) tt bytes next last → (new : Begun) (result : Result ℕ ItemFault)
          → Reads (counted (with_claim name) (named name)) bytes last new result → Reads (with_consumer type made) bytes at new result
      claims_read last t new result r =
          behind_consumer new result (then_reads (times type) (claims_behind name) bytes next (times_exact type) (claims_behind_exact name) last tt t new result r)

-- ---- what follows a group's name

module _ (type : StreamType) (name : List ℕ) where
  abbrev named_of : Begun → Format (List ℕ × Begun)
  named_of made = give (name, made)

  abbrev consumers_behind : Begun → Format (List ℕ × Begun)
  consumers_behind pending = followed (counted (with_consumer type) pending) named_of

  abbrev pendings_behind : Id → Format (List ℕ × Begun)
  pendings_behind last = followed (counted with_unclaimed (begun last)) consumers_behind

  all_consumers_exact : (pending : Begun) → Exact (counted (with_consumer type) pending)
  all_consumers_exact pending = counted_exact (with_consumer type) (with_consumer_exact type) pending

  all_pendings_exact : (last : Id) → Exact (counted with_unclaimed (begun last))
  all_pendings_exact last = counted_exact with_unclaimed with_unclaimed_exact (begun last)

  consumers_behind_exact : (pending : Begun) → Exact (consumers_behind pending)
  consumers_behind_exact pending = followed_exact (counted (with_consumer type) pending) named_of (all_consumers_exact pending) (λ made. give_exact _)

  pendings_behind_exact : (last : Id) → Exact (pendings_behind last)
  pendings_behind_exact last = followed_exact (counted with_unclaimed (begun last)) consumers_behind (all_pendings_exact last) consumers_behind_exact

  pub behind_name_exact : Exact (behind_name type name)
  behind_name_exact = followed_exact (group_last type) pendings_behind (group_last_exact type) pendings_behind_exact

  module _ (bytes : List ℕ) (at : ℕ) where
    pub last_fails : (which : LoadKind) (place : ℕ) → Fails (group_last type) bytes at which place → Fails (behind_name type name) bytes at which place
    last_fails which place f = first_fails (group_last type) pendings_behind bytes at which place f

    module _ (next : ℕ) (last : Id) (s : Stands (group_last type) last bytes at next) where
      behind_last : (new : List ℕ × Begun) (result : Result ℕ ItemFault) → Reads (pendings_behind last) bytes next new result → Reads (behind_name type name) bytes at new result
      behind_last = then_reads (group_last type) pendings_behind bytes at (group_last_exact type) pendings_behind_exact next last s

      pub pendings_fail : (some : Begun) (new : List ℕ × Begun) (fault : ItemFault) → Reads (counted with_unclaimed (begun last)) bytes next some (Err fault)
          → Reads (behind_name type name) bytes at new (Err fault)
      pendings_fail some new (faults.Refused which place) f =
          behind_last new (Err (faults.Refused which place)) (first_fails (counted with_unclaimed (begun last)) consumers_behind bytes next which place f)
      pendings_fail some new faults.Memory f = tt

      module _ (middle : ℕ) (pending : Begun) (t : Stands (counted with_unclaimed (begun last)) pending bytes next middle) where
        behind_pendings : (new : List ℕ × Begun) (result : Result ℕ ItemFault) → Reads (consumers_behind pending) bytes middle new result → Reads (behind_name type name) bytes at new result
        behind_pendings new result r =
            behind_last new result (then_reads (counted with_unclaimed (begun last)) consumers_behind bytes next (all_pendings_exact last) consumers_behind_exact middle pending t new result r)

        pub consumers_read : (new : Begun) (result : Result ℕ ItemFault) → Reads (counted (with_consumer type) pending) bytes middle new result
            → Reads (behind_name type name) bytes at (name, new) result
        consumers_read new (Ok end) r =
            behind_pendings (name, new) (Ok end)
            (then_reads (counted (with_consumer type) pending) named_of bytes middle (all_consumers_exact pending) (λ made. give_exact _) end new r (name, new) (Ok end)
            (give_stands (name, new) bytes end r.inside))
        consumers_read new (Err (faults.Refused which place)) f =
            behind_pendings (name, new) (Err (faults.Refused which place)) (first_fails (counted (with_consumer type) pending) named_of bytes middle which place f)
        consumers_read new (Err faults.Memory) f = tt

-- ---- a group

module _ (type : StreamType) (groups : Groups) (bytes : List ℕ) (at : ℕ) where
  abbrev put_of : List ℕ × Begun → Format Groups
  put_of g = give (insert groups g.0 g.1.group)

  abbrev whole : Format (List ℕ × Begun)
  whole = checked kinds.Group 0 is_claimed (named_group type groups)

  -- the fault of what is named
  named_fails : (which : LoadKind) (place : ℕ) → Fails (named_group type groups) bytes at which place → Fails (with_group type groups) bytes at which place
  named_fails which place f = first_fails whole put_of bytes at which place (tested_fails kinds.Group is_claimed (named_group type groups) bytes at which place f)

  pub name_fails : (which : LoadKind) (place : ℕ) → Fails string bytes at which place → Fails (with_group type groups) bytes at which place
  name_fails which place f =
      named_fails which place (first_fails (group_name groups) (behind_name type) bytes at which place
      (tested_fails kinds.Group (λ name. is_none (get groups name)) string bytes at which place f))

  module _ (next : ℕ) (name : List ℕ) (s : Stands string name bytes at next) where
    pub name_twice : is_none (get groups name) ≡ false → Fails (with_group type groups) bytes at kinds.Group at
    name_twice h =
        named_fails kinds.Group at (first_fails (group_name groups) (behind_name type) bytes at kinds.Group at
        (falls kinds.Group (λ name. is_none (get groups name)) string bytes at next name s string_exact h))

    module _ (h : is_none (get groups name) ≡ true) where
      behind_group : (new : List ℕ × Begun) (result : Result ℕ ItemFault) → Reads (behind_name type name) bytes next new result → Reads (named_group type groups) bytes at new result
      behind_group =
          then_reads (group_name groups) (behind_name type) bytes at (group_name_exact groups) (behind_name_exact type) next name
          (passes kinds.Group (λ name. is_none (get groups name)) string bytes at next name s h)

      pub group_fails : (some : List ℕ × Begun) (new : Groups) (fault : ItemFault) → Reads (behind_name type name) bytes next some (Err fault) → Reads (with_group type groups) bytes at new (Err fault)
      group_fails some new (faults.Refused which place) f = named_fails which place (behind_group some (Err (faults.Refused which place)) f)
      group_fails some new faults.Memory f = tt

      module _ (made : Begun) (last : ℕ) (t : Stands (behind_name type name) (name, made) bytes next last) where
        -- each entry is pending for a consumer
        pub group_put : (map.len made.unclaimed == 0) ≡ true → Stands (with_group type groups) (insert groups name made.group) bytes at last
        group_put none =
            let new : Groups = insert groups name made.group in
            then_reads whole put_of bytes at (checked_exact kinds.Group 0 is_claimed (named_group type groups) (named_group_exact type groups)) (λ g. give_exact _) last (name, made)
            (passes kinds.Group is_claimed (named_group type groups) bytes at last (name, made) (behind_group (name, made) (Ok last) t) none)
            new (Ok last) (give_stands new bytes last t.inside)

        -- one of them is for none
        pub group_unclaimed : (map.len made.unclaimed == 0) ≡ false → Fails (with_group type groups) bytes at kinds.Group at
        group_unclaimed some =
            first_fails whole put_of bytes at kinds.Group at
            (falls kinds.Group is_claimed (named_group type groups) bytes at last (name, made) (behind_group (name, made) (Ok last) t) (named_group_exact type groups) some)
