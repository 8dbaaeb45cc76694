-- Nodes of lists, read.
use Rattle.std.proofs.Common.{◌≡◌, inl, ℕ, ◌-◌, ◌≤◌, List, length, drop, Result, Ok, Err, refl, arith}
use Rattle.std.specs.Prelude.{◌==◌}
use Rattle.plain_world.specs.Worlds.{Value}
use Rattle.rdb_grammar.specs.declared.fault.LoadKind.{LoadKind}
use Rattle.rdb_grammar.specs.Layouts.{container, with_string, with_node}
use Rattle.rdb_grammar.specs.Places.{Stands, Fails}
use Rattle.rdb_grammar.proofs.PartsExact.{container_exact, with_string_exact, with_node_exact}
use Rattle.rdb_grammar.proofs.Standing.{reads, reads_fault}
use Rattle.rdb_grammar.proofs.Partly.{stands_read, fails_read}
use Rattle.rdb_reader.specs.Building.{Reads}
use Rattle.rdb_reader.specs.declared.fault.LoadFault.{LoadFault}
use Rattle.rdb_reader.specs.declared.fault.LoadFault.TheVariants as loads

-- the fault of a container is the node's
pub container_fails : (bytes : List ℕ) (at : ℕ) (made : Value) (which : LoadKind) (place : ℕ) → Fails container bytes at which place → Fails (with_node made) bytes at which place
container_fails bytes at made which place f = record { onward = f.onward; inside = f.inside; faulty = inl f.faulty }

-- behind its container the string of a node is read
pub node_reads : (bytes : List ℕ) (at next n : ℕ) (made new : Value) → Stands container n bytes at next → (result : Result ℕ LoadFault)
    → Reads (with_string (n == 1) made) bytes next new result → Reads (with_node made) bytes at new result
node_reads bytes at next n made new s (Ok last) t =
    let r : container.read (drop at bytes) ≡ Ok (n, drop next bytes) = reads container container_exact n bytes at next s in
    let q : (with_string (n == 1) made).read (drop next bytes) ≡ Ok (new, drop last bytes) = reads (with_string (n == 1) made) (with_string_exact (n == 1) made) new bytes next last t in
    let whole : (with_node made).read (drop at bytes) ≡ Ok (new, drop last bytes) = rw (r, q) refl in
    let first : at ≤ next = s.onward in
    let second : next ≤ length bytes = s.inside in
    stands_read (with_node made) (with_node_exact made) bytes at last new (omega (arith, first, second)) t.inside whole
node_reads bytes at next n made new s (Err (loads.Refused which place)) f =
    let r : container.read (drop at bytes) ≡ Ok (n, drop next bytes) = reads container container_exact n bytes at next s in
    let q : (with_string (n == 1) made).read (drop next bytes) ≡ Err (which, length bytes - place) =
    reads_fault (with_string (n == 1) made) (with_string_exact (n == 1) made) bytes next which place f in
    let whole : (with_node made).read (drop at bytes) ≡ Err (which, length bytes - place) = rw (r, q) refl in
    let first : at ≤ next = s.onward in
    let second : next ≤ length bytes = s.inside in
    fails_read (with_node made) (with_node_exact made) bytes at which place (omega (arith, first, second)) f.inside whole
node_reads bytes at next n made new s (Err loads.Host) f = f
node_reads bytes at next n made new s (Err loads.Limit) f = f
node_reads bytes at next n made new s (Err loads.Memory) f = f
