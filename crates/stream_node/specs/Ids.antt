-- Ids as numbers and as bytes. (RDB: a stream node's key is the id's two numbers, each in eight bytes, the highest first.)
use Rattle.std.specs.Prelude.{◌≡◌, ℕ, ◌+◌, ◌*◌, ◌^◌, ◌<◌, ◌↔◌, List, ◌++◌, take, drop}
use Rattle.std.specs.Int.{w64, to_be_bytes, from_be_bytes}
use Rattle.std.specs.Ordering.{nat_cmp}
use Rattle.std.specs.Cmp.Lexicographic.{slice_cmp}
use Rattle.stream_node.specs.declared.id.Id.{Id}
use Rattle.stream_node.specs.Entry.{IsBelow}

-- an id that code can hold
pub record IsId (id : Id) : Type 0 where
  pub ms : id.ms < 2 ^ 64
  pub seq : id.seq < 2 ^ 64

-- the id as one number, its milliseconds above its sequence number
abbrev pub id_number : Id → ℕ
id_number id = id.ms * 2 ^ 64 + id.seq

-- its sixteen bytes
abbrev pub id_key : Id → List ℕ
id_key id = to_be_bytes w64 id.ms ++ to_be_bytes w64 id.seq

-- the id that sixteen bytes are
abbrev pub key_id : List ℕ → Id
key_id key = record { ms = from_be_bytes w64 (take 8 key); seq = from_be_bytes w64 (drop 8 key) }

-- The order of ids is that of their numbers, and that of their bytes; and bytes and numbers are of one id each.
pub record IdLaws : Type 0 where
  pub below : (a b : Id) → IsId a → IsId b → IsBelow a b ↔ (id_number a < id_number b)
  pub bytes : (a b : Id) → IsId a → IsId b → slice_cmp nat_cmp (id_key a) (id_key b) ≡ nat_cmp (id_number a) (id_number b)
  pub back : (a : Id) → IsId a → key_id (id_key a) ≡ a
  pub one : (a b : Id) → IsId a → IsId b → id_number a ≡ id_number b → a ≡ b
