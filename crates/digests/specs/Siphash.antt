-- SipHash-c-d, from section 2 of "SipHash: a fast short-input PRF" by Aumasson and Bernstein, on words
-- modulo 2 ^ 64.
use Rattle.std.specs.Prelude.{ℕ, zero, suc, ◌+◌, ◌-◌, ◌*◌, ◌/◌, ◌%◌, ◌^◌, List, [], ◌∷◌, ◌++◌, length, drop, replicate, bit_xor}
use Rattle.std.specs.Int.{w64, rotate_left}
use Rattle.byteorder.specs.Endian.{little_number}
use Rattle.digests.specs.declared.siphash.State.{State}

-- the sum of two words
abbrev pub plus : ℕ → ℕ → ℕ
plus a b = (a + b) % 2 ^ 64

-- the second word rotated and mixed with the sum of both
abbrev pub mixed : ℕ → ℕ → ℕ → ℕ
mixed a b by = bit_xor (rotate_left w64 b by) (plus a b)

-- the network of one SipRound
unfoldable pub round : State → State
round s =
    let a0 = plus s.v0 s.v1 in
    let a1 = mixed s.v0 s.v1 13 in
    let a2 = plus s.v2 s.v3 in
    let a3 = mixed s.v2 s.v3 16 in
    let b0 = rotate_left w64 a0 32 in
    record {
      v0 = plus b0 a3;
      v1 = mixed a2 a1 17;
      v2 = rotate_left w64 (plus a2 a1) 32;
      v3 = mixed b0 a3 21;
    }

-- so many rounds
unfoldable pub rounds : ℕ → State → State
rounds zero s = s
rounds (suc n) s = round (rounds n s)

-- initialization: the key's words with four constants
unfoldable pub initial : ℕ → ℕ → State
initial k0 k1 = record {
  v0 = bit_xor k0 0x736f6d6570736575;
  v1 = bit_xor k1 0x646f72616e646f6d;
  v2 = bit_xor k0 0x6c7967656e657261;
  v3 = bit_xor k1 0x7465646279746573;
}

-- compression: a word of the message, with c rounds
unfoldable pub absorbed : ℕ → ℕ → State → State
absorbed c word s =
    let mid = rounds c (record s { v3 = bit_xor s.v3 word }) in
    record mid { v0 = bit_xor mid.v0 word }

-- the message with null bytes and then its length modulo 256 behind it, so that it has whole words
unfoldable pub padded : List ℕ → List ℕ
padded message = message ++ replicate (7 - length message % 8) 0 ++ (length message % 256) ∷ []

-- a word of eight bytes, the lowest first
abbrev pub word_at : List ℕ → ℕ → ℕ
word_at bytes n = little_number 8 (drop (8 * n) bytes)

-- the first n words taken in, in turn
unfoldable pub compressed : ℕ → List ℕ → ℕ → State → State
compressed c bytes zero s = s
compressed c bytes (suc n) s = absorbed c (word_at bytes n) (compressed c bytes n s)

-- finalization: d rounds, and all four words
unfoldable pub finished : ℕ → State → ℕ
finished d s =
    let last = rounds d (record s { v2 = bit_xor s.v2 0xff }) in
    bit_xor (bit_xor (bit_xor last.v0 last.v1) last.v2) last.v3

-- the hash of a message under a key of two words, with c and d rounds
unfoldable pub sip : ℕ → ℕ → ℕ → ℕ → List ℕ → ℕ
sip c d k0 k1 message = finished d (compressed c (padded message) (length message / 8 + 1) (initial k0 k1))
