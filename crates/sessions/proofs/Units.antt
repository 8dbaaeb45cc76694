-- How units are written.
use Rattle.std.proofs.Common.{◌≡◌, ℕ, ◌/◌, ◌%◌, ◌^◌, List, ◌++◌, length, Result, Ok, Err, ap, subst, ◌∙◌, append_assoc, arith}
use Rattle.outside.specs.Streams.{SinkSeen}
use Rattle.byteorder.specs.Endian.{little_bytes}
use Rattle.plain_sessions.specs.Units.{unit}
use Rattle.resp_frames.specs.Puts.{PutsFront}
use Rattle.serving.specs.Output.{Onward, Writes}
use Rattle.serving.proofs.Onward.{onward_then, onward_breaks, breaks_before}

-- eight bytes of a number are those of it modulo 2^64
pub eight_bytes : (n : ℕ) → little_bytes 8 (n % 2 ^ 64) ≡ little_bytes 8 n
eight_bytes n =
    let a : n % 18446744073709551616 % 256 ≡ n % 256 = omega arith in
    let b : n % 18446744073709551616 / 256 % 256 ≡ n / 256 % 256 = omega arith in
    let c : n % 18446744073709551616 / 65536 % 256 ≡ n / 65536 % 256 = omega arith in
    let d : n % 18446744073709551616 / 16777216 % 256 ≡ n / 16777216 % 256 = omega arith in
    let e : n % 18446744073709551616 / 4294967296 % 256 ≡ n / 4294967296 % 256 = omega arith in
    let f : n % 18446744073709551616 / 1099511627776 % 256 ≡ n / 1099511627776 % 256 = omega arith in
    let g : n % 18446744073709551616 / 281474976710656 % 256 ≡ n / 281474976710656 % 256 = omega arith in
    let h : n % 18446744073709551616 / 72057594037927936 % 256 ≡ n / 72057594037927936 % 256 = omega arith in
    cc

module _ (session len : ℕ) (told : List ℕ) (is : little_bytes 8 len ≡ little_bytes 8 (length told)) where
  -- a head and what it tells of are a unit
  unit_is : (little_bytes 2 session ++ little_bytes 8 len) ++ told ≡ unit session told
  unit_is = append_assoc (little_bytes 2 session) (little_bytes 8 len) told ∙ ap (λ l. little_bytes 2 session ++ (l ++ told)) is

  module _ (o o1 o2 : SinkSeen) (p p1 p2 head : List ℕ) (headed : head ≡ little_bytes 2 session ++ little_bytes 8 len) where
    all : head ++ told ≡ unit session told
    all = ap (λ l. l ++ told) headed ∙ unit_is

    pub unit_then : {T X : Type 0} (r : Result T X) → Onward o o1 p p1 head → Writes o1 o2 p1 p2 told r → Writes o o2 p p2 (unit session told) r
    unit_then (Ok x) f g = let P : List ℕ → Type 0 = λ l. Onward o o2 p p2 l in subst P all (onward_then o o1 o2 p p1 p2 head told f g)
    unit_then (Err x) f g = let P : List ℕ → Type 0 = λ l. PutsFront o o2 (p ++ l) in subst P all (onward_breaks o o1 o2 p p1 head told f g)

    pub unit_stops : PutsFront o o1 (p ++ head) → PutsFront o o1 (p ++ unit session told)
    unit_stops f = let P : List ℕ → Type 0 = λ l. PutsFront o o1 (p ++ l) in subst P all (breaks_before o o1 p head told f)
