-- One round or one word more.
use Rattle.std.proofs.Common.{◌≡◌, ℕ, ◌+◌, suc, refl, ap, arith, List}
use Rattle.digests.specs.declared.siphash.State.{State}
use Rattle.digests.specs.Siphash.{round, rounds, absorbed, word_at, compressed}

pub rounds_zero : (s : State) → rounds 0 s ≡ s
unfolding rounds
rounds_zero s = refl

pub rounds_next : (n : ℕ) (s : State) → rounds (n + 1) s ≡ round (rounds n s)
unfolding rounds
rounds_next n s = let e : n + 1 ≡ suc n = omega arith in ap (λ k. rounds k s) e

pub compressed_zero : (c : ℕ) (bytes : List ℕ) (s : State) → compressed c bytes 0 s ≡ s
unfolding compressed
compressed_zero c bytes s = refl

pub compressed_next : (c : ℕ) (bytes : List ℕ) (n : ℕ) (s : State) → compressed c bytes (n + 1) s ≡ absorbed c (word_at bytes n) (compressed c bytes n s)
unfolding compressed
compressed_next c bytes n s = let e : n + 1 ≡ suc n = omega arith in ap (λ k. compressed c bytes k s) e
