use Rattle.std.proofs.Common.{◌≡◌, ◌≤◌, List, ℕ, map, sym, ap, subst, arith}
use Rattle.std.specs.Prelude.{IsTrue, ◌↔◌}
use Rattle.std.proofs.lemmas.Result.{IfOk-weaker}
use Rattle.listpack.specs.Pack.{IsPack, texts, spellings_of}
use Rattle.listpack.specs.Writing.{spelling}
use Rattle.pack_pairs.specs.Pairs.{IsPairPack, IsOnce, pairs, longest}
use Rattle.hash_object.specs.Fields.{IsFieldPack}
use Rattle.hash_object.proofs.Whole.{pair_pack, field_pack}
use Rattle.hash_object.proofs.taking.is_field_pack.Goals as goal

pub returns-then-not-is_written : goal.returns-then-not-is_written
returns-then-not-is_written c = (
  λ t. absurd cc,
  λ p. let t : IsTrue c.is_written.result = c.is_written.ensures.1 p.pack.written in let f = c.if-not-is_written.true in let never : ⊥ = cc in absurd never,
)

pub longest_len-longest-requires : goal.longest_len-longest-requires
longest_len-longest-requires c =
    let seen = c.bytes-bytes.ensures in
    let bytes = c.args.pack.now.bytes.now in
    let written : spellings_of bytes ≡ map spelling (texts bytes) = c.is_written.ensures.0 c.if-not-is_written.false in
    subst IsPairPack (sym seen.value) (pair_pack bytes c.args.count (subst IsPack seen.value seen.pack) written c.requires.count)

pub returns-then-longest-most : goal.returns-then-longest-most
returns-then-longest-most c = (
  λ t. absurd cc,
  λ p. absurd (omega (arith, p.short, c.if-longest-most.true, c.longest_len-longest.ensures, ap (λ (bs : List ℕ). longest (pairs bs)) c.bytes-bytes.ensures.value)),
)

pub are_once-requires : goal.are_once-requires
are_once-requires c =
    let seen = c.bytes-bytes.ensures in
    let bytes = c.args.pack.now.bytes.now in
    let written : spellings_of bytes ≡ map spelling (texts bytes) = c.is_written.ensures.0 c.if-not-is_written.false in
    subst IsPairPack (sym seen.value) (pair_pack bytes c.args.count (subst IsPack seen.value seen.pack) written c.requires.count)

pub returns : goal.returns
returns c =
    let seen = c.bytes-bytes.ensures in
    let bytes = c.args.pack.now.bytes.now in
    let written : spellings_of bytes ≡ map spelling (texts bytes) = c.is_written.ensures.0 c.if-not-is_written.false in
    let pack : IsPairPack bytes = pair_pack bytes c.args.count (subst IsPack seen.value seen.pack) written c.requires.count in
    let short : longest (pairs bytes) ≤ c.args.limits.now.hash_value = omega (arith, c.if-longest-most.false, c.longest_len-longest.ensures, ap (λ (bs : List ℕ). longest (pairs bs)) seen.value) in
    IfOk-weaker c.are_once.result (λ once. IsTrue once ↔ IsOnce (pairs c.bytes-bytes.result.now)) (λ stands. IsTrue stands ↔ IsFieldPack c.args.limits.now c.args.count bytes)
    (λ once both. (
      (λ t. field_pack c.args.limits.now c.args.count bytes c.requires.few c.requires.count pack short (subst (λ (bs : List ℕ). IsOnce (pairs bs)) seen.value (both.0 t))),
      (λ p. both.1 (subst (λ (bs : List ℕ). IsOnce (pairs bs)) (sym seen.value) p.once)),
    ))
    c.are_once.ensures
