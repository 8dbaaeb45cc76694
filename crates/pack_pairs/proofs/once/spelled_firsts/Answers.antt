use Rattle.std.proofs.Common.{◌≡◌, ℕ, ◌*◌, Option, Some, List, [], length, get_or, sym, ap, ◌∙◌, subst, arith, rules}
use Rattle.std.specs.Prelude.{MatchOption}
use Rattle.listpack.specs.Pack.{IsAt, texts, spellings_of}
use Rattle.pack_pairs.specs.Pairs.{IsPairAt, pairs}
use Rattle.pack_pairs.proofs.Distinct.{bytes_in, part_more, all_parts}
use Rattle.pack_pairs.proofs.Packs.{texts_len, pair_inside}
use Rattle.pack_pairs.proofs.once.spelled_firsts.Goals as goal

-- the next pair, as the loop knows it
at_place : (bytes : List ℕ) (i : ℕ) (next : Option ℕ) (at : ℕ) → next ≡ Some at → MatchOption next (i ≡ length (pairs bytes)) (λ at. IsPairAt bytes i at) → IsPairAt bytes i at
at_place bytes i next at is place = subst (λ (o : Option ℕ). MatchOption o (i ≡ length (pairs bytes)) (λ at. IsPairAt bytes i at)) is place

-- the same in bytes that are the same
seen_place : (bytes seen : List ℕ) (i at : ℕ) → seen ≡ bytes → IsPairAt bytes i at → IsAt seen (2 * i) at
seen_place bytes seen i at same here = subst (λ (bs : List ℕ). IsPairAt bs i at) (sym same) here

pub loop-init : goal.loop-init
loop-init c = record {
  place = search rules;
  parts = ap bytes_in c.in_ok-firsts.ensures.items;
}

pub spelling_at-part-requires : goal.spelling_at-part-requires
spelling_at-part-requires c =
    let i = c.loop.counter in
    (2 * i, seen_place c.args.bytes.now c.known-pack.result.bytes.now i c.in-Some.at c.known-pack.ensures (at_place c.args.bytes.now i c.loop.next c.in-Some.at c.in-Some.is c.loop.invariant.place))

pub unreachable-requires : goal.unreachable-requires
unreachable-requires c =
    let bytes = c.args.bytes.now in
    let i = c.loop.counter in
    let all : i ≡ length (pairs bytes) = subst (λ (o : Option ℕ). MatchOption o (i ≡ length (pairs bytes)) (λ at. IsPairAt bytes i at)) c.in-None.is c.loop.invariant.place in
    omega (arith, all, c.loop-test.true, c.len-count.ensures, ap (λ (bs : List ℕ). length (texts bs)) c.known-pack.ensures, texts_len bytes c.requires)

pub loop-preserved : goal.loop-preserved
loop-preserved c =
    let bytes = c.args.bytes.now in
    let i = c.loop.counter in
    let at = at_place bytes i c.loop.next c.in-Some.at c.in-Some.is c.loop.invariant.place in
    let seen = seen_place bytes c.known-pack.result.bytes.now i c.in-Some.at c.known-pack.ensures at in
    let here : c.spelling_at-part.result.now ≡ get_or (spellings_of bytes) (2 * i) [] =
    c.spelling_at-part.ensures.value (2 * i) seen ∙ ap (λ (bs : List ℕ). get_or (spellings_of bs) (2 * i) []) c.known-pack.ensures in
    record {
      place = c.next_place-next.ensures i at;
      parts = part_more bytes c.requires i c.loop.firsts.items c.push.new.self.items c.spelling_at-part.result (pair_inside bytes i c.in-Some.at c.requires at) c.loop.invariant.parts here
          c.in_ok-push-in-Some.ensures.items;
    }

pub returns : goal.returns
returns c =
    let bytes = c.args.bytes.now in
    all_parts bytes c.requires c.loop.counter c.loop.firsts.items
    (omega (arith, c.loop-test.false, c.len-count.ensures, ap (λ (bs : List ℕ). length (texts bs)) c.known-pack.ensures, texts_len bytes c.requires))
    c.loop.invariant.parts
