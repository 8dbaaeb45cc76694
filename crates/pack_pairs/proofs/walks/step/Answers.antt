use Rattle.std.proofs.Common.{◌≡◌, ℕ, ◌+◌, ◌*◌, Option, List, [], length, get_or, sym, ap, ◌∙◌, subst, arith}
use Rattle.std.specs.Prelude.{MatchOption}
use Rattle.listpack.specs.Pack.{IsAt, texts}
use Rattle.pack_pairs.specs.Pairs.{IsPairAt}
use Rattle.pack_pairs.proofs.Packs.{texts_len, first_text, second_text, next_pair}
use Rattle.pack_pairs.proofs.walks.step.Goals as goal

pub unreachable-requires : goal.unreachable-requires
unreachable-requires c =
    let seen = c.known-pack.result.bytes.now in
    let i = c.requires.place.0 in
    let place = c.step-behind.ensures.place (2 * i) (subst (λ (bs : List ℕ). IsPairAt bs i c.args.at) (sym c.known-pack.ensures) c.requires.place.1) in
    let last : 2 * i + 1 ≡ length (texts seen) = subst (λ (o : Option ℕ). MatchOption o (2 * i + 1 ≡ length (texts seen)) (λ to. IsAt seen (2 * i + 1) to)) c.in-None.is place in
    omega (arith, last, ap (λ (bs : List ℕ). length (texts bs)) c.known-pack.ensures, texts_len c.args.bytes.now c.requires.pack)

pub returns-clause-first : goal.returns-clause-first
returns-clause-first c = λ i here.
    c.step-behind.ensures.text (2 * i) (subst (λ (bs : List ℕ). IsPairAt bs i c.args.at) (sym c.known-pack.ensures) here)
    ∙ ap (λ (bs : List ℕ). get_or (texts bs) (2 * i) []) c.known-pack.ensures
    ∙ first_text c.args.bytes.now i c.requires.pack

pub returns-clause-second : goal.returns-clause-second
returns-clause-second c = λ i here.
    let seen = c.known-pack.result.bytes.now in
    let place = c.step-behind.ensures.place (2 * i) (subst (λ (bs : List ℕ). IsPairAt bs i c.args.at) (sym c.known-pack.ensures) here) in
    let behind : IsAt seen (2 * i + 1) c.in-Some.behind = subst (λ (o : Option ℕ). MatchOption o (2 * i + 1 ≡ length (texts seen)) (λ to. IsAt seen (2 * i + 1) to)) c.in-Some.is place in
    c.step-next.ensures.text (2 * i + 1) behind
    ∙ ap (λ (bs : List ℕ). get_or (texts bs) (2 * i + 1) []) c.known-pack.ensures
    ∙ second_text c.args.bytes.now i c.requires.pack

pub returns-clause-next : goal.returns-clause-next
returns-clause-next c = λ i here.
    let seen = c.known-pack.result.bytes.now in
    let place = c.step-behind.ensures.place (2 * i) (subst (λ (bs : List ℕ). IsPairAt bs i c.args.at) (sym c.known-pack.ensures) here) in
    let behind : IsAt seen (2 * i + 1) c.in-Some.behind = subst (λ (o : Option ℕ). MatchOption o (2 * i + 1 ≡ length (texts seen)) (λ to. IsAt seen (2 * i + 1) to)) c.in-Some.is place in
    next_pair c.args.bytes.now seen c.step-next.result.1 i c.known-pack.ensures c.requires.pack (c.step-next.ensures.place (2 * i + 1) behind)
