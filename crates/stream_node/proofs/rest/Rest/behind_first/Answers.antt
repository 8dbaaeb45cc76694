use Rattle.std.proofs.Common.{◌≡◌, ◌+◌, ◌-◌, ℕ, Option, [], length, get_or, refl, subst, arith}
use Rattle.std.specs.Prelude.{MatchOption}
use Rattle.listpack.specs.Pack.{IsAt}
use Rattle.listpack.specs.View.{bytes_of, list_of}
use Rattle.stream_node.proofs.Rests.{from_place}
use Rattle.stream_node.proofs.rest.Rest.behind_first.Goals as goal

pub next-requires : goal.next-requires
next-requires c = (length (list_of c.args.self.now.pack) - c.args.self.now.left, c.args.self.now.place c.in-Some.at c.in-Some.is)

pub overflow_sub-result : goal.overflow_sub-result
overflow_sub-result c =
    let rest = c.args.self.now in
    let place = rest.place c.in-Some.at c.in-Some.is in
    omega (arith, place.0)

pub invariant_of-result : goal.invariant_of-result
invariant_of-result c =
    let rest = c.args.self.now in
    let bytes = bytes_of rest.pack in
    let many : ℕ = length (list_of rest.pack) in
    let i : ℕ = many - rest.left in
    let place = rest.place c.in-Some.at c.in-Some.is in
    let next = c.next.ensures.place i place in
    let step : i + 1 ≡ many - (rest.left - 1) = omega (arith, place.0, rest.few) in
    record {
      small = omega (arith, rest.small);
      few = omega (arith, rest.few);
      place = λ to is. subst (λ (n : ℕ). IsAt bytes n to) step (subst (λ (o : Option ℕ). MatchOption o (i + 1 ≡ many) (λ at. IsAt bytes (i + 1) at)) is next);
      end = λ is.
          let ended : i + 1 ≡ many = subst (λ (o : Option ℕ). MatchOption o (i + 1 ≡ many) (λ at. IsAt bytes (i + 1) at)) is next in
          omega (arith, ended, place.0, rest.few);
    }

pub returns-in-Some-clause-some : goal.returns-in-Some-clause-some
returns-in-Some-clause-some c =
    let rest = c.args.self.now in
    let place = rest.place c.in-Some.at c.in-Some.is in
    let text = get_or (list_of rest.pack) (length (list_of rest.pack) - rest.left) [] in
    (text, from_place (list_of rest.pack) rest.left text rest.few place.0 refl)

pub returns-in-Some-clause-none : goal.returns-in-Some-clause-none
returns-in-Some-clause-none c = tt

pub returns-in-None-clause-some : goal.returns-in-None-clause-some
returns-in-None-clause-some c = tt
