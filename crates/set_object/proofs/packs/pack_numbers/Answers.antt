use Rattle.std.proofs.Common.{◌≡◌, ℕ, ◌+◌, ◌<◌, ◌≤◌, ◌^◌, List, take, map, length, Option, Some, None, sym, ap, ◌∙◌, subst, arith, add-one, w64}
use Rattle.std.specs.Prelude.{ℤ, pos}
use Rattle.std.specs.List.{slice_get}
use Rattle.std.specs.Global.{Vec}
use Rattle.std.proofs.lemmas.List.{take_all, length-map, length-take-le}
use Rattle.std.proofs.lemmas.List.Elements.{All-take}
use Rattle.std.proofs.lemmas.Option.{slice_get-get_or}
use Rattle.std.proofs.lemmas.Int.{to_z-of_z}
use lib.Signed.{mag}
use Rattle.int_text.specs.Decimal.{canonical}
use Rattle.set_object.specs.Members.{IsPackOf}
use Rattle.set_object.proofs.Texts.{at_fit, text_more, text_short, texts_short, AreFit}
use Rattle.set_object.proofs.Packing.{pack_empty, pack_fits, pack_pushed}
use Rattle.set_object.proofs.packs.pack_numbers.Goals.{in-Some+in_ok-push_number, in_default}
use Rattle.set_object.proofs.packs.pack_numbers.Goals as goal

never : (o : Option ℤ) (n : ℤ) → o ≡ Some n → None ≡ o → ⊥
never o n h k = cc

pub loop-index-init : goal.loop-index-init
loop-index-init c = pack_empty c.in_ok-pack.pack.items 0 c.in_ok-pack.ensures

pub push_number-requires-clause-packed : goal.push_number-requires-clause-packed
push_number-requires-clause-packed c = c.loop-index.invariant.pack

pub push_number-requires-clause-fits : goal.push_number-requires-clause-fits
push_number-requires-clause-fits c =
    let ns = c.known-numbers.result in
    let i = c.loop-index.index in
    let n = c.in-Some.n in
    let fit : AreFit ns = subst AreFit (sym c.known-numbers.ensures) c.requires.fit in
    let small : mag n < 2 ^ 63 = at_fit ns i n fit (sym c.in-Some.ensures) in
    let few : length ns ≤ 65536 = omega (arith, ap length c.known-numbers.ensures, c.requires.few) in
    rw (to_z-of_z w64 n (record { sfits = small }))
    (pack_fits (map canonical (take i ns)) c.loop-index.pack.items (canonical n) c.loop-index.invariant (texts_short (take i ns) (All-take (λ n. mag n < 2 ^ 63) i ns fit))
    (let k = c.len-index-end.ensures.value in omega
    (arith, length-map (take i ns) canonical, length-take-le i ns (omega (arith, k, c.loop-index-test.true)), few, k, c.loop-index-test.true))
    (let s = text_short n small in omega (arith, s)))

pub loop-index-preserved : goal.loop-index-preserved
loop-index-preserved c =
    let ns = c.known-numbers.result in
    let i = c.loop-index.index in
    let fit : AreFit ns = subst AreFit (sym c.known-numbers.ensures) c.requires.fit in
    elim c.match-at.branch [
      | in-Some+in_ok-push_number w ↦
          (let n = w.in-Some.n in
          let at : slice_get ns i ≡ Some n = sym w.in-Some.ensures in
          let f = to_z-of_z w64 n (record { sfits = at_fit ns i n fit at }) in
          let pushed = pack_pushed (map canonical (take i ns)) c.loop-index.pack.items w.push_number.new.pack.items (canonical n) _ c.loop-index.invariant
          (rw f at w.in_ok-push_number.ensures.entries) (rw f at w.in_ok-push_number.ensures.list) in
          subst (λ (v : Vec ℕ). IsPackOf (map canonical (take (i + 1) ns)) v.items) (sym w.pack-is)
          (rw add-one (subst (λ (xs : List (List ℕ)). IsPackOf xs w.push_number.new.pack.items) (sym (text_more ns i n at)) pushed)))
      | in_default w ↦ absurd (never (slice_get ns i) _ (slice_get-get_or ns i (pos 0) (let k = c.len-index-end.ensures.value in omega (arith, k, c.loop-index-test.true))) w.in_default.ensures)
    ]

pub returns : goal.returns
returns c =
    let ns = c.known-numbers.result in
    let all : take c.loop-index.index ns ≡ ns = take_all c.loop-index.index ns (let k = c.len-index-end.ensures.value in omega (arith, k, c.loop-index-test.false)) in
    subst (λ (xs : List ℤ). IsPackOf (map canonical xs) c.loop-index.pack.items) (all ∙ c.known-numbers.ensures) c.loop-index.invariant
