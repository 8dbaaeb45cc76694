use Rattle.std.proofs.Common.{◌≡◌, ℕ, ◌<◌, ◌^◌, List, map, Bool, sym, ap, ◌∙◌, w64, ◌↔◌}
use Rattle.std.specs.Prelude.{ℤ, IsTrue}
use Rattle.std.specs.List.{Contains}
use Rattle.std.proofs.lemmas.Int.{to_z-of_z}
use lib.Signed.{mag}
use Rattle.int_text.specs.Decimal.{canonical}
use Rattle.intset.specs.Intset.{numbers_of}
use Rattle.set_object.specs.Members.{number_texts}
use Rattle.set_object.specs.Strings.{has, set_of}
use Rattle.set_object.proofs.Sets.{among, has_among}
use Rattle.set_object.proofs.Texts.{AreFit, number_among as text_among, no_number_among}
use Rattle.set_object.proofs.packs.number_among.Goals as goal

found : (ns : List ℤ) (n : ℤ) (b : Bool) (text : List ℕ) → AreFit ns → mag n < 2 ^ 63 → (IsTrue b ↔ Contains ns n) → text ≡ canonical n → b ≡ has (set_of (map canonical ns)) text
found ns n b text fit small both is = text_among ns n b fit small both ∙ ap (λ (q : List ℕ). among q (map canonical ns)) (sym is) ∙ sym (has_among (map canonical ns) text)

pub returns-then-has_number-clause-there : goal.returns-then-has_number-clause-there
returns-then-has_number-clause-there c =
    let small : mag c.in-Some.n < 2 ^ 63 = (rw c.in-Some.is at c.read_i64.type_inv).1.1.1.1.0.1 in
    sym c.if-has_number.true ∙ found (numbers_of c.args.bytes.now) c.in-Some.n c.has_number.result c.args.member.now c.requires.fit small
    (rw (to_z-of_z w64 c.in-Some.n (record { sfits = small })) at c.has_number.ensures) c.in-Some.ensures.number

pub returns-else-has_number-clause-there : goal.returns-else-has_number-clause-there
returns-else-has_number-clause-there c =
    let small : mag c.in-Some.n < 2 ^ 63 = (rw c.in-Some.is at c.read_i64.type_inv).1.1.1.1.0.1 in
    sym c.if-has_number.false ∙ found (numbers_of c.args.bytes.now) c.in-Some.n c.has_number.result c.args.member.now c.requires.fit small
    (rw (to_z-of_z w64 c.in-Some.n (record { sfits = small })) at c.has_number.ensures) c.in-Some.ensures.number

pub returns-in-None-clause-there : goal.returns-in-None-clause-there
returns-in-None-clause-there c =
    let ns = numbers_of c.args.bytes.now in
    sym (has_among (number_texts c.args.bytes.now) c.args.member.now ∙ no_number_among ns c.args.member.now c.requires.fit c.in-None.ensures.none)
