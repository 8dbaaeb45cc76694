use Rattle.std.proofs.Common.{◌≡◌, ℕ, ◌<◌, ◌^◌, List, map, sym, ap, ◌∙◌, subst, w64}
use Rattle.std.specs.Prelude.{ℤ}
use Rattle.std.specs.FinMap.{remove}
use Rattle.std.proofs.lemmas.Int.{to_z-of_z}
use Rattle.std.proofs.lemmas.List.Elements.{All-filter}
use lib.Signed.{mag}
use Rattle.int_text.specs.Decimal.{canonical}
use Rattle.intset.specs.Intset.{numbers_of, without_number}
use Rattle.set_object.specs.Members.{number_texts}
use Rattle.set_object.specs.Strings.{set_of}
use Rattle.set_object.proofs.Texts.{AreFit}
use Rattle.set_object.proofs.Taking.{numbers_left}
use Rattle.set_object.proofs.packs.numbers_without.Goals as goal

pub returns-in_ok-set-in-Some-clause-left : goal.returns-in_ok-set-in-Some-clause-left
returns-in_ok-set-in-Some-clause-left c =
    let n = c.in-Some.n in
    let small : mag n < 2 ^ 63 = (rw c.in-Some.is at c.number_among.type_inv).1.1.1.1.0.1 in
    let old : AreFit (numbers_of c.in_ok-set-in-Some.set.items) = subst (λ (bs : List ℕ). AreFit (numbers_of bs)) (sym c.in_ok-set-in-Some.ensures.items) c.requires.fit in
    let now : numbers_of c.remove.new.set.items ≡ without_number (numbers_of c.in_ok-set-in-Some.set.items) n = rw (to_z-of_z w64 n (record { sfits = small })) at c.remove.ensures.removed in
    let is : numbers_of c.remove.new.set.items ≡ without_number (numbers_of c.args.bytes.now) n =
    subst (λ (bs : List ℕ). numbers_of c.remove.new.set.items ≡ without_number (numbers_of bs) n) c.in_ok-set-in-Some.ensures.items now in
    record {
      intset = c.remove.ensures.intset;
      fit = subst AreFit (sym c.remove.ensures.removed) (All-filter _ (λ n. mag n < 2 ^ 63) (numbers_of c.in_ok-set-in-Some.set.items) old);
      members_are = ap (λ (ns : List ℤ). set_of (map canonical ns)) is ∙ numbers_left (numbers_of c.args.bytes.now) n c.requires.fit small
          ∙ ap (remove (set_of (number_texts c.args.bytes.now))) c.in-Some.ensures.text;
    }
