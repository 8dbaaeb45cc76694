use Rattle.std.proofs.Common.{◌<◌, ◌^◌, w64, sym, ap, ◌∙◌, subst}
use Rattle.std.specs.Prelude.{IfOk}
use Rattle.std.specs.FinMap.{insert}
use Rattle.std.proofs.lemmas.Int.{to_z-of_z}
use lib.Signed.{mag}
use Rattle.object_codec.specs.declared.form.Form.TheVariants.{Intset}
use Rattle.set_object.specs.Strings.{has, IsRisen}
use Rattle.set_object.specs.Members.{members, form_of, IsPlacedBody}
use Rattle.set_object.proofs.Placing.{is_number, is_text_of, intset_packed}
use Rattle.set_object.proofs.members.Members.place_number_text.Goals as goal

pub unreachable-requires : goal.unreachable-requires
unreachable-requires g c =
    let m = g.B.BlockStore.blocks c.args.store.now in
    let self = c.args.self.now in
    c.in-None.ensures.none
    (is_text_of c.args.member.now
    (is_number m m self c.args.member.now c.requires.sound (intset_packed self.limits (form_of self) _ c.requires.risen) c.requires.absent c.requires.risen))

pub place_number-requires-clause-absent : goal.place_number-requires-clause-absent
place_number-requires-clause-absent g c =
    let m = g.B.BlockStore.blocks c.args.store.now in
    let small : mag c.in-Some.n < 2 ^ 63 = (rw c.in-Some.is at c.read_i64.type_inv).1.1.1.1.0.1 in
    rw (to_z-of_z w64 c.in-Some.n (record { sfits = small })) (ap (λ q. has (members m c.args.self.now) q) (sym c.in-Some.ensures.number) ∙ c.requires.absent)

pub place_number-requires-clause-risen : goal.place_number-requires-clause-risen
place_number-requires-clause-risen g c =
    let m = g.B.BlockStore.blocks c.args.store.now in
    let self = c.args.self.now in
    let small : mag c.in-Some.n < 2 ^ 63 = (rw c.in-Some.is at c.read_i64.type_inv).1.1.1.1.0.1 in
    rw (to_z-of_z w64 c.in-Some.n (record { sfits = small })) (subst (λ q. IsRisen self.limits (form_of self) (insert (members m self) q tt) Intset) c.in-Some.ensures.number c.requires.risen)

pub returns-clause-placed : goal.returns-clause-placed
returns-clause-placed g c =
    let m = g.B.BlockStore.blocks c.args.store.now in
    let n = g.B.BlockStore.blocks c.place_number.new.store in
    let self = c.args.self.now in
    let small : mag c.in-Some.n < 2 ^ 63 = (rw c.in-Some.is at c.read_i64.type_inv).1.1.1.1.0.1 in
    subst (λ q. IfOk c.place_number.result (λ body. IsPlacedBody m n self body (insert (members m self) q tt))) (sym c.in-Some.ensures.number)
    (rw (to_z-of_z w64 c.in-Some.n (record { sfits = small })) at c.place_number.ensures.placed)
