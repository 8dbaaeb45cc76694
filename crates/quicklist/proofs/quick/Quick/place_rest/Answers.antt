use Rattle.std.proofs.Common.{◌+◌, ◌<◌, [], length, map, ap, ◌∙◌, sym, subst, refl, arith}
use Rattle.std.specs.Prelude.{IsSome}
use Rattle.std.proofs.lemmas.List.{append-nil, length-map}
use Rattle.std.proofs.lemmas.List.Elements.{All-nil, All-cons}
use Rattle.object_codec.specs.declared.form.Form.{Form}
use Rattle.listpack.specs.Pack.{texts}
use Rattle.quicklist.specs.Nodes.{IsPacked, IsPiece, container_of, rest_list}
use Rattle.quicklist.specs.Chain.{IsFormed, respelled}
use Rattle.quicklist.proofs.Rising.{at_some, on_ok_three, changed_by}
use Rattle.quicklist.proofs.Rests.{IsRest, form_of, formed_many, formed_fewer}
use Rattle.quicklist.proofs.quick.Quick.place_rest.Goals as goal

pub overflow_cast-piece : goal.overflow_cast-piece
overflow_cast-piece g c = record { fits = (at_some (λ v. IsRest c.args.count v.now) c.args.rest c.in-Some.bytes c.in-Some.is c.requires.rest).3 }

pub exchange-requires-clause-pieces : goal.exchange-requires-clause-pieces
exchange-requires-clause-pieces g c =
    let r = at_some (λ v. IsRest c.args.count v.now) c.args.rest c.in-Some.bytes c.in-Some.is c.requires.rest in
    let there = sym c.deref.ensures.value in
    All-cons IsPiece _ [] (record { is_held = subst IsPacked there r.0; counted = r.1 ∙ ap (λ xs. length (texts xs)) there; some = r.2 }) (All-nil IsPiece)

pub exchange-requires-in-None-clause-pieces : goal.exchange-requires-in-None-clause-pieces
exchange-requires-in-None-clause-pieces g c = All-nil IsPiece

pub returns-in-Some-clause-changed : goal.returns-in-Some-clause-changed
returns-in-Some-clause-changed g c =
    let m = g.B.BlockStore.blocks c.args.store.now in
    let n = g.B.BlockStore.blocks c.exchange.new.store in
    let q = c.args.self.now in
    let e = c.args.k + c.args.gone in
    let formed = subst (λ (f : Form). IsFormed f (map container_of q.nodes)) (sym (ap (λ v. v.form) c.self.view_is)) c.requires.quick.formed in
    let many : 1 < length (map container_of q.nodes) = omega (arith, c.requires.inside, c.requires.many (subst IsSome (sym c.in-Some.is) refl), length-map q.nodes container_of) in
    let list = ap rest_list c.in-Some.is ∙ sym (ap texts c.deref.ensures.value) ∙ sym (append-nil (texts c.deref.result.now)) in
    on_ok_three c.exchange.result
    (λ x len is. changed_by m n q c.exchange.new.self (respelled m q c.args.k (rest_list c.args.rest) e) c.args.k e c.args.len c.self.inside.form _
    (ap (λ xs. respelled m q c.args.k xs e) list) c.requires.len (formed_many c.self.inside.form (map container_of q.nodes) _ many formed) x len is)
    c.exchange.ensures.ok c.exchange.ensures.len c.exchange.ensures.form

pub returns-in-Some-clause-form : goal.returns-in-Some-clause-form
returns-in-Some-clause-form g c =
    form_of c.exchange.result c.args.self.now c.exchange.new.self c.self.inside.form (ap (λ v. v.form) c.self.view_is) c.exchange.ensures.form c.exchange.ensures.err_list

pub returns-in-None-clause-changed : goal.returns-in-None-clause-changed
returns-in-None-clause-changed g c =
    let call = c.exchange-in-None in
    let m = g.B.BlockStore.blocks c.args.store.now in
    let n = g.B.BlockStore.blocks call.new.store in
    let q = c.args.self.now in
    let e = c.args.k + c.args.gone in
    let formed = subst (λ (f : Form). IsFormed f (map container_of q.nodes)) (sym (ap (λ v. v.form) c.self.view_is)) c.requires.quick.formed in
    on_ok_three call.result
    (λ x len is. changed_by m n q call.new.self (respelled m q c.args.k (rest_list c.args.rest) e) c.args.k e c.args.len c.self.inside.form _
    (ap (λ xs. respelled m q c.args.k xs e) (ap rest_list c.in-None.is)) c.requires.len
    (formed_fewer c.self.inside.form (map container_of q.nodes) c.args.k c.args.gone c.requires.some (omega (arith, c.requires.inside, length-map q.nodes container_of)) formed) x len is)
    call.ensures.ok call.ensures.len call.ensures.form

pub returns-in-None-clause-form : goal.returns-in-None-clause-form
returns-in-None-clause-form g c =
    form_of c.exchange-in-None.result c.args.self.now c.exchange-in-None.new.self c.self.inside.form (ap (λ v. v.form) c.self.view_is) c.exchange-in-None.ensures.form
    c.exchange-in-None.ensures.err_list
