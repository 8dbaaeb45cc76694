use Rattle.std.proofs.Common.{◌≡◌, ◌∷◌, [], length, map, ap, ◌∙◌, sym, subst, refl, arith}
use Rattle.std.specs.Prelude.{OnOk}
use Rattle.std.proofs.lemmas.List.Elements.{All-nil, All-cons}
use Rattle.blocks.specs.Blocks.{no_step}
use Rattle.object_codec.specs.declared.form.Form.{Form}
use Rattle.listpack.specs.Pack.{texts}
use Rattle.quicklist.specs.declared.node.Container.TheVariants.{Plain, Packed}
use Rattle.quicklist.specs.declared.piece.Piece.{Piece}
use Rattle.quicklist.specs.Nodes.{IsAlone, IsPacked, IsPiece, container_of, pack_len}
use Rattle.quicklist.specs.Chain.{IsFormed, IsOverfull, IsRisen, IsWritten, respelled}
use Rattle.quicklist.proofs.Written.{packed_len}
use Rattle.quicklist.proofs.Rising.{on_ok_three, written_by, written_pieces, changed_by, first_is, one_piece, stays}
use Rattle.quicklist.proofs.Rests.{formed_first}
use Rattle.quicklist.proofs.quick.Quick.begin.Goals as goal

pub returns-in_err-bytes-clause-served : goal.returns-in_err-bytes-clause-served
returns-in_err-bytes-clause-served g c = no_step

pub exchange-requires-clause-pieces : goal.exchange-requires-clause-pieces
exchange-requires-clause-pieces g c =
    let alone = subst (λ o. IsAlone o c.args.element.now) c.in-Some.is c.in_ok-bytes.ensures in
    let there = sym c.deref.ensures.value in
    let one : 1 ≡ length (texts c.deref.result.now) = sym (ap length alone.1) ∙ ap (λ xs. length (texts xs)) there in
    All-cons IsPiece _ [] (record { is_held = subst IsPacked there alone.0; counted = one; some = omega arith }) (All-nil IsPiece)

pub exchange-requires-in-None-clause-pieces : goal.exchange-requires-in-None-clause-pieces
exchange-requires-in-None-clause-pieces g c =
    let alone = subst (λ o. IsAlone o c.args.element.now) c.in-None.is c.in_ok-bytes.ensures in
    All-cons IsPiece _ [] (record { is_held = alone; counted = refl; some = omega arith }) (All-nil IsPiece)

pub returns-in-Some-clause-written : goal.returns-in-Some-clause-written
returns-in-Some-clause-written g c =
    let m = g.B.BlockStore.blocks c.args.store.now in
    let n = g.B.BlockStore.blocks c.exchange.new.store in
    let q = c.args.self.now in
    let list = c.args.element.now ∷ [] in
    let piece : Piece = record { container = Packed; count = 1; bytes = c.deref.result } in
    let form = ap (λ v. v.form) c.self.view_is in
    let formed = subst (λ (f : Form). IsFormed f (map container_of q.nodes)) (sym form) c.requires.quick.formed in
    let alone = subst (λ o. IsAlone o c.args.element.now) c.in-Some.is c.in_ok-bytes.ensures in
    let risen = stays q.form list (map container_of q.nodes) c.requires.quick.formed (λ _. omega (arith, packed_len c.in-Some.bytes.items alone.0, alone.0.short, ap pack_len alone.1)) in
    on_ok_three c.exchange.result
    (λ x len is. written_by m n q c.exchange.new.self list (subst (λ (f : Form). IsRisen q.form list f) (sym (is ∙ form)) risen)
    (changed_by m n q c.exchange.new.self list 0 0 1 c.self.inside.form (piece ∷ []) (first_is m q list _ c.requires.empty (one_piece piece list (ap texts c.deref.ensures.value ∙ alone.1))) refl
    (formed_first c.self.inside.form (map container_of q.nodes) (ap (map container_of) c.requires.empty) formed) x len is))
    c.exchange.ensures.ok c.exchange.ensures.len c.exchange.ensures.form

pub returns-in-None-clause-written : goal.returns-in-None-clause-written
returns-in-None-clause-written g c =
    let call = c.exchange-in-None in
    let m = g.B.BlockStore.blocks c.args.store.now in
    let n = g.B.BlockStore.blocks call.new.store in
    let q = c.args.self.now in
    let list = c.args.element.now ∷ [] in
    let alone = subst (λ o. IsAlone o c.args.element.now) c.in-None.is c.in_ok-bytes.ensures in
    let piece : Piece = record { container = Plain; count = 1; bytes = c.args.element } in
    let first = first_is m q list list c.requires.empty refl in
    let over : IsOverfull q (respelled m q 0 list 0) 1 = record { counted = ap length first; long = λ _. omega (arith, alone, ap pack_len first) } in
    subst (λ xs. OnOk call.result (IsWritten m n q call.new.self xs)) (sym first)
    (written_pieces call.result m n q call.new.self list 0 0 1 (piece ∷ []) (one_piece piece list refl) c.requires.quick.formed over call.ensures.ok call.ensures.len call.ensures.form)
