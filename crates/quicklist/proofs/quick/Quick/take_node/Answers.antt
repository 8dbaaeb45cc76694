use Rattle.std.proofs.Common.{◌≡◌, ◌++◌, ◌+◌, ◌∷◌, [], ℕ, List, length, map, ap, ◌∙◌, sym, subst, arith, rules, deque_len}
use Rattle.std.proofs.lemmas.List.{append-nil, length-map}
use Rattle.blocks.specs.Blocks.{no_step}
use Rattle.listpack.specs.Pack.{texts}
use Rattle.object_codec.specs.declared.form.Form.{Form}
use Rattle.quicklist.specs.declared.node.Container.TheVariants.{Packed}
use Rattle.quicklist.specs.Nodes.{container_of}
use Rattle.quicklist.specs.Chain.{IsFormed, IsRisen, elements, respelled}
use Rattle.quicklist.proofs.Rising.{written_by, changed_by}
use Rattle.quicklist.proofs.Behind.{behind_all, containers_behind}
use Rattle.quicklist.proofs.Elements.{count_small}
use Rattle.quicklist.proofs.quick.Quick.take_node.Goals as goal

pub overflow_cast-piece : goal.overflow_cast-piece
overflow_cast-piece g c = record { fits = omega (arith, c.requires.count, count_small c.args.bytes.now c.requires.packed) }

pub returns-in_ok-exchange-in-Some-clause-taken : goal.returns-in_ok-exchange-in-Some-clause-taken
returns-in_ok-exchange-in-Some-clause-taken g c =
    let m = g.B.BlockStore.blocks c.args.store.now in
    let n = g.B.BlockStore.blocks c.exchange.new.store in
    let q = c.args.self.now in
    let new = c.exchange.new.self in
    let cs = map container_of q.nodes in
    let form = c.in-Some.form in
    let k = c.len-k.result in
    let items : deque_len c.self.inside.nodes ≡ length c.self.inside.nodes.items = search rules in
    let all : k ≡ length q.nodes = c.len-k.ensures ∙ items ∙ ap (λ v. length v.nodes) c.self.view_is in
    let list = elements m q ++ texts c.args.bytes.now in
    let is : list ≡ respelled m q k (texts c.args.bytes.now ++ []) (k + 0) =
    behind_all m q (texts c.args.bytes.now) k all ∙ ap (λ (xs : List (List ℕ)). respelled m q k xs (k + 0)) (sym (append-nil (texts c.args.bytes.now))) in
    let formed = subst (IsFormed form) (containers_behind cs (Packed ∷ []) k (all ∙ sym (length-map q.nodes container_of))) c.in-Some.ensures.formed in
    let risen = subst (λ (f : Form). IsRisen q.form list f) (sym c.in_ok-exchange-in-Some.ensures.form) c.in-Some.ensures.risen in
    λ done. written_by m n q new list risen
    (changed_by m n q new list k (k + 0) c.args.len form _ is c.requires.len formed c.in_ok-exchange-in-Some.ensures.ok c.in_ok-exchange-in-Some.ensures.len
    c.in_ok-exchange-in-Some.ensures.form)

pub returns-in-None-clause-served : goal.returns-in-None-clause-served
returns-in-None-clause-served g c = no_step
