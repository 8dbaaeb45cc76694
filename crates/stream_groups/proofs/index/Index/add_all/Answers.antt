use Rattle.std.proofs.Common.{◌≡◌, ◌≤◌, ◌+◌, ◌++◌, ℕ, List, get_or, [], ◌∷◌, true, false, drop, length, sym, ap, subst, ◌∙◌, arith}
use Rattle.std.proofs.lemmas.List.{length-append}
use Rattle.std.specs.Vec.{vec_capacity}
use Rattle.stream_groups.specs.Groups.{Id}
use Rattle.std.proofs.Math.ListN.{drop_of_length-le}
use Rattle.stream_groups.specs.Index.{holds, marked, Marks}
use Rattle.stream_groups.proofs.Indexing.{same_name, marked_more, unmarked, AreNew, fresh_back, known_more, fresh_more, news_more}
use Rattle.stream_groups.proofs.index.Index.add_all.Goals as goal
use Rattle.stream_groups.proofs.index.Index.add_all.Goals.{then-is_new, else-is_new}

pub returns-clause-ok : goal.returns-clause-ok
returns-clause-ok c n q =
    let none : drop c.loop-id.id-index c.args.ids.now ≡ [] = drop_of_length-le c.args.ids.now (omega (arith, c.loop-id-test.false)) in
    sym (unmarked (same_name n c.args.name.now) true (holds c.loop-id.self n q)) ∙ ap (λ xs. marked true c.args.name.now xs c.loop-id.self n q) (sym none) ∙ c.loop-id.invariant.whole n q

pub returns-in-Err-clause-err : goal.returns-in-Err-clause-err
returns-in-Err-clause-err c = fresh_back c.args.self.now c.loop-id.self c.take_all.new.self c.args.name.now c.loop-id.fresh.items c.loop-id.invariant.so_far c.loop-id.invariant.new_ones
    (subst (λ i. Marks false c.args.name.now c.loop-id.fresh.items i c.take_all.new.self) c.in-Err.ensures.err
    (subst (λ xs. Marks false c.args.name.now xs c.add.new.self c.take_all.new.self) c.deref.ensures.value c.take_all.ensures))

pub loop-id-preserved : goal.loop-id-preserved
loop-id-preserved c =
    let old = c.args.self.now in
    let name = c.args.name.now in
    let id : Id = get_or c.args.ids.now c.loop-id.id-index (0, 0) in
    let fresh = c.loop-id.fresh.items in
    let whole : (n : List ℕ) (q : Id) → marked true name (drop (c.loop-id.id-index + 1) c.args.ids.now) c.add.new.self n q ≡ marked true name c.args.ids.now old n q = λ n q.
    marked_more name c.args.ids.now c.loop-id.id-index (0, 0) c.loop-id-test.true c.loop-id.self c.add.new.self true c.in-Ok.ensures.ok n q ∙ c.loop-id.invariant.whole n q in
    elim c.if-is_new.branch [
      | then-is_new w ↦
          (let items : c.if-is_new.fresh.items ≡ fresh ++ id ∷ [] = ap (λ v. v.items) w.fresh-is ∙ w.push_reserved.ensures.items in
          let count : length c.if-is_new.fresh.items ≡ length fresh + 1 = ap length items ∙ length-append fresh (id ∷ []) in
          record {
            few = omega (arith, count, c.loop-id.invariant.few);
            room = subst (λ v. length c.args.ids.now ≤ vec_capacity v) (sym w.fresh-is) (subst (λ k. length c.args.ids.now ≤ k) (sym w.push_reserved.ensures.capacity) c.loop-id.invariant.room);
            new_ones = news_more old c.loop-id.self c.add.new.self name fresh c.loop-id.invariant.so_far id c.in-Ok.is_new c.in-Ok.ensures.fresh c.in-Ok.ensures.ok
                c.if-is_new.fresh.items items w.if-is_new.true c.loop-id.invariant.new_ones;
            so_far = fresh_more old c.loop-id.self c.add.new.self name fresh c.loop-id.invariant.so_far id c.in-Ok.is_new c.in-Ok.ensures.fresh c.in-Ok.ensures.ok c.if-is_new.fresh.items items;
            whole = whole;
          })
      | else-is_new w ↦
          (let same : c.if-is_new.fresh.items ≡ fresh = ap (λ v. v.items) w.fresh-is in
          record {
            few = omega (arith, ap length same, c.loop-id.invariant.few);
            room = subst (λ v. length c.args.ids.now ≤ vec_capacity v) (sym w.fresh-is) c.loop-id.invariant.room;
            new_ones = subst (AreNew old name) (sym same) c.loop-id.invariant.new_ones;
            so_far = subst (λ xs. Marks true name xs old c.add.new.self) (sym same)
                (known_more old c.loop-id.self c.add.new.self name fresh c.loop-id.invariant.so_far id c.in-Ok.is_new c.in-Ok.ensures.fresh c.in-Ok.ensures.ok w.if-is_new.false);
            whole = whole;
          })
    ]
