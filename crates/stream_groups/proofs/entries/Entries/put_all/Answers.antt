use Rattle.std.proofs.Common.{Option, List, [], ◌∷◌, ◌++◌, drop, ◌≤◌, subst, ◌≡◌, ℕ, ◌+◌, ◌<◌, length, take, get_or, sym, ap, ◌∙◌, arith, append-nil}
use Rattle.std.proofs.lemmas.List.{length-append}
use Rattle.std.proofs.Math.ListN.{drop_of_length-le}
use Rattle.std.specs.Option.{option_map}
use Rattle.std.specs.FinMap as map
use Rattle.stream_groups.specs.declared.entries.Handed.{Handed}
use Rattle.stream_groups.specs.Groups.{Id, Pending, Pendings, placed}
use Rattle.stream_groups.specs.Index.{were}
use Rattle.stream_groups.specs.Kept.{undone, logged, pending_of}
use Rattle.stream_groups.proofs.Undoing.{put_step, placed_step, were_step}
use Rattle.stream_groups.proofs.entries.Entries.put_all.Goals as goal

-- one more put, where the log is as long as what was put
stepped : (p new : Pendings) (ids : List Id) (ws after : List (Option Handed)) (was : Option Handed) (n : ℕ) (d : Id) (e : Pending) → length ws ≡ n → n < length ids
    → option_map pending_of was ≡ map.get p (get_or ids n d)
    → new ≡ map.insert p (get_or ids n d) e → after ≡ ws ++ was ∷ [] → undone new (take (n + 1) ids) (logged after) ≡ undone p (take n ids) (logged ws)
stepped p new ids ws after was n d e size within is put items =
    ap (λ q. undone q (take (n + 1) ids) (logged after)) put
    ∙ ap (λ xs. undone (map.insert p (get_or ids n d) e) (take (n + 1) ids) (logged xs)) items
    ∙ subst
    (λ k. k < length ids → option_map pending_of was ≡ map.get p (get_or ids k d)
    → undone (map.insert p (get_or ids k d) e) (take (k + 1) ids) (logged (ws ++ was ∷ [])) ≡ undone p (take k ids) (logged ws)) size (put_step p ids ws was d e) within is

pub loop-id-preserved : goal.loop-id-preserved
loop-id-preserved c =
    let ids = c.args.ids.now in
    let entry : Pending = record { consumer = c.args.consumer.now.value.items; moment = c.args.moment; count = 1 } in
    record {
      kept = ap length c.push_reserved.ensures.items ∙ length-append c.loop-id.log.items (c.in-Ok.was ∷ []) ∙ ap (λ k. k + 1) c.loop-id.invariant.kept;
      room = subst (λ k. length ids ≤ k) (sym c.push_reserved.ensures.capacity) c.loop-id.invariant.room;
      undo = stepped c.loop-id.self c.put.new.self ids c.loop-id.log.items c.push_reserved.new.self.items c.in-Ok.was c.loop-id.id-index (0, 0) entry c.loop-id.invariant.kept
          c.loop-id-test.true c.in-Ok.ensures.was c.in-Ok.ensures.ok c.push_reserved.ensures.items ∙ c.loop-id.invariant.undo;
      log_so_far = ap (λ q. logged c.push_reserved.new.self.items ++ were q (drop (c.loop-id.id-index + 1) ids) entry) c.in-Ok.ensures.ok
          ∙ were_step c.loop-id.self ids c.loop-id.id-index (0, 0) entry c.loop-id.log.items c.push_reserved.new.self.items c.in-Ok.was c.loop-id-test.true c.push_reserved.ensures.items
          c.in-Ok.ensures.was ∙ c.loop-id.invariant.log_so_far;
      placed_so_far = ap (λ q. placed q (drop (c.loop-id.id-index + 1) ids) entry) c.in-Ok.ensures.ok ∙ placed_step c.loop-id.self ids c.loop-id.id-index (0, 0) entry c.loop-id-test.true
          ∙ c.loop-id.invariant.placed_so_far;
    }

pub returns-clause-log : goal.returns-clause-log
returns-clause-log c =
    let entry : Pending = record { consumer = c.args.consumer.now.value.items; moment = c.args.moment; count = 1 } in
    let none : drop c.loop-id.id-index c.args.ids.now ≡ [] = drop_of_length-le c.args.ids.now (omega (arith, c.loop-id-test.false)) in
    sym (append-nil (logged c.loop-id.log.items)) ∙ ap (λ xs. logged c.loop-id.log.items ++ were c.loop-id.self xs entry) (sym none) ∙ c.loop-id.invariant.log_so_far
