use Rattle.std.proofs.Common.{rules, [], ◌∷◌, ◌++◌, ◌≡◌, ◌+◌, ◌<◌, length, take, get_or, sym, ap, ◌∙◌, arith}
use Rattle.std.proofs.lemmas.List.{length-append}
use Rattle.std.specs.Option.{option_map}
use Rattle.stream_groups.specs.Kept.{undone, restored, logged, pending_of}
use Rattle.stream_groups.proofs.Undoing.{undo_step}
use Rattle.stream_groups.proofs.entries.Entries.undo.Goals as goal

pub loop-was-preserved : goal.loop-was-preserved
loop-was-preserved c =
    let ids = c.args.ids.now in
    let ws = c.pop.new.self.items in
    let items : c.loop-was.log.items ≡ ws ++ c.in-Some.was ∷ [] = c.in-Some.ensures.items in
    let count : c.len.result ≡ length ws = search rules in
    let size : length c.loop-was.log.items ≡ length ws + 1 = ap length items ∙ length-append ws (c.in-Some.was ∷ []) in
    let shorter : length ws < length ids = omega (arith, size, c.loop-was.invariant.within) in
    record {
      within = omega arith;
      done = ap (λ q. undone q (take (length ws) ids) (logged ws)) (c.restore.ensures ∙ ap (λ k. restored c.loop-was.self (get_or ids k (0, 0)) (option_map pending_of c.in-Some.was)) count)
          ∙ sym (undo_step c.loop-was.self ids ws c.in-Some.was (0, 0) shorter)
          ∙ ap (λ k. undone c.loop-was.self (take k ids) (logged (ws ++ c.in-Some.was ∷ []))) (sym size)
          ∙ ap (λ xs. undone c.loop-was.self (take (length c.loop-was.log.items) ids) (logged xs)) (sym items)
          ∙ c.loop-was.invariant.done;
    }
