use Rattle.std.proofs.Common.{◌-◌, ◌++◌, Some, take, sym, ap, ◌∙◌}
use Rattle.std.proofs.lemmas.List.{append-nil}
use Rattle.std.proofs.Math.Seq.{take-nil}
use Rattle.stream_groups.specs.Groups.{ids_of, own_ids}
use Rattle.stream_groups.proofs.Listing.{listed_hit}
use Rattle.stream_groups.proofs.Owns.{own_next, own_none}
use Rattle.stream_groups.proofs.pendings.Pendings.ids_of.Goals as goal

pub loop-left-init : goal.loop-left-init
loop-left-init c = record { so_far = ap (λ xs. xs ++ take c.args.limit (own_ids c.args.self.now c.args.consumer.now (Some c.args.above))) c.new-ids.ensures.items }

pub loop-left-preserved : goal.loop-left-preserved
loop-left-preserved c =
    let pending = c.args.self.now in
    let consumer = c.args.consumer.now in
    record {
      so_far = ap (λ xs. xs ++ take (c.loop-left.left - 1) (own_ids pending consumer (Some c.in-Some.id))) c.in_ok-push-in-Some.ensures.items
          ∙ listed_hit c.loop-left.ids.items c.in-Some.id c.loop-left.left (own_ids pending consumer (Some c.in-Some.id)) (ids_of pending consumer c.args.above c.args.limit) c.loop-left-test.true
          (ap (λ xs. c.loop-left.ids.items ++ take c.loop-left.left xs) (sym (own_next pending consumer (Some c.loop-left.above) c.in-Some.id (sym c.in-Some.ensures)))
          ∙ c.loop-left.invariant.so_far);
    }

pub returns-in-None : goal.returns-in-None
returns-in-None c =
    sym (append-nil c.loop-left.ids.items) ∙ ap (λ xs. c.loop-left.ids.items ++ xs)
    (sym (ap (take c.loop-left.left) (own_none c.args.self.now c.args.consumer.now (Some c.loop-left.above) c.in-None.ensures) ∙ take-nil c.loop-left.left))
    ∙ c.loop-left.invariant.so_far
