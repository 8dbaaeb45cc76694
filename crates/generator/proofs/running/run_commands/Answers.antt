use Rattle.std.proofs.Common.{◌≡◌, ℕ, refl, subst, ◌∙◌, arith, [], ◌∷◌, ◌++◌}
use Rattle.generator.proofs.Ways.{drawn_none, drawn_more, one_more, sum_more, sum_none}
use Rattle.outside.specs.Pacing.{following}
use Rattle.generator.specs.Commands.{commands}
use Rattle.generator.specs.Generated.{Paced, way}
use Rattle.generator.proofs.running.run_commands.Goals as goal

pub loop-past-init : goal.loop-past-init
loop-past-init g c = record { replies = []; went = refl; dice = c.seed_from_u64.ensures ∙ drawn_none c.args.seed; sum = sum_none }

pub loop-past-preserved : goal.loop-past-preserved
loop-past-preserved g c =
    let inv = c.loop-past.invariant in
    let a = c.in_ok-run_one.ensures.answers in
    record {
      replies = inv.replies ++ a.0 ∷ [];
      went = one_more g.E.Server.executes g.E.Server.works c.args.seed c.loop-past.past _ c.loop-past.running.dice _ _ _ inv.replies a.0 inv.dice refl inv.went a.1;
      dice = drawn_more c.args.seed c.loop-past.past c.loop-past.running.dice _ inv.dice c.in_ok-run_one.ensures.dice;
      sum = sum_more _ c.loop-past.running.crc inv.replies a.0 inv.sum a.2;
    }

pub returns : goal.returns
returns g c =
    let inv = c.loop-past.invariant in
    let done : c.loop-past.past ≡ c.args.count = omega arith in
    let first : Paced g.row.E.Denot = record { engine = c.args.engine.now; pacers = following (λ b. (goal.Pacer-dyn g (b.vtable, b.value)).pacing b.value) c.args.conductor.now } in
    let last : Paced g.row.E.Denot = record { engine = c.loop-past.engine; pacers = following (λ b. (goal.Pacer-dyn g (b.vtable, b.value)).pacing b.value) c.loop-past.conductor } in
    let W : ℕ → Type 0 = λ n. way g.E.Server.executes g.E.Server.works 0 first (commands c.args.seed n) inv.replies last in
    record {
      replies = inv.replies;
      last = last;
      went = subst W done inv.went;
      asks = c.in_ok-size.ensures;
      sum = inv.sum;
    }
