use Rattle.std.proofs.Common.{◌≡◌, ℕ, zero, suc, ◌-◌, [], ◌∷◌, take, drop, Option, IfOk, refl, sym, subst}
use Rattle.std.specs.Int.{w64}
use Rattle.std.proofs.lemmas.Int.{to_z-of_z}
use Rattle.plain_model.specs.Outcomes.{Outcome, tells}
use Rattle.plain_model.specs.ListSteps.{Elements, listed, list_range, range_start, range_end, or_none}
use Rattle.keyspace.specs.Commands.{visible}
use Rattle.cmd_lists.proofs.Looking.{refused_other, told_none, told_list}
use Rattle.cmd_lists.proofs.reading.lrange.Goals as goal

-- no list has no part
no_part : (m n : ℕ) (list : Elements) → list ≡ [] → take n (drop m list) ≡ []
no_part zero zero [] none = refl
no_part zero (suc n) [] none = refl
no_part (suc m) zero [] none = refl
no_part (suc m) (suc n) [] none = refl
no_part m n (x ∷ xs) none = cc

pub returns-in-Missing : goal.returns-in-Missing
returns-in-Missing g c =
    let world = visible g.B.BlockStore.blocks c.args.keyspace.now c.args.at.now in
    let answer : Option Elements → Outcome = λ before. tells (listed (list_range (or_none before) c.args.a c.args.b)) world in
    record {
      gives = told_none world c.args.key.now answer c.empty_reply.result c.in-Missing.ensures
          (subst (λ (l : Elements). IfOk c.empty_reply.result (λ reply. reply ≡ listed l))
          (sym (no_part (range_start 0 c.args.a) (range_end 0 c.args.b - range_start 0 c.args.a) [] refl)) c.empty_reply.ensures) refl;
    }

pub returns-in-Other : goal.returns-in-Other
returns-in-Other g c =
    let world = visible g.B.BlockStore.blocks c.args.keyspace.now c.args.at.now in
    let answer : Option Elements → Outcome = λ before. tells (listed (list_range (or_none before) c.args.a c.args.b)) world in
    record { gives = refused_other world c.args.key.now answer c.refused.result c.in-Other.ensures c.refused.ensures }

pub returns-in-There : goal.returns-in-There
returns-in-There g c =
    let blocks = g.B.BlockStore.blocks in
    let world = visible blocks c.args.keyspace.now c.args.at.now in
    let answer : Option Elements → Outcome = λ before. tells (listed (list_range (or_none before) c.args.a c.args.b)) world in
    record {
      gives = told_list world (blocks c.args.keyspace.now.store) c.args.key.now c.in-There.list.now answer c.range_reply.result c.in-There.ensures
          (rw (to_z-of_z w64 c.args.a c.ranges.a, to_z-of_z w64 c.args.b c.ranges.b) at c.range_reply.ensures) refl;
    }
