use Rattle.std.proofs.Common.{◌<◌, [], ◌∷◌, sym, ap, subst, ◌∙◌}
use Rattle.std.proofs.lemmas.Bool.{true≢false, eqb-true}
use Rattle.stream_groups.specs.Index.{IdSet, NoneIsEmpty}
use Rattle.stream_groups.specs.Kept.{named, NamesRise}
use Rattle.stream_groups.proofs.Uses.{named_remove}
use Rattle.stream_groups.proofs.Indexing.{set_found, set_written, set_there, none_marks, less_marks, dropped_marks, none_held, some_put, some_dropped, above_none}
use Rattle.stream_groups.proofs.index.Index.take.Goals as goal
use Rattle.stream_groups.proofs.index.Index.take.Goals.{in-None, in-Some}

pub invariant_of-self : goal.invariant_of-self
invariant_of-self c = (
  c.remove.ensures.ordered,
  elim c.match-get_mut.branch [
    | in-None w ↦ absurd (true≢false (sym c.if-emptied.true ∙ w.emptied-is))
    | in-Some w ↦
        (let written = c.get_mut.follows.holds w.take.new.self in
        let mid = ap (λ i. named (λ (s : IdSet). s) i.sets.entries) w.self-inside-is
        ∙ set_written c.self.inside.sets.entries c.args.self.now c.args.name.now c.self.invariant.0 c.self.view_is (c.get_mut.follows.lender w.take.new.self).entries w.in-Some.ids.now w.take.new.self
        written.4 w.in-Some.ensures.value written.0 in
        some_dropped c.args.self.now _ c.args.name.now w.take.new.self (subst NoneIsEmpty c.self.view_is c.self.invariant.1) mid _
        (named_remove (λ (s : IdSet). s) c.match-get_mut.self-inside.sets.entries (subst (λ i. NamesRise i.sets.entries) (sym w.self-inside-is) written.4) c.remove.new.self.entries
        c.remove.ensures.ordered c.args.name.now c.remove.ensures.entries))
  ],
)

pub invariant_of-self-else-emptied : goal.invariant_of-self-else-emptied
invariant_of-self-else-emptied c = elim c.match-get_mut.branch [
  | in-None w ↦ subst (λ i. NamesRise i.sets.entries × NoneIsEmpty (named (λ (s : IdSet). s) i.sets.entries)) (sym w.self-inside-is)
      (subst (λ m. NamesRise m.entries × NoneIsEmpty (named (λ (s : IdSet). s) m.entries)) (sym c.get_mut.follows.holds-at-none) c.self.invariant)
  | in-Some w ↦
      (let written = c.get_mut.follows.holds w.take.new.self in
      let mid = ap (λ i. named (λ (s : IdSet). s) i.sets.entries) w.self-inside-is
      ∙ set_written c.self.inside.sets.entries c.args.self.now c.args.name.now c.self.invariant.0 c.self.view_is (c.get_mut.follows.lender w.take.new.self).entries w.in-Some.ids.now w.take.new.self
      written.4 w.in-Some.ensures.value written.0 in (
        subst (λ i. NamesRise i.sets.entries) (sym w.self-inside-is) written.4,
        some_put c.args.self.now _ c.args.name.now w.take.new.self (subst NoneIsEmpty c.self.view_is c.self.invariant.1) mid
            (subst (λ n. 0 < n) w.len.ensures (above_none w.len.result (sym w.emptied-is ∙ c.if-emptied.false))),
      ))
]

pub returns-then-emptied : goal.returns-then-emptied
returns-then-emptied c = elim c.match-get_mut.branch [
  | in-None w ↦ absurd (true≢false (sym c.if-emptied.true ∙ w.emptied-is))
  | in-Some w ↦
      (let written = c.get_mut.follows.holds w.take.new.self in
      let had = sym (w.in-Some.ensures.value ∙ set_found c.self.inside.sets.entries c.args.self.now c.args.name.now c.self.invariant.0 c.self.view_is) in
      let mid = ap (λ i. named (λ (s : IdSet). s) i.sets.entries) w.self-inside-is
      ∙ set_written c.self.inside.sets.entries c.args.self.now c.args.name.now c.self.invariant.0 c.self.view_is (c.get_mut.follows.lender w.take.new.self).entries w.in-Some.ids.now w.take.new.self
      written.4 w.in-Some.ensures.value written.0 in
      dropped_marks c.args.self.now _ _ c.args.name.now (c.args.id ∷ []) (less_marks c.args.self.now _ c.args.name.now c.args.id w.in-Some.ids.now w.take.new.self had w.take.ensures mid)
      (λ q. none_held _ c.args.name.now w.take.new.self q (set_there c.args.self.now _ c.args.name.now w.take.new.self mid)
      (sym w.len.ensures ∙ eqb-true w.len.result 0 (sym w.emptied-is ∙ c.if-emptied.true)))
      (named_remove (λ (s : IdSet). s) c.match-get_mut.self-inside.sets.entries (subst (λ i. NamesRise i.sets.entries) (sym w.self-inside-is) written.4) c.remove.new.self.entries
      c.remove.ensures.ordered c.args.name.now c.remove.ensures.entries))
]

pub returns-else-emptied : goal.returns-else-emptied
returns-else-emptied c = elim c.match-get_mut.branch [
  | in-None w ↦ none_marks c.args.self.now _ c.args.name.now c.args.id
      (sym (w.in-None.ensures.value ∙ set_found c.self.inside.sets.entries c.args.self.now c.args.name.now c.self.invariant.0 c.self.view_is))
      (ap (λ i. named (λ (s : IdSet). s) i.sets.entries) w.self-inside-is ∙ ap (λ m. named (λ (s : IdSet). s) m.entries) c.get_mut.follows.holds-at-none ∙ c.self.view_is)
  | in-Some w ↦
      (let written = c.get_mut.follows.holds w.take.new.self in
      let had = sym (w.in-Some.ensures.value ∙ set_found c.self.inside.sets.entries c.args.self.now c.args.name.now c.self.invariant.0 c.self.view_is) in
      less_marks c.args.self.now _ c.args.name.now c.args.id w.in-Some.ids.now w.take.new.self had w.take.ensures
      (ap (λ i. named (λ (s : IdSet). s) i.sets.entries) w.self-inside-is
      ∙ set_written c.self.inside.sets.entries c.args.self.now c.args.name.now c.self.invariant.0 c.self.view_is (c.get_mut.follows.lender w.take.new.self).entries w.in-Some.ids.now w.take.new.self
      written.4 w.in-Some.ensures.value written.0))
]
