use Rattle.std.proofs.Common.{◌≡◌, ◌<◌, not, Some, None, sym, ap, subst, ◌∙◌}
use Rattle.std.specs.FinMap as map
use Rattle.stream_groups.specs.Index.{NoneIsEmpty, IdSet, is_in}
use Rattle.stream_groups.specs.Kept.{named}
use Rattle.stream_groups.proofs.Indexing.{set_found, set_written, set_kept, start_marks, more_marks, some_put, some_put_in}
use Rattle.stream_groups.proofs.index.Index.add.Goals as goal
use Rattle.stream_groups.proofs.index.Index.add.Goals.{in-Ok, in-Err}

pub returns-in_ok-start-in-None-clause-fresh : goal.returns-in_ok-start-in-None-clause-fresh
returns-in_ok-start-in-None-clause-fresh c =
    let none : None ≡ map.get c.args.self.now c.args.name.now = c.in-None.ensures.value ∙ set_found c.self.inside.sets.entries c.args.self.now c.args.name.now c.self.invariant.0 c.self.view_is in
    ap (λ o. not (is_in o c.args.id)) none

pub returns-in_ok-start-in-None-clause-ok : goal.returns-in_ok-start-in-None-clause-ok
returns-in_ok-start-in-None-clause-ok c =
    let none : None ≡ map.get c.args.self.now c.args.name.now = c.in-None.ensures.value ∙ set_found c.self.inside.sets.entries c.args.self.now c.args.name.now c.self.invariant.0 c.self.view_is in
    start_marks c.args.self.now c.start.new.self c.args.name.now c.args.id (sym none)
    (c.in_ok-start-in-None.ensures.ok
    ∙ ap (λ m. map.insert m c.args.name.now (map.insert map.empty c.args.id tt)) (ap (λ m. named (λ (i : IdSet). i) m.entries) c.get_mut.follows.holds-at-none ∙ c.self.view_is))

pub returns-after-add-clause-fresh : goal.returns-after-add-clause-fresh
returns-after-add-clause-fresh c = elim c.match-add.branch [
  | in-Ok w ↦ rw w.result-is
      (w.in-Ok.ensures.fresh
      ∙ ap (λ o. not (is_in o c.args.id)) (c.in-Some.ensures.value ∙ set_found c.self.inside.sets.entries c.args.self.now c.args.name.now c.self.invariant.0 c.self.view_is))
  | in-Err w ↦ rw w.result-is tt
]

pub returns-after-add-clause-ok : goal.returns-after-add-clause-ok
returns-after-add-clause-ok c = elim c.match-add.branch [
  | in-Ok w ↦ rw w.result-is
      (let written = c.get_mut.follows.holds c.add.new.self in
      more_marks c.args.self.now _ c.args.name.now c.args.id c.in-Some.ids.now c.add.new.self
      (sym (c.in-Some.ensures.value ∙ set_found c.self.inside.sets.entries c.args.self.now c.args.name.now c.self.invariant.0 c.self.view_is)) w.in-Ok.ensures.ok
      (set_written c.self.inside.sets.entries c.args.self.now c.args.name.now c.self.invariant.0 c.self.view_is (c.get_mut.follows.lender c.add.new.self).entries c.in-Some.ids.now c.add.new.self
      written.4 c.in-Some.ensures.value written.0))
  | in-Err w ↦ rw w.result-is tt
]

pub returns-after-add-clause-err : goal.returns-after-add-clause-err
returns-after-add-clause-err c = elim c.match-add.branch [
  | in-Ok w ↦ rw w.result-is tt
  | in-Err w ↦ rw w.result-is
      (let written = c.get_mut.follows.holds c.add.new.self in
      set_kept c.self.inside.sets.entries c.args.self.now c.args.name.now c.self.invariant.0 c.self.view_is (c.get_mut.follows.lender c.add.new.self).entries c.in-Some.ids.now c.add.new.self
      written.4 c.in-Some.ensures.value written.0 w.in-Err.ensures.err)
]

pub invariant_of-self-in-Some : goal.invariant_of-self-in-Some
invariant_of-self-in-Some c =
    let written = c.get_mut.follows.holds c.add.new.self in
    let had : Some c.in-Some.ids.now ≡ map.get c.args.self.now c.args.name.now = c.in-Some.ensures.value ∙ set_found c.self.inside.sets.entries c.args.self.now c.args.name.now c.self.invariant.0 c.self.view_is in
    let some : NoneIsEmpty c.args.self.now = subst NoneIsEmpty c.self.view_is c.self.invariant.1 in
    let full : 0 < map.len c.add.new.self = elim c.match-add.branch [
      | in-Ok w ↦ some_put_in c.in-Some.ids.now c.add.new.self c.args.id w.in-Ok.ensures.ok
      | in-Err w ↦ subst (λ ids. 0 < map.len ids) (sym w.in-Err.ensures.err) (some c.args.name.now c.in-Some.ids.now (sym had))
    ] in (
      written.4,
      some_put c.args.self.now _ c.args.name.now c.add.new.self some
          (set_written c.self.inside.sets.entries c.args.self.now c.args.name.now c.self.invariant.0 c.self.view_is (c.get_mut.follows.lender c.add.new.self).entries c.in-Some.ids.now c.add.new.self
          written.4 c.in-Some.ensures.value written.0) full,
    )
