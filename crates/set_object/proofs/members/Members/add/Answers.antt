use Rattle.std.proofs.Common.{not, refl, sym, ap, ◌∙◌, subst, []}
use Rattle.std.specs.FinMap.{insert}
use Rattle.blocks.specs.Blocks.{no_step, Changes}
use Rattle.blocks.proofs.Serve.{served_then}
use Rattle.rehash_dict.specs.Keyed.{hash_of}
use Rattle.rehash_dict.specs.Grown.{Grown}
use Rattle.set_object.specs.Strings.{IsRisen}
use Rattle.set_object.specs.declared.members.Body.{Body}
use Rattle.set_object.specs.Members.{IsChanged, members, refs_of, form_of, form_of_body, tables_of}
use Rattle.set_object.proofs.Bodies.{body_changed, packed_tables}
use Rattle.set_object.proofs.members.Members.add.Goals as goal

pub returns-then-has-clause-served : goal.returns-then-has-clause-served
returns-then-has-clause-served g c = no_step

pub returns : goal.returns
returns g c =
    let m = g.B.BlockStore.blocks c.args.store.now in
    let mid = g.B.BlockStore.blocks c.place_with.new.store in
    let n = g.B.BlockStore.blocks c.release.new.store in
    let self = c.args.self.now in
    let x = c.args.member.now in
    let p = c.in_ok-body.ensures.placed in
    let released : Changes mid n (refs_of self.body) [] = subst (λ (b : Body). Changes mid n (refs_of b) []) c.replace.ensures.value c.release.ensures.changes in
    let grown = subst (λ t. Grown (hash_of self.seed) t (tables_of mid c.in_ok-body.body)) (sym (packed_tables m self.body c.in_default.not-Table)) p.grown in
    record {
      there = sym (ap not (sym c.has.ensures ∙ c.if-has.false));
      added = λ _. subst (λ (b : Body). IsChanged m n self (record self { body = b }) (insert (members m self) x tt)) (sym c.replace.ensures.after)
          (body_changed m mid n self c.in_ok-body.body (insert (members m self) x tt) c.requires p.sound p.changes released p.members_are grown);
      form = λ _. subst (λ (b : Body). IsRisen self.limits (form_of self) (insert (members m self) x tt) (form_of_body b)) (sym c.replace.ensures.after) c.in_ok-body.ensures.form;
      served = served_then _ _ _ c.place_with.ensures.served c.release.ensures.served;
      same_set = λ h. absurd (h refl);
      same_blocks = λ h. absurd (h refl);
    }
