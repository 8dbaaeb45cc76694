use Rattle.std.proofs.Common.{rules, ◌≡◌, List, ℕ, sym, ap, ◌∙◌, subst, arith}
use Rattle.std.specs.FinMap.{len}
use Rattle.std.specs.Prelude.{unwrap_or}
use Rattle.blocks.specs.Blocks.{Served}
use Rattle.set_object.specs.Members.{IsMembers, members}
use Rattle.set_object.specs.Items.{member_at}
use Rattle.picking.specs.Elements.{elements_of}
use Rattle.plain_world.specs.Picks.{ArePicked, as_number}
use Rattle.plain_model.specs.SetSteps.{has, drop_all}
use Rattle.cmd_sets.proofs.Picking.{members_picked, as_many}
use Rattle.cmd_sets.proofs.random.PopSetEdit.edit_set.Goals as goal

pub returns-in_err-items-clause-served : goal.returns-in_err-items-clause-served
returns-in_err-items-clause-served g c = Served.no_step

pub returns-in_err-gone-clause-served : goal.returns-in_err-gone-clause-served
returns-in_err-gone-clause-served g c = Served.no_step

pub returns-clause-makes : goal.returns-clause-makes
returns-clause-makes g c =
    let m = g.B.BlockStore.blocks c.args.store.now in
    let set = c.args.set.now in
    let items = c.in_ok-items.items.items in
    let most : c.unwrap_or-most.result ≡ unwrap_or c.args.self.now.n 1 = search rules in
    let gone : c.in_ok-gone.gone.items ≡ elements_of (λ at. member_at m set at) items = c.in_ok-gone.ensures ∙ ap (elements_of (λ at. member_at m set at)) c.deref.ensures.value in
    let picked = members_picked m set c.requires.sound (as_number c.args.self.now.n) items
    (as_many (λ blocks. IsMembers blocks set) _ c.args.self.now.n c.unwrap_or-most.result items most c.in_ok-items.ensures) in
    record {
      picked = subst (λ (l : List (List ℕ)). ArePicked (has (members m set)) (len (members m set)) (as_number c.args.self.now.n) l) (sym gone) picked;
      is = c.in_ok-drop_names.ensures.members ∙ ap (drop_all (members m set)) c.deref-2.ensures.value;
      form_is = c.in_ok-drop_names.ensures.form;
    }

pub returns-in_err-items-clause-grown : goal.returns-in_err-items-clause-grown
returns-in_err-items-clause-grown g c = Served.no_step

pub returns-in_err-gone-clause-grown : goal.returns-in_err-gone-clause-grown
returns-in_err-gone-clause-grown g c = Served.no_step

pub returns-clause-settled : goal.returns-clause-settled
returns-clause-settled g c =
    c.in_ok-drop_names.ensures.settles (len (members (g.B.BlockStore.blocks c.args.store.now) c.args.set.now)) (λ less. absurd (omega (arith, less)))
