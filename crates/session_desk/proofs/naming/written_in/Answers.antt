use Rattle.std.proofs.Common.{inl, inr, sym, ap, subst}
use Rattle.std.specs.List.{Contains}
use Rattle.written_keys.specs.Written.{IsEmptied}
use Rattle.session_desk.specs.Writing.{texts_of, IsAmong, IsNamed}
use Rattle.session_desk.proofs.Gathering.{all_named}
use Rattle.session_desk.proofs.naming.written_in.Goals as goal

pub returns : goal.returns
returns c db key m =
    let r = c.in_ok-_reply.ensures in
    let w = c.of_names.result in
    let among : IsNamed c.run.new.engine key → IsAmong w db key = (λ n. elim n [
      | inl all ↦ inl (inr (subst (λ e. IsEmptied e w.selected db) (sym (c.of_names.ensures.emptied all)) tt))
      | inr named ↦ inr (subst (λ l. Contains (texts_of l) key) (ap (λ v. v.items) (sym c.of_names.ensures.names)) named)
    ]) in
    among (all_named m.asked r.replies c.new-names.result c.run.new.engine (r.way m.asked m.are) db key m.may)
