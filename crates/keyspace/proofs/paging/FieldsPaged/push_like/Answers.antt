use Rattle.std.proofs.Common.{inl, [], List, ℕ, Some, unwrap_or, subst, sym, ap, ◌∙◌}
use Rattle.std.specs.FinMap.{get}
use Rattle.listpack.specs.Element.{element_text}
use Rattle.hash_object.specs.Fields.{fields}
use Rattle.hash_object.proofs.Depends.{fields_laws_hold}
use Rattle.plain_model.specs.Scans.{IsLike}
use Rattle.keyspace.specs.Pages.{field_of}
use Rattle.keyspace.proofs.Sifting.{both_added}
use Rattle.keyspace.proofs.paging.FieldsPaged.push_like.Goals as goal

pub returns-in_ok-push-2 : goal.returns-in_ok-push-2
returns-in_ok-push-2 g c =
    let m = g.B.BlockStore.blocks c.args.store.now in
    let own = c.args.self.now in
    let name : List ℕ = c.in_ok-field.field in
    let value = element_text c.at.result.1 in
    let named = ap (λ (k : List ℕ). Some (k, value)) (sym c.in_ok-field.ensures) in
    let got = (fields_laws_hold.arranged m own c.requires).pair c.args.item name value (c.at.ensures ∙ named) in
    inl (
      name,
      record { stands = ap field_of (c.at.ensures ∙ named); like = subst (λ k. IsLike c.args.pattern.now k) c.as_slice.ensures (c.is_like.ensures.0 c.if-is_like.true) },
      both_added c.args.words.now.items c.push.new.self.items c.push-then-is_like.new.self.items name c.in_ok-bytes_of.field-0 (unwrap_or (get (fields m own) name) [])
          c.in_ok-push.ensures.items c.in_ok-push-2.ensures.items (c.in_ok-bytes_of.ensures ∙ sym (ap (λ o. unwrap_or o []) got)),
    )
