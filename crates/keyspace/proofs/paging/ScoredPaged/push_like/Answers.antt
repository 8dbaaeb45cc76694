use Rattle.std.proofs.Common.{rules, FitsSigned, w64, inl, List, ℕ, pos, Some, unwrap_or, subst, sym, ap, ◌∙◌}
use Rattle.std.proofs.lemmas.Int.{to_z-of_z}
use Rattle.std.specs.FinMap.{get}
use Rattle.int_text.specs.Decimal.{canonical}
use Rattle.zset_object.specs.Scored.{scores}
use Rattle.zset_object.proofs.Depends.{scored_laws_hold}
use Rattle.plain_model.specs.Scans.{IsLike}
use Rattle.keyspace.specs.Pages.{member_of}
use Rattle.keyspace.proofs.Sifting.{both_added}
use Rattle.keyspace.proofs.paging.ScoredPaged.push_like.Goals as goal

pub returns-in_ok-push-2 : goal.returns-in_ok-push-2
returns-in_ok-push-2 g c =
    let m = g.B.BlockStore.blocks c.args.store.now in
    let own = c.args.self.now in
    let name : List ℕ = c.in_ok-member.member in
    let score = c.at-score.result.1 in
    let fits : FitsSigned w64 score = search rules in
    let named = ap (λ (k : List ℕ). Some (score, k)) (sym c.in_ok-member.ensures) in
    let got = (scored_laws_hold.arranged m own c.requires).pair c.args.item score name (c.at-score.ensures ∙ named) in
    inl (
      name,
      record { stands = ap member_of (c.at-score.ensures ∙ named); like = subst (λ k. IsLike c.args.pattern.now k) c.as_slice.ensures (c.is_like.ensures.0 c.if-is_like.true) },
      both_added c.args.words.now.items c.push.new.self.items c.push-then-is_like.new.self.items name c.in_ok-number_text.field-0 (canonical (unwrap_or (get (scores m own) name) (pos 0)))
          c.in_ok-push.ensures.items c.in_ok-push-2.ensures.items
          (c.in_ok-number_text.ensures ∙ ap canonical (to_z-of_z w64 score fits) ∙ sym (ap (λ o. canonical (unwrap_or o (pos 0))) got)),
    )
