use Rattle.std.proofs.Common.{◌≡◌, arith, inl, inr, refl, sym, rules, ap, ◌∙◌, ◌+◌, drop, [], ◌∷◌}
use Rattle.std.proofs.lemmas.List.{drop_all}
use Rattle.blocks.specs.Blocks.{Served}
use Rattle.blocks.proofs.Change.{changes_same, changes_then}
use Rattle.blocks.proofs.Serve.{served_then}
use Rattle.quicklist.specs.Chain.{elements}
use Rattle.plain_model.specs.ListSteps.{added}
use Rattle.cmd_lists.proofs.Ends.{added_none, added_step, rest_from}
use Rattle.cmd_lists.proofs.Rising.{rises_on}
use Rattle.cmd_lists.proofs.pushing.push_all.Goals as goal

pub loop-word-init : goal.loop-word-init
loop-word-init g c = record {
  quick = c.requires;
  is = refl;
  form = inl (refl, refl);
  changes = changes_same _ _ c.requires.chain.owned;
  served = Served.no_step;
}

pub returns-in_err-push_one-clause-served : goal.returns-in_err-push_one-clause-served
returns-in_err-push_one-clause-served g c = served_then _ _ _ c.loop-word.invariant.served c.push_one.ensures.served

pub loop-word-preserved : goal.loop-word-preserved
loop-word-preserved g c =
    let xs = elements (g.B.BlockStore.blocks c.loop-word.store) c.loop-word.list in
    let ys = elements (g.B.BlockStore.blocks c.push_one.new.store) c.push_one.new.list in
    let word = c.word-item.result in
    let others = drop (c.loop-word.word-index + 1) c.args.words.now in
    let rest : drop c.loop-word.word-index c.args.words.now ≡ word ∷ others = rest_from c.args.words.now c.loop-word.word-index word (search rules) c.word-item.is in
    let list : ys ≡ added c.args.end xs (word ∷ []) = search rules in
    record {
      quick = c.push_one.ensures.quick;
      is = ap (λ l. added c.args.end l others) list ∙ added_step c.args.end xs word others ∙ ap (added c.args.end xs) (sym rest) ∙ c.loop-word.invariant.is;
      form = inr
          (rises_on c.args.end c.args.words.now (drop c.loop-word.word-index c.args.words.now) c.args.list.now.form c.loop-word.list.form c.push_one.new.list.form xs ys word
          c.loop-word.invariant.form list c.in_ok-push_one.ensures.form);
      changes = changes_then _ _ _ _ _ _ c.loop-word.invariant.changes c.push_one.ensures.changes;
      served = served_then _ _ _ c.loop-word.invariant.served c.push_one.ensures.served;
    }

pub returns-clause-list : goal.returns-clause-list
returns-clause-list g c =
    let xs = elements (g.B.BlockStore.blocks c.loop-word.store) c.loop-word.list in
    let none : drop c.loop-word.word-index c.args.words.now ≡ [] = drop_all c.loop-word.word-index c.args.words.now (omega (arith, c.loop-word-test.false)) in
    sym (added_none c.args.end xs) ∙ ap (added c.args.end xs) (sym none) ∙ c.loop-word.invariant.is
