use Rattle.keyspace.proofs.Running.{same_held}
use Rattle.keyspace.specs.Scopes.{one_key}
use Rattle.cmd_values.proofs.strings.writing.put_if.Goals as goal
use Rattle.std.proofs.Common.{◌≡◌, true, false, OnOk, sym, subst, ◌∙◌}
use Rattle.keyspace.specs.Forms.{Formed, Unwritten, whole_where}
use Rattle.keyspace.proofs.Forming.{formed_none}
use Rattle.cmd_values.proofs.Placing.{holds_anyway}

pub returns-clause-held : goal.returns-clause-held
returns-clause-held g c = same_held g.B.BlockStore.blocks g.B.BlockStore.step (one_key c.args.at.now.db c.args.key.now) c.args.keyspace.now c.requires.ready.sound

pub returns-then-written-clause-forms : goal.returns-then-written-clause-forms
returns-then-written-clause-forms g c =
    subst (λ b. OnOk c.put_lasting.result (Formed g.B.BlockStore.blocks (whole_where b) c.args.keyspace.now c.put_lasting.new.keyspace)) (sym c.if-written.true) c.put_lasting.ensures.forms

pub returns-then-written-clause-whole : goal.returns-then-written-clause-whole
returns-then-written-clause-whole g c = holds_anyway _ _ c.put_lasting.result c.put_lasting.ensures.whole

pub returns-clause-forms : goal.returns-clause-forms
returns-clause-forms g c =
    subst (λ b. Formed g.B.BlockStore.blocks (whole_where b) c.args.keyspace.now c.args.keyspace.now) (sym c.if-written.false) (formed_none g.B.BlockStore.blocks Unwritten c.args.keyspace.now)

pub returns-clause-whole : goal.returns-clause-whole
returns-clause-whole g c = λ is. (let both : true ≡ false = sym is ∙ c.if-written.false in cc)
