use Rattle.std.proofs.Common.{◌≡◌, ℕ, List, sym, ap, subst, ◌∙◌}
use Rattle.std.specs.FinMap.{len}
use Rattle.set_object.specs.Strings.{set_of}
use Rattle.plain_model.specs.SetSteps.{has, store_set}
use Rattle.plain_model.specs.declared.set_command.SetCommand.TheVariants as sets
use Rattle.keyspace.specs.Scopes.{one_key}
use Rattle.keyspace.specs.Forms.{IsNewSet, set_form}
use Rattle.keyspace.specs.Commands.{visible}
use Rattle.keyspace.proofs.Running.{unchanged, calm}
use Rattle.keyspace.proofs.Forming.{formed_ok, formed_key}
use Rattle.cmd_sets.proofs.Telling.{number_calm}
use Rattle.cmd_sets.proofs.Joined.{stored_told, stored_refused, stored_form}
use Rattle.cmd_sets.proofs.storing.sjoin_store.Goals as goal

pub returns-then-not-are_sets-clause-gives : goal.returns-then-not-are_sets-clause-gives
returns-then-not-are_sets-clause-gives g c =
    stored_refused c.args.keyspace.now.bases.seed (visible g.B.BlockStore.blocks c.args.keyspace.now c.args.at.now) c.args.how c.args.to.now c.args.keys.now c.refused.result
    (sym c.if-not-are_sets.ensures) c.refused.ensures

pub returns-then-not-are_sets-clause-kept : goal.returns-then-not-are_sets-clause-kept
returns-then-not-are_sets-clause-kept g c = unchanged g.B.BlockStore.blocks g.B.BlockStore.step (one_key c.args.at.now.db c.args.to.now) c.args.keyspace.now c.refused.result c.requires.ready.sound

pub returns-in_err-names-clause-kept : goal.returns-in_err-names-clause-kept
returns-in_err-names-clause-kept g c = unchanged g.B.BlockStore.blocks g.B.BlockStore.step (one_key c.args.at.now.db c.args.to.now) c.args.keyspace.now _ c.requires.ready.sound

pub returns-in_err-words-clause-kept : goal.returns-in_err-words-clause-kept
returns-in_err-words-clause-kept g c = unchanged g.B.BlockStore.blocks g.B.BlockStore.step (one_key c.args.at.now.db c.args.to.now) c.args.keyspace.now _ c.requires.ready.sound

pub returns-clause-gives : goal.returns-clause-gives
returns-clause-gives g c =
    let same : c.deref-2.result.now ≡ c.in_ok-names.names.items = c.deref-2.ensures.value ∙ c.in_ok-words.ensures ∙ c.deref.ensures.value in
    stored_told c.args.keyspace.now.bases.seed (visible g.B.BlockStore.blocks c.args.keyspace.now c.args.at.now) (visible g.B.BlockStore.blocks c.put_words.new.keyspace c.args.at.now)
    c.args.how c.args.to.now c.args.keys.now c.in_ok-count.count (set_of c.in_ok-names.names.items) c.count_reply.result
    (sym c.if-not-are_sets.ensures) c.in_ok-names.ensures.join (c.in_ok-count.ensures.counted ∙ ap (λ (l : List (List ℕ)). len (set_of l)) same)
    (c.in_ok-count.ensures.world ∙ ap (λ (l : List (List ℕ)). store_set (visible g.B.BlockStore.blocks c.args.keyspace.now c.args.at.now) c.args.to.now (set_of l)) same)
    c.count_reply.ensures

pub returns-clause-kept : goal.returns-clause-kept
returns-clause-kept g c =
    calm g.B.BlockStore.blocks g.B.BlockStore.step (one_key c.args.at.now.db c.args.to.now) c.args.keyspace.now c.put_words.new.keyspace c.count_reply.result
    (number_calm _ c.count_reply.result c.count_reply.ensures) c.put_words.ensures.held

pub returns-clause-forms : goal.returns-clause-forms
returns-clause-forms g c =
    let same : c.deref-2.result.now ≡ c.in_ok-names.names.items = c.deref-2.ensures.value ∙ c.in_ok-words.ensures ∙ c.deref.ensures.value in
    let blocks = g.B.BlockStore.blocks in
    let world = visible blocks c.args.keyspace.now c.args.at.now in
    let form = set_form c.args.at.now.db world (sets.SJoinStore c.args.how c.args.to.now c.args.keys.now) in
    formed_ok blocks form c.args.keyspace.now c.put_words.new.keyspace c.count_reply.result
    (formed_key form c.args.at.now.db c.args.to.now c.args.keyspace.now.bases c.put_words.new.keyspace.bases (blocks c.args.keyspace.now.store) (blocks c.put_words.new.keyspace.store)
    c.put_words.ensures.held.within c.put_words.ensures.held.sound.arranged
    (λ number e found bytes. stored_form world c.args.how c.args.keys.now (set_of c.in_ok-names.names.items) c.args.keyspace.now.bases e.value (sym c.if-not-are_sets.ensures)
    c.in_ok-names.ensures.join (subst (λ (l : List (List ℕ)). IsNewSet (has (set_of l)) c.args.keyspace.now.bases e.value) same (c.in_ok-count.ensures.new number e found bytes))))
