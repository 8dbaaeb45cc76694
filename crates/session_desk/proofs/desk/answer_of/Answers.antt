use Rattle.std.proofs.Common.{◌≡◌, ◌<◌, length, subst, ◌∙◌, arith}
use Rattle.std.proofs.lemmas.List.{get_or-set_same}
use Rattle.std.proofs.lemmas.List.Elements.{All-set}
use Rattle.plain_sessions.specs.Transactions.{asked_of}
use Rattle.session_desk.specs.Kept.{Kept, kept_of, all_kept}
use Rattle.session_desk.specs.Watching.{IsSilent, IsWithin}
use Rattle.session_desk.specs.Answered.{Answers}
use Rattle.session_desk.proofs.Serving.{own_at, others_at}
use Rattle.session_desk.proofs.desk.answer_of.Goals as goal

pub returns-clause-answers : goal.returns-clause-answers
returns-clause-answers g c =
    let told = g.E.DeskEngine.told in
    let items = c.make_room.new.sessions.items in
    let olds = all_kept told c.args.sessions.now.items in
    let x = c.index_mut.result.now in
    let y = c.answer_session.new.session in
    let here : c.args.number < length items = search arith in
    record {
      request = c.len.ensures.request;
      kept = kept_of told y;
      answers = subst (λ (k : Kept). Answers g.E.DeskEngine.model g.E.Server.executes c.args.moment c.args.engine.now k k.queue c.args.request.now (asked_of c.args.request.now)
          (record { engine = c.answer_session.new.engine; reply = c.in_ok-answered.answered.done.reply; kept = kept_of told y }))
          (own_at told items olds c.args.number x y here c.index_mut.ensures.value (c.make_room.ensures.kept told)) c.in_ok-answered.ensures.answers;
      are = others_at told items olds c.args.number x y here c.index_mut.ensures.value (c.make_room.ensures.kept told);
    }

pub returns-clause-watches : goal.returns-clause-watches
returns-clause-watches g c none off =
    let items = c.make_room.new.sessions.items in
    let here : c.args.number < length items = search arith in
    let n = c.note_watches.ensures off in
    let own : c.index.result.now ≡ c.answer_session.new.session = c.index.ensures ∙ get_or-set_same items c.args.number c.answer_session.new.session c.index.result.now here in
    All-set IsSilent items c.args.number c.answer_session.new.session (subst IsSilent own n.1) (c.make_room.ensures.silent (none n.0))

pub returns-clause-within : goal.returns-clause-within
returns-clause-within g c = All-set IsWithin c.make_room.new.sessions.items c.args.number c.answer_session.new.session c.in_ok-answered.ensures.within c.make_room.ensures.within
