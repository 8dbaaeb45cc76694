use Rattle.std.proofs.Common.{ap, ◌∙◌, ◌≡◌, length, arith}
use Rattle.resp_frames.specs.Frames.{request_bytes}
use Rattle.generator.specs.Generated.{drawn_words}
use Rattle.generator.proofs.running.run_one.Goals as goal

pub execute_bytes-requires : goal.execute_bytes-requires
execute_bytes-requires g c =
    let is : c.deref.result.now ≡ request_bytes (drawn_words c.args.running.now.dice) = c.deref.ensures.value ∙ c.in_ok-draw_request.ensures.request in
    omega (arith, ap length is, c.in_ok-draw_request.ensures.short)

pub returns-clause-answers : goal.returns-clause-answers
returns-clause-answers g c = (
  c.in_ok-reply.reply,
  record {
    mid = c.execute_bytes.new.engine;
    answers = c.in_ok-reply.ensures.executes (drawn_words c.args.running.now.dice) c.in_ok-draw_request.ensures.sound (c.deref.ensures.value ∙ c.in_ok-draw_request.ensures.request);
    rests = c.rest.ensures;
  },
  c.in_ok-running.ensures,
)
