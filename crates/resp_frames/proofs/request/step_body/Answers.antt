use Rattle.std.proofs.Common.{◌≡◌, length, vec_len, rules, ◌∙◌}
use Rattle.resp_frames.proofs.RequestSteps.{open_body, broken_body}
use Rattle.resp_frames.proofs.BodySteps.{body_done}
use Rattle.resp_frames.proofs.request.step_body.Goals as goal

pub returns-in-Open : goal.returns-in-Open
returns-in-Open c = open_body c.args.bytes.now c.args.read c.args.words c.args.len c.args.spans.now.items c.requires c.in-Open.ensures

pub returns-in-Broken : goal.returns-in-Broken
returns-in-Broken c = broken_body c.args.bytes.now c.args.read c.args.words c.args.len c.in-Broken.at c.args.spans.now.items c.requires c.in-Broken.ensures

pub returns-in_ok-push-in-Whole : goal.returns-in_ok-push-in-Whole
returns-in_ok-push-in-Whole c =
    let new = c.push.new.self in
    let all : vec_len new ≡ length new.items = search rules in
    body_done c.args.bytes.now c.args.read c.args.words c.args.len c.len.result c.args.spans.now.items new.items c.after_word.result c.requires c.in-Whole.ensures
    c.in_ok-push-in-Whole.ensures.items (c.len.ensures ∙ all) c.after_word.ensures
