use Rattle.std.proofs.lemmas.Result.{IfOk-weaker}
use Rattle.generator.proofs.Ways.{selects_request, selects_bytes, size_request, size_bytes}
use Rattle.generator.specs.Generated.{selects_first, asks_size}
use Rattle.generator.proofs.running.ask_size.Goals as goal

pub returns : goal.returns
returns g c =
    let selects = c.in_ok-execute_bytes.ensures.executes selects_first selects_request selects_bytes in
    IfOk-weaker c.execute_bytes-2.result _ _
    (λ size executes. record { mid = c.execute_bytes.new.engine; chosen = c.in_ok-execute_bytes.field-0; selects = selects; asks = executes asks_size size_request size_bytes })
    c.execute_bytes-2.ensures.executes
