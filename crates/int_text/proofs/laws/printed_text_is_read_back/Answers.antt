use Rattle.int_text.proofs.Signed.{printed_read_back}
use Rattle.int_text.proofs.laws.printed_text_is_read_back.Goals as goal

pub returns : goal.returns
returns c = printed_read_back
