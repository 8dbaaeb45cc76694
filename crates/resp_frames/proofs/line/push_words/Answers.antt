use Rattle.resp_frames.proofs.Parts.{lent_blank, lent_word, found_all}
use Rattle.resp_frames.proofs.line.push_words.Goals as goal

pub words-preserved-then-len-eq0 : goal.words-preserved-then-len-eq0
words-preserved-then-len-eq0 c =
    lent_blank c.args.line.now c.words.spans.items c.words.at c.before_blank-len.result c.words.invariant c.words-test.true c.before_blank-len.ensures.found c.if-len-eq0.true

pub words-preserved : goal.words-preserved
words-preserved c =
    lent_word c.args.line.now c.words.spans.items c.push.new.self.items c.words.at c.before_blank-len.result c.words.invariant c.before_blank-len.ensures.within
    c.before_blank-len.ensures.plain c.before_blank-len.ensures.found
    c.if-len-eq0.false c.in_ok-push.ensures.items

pub returns : goal.returns
returns c = found_all c.args.line.now c.words.spans.items c.words.at c.words.invariant c.words-test.false
