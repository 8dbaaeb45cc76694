use Rattle.std.proofs.Common.{◌≡◌, ap, ◌∙◌, sym, arith, ◌/◌, length, ℕ, List, [], ◌∷◌, ◌++◌, replicate, ◌-◌, ◌*◌, ◌%◌}
use Rattle.digests.specs.declared.siphash.State.{State}
use Rattle.digests.specs.Siphash.{sip, absorbed, compressed, finished, padded, initial, word_at}
use Rattle.digests.proofs.Rounds.{compressed_zero, compressed_next}
use Rattle.digests.proofs.Words.{word_in_in_words, word_last_in_words, take-rest}
use Rattle.digests.proofs.siphash.sip.Goals as goal

pub loop-word-init : goal.loop-word-init
loop-word-init c = c.new-state.ensures ∙ sym (compressed_zero c.args.c (padded c.args.bytes.now) (initial c.args.k0 c.args.k1))

pub loop-word-preserved : goal.loop-word-preserved
loop-word-preserved c =
    c.absorb-state.ensures
    ∙ (ap (λ (word : ℕ). absorbed c.args.c word c.loop-word.state) (c.word_at.ensures ∙ word_in_in_words c.args.bytes.now c.loop-word.word c.loop-word-test.true)
    ∙ (ap (λ (s : State). absorbed c.args.c (word_at (padded c.args.bytes.now) c.loop-word.word) s) c.loop-word.invariant
    ∙ sym (compressed_next c.args.c (padded c.args.bytes.now) c.loop-word.word (initial c.args.k0 c.args.k1))))

pub returns : goal.returns
unfolding sip
returns c =
    let all : c.loop-word.word ≡ length c.args.bytes.now / 8 = omega arith in
    let message : List ℕ = padded c.args.bytes.now in
    let so_far : c.loop-word.state ≡ compressed c.args.c message (length c.args.bytes.now / 8) (initial c.args.k0 c.args.k1) = c.loop-word.invariant
    ∙ ap (λ (n : ℕ). compressed c.args.c message n (initial c.args.k0 c.args.k1)) all in
    let word : c.read_u64.result ≡ word_at message (length c.args.bytes.now / 8) = c.read_u64.ensures
    ∙ word_last_in_words c.args.bytes.now c.last_bytes-last.result
    (c.last_bytes-last.ensures ∙ ap (λ (t : List ℕ). t ++ replicate (7 - length t) 0 ++ (length c.args.bytes.now % 256) ∷ [])
    (take-rest c.args.bytes.now (8 * (length c.args.bytes.now / 8)))) in
    c.finish.ensures
    ∙ ap (λ (s : State). finished c.args.d s)
    (c.absorb.ensures
    ∙ (ap (λ (w : ℕ). absorbed c.args.c w c.loop-word.state) word
    ∙ (ap (λ (s : State). absorbed c.args.c (word_at message (length c.args.bytes.now / 8)) s) so_far
    ∙ sym (compressed_next c.args.c message (length c.args.bytes.now / 8) (initial c.args.k0 c.args.k1)))))
