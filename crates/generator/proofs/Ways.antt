-- A way goes on by one command, and so does what was drawn.
use Rattle.std.proofs.Common.{◌≡◌, ℕ, ◌+◌, ◌*◌, List, [], ◌∷◌, ◌++◌, zero, suc, refl, sym, ap, subst, ◌∙◌, append-nil, arith}
use Rattle.std.specs.Prelude.{codes}
use Rattle.std.specs.Fmt.{decimal}
use Rattle.std.proofs.lemmas.Grind.{flat_map-append}
use Rattle.digests.specs.Crc.{crc_of}
use Rattle.digests.proofs.Linear.{crc_append}
use Rattle.outside.specs.declared.pacing.Plan.{Plan}
use Rattle.plain_world.specs.Spelling.{spelling, spelled, line_end}
use Rattle.plain_world.specs.Words.{Words, IsRequest}
use Rattle.plain_world.specs.declared.reply.Part.{Part}
use Rattle.rand_pcg.specs.Lcg.{Lcg, advance, next, next_state, state_after}
use Rattle.rand_core.specs.Pcg32Seed.{pcg32_seed}
use Rattle.rand_pcg.specs.Pcg.{multiplier_64, pcg32, pcg32_of_seed}
use Rattle.resp_frames.specs.Frames.{header, request_bytes}
use Rattle.resp_frames.proofs.Putting.{one_digit}
use Rattle.generator.specs.Commands.{command_of, command_after, commands_after, commands, drawn, word}
use Rattle.generator.specs.Generated.{Paced, Answers, way, drawn_words, selects_first, asks_size}

-- a step behind others
later_state : (w m increment n state : ℕ) → next_state w m increment (state_after w m increment n state) ≡ state_after w m increment (suc n) state
unfolding state_after
later_state w m increment zero state = refl
later_state w m increment (suc n) state = later_state w m increment n (next_state w m increment state)

-- so many steps, and then so many
further : (w m increment a b state : ℕ) → state_after w m increment b (state_after w m increment a state) ≡ state_after w m increment (a + b) state
unfolding state_after
further w m increment a zero state =
    let S : ℕ → ℕ = λ n. state_after w m increment n state in
    let e : a ≡ a + 0 = omega arith in
    ap S e
further w m increment a (suc b) state =
    let S : ℕ → ℕ = λ n. state_after w m increment n state in
    let T : ℕ → ℕ = λ s. state_after w m increment b s in
    let e : suc a + b ≡ a + suc b = omega arith in
    ap T (later_state w m increment a state) ∙ further w m increment (suc a) b state ∙ ap S e

advance_more : (a b : ℕ) (dice : Lcg) → advance 64 multiplier_64 b (advance 64 multiplier_64 a dice) ≡ advance 64 multiplier_64 (a + b) dice
advance_more a b dice =
    let G : ℕ → Lcg = λ state. record { state = state; increment = dice.increment } in
    ap G (further 64 multiplier_64 dice.increment a b dice.state)

one_step : (dice : Lcg) → next 64 multiplier_64 dice ≡ advance 64 multiplier_64 1 dice
unfolding state_after
one_step dice = refl

-- two words that are drawn, one after the other
pub drawn_two : (dice first second : Lcg) (w x : ℕ) → (w, first) ≡ pcg32 dice → (x, second) ≡ pcg32 first → (command_of w x ≡ drawn_words dice) × (second ≡ advance 64 multiplier_64 2 dice)
drawn_two dice first second w x a b =
    let one : first ≡ advance 64 multiplier_64 1 dice = ap (λ (p : ℕ × Lcg). p.1) a ∙ one_step dice in
    let w_is : w ≡ (pcg32 dice).0 = ap (λ (p : ℕ × Lcg). p.0) a in
    let O : Lcg → ℕ = λ d. (pcg32 d).0 in
    let x_is : x ≡ O (advance 64 multiplier_64 1 dice) = ap (λ (p : ℕ × Lcg). p.0) b ∙ ap O one in
    let A : Lcg → Lcg = λ d. advance 64 multiplier_64 1 d in
    let W : ℕ → Words = λ v. command_of v x in
    let X : ℕ → Words = λ v. command_of (pcg32 dice).0 v in
    (ap W w_is ∙ ap X x_is, ap (λ (p : ℕ × Lcg). p.1) b ∙ one_step first ∙ ap A one ∙ advance_more 1 1 dice)

-- what is drawn from a generator that drew for so many commands is the next one
pub drawn_is : (seed before : ℕ) → drawn_words (drawn seed (2 * before)) ≡ command_after seed before
drawn_is seed before =
    let F : Lcg → Words = λ d. command_of (word seed (2 * before)) (pcg32 d).0 in
    ap F (advance_more (2 * before) 1 (pcg32_of_seed (pcg32_seed 16 seed)))

-- two words more
pub drawn_more : (seed before : ℕ) (dice later : Lcg) → dice ≡ drawn seed (2 * before) → later ≡ advance 64 multiplier_64 2 dice → later ≡ drawn seed (2 * (before + 1))
drawn_more seed before dice later is more =
    let A : Lcg → Lcg = λ d. advance 64 multiplier_64 2 d in
    let D : ℕ → Lcg = λ n. drawn seed n in
    let e : 2 * before + 2 ≡ 2 * (before + 1) = omega arith in
    more ∙ ap A is ∙ advance_more (2 * before) 2 (pcg32_of_seed (pcg32_seed 16 seed)) ∙ ap D e

-- one command more
pub commands_more : (seed before n : ℕ) → commands_after seed before n ++ command_after seed (before + n) ∷ [] ≡ commands_after seed before (suc n)
commands_more seed before zero =
    let C : ℕ → List Words = λ k. command_after seed k ∷ [] in
    let e : before + 0 ≡ before = omega arith in
    ap C e
commands_more seed before (suc n) =
    let C : ℕ → List Words = λ k. commands_after seed (suc before) n ++ command_after seed k ∷ [] in
    let F : List Words → List Words = λ l. command_after seed before ∷ l in
    let e : before + suc n ≡ suc before + n = omega arith in
    ap F (ap C e ∙ commands_more seed (suc before) n)

module _ {E : Type 0} (executes : ℕ → E → Words → List Part → E → Type 0) (works : ℕ → Plan → E → E → Type 0) where
  -- a way and an answer behind it are a way
  pub way_more : (seed n before : ℕ) (first mid last : Paced E) (replies : List (List Part)) (reply : List Part)
      → way executes works before first (commands_after seed before n) replies mid → Answers executes works (suc (before + n)) (command_after seed (before + n)) mid last reply
      → way executes works before first (commands_after seed before (suc n)) (replies ++ reply ∷ []) last
  way_more seed zero before first mid last [] reply w a =
      let same : before + 0 ≡ before = omega arith in
      let P : ℕ → Type 0 = λ k. Answers executes works (suc k) (command_after seed k) mid last reply in
      let Q : Paced E → Type 0 = λ p. Answers executes works (suc before) (command_after seed before) p last reply in
      (last, subst Q w (subst P same a), refl)
  way_more seed zero before first mid last (r ∷ replies) reply w a = absurd w
  way_more seed (suc n) before first mid last [] reply w a = absurd w
  way_more seed (suc n) before first mid last (r ∷ replies) reply w a =
      let same : before + suc n ≡ suc before + n = omega arith in
      let P : ℕ → Type 0 = λ k. Answers executes works (suc k) (command_after seed k) mid last reply in
      (w.0, w.1, way_more seed n (suc before) w.0 mid last replies reply w.2 (subst P same a))

-- ---- one turn of a run

pub drawn_none : (seed : ℕ) → pcg32_of_seed (pcg32_seed 16 seed) ≡ drawn seed (2 * 0)
unfolding state_after
drawn_none seed = refl

module _ {E : Type 0} (executes : ℕ → E → Words → List Part → E → Type 0) (works : ℕ → Plan → E → E → Type 0) where
  pub one_more : (seed before moment : ℕ) (dice : Lcg) (first mid last : Paced E) (replies : List (List Part)) (reply : List Part) → dice ≡ drawn seed (2 * before) → moment ≡ before + 1
      → way executes works 0 first (commands seed before) replies mid → Answers executes works moment (drawn_words dice) mid last reply
      → way executes works 0 first (commands seed (before + 1)) (replies ++ reply ∷ []) last
  one_more seed before moment dice first mid last replies reply is at w a =
      let none : before ≡ 0 + before = omega arith in
      let next : moment ≡ suc before = omega (arith, at) in
      let up : suc before ≡ before + 1 = omega arith in
      let D : Lcg → Type 0 = λ d. Answers executes works moment (drawn_words d) mid last reply in
      let W : Words → Type 0 = λ v. Answers executes works moment v mid last reply in
      let M : ℕ → Type 0 = λ m. Answers executes works m (command_after seed before) mid last reply in
      let N : ℕ → Type 0 = λ k. Answers executes works (suc k) (command_after seed k) mid last reply in
      let C : ℕ → Type 0 = λ n. way executes works 0 first (commands seed n) (replies ++ reply ∷ []) last in
      subst C up (way_more executes works seed before 0 first mid last replies reply w (subst N none (subst M next (subst W (drawn_is seed before) (subst D is a)))))

spelled_more : (replies : List (List Part)) (reply : List Part) → spelled (replies ++ reply ∷ []) ≡ spelled replies ++ spelling reply
spelled_more replies reply =
    let A : List ℕ → List ℕ = λ l. spelled replies ++ l in
    flat_map-append spelling replies (reply ∷ []) ∙ ap A (append-nil (spelling reply))

pub sum_more : (crc sum : ℕ) (replies : List (List Part)) (reply : List Part) → sum ≡ crc_of 0 (spelled replies) → crc ≡ crc_of sum (spelling reply) → crc ≡ crc_of 0 (spelled (replies ++ reply ∷ []))
sum_more crc sum replies reply is more =
    let S : ℕ → ℕ = λ s. crc_of s (spelling reply) in
    let B : List ℕ → ℕ = λ bytes. crc_of 0 bytes in
    more ∙ ap S is ∙ crc_append 0 (spelled replies) (spelling reply) ∙ ap B (sym (spelled_more replies reply))

pub sum_none : 0 ≡ crc_of 0 (spelled [])
unfolding crc_of
sum_none = refl

-- ---- the requests behind the last command

pub selects_request : IsRequest selects_first
selects_request = record { some = omega arith; few = omega arith; each = (omega arith, (omega arith, tt)) }

pub size_request : IsRequest asks_size
size_request = record { some = omega arith; few = omega arith; each = (omega arith, tt) }

-- the bytes of SELECT 0, by its headers
abbrev select_bytes : List ℕ → List ℕ → List ℕ → List ℕ
select_bytes words name number =
    words ++ ((name ++ (codes "SELECT" ++ line_end)) ++ ((number ++ (codes "0" ++ line_end)) ++ []))

pub selects_bytes : select_bytes (codes "*2\r\n") (codes "$6\r\n") (codes "$1\r\n") ≡ request_bytes selects_first
selects_bytes =
    let A : List ℕ → List ℕ = λ l. select_bytes l (header 36 (decimal 6)) (header 36 (decimal 1)) in
    let B : List ℕ → List ℕ = λ l. select_bytes (codes "*2\r\n") l (header 36 (decimal 1)) in
    let C : List ℕ → List ℕ = λ l. select_bytes (codes "*2\r\n") (codes "$6\r\n") l in
    sym (ap A (one_digit 42 2 (omega arith)) ∙ ap B (one_digit 36 6 (omega arith)) ∙ ap C (one_digit 36 1 (omega arith)))

-- the bytes of DBSIZE
abbrev dbsize_bytes : List ℕ → List ℕ → List ℕ
dbsize_bytes words name = words ++ ((name ++ (codes "DBSIZE" ++ line_end)) ++ [])

pub size_bytes : dbsize_bytes (codes "*1\r\n") (codes "$6\r\n") ≡ request_bytes asks_size
size_bytes =
    let A : List ℕ → List ℕ = λ l. dbsize_bytes l (header 36 (decimal 6)) in
    let B : List ℕ → List ℕ = λ l. dbsize_bytes (codes "*1\r\n") l in
    sym (ap A (one_digit 42 1 (omega arith)) ∙ ap B (one_digit 36 6 (omega arith)))
