-- Every input has one list of arrivals, and each session's are those of its own bytes.
use Rattle.std.proofs.Common.{◌≡◌, ℕ, List, [], ◌∷◌, ◌++◌, map, Bool, true, false, ◌==◌, refl, sym, ap, subst, ◌∙◌, append_assoc, append-nil, eqb-true, eq-eqb}
use Rattle.std.specs.Prelude.{if◌then◌else◌}
use Rattle.std.proofs.lemmas.List.{append_cancel_left, map-append}
use Rattle.plain_world.specs.Words.{Words}
use Rattle.plain_model.specs.Meant.{asks_to_quit}
use Rattle.resp_frames.specs.Ends.{End, Whole, Cut, Fault, Frames}
use Rattle.resp_frames.proofs.Streams.{frames_there, one_frames, requests_grow, fault_frames}
use Rattle.plain_sessions.specs.Arrivals.{Sent, bytes_of, Said, Asks, Breaks, broken, said_until_quit, Says, Adds, Arrival, arrival, Arrive, said_by, sent_by}
use Rattle.plain_sessions.specs.Laws.{ArrivalsAreThere, ArrivalsAreOne, ArrivalsOnlyGrow, EachSessionIsAStream, OneStreamIsASession}
use Rattle.plain_sessions.proofs.Piecing.{pieces_are_there, pieces_are_one, sent_grows}

-- ---- one session

-- bytes say one thing
pub says_one : (bytes : List ℕ) (x y : List Said) → Says bytes x → Says bytes y → x ≡ y
says_one bytes x y p q =
    let f = one_frames bytes p.asked q.asked p.end q.end p.frames q.frames in
    p.is ∙ ap (λ l. said_until_quit l (broken p.end)) f.0 ∙ ap (λ e. said_until_quit q.asked (broken e)) f.1 ∙ sym q.is

-- bytes say something
pub says_there : (bytes : List ℕ) → (said : List Said) × Says bytes said
says_there bytes =
    let f = frames_there bytes in
    (said_until_quit f.0 (broken f.1), record { asked = f.0; end = f.1; frames = f.2; is = refl })

-- behind a request that ends the session or doesn't, what is said grows as the rest does
grown_if : (b : Bool) (rest more new : List Said) → more ≡ rest ++ new → (added : List Said) × ((if b then [] else more) ≡ (if b then [] else rest) ++ added)
grown_if true rest more new e = ([], refl)
grown_if false rest more new e = (new, e)

-- what requests say goes on with more requests and what stands behind them
said_grows : (asked more : List Words) (behind : List Said) → (new : List Said) × (said_until_quit (asked ++ more) behind ≡ said_until_quit asked [] ++ new)
said_grows [] more behind = (said_until_quit more behind, refl)
said_grows (words ∷ asked) more behind =
    let g = said_grows asked more behind in
    let h = grown_if (asks_to_quit words) (said_until_quit asked []) (said_until_quit (asked ++ more) behind) g.0 g.1 in
    (h.0, ap (λ l. Asks words ∷ l) h.1)

module _ (front back : List ℕ) (asked : List Words) (all : List Said) (q : Says (front ++ back) all) where
  -- where no rule is broken yet, what is said goes on
  open_grows : (more : List Words) → q.asked ≡ asked ++ more → (new : List Said) × (all ≡ said_until_quit asked [] ++ new)
  open_grows more e =
      let g = said_grows asked more (broken q.end) in
      (g.0, q.is ∙ ap (λ l. said_until_quit l (broken q.end)) e ∙ g.1)

  -- what a front of the bytes says is the first of what they say
  grows_from : (end : End) → Frames front asked end → (new : List Said) × (all ≡ said_until_quit asked (broken end) ++ new)
  grows_from Whole f = let r = requests_grow front back asked q.asked Whole q.end f q.frames in open_grows r.0 r.1
  grows_from Cut f = let r = requests_grow front back asked q.asked Cut q.end f q.frames in open_grows r.0 r.1
  grows_from (Fault rule at) f =
      let s = one_frames (front ++ back) q.asked asked q.end (Fault rule at) q.frames (fault_frames front back asked rule at f) in
      ([], q.is ∙ ap (λ l. said_until_quit l (broken q.end)) s.0 ∙ ap (λ e. said_until_quit asked (broken e)) s.1 ∙ sym (append-nil (said_until_quit asked (Breaks rule at ∷ []))))

pub says_grow : (front back : List ℕ) (some all : List Said) → Says front some → Says (front ++ back) all → (new : List Said) × (all ≡ some ++ new)
says_grow front back some all p q =
    let g = grows_from front back p.asked all q p.end p.frames in
    (g.0, g.1 ∙ ap (λ l. l ++ g.0) (sym p.is))

-- no bytes say nothing
pub says_nothing : Says [] []
says_nothing = record { asked = []; end = Whole; frames = record { items = []; rest = []; framed = record { whole = refl; each = tt }; are = refl; ends = refl }; is = refl }

-- ---- all sessions

-- with a byte more there is something that is said by it
adds_there : (bytes : List ℕ) (byte : ℕ) → (new : List Said) × Adds bytes byte new
adds_there bytes byte =
    let a = says_there bytes in
    let b = says_there (bytes ++ byte ∷ []) in
    let g = says_grow bytes (byte ∷ []) a.0 b.0 a.1 b.1 in
    (g.0, record { before = a.0; said = a.1; more = subst (Says (bytes ++ byte ∷ [])) g.1 b.1 })

-- and it is one
adds_one : (bytes : List ℕ) (byte : ℕ) (x y : List Said) → Adds bytes byte x → Adds bytes byte y → x ≡ y
adds_one bytes byte x y p q =
    let same : p.before ≡ q.before = says_one bytes p.before q.before p.said q.said in
    let all : p.before ++ x ≡ q.before ++ y = says_one (bytes ++ byte ∷ []) (p.before ++ x) (q.before ++ y) p.more q.more in
    append_cancel_left q.before x y (ap (λ l. l ++ x) (sym same) ∙ all)

pub arrive_there : (before more : List Sent) → (arrivals : List Arrival) × Arrive before more arrivals
arrive_there before [] = ([], refl)
arrive_there before (sent ∷ more) =
    let a = adds_there (bytes_of sent.session before) sent.byte in
    let r = arrive_there (before ++ sent ∷ []) more in
    (map (arrival sent.session) a.0 ++ r.0, (a.0, r.0, a.1, r.1, refl))

pub arrive_one : (before more : List Sent) (x y : List Arrival) → Arrive before more x → Arrive before more y → x ≡ y
arrive_one before [] x y p q = p ∙ sym q
arrive_one before (sent ∷ more) x y p q =
    let new : p.0 ≡ q.0 = adds_one (bytes_of sent.session before) sent.byte p.0 q.0 p.2 q.2 in
    let rest : p.1 ≡ q.1 = arrive_one (before ++ sent ∷ []) more p.1 q.1 p.3 q.3 in
    p.4 ∙ ap (λ l. map (arrival sent.session) l ++ p.1) new ∙ ap (λ l. map (arrival sent.session) q.0 ++ l) rest ∙ sym q.4

-- ---- each session by itself

-- one more that is of the session or isn't, in front of others
kept_if : {A : Type 0} (b : Bool) (x : A) (xs ys : List A) → (if b then x ∷ (xs ++ ys) else xs ++ ys) ≡ (if b then x ∷ xs else xs) ++ ys
kept_if true x xs ys = refl
kept_if false x xs ys = refl

pub bytes_both : (number : ℕ) (front back : List Sent) → bytes_of number (front ++ back) ≡ bytes_of number front ++ bytes_of number back
bytes_both number [] back = refl
bytes_both number (sent ∷ front) back =
    ap (λ l. if sent.session == number then sent.byte ∷ l else l) (bytes_both number front back)
    ∙ kept_if (sent.session == number) sent.byte (bytes_of number front) (bytes_of number back)

said_both : (number : ℕ) (front back : List Arrival) → said_by number (front ++ back) ≡ said_by number front ++ said_by number back
said_both number [] back = refl
said_both number (one ∷ front) back =
    ap (λ l. if one.session == number then one.said ∷ l else l) (said_both number front back)
    ∙ kept_if (one.session == number) one.said (said_by number front) (said_by number back)

-- what is chosen
pub if_true : {A : Type 0} (b : Bool) (x y : A) → b ≡ true → (if b then x else y) ≡ x
if_true b x y e = ap (λ c. if c then x else y) e

pub if_false : {A : Type 0} (b : Bool) (x y : A) → b ≡ false → (if b then x else y) ≡ y
if_false b x y e = ap (λ c. if c then x else y) e

-- what one session says is said by it, and by no other
said_own : (session number : ℕ) (said : List Said) → (session == number) ≡ true → said_by number (map (arrival session) said) ≡ said
said_own session number [] e = refl
said_own session number (one ∷ said) e = if_true (session == number) _ _ e ∙ ap (λ l. one ∷ l) (said_own session number said e)

said_other : (session number : ℕ) (said : List Said) → (session == number) ≡ false → said_by number (map (arrival session) said) ≡ []
said_other session number [] e = refl
said_other session number (one ∷ said) e = if_false (session == number) _ _ e ∙ said_other session number said e

-- the bytes that one session sends are its own
pub bytes_own : (session : ℕ) (bytes : List ℕ) → bytes_of session (sent_by session bytes) ≡ bytes
bytes_own session [] = refl
bytes_own session (byte ∷ bytes) = if_true (session == session) _ _ (eq-eqb session session refl) ∙ ap (λ l. byte ∷ l) (bytes_own session bytes)

module _ (number : ℕ) (before : List Sent) (sent : Sent) (x new : List Said) (said : Says (bytes_of number before) x) (adds : Adds (bytes_of sent.session before) sent.byte new) where
  -- the byte is the session's own
  step_own : (sent.session == number) ≡ true → Says (bytes_of number (before ++ sent ∷ [])) (x ++ said_by number (map (arrival sent.session) new))
  step_own e =
      let same : sent.session ≡ number = eqb-true _ _ e in
      let there : Says (bytes_of number before) adds.before = subst (λ n. Says (bytes_of n before) adds.before) same adds.said in
      let first : adds.before ≡ x = says_one (bytes_of number before) adds.before x there said in
      let more : Says (bytes_of number before ++ sent.byte ∷ []) (adds.before ++ new) = subst (λ n. Says (bytes_of n before ++ sent.byte ∷ []) (adds.before ++ new)) same adds.more in
      let bytes : bytes_of number (before ++ sent ∷ []) ≡ bytes_of number before ++ sent.byte ∷ [] =
      bytes_both number before (sent ∷ []) ∙ ap (λ l. bytes_of number before ++ l) (if_true (sent.session == number) (sent.byte ∷ []) [] e) in
      let told : adds.before ++ new ≡ x ++ said_by number (map (arrival sent.session) new) =
      ap (λ l. l ++ new) first ∙ ap (λ l. x ++ l) (sym (said_own sent.session number new e)) in
      subst (λ l. Says l (x ++ said_by number (map (arrival sent.session) new))) (sym bytes) (subst (Says (bytes_of number before ++ sent.byte ∷ [])) told more)

  -- the byte is another's
  step_other : (sent.session == number) ≡ false → Says (bytes_of number (before ++ sent ∷ [])) (x ++ said_by number (map (arrival sent.session) new))
  step_other e =
      let bytes : bytes_of number (before ++ sent ∷ []) ≡ bytes_of number before =
      bytes_both number before (sent ∷ []) ∙ ap (λ l. bytes_of number before ++ l) (if_false (sent.session == number) (sent.byte ∷ []) [] e) ∙ append-nil (bytes_of number before) in
      let told : x ≡ x ++ said_by number (map (arrival sent.session) new) =
      sym (append-nil x) ∙ ap (λ l. x ++ l) (sym (said_other sent.session number new e)) in
      subst (λ l. Says l (x ++ said_by number (map (arrival sent.session) new))) (sym bytes) (subst (Says (bytes_of number before)) told said)

  step_either : (b : Bool) → (sent.session == number) ≡ b → Says (bytes_of number (before ++ sent ∷ [])) (x ++ said_by number (map (arrival sent.session) new))
  step_either true e = step_own e
  step_either false e = step_other e

-- behind what a session said before, its arrivals go on with what its bytes say
pub each_goes_on : (number : ℕ) (before more : List Sent) (x : List Said) (arrivals : List Arrival) → Says (bytes_of number before) x → Arrive before more arrivals
    → Says (bytes_of number (before ++ more)) (x ++ said_by number arrivals)
each_goes_on number before [] x arrivals said a =
    let told : x ≡ x ++ said_by number arrivals = sym (append-nil x) ∙ ap (λ l. x ++ said_by number l) (sym a) in
    subst (λ l. Says (bytes_of number l) (x ++ said_by number arrivals)) (sym (append-nil before)) (subst (Says (bytes_of number before)) told said)
each_goes_on number before (sent ∷ more) x arrivals said a =
    let one = step_either number before sent x a.0 said a.2 (sent.session == number) refl in
    let rest = each_goes_on number (before ++ sent ∷ []) more (x ++ said_by number (map (arrival sent.session) a.0)) a.1 one a.3 in
    let told : (x ++ said_by number (map (arrival sent.session) a.0)) ++ said_by number a.1 ≡ x ++ said_by number arrivals =
    append_assoc x (said_by number (map (arrival sent.session) a.0)) (said_by number a.1)
    ∙ ap (λ l. x ++ l) (sym (said_both number (map (arrival sent.session) a.0) a.1) ∙ ap (said_by number) (sym a.4)) in
    subst (λ l. Says (bytes_of number l) (x ++ said_by number arrivals)) (append_assoc before (sent ∷ []) more) (subst (Says (bytes_of number ((before ++ sent ∷ []) ++ more))) told rest)

pub each_is_stream : EachSessionIsAStream
each_is_stream sent arrivals number a = each_goes_on number [] sent [] arrivals says_nothing a

-- ---- a stretch of bytes of one session

-- behind bytes of which no more is said, no more arrives
none_more : (bytes : List ℕ) (x new : List Said) → Says bytes x → Says (bytes ++ []) (x ++ new) → new ≡ []
none_more bytes x new p q =
    let same : x ++ new ≡ x = says_one bytes (x ++ new) x (subst (λ l. Says l (x ++ new)) (append-nil bytes) q) p in
    append_cancel_left x new [] (same ∙ sym (append-nil x))

-- a stretch of one session's bytes brings what it says by it, whatever stands before it and however it is cut
pub stretch_arrives : (session : ℕ) (before : List Sent) (bytes : List ℕ) (x new : List Said) → Says (bytes_of session before) x → Says (bytes_of session before ++ bytes) (x ++ new)
    → Arrive before (sent_by session bytes) (map (arrival session) new)
stretch_arrives session before [] x new p q = ap (map (arrival session)) (none_more (bytes_of session before) x new p q)
stretch_arrives session before (byte ∷ bytes) x new p q =
    let own = bytes_of session before in
    let a = adds_there own byte in
    let first : a.1.before ≡ x = says_one own a.1.before x a.1.said p in
    let mid : Says (own ++ byte ∷ []) (x ++ a.0) = subst (λ l. Says (own ++ byte ∷ []) (l ++ a.0)) first a.1.more in
    let whole : Says ((own ++ byte ∷ []) ++ bytes) (x ++ new) = subst (λ l. Says l (x ++ new)) (sym (append_assoc own (byte ∷ []) bytes)) q in
    let g = says_grow (own ++ byte ∷ []) bytes (x ++ a.0) (x ++ new) mid whole in
    let split : new ≡ a.0 ++ g.0 = append_cancel_left x new (a.0 ++ g.0) (g.1 ∙ append_assoc x a.0 g.0) in
    let sent : Sent = record { session = session; byte = byte } in
    let bytes_now : own ++ byte ∷ [] ≡ bytes_of session (before ++ sent ∷ []) =
    sym (bytes_both session before (sent ∷ []) ∙ ap (λ l. own ++ l) (if_true (session == session) (byte ∷ []) [] (eq-eqb session session refl))) in
    let rest = stretch_arrives session (before ++ sent ∷ []) bytes (x ++ a.0) g.0 (subst (λ l. Says l (x ++ a.0)) bytes_now mid)
    (subst (λ l. Says (l ++ bytes) ((x ++ a.0) ++ g.0)) bytes_now (subst (Says ((own ++ byte ∷ []) ++ bytes)) g.1 whole)) in
    (a.0, map (arrival session) g.0, a.1, rest, ap (map (arrival session)) split ∙ map-append (arrival session) a.0 g.0)

-- what arrives of one part of the input and then of the next arrives of both
pub arrives_then : (before more behind : List Sent) (x y : List Arrival) → Arrive before more x → Arrive (before ++ more) behind y → Arrive before (more ++ behind) (x ++ y)
arrives_then before [] behind x y p q =
    subst (λ l. Arrive before behind (l ++ y)) (sym p) (subst (λ l. Arrive l behind y) (append-nil before) q)
arrives_then before (sent ∷ more) behind x y p q =
    let rest = arrives_then (before ++ sent ∷ []) more behind p.1 y p.3 (subst (λ l. Arrive l behind y) (sym (append_assoc before (sent ∷ []) more)) q) in
    (p.0, p.1 ++ y, p.2, rest, ap (λ l. l ++ y) p.4 ∙ append_assoc (map (arrival sent.session) p.0) p.1 y)

pub one_stream : OneStreamIsASession
one_stream session bytes asked end f = stretch_arrives session [] bytes [] (said_until_quit asked (broken end)) says_nothing (record { asked = asked; end = end; frames = f; is = refl })

-- ---- the bytes of all sessions

pub arrivals_there : ArrivalsAreThere
arrivals_there sessions bytes =
    let p = pieces_are_there sessions bytes in
    let a = arrive_there [] p.0 in
    (a.0, p.1, record { sent = p.0; pieced = p.2; arrive = a.1 })

pub arrivals_one : ArrivalsAreOne
arrivals_one sessions bytes one other stop stop' p q =
    let same = pieces_are_one sessions bytes p.sent q.sent stop stop' p.pieced q.pieced in
    (arrive_one [] q.sent one other (subst (λ l. Arrive [] l one) same.0 p.arrive) q.arrive, same.1)

pub arrivals_grow : ArrivalsOnlyGrow
arrivals_grow sessions front back some all stop stop' p q =
    let g = sent_grows sessions front back p.sent q.sent stop stop' p.pieced q.pieced in
    let more = arrive_there p.sent g.0 in
    let both : Arrive [] q.sent (some ++ more.0) = subst (λ l. Arrive [] l (some ++ more.0)) (sym g.1) (arrives_then [] p.sent g.0 some more.0 p.arrive more.1) in
    (more.0, arrive_one [] q.sent all (some ++ more.0) q.arrive both)
