-- What stands open goes on with more bytes.
use Rattle.std.proofs.Common.{◌≡◌, ℕ, ◌+◌, ◌<◌, ◌≤◌, List, [], ◌∷◌, ◌++◌, ◌-◌, ◌≢◌, min, get_or, length, take, drop, flat_map, refl, sym, ap, subst, ◌∙◌, arith, append_assoc, append-nil}
use Rattle.std.specs.List.{concat}
use Rattle.std.proofs.lemmas.List.{length-append, length-take-le, drop_all, take_all}
use Rattle.std.proofs.lemmas.List.Folds.{concat-append}
use Rattle.std.proofs.lemmas.List.Concat.{flat_map-append}
use Rattle.resp_frames.proofs.Giving.{all_append}
use Rattle.plain_sessions.specs.Arrivals.{Sent, sent_by}
use Rattle.plain_sessions.specs.Pieces.{number_in, length_in, sent_in, Stop, Inside, Unknown, sent_behind, IsPiece, IsFront, IsUnknown, StopsAs, Pieced}
use Rattle.plain_sessions.proofs.Piecing.{number_front, length_front, sent_front, sent_none}
use Rattle.session_hub.specs.Standing.{Standing, AtHead, InPiece, AtUnknown, stop_of, Wants, StandsAt, IsHead, CanStand}
use Rattle.session_hub.specs.Stepping.{Hubbed, standing_of, IsAtHead, IsWhole, Steps}
use Rattle.session_hub.specs.declared.hub.Place.{Place}
use Rattle.session_hub.specs.declared.hub.Place.TheVariants as places
use Rattle.session_hub.specs.declared.hub.Step.{Step}
use Rattle.session_hub.specs.declared.hub.Step.TheVariants as steps

module _ (sessions : ℕ) where
  -- no bytes stand before any piece
  pub stands_first : StandsAt sessions [] [] (AtHead [])
  stands_first = record { pieced = record { pieces = []; rest = []; each = tt; whole = refl; stands = refl; brings = refl }; rest = record { is = refl; short = omega arith } }

  module _ (taken bytes : List ℕ) (sent new : List Sent) (stop : Stop) (p : Pieced sessions taken sent stop) where
    whole_more : taken ++ bytes ≡ concat p.pieces ++ (p.rest ++ bytes)
    whole_more = ap (λ l. l ++ bytes) p.whole ∙ append_assoc (concat p.pieces) p.rest bytes

    brings_more : (last : List Sent) → last ≡ sent_behind stop p.rest ++ new → sent ++ new ≡ flat_map sent_in p.pieces ++ last
    brings_more last e =
        ap (λ l. l ++ new) p.brings ∙ append_assoc (flat_map sent_in p.pieces) (sent_behind stop p.rest) new ∙ ap (λ l. flat_map sent_in p.pieces ++ l) (sym e)

    -- the rest goes on
    rest_on : (stop' : Stop) → StopsAs sessions (p.rest ++ bytes) stop' → sent_behind stop' (p.rest ++ bytes) ≡ sent_behind stop p.rest ++ new
        → (q : Pieced sessions (taken ++ bytes) (sent ++ new) stop') × (q.rest ≡ p.rest ++ bytes)
    rest_on stop' h e = (record { pieces = p.pieces; rest = p.rest ++ bytes; each = p.each; whole = whole_more; stands = h; brings = brings_more (sent_behind stop' (p.rest ++ bytes)) e }, refl)

    -- the rest becomes a whole piece
    piece_on : IsPiece sessions (p.rest ++ bytes) → sent_in (p.rest ++ bytes) ≡ sent_behind stop p.rest ++ new → StandsAt sessions (taken ++ bytes) (sent ++ new) (AtHead [])
    piece_on h e =
        let x = p.rest ++ bytes in
        let all : concat (p.pieces ++ x ∷ []) ++ [] ≡ concat p.pieces ++ x =
        append-nil (concat (p.pieces ++ x ∷ [])) ∙ concat-append p.pieces (x ∷ []) ∙ ap (λ l. concat p.pieces ++ l) (append-nil x) in
        let told : flat_map sent_in (p.pieces ++ x ∷ []) ++ [] ≡ flat_map sent_in p.pieces ++ sent_in x =
        append-nil (flat_map sent_in (p.pieces ++ x ∷ [])) ∙ flat_map-append sent_in p.pieces (x ∷ []) ∙ ap (λ l. flat_map sent_in p.pieces ++ l) (append-nil (sent_in x)) in
        record {
          pieced = record {
            pieces = p.pieces ++ x ∷ [];
            rest = [];
            each = all_append (IsPiece sessions) p.pieces (x ∷ []) p.each (h, tt);
            whole = whole_more ∙ sym all;
            stands = refl;
            brings = brings_more (sent_in x) e ∙ sym told;
          };
          rest = record { is = refl; short = omega arith };
        }

  -- the rest is a head and some of its piece's bytes
  in_piece : (taken rest : List ℕ) (sent : List Sent) (session left : ℕ) (p : Pieced sessions taken sent Inside) → p.rest ≡ rest → Wants rest session left → StandsAt sessions taken sent (InPiece session left)
  in_piece taken rest sent session left p is wants = record { pieced = p; rest = subst (λ l. Wants l session left) (sym is) wants }

  -- ---- in a head

  -- a head that isn't whole brings nothing
  head_brings : (taken head : List ℕ) (sent : List Sent) (s : StandsAt sessions taken sent (AtHead head)) → sent_behind (stop_of (AtHead head)) s.pieced.rest ≡ []
  head_brings taken [] sent s = refl
  head_brings taken (b ∷ head) sent s = let short = s.rest.short in sent_none s.pieced.rest (subst (λ l. length l < 6) (sym s.rest.is) short)

  -- a head of which there is something stands inside a piece
  some_head : (taken head : List ℕ) (sent : List Sent) (b : ℕ) (p : Pieced sessions taken sent Inside) → p.rest ≡ head ++ b ∷ [] → length (head ++ b ∷ []) < 6 → StandsAt sessions taken sent (AtHead (head ++ b ∷ []))
  some_head taken [] sent b p is short = record { pieced = p; rest = record { is = is; short = short } }
  some_head taken (c ∷ head) sent b p is short = record { pieced = p; rest = record { is = is; short = short } }

  module _ (taken head : List ℕ) (sent : List Sent) (s : StandsAt sessions taken sent (AtHead head)) where
    rest_is : (bytes : List ℕ) → s.pieced.rest ++ bytes ≡ head ++ bytes
    rest_is bytes = ap (λ l. l ++ bytes) s.rest.is

    no_more : (last : List Sent) → last ≡ [] → last ≡ sent_behind (stop_of (AtHead head)) s.pieced.rest ++ []
    no_more last e = e ∙ sym (ap (λ l. l ++ []) (head_brings taken head sent s))

    -- a whole head brings nothing
    six_brings : (x : List ℕ) → length x ≡ 6 → sent_in x ≡ []
    six_brings x six = ap (sent_by (number_in x)) (drop_all 6 x (omega (arith, six)))

    -- a byte more of a head
    pub head_on : (b : ℕ) → IsHead sessions (head ++ b ∷ []) → StandsAt sessions (taken ++ b ∷ []) (sent ++ []) (AtHead (head ++ b ∷ []))
    head_on b h =
        let x = s.pieced.rest ++ b ∷ [] in
        let is = rest_is (b ∷ []) in
        let own : IsHead sessions x = subst (IsHead sessions) (sym is) h in
        let long = length-append s.pieced.rest (b ∷ []) in
        let short = own.short in
        let front : IsFront sessions x = record { some = omega (arith, long); known = own.known; wanting = λ six. absurd (omega (arith, six, short)) } in
        let p = rest_on taken (b ∷ []) sent [] (stop_of (AtHead head)) s.pieced Inside front (no_more (sent_in x) (sent_none x short)) in
        some_head (taken ++ b ∷ []) head (sent ++ []) b p.0 (p.1 ∙ is) h.short

    -- its last byte, and then bytes of a session
    pub head_ends : (b session left : ℕ) → length (head ++ b ∷ []) ≡ 6 → session ≡ number_in (head ++ b ∷ []) → session < sessions → left ≡ length_in (head ++ b ∷ []) → 0 < left
        → StandsAt sessions (taken ++ b ∷ []) (sent ++ []) (InPiece session left)
    head_ends b session left six number known long some =
        let x = s.pieced.rest ++ b ∷ [] in
        let is = rest_is (b ∷ []) in
        let six' : length x ≡ 6 = ap (λ l. length l) is ∙ six in
        let number' : number_in x ≡ session = ap number_in is ∙ sym number in
        let long' : length_in x ≡ left = ap length_in is ∙ sym long in
        let front : IsFront sessions x = record { some = omega (arith, six'); known = λ two. omega (arith, number', known); wanting = λ l. omega (arith, six', long', some) } in
        let p = rest_on taken (b ∷ []) sent [] (stop_of (AtHead head)) s.pieced Inside front (no_more (sent_in x) (six_brings x six')) in
        in_piece (taken ++ b ∷ []) x (sent ++ []) session left p.0 p.1 (record { headed = omega (arith, six'); number = number'; long = omega (arith, six', long') })

    -- its last byte, where the piece brings none
    pub head_alone : (b session : ℕ) → length (head ++ b ∷ []) ≡ 6 → session ≡ number_in (head ++ b ∷ []) → session < sessions → length_in (head ++ b ∷ []) ≡ 0
        → StandsAt sessions (taken ++ b ∷ []) (sent ++ []) (AtHead [])
    head_alone b session six number known none =
        let x = s.pieced.rest ++ b ∷ [] in
        let is = rest_is (b ∷ []) in
        let six' : length x ≡ 6 = ap (λ l. length l) is ∙ six in
        let number' : number_in x ≡ session = ap number_in is ∙ sym number in
        let none' : length_in x ≡ 0 = ap length_in is ∙ none in
        let piece : IsPiece sessions x = record { headed = omega (arith, six'); known = omega (arith, number', known); whole = omega (arith, six', none') } in
        piece_on taken (b ∷ []) sent [] (stop_of (AtHead head)) s.pieced piece (no_more (sent_in x) (six_brings x six'))

    -- the number of no session, whatever stands behind it
    pub head_unknown : (b : ℕ) (more : List ℕ) → IsUnknown sessions (head ++ b ∷ []) → StandsAt sessions (taken ++ b ∷ more) (sent ++ []) AtUnknown
    head_unknown b more h =
        let x = s.pieced.rest ++ b ∷ more in
        let is : x ≡ (head ++ b ∷ []) ++ more = rest_is (b ∷ more) ∙ sym (append_assoc head (b ∷ []) more) in
        let number : number_in x ≡ number_in (head ++ b ∷ []) = ap number_in is ∙ number_front (head ++ b ∷ []) more h.numbered in
        let long : length x ≡ length (head ++ b ∷ []) + length more = ap (λ l. length l) is ∙ length-append (head ++ b ∷ []) more in
        let two = h.numbered in
        let above = h.unknown in
        let unknown : IsUnknown sessions x = record { numbered = omega (arith, long, two); unknown = omega (arith, number, above) } in
        let p = rest_on taken (b ∷ more) sent [] (stop_of (AtHead head)) s.pieced Unknown unknown (no_more [] refl) in
        record { pieced = p.0; rest = tt }

  -- ---- behind a head

  -- behind a number that no session has
  pub unknown_on : (taken bytes : List ℕ) (sent : List Sent) → StandsAt sessions taken sent AtUnknown → StandsAt sessions (taken ++ bytes) (sent ++ []) AtUnknown
  unknown_on taken bytes sent s =
      let p = s.pieced in
      let two = p.stands.numbered in
      let above = p.stands.unknown in
      let number = number_front p.rest bytes two in
      let long = length-append p.rest bytes in
      let unknown : IsUnknown sessions (p.rest ++ bytes) = record { numbered = omega (arith, long, two); unknown = omega (arith, number, above) } in
      let q = rest_on taken bytes sent [] Unknown p Unknown unknown refl in
      record { pieced = q.0; rest = tt }

  module _ (taken bytes : List ℕ) (sent : List Sent) (session left : ℕ) (s : StandsAt sessions taken sent (InPiece session left)) where
    rest_brings : sent_in (s.pieced.rest ++ bytes) ≡ sent_in s.pieced.rest ++ sent_by session bytes
    rest_brings = sent_front s.pieced.rest bytes s.rest.headed ∙ ap (λ n. sent_in s.pieced.rest ++ sent_by n bytes) s.rest.number

    -- bytes of the session, but not all that the piece brings
    pub piece_more : (left' : ℕ) → left ≡ length bytes + left' → 0 < left' → StandsAt sessions (taken ++ bytes) (sent ++ sent_by session bytes) (InPiece session left')
    piece_more left' split some =
        let r = s.pieced.rest in
        let six = s.rest.headed in
        let long = length-append r bytes in
        let told = s.rest.long in
        let number : number_in (r ++ bytes) ≡ number_in r = number_front r bytes (omega (arith, six)) in
        let len = length_front r bytes six in
        let known = s.pieced.stands.known (omega (arith, six)) in
        let all : length (r ++ bytes) + left' ≡ 6 + length_in (r ++ bytes) = omega (arith, long, told, len, split) in
        let front : IsFront sessions (r ++ bytes) = record { some = omega (arith, long, six); known = λ two. omega (arith, number, known); wanting = λ l. omega (arith, all, some) } in
        let p = rest_on taken bytes sent (sent_by session bytes) Inside s.pieced Inside front rest_brings in
        in_piece (taken ++ bytes) (r ++ bytes) (sent ++ sent_by session bytes) session left' p.0 p.1 (record { headed = omega (arith, long, six); number = number ∙ s.rest.number; long = all })

    -- all that it brings
    pub piece_ends : left ≡ length bytes → StandsAt sessions (taken ++ bytes) (sent ++ sent_by session bytes) (AtHead [])
    piece_ends same =
        let r = s.pieced.rest in
        let six = s.rest.headed in
        let long = length-append r bytes in
        let told = s.rest.long in
        let number : number_in (r ++ bytes) ≡ number_in r = number_front r bytes (omega (arith, six)) in
        let len = length_front r bytes six in
        let known = s.pieced.stands.known (omega (arith, six)) in
        let piece : IsPiece sessions (r ++ bytes) = record { headed = omega (arith, long, six); known = omega (arith, number, known); whole = omega (arith, long, told, len, same) } in
        piece_on taken bytes sent (sent_by session bytes) Inside s.pieced piece rest_brings

-- ---- what a step tells

module _ (n : ℕ) where
  module _ (b : ℕ) (more head : List ℕ) where
    step_on : IsHead n (head ++ b ∷ []) → Steps (record { sessions = n; standing = AtHead head }) (b ∷ more) steps.Head (record { sessions = n; standing = AtHead (head ++ b ∷ []) })
    step_on h = record { sessions = refl; some = omega arith; within = omega arith; tells = λ e. cc; goes_on = λ taken sent s. head_on n taken head sent s b h }

    step_ends : (session left : ℕ) → IsWhole n (head ++ b ∷ []) session left → 0 < left → Steps (record { sessions = n; standing = AtHead head }) (b ∷ more) steps.Head (record { sessions = n; standing = InPiece session left })
    step_ends session left w some = record {
      sessions = refl;
      some = omega arith;
      within = omega arith;
      tells = λ e. cc;
      goes_on = λ taken sent s. head_ends n taken head sent s b session left w.six w.number w.known w.long_is some;
    }

    step_alone : (session left : ℕ) → IsWhole n (head ++ b ∷ []) session left → left ≡ 0 → Steps (record { sessions = n; standing = AtHead head }) (b ∷ more) steps.Head (record { sessions = n; standing = AtHead [] })
    step_alone session left w none = record {
      sessions = refl;
      some = omega arith;
      within = omega arith;
      tells = λ e. cc;
      goes_on = λ taken sent s. head_alone n taken head sent s b session w.six w.number w.known (sym w.long_is ∙ none);
    }

    step_unknown : IsUnknown n (head ++ b ∷ []) → Steps (record { sessions = n; standing = AtHead head }) (b ∷ more) steps.Unknown (record { sessions = n; standing = AtUnknown })
    step_unknown h = record {
      sessions = refl;
      some = omega arith;
      within = omega arith;
      tells = refl;
      goes_on = λ taken sent s. subst (λ l. StandsAt n (taken ++ l) (sent ++ []) AtUnknown) (sym (take_all (length (b ∷ more)) (b ∷ more) (omega arith))) (head_unknown n taken head sent s b more h);
    }

  pub step_behind : (chunk : List ℕ) → 0 < length chunk → Steps (record { sessions = n; standing = AtUnknown }) chunk steps.Unknown (record { sessions = n; standing = AtUnknown })
  step_behind chunk some = record {
    sessions = refl;
    some = some;
    within = omega arith;
    tells = refl;
    goes_on = λ taken sent s. unknown_on n taken (take (length chunk) chunk) sent s;
  }

  module _ (chunk : List ℕ) (session left count : ℕ) (known : session < n) (some : 0 < count) (within : count ≤ length chunk) where
    pub step_more : (left' : ℕ) → left ≡ count + left' → 0 < left'
        → Steps (record { sessions = n; standing = InPiece session left }) chunk (steps.Bytes session count) (record { sessions = n; standing = InPiece session left' })
    step_more left' split more = record {
      sessions = refl;
      some = some;
      within = within;
      tells = (known, λ e. cc);
      goes_on = λ taken sent s. piece_more n taken (take count chunk) sent session left s left' (split ∙ ap (λ k. k + left') (sym (length-take-le count chunk within))) more;
    }

    pub step_last : left ≡ count → Steps (record { sessions = n; standing = InPiece session left }) chunk (steps.Bytes session count) (record { sessions = n; standing = AtHead [] })
    step_last same = record {
      sessions = refl;
      some = some;
      within = within;
      tells = (known, λ e. cc);
      goes_on = λ taken sent s. piece_ends n taken (take count chunk) sent session left s (same ∙ sym (length-take-le count chunk within));
    }

-- ---- as the code has it

module _ (n : ℕ) where
  moved : (a a' : Hubbed) (l l' : List ℕ) (step : Step) (d d' : Hubbed) → a ≡ a' → l ≡ l' → d ≡ d' → Steps a l step d → Steps a' l' step d'
  moved a a' l l' step d d' e f g s = subst (λ x. Steps a' l' step x) g (subst (λ x. Steps a' x step d) f (subst (λ x. Steps x l step d) e s))

  abbrev stands : Standing → Hubbed
  stands standing = record { sessions = n; standing = standing }

  place_is : (place : Place) (head : List ℕ) → IsAtHead (standing_of place head) → place ≡ places.Head
  place_is places.Head head h = refl
  place_is (places.Piece session left) head h = absurd h
  place_is places.Unknown head h = absurd h

  first_is : (chunk : List ℕ) → 0 < length chunk → get_or chunk 0 0 ∷ drop 1 chunk ≡ chunk
  first_is [] some = absurd (omega (arith, some))
  first_is (b ∷ more) some = refl

  -- a byte is pushed behind a head
  module _ (place : Place) (old : Hubbed) (chunk head pushed seen : List ℕ) (view : stands (standing_of place head) ≡ old) (at : IsAtHead old.standing) (some : 0 < length chunk)
      (push : pushed ≡ head ++ get_or chunk 0 0 ∷ []) (lent : seen ≡ pushed) where
    at_head : place ≡ places.Head
    at_head = place_is place head (subst (λ o. IsAtHead o.standing) (sym view) at)

    stands_at : (l : List ℕ) → stands (standing_of place l) ≡ stands (AtHead l)
    stands_at l = ap (λ p. stands (standing_of p l)) at_head

    was : stands (AtHead head) ≡ old
    was = sym (stands_at head) ∙ view

    first : chunk ≡ get_or chunk 0 0 ∷ drop 1 chunk
    first = sym (first_is chunk some)

    told : seen ≡ head ++ get_or chunk 0 0 ∷ []
    told = lent ∙ push

    pub head_step_on : IsHead n seen → Steps old chunk steps.Head (stands (standing_of place pushed))
    head_step_on h =
        let now : stands (AtHead (head ++ get_or chunk 0 0 ∷ [])) ≡ stands (standing_of place pushed) = sym (stands_at pushed ∙ ap (λ l. stands (AtHead l)) push) in
        moved _ old _ chunk steps.Head _ (stands (standing_of place pushed)) was (sym first) now (step_on n (get_or chunk 0 0) (drop 1 chunk) head (subst (IsHead n) told h))

    pub head_step_unknown : IsUnknown n seen → Steps old chunk steps.Unknown (stands AtUnknown)
    head_step_unknown h =
        moved _ old _ chunk steps.Unknown _ (stands AtUnknown) was (sym first) refl (step_unknown n (get_or chunk 0 0) (drop 1 chunk) head (subst (IsUnknown n) told h))

    pub head_step_ends : (session long : ℕ) → IsWhole n seen session long → 0 < long → Steps old chunk steps.Head (stands (InPiece session long))
    head_step_ends session long w more =
        moved _ old _ chunk steps.Head _ (stands (InPiece session long)) was (sym first) refl
        (step_ends n (get_or chunk 0 0) (drop 1 chunk) head session long (subst (λ l. IsWhole n l session long) told w) more)

    pub head_step_alone : (session long : ℕ) (cleared : List ℕ) → IsWhole n seen session long → long ≡ 0 → cleared ≡ [] → Steps old chunk steps.Head (stands (standing_of place cleared))
    head_step_alone session long cleared w none clear =
        let now : stands (AtHead []) ≡ stands (standing_of place cleared) = sym (stands_at cleared ∙ ap (λ l. stands (AtHead l)) clear) in
        moved _ old _ chunk steps.Head _ (stands (standing_of place cleared)) was (sym first) now
        (step_alone n (get_or chunk 0 0) (drop 1 chunk) head session long (subst (λ l. IsWhole n l session long) told w) none)

  -- bytes of a session
  module _ (place : Place) (old : Hubbed) (chunk head : List ℕ) (session left count : ℕ) (view : stands (standing_of place head) ≡ old) (in_piece : place ≡ places.Piece session left)
      (can : CanStand n (standing_of place head)) (some : 0 < length chunk) (within : count ≤ length chunk) (few : count ≤ left) (most : count ≡ min (length chunk) left) where
    inside : CanStand n (InPiece session left)
    inside = subst (λ p. CanStand n (standing_of p head)) in_piece can

    was_in : stands (InPiece session left) ≡ old
    was_in = sym (ap (λ p. stands (standing_of p head)) in_piece) ∙ view

    count_some : 0 < count
    count_some = let left_some = inside.1 in omega (arith, some, most, left_some)

    pub piece_step_ends : (cleared : List ℕ) → count ≡ left → cleared ≡ [] → Steps old chunk (steps.Bytes session count) (stands (AtHead cleared))
    piece_step_ends cleared same clear =
        moved _ old chunk chunk (steps.Bytes session count) _ (stands (AtHead cleared)) was_in refl (ap (λ l. stands (AtHead l)) (sym clear))
        (step_last n chunk session left count inside.0 count_some within (sym same))

    pub piece_step_more : count ≢ left → Steps old chunk (steps.Bytes session count) (stands (InPiece session (left - count)))
    piece_step_more other =
        moved _ old chunk chunk (steps.Bytes session count) _ (stands (InPiece session (left - count))) was_in refl refl
        (step_more n chunk session left count inside.0 count_some within (left - count) (omega (arith, few)) (omega (arith, few, other)))
