-- The request that is given out of the bytes of one.
use Rattle.std.proofs.Common.{◌≡◌, ℕ, List, [], ◌∷◌, ◌++◌, Some, None, Ok, Bool, true, refl, sym, ap, subst, ◌∙◌, append-nil}
use Rattle.plain_world.specs.Words.{Words, IsRequest}
use Rattle.resp_frames.specs.Ends.{Whole, Frames}
use Rattle.resp_frames.specs.Feeding.{Feeding, GivesRequests, NextIs}
use Rattle.resp_frames.specs.Frames.{Asked, request_bytes}
use Rattle.resp_frames.proofs.Streams.{requests_first}
use Rattle.serving.proofs.Finishing.{true_is, gives_lent}

-- the frames of the bytes of one request
one_request : (words : Words) → IsRequest words → Frames (request_bytes words) (words ∷ []) Whole
one_request words r = record {
  items = Asked words ∷ [];
  rest = [];
  framed = record { whole = sym (append-nil (request_bytes words ++ []) ∙ append-nil (request_bytes words)); each = (r, tt) };
  are = refl;
  ends = refl;
}

-- the request that is given out of such bytes is that one
given_is : (words lent : Words) (rest : List ℕ) → IsRequest words → GivesRequests (request_bytes words) rest (lent ∷ []) → lent ≡ words
given_is words lent rest r g =
    let first = requests_first (request_bytes words) g.items rest (words ∷ []) Whole g.framed (one_request words r) in
    let e : words ∷ [] ≡ (lent ∷ []) ++ first.0 = first.1 ∙ ap (λ l. l ++ first.0) g.are in
    cc

-- the request that is lent, where the bytes that were fed are those of one
pub lent_is : (words lent : Words) (bytes : List ℕ) (old fed new : Feeding) (b : Bool) → old.kept ≡ [] → fed ≡ record { gone = old.gone; kept = old.kept ++ bytes; current = None }
    → b ≡ true → NextIs fed (Ok b) new → new.current ≡ Some lent → IsRequest words → bytes ≡ request_bytes words → lent ≡ words
lent_is words lent bytes old fed new b none is t n current r same =
    let g = gives_lent fed new lent (true_is b fed new t n) current in
    let kept : fed.kept ≡ request_bytes words = ap (λ f. f.kept) is ∙ ap (λ l. l ++ bytes) none ∙ same in
    given_is words lent new.kept r (subst (λ k. GivesRequests k new.kept (lent ∷ [])) kept g)
