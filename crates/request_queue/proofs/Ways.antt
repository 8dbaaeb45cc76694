-- Ways of requests, one longer each time.
use Rattle.std.proofs.Common.{◌≡◌, ℕ, zero, suc, ◌+◌, ◌<◌, List, [], ◌∷◌, ◌++◌, map, length, take, get_or, refl, sym, ap, subst, ◌∙◌, arith, append-nil, append_assoc}
use Rattle.std.specs.Prelude.{flat_map}
use Rattle.std.specs.List.{AllByRecursion}
use Rattle.std.proofs.lemmas.Grind.{common_steps}
use Rattle.std.proofs.lemmas.List.{map-append, length-append}
use Rattle.std.proofs.lemmas.List.Concat.{flat_map-append}
use Rattle.plain_world.specs.Words.{Words, IsRequest}
use Rattle.plain_world.specs.Parts.{following, AreReplies, IsReply}
use Rattle.plain_world.specs.declared.reply.Part.{Part}
use Rattle.plain_world.specs.declared.reply.Part.TheVariants.{Array}
use Rattle.plain_sessions.specs.Transactions.{array_of}
use Rattle.resp_frames.specs.Frames.{request_bytes}
use Rattle.serving.specs.Path.{path}
use Rattle.request_queue.specs.Queued.{AreQueued, RunsBehind}

-- requests whose bytes are these and one more, the last one apart
record Split (bytes : List ℕ) (kept : List (List ℕ)) (asked : List Words) : Type 0 where
  first : List Words
  last : Words
  is : asked ≡ first ++ last ∷ []
  are : kept ≡ map request_bytes first
  each : AllByRecursion IsRequest first
  sound : IsRequest last
  same : bytes ≡ request_bytes last

split : (bytes : List ℕ) (kept : List (List ℕ)) (asked : List Words) → kept ++ bytes ∷ [] ≡ map request_bytes asked → AllByRecursion IsRequest asked → Split bytes kept asked
split bytes [] [] e r = absurd (let f : bytes ∷ [] ≡ [] = e in cc)
split bytes [] (w ∷ []) e r =
    let f : bytes ∷ [] ≡ request_bytes w ∷ [] = e in
    let one : bytes ≡ request_bytes w = cc in
    record { first = []; last = w; is = refl; are = refl; each = tt; sound = r.0; same = one }
split bytes [] (w ∷ v ∷ asked) e r = absurd (let f : bytes ∷ [] ≡ request_bytes w ∷ request_bytes v ∷ map request_bytes asked = e in cc)
split bytes (k ∷ kept) [] e r = absurd (let f : k ∷ (kept ++ bytes ∷ []) ≡ [] = e in cc)
split bytes (k ∷ kept) (w ∷ asked) e r =
    let f : k ∷ (kept ++ bytes ∷ []) ≡ request_bytes w ∷ map request_bytes asked = e in
    let head : k ≡ request_bytes w = cc in
    let tail : kept ++ bytes ∷ [] ≡ map request_bytes asked = cc in
    let s = split bytes kept asked tail r.1 in
    record {
      first = w ∷ s.first;
      last = s.last;
      is = ap (λ l. w ∷ l) s.is;
      are = ap (λ l. k ∷ l) s.are ∙ ap (λ l. l ∷ map request_bytes s.first) head;
      each = (r.0, s.each);
      sound = s.sound;
      same = s.same;
    }

no_bytes : (bytes : List ℕ) (more : List (List ℕ)) → (let l : List (List ℕ) = [] in l) ≡ bytes ∷ more → ⊥
no_bytes bytes more e = cc

-- the bytes of one more of the items
pub kept_next : {V : Type 0} (f : V → List ℕ) (xs : List V) (i : ℕ) (x : V) → i < length xs → x ≡ get_or xs i x → map f (take i xs) ++ f x ∷ [] ≡ map f (take (i + 1) xs)
kept_next f xs i x here is =
    let more : take (i + 1) xs ≡ take i xs ++ x ∷ [] = grind (arith, common_steps) in
    sym (ap (map f) more ∙ map-append f (take i xs) (x ∷ []))

-- replies behind replies
replies_then : (m n : ℕ) (xs ys : List Part) → AreReplies m xs → AreReplies n ys → AreReplies (m + n) (xs ++ ys)
replies_then zero n [] ys p q = let none : n ≡ 0 + n = omega arith in subst (λ k. AreReplies k ys) none q
replies_then zero n (x ∷ xs) ys p q = absurd p
replies_then (suc m) n [] ys p q = absurd p
replies_then (suc m) n (x ∷ xs) ys p q =
    let first : suc m + n ≡ suc (m + n) = omega arith in
    let moved : (m + following x) + n ≡ (m + n) + following x = omega arith in
    subst (λ k. AreReplies k (x ∷ (xs ++ ys))) (sym first) (subst (λ k. AreReplies k (xs ++ ys)) moved (replies_then (m + following x) n xs ys p q))

module _ {E : Type 0} (X : E → Words → List Part → E → Type 0) where
  -- a way and one step more
  path_more : (a b c : E) (asked : List Words) (words : Words) (replies : List (List Part)) (reply : List Part) → path X a asked replies b → X b words reply c
      → path X a (asked ++ words ∷ []) (replies ++ reply ∷ []) c
  path_more a b c [] words [] reply p x = (c, subst (λ e. X e words reply c) p x, refl)
  path_more a b c [] words (r ∷ replies) reply p x = absurd p
  path_more a b c (w ∷ asked) words [] reply p x = absurd p
  path_more a b c (w ∷ asked) words (r ∷ replies) reply p x = (p.0, p.1, path_more p.0 b c asked words replies reply p.2 x)

  -- at first none is run
  goes_nothing : (a : E) (asked : List Words) → AreQueued [] asked → path X a asked [] a
  goes_nothing a [] q = refl
  goes_nothing a (w ∷ asked) q = absurd (no_bytes (request_bytes w) (map request_bytes asked) q.are)

  pub runs_nothing : (a : E) (parts : List Part) → RunsBehind X a [] parts parts a
  runs_nothing a parts = record { replies = []; are = sym (append-nil parts); many = refl; whole = tt; way = goes_nothing a }

  -- one request more is run
  goes_on : (kept : List (List ℕ)) (bytes : List ℕ) (a b c : E) (replies : List (List Part)) (reply : List Part) → ((asked : List Words) → AreQueued kept asked → path X a asked replies b)
      → ((words : Words) → IsRequest words → bytes ≡ request_bytes words → X b words reply c) → (asked : List Words) → AreQueued (kept ++ bytes ∷ []) asked
      → path X a asked (replies ++ reply ∷ []) c
  goes_on kept bytes a b c replies reply g x asked q =
      let s = split bytes kept asked q.are q.each in
      subst (λ l. path X a l (replies ++ reply ∷ []) c) (sym s.is) (path_more a b c s.first s.last replies reply (g s.first (record { are = s.are; each = s.each })) (x s.last s.sound s.same))

  pub runs_on : (kept : List (List ℕ)) (bytes : List ℕ) (a b c : E) (parts mid new reply : List Part) → RunsBehind X a kept parts mid b
      → ((words : Words) → IsRequest words → bytes ≡ request_bytes words → X b words reply c) → IsReply reply → new ≡ mid ++ reply → RunsBehind X a (kept ++ bytes ∷ []) parts new c
  runs_on kept bytes a b c parts mid new reply r x one is =
      let all : flat_map (λ (reply : List Part). reply) (r.replies ++ reply ∷ []) ≡ flat_map (λ (reply : List Part). reply) r.replies ++ reply =
      flat_map-append (λ (reply : List Part). reply) r.replies (reply ∷ []) ∙ ap (λ l. flat_map (λ (reply : List Part). reply) r.replies ++ l) (append-nil reply) in
      let long : length (r.replies ++ reply ∷ []) ≡ length r.replies + 1 = length-append r.replies (reply ∷ []) in
      let both : AreReplies (length r.replies + 1) (flat_map (λ (reply : List Part). reply) r.replies ++ reply) = replies_then (length r.replies) 1 (flat_map (λ (reply : List Part). reply) r.replies) reply r.whole one in
      record {
        replies = r.replies ++ reply ∷ [];
        are = is ∙ ap (λ l. l ++ reply) r.are ∙ append_assoc parts (flat_map (λ (reply : List Part). reply) r.replies) reply ∙ ap (λ l. parts ++ l) (sym all);
        many = long ∙ ap (λ n. n + 1) r.many ∙ sym (length-append kept (bytes ∷ []));
        whole = subst (λ n. AreReplies n (flat_map (λ (reply : List Part). reply) (r.replies ++ reply ∷ []))) (sym long) (subst (AreReplies (length r.replies + 1)) (sym all) both);
        way = goes_on kept bytes a b c r.replies reply r.way x;
      }

  -- behind the head of an array
  array_is : (a b : E) (kept : List (List ℕ)) (first mid new : List Part) (n : ℕ) (r : RunsBehind X a kept mid new b) → first ≡ [] → mid ≡ first ++ Array n ∷ [] → n ≡ length kept
      → new ≡ array_of r.replies
  array_is a b kept first mid new n r e f same =
      let head : mid ≡ Array n ∷ [] = f ∙ ap (λ l. l ++ Array n ∷ []) e in
      let count : n ≡ length r.replies = same ∙ sym r.many in
      r.are ∙ ap (λ l. l ++ flat_map (λ (reply : List Part). reply) r.replies) head ∙ ap (λ k. Array k ∷ flat_map (λ (reply : List Part). reply) r.replies) count

  pub array_whole : (a b : E) (kept : List (List ℕ)) (first mid new : List Part) (n : ℕ) → RunsBehind X a kept mid new b → first ≡ [] → mid ≡ first ++ Array n ∷ [] → n ≡ length kept
      → IsReply new
  array_whole a b kept first mid new n r e f same =
      let count : 0 + length r.replies ≡ length r.replies = omega arith in
      subst IsReply (sym (array_is a b kept first mid new n r e f same))
      (subst (λ k. AreReplies k (flat_map (λ (reply : List Part). reply) r.replies)) (sym count) r.whole)
