-- Parts that are whole replies (RESP2, "Arrays").
use Rattle.std.proofs.Common.{◌≡◌, ℕ, suc, ◌+◌, ◌*◌, List, [], ◌∷◌, ◌++◌, length, flat_map, refl, sym, subst, arith}
use Rattle.std.proofs.lemmas.List.{append_assoc, append-nil}
use Rattle.plain_world.specs.Parts.{AreReplies, IsReply, following}
use Rattle.plain_world.specs.Streams.{StreamEntry}
use Rattle.plain_world.specs.declared.reply.Part.{Part}
use Rattle.plain_world.specs.declared.reply.Part.TheVariants.{Bulk, Array}
use Rattle.plain_model.specs.IdTexts.{id_text}
use Rattle.plain_model.specs.StreamSteps.{Pair, pair_parts, entry_parts, listed}
use Rattle.cmd_streams.specs.Telling.{both}

-- these parts are so many replies, whatever follows them
abbrev pub Many : ℕ → List Part → Type 0
Many n parts = (k : ℕ) (rest : List Part) → AreReplies k rest → AreReplies (k + n) (parts ++ rest)

again : (parts : List Part) (a b : ℕ) → a ≡ b → AreReplies a parts → AreReplies b parts
again parts a b same h = subst (λ n. AreReplies n parts) same h

pub none : Many 0 []
none k rest h = again rest k (k + 0) (omega arith) h

-- a part that nothing belongs to
pub single : (part : Part) → following part ≡ 0 → Many 1 (part ∷ [])
single part alone k rest h = again (part ∷ rest) (suc k) (k + 1) (omega arith) (again rest k (k + following part) (omega (arith, alone)) h)

-- the head of an array, and what belongs to it
pub array : (n : ℕ) (parts : List Part) → Many n parts → Many 1 (Array n ∷ parts)
array n parts many k rest h = again (Array n ∷ parts ++ rest) (suc k) (k + 1) (omega arith) (many k rest h)

pub behind : (a b : ℕ) (xs ys : List Part) → Many a xs → Many b ys → Many (a + b) (xs ++ ys)
behind a b xs ys p q k rest h =
    subst (AreReplies (k + (a + b))) (sym (append_assoc xs ys rest)) (again (xs ++ (ys ++ rest)) (k + b + a) (k + (a + b)) (omega arith) (p (k + b) (ys ++ rest) (q k rest h)))

-- a reply more
pub one_behind : (n : ℕ) (parts more : List Part) → Many 1 parts → Many n more → Many (suc n) (parts ++ more)
one_behind n parts more p q = let e : 1 + n ≡ suc n = omega arith in subst (λ m. Many m (parts ++ more)) e (behind 1 n parts more p q)

pub each : {A : Type 0} (tell : A → List Part) → ((a : A) → Many 1 (tell a)) → (list : List A) → Many (length list) (flat_map tell list)
each tell one [] = none
each tell one (a ∷ list) = one_behind (length list) (tell a) (flat_map tell list) (one a) (each tell one list)

pub is_reply : (parts : List Part) → Many 1 parts → IsReply parts
is_reply parts one = subst IsReply (append-nil parts) (one 0 [] tt)

-- ---- entries

pairs_many : (pairs : List Pair) → Many (2 * length pairs) (flat_map both pairs)
pairs_many [] = none
pairs_many (pair ∷ pairs) =
    let e : 2 + 2 * length pairs ≡ 2 * suc (length pairs) = omega arith in
    subst (λ n. Many n (both pair ++ flat_map both pairs)) e
    (behind 2 (2 * length pairs) (both pair) (flat_map both pairs) (one_behind 1 (Bulk pair.0 ∷ []) (Bulk pair.1 ∷ []) (single (Bulk pair.0) refl) (single (Bulk pair.1) refl)) (pairs_many pairs))

pub entry_one : (e : StreamEntry) → Many 1 (entry_parts e)
entry_one e =
    array 2 (Bulk (id_text e.id) ∷ pair_parts e.pairs)
    (one_behind 1 (Bulk (id_text e.id) ∷ []) (pair_parts e.pairs) (single (Bulk (id_text e.id)) refl) (array (2 * length e.pairs) (flat_map both e.pairs) (pairs_many e.pairs)))

pub listed_one : (list : List StreamEntry) → Many 1 (listed list)
listed_one list = array (length list) (flat_map entry_parts list) (each entry_parts entry_one list)
