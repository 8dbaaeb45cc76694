-- What the parts of a page are together.
use Rattle.std.proofs.Common.{◌≡◌, ℕ, ◌+◌, List, [], ◌∷◌, ◌++◌, length, map, Result, Ok, Err, IfOk, sym, ap, ◌∙◌, subst, arith}
use Rattle.std.specs.Fmt.{decimal}
use Rattle.plain_world.specs.Parts.{AreReplies, IsReply}
use Rattle.plain_world.specs.declared.reply.Part.{Part}
use Rattle.plain_world.specs.declared.reply.Part.TheVariants.{Bulk, Array}
use Rattle.plain_model.specs.Scans.{listed, paged}

names_are_replies : (names : List (List ℕ)) → AreReplies (length names) (map Bulk names)
names_are_replies [] = tt
names_are_replies (name ∷ names) = (let e : length names + 0 ≡ length names = omega arith in subst (λ n. AreReplies n (map Bulk names)) (sym e) (names_are_replies names))

listed_is_one : (n : ℕ) (names : List (List ℕ)) → n ≡ length names → AreReplies n (map Bulk names)
listed_is_one n names e = subst (λ n. AreReplies n (map Bulk names)) (sym e) (names_are_replies names)

-- an array of names is one reply
pub listed_reply : (names : List (List ℕ)) (first new : List Part) → first ≡ [] → new ≡ first ++ listed names → IsReply new
listed_reply names first new none is =
    let P : List Part → Type 0 = IsReply in
    subst P (sym (is ∙ ap (λ l. l ++ listed names) none)) (listed_is_one (0 + length names) names (omega arith))

-- what a page's parts are together
pub paged_parts : (next : ℕ) (text : List ℕ) (names : List (List ℕ)) (first second third new : List Part) → first ≡ [] → second ≡ first ++ Array 2 ∷ [] → text ≡ decimal next
    → third ≡ second ++ Bulk text ∷ [] → new ≡ third ++ listed names → new ≡ paged next names
paged_parts next text names first second third new none two is three last =
    let head : second ≡ Array 2 ∷ [] = two ∙ ap (λ l. l ++ Array 2 ∷ []) none in
    last ∙ ap (λ l. l ++ listed names) (three ∙ ap (λ l. l ++ Bulk text ∷ []) head) ∙ ap (λ t. Array 2 ∷ Bulk t ∷ listed names) is

-- a page is one reply
pub paged_reply : (next : ℕ) (names : List (List ℕ)) (new : List Part) → new ≡ paged next names → IsReply new
paged_reply next names new is =
    let P : List Part → Type 0 = IsReply in
    subst P (sym is) (listed_is_one (0 + length names) names (omega arith))

-- what holds of a reply, from what else does
pub if_ok : {X E : Type 0} (A B : X → Type 0) (result : Result X E) → ((x : X) → A x → B x) → IfOk result A → IfOk result B
if_ok A B (Ok x) so is = so x is
if_ok A B (Err e) so is = tt
