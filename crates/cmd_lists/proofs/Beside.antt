-- An element put beside the first one that equals another.
use Rattle.std.proofs.Common.{◌≡◌, ℕ, zero, suc, ◌<◌, List, [], ◌∷◌, length, take, get_or, None, Some, Bool, true, false, Result, Ok, Err, IfOk, refl, sym, ap, ◌∙◌, arith}
use Rattle.std.specs.Prelude.{pos, negsuc, bytes_eq, if◌then◌else◌}
use Rattle.std.specs.List.{insert}
use Rattle.plain_world.specs.Worlds.{World}
use Rattle.plain_world.specs.declared.reply.Part.{Part}
use Rattle.plain_world.specs.declared.reply.Part.TheVariants.{Number}
use Rattle.plain_model.specs.Outcomes.{leaves}
use Rattle.plain_model.specs.ListSteps.{Elements, on_list, keep_list, places, beside, behind_first, inserted_beside, insert_beside, insert_there}
use Rattle.plain_model.specs.declared.list_command.Side.{Side}
use Rattle.plain_model.specs.declared.list_command.Side.TheVariants.{Before, After}
use Rattle.cmd_lists.specs.Changed.{HasList}
use Rattle.cmd_lists.proofs.Telling.{on_before}

-- the first element is another one, where no place is told of it
other_first : (b : Bool) (n : ℕ) (more : List ℕ) → (if b then n ∷ more else more) ≡ [] → b ≡ false
other_first true n more e = absurd (omega (arith, ap length e))
other_first false n more e = refl

others_behind : (b : Bool) (n : ℕ) (more : List ℕ) → (if b then n ∷ more else more) ≡ [] → more ≡ []
others_behind true n more e = absurd (omega (arith, ap length e))
others_behind false n more e = e

pub none_beside : (side : Side) (text element : List ℕ) (list : Elements) (n : ℕ) → places n text list ≡ [] → inserted_beside side text element list ≡ None
none_beside side text element [] n e = refl
none_beside side text element (x ∷ list) n e =
    let rest = none_beside side text element list (suc n) (others_behind (bytes_eq x text) n (places (suc n) text list) e) in
    ap (λ b. if b then Some (beside side x element list) else behind_first x (inserted_beside side text element list)) (other_first (bytes_eq x text) n (places (suc n) text list) e)
    ∙ ap (behind_first x) rest

-- before which index an element is put, from where the pivot stands
abbrev pub index_on : Side → ℕ → ℕ
index_on Before i = i
index_on After i = suc i

here_beside : (side : Side) (x element : List ℕ) (list : Elements) → beside side x element list ≡ insert (x ∷ list) (index_on side 0) element
here_beside Before x element list = refl
here_beside After x element list = refl

behind_beside : (side : Side) (x element : List ℕ) (list : Elements) (i : ℕ) → x ∷ insert list (index_on side i) element ≡ insert (x ∷ list) (index_on side (suc i)) element
behind_beside Before x element list i = refl
behind_beside After x element list i = refl

pub first_beside : (side : Side) (text element : List ℕ) (list : Elements) (n i : ℕ) → i < length list → places n text (take i list) ≡ [] → bytes_eq (get_or list i []) text ≡ true
    → inserted_beside side text element list ≡ Some (insert list (index_on side i) element)
first_beside side text element [] n i inside first equal = absurd (omega (arith, inside))
first_beside side text element (x ∷ list) n zero inside first equal =
    ap (λ b. if b then Some (beside side x element list) else behind_first x (inserted_beside side text element list)) equal ∙ ap Some (here_beside side x element list)
first_beside side text element (x ∷ list) n (suc i) inside first equal =
    let rest = first_beside side text element list (suc n) i (omega (arith, inside)) (others_behind (bytes_eq x text) n (places (suc n) text (take i list)) first) equal in
    ap (λ b. if b then Some (beside side x element list) else behind_first x (inserted_beside side text element list)) (other_first (bytes_eq x text) n (places (suc n) text (take i list)) first)
    ∙ ap (behind_first x) rest ∙ ap Some (behind_beside side x element list i)

-- ---- what is answered

-- where no element equals the pivot
pub none_told : {X : Type 0} (old : World) (key : List ℕ) (side : Side) (pivot element : List ℕ) (list : Elements) → HasList old key list → inserted_beside side pivot element list ≡ None
    → (result : Result (List Part) X) → IfOk result (λ reply. reply ≡ Number (negsuc 0) ∷ [])
    → IfOk result (λ reply. on_list old key (insert_beside old key side pivot element) ≡ leaves reply old)
none_told old key side pivot element list has none (Err x) told = tt
none_told old key side pivot element list has none (Ok reply) told =
    on_before old key (Some list) (insert_beside old key side pivot element) has ∙ ap (insert_there old key) none ∙ ap (λ r. leaves r old) (sym told)

-- where one does: the new length
pub beside_told : {X : Type 0} (old new : World) (key : List ℕ) (side : Side) (pivot element : List ℕ) (list now : Elements) (long : ℕ) → HasList old key list
    → inserted_beside side pivot element list ≡ Some now → long ≡ length now → new ≡ keep_list old key now
    → (result : Result (List Part) X) → IfOk result (λ reply. reply ≡ Number (pos long) ∷ []) → IfOk result (λ reply. on_list old key (insert_beside old key side pivot element) ≡ leaves reply new)
beside_told old new key side pivot element list now long has is size world (Err x) told = tt
beside_told old new key side pivot element list now long has is size world (Ok reply) told =
    on_before old key (Some list) (insert_beside old key side pivot element) has ∙ ap (insert_there old key) is
    ∙ ap (λ n. leaves (Number (pos n) ∷ []) (keep_list old key now)) (sym size)
    ∙ ap (λ r. leaves r (keep_list old key now)) (sym told)
    ∙ ap (leaves reply) (sym world)
