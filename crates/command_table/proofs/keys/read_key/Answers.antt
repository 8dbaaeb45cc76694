use Rattle.std.proofs.Common.{[], ◌∷◌, drop, Ok, refl, rules}
use Rattle.plain_model.specs.Shapes.{Plain, Database, Cursor, fixed, by_second, with_options}
use Rattle.plain_model.specs.KeyWords.{copy_options, no_copy_options, scan_options, no_scan_options, object_rows}
use Rattle.plain_model.specs.declared.command.Command.TheVariants.{Keys}
use Rattle.plain_model.specs.declared.keys.KeyCommand.TheVariants as keys
use Rattle.command_words.proofs.Lifted.{lifted}
use Rattle.command_table.proofs.Arms.{fixed_made, gathered, options_made, expire_made}
use Rattle.command_table.proofs.keys.read_key.Goals as goal

pub returns-in-Expire : goal.returns-in-Expire
returns-in-Expire c = rw c.in-Expire.is
    (expire_made keys.Expire (λ a. ((a.0, (a.1, tt)), a.2)) (λ a. keys.Expire a.0 a.1 a.2) (λ a. refl) c.args.request.now c.expire.result _ c.expire.ensures (search rules))

pub returns-in-PExpire : goal.returns-in-PExpire
returns-in-PExpire c = rw c.in-PExpire.is
    (expire_made keys.PExpire (λ a. ((a.0, (a.1, tt)), a.2)) (λ a. keys.PExpire a.0 a.1 a.2) (λ a. refl) c.args.request.now c.expire-in-PExpire.result _ c.expire-in-PExpire.ensures
    (search rules))

pub returns-in-ExpireAt : goal.returns-in-ExpireAt
returns-in-ExpireAt c = rw c.in-ExpireAt.is
    (expire_made keys.ExpireAt (λ a. ((a.0, (a.1, tt)), a.2)) (λ a. keys.ExpireAt a.0 a.1 a.2) (λ a. refl) c.args.request.now c.expire-in-ExpireAt.result _ c.expire-in-ExpireAt.ensures
    (search rules))

pub returns-in-PExpireAt : goal.returns-in-PExpireAt
returns-in-PExpireAt c = rw c.in-PExpireAt.is
    (expire_made keys.PExpireAt (λ a. ((a.0, (a.1, tt)), a.2)) (λ a. keys.PExpireAt a.0 a.1 a.2) (λ a. refl) c.args.request.now c.expire-in-PExpireAt.result _ c.expire-in-PExpireAt.ensures
    (search rules))

pub returns-in-Ttl : goal.returns-in-Ttl
returns-in-Ttl c = rw c.in-Ttl.is
    (fixed_made Keys (Plain ∷ []) (λ a. (a, tt)) (λ a. Ok (keys.Ttl a.0)) keys.Ttl (λ a. refl) c.args.request.now c.one-in-Ttl.result _ c.one-in-Ttl.ensures (search rules))

pub returns-in-PTtl : goal.returns-in-PTtl
returns-in-PTtl c = rw c.in-PTtl.is
    (fixed_made Keys (Plain ∷ []) (λ a. (a, tt)) (λ a. Ok (keys.PTtl a.0)) keys.PTtl (λ a. refl) c.args.request.now c.one-in-PTtl.result _ c.one-in-PTtl.ensures (search rules))

pub returns-in-ExpireTime : goal.returns-in-ExpireTime
returns-in-ExpireTime c = rw c.in-ExpireTime.is
    (fixed_made Keys (Plain ∷ []) (λ a. (a, tt)) (λ a. Ok (keys.ExpireTime a.0)) keys.ExpireTime (λ a. refl) c.args.request.now c.one-in-ExpireTime.result _ c.one-in-ExpireTime.ensures
    (search rules))

pub returns-in-PExpireTime : goal.returns-in-PExpireTime
returns-in-PExpireTime c = rw c.in-PExpireTime.is
    (fixed_made Keys (Plain ∷ []) (λ a. (a, tt)) (λ a. Ok (keys.PExpireTime a.0)) keys.PExpireTime (λ a. refl) c.args.request.now c.one-in-PExpireTime.result _ c.one-in-PExpireTime.ensures
    (search rules))

pub returns-in-Persist : goal.returns-in-Persist
returns-in-Persist c = rw c.in-Persist.is
    (fixed_made Keys (Plain ∷ []) (λ a. (a, tt)) (λ a. Ok (keys.Persist a.0)) keys.Persist (λ a. refl) c.args.request.now c.one-in-Persist.result _ c.one-in-Persist.ensures (search rules))

pub returns-in-KeysLike : goal.returns-in-KeysLike
returns-in-KeysLike c = rw c.in-KeysLike.is
    (fixed_made Keys (Plain ∷ []) (λ a. (a, tt)) (λ a. Ok (keys.KeysLike a.0)) keys.KeysLike (λ a. refl) c.args.request.now c.one-in-KeysLike.result _ c.one-in-KeysLike.ensures
    (search rules))

pub returns-in-Rename : goal.returns-in-Rename
returns-in-Rename c = rw c.in-Rename.is
    (fixed_made Keys (Plain ∷ Plain ∷ []) (λ a. (a.0, (a.1, tt))) (λ a. Ok (keys.Rename a.0 a.1.0)) (λ a. keys.Rename a.0 a.1) (λ a. refl) c.args.request.now c.two.result _ c.two.ensures
    (search rules))

pub returns-in-RenameNx : goal.returns-in-RenameNx
returns-in-RenameNx c = rw c.in-RenameNx.is
    (fixed_made Keys (Plain ∷ Plain ∷ []) (λ a. (a.0, (a.1, tt))) (λ a. Ok (keys.RenameNx a.0 a.1.0)) (λ a. keys.RenameNx a.0 a.1) (λ a. refl) c.args.request.now c.two-in-RenameNx.result _
    c.two-in-RenameNx.ensures (search rules))

pub returns-in-MoveKey : goal.returns-in-MoveKey
returns-in-MoveKey c = rw c.in-MoveKey.is
    (fixed_made Keys (Plain ∷ Database ∷ []) (λ a. (a.0, (a.1, tt))) (λ a. Ok (keys.MoveKey a.0 a.1.0)) (λ a. keys.MoveKey a.0 a.1) (λ a. refl) c.args.request.now c.one_and_database.result
    _ c.one_and_database.ensures (search rules))

pub returns-in-CopyKey : goal.returns-in-CopyKey
returns-in-CopyKey c =
    rw c.in-CopyKey.is
    (options_made Keys (Plain ∷ Plain ∷ []) copy_options no_copy_options (λ a. ((a.0, (a.1, tt)), a.2)) (λ a options. Ok (keys.Copy a.0 a.1.0 options)) (λ a. keys.Copy a.0 a.1 a.2)
    (λ a. refl) c.args.request.now c.two_and_options.result _ (rw c.no_copy_options.ensures at c.two_and_options.ensures) (search rules))

pub returns-in-Del : goal.returns-in-Del
returns-in-Del c = rw c.in-Del.is (gathered Keys 1 (λ w. w) keys.Del (λ list. refl) c.args.request.now c.words.result _ c.words.ensures (search rules))

pub returns-in-Unlink : goal.returns-in-Unlink
returns-in-Unlink c = rw c.in-Unlink.is (gathered Keys 1 (λ w. w) keys.Unlink (λ list. refl) c.args.request.now c.words-in-Unlink.result _ c.words-in-Unlink.ensures (search rules))

pub returns-in-Exists : goal.returns-in-Exists
returns-in-Exists c = rw c.in-Exists.is (gathered Keys 1 (λ w. w) keys.Exists (λ list. refl) c.args.request.now c.words-in-Exists.result _ c.words-in-Exists.ensures (search rules))

pub returns-in-Touch : goal.returns-in-Touch
returns-in-Touch c = rw c.in-Touch.is (gathered Keys 1 (λ w. w) keys.Touch (λ list. refl) c.args.request.now c.words-in-Touch.result _ c.words-in-Touch.ensures (search rules))

pub returns-in-TypeOf : goal.returns-in-TypeOf
returns-in-TypeOf c = rw c.in-TypeOf.is (fixed_made Keys (Plain ∷ []) (λ a. (a, tt)) (λ a. Ok (keys.TypeOf a.0)) keys.TypeOf (λ a. refl) c.args.request.now c.one.result _ c.one.ensures (search rules))

pub returns-in-Object : goal.returns-in-Object
returns-in-Object c = rw c.in-Object.is (lifted Keys (by_second 2 object_rows (drop 1 c.args.request.now)) c.object.result c.object.ensures)

pub returns-in-RandomKey : goal.returns-in-RandomKey
returns-in-RandomKey c = rw c.in-RandomKey.is (lifted Keys (fixed [] (λ a. Ok keys.RandomKey) (drop 1 c.args.request.now)) c.alone.result c.alone.ensures)

pub returns-in-Scan : goal.returns-in-Scan
returns-in-Scan c = rw c.in-Scan.is
    (lifted Keys (with_options (Cursor ∷ []) scan_options no_scan_options (λ a options. Ok (keys.Scan a.0 options)) (drop 1 c.args.request.now)) c.scan.result c.scan.ensures)
