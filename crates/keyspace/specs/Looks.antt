-- What is found at a key that is looked at as a value of one type.
use Rattle.keyspace.specs.declared.look.Look.{Look}
use Rattle.keyspace.specs.declared.look.Look.TheVariants.{Missing, Other, There}

-- nothing stands there, or a value of another type, or one of this type
abbrev pub IsLook : {T : Type 0} → Type 0 → Type 0 → (T → Type 0) → Look T → Type 0
IsLook missing other there Missing = missing
IsLook missing other there Other = other
IsLook missing other there (There own) = there own
