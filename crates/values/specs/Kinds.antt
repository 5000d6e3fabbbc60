-- The kinds of certificates.
use Rattle.std.specs.Prelude.{Bool, true, false}
use Rattle.values.specs.declared.kind.Kind.{Kind}
use Rattle.values.specs.declared.kind.Kind.TheVariants.{User, Host}

abbrev pub same_kind : Kind → Kind → Bool
same_kind User User = true
same_kind Host Host = true
same_kind _ _ = false
