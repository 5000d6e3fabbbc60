-- Kinds pass the test for the same kind exactly when they are equal.
use Rattle.std.proofs.Common.{◌≡◌, true, refl}
use Rattle.values.specs.declared.kind.Kind.{Kind}
use Rattle.values.specs.declared.kind.Kind.TheVariants.{User, Host}
use Rattle.values.specs.Kinds.{same_kind}

pub same_kind_is : (a b : Kind) → same_kind a b ≡ true → a ≡ b
same_kind_is User User e = refl
same_kind_is Host Host e = refl
same_kind_is User Host e = absurd cc
same_kind_is Host User e = absurd cc

pub same_kind_itself : (k : Kind) → same_kind k k ≡ true
same_kind_itself User = refl
same_kind_itself Host = refl
