use Rattle.cert.proofs.Words.{is_principal, strings_within, ◌-◌, ◌≡◌}
use Rattle.cert.proofs.Elements.{with_front}
use Rattle.cert.proofs.nested.listed_principals.Given as goal

abbrev pub invariant-loop : goal.invariant-loop
invariant-loop l = with_front l.principals (strings_within (16 - l.counter) is_principal l.inner) ≡ strings_within
    16 is_principal l.text
