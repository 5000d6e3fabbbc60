use Rattle.cert.proofs.Words.{[], options_within, ◌-◌, ◌≡◌}
use Rattle.cert.proofs.Elements.{with_front}
use Rattle.cert.proofs.nested.listed_options.Given as goal

abbrev pub invariant-loop : goal.invariant-loop
invariant-loop l = with_front l.options (options_within (6 - l.counter) l.field l.previous l.inner) ≡
    options_within 6 l.field [] l.text
