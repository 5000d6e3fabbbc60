use Rattle.message.proofs.Words.{List, ap, bytes_eq, list_any, not, sym, ℕ, ◌∙◌}
use Rattle.message.proofs.Steps.{and_second}
use Rattle.message.proofs.option.is_new_option.Goals as goal

pub returns-then-is_option : goal.returns-then-is_option
returns-then-is_option c =
    and_second _ _ _ (sym c.is_option.ensures ∙ c.if-is_option.true) (ap not (c.has_name.ensures
    ∙ ap (λ (n : List ℕ). list_any (λ q. bytes_eq q.name n) c.args.before.now) c.as_slice.ensures))
