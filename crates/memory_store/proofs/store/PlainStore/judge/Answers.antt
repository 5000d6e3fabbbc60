use Rattle.memory_store.proofs.Words.{List, Some, message_with_text, subst, ℕ, ◌≡◌}
use Rattle.office.proofs.Texts.{read_is}
use Rattle.memory_store.proofs.store.PlainStore.judge.Goals as goal

pub admit-verdict-requires-clause-read : goal.admit-verdict-requires-clause-read
admit-verdict-requires-clause-read c =
    let m = c.in-Ok.message in
    subst (λ (b : List ℕ). message_with_text b ≡ Some m) c.as_slice.ensures
    (read_is c.as_slice.result.now m c.in-Ok.ensures.exact c.in-Ok.ensures.found.0 c.in-Ok.ensures.found.1)
