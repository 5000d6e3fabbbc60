use Rattle.memory_store.proofs.Words.{MemoryContents, ap, head_of, state_of}
use Rattle.memory_store.proofs.Parts.{shown}
use Rattle.memory_store.proofs.registry.PlainStoreRegistry.revoked.Goals as goal

pub returns-clause-row : goal.returns-clause-row
returns-clause-row c honest o l m =
    shown c.args.self.now c.args.self.now.kept o l _ (ap (λ (t : MemoryContents). head_of (state_of t)) c.self.view_is) c.in_ok-parts.ensures c.in_ok-key_ids.ensures m
