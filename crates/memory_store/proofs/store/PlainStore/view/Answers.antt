use Rattle.memory_store.proofs.Words.{MemoryContents, ap, ap₂, length, state_of, sym, ℕ, ◌+◌, ◌∙◌}
use Rattle.office.specs.Machine.{has_any}
use Rattle.office.proofs.Agreeing.{any_is, any_says}
use Rattle.memory_store.proofs.store.PlainStore.view.Goals as goal

pub returns-clause-agrees : goal.returns-clause-agrees
returns-clause-agrees c = record {
  opening = ap (λ (x : MemoryContents). x.opening) c.self.view_is;
  cas = c.as_slice.ensures.value ∙ ap (λ (x : MemoryContents). x.cas) c.self.view_is;
  next = ap₂ (λ (a : ℕ) (b : ℕ). a + b) (ap (λ (x : MemoryContents). x.opening.first) c.self.view_is) (c.len.ensures ∙ c.self.inside.certificates.ok.0 ∙ ap (λ (x : MemoryContents). length x.certificates) c.self.view_is);
  version = ap (λ (x : MemoryContents). x.version) c.self.view_is;
  date = ap (λ (x : MemoryContents). x.date) c.self.view_is;
  department = c.department_of.ensures.is;
  certificate = c.certificate_of-certificate.ensures.is;
  revoked = c.is_revoked.ensures;
  key_id = c.is_key_id_revoked.ensures;
  key_ids = any_says _ (state_of c.args.self.now) c.args.message.now (any_is c.self.inside.revoked_key_ids.items _ _ (c.is_empty.ensures) (sym c.self.inside.revoked_key_ids.ok.0) ∙ ap (λ (x : MemoryContents). has_any x.key_ids) c.self.view_is);
}
