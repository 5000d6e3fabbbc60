use Rattle.memory_store.proofs.Words.{Kept, List, MemoryContents, None, Some, ap, arith, option_copied, refl}
use Rattle.memory_store.proofs.Words.{reply_kept, state_of, sym, ◌∙◌, ◌≡◌}
use Rattle.office.proofs.Steps.{shows_repeated}
use Rattle.memory_store.proofs.Accepted.{accepted}
use Rattle.memory_store.proofs.registry.PlainStoreRegistry.apply.Goals as goal

pub returns-in-Some-clause-next : goal.returns-in-Some-clause-next
returns-in-Some-clause-next c honest o l m =
    let t = c.args.self.now in
    let a = c.args.arrival in
    let kept : t.kept ≡ c.as_slice.result.now = sym (c.as_slice.ensures.value ∙ ap (λ (x : MemoryContents). x.kept) c.self.view_is) in
    let known : reply_kept t.kept a ≡ Some c.in-Some.reply.now =
    ap (λ (ks : List Kept). reply_kept ks a) kept ∙ sym c.kept_reply.ensures ∙ ap option_copied c.in-Some.is in
    (shows_repeated (state_of t) t.kept o l a c.in-Some.reply.now known m).1

pub returns-in_ok-accept-in-Ok-clause-due : goal.returns-in_ok-accept-in-Ok-clause-due
returns-in_ok-accept-in-Ok-clause-due c honest o l m =
    let t = c.args.self.now in
    let a = c.args.arrival in
    let kept : t.kept ≡ c.as_slice.result.now = sym (c.as_slice.ensures.value ∙ ap (λ (x : MemoryContents). x.kept) c.self.view_is) in
    let first : reply_kept t.kept a ≡ None = ap (λ (ks : List Kept). reply_kept ks a) kept ∙ sym c.kept_reply.ensures ∙ ap option_copied c.in_default.is in
    rw c.in_ok-accept-in-Ok.ensures.reply (accepted t c.accept.new.self o l a c.in-Ok.decision _ first refl (omega (arith, c.in-Ok.ensures.version)) c.in-Ok.ensures.judges c.in_ok-accept-in-Ok.ensures.ok m).0

pub returns-in_ok-accept-in-Ok-clause-next : goal.returns-in_ok-accept-in-Ok-clause-next
returns-in_ok-accept-in-Ok-clause-next c honest o l m =
    let t = c.args.self.now in
    let a = c.args.arrival in
    let kept : t.kept ≡ c.as_slice.result.now = sym (c.as_slice.ensures.value ∙ ap (λ (x : MemoryContents). x.kept) c.self.view_is) in
    let first : reply_kept t.kept a ≡ None = ap (λ (ks : List Kept). reply_kept ks a) kept ∙ sym c.kept_reply.ensures ∙ ap option_copied c.in_default.is in
    (accepted t c.accept.new.self o l a c.in-Ok.decision _ first refl (omega (arith, c.in-Ok.ensures.version)) c.in-Ok.ensures.judges c.in_ok-accept-in-Ok.ensures.ok m).1

pub returns-in_ok-accept-in-Ok-clause-short : goal.returns-in_ok-accept-in-Ok-clause-short
returns-in_ok-accept-in-Ok-clause-short c honest = rw c.in_ok-accept-in-Ok.ensures.reply c.in-Ok.ensures.short
