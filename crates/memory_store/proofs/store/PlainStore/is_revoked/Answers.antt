use Rattle.memory_store.proofs.Words.{IsTrue, MemoryContents, contains, state_of, subst, sym, ◌∙◌}
use Rattle.std.specs.Prelude.{◌↔◌}
use Rattle.krl.specs.Sets.{HasAll}
use Rattle.office.proofs.Ranges.{range_flag}
use Rattle.office.proofs.Agreeing.{range_order, range_says}
use Rattle.memory_store.proofs.store.PlainStore.is_revoked.Goals as goal

pub returns-in-None-Some : goal.returns-in-None-Some
returns-in-None-Some c =
    let t = c.args.self.now in
    let m = c.args.message.now in
    let r = c.in-None-Some.range in
    let flag = c.has_all-in-None-Some.result in
    let is = sym c.concerned-concern.ensures.range ∙ c.in-None-Some.is-1 in
    let each = subst (λ (x : MemoryContents). IsTrue flag ↔ HasAll (contains x.runs) r.lo r.hi) c.self.view_is c.has_all-in-None-Some.ensures in
    range_says flag (state_of t) m r (sym c.concerned-concern.ensures.serial ∙ c.in-None-Some.is-0) is
    (range_flag flag (state_of t) r (range_order m r c.requires is) each)
