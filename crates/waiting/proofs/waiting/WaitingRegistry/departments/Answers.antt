use Rattle.waiting.proofs.Asked.{same_answer, same_fault, still_known}
use Rattle.waiting.proofs.waiting.WaitingRegistry.departments.Goals as goal

pub returns-clause-row : goal.returns-clause-row
returns-clause-row g c h =
    same_answer g.R.Registry.means c.args.self.now.register c.args.self.now.known.seen c.args.self.now.known.rows.items
    c.args.self.now.revoked c.departments.result _ (c.departments.ensures.row h)

pub returns-clause-preserves : goal.returns-clause-preserves
returns-clause-preserves g c =
    let below = c.departments.ensures.preserves in
    let same = λ (h : g.R.Registry.is_honest c.departments.new.self).
    still_known g.R.Registry.means c.args.self.now.register c.departments.new.self c.args.self.now.known.seen
    c.args.self.now.known.rows.items c.args.self.now.revoked (below.same h) in
    assumption (same, below)

pub returns-clause-only : goal.returns-clause-only
returns-clause-only g c h =
    same_fault g.R.Registry.means c.args.self.now.register c.args.self.now.known.seen c.args.self.now.known.rows.items
    c.args.self.now.revoked c.departments.result (c.departments.ensures.only h)
