use Rattle.std.proofs.Common.{sym}
use Rattle.office.specs.History.{state}
use Rattle.waiting.proofs.Asked.{known_with, on_err, on_ok, same_answer, same_fault}
use Rattle.waiting.proofs.waiting.WaitingRegistry.apply.Goals as goal

pub returns-clause-due : goal.returns-clause-due
returns-clause-due g c h =
    same_answer g.R.Registry.means c.args.self.now.register c.args.self.now.known.seen c.args.self.now.known.rows.items
    c.args.self.now.revoked c.apply.result _ (c.apply.ensures.due h)

pub returns-clause-next : goal.returns-clause-next
returns-clause-next g c h =
    on_ok c.apply.result _ _ (known_with g.R.Registry.means c.args.self.now.register c.apply.new.self
    c.args.self.now.known.seen c.args.self.now.known.rows.items c.args.self.now.revoked c.forget_before.new.revoked
    c.args.arrival (λ o l. c.forget_before.ensures.after o l c.args.arrival (sym c.as_slice.ensures)))
    (c.apply.ensures.next h)

pub returns-clause-fault : goal.returns-clause-fault
returns-clause-fault g c h =
    on_err c.apply.result _ _ (λ same o l m. record {
      register_means = same o l m.register_means;
      knows = m.knows;
      revocations = c.forget_before.ensures.before (state o l) m.revocations;
    }) (c.apply.ensures.fault h)

pub returns-clause-only : goal.returns-clause-only
returns-clause-only g c h =
    same_fault g.R.Registry.means c.args.self.now.register c.args.self.now.known.seen c.args.self.now.known.rows.items
    c.args.self.now.revoked c.apply.result (c.apply.ensures.only h)
