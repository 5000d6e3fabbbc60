use Rattle.std.proofs.Common.{List, ℕ, length, arith, subst, sym}
use Rattle.std.specs.Io.KnownBytes.{Appends}
use Rattle.std.proofs.lemmas.List.{take_all}
use Rattle.std.proofs.KnownBytes.{Appends-kept}
use Rattle.station_jobs.proofs.output.print.Goals as goal

pub returns-in-Err-clause-err : goal.returns-in-Err-clause-err
returns-in-Err-clause-err g c =
    let bytes = c.args.bytes.now in
    let held = g.W.Write.contents c.args.out.now in
    let holds = g.W.Write.contents c.flush.new.self in
    record {
      count = length bytes;
      grown = subst (λ (t : List ℕ). Appends held holds t) (sym (take_all (length bytes) bytes (omega arith)))
          (Appends-kept held (g.W.Write.contents c.write_whole.new.out) holds bytes c.in_ok-write_whole.ensures.ok
          c.flush.ensures.bytes);
    }
