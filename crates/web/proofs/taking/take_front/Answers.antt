use Rattle.web.proofs.Words.{HasCome, IsAt, List, Waits, WaitsBefore, [], ap, arith, get_or, inl, inr, length}
use Rattle.web.proofs.Words.{length-append, refl, subst, sym, ℕ, ◌++◌, ◌∙◌, ◌∷◌, ◌≡◌}
use Rattle.std.proofs.KnownBytes.{Consumes-nil}
use Rattle.http_requests.specs.Reading.{HoldsHead, NeverHolds}
use Rattle.http_requests.proofs.Places.{nothing_waits}
use Rattle.http_requests.proofs.Reading.{waits_before_nothing, waits_before_more}
use Rattle.web.proofs.Taken.{byte_more}
use Rattle.web.proofs.taking.take_front.Goals as goal

pub loop-count-init : goal.loop-count-init
loop-count-init g c = rw c.new-taken.ensures.items (record {
  consumed = Consumes-nil (g.R.Source.remaining c.args.source.now);
  shortest = waits_before_nothing;
  waits = nothing_waits;
  at = c.start-spot.ensures;
  size = refl;
  failed = refl;
})

pub progress-requires : goal.progress-requires
progress-requires g c =
    let R : List ℕ → Type 0 = IsAt c.next-spot.result in
    let came = c.deref.ensures.value ∙ c.in-Ok-push.ensures.items in
    subst R (sym came) (c.next-spot.ensures c.loop-count.taken.items c.loop-count.invariant.at)

pub loop-count-preserved : goal.loop-count-preserved
loop-count-preserved g c =
    let so_far = c.loop-count.invariant in
    let before = c.loop-count.taken.items in
    let byte = get_or c.read.new.buf 0 0 in
    let pushed = c.in-Ok-push.ensures.items in
    let P : List ℕ → Type 0 = HasCome Waits in
    let Q : List ℕ → Type 0 = WaitsBefore in
    let R : List ℕ → Type 0 = IsAt c.next-spot.result in
    let size : length c.push.new.self.items ≡ length (before ++ byte ∷ []) = ap (length {A = ℕ}) pushed in
    record {
      consumed = byte_more _ (g.R.Source.remaining c.loop-count.source) _ before c.read.new.buf _ c.in-Ok.n
          c.read.auto.buf c.in-Ok.ensures.bound c.if-n-eq0.false pushed so_far.consumed c.in-Ok.ensures.bytes.0;
      shortest = subst Q (sym pushed) (waits_before_more before byte so_far.shortest so_far.waits);
      waits = subst P c.deref.ensures.value c.in-Waits.ensures;
      at = subst R (sym pushed) (c.next-spot.ensures before so_far.at);
      size = omega (arith, size, length-append before (byte ∷ []));
      failed = ◌∙◌ {b = g.R.Source.failed c.loop-count.source} c.in-Ok.ensures.failed so_far.failed;
    }

pub returns-in-Whole-clause-front : goal.returns-in-Whole-clause-front
returns-in-Whole-clause-front g c =
    let so_far = c.loop-count.invariant in
    let before = c.loop-count.taken.items in
    let byte = get_or c.read.new.buf 0 0 in
    let pushed = c.in-Ok-push.ensures.items in
    let P : List ℕ → Type 0 = HoldsHead in
    let Q : List ℕ → Type 0 = WaitsBefore in
    let size : length c.push.new.self.items ≡ length (before ++ byte ∷ []) = ap (length {A = ℕ}) pushed in
    record {
      size = omega (arith, size, length-append before (byte ∷ []));
      enough = inl (subst P c.deref.ensures.value c.in-Whole.ensures);
      shortest = subst Q (sym pushed) (waits_before_more before byte so_far.shortest so_far.waits);
    }

pub returns-in-Hopeless-clause-front : goal.returns-in-Hopeless-clause-front
returns-in-Hopeless-clause-front g c =
    let so_far = c.loop-count.invariant in
    let before = c.loop-count.taken.items in
    let byte = get_or c.read.new.buf 0 0 in
    let pushed = c.in-Ok-push.ensures.items in
    let P : List ℕ → Type 0 = NeverHolds in
    let Q : List ℕ → Type 0 = WaitsBefore in
    let size : length c.push.new.self.items ≡ length (before ++ byte ∷ []) = ap (length {A = ℕ}) pushed in
    record {
      size = omega (arith, size, length-append before (byte ∷ []));
      enough = inr (inr (inr (subst P c.deref.ensures.value c.in-Hopeless.ensures)));
      shortest = subst Q (sym pushed) (waits_before_more before byte so_far.shortest so_far.waits);
    }

pub returns-then-n-eq0-clause-front : goal.returns-then-n-eq0-clause-front
returns-then-n-eq0-clause-front g c = record {
  size = omega arith;
  enough = inr (inr (inl (c.in-Ok.ensures.bytes.1 c.if-n-eq0.true (omega arith))));
  shortest = c.loop-count.invariant.shortest;
}

pub returns-clause-front : goal.returns-clause-front
returns-clause-front g c = record {
  size = omega arith;
  enough = inr (inl (omega arith));
  shortest = c.loop-count.invariant.shortest;
}
