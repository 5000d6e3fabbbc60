use Rattle.web.proofs.Words.{inl, inr, request_ask, subst}
use Rattle.std.specs.Io.KnownBytes.{Appends}
use Rattle.wire.specs.Streams.{AppendsBeginning}
use Rattle.web.proofs.Shown.{is_no_message}
use Rattle.web.proofs.Stores.{cause_of_store, if_unserved}
use Rattle.web.proofs.serve.serve_one.Goals as goal

pub returns-in-Ok-clause-ok : goal.returns-in-Ok-clause-ok
returns-in-Ok-clause-ok g c =
    let taken = c.in_ok-request.ensures.taken in
    let sent = subst (Appends (g.W.Sink.taken c.args.writer.now) (g.W.Sink.taken c.write_all.new.sink))
    c.deref.ensures.value c.in-Ok.ensures.ok in (
      record {
        request = taken.bytes;
        nonce = c.in_ok-nonce.nonce;
        response = c.in_ok-response.response.items;
        taken = taken.consumed;
        one = taken.one;
        nonce_taken = c.in_ok-nonce.ensures.consumed;
        nonce_size = c.in_ok-nonce.ensures.size;
        answered = λ honest. c.in_ok-response.ensures.answered honest taken.bytes taken.asks;
        form = (request_ask c.in_ok-request.request, taken.asks, c.in_ok-response.ensures.form);
        reads = λ none honest is. elim none [
          | inl asked ↦ c.answer_request.ensures.reads honest is
              (is_no_message taken.bytes (request_ask c.in_ok-request.request) taken.asks asked)
          | inr refused ↦ c.in_ok-response.ensures.refused honest refused is
        ];
      },
      sent,
    )

pub returns-clause-write : goal.returns-clause-write
returns-clause-write g c _ =
    let taken = c.in_ok-request.ensures.taken in
    let sent = subst (AppendsBeginning (g.W.Sink.taken c.args.writer.now) (g.W.Sink.taken c.write_all.new.sink))
    c.deref.ensures.value c.in-Err.ensures.err in (
      record {
        request = taken.bytes;
        nonce = c.in_ok-nonce.nonce;
        response = c.in_ok-response.response.items;
        taken = taken.consumed;
        one = taken.one;
        nonce_taken = c.in_ok-nonce.ensures.consumed;
        nonce_size = c.in_ok-nonce.ensures.size;
        answered = λ honest. c.in_ok-response.ensures.answered honest taken.bytes taken.asks;
        form = (request_ask c.in_ok-request.request, taken.asks, c.in_ok-response.ensures.form);
        reads = λ none honest is. elim none [
          | inl asked ↦ c.answer_request.ensures.reads honest is
              (is_no_message taken.bytes (request_ask c.in_ok-request.request) taken.asks asked)
          | inr refused ↦ c.in_ok-response.ensures.refused honest refused is
        ];
      },
      sent,
    )

pub returns-in_err-response-clause-store : goal.returns-in_err-response-clause-store
returns-in_err-response-clause-store g c honest store o l means =
    let taken = c.in_ok-request.ensures.taken in record {
      request = taken.bytes;
      nonce = c.in_ok-nonce.nonce;
      taken = taken.consumed;
      one = taken.one;
      nonce_taken = c.in_ok-nonce.ensures.consumed;
      nonce_size = c.in_ok-nonce.ensures.size;
      stopped = cause_of_store c.from_residual-in_err-response.result c.in_err-response.field-0.0 _
          c.from_residual-in_err-response.ensures.1 store (c.in_err-response.ensures.only honest o l means)
          (c.in_err-response.ensures.cause honest taken.bytes taken.asks);
    }

pub returns-in_err-response-clause-before : goal.returns-in_err-response-clause-before
returns-in_err-response-clause-before g c =
    if_unserved c.from_residual-in_err-response.result _ (λ honest is. c.in_err-response.ensures.before honest is)

pub returns-in_err-request-clause-before : goal.returns-in_err-request-clause-before
returns-in_err-request-clause-before g c =
    if_unserved c.from_residual.result _ (λ honest is. g.met.S.Registry.unasked c.args.registry.now)

pub returns-in_err-nonce-clause-before : goal.returns-in_err-nonce-clause-before
returns-in_err-nonce-clause-before g c =
    if_unserved c.from_residual-in_err-nonce.result _ (λ honest is. g.met.S.Registry.unasked c.args.registry.now)
