use Rattle.http_requests.proofs.Words.{List, ap, arith, codes, length, length-take, lengths, nat_lt, request_unique}
use Rattle.http_requests.proofs.Words.{subst, sym, ℕ, ◌∙◌}
use Rattle.http_requests.specs.Heads.{AreLawfulLengths, values, States}
use Rattle.http_requests.proofs.Heads.{head_of_front, head_in_front, fields_fit}
use Rattle.http_requests.proofs.head.read_head.Goals as goal

pub returns-in_default-clause-none : goal.returns-in_default-clause-none
returns-in_default-clause-none c = λ h rest good.
    let reads = head_in_front c.args.bytes.now _ h rest c.min.ensures good.0.size good.0.reads in
    c.in_default.ensures.none h _ reads good.0.lines

pub returns-in_default-stated_length-clause-none :
    goal.returns-in_default-stated_length-clause-none
returns-in_default-stated_length-clause-none c = λ h rest good.
    let found = c.in-Some.ensures.found in
    let same = request_unique _ found.0 h _ _ found.1.reads
    (head_in_front c.args.bytes.now _ h rest c.min.ensures good.0.size good.0.reads) in
    let P : List (List ℕ) → Type 0 = AreLawfulLengths in
    c.in_default-stated_length.ensures.none
    (subst P (sym (ap (values (codes "content-length")) found.1.fields ∙ ap lengths same.0)) good.1)

pub returns-clause-found : goal.returns-clause-found
returns-clause-found c =
    let found = c.in-Some.ensures.found in
    let fits = c.in-Some.ensures.within.section.len_fits in
    let short = fields_fit _ c.spans_of.new.headers _ _ found.1.fields in
    let e = ap (values (codes "content-length")) found.1.fields in
    let P : List (List ℕ) → Type 0 = AreLawfulLengths in
    let Q : List (List ℕ) → Type 0 = States c.in-Some-stated_length.stated in (
      found.0,
      (
        record {
          reads = head_of_front c.args.bytes.now _ _ found.0 fits found.1.reads;
          size = omega (arith, length-take {A = ℕ}, found.1.len, fits);
          lines = omega arith;
        },
        subst P e c.in-Some-stated_length.ensures.lawful,
      ),
      record {
        method = c.of.ensures ∙ found.1.method;
        target = c.of-2.ensures ∙ found.1.path;
        stated = subst Q e c.in-Some-stated_length.ensures.some;
        coding = c.states_coding.ensures
            ∙ ap (λ known. nat_lt 0 (length (values (codes "transfer-encoding") known))) found.1.fields;
      },
    )
