-- The bytes that may follow in a head, byte by byte.
use Rattle.std.proofs.Common.{◌≡◌, ◌⊎◌, inl, inr, ℕ, ◌+◌, ◌<◌, ◌≤◌, List, [], ◌∷◌, ◌++◌, length, drop, get_or}
use Rattle.std.proofs.Common.{codes, refl, sym, ap, add-one, subst}
use Rattle.std.proofs.Common.{◌∙◌, arith, append_assoc, append-nil, length-append, IsTrue}
use Rattle.std.proofs.Math.Seq.{drop-cons}
use Rattle.std.proofs.lemmas.Bool.{cases_lt}
use Rattle.std.specs.List.{flat_map}
use Rattle.std.proofs.lemmas.Bool.Decides.{nat_tests}
use Rattle.std.proofs.lemmas.List.{get_or_past}
use Rattle.std.proofs.lemmas.List.Elements.{All-cons, All-nil}
use Rattle.std.proofs.lemmas.Str.{IsUtf8-from_ascii}
use Rattle.std.specs.Str.{IsAscii}
use Rattle.httparse.specs.Grammar.{Field, IsField, crlf, lf, RequestHead, ReadsRequest, AllPass, is_token_byte}
use Rattle.httparse.specs.Grammar.{is_uri_byte, is_value_byte, print_end, print_field, print_section, print_version}
use Rattle.httparse.proofs.GrammarLemmas.{ReadsRequest-append, cons-append, print_request-append, request_unique}
use Rattle.http_requests.specs.declared.growing.Place.{Place}
use Rattle.http_requests.specs.declared.growing.Place.TheVariants.{Start, Method, BeforeTarget, Target, Version}
use Rattle.http_requests.specs.declared.growing.Place.TheVariants.{VersionEnd, Feed, Line, LastFeed, Name, Value}
use Rattle.http_requests.specs.declared.growing.Place.TheVariants.{Whole, Elsewhere}
use Rattle.http_requests.specs.declared.progress.Progress.TheVariants.{Waits}
use Rattle.http_requests.specs.Places.{IsHeaderSection, IsEnd, IsFeed, IsValue, IsName, IsVersion, IsTarget, IsMethod}
use Rattle.http_requests.specs.Places.{is_visible, MayFollow, IsHeadOf, EndsAt, Leads, BeginsLine}
use Rattle.http_requests.specs.Reading.{HasCome, HoldsHead}

-- ---- one more byte

pub method_more : (least byte : ℕ) → least ≤ 1 → IsTrue (is_token_byte byte) → (count : ℕ) (rest : List ℕ)
    → IsMethod 0 count rest → IsMethod least count (byte ∷ rest)
method_more least byte few token count rest m = record {
  method = byte ∷ m.method;
  rest = m.rest;
  enough = omega arith;
  valid = All-cons (λ b. IsTrue (is_token_byte b)) byte m.method token m.valid;
  next = m.next;
  text = ap (λ t. byte ∷ t) m.text;
}

pub method_end : (count : ℕ) (rest : List ℕ) → IsTarget 1 count rest → IsMethod 0 count (32 ∷ rest)
method_end count rest t = record {
  method = [];
  rest = rest;
  enough = omega arith;
  valid = All-nil (λ b. IsTrue (is_token_byte b));
  next = t;
  text = refl;
}

pub target_more : (least byte : ℕ) → least ≤ 1 → IsTrue (is_visible byte) → (count : ℕ) (rest : List ℕ)
    → IsTarget 0 count rest → IsTarget least count (byte ∷ rest)
target_more least byte few visible count rest t = record {
  target = byte ∷ t.target;
  rest = t.rest;
  enough = omega arith;
  valid = All-cons (λ b. IsTrue (is_visible b)) byte t.target visible t.valid;
  next = t.next;
  text = ap (λ u. byte ∷ u) t.text;
}

pub target_end : (count : ℕ) (rest : List ℕ) → IsVersion 0 count rest → IsTarget 0 count (32 ∷ rest)
target_end count rest v = record {
  target = [];
  rest = rest;
  enough = omega arith;
  valid = All-nil (λ b. IsTrue (is_visible b));
  next = v;
  text = refl;
}

pub version_more : (came byte : ℕ) → came < 7 → byte ≡ get_or (codes "HTTP/1.") came 0 → (count : ℕ) (rest : List ℕ)
    → IsVersion (came + 1) count rest → IsVersion came count (byte ∷ rest)
version_more came byte few same count rest v =
    let front = codes "HTTP/1." in
    let cut : drop came front ≡ byte ∷ drop (came + 1) front = rw (same, add-one) (drop-cons front came 0 few) in
    record {
      minor = v.minor;
      rest = v.rest;
      valid = v.valid;
      next = v.next;
      text = ap (λ t. byte ∷ t) v.text ∙ ap (λ t. t ++ (48 + v.minor) ∷ v.rest) (sym cut);
    }

version_of : (minor : ℕ) → minor ≤ 1 → (count : ℕ) (rest : List ℕ) → IsEnd count rest
    → IsVersion 7 count ((48 + minor) ∷ rest)
version_of minor few count rest e =
    record { minor = minor; rest = rest; valid = few; next = e; text = refl }

pub version_end : (came byte : ℕ) → came ≡ 7 → (byte ≡ 48) ⊎ ((byte ≡ 48 → ⊥) × (byte ≡ 49))
    → (count : ℕ) (rest : List ℕ) → IsEnd count rest → IsVersion came count (byte ∷ rest)
version_end came byte at (inl is) count rest e = rw (at, is) (version_of 0 (omega arith) count rest e)
version_end came byte at (inr is) count rest e = rw (at, is.1) (version_of 1 (omega arith) count rest e)

pub end_feed : (count : ℕ) (rest : List ℕ) → IsFeed count rest → IsEnd count (13 ∷ rest)
end_feed count rest f = record { end = crlf; rest = f.rest; next = f.next; text = ap (λ t. 13 ∷ t) f.text }

pub end_line : (count : ℕ) (rest : List ℕ) → IsHeaderSection count rest → IsEnd count (10 ∷ rest)
end_line count rest s = record { end = lf; rest = rest; next = s; text = refl }

pub feed_line : (count : ℕ) (rest : List ℕ) → IsHeaderSection count rest → IsFeed count (10 ∷ rest)
feed_line count rest s = record { rest = rest; next = s; text = refl }

pub value_more : (byte : ℕ) → IsTrue (is_value_byte byte) → (count : ℕ) (rest : List ℕ)
    → IsValue count rest → IsValue count (byte ∷ rest)
value_more byte is count rest v = record {
  raw = byte ∷ v.raw;
  rest = v.rest;
  valid = All-cons (λ b. IsTrue (is_value_byte b)) byte v.raw is v.valid;
  next = v.next;
  text = ap (λ t. byte ∷ t) v.text;
}

pub value_end : (count : ℕ) (rest : List ℕ) → IsEnd count rest → IsValue count rest
value_end count rest e =
    record { raw = []; rest = rest; valid = All-nil (λ b. IsTrue (is_value_byte b)); next = e; text = refl }

pub name_more : (byte : ℕ) → IsTrue (is_token_byte byte) → (count : ℕ) (rest : List ℕ)
    → IsName count rest → IsName count (byte ∷ rest)
name_more byte is count rest n = record {
  name = byte ∷ n.name;
  rest = n.rest;
  valid = All-cons (λ b. IsTrue (is_token_byte b)) byte n.name is n.valid;
  next = n.next;
  text = ap (λ t. byte ∷ t) n.text;
}

pub name_end : (count : ℕ) (rest : List ℕ) → IsValue count rest → IsName count (58 ∷ rest)
name_end count rest v =
    record { name = []; rest = rest; valid = All-nil (λ b. IsTrue (is_token_byte b)); next = v; text = refl }

-- a line before other lines
line_text : (x : ℕ) (name raw e f l : List ℕ)
    → x ∷ (name ++ 58 ∷ (raw ++ (e ++ (f ++ l)))) ≡ ((((x ∷ name) ++ 58 ∷ raw) ++ e) ++ f) ++ l
line_text x name raw e f l = sym (simp (append_assoc, cons-append))

pub line_begins : (byte : ℕ) → IsTrue (is_token_byte byte) → (count : ℕ) (rest : List ℕ)
    → IsName count rest → IsHeaderSection (1 + count) (byte ∷ rest)
line_begins byte is count rest n =
    let v = n.next in
    let e = v.next in
    let s = e.next in
    let field : Field = record { name = byte ∷ n.name; raw = v.raw; end = e.end } in
    let token = All-cons (λ b. IsTrue (is_token_byte b)) byte n.name is n.valid in
    let valid : IsField field = record { name = (omega arith, token); raw = v.valid } in
    let parts = flat_map print_field s.fields in
    let text : byte ∷ rest ≡ byte ∷ (n.name ++ 58 ∷ (v.raw ++ (print_end e.end ++ (parts ++ print_end s.last)))) =
    ap (λ t. byte ∷ t) (n.text ∙ ap (λ t. n.name ++ 58 ∷ t)
    (v.text ∙ ap (λ t. v.raw ++ t) (e.text ∙ ap (λ t. print_end e.end ++ t) s.text))) in
    record {
      fields = field ∷ s.fields;
      last = s.last;
      valid = All-cons IsField field s.fields valid s.valid;
      size = omega (arith, s.size);
      text = text ∙ line_text byte n.name v.raw (print_end e.end) parts (print_end s.last);
    }

pub last_feed : (count : ℕ) (rest : List ℕ) → (count ≡ 0) × (rest ≡ 10 ∷ []) → IsHeaderSection count (13 ∷ rest)
last_feed count rest e = record {
  fields = [];
  last = crlf;
  valid = All-nil _;
  size = sym e.0;
  text = ap (λ t. 13 ∷ t) e.1;
}

pub last_line : (count : ℕ) (rest : List ℕ) → (count ≡ 0) × (rest ≡ []) → IsHeaderSection count (10 ∷ rest)
last_line count rest e = record {
  fields = [];
  last = lf;
  valid = All-nil _;
  size = sym e.0;
  text = ap (λ t. 10 ∷ t) e.1;
}

-- ---- a head from its first byte

-- visible bytes may be in a target, and are ASCII
visible_uri : (b : ℕ) → IsTrue (is_visible b) → IsTrue (is_uri_byte b)
visible_uri b is = grind (arith, nat_tests)

visible_below : (b : ℕ) → IsTrue (is_visible b) → b < 128
visible_below b is = grind (arith, nat_tests)

visible_ascii : (bytes : List ℕ) → AllPass is_visible bytes → IsAscii bytes
visible_ascii bytes all i = elim (cases_lt i (length bytes)) [
  | inl lt ↦ visible_below (get_or bytes i 0) (all i 0 lt)
  | inr le ↦ rw (get_or_past bytes i 0 le) (omega arith)
]

-- what may follow the empty list of bytes is a head
pub starts : EndsAt Start 0 []
starts count rest m =
    let t = m.next in
    let v = t.next in
    let e = v.next in
    let s = e.next in
    let head : RequestHead = record {
      blank = [];
      method = m.method;
      target = t.target;
      minor = v.minor;
      line_end = e.end;
      fields = s.fields;
      last = s.last;
    } in
    let version = print_version v.minor in
    let section = s.text ∙ sym (append-nil (print_section s.fields s.last)) in
    let line = e.text ∙ ap (λ u. print_end e.end ++ u) section in
    let after = v.text ∙ ap (λ u. version ++ u) line in
    let text = m.text ∙ ap (λ u. m.method ++ 32 ∷ u) (t.text ∙ ap (λ u. t.target ++ 32 ∷ u) after) in
    record {
      head = head;
      reads = (
        record {
          method = (m.enough, m.valid);
          target = (t.enough, λ i d lt. visible_uri (get_or t.target i d) (t.valid i d lt));
          target_text = IsUtf8-from_ascii t.target (visible_ascii t.target t.valid);
          minor = v.valid;
          fields = s.valid;
        },
        text ∙ sym (print_request-append head []),
      );
      size = omega (arith, s.size);
    }

-- ---- places

-- a head in two pieces, the first of which ends in a byte
joined : (lines : ℕ) (bytes rest : List ℕ) (byte : ℕ) → IsHeadOf lines (bytes ++ byte ∷ rest)
    → IsHeadOf lines ((bytes ++ byte ∷ []) ++ rest)
joined lines bytes rest byte whole =
    subst (IsHeadOf lines) (sym (append_assoc bytes (byte ∷ []) rest)) whole

-- if a byte leads to a place, the bytes up to it end there
pub next_at : (place next : Place) (lines byte : ℕ) (bytes : List ℕ) → Leads place byte next
    → EndsAt place lines bytes → EndsAt next lines (bytes ++ byte ∷ [])
next_at place next lines byte bytes leads at =
    λ count rest follows. joined (lines + count) bytes rest byte (at count (byte ∷ rest) (leads count rest follows))

-- if a byte begins a header line, the bytes up to it end in its name
pub begin_at : (place : Place) (lines byte : ℕ) (bytes : List ℕ) → BeginsLine place byte
    → EndsAt place lines bytes → EndsAt Name (lines + 1) (bytes ++ byte ∷ [])
begin_at place lines byte bytes begins at = λ count rest follows.
    let P : ℕ → Type 0 = λ n. IsHeadOf n (bytes ++ byte ∷ rest) in
    let more : lines + (1 + count) ≡ (lines + 1) + count = omega arith in
    let whole = at (1 + count) (byte ∷ rest) (begins count rest follows) in
    joined ((lines + 1) + count) bytes rest byte (subst P more whole)

-- if at least one byte may follow, the bytes wait: they hold no head, but may become one
waits_by : (place : Place) (lines count : ℕ) (bytes rest : List ℕ) → EndsAt place lines bytes
    → MayFollow place count rest → 0 < length rest → HasCome Waits bytes
waits_by place lines count bytes rest at follows some =
    let whole = at count rest follows in (
      λ h r begins.
          let longer = ReadsRequest-append bytes h r rest begins.0 in
          let none = (request_unique (bytes ++ rest) h whole.head (r ++ rest) [] longer whole.reads).1 in
          absurd (omega (arith, some, length-append r rest, ap length none)),
      inl (rest, whole.head, whole.reads),
    )

-- ---- each place except the last can be continued

one_section : IsHeaderSection 0 (10 ∷ [])
one_section = last_line 0 [] (refl, refl)

one_end : IsEnd 0 (10 ∷ 10 ∷ [])
one_end = end_line 0 (10 ∷ []) one_section

one_value : IsValue 0 (10 ∷ 10 ∷ [])
one_value = value_end 0 (10 ∷ 10 ∷ []) one_end

one_version : (came : ℕ) → IsVersion came 0 (drop came (codes "HTTP/1.") ++ 48 ∷ 10 ∷ 10 ∷ [])
one_version came = record { minor = 0; rest = 10 ∷ 10 ∷ []; valid = omega arith; next = one_end; text = refl }

one_target : IsTarget 1 0 (47 ∷ 32 ∷ (codes "HTTP/1." ++ 48 ∷ 10 ∷ 10 ∷ []))
one_target = target_more 1 47 (omega arith) refl 0 _ (target_end 0 _ (one_version 0))

one_method : IsMethod 1 0 (65 ∷ 32 ∷ 47 ∷ 32 ∷ (codes "HTTP/1." ++ 48 ∷ 10 ∷ 10 ∷ []))
unfolding is_token_byte
one_method = method_more 1 65 (omega arith) refl 0 _ (method_end 0 _ one_target)

-- the same at any place except the end and `Elsewhere`
pub waits_at : (place : Place) (lines : ℕ) (bytes : List ℕ) → ¬ (place ≡ Whole) → ¬ (place ≡ Elsewhere)
    → EndsAt place lines bytes → HasCome Waits bytes
waits_at Start lines bytes a b at = waits_by Start lines 0 bytes _ at one_method (omega arith)
waits_at Method lines bytes a b at = waits_by Method lines 0 bytes _ at (method_end 0 _ one_target) (omega arith)
waits_at BeforeTarget lines bytes a b at = waits_by BeforeTarget lines 0 bytes _ at one_target (omega arith)
waits_at Target lines bytes a b at = waits_by Target lines 0 bytes _ at (target_end 0 _ (one_version 0)) (omega arith)
waits_at (Version came) lines bytes a b at =
    let some = length-append (drop came (codes "HTTP/1.")) (48 ∷ 10 ∷ 10 ∷ []) in
    waits_by (Version came) lines 0 bytes _ at (one_version came) (omega (arith, some))
waits_at VersionEnd lines bytes a b at = waits_by VersionEnd lines 0 bytes _ at one_end (omega arith)
waits_at Feed lines bytes a b at =
    waits_by Feed lines 0 bytes _ at (feed_line 0 (10 ∷ []) one_section) (omega arith)
waits_at Line lines bytes a b at = waits_by Line lines 0 bytes _ at one_section (omega arith)
waits_at LastFeed lines bytes a b at = waits_by LastFeed lines 0 bytes (10 ∷ []) at (refl, refl) (omega arith)
waits_at Name lines bytes a b at = waits_by Name lines 0 bytes _ at (name_end 0 _ one_value) (omega arith)
waits_at Value lines bytes a b at = waits_by Value lines 0 bytes _ at one_value (omega arith)
waits_at Whole lines bytes a b at = absurd (a refl)
waits_at Elsewhere lines bytes a b at = absurd (b refl)

-- at the end the bytes are a head
pub whole_at : (lines : ℕ) (bytes : List ℕ) → EndsAt Whole lines bytes → lines ≤ 32 → HoldsHead bytes
whole_at lines bytes at few =
    let whole = at 0 [] (refl, refl) in
    let P : List ℕ → Type 0 = λ t. ReadsRequest t whole.head [] in
    (whole.head, [], (subst P (append-nil bytes) whole.reads, omega (arith, whole.size)))

-- the empty list of bytes may become a head
pub nothing_waits : HasCome Waits []
nothing_waits = waits_at Start 0 [] (λ e. cc) (λ e. cc) starts
