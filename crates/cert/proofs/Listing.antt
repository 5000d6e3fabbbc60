-- Pairs listed one by one.
use Rattle.cert.proofs.Words.{BadValue, Bool, Equal, Err, Greater, Host, Kind, Less, List, None, Option, OptionFault}
use Rattle.cert.proofs.Words.{OptionField, Ordering, Pair, Some, Twice, Unknown, User, [], and_from, and_parts, ap}
use Rattle.cert.proofs.Words.{are_for_kind, arith, bytes_eq, comes_before, cond, drop, false, first_fault, insert}
use Rattle.cert.proofs.Words.{is_ascending, is_eq, is_eq-slice_cmp, is_known, is_lt, is_option, is_option_value}
use Rattle.cert.proofs.Words.{is_options, length, list_all, list_any, listing, nat_cmp, nat_list_cmp_total}
use Rattle.cert.proofs.Words.{nat_list_eq_equiv, not, options_fault, ordering_reverse, pair_fault, position_or_len}
use Rattle.cert.proofs.Words.{refl, slice_cmp, subst, suc, sym, take, true, ℕ, ◌++◌, ◌+◌, ◌<◌, ◌||◌, ◌∙◌, ◌∷◌, ◌≡◌}
use Rattle.std.proofs.Common.{get_or, fold, IfSome, add-one, drop-cons}
use Rattle.std.specs.Option.{option_or}
use Rattle.std.specs.Ordering.{match_ordering}
use Rattle.std.proofs.lemmas.Bool.{or_parts}
use Rattle.std.proofs.lemmas.List.Folds.{list_any-append}
use Rattle.std.proofs.lemmas.List.Sums.{fold_push}
use Rattle.lines.proofs.Cases.{or_order}
use Rattle.cert.specs.declared.option_fault.OptionFault.TheVariants.{NotForHosts, NoMemory}
use Rattle.std.proofs.lemmas.List.{take_more}
use Rattle.cert.specs.Options.{with_pair}
use Rattle.cert.specs.OptionFaults.{fault_answered}

-- none of the pairs has the name
abbrev pub Lacks : List Pair → List ℕ → Type 0
Lacks ps name = list_any (λ q. bytes_eq q.name name) ps ≡ false

-- the first of the pairs has another name
differs : (p q : Pair) (qs : List Pair) → Lacks (q ∷ qs) p.name → is_eq (slice_cmp nat_cmp p.name q.name) ≡ false
differs p q qs h =
    is_eq-slice_cmp p.name q.name ∙ nat_list_eq_equiv.symm p.name q.name ∙ (or_parts (bytes_eq q.name p.name) _ h).0

others : (p q : Pair) (qs : List Pair) → Lacks (q ∷ qs) p.name → Lacks qs p.name
others p q qs h = (or_parts (bytes_eq q.name p.name) _ h).1

insert_by : (o : Ordering) (p q : Pair) (qs : List Pair) (k : ℕ) → is_eq o ≡ false → with_pair qs p ≡ insert qs k p
    → match_ordering o (p ∷ q ∷ qs) (p ∷ qs) (q ∷ with_pair qs p) ≡ insert (q ∷ qs) (cond (not (is_lt o)) (1 + k) 0) p
insert_by Less p q qs k h e = refl
insert_by Equal p q qs k h e = absurd cc
insert_by Greater p q qs k h e = let one : 1 + k ≡ suc k = omega arith in rw one (ap (λ ps. q ∷ ps) e)

-- a pair with a new name is inserted before the first that comes after it
pub with_pair-insert : (p : Pair) (qs : List Pair) → Lacks qs p.name
    → with_pair qs p ≡ insert qs (position_or_len (λ q. comes_before p.name q.name) qs) p
with_pair-insert p [] h = refl
with_pair-insert p (q ∷ qs) h =
    insert_by (slice_cmp nat_cmp p.name q.name) p q qs (position_or_len (λ q. comes_before p.name q.name) qs)
    (differs p q qs h) (with_pair-insert p qs (others p q qs h))

any_by : (o : Ordering) (t : Pair → Bool) (p q : Pair) (qs : List Pair) → is_eq o ≡ false
    → list_any t (with_pair qs p) ≡ (t p || list_any t qs)
    → list_any t (match_ordering o (p ∷ q ∷ qs) (p ∷ qs) (q ∷ with_pair qs p)) ≡ (t p || (t q || list_any t qs))
any_by Less t p q qs h e = refl
any_by Equal t p q qs h e = absurd cc
any_by Greater t p q qs h e = ap (λ b. t q || b) e ∙ or_order (t q) (t p) (list_any t qs)

-- the pairs are the new one and the earlier ones
pub list_any-with_pair : (t : Pair → Bool) (p : Pair) (qs : List Pair) → Lacks qs p.name
    → list_any t (with_pair qs p) ≡ (t p || list_any t qs)
list_any-with_pair t p [] h = refl
list_any-with_pair t p (q ∷ qs) h =
    any_by (slice_cmp nat_cmp p.name q.name) t p q qs (differs p q qs h) (list_any-with_pair t p qs (others p q qs h))

none_both : (a b : Option OptionFault) → option_or a b ≡ None → (a ≡ None) × (b ≡ None)
none_both None b e = (refl, e)
none_both (Some x) b e = absurd cc

no_fault : (known twice lawful : Bool) → cond (not known) (Some Unknown) (cond twice (Some Twice) (cond
    (not lawful) (Some BadValue) None)) ≡ None
    → (known ≡ true) × (twice ≡ false) × (lawful ≡ true)
no_fault false twice lawful e = absurd cc
no_fault true true lawful e = absurd cc
no_fault true false false e = absurd cc
no_fault true false true e = (refl, refl, refl)

-- a pair without a fault, after these
pub record IsSound (field : OptionField) (earlier : List Pair) (p : Pair) : Type 0 where
  pub option : is_option field p ≡ true
  pub new : Lacks earlier p.name

sound : (field : OptionField) (earlier : List Pair) (p : Pair) → pair_fault field earlier p ≡ None
    → IsSound field earlier p
sound field earlier p e =
    let tests = no_fault (is_known field p.name) (list_any (λ q. bytes_eq q.name p.name) earlier)
    (is_option_value p.name p.value) e in
    record { option = and_from (is_known field p.name) _ tests.0 tests.2; new = tests.1 }

-- the listing of the pairs so far, and the remaining pairs
pub record IsListedSoFar (field : OptionField) (listed earlier rest : List Pair) : Type 0 where
  pub is_listing : listed ≡ listing earlier
  pub alike : (t : Pair → Bool) → list_any t listed ≡ list_any t earlier
  pub left : first_fault field earlier rest ≡ None

turned : (a b : Bool) → (a || b) ≡ (b || (a || false))
turned true true = refl
turned true false = refl
turned false true = refl
turned false false = refl

-- one more pair is listed
pub goes_on : (field : OptionField) (listed earlier : List Pair) (p : Pair) (rest : List Pair)
    → IsListedSoFar field listed earlier (p ∷ rest)
    → IsListedSoFar field (insert listed (position_or_len (λ q. comes_before p.name q.name) listed) p)
    (earlier ++ p ∷ []) rest
goes_on field listed earlier p rest so_far =
    let faults = none_both (pair_fault field earlier p) (first_fault field (earlier ++ p ∷ []) rest) so_far.left in
    let here = sound field earlier p faults.0 in
    let lacks : Lacks listed p.name = so_far.alike (λ q. bytes_eq q.name p.name) ∙ here.new in
    let inserted = with_pair-insert p listed lacks in
    record {
      is_listing = sym inserted ∙ ap (λ ps. with_pair ps p) so_far.is_listing ∙ sym (fold_push with_pair [] earlier p);
      alike = λ t. ap (list_any t) (sym inserted) ∙ list_any-with_pair t p listed lacks
          ∙ ap (λ b. t p || b) (so_far.alike t)
          ∙ turned (t p) (list_any t earlier) ∙ sym (list_any-append t earlier (p ∷ []));
      left = faults.1;
    }

-- ---- the listing is strictly ascending, and its pairs are valid

later : (a b c : List ℕ) → comes_before a b ≡ true → comes_before b c ≡ true → comes_before a c ≡ true
later a b c p q = ap is_lt (nat_list_cmp_total.trans a b c (is_less _ p) (is_less _ q))
  where
    is_less : (o : Ordering) → is_lt o ≡ true → o ≡ Less
    is_less Less h = refl
    is_less Equal h = absurd cc
    is_less Greater h = absurd cc

-- a name that comes before another also comes before those after it
pub all_later : (a b : List ℕ) (ps : List Pair) → comes_before a b ≡ true
    → list_all (λ q. comes_before b q.name) ps ≡ true → list_all (λ q. comes_before a q.name) ps ≡ true
all_later a b [] p h = refl
all_later a b (q ∷ qs) p h =
    let parts = and_parts (comes_before b q.name) _ h in
    and_from (comes_before a q.name) _ (later a b q.name p parts.0) (all_later a b qs p parts.1)

pub all_alike : (a b : List ℕ) (ps : List Pair) → slice_cmp nat_cmp a b ≡ Equal
    → list_all (λ q. comes_before b q.name) ps ≡ true → list_all (λ q. comes_before a q.name) ps ≡ true
all_alike a b [] p h = refl
all_alike a b (q ∷ qs) p h =
    let parts = and_parts (comes_before b q.name) _ h in
    and_from (comes_before a q.name) _ (ap is_lt (nat_list_cmp_total.congr a b q.name p)
    ∙ parts.0) (all_alike a b qs p parts.1)

-- if the pairs and one more pass a test, then so do the pairs with this one
pub list_all-with_pair : (t : Pair → Bool) (p : Pair) (qs : List Pair) → t p ≡ true → list_all t qs ≡ true
    → list_all t (with_pair qs p) ≡ true
list_all-with_pair t p [] h all = and_from (t p) true h refl
list_all-with_pair t p (q ∷ qs) h all =
    let parts = and_parts (t q) _ all in
    by (slice_cmp nat_cmp p.name q.name) parts.0 parts.1 (list_all-with_pair t p qs h parts.1)
  where
    by : (o : Ordering) → t q ≡ true → list_all t qs ≡ true → list_all t (with_pair qs p) ≡ true
        → list_all t (match_ordering o (p ∷ q ∷ qs) (p ∷ qs) (q ∷ with_pair qs p)) ≡ true
    by Less at_q rest more = and_from (t p) _ h (and_from (t q) _ at_q rest)
    by Equal at_q rest more = and_from (t p) _ h rest
    by Greater at_q rest more = and_from (t q) _ at_q more

-- one more pair in its place leaves the names ascending
pub is_ascending-with_pair : (p : Pair) (qs : List Pair) → is_ascending qs ≡ true → is_ascending (with_pair qs p) ≡ true
is_ascending-with_pair p [] h = refl
is_ascending-with_pair p (q ∷ qs) h =
    let parts = and_parts (list_all (λ r. comes_before q.name r.name) qs) _ h in
    by (slice_cmp nat_cmp p.name q.name) refl parts.0 parts.1 (is_ascending-with_pair p qs parts.1)
  where
    by : (o : Ordering) → slice_cmp nat_cmp p.name q.name ≡ o
        → list_all (λ r. comes_before q.name r.name) qs ≡ true → is_ascending qs ≡ true
        → is_ascending (with_pair qs p) ≡ true → is_ascending (match_ordering o (p ∷ q ∷ qs) (p ∷ qs)
        (q ∷ with_pair qs p)) ≡ true
    by Less e after rising more =
        let first : comes_before p.name q.name ≡ true = ap is_lt e in
        and_from (list_all (λ r. comes_before p.name r.name) (q ∷ qs)) _ (and_from
        (comes_before p.name q.name) _ first (all_later p.name q.name qs first after)) h
    by Equal e after rising more = and_from (list_all (λ r. comes_before p.name r.name) qs) _
        (all_alike p.name q.name qs e after) rising
    by Greater e after rising more =
        let before : comes_before q.name p.name ≡ true = ap is_lt (nat_list_cmp_total.antisymm q.name p.name
        ∙ ap ordering_reverse e) in
        and_from (list_all (λ r. comes_before q.name r.name) (with_pair qs p)) _
        (list_all-with_pair (λ r. comes_before q.name r.name) p qs before after) more

-- a listing stays ascending as pairs are inserted
fold_ascending : (ps qs : List Pair) → is_ascending qs ≡ true → is_ascending (fold with_pair qs ps) ≡ true
fold_ascending [] qs h = h
fold_ascending (p ∷ ps) qs h = fold_ascending ps (with_pair qs p) (is_ascending-with_pair p qs h)

-- a listing is strictly ascending
pub is_ascending-listing : (ps : List Pair) → is_ascending (listing ps) ≡ true
is_ascending-listing ps = fold_ascending ps [] refl

fold_all : (t : Pair → Bool) (ps qs : List Pair) → list_all t ps ≡ true → list_all t qs ≡ true
    → list_all t (fold with_pair qs ps) ≡ true
fold_all t [] qs h g = g
fold_all t (p ∷ ps) qs h g = let parts = and_parts (t p) _ h in fold_all t ps (with_pair qs p) parts.1
    (list_all-with_pair t p qs parts.0 g)

-- if the pairs pass a test, then so do the pairs of the listing
pub list_all-listing : (t : Pair → Bool) (ps : List Pair) → list_all t ps ≡ true → list_all t (listing ps) ≡ true
list_all-listing t ps h = fold_all t ps [] h refl

-- pairs without a fault are options
pub all_options : (field : OptionField) (earlier ps : List Pair) → first_fault field earlier ps ≡ None
    → list_all (is_option field) ps ≡ true
all_options field earlier [] e = refl
all_options field earlier (p ∷ ps) e =
    let faults = none_both (pair_fault field earlier p) (first_fault field (earlier ++ p ∷ []) ps) e in
    and_from (is_option field p) _ (sound field earlier p faults.0).option (all_options field
    (earlier ++ p ∷ []) ps faults.1)

-- ---- steps of building

-- a step of the loop over the pairs
pub lists_one_more : (field : OptionField) (listed ps : List Pair) (i : ℕ) (p : Pair) → i < length ps
    → p ≡ get_or ps i p → IsListedSoFar field listed (take i ps) (drop i ps)
    → IsListedSoFar field (insert listed (position_or_len (λ q. comes_before p.name q.name) listed) p) (take
    (i + 1) ps) (drop (i + 1) ps)
lists_one_more field listed ps i p lt is so_far =
    let left : drop i ps ≡ p ∷ drop (i + 1) ps = rw (add-one, drop-cons ps i p lt) (ap (λ q. q ∷ drop (suc i) ps)
    (sym is)) in
    let more : take (i + 1) ps ≡ take i ps ++ p ∷ [] = take_more ps i p lt ∙ ap (λ q. take i ps ++ q ∷ []) (sym is) in
    subst (λ (earlier : List Pair). IsListedSoFar field (insert listed (position_or_len
    (λ q. comes_before p.name q.name) listed) p) earlier (drop (i + 1) ps)) (sym more)
    (goes_on field listed (take i ps) p (drop (i + 1) ps) (subst (λ (rest : List Pair). IsListedSoFar field listed
    (take i ps) rest) left so_far))

for_kind : (kind : Kind) (ps : List Pair) → are_for_kind kind ps ≡ true → are_for_kind kind (listing ps) ≡ true
for_kind User ps h = refl
for_kind Host [] h = refl
for_kind Host (p ∷ ps) h = absurd cc

-- if there is no fault, the kind may have options and no pair has a fault
pub no_faults : (field : OptionField) (kind : Kind) (ps : List Pair) → options_fault field kind ps ≡ None
    → (are_for_kind kind ps ≡ true) × (first_fault field [] ps ≡ None)
no_faults field kind ps e = by (are_for_kind kind ps) e
  where
    by : (b : Bool) → cond b (first_fault field [] ps) (Some NotForHosts) ≡ None
        → (b ≡ true) × (first_fault field [] ps ≡ None)
    by true e = (refl, e)
    by false e = absurd cc

-- the listing of pairs without a fault is valid in a field of a certificate
pub is_options-listing : (field : OptionField) (kind : Kind) (ps : List Pair)
    → options_fault field kind ps ≡ None → is_options field kind (listing ps) ≡ true
is_options-listing field kind ps e =
    let none = no_faults field kind ps e in
    and_from (are_for_kind kind (listing ps)) _ (for_kind kind ps none.0)
    (and_from (is_ascending (listing ps)) _ (is_ascending-listing ps) (list_all-listing (is_option field) ps
    (all_options field [] ps none.1)))

-- a fault of pairs, which is never a refused allocation
abbrev IsOfPairs : Option OptionFault → Type 0
IsOfPairs o = IfSome o (λ e. ¬ (e ≡ NoMemory))

first_of_two : (a b : Option OptionFault) → IsOfPairs a → IsOfPairs b → IsOfPairs (option_or a b)
first_of_two None b p q = q
first_of_two (Some e) b p q = p

pair_fault_is : (known twice lawful : Bool) → IsOfPairs (cond (not known) (Some Unknown) (cond twice (Some Twice)
    (cond (not lawful) (Some BadValue) None)))
pair_fault_is false twice lawful = λ e. cc
pair_fault_is true true lawful = λ e. cc
pair_fault_is true false false = λ e. cc
pair_fault_is true false true = tt

first_fault_is : (field : OptionField) (earlier ps : List Pair) → IsOfPairs (first_fault field earlier ps)
first_fault_is field earlier [] = tt
first_fault_is field earlier (p ∷ ps) =
    first_of_two (pair_fault field earlier p) _ (pair_fault_is (is_known field p.name) (list_any
    (λ q. bytes_eq q.name p.name) earlier) (is_option_value p.name p.value))
    (first_fault_is field (earlier ++ p ∷ []) ps)

options_fault_is : (field : OptionField) (kind : Kind) (ps : List Pair) → IsOfPairs (options_fault field kind ps)
options_fault_is field kind ps = by (are_for_kind kind ps)
  where
    by : (b : Bool) → IsOfPairs (cond b (first_fault field [] ps) (Some NotForHosts))
    by true = first_fault_is field [] ps
    by false = λ e. cc

answered : (X : Type 0) (e : OptionFault) → ¬ (e ≡ NoMemory) → fault_answered {X = X} (Err e) ≡ Some e
answered X NotForHosts h = refl
answered X Unknown h = refl
answered X Twice h = refl
answered X BadValue h = refl
answered X NoMemory h = absurd (h refl)

-- the fault of the pairs was returned
pub fault_answered-Err : (X : Type 0) (field : OptionField) (kind : Kind) (ps : List Pair) (e : OptionFault)
    → options_fault field kind ps ≡ Some e
    → fault_answered {X = X} (Err e) ≡ options_fault field kind ps
fault_answered-Err X field kind ps e is =
    let of_pairs : IsOfPairs (Some e) = subst (λ (o : Option OptionFault). IsOfPairs o) is
    (options_fault_is field kind ps) in
    answered X e of_pairs ∙ sym is
