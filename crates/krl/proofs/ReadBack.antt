-- A written list is read back.
use Rattle.krl.proofs.Words.{AllByRecursion, AreRuns, Bool, CaPart, KrlHead, List, [], and_parts, ap, arith, cond}
use Rattle.krl.proofs.Words.{false, fits, flat_map, header_text, inl, inr, is_idle, length, part_fits}
use Rattle.krl.proofs.Words.{published_sections}
use Rattle.krl.proofs.Words.{refl, section_text, subst, true, ca_section}
use Rattle.krl.proofs.Words.{ℕ, ◌++◌, ◌∙◌, ◌∷◌, ◌≡◌, ◌≤◌}
use Rattle.krl.specs.Published.{AreDistinctCas, IsMemberOf, published_header, published_text}
use Rattle.krl.specs.Contents.{AreReadBack, IsContentsPart, IsPublished}
use Rattle.krl.proofs.Publishing.{fits_part}

-- the parts of the CAs that have a section
busy : List (List ℕ) → List CaPart → List CaPart
busy ids [] = []
busy ids (p ∷ cas) = cond (is_idle ids p) (busy ids cas) (p ∷ busy ids cas)

same_sections : (ids : List (List ℕ)) (cas : List CaPart)
    → published_sections cas ids ≡ published_sections (busy ids cas) ids
unfolding busy
same_sections ids [] = refl
same_sections ids (p ∷ cas) = by_idle (is_idle ids p) refl (same_sections ids cas)
  where
    by_idle : (b : Bool) → is_idle ids p ≡ b → published_sections cas ids ≡ published_sections (busy ids cas) ids
        → cond b [] (ca_section ids p ∷ []) ++ published_sections cas ids
        ≡ published_sections (cond b (busy ids cas) (p ∷ busy ids cas)) ids
    by_idle true idle more = more
    by_idle false idle more = rw idle (ap (λ rest. ca_section ids p ∷ rest) more)

no_more : (ids : List (List ℕ)) (cas : List CaPart) → length (busy ids cas) ≤ length cas
unfolding busy
no_more ids [] = omega arith
no_more ids (p ∷ cas) = by_idle (is_idle ids p) (no_more ids cas)
  where
    by_idle : (b : Bool) → length (busy ids cas) ≤ length cas
        → length (cond b (busy ids cas) (p ∷ busy ids cas)) ≤ length (p ∷ cas)
    by_idle true more = omega arith
    by_idle false more = omega arith

one_of : (ids : List (List ℕ)) (cas : List CaPart) (q : CaPart) → IsMemberOf q (busy ids cas) → IsMemberOf q cas
unfolding busy
one_of ids [] q c = c
one_of ids (p ∷ cas) q c = by_idle (is_idle ids p) (one_of ids cas q) c
  where
    by_idle : (b : Bool) → (IsMemberOf q (busy ids cas) → IsMemberOf q cas)
        → IsMemberOf q (cond b (busy ids cas) (p ∷ busy ids cas)) → IsMemberOf q (p ∷ cas)
    by_idle true more c = inr (more c)
    by_idle false more (inl is) = inl is
    by_idle false more (inr c) = inr (more c)

distinct_still : (ids : List (List ℕ)) (cas : List CaPart) → AreDistinctCas cas → AreDistinctCas (busy ids cas)
unfolding busy
distinct_still ids [] h = tt
distinct_still ids (p ∷ cas) h = by_idle (is_idle ids p) (distinct_still ids cas h.1)
  where
    by_idle : (b : Bool) → AreDistinctCas (busy ids cas) → AreDistinctCas (cond b (busy ids cas) (p ∷ busy ids cas))
    by_idle true more = more
    by_idle false more = ((λ q c. h.0 q (one_of ids cas q c)), more)

busy_parts : (ids : List (List ℕ)) (cas : List CaPart)
    → AllByRecursion (λ p. (length p.ca ≡ 32) × AreRuns p.runs) cas → fits cas ids ≡ true
    → AllByRecursion (IsContentsPart ids) (busy ids cas)
unfolding busy
busy_parts ids [] h e = tt
busy_parts ids (p ∷ cas) h e =
    let both = and_parts (part_fits ids p) (fits cas ids) e in
    by_idle (is_idle ids p) refl both.0 (busy_parts ids cas h.1 both.1)
  where
    by_idle : (b : Bool) → is_idle ids p ≡ b → part_fits ids p ≡ true
        → AllByRecursion (IsContentsPart ids) (busy ids cas)
        → AllByRecursion (IsContentsPart ids) (cond b (busy ids cas) (p ∷ busy ids cas))
    by_idle true idle fit more = more
    by_idle false idle fit more =
        (record { key = h.0.0; runs = h.0.1; busy = idle; short = fits_part ids p idle fit }, more)

-- a written list is read back
pub read_back : (head : KrlHead) (cas : List CaPart) (ids : List (List ℕ)) → AreReadBack head cas ids
    → IsPublished (published_text head cas ids)
read_back head cas ids h = by_cas (busy ids cas) refl
  where
    same : published_text head cas ids ≡ published_text head (busy ids cas) ids
    same = ap (λ ss. header_text (published_header head) ++ flat_map section_text ss) (same_sections ids cas)

    by_cas : (ps : List CaPart) → busy ids cas ≡ ps → IsPublished (published_text head cas ids)
    by_cas [] none = (
      record { head = head; cas = []; ids = [] },
      record {
        lawful = record {
          version = h.version;
          date = h.date;
          few = omega arith;
          parts = tt;
          distinct = tt;
          ascending = tt;
          unwritten = λ e. refl;
        };
        text = same ∙ ap (λ ps. published_text head ps ids) none;
      },
    )
    by_cas (p ∷ ps) some = (
      record { head = head; cas = p ∷ ps; ids = ids },
      record {
        lawful = record {
          version = h.version;
          date = h.date;
          few = let size = ap length some in let less = no_more ids cas in let few = h.few in omega arith;
          parts = subst (AllByRecursion (IsContentsPart ids)) some (busy_parts ids cas h.parts h.fit);
          distinct = subst AreDistinctCas some (distinct_still ids cas h.distinct);
          ascending = h.ascending;
          unwritten = λ e. absurd cc;
        };
        text = same ∙ ap (λ ps. published_text head ps ids) some;
      },
    )
