-- Texts that are appended.
use Rattle.cert.proofs.Words.{List, Result, ap, append_assoc, length, string_text, u32_text, ℕ, ◌++◌, ◌<◌, ◌^◌, ◌∙◌}
use Rattle.cert.proofs.Words.{◌≡◌}
use Rattle.std.proofs.Common.{OnOk}
use Rattle.std.proofs.lemmas.Result.{on_ok_weaker}

-- a text appended to the text so far
pub put_after : (text out old so_far : List ℕ) → out ≡ old ++ text → old ≡ so_far → out ≡ so_far ++ text
put_after text out old so_far e f = e ∙ ap (λ x. x ++ text) f

-- the same for a string that is equal to another one
pub string_after : (meant string out old so_far : List ℕ) → out ≡ old ++ string_text string → string ≡ meant
    → old ≡ so_far → out ≡ so_far ++ string_text meant
string_after meant string out old so_far e m f = e ∙ ap (λ x. x ++ string_text string) f
    ∙ ap (λ t. so_far ++ string_text t) m

-- a list that is equal to a short one is short
pub as_short : (xs ys : List ℕ) → xs ≡ ys → length ys < 2 ^ 32 → length xs < 2 ^ 32
as_short xs ys e h = rw e h

-- ---- the same for a last step, which may fail

module _ {E : Type 0} where
  pub put_last : (text : List ℕ) (r : Result (Unit {0}) E) (out old so_far : List ℕ) → OnOk r (out ≡ old ++ text)
      → old ≡ so_far → OnOk r (out ≡ so_far ++ text)
  put_last text r out old so_far e f = on_ok_weaker r (λ e. put_after text out old so_far e f) e

  pub string_last : (meant string : List ℕ) (r : Result (Unit {0}) E) (out old so_far : List ℕ)
      → OnOk r (out ≡ old ++ string_text string) → string ≡ meant → old ≡ so_far
      → OnOk r (out ≡ so_far ++ string_text meant)
  string_last meant string r out old so_far e m f =
      on_ok_weaker r (λ e. string_after meant string out old so_far e m f) e

  pub number_last : (meant n : ℕ) (r : Result (Unit {0}) E) (out old so_far : List ℕ) → OnOk r (out ≡ old ++ u32_text n)
      → n ≡ meant → old ≡ so_far → OnOk r (out ≡ so_far ++ u32_text meant)
  number_last meant n r out old so_far e m f =
      on_ok_weaker r (λ e. put_after (u32_text n) out old so_far e f ∙ ap (λ k. so_far ++ u32_text k) m) e

  -- two texts that form one field
  pub both_last : (first second : List ℕ) (r : Result (Unit {0}) E) (out between old so_far : List ℕ)
      → OnOk r (out ≡ between ++ second) → between ≡ old ++ first → old ≡ so_far
      → OnOk r (out ≡ so_far ++ (first ++ second))
  both_last first second r out between old so_far e b f =
      on_ok_weaker r (λ e. put_after second out between (so_far ++ first) e (put_after first between old so_far b f)
      ∙ append_assoc so_far first second) e
