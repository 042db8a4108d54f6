-- Numbers that stand in bytes, one behind another.
use Prim.Native.Nat.{ℕ, ◌+◌, ◌*◌}
use native.Mathlib.Omega.{arith}
use mathlib.Core.Path.{◌≡◌, refl, sym, ap, ◌∙◌}
use mathlib.Core.List.{List, [], ◌∷◌, ◌++◌, append_assoc, append-nil}
use lib.ListN.{length, drop, length-append}
use lib.Seq.{drop-drop, drop_at}
use Rattle.paper.specs.Index.{in_bytes}
use Rattle.paper.proofs.Lists.{in_first, in_second}
use Rattle.paper.proofs.Index.{length_in_bytes, in_bytes_append}
use Rattle.walk_steps.specs.Stands.{Past}
use Rattle.walk_steps.specs.declared.Range.{Range}
use Rattle.index_find.specs.Numbers.{low_first, number_at}
use Rattle.index_find.specs.Finds.{NumbersAt, Fits, PartFound}

-- ---- numbers one behind another

module _ {x : List ℕ} where
  pub numbers_all : {l : List ℕ} → x ≡ in_bytes l → Fits l → NumbersAt x 0 l
  numbers_all {l} e f = record { behind = []; here = e ∙ sym (append-nil (in_bytes l)); fits = f }

  module _ {at : ℕ} where
    pub number_is : {n : ℕ} {l : List ℕ} → NumbersAt x at (n ∷ l) → number_at x at ≡ n
    number_is {n} h = ap low_first h.here ∙ omega (arith, h.fits n (0, refl))

    module _ (a b : List ℕ) (h : NumbersAt x at (a ++ b)) where
      here : drop at x ≡ in_bytes a ++ (in_bytes b ++ h.behind)
      here = h.here ∙ ap (λ (z : List ℕ). z ++ h.behind) (in_bytes_append a b) ∙ append_assoc (in_bytes a) (in_bytes b) h.behind

      pub numbers_first : NumbersAt x at a
      numbers_first = record { behind = in_bytes b ++ h.behind; here = here; fits = λ n m. h.fits n (in_first a b n m) }

      pub numbers_behind : {next : ℕ} → next ≡ at + 4 * length a → NumbersAt x next b
      numbers_behind e =
          record {
            behind = h.behind;
            here = ap (λ (k : ℕ). drop k x) e
                ∙ sym (drop-drop (4 * length a) at x)
                ∙ ap (drop (4 * length a)) here
                ∙ drop_at (in_bytes a) (in_bytes b ++ h.behind) (4 * length a) (length_in_bytes a);
            fits = λ n m. h.fits n (in_second a b n m);
          }

      -- a place so many bytes further, which is reached by a sum that may wrap elsewhere
      pub numbers_past : {m next : ℕ} → m ≡ 4 * length a → Past x at m next → NumbersAt x next b
      numbers_past e p =
          numbers_behind
          (p.is (omega (arith, e, ap length here, length-append (in_bytes a) (in_bytes b ++ h.behind), length_in_bytes a)) ∙ omega (arith, e))

-- a text's place, and its length behind that
pub part_found : {x : List ℕ} {at m next a b : ℕ} {r : Range} → a ≡ number_at x at → Past x at m next → m ≡ 4 → b ≡ number_at x next
    → r.from ≡ a → r.to ≡ a + b → PartFound x at r
part_found e p g d f t =
    record {
      says =
          λ y h.
          let place = e ∙ number_is h in
          let size = d ∙ number_is (numbers_past (y.place ∷ []) _ h g p) in
          record { first = f ∙ place; behind = t ∙ omega (arith, place, size) };
    }
