-- The answers of the inner crates, in numbers; of the code of a table, where that is code 1.
use Prim.Native.Nat.{ℕ}
use mathlib.Core.Path.{◌≡◌, refl, sym, ap, ◌∙◌, subst}
use mathlib.Core.Bool.{Bool, true, false}
use mathlib.Core.List.{List}
use Rattle.std.specs.Prelude.{Result, Ok, Err}
use Rattle.std.specs.Result.{result_unwrap_or}
use Rattle.std.specs.Int.{from_bool}
use Rattle.paper.specs.Locations.{mark}
use Rattle.paper.specs.Translation.{Code, code1}
use Rattle.protein_compare.specs.Comparing.{Compares}
use Rattle.protein_measure.specs.declared.Untranslated.{Untranslated}
use Rattle.protein_measure.specs.declared.Untranslated.TheVariants as untranslated
use Rattle.protein_write.specs.Writing.{WritesTranslation}
use Rattle.trial.specs.Numbers.{size_number, size_length, TranslationNumbers, RightNumbers}

-- a truth value as a number
pub flagged : (b : Bool) {n : ℕ} → n ≡ from_bool b → n ≡ mark b 1
flagged true e = e
flagged false e = e

-- the number of a refusal that was told apart
pub number_of : {r : Result ℕ Untranslated} {e : Untranslated} (x : Untranslated) → r ≡ Err e → e ≡ x → size_number (Err x) ≡ size_number r
number_of x z k = sym (ap size_number z ∙ ap (λ (e : Untranslated). size_number (Err e)) k)

module _ {gc : Code} {s loc : List ℕ} {L start : ℕ} (code : gc ≡ code1) where
  pub wrote : {out after : List ℕ} {r : Result ℕ Untranslated} {number length : ℕ} → WritesTranslation gc s loc L start out r after → number ≡ size_number r
      → length ≡ result_unwrap_or r 0 → TranslationNumbers s loc L start out number length after
  wrote {out} {after} {r} w n l =
      record {
        says = r;
        writes = subst (λ (g : Code). WritesTranslation g s loc L start out r after) code w;
        number_is = n;
        length_is = l ∙ or_none r;
      }
    where
      or_none : (r : Result ℕ Untranslated) → result_unwrap_or r 0 ≡ size_length r
      or_none (Ok n) = refl
      or_none (Err untranslated.Short) = refl
      or_none (Err untranslated.Stop) = refl

  pub compared : {value : List ℕ} (r : Bool) {number : ℕ} → Compares gc s loc L start value r → number ≡ from_bool r → RightNumbers s loc L start value number
  compared {value} r c e = record { says = r; compares = subst (λ (g : Code). Compares g s loc L start value r) code c; number_is = flagged r e }
