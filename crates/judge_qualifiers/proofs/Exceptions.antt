-- Whether a region is unjudged, after one qualifier more, and by its location.
use Rattle.std.specs.Prelude.{Option, None, Some}
use Rattle.walk_steps.specs.declared.Range.{Range}
use Rattle.std.specs.Prelude as rust
use Prim.Native.Nat.{ℕ}
use Prim.Native.String.{String}
use native.Mathlib.Omega.{arith}
use mathlib.Core.Path.{◌≡◌, refl, sym, ap, ◌∙◌, subst}
use mathlib.Core.Bool.{Bool, true, false, true≢false, not}
use mathlib.Core.Logic.{◌⊎◌, inl, inr}
use mathlib.Core.List.{List}
use Rattle.paper.specs.Bytes.{bytes}
use Rattle.paper.specs.Lists.{◌∈◌}
use Rattle.paper.specs.Tree.{Qualifier, Feature, qualifiers_of}
use Rattle.paper.specs.Locations.{Location, Locates, leaves_unjudged}
use Rattle.paper.specs.Rules.{Unjudged, excepted, other_code, located}
use Rattle.paper.proofs.Lists.{every}
use Rattle.paper.proofs.Locate.{locates_once}
use Rattle.value_words.specs.Reading.{Tells}
use Rattle.value_words.proofs.Tests.{tells_true, tells_false}
use Rattle.value_dictionary.specs.Texts.{PlaceOf}
use Rattle.value_vocabulary.specs.Tables.{name_texts}
use Rattle.value_vocabulary.proofs.Keyed.{number_is, number_not}
use Rattle.location_judge.specs.Judging.{JudgedText}
use Rattle.location_judge.specs.declared.judging.Facts.{Facts}
use Rattle.judge_qualifiers.specs.Qualifiers.{ValueIs, OfName, Shown, exceptions, Excepted, OtherCode, HasExcepted, Excepts, LeavesOut}
use Rattle.judge_qualifiers.proofs.Lists.{in_last, in_front, in_split}

-- ---- the names: 76 is the number of transl_except, 19 of exception, 52 of pseudo, 53 of pseudogene

module _ {number : ℕ} where
  -- it is this one
  excepted_is : (name : String) → name ∈ exceptions → ((v : List ℕ) → PlaceOf name_texts v number → v ≡ bytes name) → OfName number Excepted true
  excepted_is name i f = record { says = λ v p. (name, i, f v p) }

  pub excepted_first : number ≡ 76 → OfName number Excepted true
  excepted_first e = excepted_is "transl_except" (0, refl) (λ v p. number_is p 76 (omega arith) e)

  pub excepted_second : number ≡ 19 → OfName number Excepted true
  excepted_second e = excepted_is "exception" (1, refl) (λ v p. number_is p 19 (omega arith) e)

  pub excepted_third : number ≡ 52 → OfName number Excepted true
  excepted_third e = excepted_is "pseudo" (2, refl) (λ v p. number_is p 52 (omega arith) e)

  pub excepted_fourth : number ≡ 53 → OfName number Excepted true
  excepted_fourth e = excepted_is "pseudogene" (3, refl) (λ v p. number_is p 53 (omega arith) e)

  -- none of them
  pub excepted_none : ¬ (number ≡ 76) → ¬ (number ≡ 19) → ¬ (number ≡ 52) → ¬ (number ≡ 53) → OfName number Excepted false
  excepted_none a b c d =
      record {
        says =
            λ v p x.
            every (λ (name : String). ¬ (v ≡ bytes name)) exceptions
            (number_not p 76 (omega arith) a, (number_not p 19 (omega arith) b, (number_not p 52 (omega arith) c, (number_not p 53 (omega arith) d, tt)))) x.0 x.1 x.2;
      }

-- ---- one qualifier more

module _ {s : List ℕ} {number : ℕ} {value : rust.Option Range} {e : Bool} where
  pub excepts_before : e ≡ true → Excepts s e number value true
  excepts_before h = record { says = λ q z l t. let x = tells_true e h t in (x.0, in_front l q x.0 x.1, x.2) }

  -- this one
  excepts_this : ((q : Qualifier ℕ) → Shown s number value q → Excepted q.name.read ⊎ OtherCode q) → Excepts s e number value true
  excepts_this h = record { says = λ q z l t. (q, in_last l q, h q z) }

  pub excepts_name : {r : Bool} → r ≡ true → OfName number Excepted r → Excepts s e number value true
  excepts_name {r} h o = excepts_this (λ q z. inl (tells_true r h (o.says q.name.read z.name)))

  -- nor this one
  module _ {r : Bool} (h : e ≡ false) (k : r ≡ false) (o : OfName number Excepted r) where
    excepts_not : ((q : Qualifier ℕ) → Shown s number value q → ¬ OtherCode q) → Excepts s e number value false
    excepts_not g = record { says = λ q z l t x. cases q z l (tells_false e h t) x.0 (in_split l q x.1) x.2 }
      where
        cases : (q : Qualifier ℕ) → Shown s number value q → (l : List (Qualifier ℕ)) → ¬ HasExcepted l → (y : Qualifier ℕ) → (y ∈ l) ⊎ (y ≡ q) → Excepted y.name.read ⊎ OtherCode y → ⊥
        cases q z l n y (inl m) x = n (y, m, x)
        cases q z l n y (inr m) (inl x) = tells_false r k (o.says q.name.read z.name) (subst (λ (u : Qualifier ℕ). Excepted u.name.read) m x)
        cases q z l n y (inr m) (inr x) = g q z (subst OtherCode m x)

    -- 77 is the number of transl_table
    pub excepts_other : ¬ (number ≡ 77) → Excepts s e number value false
    excepts_other n = excepts_not (λ q z y. number_not z.name 77 (omega arith) n y.0)

    -- by its value
    pub excepts_code : (v : Bool) → number ≡ 77 → ValueIs s value (bytes "1") v → Excepts s e number value (not v)
    excepts_code true i y = excepts_not (λ q z d. d.1 (y.says refl q.value z.valued))
    excepts_code false i y = excepts_this (λ q z. inr (number_is z.name 77 (omega arith) i, y.says refl q.value z.valued))

-- ---- the region

-- it is left by its qualifiers
pub leaves_by_qualifier : (f : Feature ℕ) {e : Bool} → e ≡ true → Tells e (HasExcepted (qualifiers_of f)) → Unjudged f
leaves_by_qualifier f {e} h t = let x = tells_true e h t in by x.0 x.1 x.2
  where
    by : (q : Qualifier ℕ) → q ∈ qualifiers_of f → Excepted q.name.read ⊎ OtherCode q → Unjudged f
    by q m (inl x) = excepted q m x.0 x.1 x.2
    by q m (inr x) = other_code q m x.0 x.1

module _ (f : Feature ℕ) (n : ¬ HasExcepted (qualifiers_of f)) where
  -- it is left by its location alone
  by_location : Unjudged f → (t : Location) × Locates t f.location.read × (leaves_unjudged t ≡ true)
  by_location (excepted q m name k e) = absurd (n (q, m, inl (name, k, e)))
  by_location (other_code q m k v) = absurd (n (q, m, inr (k, v)))
  by_location (located t h e) = (t, h, e)

  pub leaves_by_location : (u : Bool) (t : Location) → Locates t f.location.read → u ≡ leaves_unjudged t → Tells u (Unjudged f)
  leaves_by_location true t d k = located t d (sym k)
  leaves_by_location false t d k =
      λ z.
      let y = by_location z in
      true≢false (sym y.2 ∙ ap leaves_unjudged (locates_once y.0 t y.1 d) ∙ sym k)

module _ {e : Bool} {verdict : Option Facts} where
  pub leaves_excepted : e ≡ true → LeavesOut e verdict true
  leaves_excepted h = record { says = λ n f t j. leaves_by_qualifier f h t }

  pub leaves_located : (x : Facts) → e ≡ false → verdict ≡ Some x → LeavesOut e verdict x.unjudged
  leaves_located x h v =
      record {
        says =
            λ n f t j.
            let y = subst (JudgedText n f.location.read) v j in
            leaves_by_location f (tells_false e h t) x.unjudged y.0 y.1 y.2.unjudged;
      }
