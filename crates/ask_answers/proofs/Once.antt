-- One answer only: where what the paper says of an answer, in numbers and parts, is fixed, the answer itself is.
use Prim.Native.Nat.{ℕ, zero, suc}
use mathlib.Core.Path.{◌≡◌, refl, ap, sym, ◌∙◌}
use mathlib.Core.Bool.{Bool, true≢false}
use mathlib.Core.List.{List}
use Rattle.std.specs.Prelude.{Option, Some, None, Result, Ok, Err, is_some}
use Rattle.paper.specs.Answers.{Part}
use Rattle.paper.specs.Answers as paper
use Rattle.paper.specs.declared.Refused.{Refused}
use Rattle.location_judge.specs.Readings.{operator_code}
use Rattle.location_judge.specs.declared.operators.Operator.{Operator}
use Rattle.location_judge.specs.declared.operators.Operator.TheVariants.{Join, Order}
use Rattle.value_words.specs.declared.Molecule.{Molecule}
use Rattle.value_words.specs.declared.Molecule.TheVariants.{Dna, Rna, Aa, Other}
use Rattle.ask_answers.specs.Stretches.{SequenceAnswer, FeatureAnswer, QualifierAnswer, LentAnswer, part_is, value_is, kind_is}
use Rattle.ask_answers.specs.Given.{SequenceGivenBy, FeatureGivenBy, QualifierGivenBy, LentGivenBy}
use Rattle.ask_answers.specs.declared.Stretch.{Stretch}

-- a kind by its number
pub kind_once : (c d : Molecule) → kind_is c ≡ kind_is d → c ≡ d
kind_once c d e = sym (same c) ∙ ap back e ∙ same d
  where
    back : ℕ → Molecule
    back zero = Other
    back (suc zero) = Dna
    back (suc (suc zero)) = Rna
    back (suc (suc (suc n))) = Aa

    same : (c : Molecule) → back (kind_is c) ≡ c
    same Dna = refl
    same Rna = refl
    same Aa = refl
    same Other = refl

-- an operator, or none, by its number
pub operator_once : (a b : Option Operator) → operator_code a ≡ operator_code b → a ≡ b
operator_once a b e = sym (same a) ∙ ap back e ∙ same b
  where
    back : ℕ → Option Operator
    back zero = None
    back (suc zero) = Some Join
    back (suc (suc n)) = Some Order

    same : (a : Option Operator) → back (operator_code a) ≡ a
    same None = refl
    same (Some Join) = refl
    same (Some Order) = refl

pub refusal_once : {A : Type 0} {r q : Refused} → r.rule ≡ q.rule → r.place ≡ q.place → ◌≡◌ {A = Result A Refused} (Err r) (Err q)
refusal_once n p = λ i. Err (record { rule = n i; place = p i })

-- a stretch by the paper's part
stretch_once : (x y : Stretch) → part_is x ≡ part_is y → x ≡ y
stretch_once x y e = λ i. record { start = (e i).start; size = (e i).size }

value_once : (x y : Option Stretch) → is_some x ≡ is_some y → value_is x ≡ value_is y → x ≡ y
value_once None None e z = refl
value_once None (Some y) e z = absurd (true≢false (sym e))
value_once (Some x) None e z = absurd (true≢false e)
value_once (Some x) (Some y) e z = ap Some (stretch_once x y z)

module _ (w : List ℕ) where
  pub sequence_given_once : (Says : (number place kind : ℕ) (residues : Part) → Type 0)
      → ((n p d m q e : ℕ) (x y : Part) → Says n p d x → Says m q e y → (n ≡ m) × (p ≡ q) × (d ≡ e) × (x ≡ y))
      → (x y : SequenceAnswer) → SequenceGivenBy Says w x → SequenceGivenBy Says w y → x ≡ y
  sequence_given_once Says once (Ok x) (Ok y) f g =
      let z = once _ _ _ _ _ _ _ _ f.0 g.0 in
      let d = kind_once x.kind y.kind z.2 in
      let r = stretch_once x.residues y.residues z.3 in
      λ i. Ok (record { kind = d i; residues = r i })
  sequence_given_once Says once (Ok x) (Err q) f g = absurd (g.0 (sym (once _ _ _ _ _ _ _ _ f.0 g.1).0))
  sequence_given_once Says once (Err r) (Ok y) f g = absurd (f.0 (once _ _ _ _ _ _ _ _ f.1 g.0).0)
  sequence_given_once Says once (Err r) (Err q) f g = let z = once _ _ _ _ _ _ _ _ f.1 g.1 in refusal_once z.0 z.1

  pub feature_given_once : (Says : (number place : ℕ) → paper.FeatureShown → (after : List ℕ) → Type 0)
      → ((n p m q : ℕ) (x y : paper.FeatureShown) (a b : List ℕ) → Says n p x a → Says m q y b → (n ≡ m) × (p ≡ q) × (x ≡ y) × (a ≡ b))
      → (x y : FeatureAnswer) (a b : List ℕ) → FeatureGivenBy Says w x a → FeatureGivenBy Says w y b → (x ≡ y) × (a ≡ b)
  feature_given_once Says once (Ok x) (Ok y) a b f g =
      let z = once _ _ _ _ _ _ _ _ f.0 g.0 in
      let n = stretch_once x.key y.key (ap (λ (u : paper.FeatureShown). u.key) z.2) in
      let l = stretch_once x.location y.location (ap (λ (u : paper.FeatureShown). u.location) z.2) in
      let o = operator_once x.operator y.operator (ap (λ (u : paper.FeatureShown). u.operator) z.2) in
      (λ i. Ok (record { key = n i; location = l i; operator = o i; count = (z.2 i).count }), z.3)
  feature_given_once Says once (Ok x) (Err q) a b f g = absurd (g.0 (sym (once _ _ _ _ _ _ _ _ f.0 g.1).0))
  feature_given_once Says once (Err r) (Ok y) a b f g = absurd (f.0 (once _ _ _ _ _ _ _ _ f.1 g.0).0)
  feature_given_once Says once (Err r) (Err q) a b f g = let z = once _ _ _ _ _ _ _ _ f.1 g.1 in (refusal_once z.0 z.1, z.3)

  pub qualifier_given_once : (Says : (number place : ℕ) (name : Part) (present : Bool) (value : Part) → Type 0)
      → ((n p m q : ℕ) (x v y u : Part) (a b : Bool) → Says n p x a v → Says m q y b u → (n ≡ m) × (p ≡ q) × (x ≡ y) × (a ≡ b) × (v ≡ u))
      → (x y : QualifierAnswer) → QualifierGivenBy Says w x → QualifierGivenBy Says w y → x ≡ y
  qualifier_given_once Says once (Ok x) (Ok y) f g =
      let z = once _ _ _ _ _ _ _ _ _ _ f.0 g.0 in
      let n = stretch_once x.name y.name z.2 in
      let v = value_once x.value y.value z.3 z.4 in
      λ i. Ok (record { name = n i; value = v i })
  qualifier_given_once Says once (Ok x) (Err q) f g = absurd (g.0 (sym (once _ _ _ _ _ _ _ _ _ _ f.0 g.1).0))
  qualifier_given_once Says once (Err r) (Ok y) f g = absurd (f.0 (once _ _ _ _ _ _ _ _ _ _ f.1 g.0).0)
  qualifier_given_once Says once (Err r) (Err q) f g = let z = once _ _ _ _ _ _ _ _ _ _ f.1 g.1 in refusal_once z.0 z.1

-- lent bytes: what is in them afterwards too
pub lent_given_once : (Says : (number place size : ℕ) → (after : List ℕ) → Type 0)
    → ((n p z m q r : ℕ) (a b : List ℕ) → Says n p z a → Says m q r b → (n ≡ m) × (p ≡ q) × (z ≡ r) × (a ≡ b))
    → (x y : LentAnswer) (a b : List ℕ) → LentGivenBy Says x a → LentGivenBy Says y b → (x ≡ y) × (a ≡ b)
lent_given_once Says once (Ok x) (Ok y) a b f g = let z = once _ _ _ _ _ _ _ _ f g in (ap Ok z.2, z.3)
lent_given_once Says once (Ok x) (Err q) a b f g = absurd (g.0 (sym (once _ _ _ _ _ _ _ _ f g.1).0))
lent_given_once Says once (Err r) (Ok y) a b f g = absurd (f.0 (once _ _ _ _ _ _ _ _ f.1 g).0)
lent_given_once Says once (Err r) (Err q) a b f g = let z = once _ _ _ _ _ _ _ _ f.1 g.1 in (refusal_once z.0 z.1, z.3)
