-- What a call shows, from an answer that says where its parts stand; and that two views of one answer are equal, the parts by their bytes
-- and where they stand.
use Prim.Native.Nat.{ℕ, ◌+◌}
use native.Mathlib.Omega.{arith}
use mathlib.Core.Path.{◌≡◌, refl, ap, sym, ◌∙◌}
use mathlib.Core.Bool.{Bool, true≢false}
use mathlib.Core.List.{List}
use Rattle.std.specs.Prelude.{Option, Some, None, Result, Ok, Err, is_some}
use Rattle.std.specs.Borrow.{Bor}
use Rattle.paper.specs.Answers.{shown, Part, FeatureShown}
use Rattle.paper.specs.declared.Refused.{Refused}
use Rattle.value_words.specs.declared.Molecule.{Molecule}
use Rattle.ask_answers.specs.Stretches.{SequenceAnswer, FeatureAnswer, QualifierAnswer, part_is, value_is, ValueLies}
use Rattle.ask_answers.specs.Given.{SequenceGivenBy, FeatureGivenBy, QualifierGivenBy}
use Rattle.ask_answers.specs.declared.Stretch.{Stretch}
use Rattle.ask_answers.proofs.Once.{kind_once, operator_once, refusal_once}
use Rattle.ask_show.specs.declared.Sequence.{Sequence}
use Rattle.ask_show.specs.declared.Feature.{Feature}
use Rattle.ask_show.specs.declared.Qualifier.{Qualifier}
use Rattle.ask_show.specs.Shown.{Points, SequenceIn, FeatureIn, QualifierIn, ValuePoints, ValuePointsAt, SequencePoints, ShowsSequenceBy, ShowsFeatureBy, ShowsQualifierBy}

part_once : {w : List ℕ} {at : ℕ × ℕ} {x y : Part} (a b : Bor (List ℕ)) → Points w at x a.now a.ref_ptr → Points w at y b.now b.ref_ptr → x ≡ y → a ≡ b
part_once {w} {at} a b f g e =
    let r = f.bytes ∙ ap (shown w) e ∙ sym g.bytes in
    let p = f.there ∙ ap (λ (x : Part). (at.0, x.start + at.1)) e ∙ sym g.there in
    λ i. record { now = r i; ref_ptr = p i }

module _ (w : List ℕ) (at : ℕ × ℕ) where
  -- ---- a sequence

  module _ (Says : (number place kind : ℕ) (residues : Part) → Type 0) where
    pub shows_sequence : (a : SequenceAnswer) (y : Sequence) → SequenceGivenBy Says w a → SequenceIn w at a y → ShowsSequenceBy Says w at y
    shows_sequence (Ok x) y h i = rw i.0 (part_is x.residues, h.0, i.1.says h.1)
    shows_sequence (Err r) y h i = rw i.0 (h.0, h.1, i.1.says (omega arith))

    module _ (once : (n p d m q e : ℕ) (x y : Part) → Says n p d x → Says m q e y → (n ≡ m) × (p ≡ q) × (d ≡ e) × (x ≡ y)) where
      shown_once : (c d : Result Molecule Refused) (a b : Bor (List ℕ)) → SequencePoints Says w at c a → SequencePoints Says w at d b → (c ≡ d) × (a ≡ b)
      shown_once (Ok c) (Ok d) a b f g =
          let z = once _ _ _ _ _ _ _ _ f.1 g.1 in
          (ap Ok (kind_once c d z.2), part_once a b f.2 g.2 z.3)
      shown_once (Ok c) (Err q) a b f g = absurd (g.0 (sym (once _ _ _ _ _ _ _ _ f.1 g.1).0))
      shown_once (Err r) (Ok d) a b f g = absurd (f.0 (once _ _ _ _ _ _ _ _ f.1 g.1).0)
      shown_once (Err r) (Err q) a b f g =
          let z = once _ _ _ _ _ _ _ _ f.1 g.1 in
          (refusal_once z.0 z.1, part_once a b f.2 g.2 refl)

      pub shows_sequence_once : (x y : Sequence) → ShowsSequenceBy Says w at x → ShowsSequenceBy Says w at y → x ≡ y
      shows_sequence_once x y f g =
          let z = shown_once x.kind y.kind x.residues y.residues f g in
          λ i. record { kind = z.0 i; residues = z.1 i }

  -- ---- a feature

  module _ (Says : (number place : ℕ) → FeatureShown → (after : List ℕ) → Type 0) where
    pub shows_feature : (a : FeatureAnswer) (r : Result Feature Refused) (after : List ℕ) → FeatureGivenBy Says w a after → FeatureIn w at a r → ShowsFeatureBy Says w at r after
    shows_feature (Ok x) (Ok y) after h i =
        record {
          key = part_is x.key;
          location = part_is x.location;
          says = rw (i.operator, i.count) h.0;
          named = i.named.says h.1.0;
          located = i.located.says h.1.1;
        }
    shows_feature (Ok x) (Err q) after h i = absurd i
    shows_feature (Err r) (Ok y) after h i = absurd i
    shows_feature (Err r) (Err q) after h i = rw i h

    pub shows_feature_once : ((n p m q : ℕ) (x y : FeatureShown) (a b : List ℕ) → Says n p x a → Says m q y b → (n ≡ m) × (p ≡ q) × (x ≡ y) × (a ≡ b))
        → (x y : Result Feature Refused) (a b : List ℕ) → ShowsFeatureBy Says w at x a → ShowsFeatureBy Says w at y b → (x ≡ y) × (a ≡ b)
    shows_feature_once once (Ok x) (Ok y) a b f g =
        let z = once _ _ _ _ _ _ _ _ f.says g.says in
        let n = part_once x.key y.key f.named g.named (ap (λ (u : FeatureShown). u.key) z.2) in
        let l = part_once x.location y.location f.located g.located (ap (λ (u : FeatureShown). u.location) z.2) in
        let o = operator_once x.operator y.operator (ap (λ (u : FeatureShown). u.operator) z.2) in
        (λ i. Ok (record { key = n i; location = l i; operator = o i; count = (z.2 i).count }), z.3)
    shows_feature_once once (Ok x) (Err q) a b f g = absurd (g.0 (sym (once _ _ _ _ _ _ _ _ f.says g.1).0))
    shows_feature_once once (Err r) (Ok y) a b f g = absurd (f.0 (once _ _ _ _ _ _ _ _ f.1 g.says).0)
    shows_feature_once once (Err r) (Err q) a b f g = let z = once _ _ _ _ _ _ _ _ f.1 g.1 in (refusal_once z.0 z.1, z.3)

  -- ---- a qualifier

  value_points : (x : Option Stretch) (y : Option (Bor (List ℕ))) → ValuePointsAt w at x y → ValueLies w x
      → (is_some y ≡ is_some x) × ValuePoints w at (value_is x) y
  value_points None None i l = (refl, refl)
  value_points None (Some r) i l = absurd i
  value_points (Some x) None i l = absurd i
  value_points (Some x) (Some r) i l = (refl, i.says l)

  value_once : (u v : Part) (x y : Option (Bor (List ℕ))) → ValuePoints w at u x → ValuePoints w at v y → is_some x ≡ is_some y → u ≡ v → x ≡ y
  value_once u v None None f g e z = refl
  value_once u v None (Some b) f g e z = absurd (true≢false (sym e))
  value_once u v (Some a) None f g e z = absurd (true≢false e)
  value_once u v (Some a) (Some b) f g e z = ap Some (part_once a b f g z)

  module _ (Says : (number place : ℕ) (name : Part) (present : Bool) (value : Part) → Type 0) where
    pub shows_qualifier : (a : QualifierAnswer) (r : Result Qualifier Refused) → QualifierGivenBy Says w a → QualifierIn w at a r → ShowsQualifierBy Says w at r
    shows_qualifier (Ok x) (Ok y) h i =
        let v = value_points x.value y.value i.1 h.1.1 in
        record { name = part_is x.name; value = value_is x.value; says = rw v.0 h.0; named = i.0.says h.1.0; valued = v.1 }
    shows_qualifier (Ok x) (Err q) h i = absurd i
    shows_qualifier (Err r) (Ok y) h i = absurd i
    shows_qualifier (Err r) (Err q) h i = rw i h

    pub shows_qualifier_once : ((n p m q : ℕ) (x v y u : Part) (a b : Bool) → Says n p x a v → Says m q y b u → (n ≡ m) × (p ≡ q) × (x ≡ y) × (a ≡ b) × (v ≡ u))
        → (x y : Result Qualifier Refused) → ShowsQualifierBy Says w at x → ShowsQualifierBy Says w at y → x ≡ y
    shows_qualifier_once once (Ok x) (Ok y) f g =
        let z = once _ _ _ _ _ _ _ _ _ _ f.says g.says in
        let n = part_once x.name y.name f.named g.named z.2 in
        let v = value_once f.value g.value x.value y.value f.valued g.valued z.3 z.4 in
        λ i. Ok (record { name = n i; value = v i })
    shows_qualifier_once once (Ok x) (Err q) f g = absurd (g.0 (sym (once _ _ _ _ _ _ _ _ _ _ f.says g.1).0))
    shows_qualifier_once once (Err r) (Ok y) f g = absurd (f.0 (once _ _ _ _ _ _ _ _ _ _ f.1 g.says).0)
    shows_qualifier_once once (Err r) (Err q) f g = let z = once _ _ _ _ _ _ _ _ _ _ f.1 g.1 in refusal_once z.0 z.1
