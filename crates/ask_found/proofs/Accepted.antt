-- A sequence that is found is one of an accepted listing: no rule is broken on its texts or on its features.
use Prim.Native.Nat.{ℕ, ◌≤◌}
use native.Mathlib.Decide.{ℕ_discrete}
use mathlib.Core.Path.{◌≡◌, refl}
use mathlib.Core.List.{List, List-discrete}
use lib.ListN.{length}
use Rattle.paper.specs.Bytes.{bytes}
use Rattle.paper.specs.Lists.{◌∈◌}
use Rattle.paper.specs.Tree.{Sequence, Feature, features_of}
use Rattle.paper.specs.Rules.{dna, rna, aa, IsKind, InTexts, InFeature}
use Rattle.paper.specs.Rules as Rules
use Rattle.paper.specs.Answers.{limit, give, kind_number, FindsSequence, FindsFeature}
use Rattle.paper.specs.Answers as paper
use Rattle.value_words.specs.Reading.{KindIs}
use Rattle.value_words.specs.declared.Molecule.{Molecule}
use Rattle.value_words.specs.declared.Molecule.TheVariants.{Dna, Rna, Aa, Other}
use Rattle.ask_translation.specs.Plans.{Keeps}
use Rattle.ask_answers.specs.Stretches.{kind_is}

pub record Accepts (w : List ℕ) (q : Sequence ℕ) : Type 0 where
  pub short : length w ≤ limit
  pub texts : (n p : ℕ) → ¬ InTexts q n p
  pub features : (f : Feature ℕ) → f ∈ features_of q → (n p : ℕ) → ¬ InFeature q f n p

pub accepts : {w : List ℕ} {k : ℕ} {q : Sequence ℕ} → FindsSequence w k (give q) → Accepts w q
accepts {k = k} {q} (paper.sequence {l} (paper.accepted short laid clean) i s) =
    record {
      short = short;
      texts = λ n p h. clean n p (Rules.sequence k q i (Rules.texts s h));
      features = λ f m n p h. clean n p (Rules.sequence k q i (Rules.table s (Rules.feature f m h)));
    }

pub keeps_feature : {w : List ℕ} {q : Sequence ℕ} → Accepts w q → (f : Feature ℕ) → f ∈ features_of q → Keeps q f
keeps_feature a f m = record { texts = a.texts; feature = a.features f m }

pub feature_keeps : {w : List ℕ} {k j : ℕ} {q : Sequence ℕ} {f : Feature ℕ} → FindsFeature w k j (give (q, f)) → Keeps q f
feature_keeps {f = f} (paper.feature s n) = keeps_feature (accepts s) f (n.0, n.2)

-- rule 16 isn't broken
pub named : {w : List ℕ} {q : Sequence ℕ} → Accepts w q → (d : Rules.Kind) × IsKind d q
named {q = q} a = by (is? dna) (is? rna) (is? aa)
  where
    is? : (d : Rules.Kind) → Dec (IsKind d q)
    is? d = List-discrete ℕ_discrete q.moltype.read (bytes (Rules.kind_name d))

    none_of : ¬ IsKind dna q → ¬ IsKind rna q → ¬ IsKind aa q → (d : Rules.Kind) → ¬ IsKind d q
    none_of x y z dna = x
    none_of x y z rna = y
    none_of x y z aa = z

    by : Dec (IsKind dna q) → Dec (IsKind rna q) → Dec (IsKind aa q) → (d : Rules.Kind) × IsKind d q
    by (yes h) y z = (dna, h)
    by (no x) (yes h) z = (rna, h)
    by (no x) (no y) (yes h) = (aa, h)
    by (no x) (no y) (no z) = absurd (a.texts 16 q.moltype.place (Rules.rule_16 (none_of x y z)))

-- the kind that its moltype names
pub record KindOf (q : Sequence ℕ) (c : Molecule) : Type 0 where
  pub kind : Rules.Kind
  pub is : IsKind kind q
  pub number : kind_is c ≡ kind_number kind

pub kind_found : {w : List ℕ} {q : Sequence ℕ} (c : Molecule) → Accepts w q → KindIs q.moltype.read c → KindOf q c
kind_found Dna a h = record { kind = dna; is = h; number = refl }
kind_found Rna a h = record { kind = rna; is = h; number = refl }
kind_found Aa a h = record { kind = aa; is = h; number = refl }
kind_found {q = q} Other a h = absurd (a.texts 16 q.moltype.place (Rules.rule_16 h))
