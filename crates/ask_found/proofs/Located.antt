-- What is located: the answers in stretches of the listing, and what a refusal is answered.
use Prim.Native.Nat.{ℕ}
use mathlib.Core.Path.{◌≡◌, sym, subst₂}
use mathlib.Core.Bool.{false}
use mathlib.Core.List.{List}
use Rattle.std.specs.Prelude.{Option}
use Rattle.paper.specs.Answers.{refuse, no_part, nothing_shown, FindsSequence, FindsFeature, FindsQualifier, SequenceSays, FeatureSays, QualifierSays}
use Rattle.paper.specs.Answers as paper
use Rattle.paper.proofs.Refusals as refusals
use Rattle.value_words.specs.declared.Molecule.{Molecule}
use Rattle.walk_steps.specs.declared.Range.{Range}
use Rattle.walk_items.specs.declared.FoundQualifier.{FoundQualifier}
use Rattle.ask_answers.specs.declared.Stretch.{Stretch}
use Rattle.ask_show.specs.Shown.{StretchOf, ValueOf}
use Rattle.ask_found.specs.Answers.{AnswersSequence, AnswersQualifier}
use Rattle.ask_found.proofs.Accepted.{accepts, kind_found}

pub sequence_located : {c : Molecule} {p : Range} {x : Stretch} → StretchOf p x → AnswersSequence c p (record { kind = c; residues = x })
sequence_located {c} s =
    record {
      says =
          λ w k q finds is i.
          let g = kind_found c (accepts finds) is in
          let z = s.says w q.residues i in
          (subst₂ (SequenceSays w k 0 0) (sym g.number) (sym z.0) (paper.found g.kind finds g.is), z.1);
    }

pub qualifier_located : {f : FoundQualifier} {x : Stretch} {y : Option Stretch} → StretchOf f.name x → ValueOf f.value y
    → AnswersQualifier f (record { name = x; value = y })
qualifier_located a v =
    record {
      says =
          λ w k j i q e finds is.
          let n = a.says w q.name is.name in
          let z = v.says w q.value is.value in
          (rw (n.0, z.0, z.1) (paper.found finds), (n.1, z.2));
    }

-- ---- a refusal: its number isn't 0, and nothing is shown

module _ {w : List ℕ} {k n p : ℕ} where
  pub sequence_refused : FindsSequence w k (refuse n p) → (¬ (n ≡ 0)) × SequenceSays w k n p 0 no_part
  sequence_refused h = (refusals.refusal_some (refusals.sequence_refused h), paper.refused h)

  -- the lent numbers stay as they are
  pub feature_refused : {j : ℕ} {out : List ℕ} → FindsFeature w k j (refuse n p) → (¬ (n ≡ 0)) × FeatureSays w k j out n p nothing_shown out
  feature_refused h = (refusals.refusal_some (refusals.feature_refused h), paper.refused (paper.earlier h))

  pub qualifier_refused : {j i : ℕ} → FindsQualifier w k j i (refuse n p) → (¬ (n ≡ 0)) × QualifierSays w k j i n p no_part false no_part
  qualifier_refused h = (refusals.refusal_some (refusals.qualifier_refused h), paper.refused h)
