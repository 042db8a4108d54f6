-- The location and the key of a feature: rules 24 to 26, and what a key names.
use Rattle.location_judge.specs.declared.judging.Facts.{Facts}
use Prim.Native.Nat.{ℕ, ◌≤◌}
use native.Mathlib.Omega.{arith}
use mathlib.Core.Path.{◌≡◌, refl, sym, ap, ◌∙◌, subst}
use mathlib.Core.Bool.{Bool, true, false, cond, true≢false}
use mathlib.Core.Logic.{inr}
use mathlib.Core.List.{List}
use lib.ListN.{get_or}
use Rattle.paper.specs.Bytes.{bytes, raw}
use Rattle.paper.specs.Tree.{Text, Sequence, Feature}
use Rattle.paper.specs.Locations.{Location, Locates, breaks25, has_complement}
use Rattle.paper.specs.Rules.{L, Kind, dna, rna, aa, IsKind, Keyed, upper_in, source_name, Coding, InLocation, rule_24, rule_25, rule_26}
use Rattle.std.specs.Prelude.{None, Option, Some}
use Rattle.paper.proofs.Locate.{locates_once}
use Rattle.value_words.specs.Reading.{Tells, KindIs, Names}
use Rattle.value_words.specs.declared.Molecule as code
use Rattle.value_words.specs.declared.Molecule.TheVariants as kind
use Rattle.value_words.proofs.Read.{tells_word}
use Rattle.location_judge.specs.Judging.{JudgedText}
use Rattle.judge_faults.specs.Sets.{fault_at, Firsts}
use Rattle.judge_faults.proofs.Moltypes.{kind_once}
use Rattle.judge_features.specs.Featured.{if_aa, place_fault, IsSource, NamesSource}

-- ---- rules 24 to 26

-- a rule at the one place where all of a set have theirs
at_place : (S : ℕ → ℕ → Type 0) (m p : ℕ) → S m p → ((n q : ℕ) → S n q → (q ≡ p) × (m ≤ n)) → Firsts S (fault_at m p)
at_place S m p b h = record { is = record { broken = b; least = λ n q x. let y = h n q x in inr (sym y.0, y.1) } }

module _ (q : Sequence ℕ) (t : Text ℕ) where
  all_at : (n p : ℕ) → InLocation q t n p → (p ≡ t.place) × (24 ≤ n)
  all_at n p (rule_24 h) = (refl, omega arith)
  all_at n p (rule_25 x l h) = (refl, omega arith)
  all_at n p (rule_26 a x l h) = (refl, omega arith)

  -- where a location is written so, the rules are about it
  module _ (x : Location) (l : Locates x t.read) where
    not_24 : (n p : ℕ) → InLocation q t n p → 25 ≤ n
    not_24 n p (rule_24 h) = absurd (h x l)
    not_24 n p (rule_25 y m h) = omega arith
    not_24 n p (rule_26 a y m h) = omega arith

    right_25 : breaks25 (L q) x ≡ false → (n p : ℕ) → InLocation q t n p → 26 ≤ n
    right_25 r n p (rule_24 h) = absurd (h x l)
    right_25 r n p (rule_25 y m h) = absurd (true≢false (sym h ∙ ap (breaks25 (L q)) (locates_once y x m l) ∙ r))
    right_25 r n p (rule_26 a y m h) = omega arith

    nothing : breaks25 (L q) x ≡ false → (IsKind aa q → has_complement x ≡ false) → (n p : ℕ) → ¬ InLocation q t n p
    nothing r c n p (rule_24 h) = h x l
    nothing r c n p (rule_25 y m h) = true≢false (sym h ∙ ap (breaks25 (L q)) (locates_once y x m l) ∙ r)
    nothing r c n p (rule_26 a y m h) = true≢false (sym h ∙ ap has_complement (locates_once y x m l) ∙ c a)

    complemented : (c : code.Molecule) → KindIs q.moltype.read c → breaks25 (L q) x ≡ false → has_complement x ≡ true
        → Firsts (InLocation q t) (if_aa c (fault_at 26 t.place))
    complemented kind.Aa k r h = at_place (InLocation q t) 26 t.place (rule_26 k x l h) (λ n p y. ((all_at n p y).0, right_25 r n p y))
    complemented kind.Dna k r h = record { is = nothing r (λ a. absurd (dna_aa (kind_once q.moltype.read dna aa k a))) }
      where
        dna_aa : dna ≡ aa → ⊥
        dna_aa e = true≢false (ap is_dna e)
          where
            is_dna : Kind → Bool
            is_dna dna = true
            is_dna rna = false
            is_dna aa = false
    complemented kind.Rna k r h = record { is = nothing r (λ a. absurd (rna_aa (kind_once q.moltype.read rna aa k a))) }
      where
        rna_aa : rna ≡ aa → ⊥
        rna_aa e = true≢false (ap is_rna e)
          where
            is_rna : Kind → Bool
            is_rna dna = false
            is_rna rna = true
            is_rna aa = false
    complemented kind.Other k r h = record { is = nothing r (λ a. absurd (k aa a)) }

  pub placed : (v : Option Facts) (c : code.Molecule) → JudgedText (L q) t.read v → KindIs q.moltype.read c → Firsts (InLocation q t) (place_fault v c t.place)
  placed None c j k = at_place (InLocation q t) 24 t.place (rule_24 j) all_at
  placed (Some f) c j k = by f.wrong f.complemented (sym j.2.wrong) (sym j.2.complemented)
    where
      by : (w d : Bool) → breaks25 (L q) j.0 ≡ w → has_complement j.0 ≡ d
          → Firsts (InLocation q t) (cond w (fault_at 25 t.place) (cond d (if_aa c (fault_at 26 t.place)) None))
      by true d r h = at_place (InLocation q t) 25 t.place (rule_25 j.0 j.1 r) (λ n p y. ((all_at n p y).0, not_24 j.0 j.1 n p y))
      by false true r h = complemented j.0 j.1 c k r h
      by false false r h = record { is = nothing j.0 j.1 r (λ a. h) }

-- ---- keys

-- the key of a kind's source, for the kinds that have this one
pub source_named : (k : Kind) {c : code.Molecule} {w : List ℕ} (r : Bool) → raw (bytes (source_name (upper_in k))) ≡ bytes (source_name (upper_in k)) → ((v : List ℕ) → KindIs v c → Names v k)
    → Tells r (w ≡ bytes (source_name (upper_in k))) → NamesSource w c r
source_named k r plain named t =
    record { says = λ q f i e. by q f (named q.moltype.read i) r ((tells_word (bytes (source_name (upper_in k))) plain r t).says f.key.read e) }
  where
    by : (q : Sequence ℕ) (f : Feature ℕ) → Names q.moltype.read k → (d : Bool) → Tells d (Keyed (source_name (upper_in k)) f) → Tells d (IsSource q f)
    by q f i true h = (k, i, h)
    by q f i false h = λ x. h (subst (λ (j : Kind). Keyed (source_name (upper_in j)) f) (kind_once q.moltype.read x.0 k x.1 i) x.2)

-- no source is a coding region
first_letter : (k : Kind) → get_or (bytes (source_name (upper_in k))) 0 0 ≡ 67 → ⊥
first_letter dna e = omega (arith, e)
first_letter rna e = omega (arith, e)
first_letter aa e = omega (arith, e)

pub not_both : {q : Sequence ℕ} {f : Feature ℕ} → IsSource q f → Coding q f → ⊥
not_both s c = first_letter s.0 (ap (λ (w : List ℕ). get_or w 0 0) (sym s.2 ∙ c.keyed))
