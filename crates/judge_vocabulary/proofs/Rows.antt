-- From the row of a key, and how the names of a feature stand in it, to rules 40 to 42.
use Prim.Native.Nat.{ℕ, zero, suc, ◌≤◌, ◌<◌}
use native.Mathlib.Decide.{ℕ_discrete}
use native.Mathlib.Omega.{arith}
use mathlib.Core.Path.{◌≡◌, refl, sym, ◌∙◌, subst, subst₂}
use mathlib.Core.Bool.{Bool, true, false, true≢false, cond}
use mathlib.Core.Logic.{inl, inr}
use mathlib.Core.List.{List, [], ◌∷◌}
use lib.ListN.{length}
use Rattle.paper.specs.Lists.{◌∈◌}
use Rattle.paper.specs.Tree.{Qualifier, Sequence, Feature, qualifiers_of}
use Rattle.paper.specs.Vocabulary.{Row, is_one_of, counted}
use Rattle.paper.specs.Rules.{Kind, dna, rna, aa, IsKind, upper_in, CountsAs, RowOf, Allows, InVocabulary, rule_40, rule_41, rule_42, Before}
use Rattle.paper.proofs.Lists.{number_in}
use Rattle.paper.proofs.Once.{kind_once}
use Rattle.paper.proofs.Words.{row_once}
use Rattle.value_words.specs.Reading.{Tells, is_known}
use Rattle.value_words.specs.declared.Molecule.{Molecule}
use Rattle.value_words.specs.declared.Molecule.TheVariants as kind
use Rattle.value_vocabulary.specs.Tables.{standing_in, standing_of, Few, needs_at}
use Rattle.value_vocabulary.proofs.InRow.{standing_none, standing_some, first_stands, stands_first, second_stands, stands_second}
use Rattle.std.specs.Prelude.{None}
use Rattle.judge_faults.specs.Sets.{Fault, fault_at, Faults, Firsts, InSome, Earlier, unless_of}
use Rattle.judge_faults.proofs.Parts.{◌or◌}
use Rattle.judge_faults.proofs.Faults.{firsts_or, firsts_as, firsts_none}
use Rattle.judge_qualifiers.specs.Qualifiers.{Foreign, HasStanding, WordedBy}
use Rattle.judge_qualifiers.specs.declared.Worded.{Worded}
use Rattle.judge_vocabulary.specs.Words.{HasAll, JudgesRow, JudgesWords}

-- ---- required names

-- some name of the list is met by no qualifier
abbrev Lacks : Kind → List (Qualifier ℕ) → List (List ℕ) → Type 0
Lacks k l required = (w : List ℕ) × w ∈ required × ((q : Qualifier ℕ) → q ∈ l → ¬ CountsAs k q.name.read w)

-- a flag says that nothing is lacking, or what is
abbrev Lacking : Bool → Type 0 → Type 0
Lacking true A = ¬ A
Lacking false A = A

module _ (k : Kind) (l : List (Qualifier ℕ)) (o : List ℕ → ℕ) (below : (w : List ℕ) → o w < 2) where
  -- how the name of a qualifier stands
  abbrev By : List (List ℕ) → List ℕ → ℕ
  By required v = standing_in 2 required (o (counted (upper_in k) v)) (counted (upper_in k) v)

  -- whether one is lacking, by what was met
  lacks : (required : List (List ℕ)) → Few required → (a b : Bool) → Tells a (HasStanding (By required) 2 l) → Tells b (HasStanding (By required) 3 l)
      → (ok : Bool) → Tells ok ((1 ≤ length required → a ≡ true) × (2 ≤ length required → b ≡ true)) → Lacking ok (Lacks k l required)
  lacks [] few a b s t true h = λ x. x.1.1
  lacks [] few a b s t false h = absurd (h ((λ z. absurd (omega (arith, z))), (λ z. absurd (omega (arith, z)))))
  lacks (u ∷ []) few true b s t true h = λ x. one x.0 x.1 x.2
    where
      one : (w : List ℕ) → w ∈ (u ∷ []) → ((q : Qualifier ℕ) → q ∈ l → ¬ CountsAs k q.name.read w) → ⊥
      one w (suc _, e) n = elim e [ ]
      one w (zero, e) n = n s.0 s.1 (stands_first (o _) (below _) u (counted (upper_in k) s.0.name.read) [] few s.2 ∙ sym e)
  lacks (u ∷ []) few false b s t true h = absurd (true≢false (sym (h.0 (omega arith))))
  lacks (u ∷ []) few true b s t false h = absurd (h ((λ z. refl), (λ z. absurd (omega (arith, z)))))
  lacks (u ∷ []) few false b s t false h =
      (u, (0, refl), λ q m e. s (q, m, first_stands (o _) (below _) u (counted (upper_in k) q.name.read) [] e))
  lacks (u ∷ v ∷ []) few true true s t true h = λ x. two x.0 x.1 x.2
    where
      two : (w : List ℕ) → w ∈ (u ∷ v ∷ []) → ((q : Qualifier ℕ) → q ∈ l → ¬ CountsAs k q.name.read w) → ⊥
      two w (suc (suc _), e) n = elim e [ ]
      two w (zero, e) n = n s.0 s.1 (stands_first (o _) (below _) u (counted (upper_in k) s.0.name.read) (v ∷ []) few s.2 ∙ sym e)
      two w (suc zero, e) n = n t.0 t.1 (stands_second (o _) (below _) u (counted (upper_in k) t.0.name.read) v t.2 ∙ sym e)
  lacks (u ∷ v ∷ []) few true true s t false h = absurd (h ((λ z. refl), (λ z. refl)))
  lacks (u ∷ v ∷ []) few false b s t true h = absurd (true≢false (sym (h.0 (omega arith))))
  lacks (u ∷ v ∷ []) few true false s t true h = absurd (true≢false (sym (h.1 (omega arith))))
  lacks (u ∷ v ∷ []) few false b s t false h =
      (u, (0, refl), λ q m e. s (q, m, first_stands (o _) (below _) u (counted (upper_in k) q.name.read) (v ∷ []) e))
  lacks (u ∷ v ∷ []) few true false s t false h =
      (v, (1, refl), λ q m e. t (q, m, second_stands (o _) (below _) u (counted (upper_in k) q.name.read) v few e))
  lacks (u ∷ v ∷ w ∷ l) few a b s t ok h = absurd few

-- ---- the rules

-- a required name is missing, at this place
abbrev Missing : ℕ → Type 0 → Faults
Missing place A n p = (n ≡ 42) × (p ≡ place) × A

missing_first : {A : Type 0} {key place : ℕ} {r : Fault} (ok : Bool) → Lacking ok A → key ≡ place → r ≡ unless_of ok 42 key → Firsts (Missing place A) r
missing_first {A} {place = place} true n e h = subst (Firsts (Missing place A)) (sym h) (firsts_none (Missing place A) (λ m p x. n x.2))
missing_first {A} {key} {place} false a e h =
    subst (Firsts (Missing place A)) (sym h) (record { is = record { broken = (refl, e, a); least = λ m p x. inr (e ∙ sym x.1, omega (arith, x.0)) } })

module _ (k : Kind) (q : Sequence ℕ) (f : Feature ℕ) (kind : IsKind k q) where
  same_kind : (j : Kind) → IsKind j q → (r : Row) → RowOf j f.key.read r → RowOf k f.key.read r
  same_kind j i r o = subst (λ (j : Kind). RowOf j f.key.read r) (kind_once q j k i kind) o

  -- rule 40 is broken, and the two others aren't judged
  pub unknown_first : {key : ℕ} → key ≡ f.key.place → ((r : Row) → ¬ RowOf k f.key.read r) → Firsts (InVocabulary q f) (fault_at 40 key)
  unknown_first {key} e u =
      record { is = record { broken = subst (InVocabulary q f 40) (sym e) (rule_40 k kind u); least = least } }
    where
      least : (m p : ℕ) → InVocabulary q f m p → Before 40 key m p
      least m p (rule_40 j i h) = inr (e, omega arith)
      least m p (rule_41 j i r o y n h) = absurd (u r (same_kind j i r o))
      least m p (rule_42 j i r o w n h) = absurd (u r (same_kind j i r o))

  -- rule 40 holds
  module _ (r : Row) (row : RowOf k f.key.read r) where
    -- how the name of a qualifier stands in the row
    abbrev pub st : List ℕ → ℕ
    st v = standing_of r (counted (upper_in k) v)

    abbrev pub Lack : Type 0
    Lack = Lacks k (qualifiers_of f) r.required

    to : (n p : ℕ) → ◌or◌ (InSome (Foreign st) (qualifiers_of f)) (Missing f.key.place Lack) n p → InVocabulary q f n p
    to n p (inl (i, y, m, (a, b, z))) =
        subst₂ (InVocabulary q f) (sym a) (sym b)
        (rule_41 k kind r row y (number_in (qualifiers_of f) i y m) (λ w c g. standing_none r (counted (upper_in k) y.name.read) z (subst (Allows r) (sym c) g)))
    to n p (inr (a, b, (w, m, h))) = subst₂ (InVocabulary q f) (sym a) (sym b) (rule_42 k kind r row w m h)

    of : (n p : ℕ) → InVocabulary q f n p → ◌or◌ (InSome (Foreign st) (qualifiers_of f)) (Missing f.key.place Lack) n p
    of n p (rule_40 j i h) = absurd (h r (subst (λ (j : Kind). RowOf j f.key.read r) (kind_once q k j kind i) row))
    of n p (rule_41 j i x o y m h) = inl (suc m.0, y, (m.0, refl, m.1), (refl, refl, by (ℕ_discrete (st y.name.read) 0)))
      where
        by : Dec (st y.name.read ≡ 0) → st y.name.read ≡ 0
        by (yes e) = e
        by (no d) =
            let a = standing_some r (counted (upper_in k) y.name.read) d in
            let one = row_once k f.key.read r x row (same_kind j i x o) in
            absurd (h (counted (upper_in j) y.name.read) refl (subst₂ (λ (j : Kind) (r : Row). Allows r (counted (upper_in j) y.name.read)) (kind_once q k j kind i) one a))
    of n p (rule_42 j i x o w m h) =
        let one = row_once k f.key.read r x row (same_kind j i x o) in
        inr (refl, refl, (w, subst (λ (r : Row). w ∈ r.required) (sym one) m, λ y e c. h y e (subst (λ (j : Kind). CountsAs j y.name.read w) (kind_once q k j kind i) c)))

    pub known_first : {words : Worded} {key needs : ℕ} {met : Bool} {a b : Fault} → key ≡ f.key.place → Few r.required → needs ≡ length r.required
        → WordedBy st words (qualifiers_of f) → HasAll needs words.first words.second met → a ≡ unless_of met 42 key → Earlier words.foreign a b
        → Firsts (InVocabulary q f) b
    known_first {words} {met = met} e few n w all u h =
        firsts_as (◌or◌ (InSome (Foreign st) (qualifiers_of f)) (Missing f.key.place Lack)) (InVocabulary q f) to of
        (firsts_or (InSome (Foreign st) (qualifiers_of f)) (Missing f.key.place Lack) w.foreign (missing_first met told e u) h)
      where
        optional : List ℕ → ℕ
        optional v = cond (is_one_of r.optional v) 1 0

        small : (b : Bool) → cond b 1 0 < 2
        small true = omega arith
        small false = omega arith

        told : Lacking met Lack
        told =
            lacks k (qualifiers_of f) optional (λ v. small (is_one_of r.optional v)) r.required few words.first words.second w.first w.second met
            (subst (λ (n : ℕ). Tells met ((1 ≤ n → words.first ≡ true) × (2 ≤ n → words.second ≡ true))) n all.says)

-- ---- the calls

module _ {t : List ℕ} {key row : ℕ} {words : Worded} where
  pub row_unknown : row ≡ 0 → JudgesRow t key row words (fault_at 40 key)
  row_unknown z = record { says = λ k q f i a. unknown_first k q f i a.at ((a.rows k i).unknown z) }

  pub row_known : {met : Bool} {a b : Fault} → ¬ (row ≡ 0) → HasAll (needs_at t row) words.first words.second met → a ≡ unless_of met 42 key
      → Earlier words.foreign a b → JudgesRow t key row words b
  row_known {b = b} n all u h =
      record {
        says =
            λ k q f i a.
            let x = (a.rows k i).known n in
            known_first k q f i x.0 x.1 a.at x.2.few x.2.needs (a.worded (st k q f i x.0 x.1) x.2.stands) all u h;
      }

-- of the kind that the code names
module _ {t : List ℕ} {key row : ℕ} {words : Worded} {r : Fault} where
  pub of_kind : (c : Molecule) → is_known c ≡ true → JudgesRow t key row words r → JudgesWords t key c row words r
  of_kind kind.Dna e j = record { says = λ q f i a. j.says dna q f i a }
  of_kind kind.Rna e j = record { says = λ q f i a. j.says rna q f i a }
  of_kind kind.Aa e j = record { says = λ q f i a. j.says aa q f i a }
  of_kind kind.Other e j = absurd (true≢false (sym e))

-- where rule 16 is broken nothing is judged
pub of_none : {t : List ℕ} {key row : ℕ} {words : Worded} (c : Molecule) → is_known c ≡ false → JudgesWords t key c row words None
of_none kind.Dna e = absurd (true≢false e)
of_none kind.Rna e = absurd (true≢false e)
of_none kind.Aa e = absurd (true≢false e)
of_none kind.Other e = record { says = λ q f n a. firsts_none (InVocabulary q f) (none q f n) }
  where
    none : (q : Sequence ℕ) (f : Feature ℕ) → ((k : Kind) → ¬ IsKind k q) → (m p : ℕ) → ¬ InVocabulary q f m p
    none q f n m p (rule_40 k i h) = n k i
    none q f n m p (rule_41 k i r o y e h) = n k i
    none q f n m p (rule_42 k i r o w e h) = n k i
