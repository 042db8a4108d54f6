-- The faults of a table, from the sum of its features: rule 21, and the only source's.
use Prim.Native.Nat.{ℕ, suc, ◌≤◌}
use native.Mathlib.Decide.{dec_le}
use native.Mathlib.Omega.{arith}
use mathlib.Core.Path.{◌≡◌, refl, sym, subst}
use mathlib.Core.Logic.{inl, inr}
use mathlib.Core.List.{List, [], ◌∷◌}
use Rattle.paper.specs.Lists.{Nth, ◌∈◌, Count, end, has, lacks}
use Rattle.paper.specs.Tree.{Sequence, Feature, features_of}
use Rattle.paper.specs.Rules.{Kind, dna, rna, aa, IsKind, Keyed, upper_in, source_name, OneSource, Source, table_place, InSource, InFeature, InTable}
use Rattle.std.specs.Prelude.{None, Some}
use Rattle.paper.proofs.Lists.{count_once, count_as}
use Rattle.judge_faults.proofs.Parts.{◌or◌}
use Rattle.value_words.specs.Reading.{KindIs}
use Rattle.value_words.specs.declared.Molecule as code
use Rattle.value_words.specs.declared.Molecule.TheVariants as kind
use Rattle.judge_faults.specs.Sets.{Fault, Faults, Firsts, Bad, InSome}
use Rattle.paper.specs.Rules as part
use Rattle.judge_faults.proofs.Counters.{capped_one, one_capped}
use Rattle.judge_faults.proofs.Faults.{firsts_or, firsts_as, firsts_one}
use Rattle.judge_faults.proofs.Moltypes.{kind_once}
use Rattle.judge_features.specs.Featured.{IsSource, Tallied, WithSource, Finishes}
use Rattle.judge_features.specs.declared.Tally.{Tally}

-- what is counted is there
counted_there : {A : Type 0} {C : A → Type 0} (l : List A) (n : ℕ) → Count C l n → 1 ≤ n → (i : ℕ) × (x : A) × Nth l i x × C x
counted_there [] n end h = absurd (omega arith)
counted_there (y ∷ l) n (has c r) h = (0, y, refl, c)
counted_there (y ∷ l) n (lacks c r) h = let z = counted_there l n r h in (suc z.0, z.1, z.2, z.3)

module _ (q : Sequence ℕ) (a : Tally) (t : Tallied q (features_of q) a) where
  of_features : (n p : ℕ) → InSome (λ (i : ℕ) (f : Feature ℕ). InFeature q f) (features_of q) n p → InTable q n p
  of_features n p x = part.feature x.1 (x.2.0, x.2.2) x.3

  -- where the moltype names a kind
  module _ (k : Kind) (i : IsKind k q) where
    one_source : t.count ≡ 1 → OneSource (upper_in k) q
    one_source e =
        subst (Count (Keyed (source_name (upper_in k))) (features_of q)) e
        (count_as (IsSource q) (Keyed (source_name (upper_in k))) (λ f x. subst (λ (j : Kind). Keyed (source_name (upper_in j)) f) (kind_once q.moltype.read x.0 k x.1 i) x.2) (λ f x. (k, i, x)) t.sources)

    source_one : OneSource (upper_in k) q → t.count ≡ 1
    source_one o =
        count_once t.sources
        (count_as (Keyed (source_name (upper_in k))) (IsSource q) (λ f x. (k, i, x)) (λ f x. subst (λ (j : Kind). Keyed (source_name (upper_in j)) f) (kind_once q.moltype.read x.0 k x.1 i) x.2) o)

    abbrev InOnly : Faults
    InOnly n p = (f : Feature ℕ) × Source (upper_in k) q f × InSource (upper_in k) q f n p

    -- the faults of the only source
    only_first : t.count ≡ 1 → (r : Fault) → ((f : Feature ℕ) → f ∈ features_of q → Keyed (source_name (upper_in k)) f → Firsts (InSource (upper_in k) q f) r) → Firsts InOnly r
    only_first e None h = record { is = λ n p x. (h x.0 x.1.member x.1.keyed).is n p x.2 }
    only_first e (Some m) h =
        let z = counted_there (features_of q) 1 (one_source e) (omega arith) in
        let f = (h z.1 (z.0, z.2) z.3).is in
        record {
          is =
              record {
                broken = (z.1, record { only = one_source e; member = (z.0, z.2); keyed = z.3 }, f.broken);
                least = λ n p x. (h x.0 x.1.member x.1.keyed).is.least n p x.2;
              };
        }

    pub with_source : {place : ℕ} (r : Fault) → place ≡ table_place q.table q.residues → WithSource a place r → Firsts (InTable q) r
    with_source {place} r pl s = by (dec_le a.sources 1) (dec_le 1 a.sources)
      where
        to_one : (n p : ℕ) → ◌or◌ (InSome (λ (i : ℕ) (f : Feature ℕ). InFeature q f) (features_of q)) InOnly n p → InTable q n p
        to_one n p (inl x) = of_features n p x
        to_one n p (inr x) = part.source k i x.0 x.1 x.2

        of_one : t.count ≡ 1 → (n p : ℕ) → InTable q n p → ◌or◌ (InSome (λ (i : ℕ) (f : Feature ℕ). InFeature q f) (features_of q)) InOnly n p
        of_one e n p (part.rule_21 j g h) = absurd (h (subst (λ (z : Kind). OneSource (upper_in z) q) (kind_once q.moltype.read k j i g) (one_source e)))
        of_one e n p (part.source j g f x h) =
            let c = kind_once q.moltype.read j k g i in
            inr (f, subst (λ (z : Kind). Source (upper_in z) q f) c x, subst (λ (z : Kind). InSource (upper_in z) q f n p) c h)
        of_one e n p (part.feature f m h) = inl (suc m.0, f, (m.0, refl, m.1), h)

        to_21 : (n p : ℕ) → ◌or◌ (InSome (λ (i : ℕ) (f : Feature ℕ). InFeature q f) (features_of q)) (Bad 21 place (OneSource (upper_in k) q)) n p → InTable q n p
        to_21 n p (inl x) = of_features n p x
        to_21 n p (inr x) = rw (x.0, x.1, pl) (part.rule_21 k i x.2)

        of_21 : (n p : ℕ) → ¬ OneSource (upper_in k) q → InTable q n p → ◌or◌ (InSome (λ (i : ℕ) (f : Feature ℕ). InFeature q f) (features_of q)) (Bad 21 place (OneSource (upper_in k) q)) n p
        of_21 n p no' (part.rule_21 j g h) = inr (refl, sym pl, no')
        of_21 n p no' (part.source j g f x h) = absurd (no' (subst (λ (z : Kind). OneSource (upper_in z) q) (kind_once q.moltype.read j k g i) x.only))
        of_21 n p no' (part.feature f m h) = inl (suc m.0, f, (m.0, refl, m.1), h)

        one : a.sources ≡ 1 → Firsts (InTable q) r
        one e =
            let c = capped_one t.capped e in
            firsts_as (◌or◌ (InSome (λ (i : ℕ) (f : Feature ℕ). InFeature q f) (features_of q)) InOnly) (InTable q) to_one (of_one c)
            (firsts_or (InSome (λ (i : ℕ) (f : Feature ℕ). InFeature q f) (features_of q)) InOnly t.fault (only_first c a.source (λ f m h. t.source c k i f m h)) (s.one e))

        other : ¬ (a.sources ≡ 1) → Firsts (InTable q) r
        other e =
            let n' : ¬ OneSource (upper_in k) q = λ o. e (one_capped t.capped (source_one o)) in
            firsts_as (◌or◌ (InSome (λ (i : ℕ) (f : Feature ℕ). InFeature q f) (features_of q)) (Bad 21 place (OneSource (upper_in k) q))) (InTable q) to_21 (λ n p. of_21 n p n')
            (firsts_or (InSome (λ (i : ℕ) (f : Feature ℕ). InFeature q f) (features_of q)) (Bad 21 place (OneSource (upper_in k) q)) t.fault (firsts_one 21 place (OneSource (upper_in k) q) n') (s.other e))

        by : Dec (a.sources ≤ 1) → Dec (1 ≤ a.sources) → Firsts (InTable q) r
        by (yes g) (yes h) = one (omega arith)
        by (yes g) (no h) = other (λ e. omega (arith, e, h))
        by (no g) h = other (λ e. omega (arith, e, g))

  -- where it names none, only the features are judged
  no_kind : ((k : Kind) → ¬ IsKind k q) → {r : Fault} → r ≡ a.fault → Firsts (InTable q) r
  no_kind h {r} e =
      subst (Firsts (InTable q)) (sym e)
      (firsts_as (InSome (λ (i : ℕ) (f : Feature ℕ). InFeature q f) (features_of q)) (InTable q) of_features into t.fault)
    where
      into : (n p : ℕ) → InTable q n p → InSome (λ (i : ℕ) (f : Feature ℕ). InFeature q f) (features_of q) n p
      into n p (part.rule_21 j g x) = absurd (h j g)
      into n p (part.source j g f x y) = absurd (h j g)
      into n p (part.feature f m x) = (suc m.0, f, (m.0, refl, m.1), x)

  pub finished : (c : code.Molecule) → KindIs q.moltype.read c → {place : ℕ} (r : Fault) → place ≡ table_place q.table q.residues → Finishes a c place r → Firsts (InTable q) r
  finished kind.Dna k r pl f = with_source dna k r pl f
  finished kind.Rna k r pl f = with_source rna k r pl f
  finished kind.Aa k r pl f = with_source aa k r pl f
  finished kind.Other k r pl f = no_kind k f
