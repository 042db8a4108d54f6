-- Features added up, one by one, and the table's faults from the sum.
use Prim.Native.Nat.{ℕ, zero, suc, ◌<◌}
use native.Mathlib.Omega.{arith}
use mathlib.Core.Path.{◌≡◌, refl, sym, ap, ◌∙◌, subst}
use mathlib.Core.Logic.{◌⊎◌, inl, inr}
use mathlib.Core.List.{List, [], ◌∷◌, ◌++◌}
use lib.ListN.{length, length-append}
use Rattle.paper.specs.Lists.{Nth, ◌∈◌, Count, end, has, lacks}
use Rattle.paper.specs.Tree.{Sequence, Feature}
use Rattle.paper.specs.Rules.{Kind, IsKind, Keyed, upper_in, source_name, InSource, InFeature}
use Rattle.judge_faults.specs.Sets.{Fault, Firsts, InSome}
use Rattle.judge_faults.proofs.Faults.{some_none, some_more, nth_split}
use Rattle.judge_faults.proofs.Seen.{count_has, count_lacks}
use Rattle.judge_faults.specs.Counters.{up_to, Capped}
use Rattle.judge_faults.proofs.Counters.{up_more, capped_none, capped_more}
use Rattle.judge_features.specs.Featured.{IsSource, RoleIs, IsFeatured, nothing_yet, if_source, if_judged, if_unjudged, Adds, JudgedIn, UnjudgedIn, CountedIn, Tallied}
use Rattle.judge_features.specs.declared.Role.{Role}
use Rattle.judge_features.specs.declared.Role.TheVariants as role
use Rattle.judge_features.specs.declared.Featured.{Featured}
use Rattle.judge_features.specs.declared.Tally.{Tally}

-- ---- counts

up_suc : (limit n : ℕ) → n < limit → up_to limit n ≡ suc n
up_suc limit n h = let e = up_more limit n h in omega (arith, e)

-- ---- one feature more

last_in : {A : Type 0} (l : List A) (x y : A) → y ∈ (l ++ (x ∷ [])) → (y ∈ l) ⊎ (y ≡ x)
last_in l x y h = by (nth_split l x h.0 y h.1)
  where
    by : Nth l h.0 y ⊎ ((h.0 ≡ length l) × (y ≡ x)) → (y ∈ l) ⊎ (y ≡ x)
    by (inl i) = inl (h.0, i)
    by (inr i) = inr i.1

module _ (q : Sequence ℕ) (limit : ℕ) where
  -- a feature changes the counts by what it is
  judged_more : (l : List (Feature ℕ)) (x : Feature ℕ) (r : Role) {n : ℕ} → RoleIs q x r → n < limit → Count (JudgedIn q) l n
      → Count (JudgedIn q) (l ++ (x ∷ [])) (if_judged r (up_to limit n) n)
  judged_more l x role.Source h b c = count_lacks (JudgedIn q) l x c (λ j. h.1 j.0)
  judged_more l x role.Judged {n} h b c =
      subst (Count (JudgedIn q) (l ++ (x ∷ []))) (sym (up_suc limit n b)) (count_has (JudgedIn q) l x c (h.1, h.2))
  judged_more l x role.Unjudged h b c = count_lacks (JudgedIn q) l x c (λ j. j.1 h.2)
  judged_more l x role.Plain h b c = count_lacks (JudgedIn q) l x c (λ j. h.1 j.0)

  unjudged_more : (l : List (Feature ℕ)) (x : Feature ℕ) (r : Role) {n : ℕ} → RoleIs q x r → n < limit → Count (UnjudgedIn q) l n
      → Count (UnjudgedIn q) (l ++ (x ∷ [])) (if_unjudged r (up_to limit n) n)
  unjudged_more l x role.Source h b c = count_lacks (UnjudgedIn q) l x c (λ j. h.1 j.0)
  unjudged_more l x role.Judged h b c = count_lacks (UnjudgedIn q) l x c (λ j. h.2 j.1)
  unjudged_more l x role.Unjudged {n} h b c =
      subst (Count (UnjudgedIn q) (l ++ (x ∷ []))) (sym (up_suc limit n b)) (count_has (UnjudgedIn q) l x c (h.1, h.2))
  unjudged_more l x role.Plain h b c = count_lacks (UnjudgedIn q) l x c (λ j. h.1 j.0)

  -- whether it is a source
  source_or : (x : Feature ℕ) (r : Role) → RoleIs q x r
      → ((r ≡ role.Source) × IsSource q x) ⊎ (((a b : ℕ) → if_source r a b ≡ b) × ((a b : Fault) → if_source r a b ≡ b) × (¬ IsSource q x))
  source_or x role.Source h = inl (refl, h.0)
  source_or x role.Judged h = inr ((λ a b. refl), (λ a b. refl), h.0)
  source_or x role.Unjudged h = inr ((λ a b. refl), (λ a b. refl), h.0)
  source_or x role.Plain h = inr ((λ a b. refl), (λ a b. refl), h.0)

  count_zero : {C : Feature ℕ → Type 0} (l : List (Feature ℕ)) (n : ℕ) → Count C l n → n ≡ 0 → (i : ℕ) (x : Feature ℕ) → Nth l i x → ¬ C x
  count_zero [] n c e i x h = absurd h
  count_zero (y ∷ l) n (has d r) e i x h = absurd (omega (arith, e))
  count_zero {C} (y ∷ l) n (lacks d r) e zero x h = λ z. d (subst C h z)
  count_zero (y ∷ l) n (lacks d r) e (suc i) x h = count_zero l n r e i x h

  pub tally_more : (l : List (Feature ℕ)) (f : Feature ℕ) {e : ℕ} {a r : Tally} {x : Featured} → Adds limit a x r → IsFeatured q f e x → Tallied q l a
      → a.counts.features < limit → a.counts.judged < limit → a.counts.unjudged < limit → Tallied q (l ++ (f ∷ [])) r
  tally_more l f {a = a} {r} {x} ad y t bf bj bu = by (source_or f x.role y.role)
    where
      counted : CountedIn q (l ++ (f ∷ [])) r.counts
      counted =
          record {
            features = omega (arith, ad.features, up_more limit a.counts.features bf, t.counts.features, length-append l (f ∷ []));
            judged = subst (Count (JudgedIn q) (l ++ (f ∷ []))) (sym ad.judged) (judged_more l f x.role y.role bj t.counts.judged);
            unjudged = subst (Count (UnjudgedIn q) (l ++ (f ∷ []))) (sym ad.unjudged) (unjudged_more l f x.role y.role bu t.counts.unjudged);
          }

      fault_is : Firsts (InSome (λ (i : ℕ) (g : Feature ℕ). InFeature q g) (l ++ (f ∷ []))) r.fault
      fault_is = some_more (λ (i : ℕ) (g : Feature ℕ). InFeature q g) l f t.fault y.fault ad.fault

      by : ((x.role ≡ role.Source) × IsSource q f) ⊎ (((u v : ℕ) → if_source x.role u v ≡ v) × ((u v : Fault) → if_source x.role u v ≡ v) × (¬ IsSource q f))
          → Tallied q (l ++ (f ∷ [])) r
      by (inl s) =
          record {
            fault = fault_is;
            count = suc t.count;
            sources = count_has (IsSource q) l f t.sources s.1;
            capped = subst (Capped (suc t.count)) (sym (ad.sources ∙ ap (λ (o : Role). if_source o (up_to 2 a.sources) a.sources) s.0)) (capped_more t.count a.sources t.capped);
            source = λ e k i g m h. subst (Firsts (InSource (upper_in k) q g)) (sym (ad.source ∙ ap (λ (o : Role). if_source o x.source a.source) s.0)) (last e k i g h (last_in l f g m));
            counts = counted;
          }
        where
          last : suc t.count ≡ 1 → (k : Kind) → IsKind k q → (g : Feature ℕ) → Keyed (source_name (upper_in k)) g → (g ∈ l) ⊎ (g ≡ f) → Firsts (InSource (upper_in k) q g) x.source
          last e k i g h (inl m) = absurd (count_zero l t.count t.sources (omega (arith, e)) m.0 g m.1 (k, i, h))
          last e k i g h (inr m) = subst (λ (z : Feature ℕ). Firsts (InSource (upper_in k) q z) x.source) (sym m) (y.source k i (subst (Keyed (source_name (upper_in k))) m h))
      by (inr s) =
          record {
            fault = fault_is;
            count = t.count;
            sources = count_lacks (IsSource q) l f t.sources s.2;
            capped = subst (Capped t.count) (sym (ad.sources ∙ s.0 (up_to 2 a.sources) a.sources)) t.capped;
            source = λ e k i g m h. subst (Firsts (InSource (upper_in k) q g)) (sym (ad.source ∙ s.1 x.source a.source)) (old e k i g h (last_in l f g m));
            counts = counted;
          }
        where
          old : t.count ≡ 1 → (k : Kind) → IsKind k q → (g : Feature ℕ) → Keyed (source_name (upper_in k)) g → (g ∈ l) ⊎ (g ≡ f) → Firsts (InSource (upper_in k) q g) a.source
          old e k i g h (inl m) = t.source e k i g m h
          old e k i g h (inr m) = absurd (s.2 (k, i, subst (Keyed (source_name (upper_in k))) m h))

  pub tally_none : Tallied q [] nothing_yet
  tally_none =
      record {
        fault = some_none (λ (i : ℕ) (g : Feature ℕ). InFeature q g);
        count = 0;
        sources = end;
        capped = capped_none;
        source = λ e. absurd (omega (arith, e));
        counts = record { features = refl; judged = end; unjudged = end };
      }
