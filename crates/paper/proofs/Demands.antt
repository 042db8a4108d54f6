-- Demands 1 and 2.
use Prim.Native.Nat.{ℕ, suc}
use native.Mathlib.Omega.{arith}
use mathlib.Core.Path.{◌≡◌, refl, sym, ap, subst}
use mathlib.Core.Bool.{Bool}
use mathlib.Core.Logic.{inl, inr}
use mathlib.Core.Option.{Option, none, some}
use mathlib.Core.List.{List, [], ◌∷◌}
use Rattle.paper.specs.Lists.{◌∈◌, gather, present}
use Rattle.paper.specs.Tree.{Text, Qualifier, Feature, Sequence, features_of, qualifiers_of, qualifier_texts, feature_texts}
use Rattle.paper.specs.Answers.{give, FindsSequence, FindsFeature, FindsQualifier, FindsLocation, FindsTranslation, FindsTranslations, Part, FeatureShown, no_part, part_of, value_part, SequenceSays, FeatureSays, QualifierSays, TranslationSays, TranslationsSays, NoSequence, NoFeature, NoQualifier, NothingWritten}
use Rattle.paper.specs.Index.{FindsIndex, IndexCheckSays, WithIndex}
use Rattle.paper.specs.Demands.{AnswerOrRefusal, InListing, StatedStretch, Demand1, Demand2, OfOneFeature, Request6}
use Rattle.paper.proofs.Lists.{in_second, in_gather, number_in}
use Rattle.paper.proofs.Refusals.{checked, own, sequence_refused, qualifier_refused, location_refused, translation_refused, translations_refused, index_refused, index_check_refused, lent_ends, refusal_some}
use Rattle.paper.proofs.Inside.{laid_out, accepted_inside}
use Rattle.paper.proofs.Shown.{parts_shown, residues_stated, feature_stated}

module _ {w : List ℕ} where
  sequence_ends : {k n p d : ℕ} {x : Part} → SequenceSays w k n p d x → AnswerOrRefusal n p (NoSequence d x)
  sequence_ends (SequenceSays.refused c) = inr (sequence_refused c, (refl, refl))
  sequence_ends (SequenceSays.found d c i) = inl (refl, refl)

  feature_ends : {k j n p : ℕ} {x : FeatureShown} {out after : List ℕ} → FeatureSays w k j out n p x after → AnswerOrRefusal n p (NoFeature x out after)
  feature_ends (FeatureSays.refused c) = inr (location_refused c, (refl, refl))
  feature_ends (FeatureSays.short c l) = inr (own 34 (omega arith) (omega arith), (refl, refl))
  feature_ends (FeatureSays.found c l) = inl (refl, refl)

  qualifier_ends : {k j i n p : ℕ} {x y : Part} {b : Bool} → QualifierSays w k j i n p x b y → AnswerOrRefusal n p (NoQualifier x b y)
  qualifier_ends (QualifierSays.refused c) = inr (qualifier_refused c, (refl, refl, refl))
  qualifier_ends (QualifierSays.found c) = inl (refl, refl)

  translation_ends : {k j n p z : ℕ} {out after : List ℕ} → TranslationSays w k j out n p z after → AnswerOrRefusal n p (NothingWritten z out after)
  translation_ends {k} {j} c = lent_ends c.outcome (λ m q e. translation_refused (subst (FindsTranslation w k j) e c.finds)) c.lent

  translations_ends : {k n p z : ℕ} {out after : List ℕ} → TranslationsSays w k out n p z after → AnswerOrRefusal n p (NothingWritten z out after)
  translations_ends {k} c = lent_ends c.outcome (λ m q e. translations_refused (subst (FindsTranslations w k) e c.finds)) c.lent

  index_check_ends : {x : List ℕ} {n p : ℕ} → IndexCheckSays w x n p → AnswerOrRefusal n p (Unit {0})
  index_check_ends (IndexCheckSays.refused c) = inr (index_check_refused c, tt)
  index_check_ends (IndexCheckSays.taken c) = inl (refl, refl)

  -- with an index: the checker's refusal, or as without
  with_index_ends : {x : List ℕ} {n p : ℕ} {nothing plain : Type 0} → (plain → AnswerOrRefusal n p nothing) → WithIndex w x n p nothing plain → AnswerOrRefusal n p nothing
  with_index_ends h (WithIndex.refused c z) = inr (index_check_refused c, z)
  with_index_ends h (WithIndex.taken c s) = h s

pub demand1 : Demand1
demand1 =
    record {
      check = λ w r c. checked c;
      sequence = λ w k n p d x c. sequence_ends c;
      feature = λ w k j n p x out after c. feature_ends c;
      qualifier = λ w k j i n p x y b c. qualifier_ends c;
      translation = λ w k j n p m out after c. translation_ends c;
      translations = λ w k n p m out after c. translations_ends c;
      index = λ w n p m out after c. lent_ends c.outcome (λ m q e. index_refused (subst (FindsIndex w) e c.finds)) c.lent;
      index_check = λ w x n p c. index_check_ends c;
      indexed_sequence = λ w x k n p d r. with_index_ends sequence_ends;
      indexed_feature = λ w x k j n p y out after. with_index_ends feature_ends;
      indexed_qualifier = λ w x k j i n p a v b. with_index_ends qualifier_ends;
      indexed_translation = λ w x k j n p z out after. with_index_ends translation_ends;
      indexed_translations = λ w x k n p z out after. with_index_ends translations_ends;
    }

-- ---- the texts of which parts are shown are texts of the listing

module _ {w : List ℕ} where
  found_inside : {k : ℕ} {s : Sequence ℕ} → FindsSequence w k (give s) → InListing w (part_of s.residues)
  found_inside {k} {s} (FindsSequence.sequence {l = l} c i u) = (residues_stated (laid_out c) s (number_in l.sequences k s i)).inside

  -- a text of a feature
  pub text_stated : {k j : ℕ} {s : Sequence ℕ} {f : Feature ℕ} → FindsFeature w k j (give (s, f)) → (t : Text ℕ) → t ∈ feature_texts f → StatedStretch w t
  text_stated {k} {j} {s} {f} (FindsFeature.feature (FindsSequence.sequence {l = l} c i u) n) =
      feature_stated (laid_out c) s (number_in l.sequences k s i) f (number_in (features_of s) j f n)

  qualifier_inside : {k j i : ℕ} {q : Qualifier ℕ} → FindsQualifier w k j i (give q) → (t : Text ℕ) → t ∈ qualifier_texts q → InListing w (part_of t)
  qualifier_inside {i = i} {q} (FindsQualifier.qualifier {f = f} c n) t m =
      (text_stated c t (in_second (f.key ∷ f.location ∷ []) (gather qualifier_texts (qualifiers_of f)) t (in_gather qualifier_texts (qualifiers_of f) q (number_in (qualifiers_of f) i q n) t m))).inside

  sequence_part : {k n p kind : ℕ} {x : Part} → SequenceSays w k n p kind x → InListing w x
  sequence_part (SequenceSays.refused c) = omega arith
  sequence_part (SequenceSays.found d c i) = found_inside c

  feature_parts : {k j n p : ℕ} {x : FeatureShown} {out after : List ℕ} → FeatureSays w k j out n p x after → InListing w x.key × InListing w x.location
  feature_parts (FeatureSays.refused c) = (omega arith, omega arith)
  feature_parts (FeatureSays.short c l) = (omega arith, omega arith)
  feature_parts (FeatureSays.found {f = f} (FindsLocation.location c h) l) = ((text_stated c f.key (0, refl)).inside, (text_stated c f.location (1, refl)).inside)

  qualifier_parts : {k j i n p : ℕ} {x y : Part} {b : Bool} → QualifierSays w k j i n p x b y → InListing w x × InListing w y
  qualifier_parts (QualifierSays.refused c) = (omega arith, omega arith)
  qualifier_parts (QualifierSays.found {q = q} c) = (qualifier_inside c q.name (0, refl), of_value q.value (λ t m. qualifier_inside c t (suc m.0, m.1)))
    where
      of_value : (o : Option (Text ℕ)) → ((t : Text ℕ) → t ∈ present o → InListing w (part_of t)) → InListing w (value_part o)
      of_value none h = omega arith
      of_value (some t) h = h t (0, refl)

  -- with an index: nothing, or as without
  with_index_part : {x : List ℕ} {n p : ℕ} {nothing plain A : Type 0} → (nothing → A) → (plain → A) → WithIndex w x n p nothing plain → A
  with_index_part f g (WithIndex.refused c z) = f z
  with_index_part f g (WithIndex.taken c s) = g s

none_inside : (w : List ℕ) {x : Part} → x ≡ no_part → InListing w x
none_inside w e = subst (InListing w) (sym e) (omega arith)

pub demand2 : Demand2
demand2 =
    record {
      parts = parts_shown;
      sequence = λ w k n p d x c. sequence_part c;
      feature = λ w k j n p x out after c. feature_parts c;
      qualifier = λ w k j i n p x y b c. qualifier_parts c;
      indexed_sequence = λ w x k n p d r. with_index_part (λ z. none_inside w z.1) sequence_part;
      indexed_feature =
          λ w x k j n p y out after.
          with_index_part (λ z. (none_inside w (ap (λ (u : FeatureShown). u.key) z.0), none_inside w (ap (λ (u : FeatureShown). u.location) z.0)))
          feature_parts;
      indexed_qualifier = λ w x k j i n p a v b. with_index_part (λ z. (none_inside w z.0, none_inside w z.2)) qualifier_parts;
      locations = λ w l c. accepted_inside c;
      total = λ w a c. c.2.totals;
    }

-- ---- request 6

of_one : {w : List ℕ} {k j : ℕ} {x : FeatureShown} {out after : List ℕ} {n p : ℕ} → n ≡ 0 → FeatureSays w k j out n p x after → OfOneFeature w k j out x after
of_one e (FeatureSays.refused c) = absurd (refusal_some (location_refused c) e)
of_one e (FeatureSays.short c l) = absurd (omega (arith, e))
of_one e (FeatureSays.found {f = f} {t = t} (FindsLocation.location {s = s} c h) l) =
    record {
      sequence = s;
      feature = f;
      location = t;
      asked = c;
      key_shown = (text_stated c f.key (0, refl)).holds;
      location_shown = (text_stated c f.location (1, refl)).holds;
      located = h;
      operator = refl;
      count = refl;
      written = refl;
    }

nothing_by : {n p m : ℕ} {nothing : Type 0} → n ≡ suc m → AnswerOrRefusal n p nothing → nothing
nothing_by e (inl z) = absurd (omega (arith, e, z.0))
nothing_by e (inr z) = z.1

pub request6 : Request6
request6 =
    record {
      one = λ w k j x out after c. of_one refl c;
      whole = λ w k j p x out after c. nothing_by {m = 33} refl (feature_ends c);
    }
