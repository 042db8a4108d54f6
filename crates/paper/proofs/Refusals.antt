-- Whatever is refused is refused with one of document 01's numbers, and with the place that it gives.
use Prim.Native.Nat.{ℕ, ◌≤◌}
use native.Mathlib.Omega.{arith}
use mathlib.Core.Path.{◌≡◌, refl}
use mathlib.Core.Logic.{◌⊎◌, inl, inr}
use mathlib.Core.List.{List}
use Rattle.paper.specs.Tree.{Sequence, Feature, Listing}
use Rattle.paper.specs.Rules.{Broken, header, rule_14, sequence, InHeader, ResiduesBy, TextsBy, InTexts, InSource, InLocation, InCoding, InVocabulary, InFeature, InTable, SequenceBy, InSequence}
use Rattle.paper.specs.Answers.{Outcome, refuse, give, Checked, FindsSequence, FindsFeature, FindsQualifier, FindsLocation, FindsTranslation, FindsTranslations, Translates, Lent}
use Rattle.paper.specs.Index.{FindsIndex, ChecksIndex}
use Rattle.paper.specs.Demands.{Refusal, AnswerOrRefusal}

-- the number of a rule on values
abbrev Ruled : ℕ → Type 0
Ruled n = ((10 ≤ n) × (n ≤ 29)) ⊎ ((40 ≤ n) × (n ≤ 42))

in_values : (n : ℕ) → 10 ≤ n → n ≤ 29 → Ruled n
in_values n h k = inl (h, k)

in_words : (n : ℕ) → 40 ≤ n → n ≤ 42 → Ruled n
in_words n h k = inr (h, k)

of_value : (n : ℕ) → 10 ≤ n → n ≤ 29 → {p : ℕ} → Refusal n p
of_value n h k = Refusal.value h k

of_words : (n : ℕ) → 40 ≤ n → n ≤ 42 → {p : ℕ} → Refusal n p
of_words n h k = Refusal.vocabulary h k

ruled : {n p : ℕ} → Ruled n → Refusal n p
ruled {n} (inl (h, k)) = of_value n h k
ruled {n} (inr (h, k)) = of_words n h k

-- the value rules
broken_ruled : {l : Listing ℕ} {n p : ℕ} → Broken l n p → Ruled n
broken_ruled (header h) = in_header h
  where
    in_header : {l : Listing ℕ} {n p : ℕ} → InHeader l n p → Ruled n
    in_header (InHeader.rule_10 h) = in_values 10 (omega arith) (omega arith)
    in_header (InHeader.rule_11 t i h) = in_values 11 (omega arith) (omega arith)
    in_header (InHeader.rule_12 t i h) = in_values 12 (omega arith) (omega arith)
    in_header (InHeader.rule_13 t i h) = in_values 13 (omega arith) (omega arith)
broken_ruled (rule_14 h) = in_values 14 (omega arith) (omega arith)
broken_ruled (sequence k q i h) = in_sequence h
  where
    in_texts : {q : Sequence ℕ} {n p : ℕ} → InTexts q n p → Ruled n
    in_texts (TextsBy.rule_16 h) = in_values 16 (omega arith) (omega arith)
    in_texts (TextsBy.rule_17 h) = in_values 17 (omega arith) (omega arith)
    in_texts (TextsBy.residues (ResiduesBy.rule_18 k i h)) = in_values 18 (omega arith) (omega arith)
    in_texts (TextsBy.residues (ResiduesBy.rule_19 k i m c h)) = in_values 19 (omega arith) (omega arith)
    in_texts (TextsBy.rule_20 h) = in_values 20 (omega arith) (omega arith)

    in_feature : {q : Sequence ℕ} {f : Feature ℕ} {n p : ℕ} → InFeature q f n p → Ruled n
    in_feature (inl (InLocation.rule_24 h)) = in_values 24 (omega arith) (omega arith)
    in_feature (inl (InLocation.rule_25 t x h)) = in_values 25 (omega arith) (omega arith)
    in_feature (inl (InLocation.rule_26 a t x h)) = in_values 26 (omega arith) (omega arith)
    in_feature (inr (inl (InCoding.rule_27 c h))) = in_values 27 (omega arith) (omega arith)
    in_feature (inr (inl (InCoding.rule_28 x j y i t h))) = in_values 28 (omega arith) (omega arith)
    in_feature (inr (inr (InVocabulary.rule_40 k i h))) = in_words 40 (omega arith) (omega arith)
    in_feature (inr (inr (InVocabulary.rule_41 k i r o q m h))) = in_words 41 (omega arith) (omega arith)
    in_feature (inr (inr (InVocabulary.rule_42 k i r o w m h))) = in_words 42 (omega arith) (omega arith)

    in_table : {q : Sequence ℕ} {n p : ℕ} → InTable q n p → Ruled n
    in_table (InTable.rule_21 k i h) = in_values 21 (omega arith) (omega arith)
    in_table (InTable.source k i f s (InSource.rule_22 h)) = in_values 22 (omega arith) (omega arith)
    in_table (InTable.source k i f s (InSource.rule_23 h)) = in_values 23 (omega arith) (omega arith)
    in_table (InTable.feature f m h) = in_feature h

    in_sequence : {k : ℕ} {q : Sequence ℕ} {n p : ℕ} → InSequence k q n p → Ruled n
    in_sequence (SequenceBy.rule_15 h) = in_values 15 (omega arith) (omega arith)
    in_sequence (SequenceBy.texts u h) = in_texts h
    in_sequence (SequenceBy.table u h) = in_table h
    in_sequence (SequenceBy.rule_29 u h) = in_values 29 (omega arith) (omega arith)

broken_value : {l : Listing ℕ} {n p : ℕ} → Broken l n p → Refusal n p
broken_value h = ruled (broken_ruled h)

pub checked : {w : List ℕ} {n p : ℕ} → Checked w (refuse n p) → Refusal n p
checked (Checked.too_long h) = Refusal.too_long
checked (Checked.strays h s) = Refusal.not_laid_out
checked (Checked.breaks l h d f) = broken_value f.broken

-- one of the lookups' own
pub own : (n : ℕ) → 30 ≤ n → n ≤ 37 → Refusal n 0
own n h k = Refusal.lookup h k

-- ---- what is found

pub sequence_refused : {w : List ℕ} {k n p : ℕ} → FindsSequence w k (refuse n p) → Refusal n p
sequence_refused (FindsSequence.own c) = checked c
sequence_refused (FindsSequence.no_sequence c h) = own 30 (omega arith) (omega arith)
sequence_refused (FindsSequence.skipped s c i h) = own 31 (omega arith) (omega arith)

pub feature_refused : {w : List ℕ} {k j n p : ℕ} → FindsFeature w k j (refuse n p) → Refusal n p
feature_refused (FindsFeature.earlier c) = sequence_refused c
feature_refused (FindsFeature.no_feature c h) = own 32 (omega arith) (omega arith)

pub qualifier_refused : {w : List ℕ} {k j i n p : ℕ} → FindsQualifier w k j i (refuse n p) → Refusal n p
qualifier_refused (FindsQualifier.earlier c) = feature_refused c
qualifier_refused (FindsQualifier.no_qualifier c h) = own 33 (omega arith) (omega arith)

pub location_refused : {w : List ℕ} {k j n p : ℕ} → FindsLocation w k j (refuse n p) → Refusal n p
location_refused (FindsLocation.earlier c) = feature_refused c

translates_refused : {s : Sequence ℕ} {f : Feature ℕ} {n p : ℕ} → Translates s f (refuse n p) → Refusal n p
translates_refused (Translates.no_cds h) = own 35 (omega arith) (omega arith)
translates_refused (Translates.unjudged c h) = own 36 (omega arith) (omega arith)
translates_refused (Translates.stop_inside j h) = own 37 (omega arith) (omega arith)

pub translation_refused : {w : List ℕ} {k j n p : ℕ} → FindsTranslation w k j (refuse n p) → Refusal n p
translation_refused (FindsTranslation.earlier c) = feature_refused c
translation_refused (FindsTranslation.feature c t) = translates_refused t

pub translations_refused : {w : List ℕ} {k n p : ℕ} → FindsTranslations w k (refuse n p) → Refusal n p
translations_refused (FindsTranslations.earlier c) = sequence_refused c

pub index_refused : {w : List ℕ} {n p : ℕ} → FindsIndex w (refuse n p) → Refusal n p
index_refused (FindsIndex.own c) = checked c

pub index_check_refused : {w x : List ℕ} {n p : ℕ} → ChecksIndex w x (refuse n p) → Refusal n p
index_check_refused (ChecksIndex.own c) = checked c
index_check_refused (ChecksIndex.differs c h) = Refusal.index_differs

-- ---- what is answered

pub lent_ends : {out : List ℕ} {n p size : ℕ} {after : List ℕ} (o : Outcome (List ℕ)) → ((m q : ℕ) → o ≡ refuse m q → Refusal m q) → Lent out o n p size after
    → AnswerOrRefusal n p ((size ≡ 0) × (after ≡ out))
lent_ends (refuse n p) h Lent.refused = inr (h n p refl, (refl, refl))
lent_ends (give x) h (Lent.short l) = inr (own 34 (omega arith) (omega arith), (refl, refl))
lent_ends (give x) h (Lent.written l) = inl (refl, refl)

-- none has the number of an answer
pub refusal_some : {n p : ℕ} → Refusal n p → ¬ (n ≡ 0)
refusal_some Refusal.too_long e = omega (arith, e)
refusal_some Refusal.not_laid_out e = omega (arith, e)
refusal_some (Refusal.value h k) e = omega (arith, h, e)
refusal_some (Refusal.vocabulary h k) e = omega (arith, h, e)
refusal_some (Refusal.lookup h k) e = omega (arith, h, e)
refusal_some Refusal.index_differs e = omega (arith, e)

-- none has three digits
pub refusal_most : {n p : ℕ} → Refusal n p → n ≤ 99
refusal_most Refusal.too_long = omega arith
refusal_most Refusal.not_laid_out = omega arith
refusal_most (Refusal.value h k) = omega (arith, k)
refusal_most (Refusal.vocabulary h k) = omega (arith, k)
refusal_most (Refusal.lookup h k) = omega (arith, k)
refusal_most Refusal.index_differs = omega arith

pub ends_most : {n p : ℕ} {A : Type 0} → AnswerOrRefusal n p A → n ≤ 99
ends_most (inl e) = omega (arith, e.0)
ends_most (inr r) = refusal_most r.0

-- ---- none of these is for want of room

checked_other : {w : List ℕ} {n p : ℕ} → Checked w (refuse n p) → ¬ (n ≡ 34)
checked_other (Checked.too_long h) e = omega (arith, e)
checked_other (Checked.strays h s) e = omega (arith, e)
checked_other (Checked.breaks {n = n} l h d f) e = go (broken_ruled f.broken)
  where
    go : Ruled n → ⊥
    go (inl (h, k)) = omega (arith, h, k, e)
    go (inr (h, k)) = omega (arith, h, k, e)

sequence_other : {w : List ℕ} {k n p : ℕ} → FindsSequence w k (refuse n p) → ¬ (n ≡ 34)
sequence_other (FindsSequence.own c) e = checked_other c e
sequence_other (FindsSequence.no_sequence c h) e = omega (arith, e)
sequence_other (FindsSequence.skipped s c i h) e = omega (arith, e)

feature_other : {w : List ℕ} {k j n p : ℕ} → FindsFeature w k j (refuse n p) → ¬ (n ≡ 34)
feature_other (FindsFeature.earlier c) e = sequence_other c e
feature_other (FindsFeature.no_feature c h) e = omega (arith, e)

pub location_other : {w : List ℕ} {k j n p : ℕ} → FindsLocation w k j (refuse n p) → ¬ (n ≡ 34)
location_other (FindsLocation.earlier c) e = feature_other c e

translates_other : {s : Sequence ℕ} {f : Feature ℕ} {n p : ℕ} → Translates s f (refuse n p) → ¬ (n ≡ 34)
translates_other (Translates.no_cds h) e = omega (arith, e)
translates_other (Translates.unjudged c h) e = omega (arith, e)
translates_other (Translates.stop_inside j h) e = omega (arith, e)

pub translation_other : {w : List ℕ} {k j n p : ℕ} → FindsTranslation w k j (refuse n p) → ¬ (n ≡ 34)
translation_other (FindsTranslation.earlier c) e = feature_other c e
translation_other (FindsTranslation.feature c t) e = translates_other t e

pub translations_other : {w : List ℕ} {k n p : ℕ} → FindsTranslations w k (refuse n p) → ¬ (n ≡ 34)
translations_other (FindsTranslations.earlier c) e = sequence_other c e

pub index_check_other : {w x : List ℕ} {n p : ℕ} → ChecksIndex w x (refuse n p) → ¬ (n ≡ 34)
index_check_other (ChecksIndex.own c) e = checked_other c e
index_check_other (ChecksIndex.differs c h) e = omega (arith, e)
