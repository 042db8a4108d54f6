-- The answers with an index: the checker's refusal, or what the plain lookup says of the item that the index found.
use Prim.Native.Nat.{ℕ, zero, suc}
use native.Mathlib.Omega.{arith}
use mathlib.Core.Path.{◌≡◌, refl, sym, ap, subst}
use mathlib.Core.Bool.{false}
use mathlib.Core.List.{List, [], ◌∷◌}
use Rattle.std.specs.Prelude.{Option, Some, None, Result, Ok, Err}
use Rattle.paper.specs.declared.Refused.{Refused}
use Rattle.paper.specs.Lists.{Numbered}
use Rattle.paper.specs.Tree.{Feature, Listing, features_of}
use Rattle.paper.specs.Answers.{refuse, give, no_part, nothing_shown, NothingWritten, TranslationSays, TranslationsSays}
use Rattle.paper.specs.Answers as paper
use Rattle.paper.specs.Index.{ChecksIndex, WithIndex, IndexedSequenceSays, IndexedFeatureSays, IndexedQualifierSays, IndexedTranslationSays, IndexedTranslationsSays}
use Rattle.paper.specs.Demands.{Refusal}
use Rattle.paper.proofs.Refusals as refusals
use Rattle.walk_items.specs.Items.{FeatureFrom}
use Rattle.walk_items.specs.declared.FoundFeature.{FoundFeature}
use Rattle.walk_items.specs.declared.FoundQualifier.{FoundQualifier}
use Rattle.walk_items.proofs.Inner.{front_stands, first_is}
use Rattle.walk_seek.specs.Within.{QualifierIn, QualifierFound}
use Rattle.judge_faults.specs.declared.Known.{Known}
use Rattle.index_find.specs.Finds.{EntryFound}
use Rattle.index_find.specs.declared.Body.{Body}
use Rattle.index_find.specs.declared.Entry.{Entry}
use Rattle.ask_answers.specs.Stretches.{FeatureAnswer, LentAnswer}
use Rattle.ask_answers.specs.Given.{LentGivenBy, FeatureGiven, IndexedSequenceGiven, IndexedFeatureGiven, IndexedQualifierGiven, IndexedTranslationGiven, IndexedTranslationsGiven}
use Rattle.ask_answers.specs.declared.SequenceShown.{SequenceShown}
use Rattle.ask_answers.specs.declared.QualifierShown.{QualifierShown}
use Rattle.ask_index.specs.Takes.{IndexOf}
use Rattle.ask_found.specs.Answers as answers
use Rattle.ask_found.proofs.Translated.{translations_none}
use Rattle.ask_indexed.specs.Finds.{Refuses, checker, later, SequenceRefused, FeatureRefused, BodyHere, EntryHere}
use Rattle.ask_indexed.proofs.Found.{feature_given, residues_part, body_stands, key_part, location_part, feature_there, feature_is}
use Rattle.ask_indexed.proofs.Known.{body_kind, body_knows}

-- ---- refusals

takes : {w x : List ℕ} (i : IndexOf w x) → ChecksIndex w x (give i.listing)
takes i = ChecksIndex.belongs i.accepted i.is

refused_by : {w x : List ℕ} {n p : ℕ} {Later : ℕ → ℕ → Type 0} {nothing plain : Type 0} → Refuses w x Later n p → nothing → (Later n p → plain)
    → WithIndex w x n p nothing plain
refused_by (checker c) z f = WithIndex.refused c z
refused_by (later i h) z f = WithIndex.taken (takes i) (f h)

-- the number of a refusal isn't 0
refused_some : {w x : List ℕ} {n p : ℕ} {Later : ℕ → ℕ → Type 0} → Refuses w x Later n p → (Later n p → Refusal n p) → ¬ (n ≡ 0)
refused_some (checker c) f = refusals.refusal_some (refusals.index_check_refused c)
refused_some (later i h) f = refusals.refusal_some (f h)

module _ {w x : List ℕ} {k n p : ℕ} where
  module _ (h : Refuses w x (SequenceRefused w k) n p) where
    pub sequence_refused : (¬ (n ≡ 0)) × IndexedSequenceSays w x k n p 0 no_part
    sequence_refused = (refused_some h refusals.sequence_refused, refused_by h (refl, refl) paper.refused)

    pub translations_refused : {out : List ℕ} → (¬ (n ≡ 0)) × IndexedTranslationsSays w x k out n p 0 out
    translations_refused = (
      refused_some h refusals.sequence_refused,
      refused_by h (refl, refl) (λ f. record { outcome = refuse n p; finds = paper.earlier f; lent = paper.refused }),
    )

  module _ {j : ℕ} (h : Refuses w x (FeatureRefused w k j) n p) where
    pub feature_refused : {out : List ℕ} → (¬ (n ≡ 0)) × IndexedFeatureSays w x k j out n p nothing_shown out
    feature_refused = (refused_some h refusals.feature_refused, refused_by h (refl, refl) (λ f. paper.refused (paper.earlier f)))

    pub qualifier_refused : {i : ℕ} → (¬ (n ≡ 0)) × IndexedQualifierSays w x k j i n p no_part false no_part
    qualifier_refused = (refused_some h refusals.feature_refused, refused_by h (refl, refl, refl) (λ f. paper.refused (paper.earlier f)))

    pub translation_refused : {out : List ℕ} → (¬ (n ≡ 0)) × IndexedTranslationSays w x k j out n p 0 out
    translation_refused = (
      refused_some h refusals.feature_refused,
      refused_by h (refl, refl) (λ f. record { outcome = refuse n p; finds = paper.earlier f; lent = paper.refused }),
    )

-- ---- found

-- what the plain call says of lent bytes
lent_taken : {w x : List ℕ} {l : Listing ℕ} (out after : List ℕ) (Says : ℕ → ℕ → ℕ → List ℕ → Type 0) → ChecksIndex w x (give l) → (r : LentAnswer)
    → LentGivenBy Says r after → LentGivenBy (λ n p z after. WithIndex w x n p (NothingWritten z out after) (Says n p z after)) r after
lent_taken out after Says c (Ok n) h = WithIndex.taken c h
lent_taken out after Says c (Err r) h = (h.0, WithIndex.taken c h.1)

module _ {w x : List ℕ} {k : ℕ} {b : Body} (i : BodyHere w x k b) where
  pub sequence_answered : {r : SequenceShown} → answers.AnswersSequence b.kind b.residues r → IndexedSequenceGiven w x k (Ok r)
  sequence_answered a =
      let y = a.says w k i.asked i.finds (body_kind i) (residues_part i) in
      (WithIndex.taken (takes i.index) y.0, y.1)

  module _ {e : Option Entry} (f : EntryFound x b 1 e) where
    -- it has no features
    pub no_lines : {out : List ℕ} → e ≡ None → IndexedTranslationsSays w x k out 0 0 0 out
    no_lines z =
        WithIndex.taken (takes i.index) (translations_none i.finds (none_of (features_of i.asked) ((subst (EntryFound x b 1) z f).says i.asked i.is)))
      where
        none_of : (l : List (Feature ℕ)) → ((g : Feature ℕ) → ¬ Numbered l 1 g) → l ≡ []
        none_of [] h = refl
        none_of (g ∷ l) h = absurd (h g (0, refl, refl))

    -- from the first of them on
    pub translations_answered : {y : Entry} {known : Known} {g : FoundFeature} {out after : List ℕ} {r : LentAnswer} → e ≡ Some y → answers.KnowsFound b.kind b.residues known
        → FeatureFrom w y.key y.location g → answers.AnswersTranslations w known g out r after
        → IndexedTranslationsGiven w x k out r after
    translations_answered {y = e'} {out = out} {after} {r} z h from a =
        let y = (subst (EntryFound x b 1) z f).says i.asked i.is in
        let j : EntryHere w x k 1 b e' = record { body = i; asked = y.0; numbered = y.1; key = y.2; location = y.3 } in
        let t = tail (features_of i.asked) j.asked j.numbered in
        let s = front_stands i.asked (body_stands i).stands t.1 in
        let u = s.1 in
        let g = feature_is j from (record { at = s.0; end = u.next; stands = u.stands; follows = u.follows }) in
        lent_taken out after (TranslationsSays w k out) (takes i.index) r (a.says k i.asked i.finds (body_knows i h) (first_is t.1 u g))
      where
        tail : (l : List (Feature ℕ)) (g : Feature ℕ) → Numbered l 1 g → (m : List (Feature ℕ)) × (l ≡ g ∷ m)
        tail [] g (n, e, h) = absurd h
        tail (c ∷ l) g (zero, e, h) = (l, ap (λ (d : Feature ℕ). d ∷ l) (sym h))
        tail (c ∷ l) g (suc n, e, h) = absurd (omega (arith, e))

module _ {w x : List ℕ} {k j : ℕ} {b : Body} {e : Entry} (y : EntryHere w x k j b e) where
  here : ChecksIndex w x (give y.body.index.listing)
  here = takes y.body.index

  pub feature_answered : {out after : List ℕ} {r : FeatureAnswer} → answers.AnswersFeature w b.residues e.key e.location out r after
      → IndexedFeatureGiven w x k j out r after
  feature_answered {out} {after} {r} a =
      taken_of r (a.says k j y.body.asked y.asked (feature_given y) (residues_part y.body) (key_part y) (location_part y))
    where
      taken_of : (r : FeatureAnswer) → FeatureGiven w k j out r after → IndexedFeatureGiven w x k j out r after
      taken_of (Ok s) z = (WithIndex.taken here z.0, z.1)
      taken_of (Err q) z = (z.0, WithIndex.taken here z.1)

  module _ {g : FoundFeature} (from : FeatureFrom w e.key e.location g) where
    pub translation_answered : {known : Known} {out after : List ℕ} {r : LentAnswer} → answers.KnowsFound b.kind b.residues known → answers.AnswersTranslation w known g out r after
        → IndexedTranslationGiven w x k j out r after
    translation_answered {out = out} {after} {r} h a =
        let s = feature_there y in
        lent_taken out after (TranslationSays w k j out) here r (a.says k j y.body.asked y.asked s.end (feature_given y) (body_knows y.body h) (feature_is y from s))

    module _ {i : ℕ} {q : Result FoundQualifier Refused} (f : QualifierFound w g i q) where
      qualifier_here : {z : Result FoundQualifier Refused} → q ≡ z → QualifierIn w y.asked i z
      qualifier_here z = subst (QualifierIn w y.asked i) z (f.says y.asked (feature_there y).end (feature_is y from (feature_there y)))

      -- 33
      pub qualifier_missing : {r : Refused} → q ≡ Err r → IndexedQualifierGiven w x k j i (Err r)
      qualifier_missing z =
          let m = qualifier_here z in
          rw (m.0, m.1) (omega arith, WithIndex.taken here (paper.refused (paper.no_qualifier (feature_given y) m.2)))

      pub qualifier_answered : {c : FoundQualifier} {r : QualifierShown} → q ≡ Ok c → answers.AnswersQualifier c r → IndexedQualifierGiven w x k j i (Ok r)
      qualifier_answered z a =
          let m = qualifier_here z in
          let u = a.says w k j i m.asked m.end (paper.qualifier (feature_given y) m.numbered) m.is in
          (WithIndex.taken here u.0, u.1)
