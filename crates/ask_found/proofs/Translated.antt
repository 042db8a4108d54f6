-- The translations of a feature or a sequence that was found.
use Prim.Native.Nat.{ℕ}
use native.Mathlib.Omega.{arith}
use mathlib.Core.Path.{◌≡◌, sym, subst}
use mathlib.Core.List.{List, []}
use Rattle.std.specs.Prelude.{Ok, Err}
use Rattle.paper.specs.Tree.{Sequence, Feature, features_of}
use Rattle.paper.specs.Answers.{Outcome, refuse, give, FindsSequence, FindsFeature, Lines, Lent, TranslationSays, TranslationsSays}
use Rattle.paper.specs.Answers as paper
use Rattle.paper.proofs.Refusals as refusals
use Rattle.walk_items.specs.declared.FoundFeature.{FoundFeature}
use Rattle.judge_faults.specs.declared.Known.{Known}
use Rattle.ask_answers.specs.Stretches.{LentAnswer}
use Rattle.ask_answers.specs.Given.{LentGivenBy}
use Rattle.ask_translation.specs.Ones.{TranslatesOne}
use Rattle.ask_translations.specs.Lines.{TranslatesAll}
use Rattle.ask_found.specs.Answers.{AnswersTranslation, AnswersTranslations}
use Rattle.ask_found.proofs.Accepted.{accepts, keeps_feature, feature_keeps}

module _ {w : List ℕ} {k : ℕ} {out : List ℕ} {n p : ℕ} where
  pub translation_refused : {j : ℕ} → FindsFeature w k j (refuse n p) → (¬ (n ≡ 0)) × TranslationSays w k j out n p 0 out
  translation_refused h =
      (refusals.refusal_some (refusals.feature_refused h), record { outcome = refuse n p; finds = paper.earlier h; lent = paper.refused })

  pub translations_refused : FindsSequence w k (refuse n p) → (¬ (n ≡ 0)) × TranslationsSays w k out n p 0 out
  translations_refused h =
      (refusals.refusal_some (refusals.sequence_refused h), record { outcome = refuse n p; finds = paper.earlier h; lent = paper.refused })

-- what is lent of an outcome is what the paper says of the call that has it
lent_says : {out after : List ℕ} (Says : ℕ → ℕ → ℕ → List ℕ → Type 0) (o : Outcome (List ℕ)) (r : LentAnswer) → LentGivenBy (Lent out o) r after
    → ((n p z : ℕ) → Lent out o n p z after → Says n p z after) → LentGivenBy Says r after
lent_says Says o (Ok n) l f = f 0 0 n l
lent_says Says o (Err q) l f = (l.0, f q.rule q.place 0 l.1)

-- no feature, and no line
pub translations_none : {w : List ℕ} {k : ℕ} {out : List ℕ} {q : Sequence ℕ} → FindsSequence w k (give q) → features_of q ≡ [] → TranslationsSays w k out 0 0 0 out
translations_none {q = q} h e =
    record {
      outcome = give [];
      finds = paper.translations h (subst (λ (l : List (Feature ℕ)). Lines q l []) (sym e) Lines.end);
      lent = Lent.written {x = []} (omega arith);
    }

module _ {w : List ℕ} {known : Known} {g : FoundFeature} {out : List ℕ} {r : LentAnswer} {after : List ℕ} where
  pub translation_found : TranslatesOne w known g out r after
      → AnswersTranslation w known g out r after
  translation_found t =
      record {
        says =
            λ k j q f e finds knows is.
            let y = t.says q f e knows is (feature_keeps finds) in
            lent_says (TranslationSays w k j out) y.outcome r (subst (LentGivenBy (Lent out y.outcome) r) (sym y.laid.is) y.laid.lent)
            (λ n p z l. record { outcome = y.outcome; finds = paper.feature finds y.translates; lent = l });
      }

  pub translations_found : TranslatesAll w known g out r after
      → AnswersTranslations w known g out r after
  translations_found t =
      record {
        says =
            λ k q finds knows first.
            let y = t.says q knows first (keeps_feature (accepts finds)) in
            lent_says (TranslationsSays w k out) (give y.lines) r y.lent
            (λ n p z l. record { outcome = give y.lines; finds = paper.translations finds y.are; lent = l });
      }
